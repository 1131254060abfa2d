use Rattle.std.proofs.Common.{◌≤◌, length}
use Rattle.base_disk.specs.Marks.{left_of}
use Rattle.base_disk.proofs.Adding.{IsAdding}
use Rattle.base_disk.proofs.keeping.add_all.Given as goal

-- the records of the text were added up to the mark
abbrev pub invariant-records : goal.invariant-records
invariant-records g l = (l.mark.at ≤ length l.text) × IsAdding g.D.Disk.state l.text l.initial.mark l.initial.journal l.mark l.journal

-- those that are left
abbrev pub decreases-records : goal.decreases-records
decreases-records g l = length (left_of l.text l.mark)
