use Rattle.std.proofs.Common.{◌≡◌, ◌≤◌, ◌++◌, length, take}
use Rattle.seata_types.specs.declared.limits.TheConstants.{BODY_BYTES}
use Rattle.base_records.specs.Pieces.{records_of}
use Rattle.base_disk.specs.Marks.{left_of}
use Rattle.base_disk.proofs.keeping.behind.Given as goal

-- the first ones are those of the text, up to the mark
abbrev pub invariant-loop-record : goal.invariant-loop-record
invariant-loop-record l =
    (l.mark.at ≤ length l.text) × (records_of BODY_BYTES l.text ≡ take l.record-index l.records ++ left_of l.text l.mark)
