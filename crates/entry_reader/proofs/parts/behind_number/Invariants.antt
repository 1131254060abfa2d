use Rattle.std.proofs.Common.{◌≡◌, length}
use Rattle.entry_reader.specs.Parts.{behind_number}
use Rattle.entry_reader.proofs.parts.behind_number.Given as goal

abbrev pub invariant-loop-rest : goal.invariant-loop-rest
invariant-loop-rest l = behind_number l.rest ≡ behind_number l.text

abbrev pub decreases-loop-rest : goal.decreases-loop-rest
decreases-loop-rest l = length l.rest
