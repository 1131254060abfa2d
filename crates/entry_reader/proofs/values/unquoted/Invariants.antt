use Rattle.std.proofs.Common.{◌≡◌, ◌++◌, false, drop}
use Rattle.entry_reader.specs.Parts.{unquoted}
use Rattle.entry_reader.proofs.values.unquoted.Given as goal

abbrev pub invariant-loop-byte : goal.invariant-loop-byte
invariant-loop-byte l = l.found.items ++ unquoted l.is_second (drop l.byte-index l.text) ≡ unquoted false l.text
