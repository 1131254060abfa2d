use Rattle.std.proofs.Common.{◌≡◌, ◌+◌, drop}
use Rattle.entry_reader.specs.Parts.{numbered_from}
use Rattle.entry_reader.proofs.places.number_in.Given as goal

abbrev pub invariant-loop-name : goal.invariant-loop-name
invariant-loop-name l = record {
  found : numbered_from l.number (drop l.name-index l.names) l.wanted ≡ numbered_from 1 l.names l.wanted;
  number : l.number ≡ l.name-index + 1;
}
