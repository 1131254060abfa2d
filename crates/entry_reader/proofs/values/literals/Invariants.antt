use Rattle.std.proofs.Common.{◌≡◌, ◌++◌, drop}
use Rattle.std.specs.Prelude.{map}
use Rattle.entry_reader.specs.Values.{literal_of}
use Rattle.entry_reader.proofs.values.literals.Given as goal

abbrev pub invariant-loop-piece : goal.invariant-loop-piece
invariant-loop-piece l = l.found.items ++ map literal_of (drop l.piece-index l.pieces) ≡ map literal_of l.pieces
