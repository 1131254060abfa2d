use Rattle.std.proofs.Common.{◌≡◌, ◌++◌, drop}
use Rattle.std.specs.Prelude.{map}
use Rattle.entry_reader.specs.Values.{cell_of}
use Rattle.entry_reader.proofs.values.cells.Given as goal

abbrev pub invariant-loop-piece : goal.invariant-loop-piece
invariant-loop-piece l = l.found.items ++ map cell_of (drop l.piece-index l.pieces) ≡ map cell_of l.pieces
