use Rattle.std.proofs.Common.{◌≡◌, ◌++◌, [], drop}
use Rattle.entry_reader.specs.Values.{locks_from}
use Rattle.entry_reader.proofs.values.listed_locks.Given as goal

abbrev pub invariant-loop-piece : goal.invariant-loop-piece
invariant-loop-piece l = l.found.items ++ locks_from l.resource l.table (drop l.piece-index l.pieces) ≡ locks_from l.resource [] l.pieces
