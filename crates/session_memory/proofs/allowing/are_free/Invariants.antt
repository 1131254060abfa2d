use Rattle.std.proofs.Common.{◌≡◌, drop}
use Rattle.lock_table.specs.Locks.{first_held}
use Rattle.session_memory.proofs.allowing.are_free.Given as goal

abbrev pub invariant-loop-key : goal.invariant-loop-key
invariant-loop-key g l = first_held l.locks l.xid (drop l.key-index l.rows) ≡ first_held l.locks l.xid l.rows
