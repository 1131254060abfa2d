use Rattle.std.proofs.Common.{◌≡◌, ◌+◌, ◌*◌, ◌^◌, ◌<◌, ◌≤◌, ℕ, drop, length}
use Rattle.lock_table.specs.Locks.{first_locked}
use Rattle.lock_table.specs.Counts.{locks_of}
use Rattle.lock_table.proofs.holding.conflict.Given as goal

abbrev pub invariant-loop-key : goal.invariant-loop-key
invariant-loop-key g l = record {
  rest : first_locked (locks_of l.rows) l.xid (drop l.key-index l.keys) ≡ first_locked (locks_of l.rows) l.xid l.keys;
  cost : (d : ℕ) → length l.rows < 2 ^ d → g.C.Count.count l.steps ≤ g.C.Count.count l.initial.steps + l.key-index * d;
}
