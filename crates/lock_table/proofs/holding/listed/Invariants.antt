use Rattle.std.proofs.Common.{◌≡◌, take}
use Rattle.lock_table.specs.Counts.{locks_of}
use Rattle.lock_table.proofs.holding.listed.Given as goal

abbrev pub invariant-loop-key : goal.invariant-loop-key
invariant-loop-key l = l.listed.items ≡ locks_of (take l.key-index l.rows)
