use Rattle.std.proofs.Common.{◌≡◌, ◌++◌, take}
use Rattle.lock_table.proofs.holding.push_copies.Given as goal

abbrev pub invariant-loop-key : goal.invariant-loop-key
invariant-loop-key l = l.out.items ≡ l.initial.out.items ++ take l.key-index l.keys
