use Rattle.std.proofs.Common.{◌≡◌, ◌++◌}
use Rattle.local_tables.proofs.matching.listed.Given as goal

abbrev pub invariant-loop-key : goal.invariant-loop-key
invariant-loop-key l = l.list.items ++ l.key-iterator ≡ l.fn.rows.entries
