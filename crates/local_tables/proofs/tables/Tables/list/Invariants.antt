use Rattle.std.proofs.Common.{◌≡◌, ◌++◌}
use Rattle.local_tables.proofs.tables.Tables.list.Given as goal

abbrev pub invariant-loop-key : goal.invariant-loop-key
invariant-loop-key l = l.all.items ++ l.key-iterator ≡ l.fn.self.rows
