use Rattle.std.proofs.Common.{◌≡◌, drop, Ok}
use Rattle.local_tables.specs.Calls.{nothing, steps}
use Rattle.local_tables.specs.Sound.{AreChangesOf}
use Rattle.local_tables.proofs.tables.Tables.run.Given as goal

abbrev pub invariant-loop-i : goal.invariant-loop-i
invariant-loop-i l = record {
  so_far : steps l.self l.i (Ok l.call) (drop l.i l.stmts) ≡ steps l.self 0 (Ok nothing) l.stmts;
  changes : AreChangesOf l.self.resource l.self.schema l.call.changes;
}
