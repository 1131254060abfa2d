use Rattle.std.proofs.Common.{◌≡◌}
use Rattle.sql_reader.specs.Canonical.{condition_pieces, written}
use Rattle.sql_reader.specs.Pending.{stacked, turns}
use Rattle.sql_reader.proofs.writing.condition.Given as goal

abbrev pub invariant-loop-task : goal.invariant-loop-task
invariant-loop-task l = written l.writer (stacked l.tasks.items) ≡ written l.fn.writer (condition_pieces l.fn.cond)

abbrev pub decreases-loop-task : goal.decreases-loop-task
decreases-loop-task l = turns l.tasks.items
