use Rattle.std.proofs.Common.{sym, ◌∙◌}
use Rattle.local_tables.proofs.ListLaws.{list_all_fails}
use Rattle.local_tables.specs.Checks.{is_once, name_of}
use Rattle.local_tables.proofs.checking.each_once.Goals as goal

pub returns-then-not-is_once : goal.returns-then-not-is_once
returns-then-not-is_once c =
    list_all_fails (is_once c.args.names.now) name_of c.args.columns.now _ _ _ c.loop-column-test.true c.column-item.is c.loop-column.invariant (sym c.if-not-is_once.true ∙ c.is_once.ensures)
