use Rattle.std.proofs.Common.{map, sym, ◌∙◌}
use Rattle.local_tables.proofs.ListLaws.{list_all_fails}
use Rattle.local_tables.specs.Checks.{is_once, set_name}
use Rattle.local_tables.proofs.checking.sets_once.Goals as goal

pub returns-then-not-is_set_once : goal.returns-then-not-is_set_once
returns-then-not-is_set_once c =
    list_all_fails (is_once (map set_name c.args.sets.now)) set_name c.args.sets.now _ _ _ c.loop-set-test.true c.set-item.is c.loop-set.invariant (sym c.if-not-is_set_once.true ∙ c.is_set_once.ensures)
