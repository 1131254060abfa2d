use Rattle.std.proofs.Common.{sym, ◌∙◌}
use Rattle.local_tables.proofs.KeyedLaws.{asked_matches}
use Rattle.local_tables.proofs.matching.matched.Goals as goal

pub returns-in_ok-found-in-Some : goal.returns-in_ok-found-in-Some
returns-in_ok-found-in-Some c =
    asked_matches c.args.resource c.args.def.now c.args.cond.now c.in-Some.values c.args.rows.now.entries c.args.changes.now (sym c.in_ok-asked.ensures ∙ c.in-Some.is) c.requires.in_order c.requires.rising c.requires.keyed _ c.in_ok-found-in-Some.ensures
