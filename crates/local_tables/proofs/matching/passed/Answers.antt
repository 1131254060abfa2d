use Rattle.std.proofs.Common.{◌≡◌, [], length, drop, ap, arith}
use Rattle.std.proofs.lemmas.List.{drop_all}
use Rattle.local_tables.specs.Touches.{is_matched}
use Rattle.local_tables.proofs.MatchLaws.{followed}
use Rattle.local_tables.proofs.matching.passed.Goals as goal

pub returns : goal.returns
returns c =
    let over : drop c.loop-change.change-index c.args.changes.now ≡ [] = drop_all c.loop-change.change-index c.args.changes.now (omega (arith, c.loop-change-test.false, ap length c.entries-entries.ensures.all)) in
    followed (is_matched c.args.resource c.args.def.now c.args.cond.now) c.loop-change.found.entries c.in_ok-found.found.entries c.args.rows.now.entries _ c.args.changes.now over c.loop-change.invariant c.in_ok-found.ensures c.requires
