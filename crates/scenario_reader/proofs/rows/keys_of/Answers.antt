use Rattle.std.proofs.Common.{◌≡◌, get_or, rules, arith}
use Rattle.std.proofs.lemmas.Grind.{common_steps}
use Rattle.scenario_reader.proofs.Rowed.{keys_next}
use Rattle.scenario_reader.proofs.rows.keys_of.Goals as goal

pub loop-row-preserved : goal.loop-row-preserved
loop-row-preserved c =
    let there : get_or c.args.rows.now c.loop-row.row-index c.row-item.result ≡ c.row-item.result = first_of (search rules, grind (arith, common_steps)) in
    keys_next c.args.places.now c.args.rows.now c.loop-row.row-index c.row-item.result c.in_ok-key.key c.loop-row.keys.keys _ c.loop-row-test.true there
    c.in_ok-key.ensures.value c.loop-row.invariant c.in_ok-is_new.ensures.noted
