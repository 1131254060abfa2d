use Rattle.std.proofs.Common.{rules, arith, ◌≡◌, ◌+◌, ◌∷◌, ◌++◌, [], Ok, drop, ap, sym, ◌∙◌}
use Rattle.serde_json.specs.View.{view, items_view}
use Rattle.scenario_reader.specs.Faults.{each}
use Rattle.scenario_form.specs.Runnable.{all_steps, steps_of}
use Rattle.scenario_reader.specs.Steps.{next_item}
use Rattle.scenario_reader.proofs.Counted.{all_steps_push}
use Rattle.scenario_reader.proofs.Items.{each_step}
use Rattle.scenario_reader.proofs.schedules.each_item.Goals as goal

pub loop-value-preserved : goal.loop-value-preserved
loop-value-preserved c =
    let items = c.loop-value.items.items in
    let form = next_item c.args.resources.now c.args.managers.now c.args.locals in
    let values = c.args.values.now in
    let i = c.loop-value.value-index in
    let told = c.next_item.ensures.exact items c.loop-value.invariant.counted in
    let reads : form items (view c.value-item.result) ≡ Ok c.in-Ok.item = search (rules, told) in
    let pushed : c.push.new.self.items ≡ items ++ c.in-Ok.item ∷ [] = search rules in
    let more : all_steps (items ++ c.in-Ok.item ∷ []) ≡ all_steps items + steps_of c.in-Ok.item = all_steps_push items c.in-Ok.item in
    let step = each_step form items values i c.value-item.result c.in-Ok.item c.loop-value-test.true c.value-item.is reads in
    record {
      rest = ap (λ done. each form done (items_view (drop (i + 1) values))) pushed ∙ sym step ∙ c.loop-value.invariant.rest;
      counted = rw (pushed, more) (search (rules, arith));
      few = grind arith;
      count = search rules;
    }
