use Rattle.std.proofs.Common.{◌≡◌, ◌≤◌, [], drop, length}
use Rattle.serde_json.specs.View.{items_view}
use Rattle.seata_types.specs.declared.limits.TheConstants.{STEPS}
use Rattle.scenario_reader.specs.Faults.{each}
use Rattle.scenario_form.specs.Runnable.{all_steps}
use Rattle.scenario_reader.specs.Steps.{next_item}
use Rattle.scenario_reader.proofs.schedules.each_item.Given as goal

abbrev pub invariant-loop-value : goal.invariant-loop-value
invariant-loop-value l =
    record {
      rest : each (next_item l.resources l.managers l.locals) l.items.items (items_view (drop l.value-index l.values))
          ≡ each (next_item l.resources l.managers l.locals) [] (items_view l.values);
      counted : l.steps ≡ all_steps l.items.items;
      few : l.steps ≤ STEPS;
      count : length l.items.items ≡ l.value-index;
    }
