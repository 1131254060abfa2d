use Rattle.std.proofs.Common.{◌≡◌, [], drop, length}
use Rattle.serde_json.specs.View.{items_view}
use Rattle.scenario_reader.specs.Faults.{each}
use Rattle.scenario_reader.specs.Calls as form
use Rattle.scenario_reader.proofs.calls.each_local.Given as goal

abbrev pub invariant-loop-value : goal.invariant-loop-value
invariant-loop-value l =
    record {
      rest : each (form.next_local l.resources) l.locals.items (items_view (drop l.value-index l.values)) ≡ each (form.next_local l.resources) [] (items_view l.values);
      count : length l.locals.items ≡ l.value-index;
    }
