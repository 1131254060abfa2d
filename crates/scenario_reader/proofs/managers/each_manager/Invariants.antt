use Rattle.std.proofs.Common.{◌≡◌, [], drop, length}
use Rattle.serde_json.specs.View.{items_view}
use Rattle.scenario_reader.specs.Faults.{each}
use Rattle.scenario_reader.specs.Managers as form
use Rattle.scenario_reader.proofs.managers.each_manager.Given as goal

abbrev pub invariant-loop-value : goal.invariant-loop-value
invariant-loop-value l =
    record {
      rest : each (form.manager l.resources l.timeout) l.managers.items (items_view (drop l.value-index l.values)) ≡ each (form.manager l.resources l.timeout) [] (items_view l.values);
      count : length l.managers.items ≡ l.value-index;
    }
