use Rattle.std.proofs.Common.{◌≡◌, [], drop, length}
use Rattle.serde_json.specs.View.{items_view}
use Rattle.scenario_reader.specs.Faults.{each}
use Rattle.scenario_reader.specs.Resources as form
use Rattle.scenario_reader.proofs.resources.each_resource.Given as goal

abbrev pub invariant-loop-value : goal.invariant-loop-value
invariant-loop-value l =
    record {
      rest : each (form.resource) l.resources.items (items_view (drop l.value-index l.values)) ≡ each (form.resource) [] (items_view l.values);
      count : length l.resources.items ≡ l.value-index;
    }
