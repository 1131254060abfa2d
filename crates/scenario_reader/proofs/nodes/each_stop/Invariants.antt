use Rattle.std.proofs.Common.{◌≡◌, [], drop}
use Rattle.serde_json.specs.View.{items_view}
use Rattle.scenario_reader.specs.Faults.{each}
use Rattle.scenario_reader.specs.Nodes as form
use Rattle.scenario_reader.proofs.nodes.each_stop.Given as goal

abbrev pub invariant-loop-value : goal.invariant-loop-value
invariant-loop-value l =
    each (form.next_stop l.resources) l.stops.items (items_view (drop l.value-index l.values)) ≡ each (form.next_stop l.resources) [] (items_view l.values)
