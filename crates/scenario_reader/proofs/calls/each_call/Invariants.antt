use Rattle.std.proofs.Common.{◌≡◌, [], drop}
use Rattle.serde_json.specs.View.{items_view}
use Rattle.scenario_reader.specs.Faults.{each}
use Rattle.scenario_reader.specs.Calls as form
use Rattle.scenario_reader.proofs.calls.each_call.Given as goal

abbrev pub invariant-loop-value : goal.invariant-loop-value
invariant-loop-value l =
    each (form.next_call l.resources) l.calls.items (items_view (drop l.value-index l.values)) ≡ each (form.next_call l.resources) [] (items_view l.values)
