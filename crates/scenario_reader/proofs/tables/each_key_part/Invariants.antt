use Rattle.std.proofs.Common.{◌≡◌, [], drop}
use Rattle.serde_json.specs.View.{items_view}
use Rattle.scenario_reader.specs.Faults.{each}
use Rattle.scenario_reader.specs.Tables as form
use Rattle.scenario_reader.proofs.tables.each_key_part.Given as goal

abbrev pub invariant-loop-value : goal.invariant-loop-value
invariant-loop-value l =
    each (form.key_part l.columns) l.places.items (items_view (drop l.value-index l.values)) ≡ each (form.key_part l.columns) [] (items_view l.values)
