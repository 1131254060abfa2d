use Rattle.std.proofs.Common.{◌≡◌, [], drop}
use Rattle.serde_json.specs.View.{items_view}
use Rattle.scenario_reader.specs.Faults.{each}
use Rattle.scenario_reader.specs.Tables as form
use Rattle.scenario_reader.proofs.rows.each_cell.Given as goal

abbrev pub invariant-loop-value : goal.invariant-loop-value
invariant-loop-value l =
    each (form.cell l.columns) l.cells.items (items_view (drop l.value-index l.values)) ≡ each (form.cell l.columns) [] (items_view l.values)
