use Rattle.std.proofs.Common.{◌≡◌, [], drop, length}
use Rattle.serde_json.specs.View.{items_view}
use Rattle.scenario_reader.specs.Faults.{each}
use Rattle.scenario_reader.specs.Tables as form
use Rattle.scenario_reader.proofs.tables.each_column.Given as goal

abbrev pub invariant-loop-value : goal.invariant-loop-value
invariant-loop-value l =
    record {
      rest : each form.column l.columns.items (items_view (drop l.value-index l.values)) ≡ each form.column [] (items_view l.values);
      count : length l.columns.items ≡ l.value-index;
    }
