use Rattle.std.proofs.Common.{◌≡◌, ◌≤◌, [], drop, length}
use Rattle.serde_json.specs.View.{items_view}
use Rattle.seata_types.specs.declared.limits.TheConstants.{RESOURCE_ROWS}
use Rattle.scenario_reader.specs.Resources.{each_table}
use Rattle.scenario_reader.proofs.resources.each_table.Given as goal

abbrev pub invariant-loop-value : goal.invariant-loop-value
invariant-loop-value l =
    record {
      rest : each_table l.defs.items l.opening.items (items_view (drop l.value-index l.values)) ≡ each_table [] [] (items_view l.values);
      few : length l.opening.items ≤ RESOURCE_ROWS;
    }
