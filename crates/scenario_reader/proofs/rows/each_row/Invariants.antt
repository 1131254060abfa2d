use Rattle.std.proofs.Common.{◌≡◌, [], drop, length}
use Rattle.std.specs.Prelude.{option_map}
use Rattle.std.specs.BTreeSet as sets
use Rattle.serde_json.specs.View.{items_view}
use Rattle.scenario_reader.specs.Faults.{each}
use Rattle.scenario_reader.specs.Tables.{new_row, IsNoted}
use Rattle.scenario_reader.proofs.rows.each_row.Given as goal

abbrev pub invariant-loop-value : goal.invariant-loop-value
invariant-loop-value l =
    record {
      rest : each (new_row l.columns l.places) l.rows.items (items_view (drop l.value-index l.values)) ≡ each (new_row l.columns l.places) [] (items_view l.values);
      noted : IsNoted l.places l.rows.items (option_map sets.keys l.noted);
      count : length l.rows.items ≡ l.value-index;
    }
