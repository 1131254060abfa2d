use Rattle.std.proofs.Common.{◌≡◌, [], drop}
use Rattle.serde_json.specs.View.{items_view}
use Rattle.scenario_reader.specs.Faults.{each}
use Rattle.scenario_reader.specs.Calls as form
use Rattle.scenario_reader.proofs.statements.each_statement.Given as goal

abbrev pub invariant-loop-value : goal.invariant-loop-value
invariant-loop-value l =
    each (form.next_statement l.schema l.wanted) l.statements.items (items_view (drop l.value-index l.values)) ≡ each (form.next_statement l.schema l.wanted) [] (items_view l.values)
