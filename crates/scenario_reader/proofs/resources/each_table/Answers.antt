use Rattle.std.proofs.Common.{rules, arith, ◌≡◌, ◌+◌, ◌++◌, ◌∷◌, length, drop, Ok, [], ap, sym, ◌∙◌}
use Rattle.serde_json.specs.View.{view, items_view}
use Rattle.scenario_reader.specs.Resources.{each_table, named_rows}
use Rattle.scenario_reader.specs.Tables.{table}
use Rattle.scenario_reader.proofs.Items.{items_from}
use Rattle.scenario_reader.proofs.Opened.{next_table}
use Rattle.scenario_reader.proofs.resources.each_table.Goals as goal

pub loop-value-preserved : goal.loop-value-preserved
loop-value-preserved c =
    let defs = c.loop-value.defs.items in
    let opening = c.loop-value.opening.items in
    let values = c.args.values.now in
    let i = c.loop-value.value-index in
    let rest = items_view (drop (i + 1) values) in
    let reads : table defs (length opening) (view c.value-item.result) ≡ Ok (c.in-Ok.found.0, c.in-Ok.found.1) = search rules in
    let named : c.name_rows.new.opening.items ≡ opening ++ named_rows c.in-Ok.found.0.name c.in-Ok.found.1 = search rules in
    let pushed : c.push.new.self.items ≡ defs ++ c.in-Ok.found.0 ∷ [] = search rules in
    let split = items_from values i c.value-item.result c.loop-value-test.true c.value-item.is in
    let step = next_table defs opening (view c.value-item.result) rest c.in-Ok.found.0 c.in-Ok.found.1 reads in
    record {
      rest = ap (λ ds. each_table ds c.name_rows.new.opening.items rest) pushed ∙ ap (λ os. each_table (defs ++ c.in-Ok.found.0 ∷ []) os rest) named
          ∙ sym step ∙ sym (ap (each_table defs opening) split) ∙ c.loop-value.invariant.rest;
      few = grind arith;
    }
