use Rattle.std.proofs.Common.{◌∙◌, ◌+◌, List, drop, map, ap, refl, sym, subst, arith}
use Rattle.std.proofs.lemmas.Option.{slice_get_read}
use Rattle.std.specs.Prelude.{String}
use Rattle.std.specs.declared.alloc.Global.{Global}
use Rattle.scenario_form.specs.Runnable.{resource_name}
use Rattle.scenario_nodes.specs.Shelves.{second_name}
use Rattle.scenario_nodes.proofs.Cut.{IsItsSecond}
use Rattle.scenario_setups.proofs.Made.{drop_at, drop_end}
use Rattle.scenario_nodes.proofs.Together.{AreFirst, first_all, first_none, first_push}
use Rattle.scenario_nodes.proofs.openings.second_names.Goals as goal

pub loop-def-init : goal.loop-def-init
loop-def-init c =
    let all = map resource_name c.args.defs.now in
    subst (λ (names : List (String Global)). AreFirst IsItsSecond all names all) (sym c.new-names.ensures.items) (first_none IsItsSecond all)

pub loop-def-preserved : goal.loop-def-preserved
loop-def-preserved c =
    let defs = c.args.defs.now in
    let k = c.loop-def.def-index in
    let def = c.def-item.result in
    let all = map resource_name defs in
    let names = c.loop-def.names.items in
    let here = slice_get_read defs _ k def refl c.loop-def-test.true c.def-item.is in
    first_push IsItsSecond all names c.put.new.made.items def.name (map resource_name (drop k defs)) (map resource_name (drop (k + 1) defs)) c.in_ok-second_name.field-0
    (ap (map resource_name) (drop_at defs k def here)) c.in_ok-put.ensures c.loop-def.invariant (c.in_ok-second_name.ensures ∙ ap second_name c.as_str.ensures)

pub returns : goal.returns
returns c =
    let defs = c.args.defs.now in
    let k = c.loop-def.def-index in
    let past = c.loop-def-test.false in
    let end = c.loop-def.auto.def-index-end in
    first_all IsItsSecond (map resource_name defs) c.loop-def.names.items (map resource_name (drop k defs)) (ap (map resource_name) (drop_end defs k (omega (arith, past, end)))) c.loop-def.invariant
