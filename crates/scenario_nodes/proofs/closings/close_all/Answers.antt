use Rattle.std.proofs.Common.{◌≡◌, ◌∙◌, ◌+◌, ◌<◌, ◌∷◌, [], ℕ, List, map, length, length-drop, length-take-le, refl, ap, sym, subst, arith}
use Rattle.std.proofs.lemmas.List.{take_rest}
use Rattle.std.proofs.lemmas.Option.{slice_get_read}
use Rattle.scenario_form.specs.declared.scenarios.ResourceDef.{ResourceDef}
use Rattle.scenario_form.specs.Runnable.{resource_name}
use Rattle.resource_core.specs.NodeOpening.{loaded_disks}
use Rattle.scenario_nodes.specs.Nodes.{resource_disks}
use Rattle.scenario_nodes.specs.Shelves.{HasBoth, second_name}
use Rattle.scenario_nodes.specs.Together.{AreApart, GivesBack, HaveBoth}
use Rattle.scenario_nodes.proofs.Closing.{second_at, seconds_count}
use Rattle.scenario_nodes.proofs.Cut.{apart_after, apart_before, gives_around, has_it, have_before, have_behind, seconds_before, seconds_from}
use Rattle.scenario_nodes.proofs.Together.{gives_one, have_still}
use Rattle.scenario_nodes.proofs.closings.close_all.Goals as goal

-- the next one has a definition
below : (n len started left all : ℕ) → n ≡ len → len ≡ started → started + 1 + left ≡ all → n < all
below n len started left all is long whole = omega (arith, is, long, whole)

pub slice_bounds-close_resources-end : goal.slice_bounds-close_resources-end
slice_bounds-close_resources-end g c =
    let at = c.len-count.ensures in
    let len = c.args.started.ok.0 in
    let whole = c.requires.whole in
    sym (length-take-le c.len-count.result c.args.defs.now (omega (arith, at, len, whole)))

pub slice_bounds-close_resources-end-2 : goal.slice_bounds-close_resources-end-2
slice_bounds-close_resources-end-2 g c =
    let at = c.len-count.ensures in
    let len = c.args.started.ok.0 in
    let whole = c.requires.whole in
    let count = seconds_count c.args.defs.now c.args.seconds.now c.requires.seconds in
    sym (length-take-le c.len-count.result c.args.seconds.now (omega (arith, at, len, whole, count)))

pub close_resources-requires-clause-seconds : goal.close_resources-requires-clause-seconds
close_resources-requires-clause-seconds g c κs within = seconds_before c.args.defs.now c.args.seconds.now c.len-count.result c.requires.seconds

pub close_resources-requires-clause-apart : goal.close_resources-requires-clause-apart
close_resources-requires-clause-apart g c κs within = apart_before c.args.defs.now c.len-count.result c.requires.apart

pub close_resources-requires-clause-whole : goal.close_resources-requires-clause-whole
close_resources-requires-clause-whole g c κs within =
    let at = c.len-count.ensures in
    let len = c.args.started.ok.0 in
    let whole = c.requires.whole in
    let size = length-take-le c.len-count.result c.args.defs.now (omega (arith, at, len, whole)) in
    omega (arith, at, len, size)

pub close_resources-requires-clause-taken : goal.close_resources-requires-clause-taken
close_resources-requires-clause-taken g c κs within = have_before c.args.defs.now c.len-count.result (g.H.Shelf.state c.args.shelf.now) c.requires.taken

pub bounds-defs-count : goal.bounds-defs-count
bounds-defs-count g c =
    below c.len-count.result _ (length c.args.started.items) (length c.args.loaded.items) (length c.args.defs.now) c.len-count.ensures c.args.started.ok.0 c.requires.whole

pub bounds-seconds-count : goal.bounds-seconds-count
bounds-seconds-count g c =
    subst (λ n. c.len-count.result < n) (sym (seconds_count c.args.defs.now c.args.seconds.now c.requires.seconds))
    (below c.len-count.result _ (length c.args.started.items) (length c.args.loaded.items) (length c.args.defs.now) c.len-count.ensures c.args.started.ok.0 c.requires.whole)

pub give_disks-requires-clause-second : goal.give_disks-requires-clause-second
give_disks-requires-clause-second g c κs within =
    let defs = c.args.defs.now in
    let seconds = c.args.seconds.now in
    let n = c.len-count.result in
    let low = below n _ (length c.args.started.items) (length c.args.loaded.items) (length defs) c.len-count.ensures c.args.started.ok.0 c.requires.whole in
    let here = slice_get_read defs _ n c.index-defs-count.result refl low c.index-defs-count.is in
    let there = slice_get_read seconds _ n c.index-seconds-count.result refl (subst (λ m. n < m) (sym (seconds_count defs seconds c.requires.seconds)) low) c.index-seconds-count.is in
    c.as_str-2.ensures.value ∙ second_at defs seconds n c.index-defs-count.result c.index-seconds-count.result c.requires.seconds here there ∙ ap second_name (sym (c.as_str.ensures ∙ ap resource_name (sym c.index-defs-count.is)))

pub give_disks-requires-clause-both : goal.give_disks-requires-clause-both
give_disks-requires-clause-both g c κs within =
    let defs = c.args.defs.now in
    let n = c.len-count.result in
    let old = g.H.Shelf.state c.args.shelf.now in
    let now = g.H.Shelf.state c.close_resources.new.shelf in
    let low = below n _ (length c.args.started.items) (length c.args.loaded.items) (length defs) c.len-count.ensures c.args.started.ok.0 c.requires.whole in
    let here = slice_get_read defs _ n c.index-defs-count.result refl low c.index-defs-count.is in
    subst (HasBoth now) (sym (c.as_str.ensures ∙ ap resource_name (sym c.index-defs-count.is)))
    (has_it defs n c.index-defs-count.result here now (have_still old now (map resource_name defs) (λ name had. (c.close_resources.ensures.places name).1 had) c.requires.taken))

pub slice_bounds-close_loaded-count : goal.slice_bounds-close_loaded-count
slice_bounds-close_loaded-count g c =
    let at = c.len-count.ensures in let len = c.args.started.ok.0 in let whole = c.requires.whole in omega (arith, at, len, whole)

pub slice_bounds-close_loaded-start : goal.slice_bounds-close_loaded-start
slice_bounds-close_loaded-start g c =
    let at = c.len-count.ensures in let len = c.args.started.ok.0 in let whole = c.requires.whole in omega (arith, at, len, whole)

pub slice_bounds-close_loaded-count-2 : goal.slice_bounds-close_loaded-count-2
slice_bounds-close_loaded-count-2 g c =
    let at = c.len-count.ensures in
    let len = c.args.started.ok.0 in
    let whole = c.requires.whole in
    let count = seconds_count c.args.defs.now c.args.seconds.now c.requires.seconds in
    omega (arith, at, len, whole, count)

pub slice_bounds-close_loaded-start-2 : goal.slice_bounds-close_loaded-start-2
slice_bounds-close_loaded-start-2 g c =
    let at = c.len-count.ensures in
    let len = c.args.started.ok.0 in
    let whole = c.requires.whole in
    let count = seconds_count c.args.defs.now c.args.seconds.now c.requires.seconds in
    omega (arith, at, len, whole, count)

pub close_loaded-requires-clause-seconds : goal.close_loaded-requires-clause-seconds
close_loaded-requires-clause-seconds g c κs within = seconds_from c.args.defs.now c.args.seconds.now (c.len-count.result + 1) c.requires.seconds

pub close_loaded-requires-clause-apart : goal.close_loaded-requires-clause-apart
close_loaded-requires-clause-apart g c κs within =
    let defs = c.args.defs.now in
    let n = c.len-count.result in
    let low = below n _ (length c.args.started.items) (length c.args.loaded.items) (length defs) c.len-count.ensures c.args.started.ok.0 c.requires.whole in
    let here = slice_get_read defs _ n c.index-defs-count.result refl low c.index-defs-count.is in
    subst (λ (ds : List ResourceDef). AreApart (map resource_name ds)) (sym (take_rest defs (n + 1))) (apart_after defs n c.index-defs-count.result here c.requires.apart)

pub close_loaded-requires-clause-whole : goal.close_loaded-requires-clause-whole
close_loaded-requires-clause-whole g c κs within =
    let defs = c.args.defs.now in
    let n = c.len-count.result in
    let at = c.len-count.ensures in
    let len = c.args.started.ok.0 in
    let whole = c.requires.whole in
    let size = length-drop (n + 1) defs in
    subst (λ (ds : List ResourceDef). length c.args.loaded.items ≡ length ds) (sym (take_rest defs (n + 1))) (omega (arith, at, len, whole, size))

pub close_loaded-requires-clause-taken : goal.close_loaded-requires-clause-taken
close_loaded-requires-clause-taken g c κs within =
    let defs = c.args.defs.now in
    let n = c.len-count.result in
    let old = g.H.Shelf.state c.args.shelf.now in
    let now = g.H.Shelf.state c.give_disks.new.shelf in
    let low = below n _ (length c.args.started.items) (length c.args.loaded.items) (length defs) c.len-count.ensures c.args.started.ok.0 c.requires.whole in
    let here = slice_get_read defs _ n c.index-defs-count.result refl low c.index-defs-count.is in
    subst (λ (ds : List ResourceDef). HaveBoth now (map resource_name ds)) (sym (take_rest defs (n + 1)))
    (have_behind defs n c.index-defs-count.result here now
    (have_still old now (map resource_name defs) (λ name had. (c.give_disks.ensures.places name).1 ((c.close_resources.ensures.places name).1 had)) c.requires.taken))

pub returns : goal.returns
returns g c =
    let defs = c.args.defs.now in
    let n = c.len-count.result in
    let disks = c.args.disks in
    let old = g.H.Shelf.state c.args.shelf.now in
    let one = g.H.Shelf.state c.close_resources.new.shelf in
    let two = g.H.Shelf.state c.give_disks.new.shelf in
    let new = g.H.Shelf.state c.close_loaded.new.shelf in
    let given = c.give_disks.ensures in
    let low = below n _ (length c.args.started.items) (length c.args.loaded.items) (length defs) c.len-count.ensures c.args.started.ok.0 c.requires.whole in
    let here = slice_get_read defs _ n c.index-defs-count.result refl low c.index-defs-count.is in
    gives_around defs n c.index-defs-count.result here c.requires.apart (map resource_disks c.args.started.items) disks (map loaded_disks c.args.loaded.items) old one two new c.close_resources.ensures
    (subst (λ (name : List ℕ). GivesBack (name ∷ []) (disks ∷ []) one two) (c.as_str.ensures ∙ ap resource_name (sym c.index-defs-count.is)) (gives_one c.as_str.result.now disks one two given.back given.keeps given.places given.returned))
    (subst (λ (ds : List ResourceDef). GivesBack (map resource_name ds) (map loaded_disks c.args.loaded.items) two new) (take_rest defs (n + 1)) c.close_loaded.ensures)
