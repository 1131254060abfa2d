use Rattle.std.proofs.Common.{◌≡◌, ◌∙◌, ◌<◌, Some, length, rules, refl, ap, slice_get, sym, subst, arith}
use Rattle.std.proofs.lemmas.Option.{slice_get_read}
use Rattle.std.specs.Iterator.Adapters.{enumerate_count, enumerate_source}
use Rattle.std.specs.Vec.Iter.{into_iter_items}
use Rattle.scenario_form.specs.Runnable.{resource_name}
use Rattle.scenario_nodes.specs.Nodes.{resource_disks}
use Rattle.scenario_nodes.specs.Shelves.{HasBoth, second_name}
use Rattle.scenario_nodes.proofs.Closing.{IsClosing, closing_begins, emptied, next_below, next_closed, next_taken, none_left, second_at, seconds_count}
use Rattle.scenario_nodes.proofs.closings.close_resources.Goals as goal

pub loop-k-init : goal.loop-k-init
loop-k-init g c =
    let left = into_iter_items (enumerate_source c.into_iter-k-iterator.result) in
    let all : left ≡ c.args.resources.items = search rules in
    let first : enumerate_count c.into_iter-k-iterator.result ≡ 0 = search rules in (
      search rules,
      tt,
      closing_begins resource_disks c.args.defs.now c.args.resources.items (g.H.Shelf.state c.args.shelf.now) left (enumerate_count c.into_iter-k-iterator.result) all first,
    )

pub bounds-defs-k : goal.bounds-defs-k
bounds-defs-k g c =
    let left = into_iter_items (enumerate_source c.loop-k.k-iterator) in
    let rest = into_iter_items (enumerate_source c.next.new.self) in
    subst (λ n. n < length c.args.defs.now) (sym c.in-Some.ensures.steps.1)
    (next_below resource_disks c.args.defs.now c.args.resources.items (g.H.Shelf.state c.args.shelf.now) (g.H.Shelf.state c.loop-k.shelf) (enumerate_count c.loop-k.k-iterator) left c.loop-k.invariant.2
    c.requires.whole c.in-Some.resource rest c.in-Some.ensures.steps.0.0)

pub bounds-seconds-k : goal.bounds-seconds-k
bounds-seconds-k g c =
    let left = into_iter_items (enumerate_source c.loop-k.k-iterator) in
    let rest = into_iter_items (enumerate_source c.next.new.self) in
    subst (λ n. c.in-Some.k < n) (sym (seconds_count c.args.defs.now c.args.seconds.now c.requires.seconds))
    (subst (λ n. n < length c.args.defs.now) (sym c.in-Some.ensures.steps.1)
    (next_below resource_disks c.args.defs.now c.args.resources.items (g.H.Shelf.state c.args.shelf.now) (g.H.Shelf.state c.loop-k.shelf) (enumerate_count c.loop-k.k-iterator) left c.loop-k.invariant.2
    c.requires.whole c.in-Some.resource rest c.in-Some.ensures.steps.0.0))

pub offset_bounds-defs-k : goal.offset_bounds-defs-k
offset_bounds-defs-k g c =
    let left = into_iter_items (enumerate_source c.loop-k.k-iterator) in
    let rest = into_iter_items (enumerate_source c.next.new.self) in
    let below : c.in-Some.k < length c.args.defs.now =
    subst (λ n. n < length c.args.defs.now) (sym c.in-Some.ensures.steps.1)
    (next_below resource_disks c.args.defs.now c.args.resources.items (g.H.Shelf.state c.args.shelf.now) (g.H.Shelf.state c.loop-k.shelf) (enumerate_count c.loop-k.k-iterator) left c.loop-k.invariant.2
    c.requires.whole c.in-Some.resource rest c.in-Some.ensures.steps.0.0) in
    first_of (search rules, omega arith)

pub offset_bounds-seconds-k : goal.offset_bounds-seconds-k
offset_bounds-seconds-k g c =
    let left = into_iter_items (enumerate_source c.loop-k.k-iterator) in
    let rest = into_iter_items (enumerate_source c.next.new.self) in
    let below : c.in-Some.k < length c.args.defs.now =
    subst (λ n. n < length c.args.defs.now) (sym c.in-Some.ensures.steps.1)
    (next_below resource_disks c.args.defs.now c.args.resources.items (g.H.Shelf.state c.args.shelf.now) (g.H.Shelf.state c.loop-k.shelf) (enumerate_count c.loop-k.k-iterator) left c.loop-k.invariant.2
    c.requires.whole c.in-Some.resource rest c.in-Some.ensures.steps.0.0) in
    let count = seconds_count c.args.defs.now c.args.seconds.now c.requires.seconds in
    let under : c.in-Some.k < length c.args.seconds.now = omega (arith, below, count) in
    first_of (search rules, omega arith)

pub close_resource-requires-clause-second : goal.close_resource-requires-clause-second
close_resource-requires-clause-second g c κs within =
    let defs = c.args.defs.now in
    let seconds = c.args.seconds.now in
    let k = c.in-Some.k in
    let left = into_iter_items (enumerate_source c.loop-k.k-iterator) in
    let rest = into_iter_items (enumerate_source c.next.new.self) in
    let below : k < length defs =
    subst (λ n. n < length defs) (sym c.in-Some.ensures.steps.1)
    (next_below resource_disks defs c.args.resources.items (g.H.Shelf.state c.args.shelf.now) (g.H.Shelf.state c.loop-k.shelf) (enumerate_count c.loop-k.k-iterator) left c.loop-k.invariant.2
    c.requires.whole c.in-Some.resource rest c.in-Some.ensures.steps.0.0) in
    let here = slice_get_read defs _ k c.index-defs-k.result refl below c.index-defs-k.is in
    let there = slice_get_read seconds _ k c.index-seconds-k.result refl (subst (λ n. k < n) (sym (seconds_count defs seconds c.requires.seconds)) below) c.index-seconds-k.is in
    c.as_str-in-loop-k.ensures.value ∙ second_at defs seconds k c.index-defs-k.result c.index-seconds-k.result c.requires.seconds here there ∙ ap second_name (sym (c.as_str.ensures ∙ ap resource_name (sym c.index-defs-k.is)))

pub close_resource-requires-clause-both : goal.close_resource-requires-clause-both
close_resource-requires-clause-both g c κs within =
    let defs = c.args.defs.now in
    let k = c.in-Some.k in
    let old = g.H.Shelf.state c.args.shelf.now in
    let now = g.H.Shelf.state c.loop-k.shelf in
    let count = enumerate_count c.loop-k.k-iterator in
    let left = into_iter_items (enumerate_source c.loop-k.k-iterator) in
    let rest = into_iter_items (enumerate_source c.next.new.self) in
    let steps = c.in-Some.ensures.steps in
    let below : k < length defs =
    subst (λ n. n < length defs) (sym steps.1) (next_below resource_disks defs c.args.resources.items old now count left c.loop-k.invariant.2 c.requires.whole c.in-Some.resource rest steps.0.0) in
    let here = slice_get_read defs _ k c.index-defs-k.result refl below c.index-defs-k.is in
    subst (HasBoth now) (sym (c.as_str.ensures ∙ ap resource_name (sym c.index-defs-k.is)))
    (next_taken resource_disks defs c.args.resources.items old now count left c.loop-k.invariant.2 c.requires.whole c.index-defs-k.result
    (subst (λ n. slice_get defs n ≡ Some c.index-defs-k.result) steps.1 here) c.in-Some.resource rest steps.0.0 c.requires.taken)

pub loop-k-preserved : goal.loop-k-preserved
loop-k-preserved g c =
    let defs = c.args.defs.now in
    let all = c.args.resources.items in
    let k = c.in-Some.k in
    let old = g.H.Shelf.state c.args.shelf.now in
    let now = g.H.Shelf.state c.loop-k.shelf in
    let new = g.H.Shelf.state c.close_resource.new.shelf in
    let count = enumerate_count c.loop-k.k-iterator in
    let left = into_iter_items (enumerate_source c.loop-k.k-iterator) in
    let rest = into_iter_items (enumerate_source c.next.new.self) in
    let steps = c.in-Some.ensures.steps in
    let closed = c.close_resource.ensures in
    let below : k < length defs = subst (λ n. n < length defs) (sym steps.1) (next_below resource_disks defs all old now count left c.loop-k.invariant.2 c.requires.whole c.in-Some.resource rest steps.0.0) in
    let here = slice_get_read defs _ k c.index-defs-k.result refl below c.index-defs-k.is in (
      search rules,
      tt,
      subst (λ n. IsClosing resource_disks defs all old new n rest) (sym steps.2)
          (next_closed resource_disks defs all old now count left c.loop-k.invariant.2 c.requires.whole c.index-defs-k.result (subst (λ n. slice_get defs n ≡ Some c.index-defs-k.result) steps.1 here)
          c.in-Some.resource rest steps.0.0 new c.as_str.result.now (resource_disks c.in-Some.resource) (c.as_str.ensures ∙ ap resource_name (sym c.index-defs-k.is)) refl c.requires.apart closed.back closed.keeps closed.places closed.returned),
    )

pub returns : goal.returns
returns g c =
    let left = enumerate_source c.loop-k.k-iterator in
    let none = emptied (into_iter_items left) (sym left.rest.ok.0 ∙ c.in-None.ensures.steps.0.0) in
    none_left resource_disks c.args.defs.now c.args.resources.items (g.H.Shelf.state c.args.shelf.now) (g.H.Shelf.state c.loop-k.shelf) (enumerate_count c.loop-k.k-iterator) (into_iter_items left)
    c.loop-k.invariant.2 c.requires.whole none
