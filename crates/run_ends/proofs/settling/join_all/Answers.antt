use Rattle.std.proofs.Common.{◌≡◌, inl, refl, rules, subst, sym}
use Rattle.std.specs.Vec.Iter.{into_iter_items}
use Rattle.run_ends.proofs.Lists.{emptied}
use Rattle.run_ends.proofs.Walking.{AreOnTheWay, none_left, none_yet, one_more}
use Rattle.run_ends.proofs.settling.join_all.Goals as goal

pub loop-taker-init : goal.loop-taker-init
loop-taker-init g c =
    let all = c.args.takers.items in
    let left = into_iter_items c.into_iter-taker-iterator.result in
    let whole : left ≡ all = search rules in
    subst (AreOnTheWay g.K.RunName.run c.args.nodes.now c.args.nodes.now all) (sym whole) (none_yet g.K.RunName.run c.args.nodes.now all c.requires.named)

pub join-requires : goal.join-requires
join-requires g c =
    let run = g.K.RunName.run in
    let way = subst (AreOnTheWay run c.args.nodes.now c.loop-taker.nodes c.args.takers.items) c.in-Some.ensures.steps.0 c.loop-taker.invariant in
    record { named = way.named c.in-Some.taker (inl refl) }

pub loop-taker-preserved : goal.loop-taker-preserved
loop-taker-preserved g c =
    let run = g.K.RunName.run in
    let all = c.args.takers.items in
    one_more run c.args.nodes.now c.loop-taker.nodes c.join.new.nodes all (into_iter_items c.next.new.self) c.in-Some.taker
    (subst (AreOnTheWay run c.args.nodes.now c.loop-taker.nodes all) c.in-Some.ensures.steps.0 c.loop-taker.invariant) c.in_ok-join.ensures

pub returns : goal.returns
returns g c =
    let left = c.loop-taker.taker-iterator in
    none_left g.K.RunName.run c.args.nodes.now c.loop-taker.nodes c.args.takers.items (into_iter_items left)
    (emptied (into_iter_items left) left.rest.len left.rest.ok.0 c.in-None.ensures.steps.0) c.loop-taker.invariant
