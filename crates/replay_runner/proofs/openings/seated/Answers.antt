use Rattle.std.proofs.Common.{◌≡◌, ◌∙◌, ◌∷◌, [], ap, arith, length, length-append, rules, subst, sym}
use Rattle.std.specs.Vec.Iter.{into_iter_items}
use Rattle.scenario_nodes.proofs.Together.{AreFirst, first_all, first_next, first_none}
use Rattle.replay_runner.specs.Opened.{IsSeated}
use Rattle.replay_runner.proofs.Lists.{emptied}
use Rattle.replay_runner.proofs.openings.seated.Goals as goal

pub loop-node-init : goal.loop-node-init
loop-node-init g c =
    let all = c.args.nodes.items in
    let left = into_iter_items c.into_iter-node-iterator.result in
    let whole : left ≡ all = search rules in
    let size = ap length whole in
    let none = ap length c.requires.none in (
      subst (λ ns. AreFirst IsSeated all c.args.members.items ns) (sym whole) (subst (λ ms. AreFirst IsSeated all ms all) (sym c.requires.none) (first_none IsSeated all)),
      omega (arith, size, none, c.requires.room),
    )

pub push_reserved-requires : goal.push_reserved-requires
push_reserved-requires g c =
    let left = ap length c.in-Some.ensures.steps.0 in
    let size = c.loop-node.members.ok.0 in
    omega (arith, left, size, c.loop-node.invariant.1)

pub loop-node-preserved : goal.loop-node-preserved
loop-node-preserved g c =
    let all = c.args.nodes.items in
    let next = c.in-Some.ensures.steps.0 in
    let rest = into_iter_items c.next.new.self in
    let i = c.loop-node.invariant in
    let left = ap length next in
    let more = ap length c.push_reserved.ensures.items ∙ length-append c.loop-node.members.items (c.new.result ∷ []) in (
      subst (λ ms. AreFirst IsSeated all ms rest) (sym c.push_reserved.ensures.items)
          (first_next IsSeated all c.loop-node.members.items c.in-Some.node rest c.new.result (subst (λ ns. AreFirst IsSeated all c.loop-node.members.items ns) next i.0)
          (record { node = c.new.ensures.node; traced = c.new.ensures.trace; turned = c.new.ensures.turned })),
      omega (arith, left, more, c.push_reserved.ensures.capacity, i.1),
    )

pub returns : goal.returns
returns g c =
    let left = c.loop-node.node-iterator in
    first_all IsSeated c.args.nodes.items c.loop-node.members.items (into_iter_items left) (emptied (into_iter_items left) left.rest.len left.rest.ok.0 c.in-None.ensures.steps.0) c.loop-node.invariant.0
