use Rattle.std.proofs.Common.{◌≡◌, ◌∙◌, ◌∷◌, [], ap, arith, length, length-append, rules, subst, sym}
use Rattle.std.specs.Vec.Iter.{into_iter_items}
use Rattle.scenario_nodes.proofs.Together.{AreFirst, first_all, first_next, first_none}
use Rattle.replay_runner.specs.Collecting.{IsNodeOf, IsTraceOf}
use Rattle.replay_runner.proofs.Lists.{emptied}
use Rattle.replay_runner.proofs.closings.unseated.Goals as goal

pub loop-member-init : goal.loop-member-init
loop-member-init g c =
    let all = c.args.members.items in
    let room = c.requires in
    let left = into_iter_items c.into_iter-member-iterator.result in
    let whole : left ≡ all = search rules in
    let size = ap length whole in
    let none_r = ap length room.no_resource in
    let none_t = ap length room.no_trace in (
      subst (λ ms. AreFirst IsNodeOf all c.args.room.resources.items ms) (sym whole) (subst (λ rs. AreFirst IsNodeOf all rs all) (sym room.no_resource) (first_none IsNodeOf all)),
      subst (λ ms. AreFirst IsTraceOf all c.args.room.traces.items ms) (sym whole) (subst (λ ts. AreFirst IsTraceOf all ts all) (sym room.no_trace) (first_none IsTraceOf all)),
      omega (arith, size, none_r, room.resources),
      omega (arith, size, none_t, room.traces),
    )

pub push_reserved-requires : goal.push_reserved-requires
push_reserved-requires g c =
    let left = ap length c.in-Some.ensures.steps.0 in
    let size = c.loop-member.resources.ok.0 in
    omega (arith, left, size, c.loop-member.invariant.2)

pub push_reserved-requires-in-loop-member : goal.push_reserved-requires-in-loop-member
push_reserved-requires-in-loop-member g c =
    let left = ap length c.in-Some.ensures.steps.0 in
    let size = c.loop-member.traces.ok.0 in
    omega (arith, left, size, c.loop-member.invariant.3)

pub loop-member-preserved : goal.loop-member-preserved
loop-member-preserved g c =
    let all = c.args.members.items in
    let m = c.in-Some.member in
    let next = c.in-Some.ensures.steps.0 in
    let rest = into_iter_items c.next.new.self in
    let i = c.loop-member.invariant in
    let left = ap length next in
    let more_r = ap length c.push_reserved.ensures.items ∙ length-append c.loop-member.resources.items (c.finish-resource.result.0 ∷ []) in
    let more_t = ap length c.push_reserved-in-loop-member.ensures.items ∙ length-append c.loop-member.traces.items (c.into_vec.result ∷ []) in (
      subst (λ rs. AreFirst IsNodeOf all rs rest) (sym c.push_reserved.ensures.items)
          (first_next IsNodeOf all c.loop-member.resources.items m rest c.finish-resource.result.0 (subst (λ ms. AreFirst IsNodeOf all c.loop-member.resources.items ms) next i.0) c.finish-resource.ensures.node),
      subst (λ ts. AreFirst IsTraceOf all ts rest) (sym c.push_reserved-in-loop-member.ensures.items)
          (first_next IsTraceOf all c.loop-member.traces.items m rest c.into_vec.result (subst (λ ms. AreFirst IsTraceOf all c.loop-member.traces.items ms) next i.1)
          (c.into_vec.ensures ∙ c.finish-resource.ensures.trace)),
      omega (arith, left, more_r, c.push_reserved.ensures.capacity, i.2),
      omega (arith, left, more_t, c.push_reserved-in-loop-member.ensures.capacity, i.3),
    )

pub returns-clause-nodes : goal.returns-clause-nodes
returns-clause-nodes g c =
    let left = c.loop-member.member-iterator in
    first_all IsNodeOf c.args.members.items c.loop-member.resources.items (into_iter_items left) (emptied (into_iter_items left) left.rest.len left.rest.ok.0 c.in-None.ensures.steps.0) c.loop-member.invariant.0

pub returns-clause-traces : goal.returns-clause-traces
returns-clause-traces g c =
    let left = c.loop-member.member-iterator in
    first_all IsTraceOf c.args.members.items c.loop-member.traces.items (into_iter_items left) (emptied (into_iter_items left) left.rest.len left.rest.ok.0 c.in-None.ensures.steps.0) c.loop-member.invariant.1
