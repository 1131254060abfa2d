use Rattle.std.proofs.Common.{◌≡◌, ◌∙◌, rules, subst, sym}
use Rattle.std.specs.Vec.Iter.{into_iter_items}
use Rattle.scenario_nodes.proofs.Together.{AreFirst, first_all, first_next, first_none}
use Rattle.replay_runner.specs.Collecting.{IsTraceOf}
use Rattle.replay_runner.proofs.Lists.{emptied}
use Rattle.replay_runner.proofs.closings.manager_traces.Goals as goal

pub loop-member-init : goal.loop-member-init
loop-member-init g c =
    let all = c.args.managers.items in
    let left = into_iter_items c.into_iter-member-iterator.result in
    let whole : left ≡ all = search rules in
    subst (λ ms. AreFirst IsTraceOf all c.new-traces.result.items ms) (sym whole) (subst (λ traces. AreFirst IsTraceOf all traces all) (sym c.new-traces.ensures.items) (first_none IsTraceOf all))

pub loop-member-preserved : goal.loop-member-preserved
loop-member-preserved g c =
    let all = c.args.managers.items in
    let rest = into_iter_items c.next.new.self in
    subst (λ traces. AreFirst IsTraceOf all traces rest) (sym c.in_ok-put.ensures)
    (first_next IsTraceOf all c.loop-member.traces.items c.in-Some.member rest c.into_vec.result
    (subst (λ ms. AreFirst IsTraceOf all c.loop-member.traces.items ms) c.in-Some.ensures.steps.0 c.loop-member.invariant) (c.into_vec.ensures ∙ c.finish-trace.ensures.trace))

pub returns : goal.returns
returns g c =
    let left = c.loop-member.member-iterator in
    first_all IsTraceOf c.args.managers.items c.loop-member.traces.items (into_iter_items left) (emptied (into_iter_items left) left.rest.len left.rest.ok.0 c.in-None.ensures.steps.0) c.loop-member.invariant
