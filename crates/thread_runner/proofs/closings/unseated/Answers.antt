use Rattle.std.proofs.Common.{◌≡◌, ◌∙◌, ◌∷◌, [], None, Some, ap, arith, length, length-append, refl, rules, subst, sym}
use Rattle.std.specs.Vec.Iter.{into_iter_items}
use Rattle.node_steps.specs.Nodes.{IsLawful}
use Rattle.node_seat.specs.Running.{KeepsSeat}
use Rattle.node_seat.specs.Seating.{Seated}
use Rattle.replay_runner.proofs.Lists.{emptied}
use Rattle.thread_runner.specs.Ending.{ending_at}
use Rattle.thread_runner.proofs.Unseating.{unseated_ends, unseated_keep, unseated_nodes, unseats_empty, unseats_none, unseats_one}
use Rattle.thread_runner.proofs.closings.unseated.Goals as goal

pub loop-seat-init : goal.loop-seat-init
loop-seat-init g c =
    let left = into_iter_items c.into_iter-seat-iterator.result in
    let whole : left ≡ c.args.seats.items = search rules in
    let size = ap length whole in
    let none = ap length c.requires.none in
    let nodes = c.requires.nodes in
    let room = c.requires.room in (
      unseats_none g.N.Node.state g.K.RunName.world g.K.RunName.held g.K.RunName.run c.args.seats.items c.args.ended.now.items left c.args.nodes.items c.args.ended.now.items whole c.requires.none refl,
      omega (arith, size, none, nodes),
      omega (arith, size, room),
      omega arith,
    )

pub loop-seat-preserved : goal.loop-seat-preserved
loop-seat-preserved g c =
    let left = into_iter_items c.loop-seat.seat-iterator in
    let rest = into_iter_items c.next.new.self in
    let i = c.loop-seat.invariant in
    let next : left ≡ None ∷ rest = c.in-Some.ensures.steps.0 ∙ ap (λ o. o ∷ rest) c.in_default.is in
    let size = ap length next in
    let nodes = i.1 in
    let room = i.2 in (
      unseats_empty g.N.Node.state g.K.RunName.world g.K.RunName.held g.K.RunName.run c.args.seats.items c.args.ended.now.items left rest c.loop-seat.nodes.items c.loop-seat.ended.items next i.0,
      omega (arith, size, nodes),
      omega (arith, size, room),
      i.3,
    )

pub loop-seat-preserved-in-Some-seat : goal.loop-seat-preserved-in-Some-seat
loop-seat-preserved-in-Some-seat g c =
    let state = g.N.Node.state in
    let world = g.K.RunName.world in
    let held = g.K.RunName.held in
    let run = g.K.RunName.run in
    let left = into_iter_items c.loop-seat.seat-iterator in
    let rest = into_iter_items c.next.new.self in
    let i = c.loop-seat.invariant in
    let s = c.in-Some-seat.begun in
    let same = c.into_seat.ensures.seat in
    let e = c.end_of-node.ensures in
    let next : left ≡ Some s ∷ rest = c.in-Some.ensures.steps.0 ∙ ap (λ o. o ∷ rest) c.in-Some-seat.is in
    let size = ap length next in
    let nodes = i.1 in
    let room = i.2 in
    let most = i.3 in
    let more = ap length c.push_reserved.ensures.items ∙ length-append c.loop-seat.nodes.items (c.end_of-node.result.0 ∷ []) in
    let later = ap length c.push_reserved-in-Some-seat.ensures.items ∙ length-append c.loop-seat.ended.items (c.end_of-node.result.1 ∷ []) in
    let one = c.push_reserved.ensures.capacity in
    let two = c.push_reserved-in-Some-seat.ensures.capacity in (
      unseats_one state world held run c.args.seats.items c.args.ended.now.items left rest c.loop-seat.nodes.items c.push_reserved.new.self.items c.loop-seat.ended.items c.push_reserved-in-Some-seat.new.self.items
          s c.end_of-node.result.0 c.end_of-node.result.1 next (e.node ∙ ap (λ (x : Seated _). x.node) same) (e.ended ∙ ap (ending_at state) same) c.push_reserved.ensures.items
          c.push_reserved-in-Some-seat.ensures.items (record {
            seat = subst (λ (x : Seated _). KeepsSeat (state x.node) world held run x) same e.keeps;
            begun = c.into_seat.ensures.begun;
            lawful = subst (λ (x : Seated _). IsLawful (state x.node)) same e.lawful;
          }) i.0,
      omega (arith, size, nodes, more, one),
      omega (arith, size, room, later, two),
      omega (arith, most, two),
    )

pub returns-clause-nodes : goal.returns-clause-nodes
returns-clause-nodes g c =
    let left = c.loop-seat.seat-iterator in
    unseated_nodes g.N.Node.state g.K.RunName.world g.K.RunName.held g.K.RunName.run c.args.seats.items c.args.ended.now.items (into_iter_items left) c.loop-seat.nodes.items c.loop-seat.ended.items
    (emptied (into_iter_items left) left.rest.len left.rest.ok.0 c.in-None.ensures.steps.0) c.loop-seat.invariant.0

pub returns-clause-ended : goal.returns-clause-ended
returns-clause-ended g c =
    let left = c.loop-seat.seat-iterator in
    unseated_ends g.N.Node.state g.K.RunName.world g.K.RunName.held g.K.RunName.run c.args.seats.items c.args.ended.now.items (into_iter_items left) c.loop-seat.nodes.items c.loop-seat.ended.items
    (emptied (into_iter_items left) left.rest.len left.rest.ok.0 c.in-None.ensures.steps.0) c.loop-seat.invariant.0

pub returns-clause-keep : goal.returns-clause-keep
returns-clause-keep g c =
    let left = c.loop-seat.seat-iterator in
    unseated_keep g.N.Node.state g.K.RunName.world g.K.RunName.held g.K.RunName.run c.args.seats.items c.args.ended.now.items (into_iter_items left) c.loop-seat.nodes.items c.loop-seat.ended.items
    (emptied (into_iter_items left) left.rest.len left.rest.ok.0 c.in-None.ensures.steps.0) c.loop-seat.invariant.0
