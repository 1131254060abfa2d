use Rattle.std.proofs.Common.{◌≡◌, ◌∙◌, ◌∷◌, [], ap, arith, length, length-append, refl, rules, subst, sym}
use Rattle.std.specs.Vec.Iter.{into_iter_items}
use Rattle.scenario_nodes.specs.Together.{AreEach}
use Rattle.scenario_nodes.proofs.Together.{AreFirst, first_all, first_next, first_none}
use Rattle.replay_runner.proofs.Lists.{emptied}
use Rattle.thread_runner.specs.Seats.{IsPutAt, MaySit}
use Rattle.thread_runner.proofs.openings.seats_of.Goals as goal

pub loop-node-init : goal.loop-node-init
loop-node-init g c =
    let all = c.args.nodes.items in
    let left = into_iter_items c.into_iter-node-iterator.result in
    let given = into_iter_items c.into_iter-outfits.result in
    let whole : left ≡ all = search rules in
    let every : given ≡ c.args.outfits.items = search rules in
    let size = ap length whole in
    let none = ap length c.requires.none in
    let room = c.requires.room in (
      subst (λ ns. AreFirst (λ node. IsPutAt g.N.Node.state (g.N.Node.state node).place) all c.args.seats.items ns) (sym whole)
          (subst (λ seats. AreFirst (λ node. IsPutAt g.N.Node.state (g.N.Node.state node).place) all seats all) (sym c.requires.none) (first_none (λ node. IsPutAt g.N.Node.state (g.N.Node.state node).place) all)),
      subst (λ ns. AreEach (λ node. MaySit g.K.RunName.world g.K.RunName.held g.K.RunName.run (g.N.Node.state node)) ns given) (sym whole)
          (subst (AreEach (λ node. MaySit g.K.RunName.world g.K.RunName.held g.K.RunName.run (g.N.Node.state node)) all) (sym every) c.requires.may),
      omega (arith, size, none, room),
    )

pub seat_of-requires : goal.seat_of-requires
seat_of-requires g c =
    let node = c.in-Some.node in
    let rest = into_iter_items c.next.new.self in
    (subst (AreEach (λ n. MaySit g.K.RunName.world g.K.RunName.held g.K.RunName.run (g.N.Node.state n)) (node ∷ rest)) c.in-Some-next.ensures.items
    (subst (λ ns. AreEach (λ n. MaySit g.K.RunName.world g.K.RunName.held g.K.RunName.run (g.N.Node.state n)) ns (into_iter_items c.loop-node.outfits)) c.in-Some.ensures.steps.0 c.loop-node.invariant.1)).0

pub loop-node-preserved : goal.loop-node-preserved
loop-node-preserved g c =
    let all = c.args.nodes.items in
    let node = c.in-Some.node in
    let next = c.in-Some.ensures.steps.0 in
    let rest = into_iter_items c.next.new.self in
    let i = c.loop-node.invariant in
    let left = ap length next in
    let room = i.2 in
    let more = ap length c.push_reserved.ensures.items ∙ length-append c.loop-node.seats.items (c.seat_of.result ∷ []) in
    let capacity = c.push_reserved.ensures.capacity in (
      subst (λ seats. AreFirst (λ n. IsPutAt g.N.Node.state (g.N.Node.state n).place) all seats rest) (sym c.push_reserved.ensures.items)
          (first_next (λ n. IsPutAt g.N.Node.state (g.N.Node.state n).place) all c.loop-node.seats.items node rest c.seat_of.result
          (subst (λ ns. AreFirst (λ n. IsPutAt g.N.Node.state (g.N.Node.state n).place) all c.loop-node.seats.items ns) next i.0) c.seat_of.ensures),
      (subst (AreEach (λ n. MaySit g.K.RunName.world g.K.RunName.held g.K.RunName.run (g.N.Node.state n)) (node ∷ rest)) c.in-Some-next.ensures.items
          (subst (λ ns. AreEach (λ n. MaySit g.K.RunName.world g.K.RunName.held g.K.RunName.run (g.N.Node.state n)) ns (into_iter_items c.loop-node.outfits)) next i.1)).1,
      omega (arith, left, room, more, capacity),
    )

pub returns : goal.returns
returns g c =
    let left = c.loop-node.node-iterator in
    first_all (λ node. IsPutAt g.N.Node.state (g.N.Node.state node).place) c.args.nodes.items c.loop-node.seats.items (into_iter_items left)
    (emptied (into_iter_items left) left.rest.len left.rest.ok.0 c.in-None.ensures.steps.0) c.loop-node.invariant.0
