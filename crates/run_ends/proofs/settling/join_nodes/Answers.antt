use Rattle.std.proofs.Common.{◌≡◌, ◌<◌, arith, get_or, length, subst}
use Rattle.std.proofs.lemmas.Option.{slice_get-get_or}
use Rattle.run_ends.specs.Joining.{AreLeft}
use Rattle.run_ends.proofs.Walking.{left_more, left_none, taken_named}
use Rattle.run_ends.proofs.settling.join_nodes.Goals as goal

pub loop-k-init : goal.loop-k-init
loop-k-init g c = left_none c.args.nodes.now

pub join_all-requires : goal.join_all-requires
join_all-requires g c = record { named = taken_named g.K.RunName.run _ c.give_takers-takers.result.items c.give_takers-takers.ensures.links }

pub loop-k-preserved : goal.loop-k-preserved
loop-k-preserved g c =
    let now = c.loop-k.nodes in
    let k = c.loop-k.k in
    let x = c.index-nodes-k.result in
    let given = c.give_takers-takers in
    let size = c.loop-k.auto.nodes in
    let test = c.loop-k-test.true in
    let below : k < length now = omega (arith, size, test) in
    left_more g.K.RunName.run c.args.nodes.now now c.join_all.new.nodes k (get_or now k x) given.new.self given.result.items c.loop-k.invariant (slice_get-get_or now k x below) given.ensures.takers
    given.ensures.links given.ensures.rest c.in_ok-join_all.ensures

pub returns : goal.returns
returns g c =
    let end = c.loop-k.auto.k-end in
    let test = c.loop-k-test.false in
    let last : c.loop-k.k ≡ length c.args.nodes.now = omega (arith, end, test) in
    subst (λ n. AreLeft n c.args.nodes.now c.loop-k.nodes) last c.loop-k.invariant
