use Rattle.std.proofs.Common.{◌<◌, length, refl, arith}
use Rattle.std.proofs.lemmas.Option.{slice_get_read}
use Rattle.std.specs.Vec.{with_item}
use Rattle.run_links.proofs.Joined.{resource_joined}
use Rattle.run_links.proofs.linking.link_resources.Goals as goal

pub loop-k-preserved : goal.loop-k-preserved
loop-k-preserved c =
    let k = c.loop-k.k in
    let l = c.loop-k.links in
    let below : k < length l.resources.items = omega (arith, c.loop-k-test.true, c.len-k-end.ensures, c.args.links.now.resources.ok.0, c.loop-k.invariant.resources) in
    let resource = slice_get_read l.resources.items (length l.resources.items) k c.index_mut-resource.result.now refl below c.index_mut-resource.ensures.value in
    resource_joined k c.args.links.now l (record { coordinator = c.join.new.one; resources = with_item l.resources k c.join.new.other; managers = l.managers }) c.index_mut-resource.result.now c.join.new.one
    c.join.new.other resource refl refl refl c.loop-k.invariant c.in_ok-join.ensures
