use Rattle.std.proofs.Common.{◌-◌, ◌<◌, length, refl, arith}
use Rattle.std.proofs.lemmas.Option.{slice_get_read}
use Rattle.std.specs.Vec.{with_item}
use Rattle.run_links.proofs.Joined.{call_joined}
use Rattle.run_links.proofs.Made.{call_placed}
use Rattle.run_links.proofs.linking.link_calls.Goals as goal

pub loop-at-preserved : goal.loop-at-preserved
loop-at-preserved c =
    let k = c.loop-at.at-index in
    let calls = c.args.calls.now in
    let call = c.loop-at-item.result in
    let m = c.args.number in
    let first = c.args.links.now in
    let l = c.loop-at.links in
    let made = c.loop-at.invariant.2 in
    let at = slice_get_read calls (length calls) k call refl c.loop-at-test.true c.loop-at-item.is in
    let among = call_placed (length first.resources.items) calls k call at c.requires.calls in
    let manager_below : m - 1 < length l.managers.items = omega (arith, c.requires.counted.0, c.requires.counted.1, made.managers) in
    let resource_below : call.0 - 1 < length l.resources.items = omega (arith, among.0, among.1, made.resources) in
    let manager = slice_get_read l.managers.items (length l.managers.items) (m - 1) c.index_mut-manager.result.now refl manager_below c.index_mut-manager.ensures.value in
    let resource = slice_get_read l.resources.items (length l.resources.items) (call.0 - 1) c.index_mut-resource.result.now refl resource_below c.index_mut-resource.ensures.value in
    call_joined m k calls call first l
    (record { coordinator = l.coordinator; resources = with_item l.resources (call.0 - 1) c.join.new.other; managers = with_item l.managers (m - 1) c.join.new.one })
    c.index_mut-manager.result.now c.index_mut-resource.result.now c.join.new.one c.join.new.other at c.requires.counted.0 among.0 manager resource refl refl refl c.loop-at.invariant c.in_ok-join.ensures
