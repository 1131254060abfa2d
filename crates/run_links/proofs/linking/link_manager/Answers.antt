use Rattle.std.proofs.Common.{◌-◌, ◌<◌, length, refl, arith}
use Rattle.std.proofs.lemmas.Option.{slice_get_read}
use Rattle.std.specs.Vec.{with_item}
use Rattle.seata_types.specs.declared.ids.Place.TheVariants as place
use Rattle.run_links.specs.Routes.{both_ways, call_routes}
use Rattle.run_links.proofs.Joined.{manager_joined}
use Rattle.run_links.proofs.Made.{made_then}
use Rattle.run_links.proofs.linking.link_manager.Goals as goal

pub link_calls-requires-clause-links : goal.link_calls-requires-clause-links
link_calls-requires-clause-links c =
    let m = c.args.number in
    let l = c.args.links.now in
    let below : m - 1 < length l.managers.items = omega (arith, c.requires.counted.0, c.requires.counted.1) in
    let manager = slice_get_read l.managers.items (length l.managers.items) (m - 1) c.index_mut-manager.result.now refl below c.index_mut-manager.ensures.value in
    (manager_joined m l (record { coordinator = c.join.new.one; resources = l.resources; managers = with_item l.managers (m - 1) c.join.new.other }) c.index_mut-manager.result.now c.join.new.one
    c.join.new.other c.requires.counted.0 manager refl refl refl c.requires.links c.in_ok-join.ensures).links

pub returns : goal.returns
returns c =
    let m = c.args.number in
    let l = c.args.links.now in
    let below : m - 1 < length l.managers.items = omega (arith, c.requires.counted.0, c.requires.counted.1) in
    let manager = slice_get_read l.managers.items (length l.managers.items) (m - 1) c.index_mut-manager.result.now refl below c.index_mut-manager.ensures.value in
    made_then (both_ways place.Tc (place.Man m)) (call_routes m c.args.calls.now) l
    (record { coordinator = c.join.new.one; resources = l.resources; managers = with_item l.managers (m - 1) c.join.new.other }) c.link_calls.new.links
    (manager_joined m l (record { coordinator = c.join.new.one; resources = l.resources; managers = with_item l.managers (m - 1) c.join.new.other }) c.index_mut-manager.result.now c.join.new.one
    c.join.new.other c.requires.counted.0 manager refl refl refl c.requires.links c.in_ok-join.ensures) c.in_ok-link_calls.ensures
