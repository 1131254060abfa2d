-- What one call that links two nodes adds to the links so far.
use Rattle.std.proofs.Common.{◌≡◌, ◌+◌, ◌-◌, ◌≤◌, ℕ, List, drop, set, slice_get, Some, refl}
use Rattle.seata_types.specs.declared.ids.Place.TheVariants as place
use Rattle.seata_types.specs.declared.statements.Work.{Work}
use Rattle.run_links.specs.declared.links.NodeLinks.{NodeLinks}
use Rattle.run_links.specs.declared.links.RunLinks.{RunLinks}
use Rattle.run_links.specs.Linked.{AreJoined, AreLinks, HaveMade, goes_to}
use Rattle.run_links.specs.Routes.{both_ways, call_routes, resource_routes}
use Rattle.run_links.proofs.AtNodes.{joined, set_next, set_number, with_call, with_manager, with_resource}
use Rattle.run_links.proofs.Made.{HaveMadeBut, call_more, resource_more}

-- the coordinator and the next resource
pub resource_joined : (k : ℕ) (first l l' : RunLinks) (other one' other' : NodeLinks) → slice_get l.resources.items k ≡ Some other → l'.coordinator ≡ one'
    → l'.resources.items ≡ set l.resources.items k other' → l'.managers.items ≡ l.managers.items → HaveMade (resource_routes k) first l
    → AreJoined (goes_to (place.Res (k + 1)) l.coordinator.senders.items) place.Tc (place.Res (k + 1)) l.coordinator other one' other' → HaveMade (resource_routes (k + 1)) first l'
resource_joined k first l l' other one' other' there one resources managers made join =
    resource_more k first l l' made
    (joined l l' place.Tc (place.Res (k + 1)) l.coordinator other one' other'
    (with_resource l l' (k + 1) other one' other' one (set_next l.resources.items l'.resources.items k other other' there resources) managers) made.links
    (goes_to (place.Res (k + 1)) l.coordinator.senders.items) refl join)

-- the coordinator and a manager
pub manager_joined : (n : ℕ) (l l' : RunLinks) (other one' other' : NodeLinks) → 1 ≤ n → slice_get l.managers.items (n - 1) ≡ Some other → l'.coordinator ≡ one'
    → l'.managers.items ≡ set l.managers.items (n - 1) other' → l'.resources.items ≡ l.resources.items → AreLinks l
    → AreJoined (goes_to (place.Man n) l.coordinator.senders.items) place.Tc (place.Man n) l.coordinator other one' other' → HaveMade (both_ways place.Tc (place.Man n)) l l'
manager_joined n l l' other one' other' counted there one managers resources are join =
    joined l l' place.Tc (place.Man n) l.coordinator other one' other'
    (with_manager l l' n other one' other' one (set_number l.managers.items l'.managers.items n other other' counted there managers) resources) are
    (goes_to (place.Man n) l.coordinator.senders.items) refl join

-- a manager and the resource of its next call
pub call_joined : (m k : ℕ) (calls : List (ℕ × Work)) (call : ℕ × Work) (first l l' : RunLinks) (one other one' other' : NodeLinks) → slice_get calls k ≡ Some call → 1 ≤ m → 1 ≤ call.0
    → slice_get l.managers.items (m - 1) ≡ Some one → slice_get l.resources.items (call.0 - 1) ≡ Some other → l'.coordinator ≡ l.coordinator
    → l'.managers.items ≡ set l.managers.items (m - 1) one' → l'.resources.items ≡ set l.resources.items (call.0 - 1) other'
    → HaveMadeBut (call_routes m (drop k calls)) (call_routes m calls) first l
    → AreJoined (goes_to (place.Res call.0) one.senders.items) (place.Man m) (place.Res call.0) one other one' other'
    → HaveMadeBut (call_routes m (drop (k + 1) calls)) (call_routes m calls) first l'
call_joined m k calls call first l l' one other one' other' at manager_counted resource_counted manager resource coordinator managers resources made join =
    call_more m k calls call first l l' at made
    (joined l l' (place.Man m) (place.Res call.0) one other one' other'
    (with_call l l' m call.0 one other one' other' coordinator (set_number l.managers.items l'.managers.items m one one' manager_counted manager managers)
    (set_number l.resources.items l'.resources.items call.0 other other' resource_counted resource resources)) made.2.links
    (goes_to (place.Res call.0) one.senders.items) refl join)
