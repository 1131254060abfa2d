-- The nodes of a replay that are out of their seats.
use Rattle.std.proofs.Common.{◌≡◌, ◌∙◌, List, [], ◌∷◌, map, refl, ap}
use Rattle.coordinator_core.specs.declared.nodes.Coordinator.{Coordinator}
use Rattle.resource_core.specs.declared.nodes.Resource.{Resource}
use Rattle.scenario_nodes.specs.Nodes.{coordinator_disks, resource_disks}
use Rattle.replay_runner.specs.declared.members.Member.{Member}
use Rattle.replay_runner.specs.declared.nodes.Nodes.{Nodes}
use Rattle.replay_runner.specs.Collecting.{AreNodesOf}
use Rattle.replay_runner.specs.Opened.{member_pair, node_disks}

pairs_out : {D K : Type 0} (members : List (Member (Resource D) K)) (resources : List (Resource D)) → AreNodesOf members resources → map resource_disks resources ≡ map member_pair members
pairs_out [] [] each = refl
pairs_out {D} (m ∷ ms) (r ∷ rs) each =
    ap (λ (x : Resource D). resource_disks x ∷ map resource_disks rs) each.0 ∙ ap (λ (ds : List (D × D)). resource_disks m.seat.node ∷ ds) (pairs_out ms rs each.1)
pairs_out [] (r ∷ rs) each = absurd each
pairs_out (m ∷ ms) [] each = absurd each

-- they have the same disks
pub disks_out : {D K : Type 0} (n : Nodes D K) (c : Coordinator D) (resources : List (Resource D)) → c ≡ n.coordinator.seat.node → AreNodesOf n.resources.items resources
    → coordinator_disks c ∷ map resource_disks resources ≡ node_disks n
disks_out {D} n c resources same each =
    ap (λ (x : Coordinator D). coordinator_disks x ∷ map resource_disks resources) same
    ∙ ap (λ (ds : List (D × D)). coordinator_disks n.coordinator.seat.node ∷ ds) (pairs_out n.resources.items resources each)
