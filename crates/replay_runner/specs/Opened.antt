-- The nodes of a replay before its first entry, and their disks.
use Rattle.std.specs.Prelude.{◌≡◌, ℕ, List, [], ◌∷◌, length, map}
use Rattle.disk_model.specs.Disk.{DiskState}
use Rattle.disk_model.specs.Shelf.{ShelfState}
use Rattle.scenario_form.specs.declared.scenarios.Scenario.{Scenario}
use Rattle.resource_core.specs.declared.nodes.Resource.{Resource}
use Rattle.scenario_nodes.specs.Nodes.{IsNewCoordinator, IsNewManager, IsNewResource, coordinator_disks, resource_disks}
use Rattle.scenario_nodes.specs.Together.{AreEach, numbered}
use Rattle.replay_runner.specs.declared.members.Member.{Member}
use Rattle.replay_runner.specs.declared.nodes.Nodes.{Nodes}

-- ---- nodes

-- a node with a property, which made no entry
pub record IsNewMember {N K : Type 0} (P : N → Type 0) (m : Member N K) : Type 0 where
  pub node : P m.seat.node
  pub traced : m.seat.trace ≡ []
  pub turned : m.turned ≡ 0

-- this node, which made no entry
abbrev pub IsSeated : {N K : Type 0} → N → Member N K → Type 0
IsSeated node m = IsNewMember (λ seated. seated ≡ node) m

-- nodes that made no entry, one for each of these definitions, with a property by its number, counted from 1
abbrev pub AreNewMembers : {A N K : Type 0} → (ℕ → A → N → Type 0) → List A → List (Member N K) → Type 0
AreNewMembers {A} {N} {K} P defs members = AreEach (λ (one : ℕ × A) (m : Member N K). IsNewMember (P one.0 one.1) m) (numbered 1 defs) members

-- all nodes of a scenario, on disks of a shelf
pub record AreNewNodes {D K : Type 0} (state : D → DiskState) (shelf : ShelfState D) (s : Scenario) (n : Nodes D K) : Type 0 where
  pub coordinator : IsNewMember (IsNewCoordinator state shelf s (length s.managers) (length s.resources)) n.coordinator
  pub resources : AreNewMembers (IsNewResource state shelf s) s.resources n.resources.items
  pub managers : AreNewMembers (IsNewManager s) s.managers n.managers.items

-- ---- disks, without their stops

abbrev pub member_pair : {D K : Type 0} → Member (Resource D) K → D × D
member_pair m = resource_disks m.seat.node

-- those of the coordinator and of the resources, in order
abbrev pub node_disks : {D K : Type 0} → Nodes D K → List (D × D)
node_disks n = coordinator_disks n.coordinator.seat.node ∷ map member_pair n.resources.items
