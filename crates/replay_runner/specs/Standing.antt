-- What the nodes of a replay stand for.
use Rattle.std.specs.Prelude.{◌≡◌, ℕ, List, length, Option, Some, None}
use Rattle.disk_model.specs.Disk.{DiskState}
use Rattle.journal_checkpoint.specs.Extents.{Extent}
use Rattle.journal_checkpoint.specs.Images.{Pair}
use Rattle.seata_types.specs.declared.ids.Place.{Place}
use Rattle.seata_types.specs.declared.ids.Place.TheVariants as place
use Rattle.scenario_form.specs.declared.scenarios.Scenario.{Scenario}
use Rattle.history_rules.specs.Own.{Own}
use Rattle.history_rules.specs.Devices.{last_pick}
use Rattle.history_rules.specs.Nodes.{Role, counted_at, role_at}
use Rattle.history_rules.specs.Histories.{Moment, own}
use Rattle.node_steps.specs.Nodes.{NodeState}
use Rattle.node_steps.specs.Promises.{AreTold, no_disks}
use Rattle.history_text.specs.Worlds.{world_of}
use Rattle.coordinator_core.specs.Standing as coordinator
use Rattle.resource_core.specs.declared.nodes.Resource.{Resource}
use Rattle.resource_core.specs.NodeStanding as resource
use Rattle.resource_core.specs.Shown as shown
use Rattle.manager_core.specs.declared.nodes.Manager.{Manager}
use Rattle.manager_core.specs.Standing as manager
use Rattle.node_seat.specs.Entering.{HaveLast}
use Rattle.scenario_nodes.specs.Nodes.{HaveSize, Held}
use Rattle.replay_runner.specs.declared.members.Member.{Member}
use Rattle.replay_runner.specs.declared.nodes.Nodes.{Nodes}
use Rattle.replay_runner.specs.Members.{IsMember}

-- ---- one node

-- A node with disks of so many bytes, which tell their bytes and have the pick of its last restart. Its journal stands where its entries leave
-- it, from where it stood.
pub record IsServer {N K : Type 0} (state : N → NodeState) (p : Place) (role : Role) (begun : Extent) (bytes : ℕ) (m : Member N K) (ms : List Moment) : Type 0 where
  pub member : IsMember state p role m ms
  pub lies : (state m.seat.node).lies role begun bytes (own p ms)
  pub told : AreTold (state m.seat.node).disks
  pub picked : HaveLast (last_pick (own p ms)) (state m.seat.node).disks
  pub sized : HaveSize bytes (state m.seat.node).disks

-- the node at a place has this role, after these moments
abbrev pub HasNode : {D K : Type 0} → (D → DiskState) → Held → (bytes : ℕ) → Nodes D K → List Moment → Place → Role → Type 0
HasNode state held bytes n ms place.Net role = ⊥
HasNode state held bytes n ms place.Tc role = IsServer (coordinator.node_state state) place.Tc role (held.starts place.Tc) bytes n.coordinator ms
HasNode {D} {K} state held bytes n ms (place.Res k) role =
    (m : Member (Resource D) K) × (counted_at n.resources.items k ≡ Some m) × IsServer (resource.node_state state) (place.Res k) role (held.starts (place.Res k)) bytes m ms
HasNode {D} {K} state held bytes n ms (place.Man k) role =
    (m : Member Manager K) × (counted_at n.managers.items k ≡ Some m) × IsMember manager.node_state (place.Man k) role m ms

-- ---- all nodes of a scenario, after these moments

pub record AreNodes {D K : Type 0} (state : D → DiskState) (s : Scenario) (held : Held) (n : Nodes D K) (ms : List Moment) : Type 0 where
  pub resources : length n.resources.items ≡ length s.resources
  pub managers : length n.managers.items ≡ length s.managers
  pub each : (p : Place) (role : Role) → role_at (world_of s) held.past p ≡ Some role → HasNode state held s.disk n ms p role

-- ---- once a replay has ended

-- a node stands for these own entries, on disks of so many bytes
pub record StandsOn (bytes : ℕ) (node : NodeState) (role : Role) (os : List Own) : Type 0 where
  pub stands : node.stands_for role os
  pub sized : HaveSize bytes node.disks

-- so does the node at a place
abbrev pub StandsAt : {D K : Type 0} → (D → DiskState) → (bytes : ℕ) → Nodes D K → Place → Role → List Own → Type 0
StandsAt state bytes n place.Net role os = ⊥
StandsAt state bytes n place.Tc role os = StandsOn bytes (coordinator.node_state state n.coordinator.seat.node) role os
StandsAt {D} {K} state bytes n (place.Res k) role os =
    (m : Member (Resource D) K) × (counted_at n.resources.items k ≡ Some m) × StandsOn bytes (resource.node_state state m.seat.node) role os
StandsAt {D} {K} state bytes n (place.Man k) role os = (m : Member Manager K) × (counted_at n.managers.items k ≡ Some m) × manager.StandsAs m.seat.node role os

-- each node stands for its own, on disks of the scenario's size
abbrev pub AllStand : {D K : Type 0} → (D → DiskState) → Scenario → Held → Nodes D K → List Moment → Type 0
AllStand state s held n ms = (p : Place) (role : Role) → role_at (world_of s) held.past p ≡ Some role → StandsAt state s.disk n p role (own p ms)

-- the disks of a resource, if there is one
abbrev pub member_disks : {D K : Type 0} → (D → DiskState) → Option (Member (Resource D) K) → Pair
member_disks state None = no_disks
member_disks state (Some m) = shown.disks_of state m.seat.node

-- the disks of the node at a place
abbrev pub disks_at : {D K : Type 0} → (D → DiskState) → Nodes D K → Place → Pair
disks_at state n place.Tc = coordinator.disks_of state n.coordinator.seat.node
disks_at state n (place.Res k) = member_disks state (counted_at n.resources.items k)
disks_at state n _ = no_disks
