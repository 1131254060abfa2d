-- What a resource keeps of its own entries as a node, in memory and on its disks.
use Rattle.std.specs.Prelude.{◌≡◌, ◌⊎◌, ◌+◌, ◌-◌, ◌≤◌, ◌^◌, ℕ, min, true, false, List, [], ◌∷◌, length, Option, Some}
use Rattle.std.specs.List.{AllByRecursion}
use Rattle.disk_model.specs.Disk.{DiskState}
use Rattle.disk_model.specs.Stop.{state_of}
use Rattle.disk_model.specs.declared.stoppable.Stoppable.{Stoppable}
use Rattle.journal_checkpoint.specs.Extents.{Extent}
use Rattle.seata_types.specs.declared.messages.Input.{Input}
use Rattle.seata_types.specs.declared.limits.TheConstants.{RESOURCES}
use Rattle.frame_codec.specs.Limits.{IsCounted}
use Rattle.durable_records.specs.declared.resources.ResourceRecord.{ResourceRecord}
use Rattle.history_rules.specs.Own.{Own, Left}
use Rattle.history_rules.specs.Devices.{calls_left, fault_entries, in_flight, is_down as down_by}
use Rattle.history_rules.specs.ResourceMemory.{Memory, Setup, memory}
use Rattle.history_rules.specs.Nodes.{Role, Coordinator, Manager}
use Rattle.history_rules.specs.Nodes.{Resource as ResourceRole}
use Rattle.node_steps.specs.Durable.{keepable, own_faults}
use Rattle.node_steps.specs.Nodes.{NodeState}
use Rattle.resource_store.specs.declared.store.Store.{Store}
use Rattle.resource_store.specs.Keeping.{setting_of, known, is_down as store_is_down, KeepsRecords}
use Rattle.resource_store.specs.Meaning.{Setting, Opens, IsOf}
use Rattle.resource_store.specs.Standing.{StandsForRecords}
use Rattle.record_places.specs.Within.{IsTableWithin}
use Rattle.resource_core.specs.declared.nodes.Resource.{Resource}
use Rattle.seata_types.specs.declared.limits.TheConstants.{NODE_STEPS}
use Rattle.resource_core.specs.Holding.{Holds}
use Rattle.resource_core.specs.Lying.{Lies}
use Rattle.resource_core.specs.Ready.{AreTicketsWithin, HasActionWithin, HasStmtsWithin, Serves}
use Rattle.resource_core.specs.Shown.{store_of, setup_in, stands_at, steps_left, is_down, pair_of, disks_of, active_of}

-- ---- its disks

-- the bytes stand for the records, or for these and the one that may be kept
abbrev pub StandsForEither : Setting → Left ResourceRecord → Option ResourceRecord → (a b : List ℕ) → Type 0
StandsForEither t left kept a b = StandsForRecords t left.records a b ⊎ ((r : ResourceRecord) × (kept ≡ Some r) × StandsForRecords t (r ∷ left.records) a b)

-- What the disks of a store are after these own entries, which leave these records. While the node is up a stop lets so many
-- calls pass; and always each pair of images stands for the records, or for these with the one in flight that may be kept, and
-- the own faults are counted.
pub record OnDisks {D : Type 0} (state : D → DiskState) (s : Store (Stoppable D)) (left : Left ResourceRecord) (os : List Own) : Type 0 where
  pub passes : down_by os ≡ false → (active_of state s).counts.left ≡ calls_left true os
  pub images : (a b : List ℕ) → (pair_of state s).first.may_leave a → (pair_of state s).second.may_leave b →
      StandsForEither (setting_of s) left (keepable true os left) a b
  pub counted : min (fault_entries true os) (2 ^ 64 - 1) ≤ own_faults (pair_of state s)

-- ---- what it stands for

-- what a restart goes by, while it is down
pub record IsFallen {D : Type 0} (r : Resource D) (m : Memory) (os : List Own) : Type 0 where
  pub flight : r.flight ≡ in_flight os
  pub count : r.records ≡ length m.left.records
  pub closed : m.opens ≡ []

-- it is the resource with this setup and these own entries, over the records that its disks had before
pub record StandsOver {D : Type 0} (state : D → DiskState) (r : Resource D) (setup : Setup) (past : List ResourceRecord) (os : List Own) : Type 0 where
  pub is : setup ≡ setup_in r
  pub numbered : r.branches.setup.number ≡ setup.number
  pub down : r.down ≡ down_by os
  pub disks : OnDisks state (store_of r) (memory setup past os).left os
  pub holds : down_by os ≡ false → Holds (state_of state) r.branches (memory setup past os)
  pub fallen : down_by os ≡ true → IsFallen r (memory setup past os) os

-- a store keeps the records that the own entries of a resource leave
abbrev pub KeepsOwnRecords : {D : Type 0} → (D → DiskState) → Resource D → Store (Stoppable D) → Type 0
KeepsOwnRecords state r s =
    (setup : Setup) (past : List ResourceRecord) (os : List Own) → StandsOver state r setup past os → KeepsRecords (state_of state) (setting_of s) (memory setup past os).left.records s

-- it has this role, and is the resource of these own entries
abbrev pub StandsAs : {D : Type 0} → (D → DiskState) → Resource D → Role → List Own → Type 0
StandsAs state r (ResourceRole setup past) os = StandsOver state r setup past os
StandsAs state r (Coordinator times past) os = ⊥
StandsAs state r (Manager settings) os = ⊥

-- its journal stood there at the first opening, on disks of this size, and stands where these own entries leave it
abbrev pub LiesAs : {D : Type 0} → (D → DiskState) → Resource D → Role → (start : Extent) → (size : ℕ) → List Own → Type 0
LiesAs state r (ResourceRole setup past) start size os = Lies (state_of state) (store_of r) setup past start size os
LiesAs state r (Coordinator times past) start size os = ⊥
LiesAs state r (Manager settings) start size os = ⊥

-- ---- what it needs to answer

-- What always holds of a resource, whatever its disks keep: its setup is within the limits of a scenario, it opened no more
-- tickets than it made steps, and while it is up what it knows and its open tickets have places in its journal.
pub record IsSound {D : Type 0} (r : Resource D) : Type 0 where
  pub numbered : r.branches.setup.number ≡ (setting_of (store_of r)).resource
  pub counted : IsCounted RESOURCES r.branches.setup.number
  pub opens : Opens (setting_of (store_of r))
  pub tables : AllByRecursion IsTableWithin (setting_of (store_of r)).schema.tables
  pub actions : AllByRecursion HasActionWithin r.branches.setup.actions
  pub locals : AllByRecursion HasStmtsWithin r.branches.setup.locals
  pub steps : r.branches.txns.opened + r.left ≤ NODE_STEPS
  pub up : r.down ≡ false → store_is_down (store_of r) ≡ false
  pub knows : r.down ≡ false → IsOf (setting_of (store_of r)) (known (store_of r))
  pub tickets : r.down ≡ false → AreTicketsWithin (known (store_of r)).tables r.branches.txns.opens

-- what it answers by the rules
abbrev pub serves : {D : Type 0} → Resource D → Input → Type 0
serves r given = IsSound r × Serves given

-- ---- as a node

abbrev pub node_state : {D : Type 0} → (D → DiskState) → Resource D → NodeState
node_state state r = record {
  stands_for = StandsAs state r;
  lies = LiesAs state r;
  place = stands_at r;
  serves = serves r;
  left = steps_left r;
  stops = true;
  down = is_down r;
  disks = disks_of state r;
}
