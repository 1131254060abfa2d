-- What a resource shows of itself as a node.
use Rattle.std.specs.Prelude.{ℕ, Bool}
use Rattle.disk_model.specs.Disk.{DiskState}
use Rattle.disk_model.specs.Stop.{state_of}
use Rattle.disk_model.specs.declared.stoppable.Stoppable.{Stoppable}
use Rattle.journal_checkpoint.specs.Images.{Pair}
use Rattle.journal_checkpoint.specs.Keeping.{active_disk, first_disk, second_disk, needed_for}
use Rattle.seata_types.specs.declared.ids.Place.{Place}
use Rattle.seata_types.specs.declared.ids.Place.TheVariants as place
use Rattle.history_rules.specs.ResourceMemory.{Setup}
use Rattle.resource_store.specs.declared.store.Store.{Store}
use Rattle.resource_store.specs.Keeping.{twin}
use Rattle.resource_core.specs.declared.nodes.Resource.{Resource}
use Rattle.resource_core.specs.Holding.{setup_of}

abbrev pub store_of : {D : Type 0} → Resource D → Store (Stoppable D)
store_of r = r.branches.store

-- what it is
abbrev pub setup_in : {D : Type 0} → Resource D → Setup
setup_in r = setup_of r.branches

-- where it stands
abbrev pub stands_at : {D : Type 0} → Resource D → Place
stands_at r = place.Res r.branches.setup.number

-- how many steps it can still make
abbrev pub steps_left : {D : Type 0} → Resource D → ℕ
steps_left r = r.left

abbrev pub is_down : {D : Type 0} → Resource D → Bool
is_down r = r.down

-- the two disks of a store, with a stop that may be armed
abbrev pub pair_of : {D : Type 0} → (D → DiskState) → Store (Stoppable D) → Pair
pair_of state s = record { first = state_of state (first_disk (twin s)); second = state_of state (second_disk (twin s)) }

abbrev pub disks_of : {D : Type 0} → (D → DiskState) → Resource D → Pair
disks_of state r = pair_of state (store_of r)

abbrev pub active_of : {D : Type 0} → (D → DiskState) → Store (Stoppable D) → DiskState
active_of state s = state_of state (active_disk (twin s))

-- where a record with a body of so many bytes would end on the active disk, and the disk's size
abbrev pub needs : {D : Type 0} → Resource D → ℕ → ℕ
needs r body = needed_for (twin (store_of r)) body

abbrev pub size_of : {D : Type 0} → (D → DiskState) → Resource D → ℕ
size_of state r = (active_of state (store_of r)).size
