-- What adding a record to a store comes to.
use Rattle.std.specs.Prelude.{◌≡◌, ◌⊎◌, ◌↔◌, ℕ, ◌<◌, Some, IsTrue, List, length, Result, Err, OnOk}
use Rattle.disk_model.specs.Disk.{DiskState}
use Rattle.seata_types.specs.declared.errors.Full.{Full}
use Rattle.seata_types.specs.declared.errors.StoreError.{StoreError}
use Rattle.seata_types.specs.declared.errors.StoreError.TheVariants as store_error
use Rattle.journal_checkpoint.specs.declared.types.Found.{Found}
use Rattle.journal_checkpoint.specs.Extents.{longer}
use Rattle.journal_checkpoint.specs.Images.{PairStandsFor, LeavesPairs, Either, with_record}
use Rattle.journal_checkpoint.specs.Keeping.{KeepsPair, active_disk, disks, twin_extent}
use Rattle.memory_store.specs.declared.store.Store.{Store}
use Rattle.memory_store.specs.Meanings.{Meaning}
use Rattle.memory_store.specs.Keeping.{machine_of, twin_of, found_of, is_down, Keeps, Takes, Falls, IsAtEnd, IsFullFor, HasRoomIfTaken, ChangesMemory}

-- What a call that adds a record with this body does, by its answer.
pub record Adds {M K D I : Type 0} (state : D → DiskState) (m : Meaning K I) (item : I) (body : List ℕ) (result : Result (Unit {0}) StoreError) (old new : Store M K D) : Type 0 where
  -- at Ok its disks keep the record behind what they kept
  pub keeps : OnOk result ((kept : Found) → Keeps state m kept old → Keeps state m (with_record kept body) new)
  pub memory : ChangesMemory m item result old new
  -- its journal then stands behind the record
  pub extent : OnOk result (twin_extent (twin_of new) ≡ longer (length body) (twin_extent (twin_of old)))
  -- a crash at any moment of the call, however it ends, leaves what was there, with the new record or without
  pub any_moment : (kept : Found) → KeepsPair state kept (twin_of old) →
      LeavesPairs (disks state (twin_of old)) (disks state (twin_of new)) (Either kept (with_record kept body))
  -- where a stop lets fewer calls pass than the first write with its sync, no image has the new record
  pub not_begun : (kept : Found) → KeepsPair state kept (twin_of old) → (calls : ℕ) → (state (active_disk (twin_of old))).counts.left ≡ Some calls → calls < 2 →
      LeavesPairs (disks state (twin_of old)) (disks state (twin_of new)) (PairStandsFor kept)
  pub took : OnOk result (Takes state (twin_of old) (twin_of new))
  pub failed : result ≡ Err store_error.Failed → Falls state (twin_of old) (twin_of new)
  pub full : (full : Full) → result ≡ Err (store_error.Full full) → IsFullFor state (length body) old full ⊎ IsAtEnd m old
  -- it is exact where its disks keep what it knows
  pub exact : (kept : Found) (full : Full) → Keeps state m kept old → result ≡ Err (store_error.Full full) → IsFullFor state (length body) old full
  pub room : HasRoomIfTaken state (length body) result old
  -- it is down exactly after a failure
  pub down : IsTrue (is_down new) ↔ (result ≡ Err store_error.Failed)
  pub machine : machine_of new ≡ machine_of old
  pub found : found_of new ≡ found_of old
