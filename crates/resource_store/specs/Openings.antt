-- The errors of an opening that adds the record of a boot.
use Rattle.std.specs.Prelude.{◌≡◌, ◌⊎◌, List, length, ℕ, Err}
use Rattle.disk_model.specs.Disk.{DiskState}
use Rattle.journal_checkpoint.specs.Ends.{HasNoPlace}
use Rattle.seata_types.specs.declared.errors.Full.{Full}
use Rattle.seata_types.specs.declared.errors.OpenError.{OpenError}
use Rattle.seata_types.specs.declared.errors.OpenError.TheVariants as open_error
use Rattle.seata_types.specs.declared.errors.StoreError.{StoreError}
use Rattle.seata_types.specs.declared.errors.StoreError.TheVariants as store_error
use Rattle.durable_records.specs.declared.resources.ResourceRecord.TheVariants as log
use Rattle.memory_store.specs.Holdings.{memory_on}
use Rattle.memory_store.specs.Meanings.{Meaning}
use Rattle.resource_log.specs.Records.{record_bytes}

-- what a store's error is there
abbrev pub opening_error : StoreError → OpenError
opening_error store_error.Failed = open_error.Failed
opening_error (store_error.Full full) = open_error.Full full
opening_error store_error.NoMemory = open_error.NoMemory

-- how many bytes the record of a boot has, of each number
abbrev pub boot_length : ℕ
boot_length = length (record_bytes (log.Boot 1))

-- the record of a boot has no place behind those that these disks hold, of which one has so many bytes
pub record IsBootFull (first second : DiskState) (full : Full) : Type 0 where
  pub no_place : HasNoPlace (record { first = first; second = second }) full.size boot_length full
  pub size : (full.size ≡ first.size) ⊎ (full.size ≡ second.size)

-- an opening of bytes that stand for records fails for its disks, for want of room or of memory, and never for damage
abbrev pub IsUndamaged : (first second : DiskState) → OpenError → Type 0
IsUndamaged first second (open_error.Damaged on at) = ⊥
IsUndamaged first second (open_error.Full full) = IsBootFull first second full
IsUndamaged first second open_error.Failed = Unit {0}
IsUndamaged first second open_error.NoMemory = Unit {0}

-- an error that is a damage is the one that the bytes have
abbrev pub IsBootDamage : {K I : Type 0} → Meaning K I → List ℕ → List ℕ → OpenError → Type 0
IsBootDamage m a b (open_error.Damaged second at) = memory_on m a b ≡ Err (open_error.Damaged second at)
IsBootDamage m a b (open_error.Full full) = Unit {0}
IsBootDamage m a b open_error.Failed = Unit {0}
IsBootDamage m a b open_error.NoMemory = Unit {0}
