-- Where an opening or a restart leaves a journal, by lengths alone: a checkpoint is made exactly where one is due and can be made.
use Rattle.std.specs.Prelude.{ℕ, ◌+◌, ◌-◌, ◌^◌, ◌==◌, ◌≡◌, nat_lt, nat_le, ◌&&◌, not, Bool, if◌then◌else◌, length}
use Rattle.disk_model.specs.Disk.{DiskState}
use Rattle.seata_types.specs.declared.limits.TheConstants.{ACTS}
use Rattle.journal_checkpoint.specs.declared.layout.TheConstants.{AROUND}
use Rattle.journal_checkpoint.specs.declared.twin.Twin.{Twin}
use Rattle.journal_checkpoint.specs.Extents.{Extent, is_long, on_snapshot}
use Rattle.journal_checkpoint.specs.Keeping.{AreSized, twin_extent}
use Rattle.memory_store.specs.Meanings.{Meaning}

-- the snapshot that would be written: of how many acts, whether it can be, and in how many bytes
pub record Saving : Type 0 where
  pub acts : ℕ
  pub can : Bool
  pub count : ℕ

abbrev pub saving_by : {K I : Type 0} → Meaning K I → K → Saving
saving_by m known = record { acts = m.acts known; can = m.can_write known; count = length (m.snapshot_bytes known) }

-- it can be put in place of the records on a disk of this size
abbrev pub can_settle : (size : ℕ) → Saving → Extent → Bool
can_settle size s e = nat_lt s.acts ACTS && (s.can && (nat_le (s.count + AROUND) size && not (e.generation == 2 ^ 32 - 1)))

-- where the journal stands after that, on two disks of this size
abbrev pub checked : (size : ℕ) → Saving → Extent → Extent
checked size s e = if is_long size e && can_settle size s e then on_snapshot s.count e else e

-- two disks of one size, which stood there, were left so
abbrev pub AreChecked : {K I D : Type 0} → (D → DiskState) → Meaning K I → K → Extent → Twin D → Type 0
AreChecked state m known before t = (size : ℕ) → AreSized state t size → twin_extent t ≡ checked size (saving_by m known) before
