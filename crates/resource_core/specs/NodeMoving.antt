-- What the calls of a resource as a node do, apart from its steps.
use Rattle.std.specs.Prelude.{◌≡◌, ◌+◌, ℕ, nat_lt, true, false, if◌then◌else◌, List, Option, Some, None, Result, Ok, Err}
use Rattle.std.specs.Borrow.{Lends, Fml, RattleType, MutBor}
use Rattle.disk_model.specs.Disk.{DiskState}
use Rattle.disk_model.specs.Stop.{state_of}
use Rattle.disk_model.specs.declared.stoppable.Stoppable.{Stoppable}
use Rattle.disk_model.specs.contracts.stoppable.Stoppable.{the_row as stoppable_row}
use Rattle.journal_checkpoint.specs.Images.{Pair}
use Rattle.journal_checkpoint.specs.Keeping.{twin_extent}
use Rattle.seata_types.specs.declared.acts.Act.{Act}
use Rattle.seata_types.specs.declared.acts.Act.TheVariants as act
use Rattle.seata_types.specs.declared.acts.Durable.{Durable}
use Rattle.seata_types.specs.declared.acts.Durable.TheVariants as durable
use Rattle.seata_types.specs.declared.errors.NodeError.{NodeError}
use Rattle.seata_types.specs.declared.errors.NodeError.TheVariants as error
use Rattle.seata_types.specs.declared.errors.OpenError.{OpenError}
use Rattle.seata_types.specs.declared.errors.OpenError.TheVariants as open_error
use Rattle.seata_types.specs.declared.errors.StoreError.TheVariants as store_error
use Rattle.durable_records.specs.declared.resources.ResourceRecord.{ResourceRecord}
use Rattle.local_txn.specs.Answers.{no_tickets}
use Rattle.node_steps.specs.Durable.{own_faults}
use Rattle.resource_store.specs.declared.store.Store.{Store}
use Rattle.resource_store.specs.Meaning.{Setting}
use Rattle.resource_store.specs.Keeping.{setting_of, known, found_of, twin, is_down as store_is_down, BringsBack, KeepsRecords, Changes, boot_record, with_disk as store_with}
use Rattle.resource_core.specs.declared.nodes.Resource.{Resource}
use Rattle.resource_core.specs.contracts.nodes.Resource.{the_row}
use Rattle.resource_core.specs.Shown.{store_of, pair_of, active_of}

-- all stays but the store
abbrev pub with_store : {D : Type 0} → Resource D → Store (Stoppable D) → Resource D
with_store r s = record r { branches = record r.branches { store = s } }

-- the act in flight, where its record is on the disks
abbrev pub kept_of : {D : Type 0} → Resource D → Option Durable
kept_of r = if nat_lt r.records (known (store_of r)).acts then r.flight else None

-- ---- after a step without an answer

-- the disks failed at an act, which is in flight over so many records; or all is as before
abbrev pub Misses : {D : Type 0} → (records : ℕ) → NodeError → Resource D → Resource D → Type 0
Misses records (error.Failed at) old new =
    (new.branches ≡ old.branches) × (new.down ≡ true) × (new.flight ≡ Some at) × (new.records ≡ records) × (new.left + 1 ≡ old.left)
Misses records (error.Full full) old new = new ≡ old
Misses records error.NoMemory old new = new ≡ old

-- ---- a stop

-- of two disks nothing changed but what a stop lets pass
pub record ArmsPair (old new : Pair) : Type 0 where
  pub own : own_faults new ≡ own_faults old
  pub first_content : new.first.content ≡ old.first.content
  pub second_content : new.second.content ≡ old.second.content
  pub first_size : new.first.size ≡ old.first.size
  pub second_size : new.second.size ≡ old.second.size
  pub first_moments : new.first.tells_moments ≡ old.first.tells_moments
  pub second_moments : new.second.tells_moments ≡ old.second.tells_moments
  pub first_leaves : (c : List ℕ) → new.first.may_leave c → old.first.may_leave c
  pub second_leaves : (c : List ℕ) → new.second.may_leave c → old.second.may_leave c

-- a stop was armed on the active disk, and all else stays
pub record ArmsStore {D : Type 0} (state : D → DiskState) (calls : ℕ) (old new : Store (Stoppable D)) : Type 0 where
  pub keeps : (t : Setting) (rs : List ResourceRecord) → KeepsRecords (state_of state) t rs old → KeepsRecords (state_of state) t rs new
  -- what a restart brought back it keeps
  pub back : (pick : ℕ) (before : Store (Stoppable D)) → BringsBack (state_of state) pick before old → BringsBack (state_of state) pick before new
  pub left : (active_of state new).counts.left ≡ Some calls
  pub pair : ArmsPair (pair_of state old) (pair_of state new)
  pub extent : twin_extent (twin new) ≡ twin_extent (twin old)
  pub known : known new ≡ known old
  pub setting : setting_of new ≡ setting_of old
  pub found : found_of new ≡ found_of old
  pub down : store_is_down new ≡ store_is_down old

-- the same of a resource, which is otherwise as before
pub record Arms {D : Type 0} (state : D → DiskState) (calls : ℕ) (old new : Resource D) : Type 0 where
  pub store : ArmsStore state calls (store_of old) (store_of new)
  pub rest : new ≡ with_store old (store_of new)

-- the same where calls are given; without them nothing changes
abbrev pub ArmsWith : {D : Type 0} → (D → DiskState) → Option ℕ → Resource D → Resource D → Type 0
ArmsWith state None old new = new ≡ old
ArmsWith state (Some calls) old new = Arms state calls old new

-- ---- a boot

-- The record of one more boot is made, and the resource is up without tickets; or the disks failed, and it is down with the
-- boot in flight; or it doesn't fit, or memory was refused, and nothing changes.
abbrev pub Boots : {D : Type 0} → (D → DiskState) → Option Durable → Resource D → Resource D → Result Act OpenError → Type 0
Boots state kept old new (Ok (act.Restarted k)) =
    (k ≡ kept) × Changes (state_of state) (boot_record (known (store_of old))) (Ok tt) (store_of old) (store_of new)
    × (new ≡ record old { branches = record old.branches { store = store_of new; txns = no_tickets (known (store_of new)).boots }; down = false })
Boots state kept old new (Ok (act.Down k at)) =
    (k ≡ kept) × (at ≡ Some durable.Boot)
    × Changes (state_of state) (boot_record (known (store_of old))) (Err store_error.Failed) (store_of old) (store_of new)
    × (new ≡ record (with_store old (store_of new)) { flight = Some durable.Boot; records = (known (store_of old)).acts })
Boots state kept old new (Ok _) = ⊥
Boots state kept old new (Err (open_error.Full full)) =
    Changes (state_of state) (boot_record (known (store_of old))) (Err (store_error.Full full)) (store_of old) (store_of new) × (new ≡ old)
Boots state kept old new (Err open_error.NoMemory) = new ≡ old
Boots state kept old new (Err open_error.Failed) = ⊥
Boots state kept old new (Err (open_error.Damaged second at)) = ⊥

-- ---- a disk that is lent

module _ (D : RattleType) where
  abbrev pub with_disk : Resource D.Denot → Stoppable D.Denot → Resource D.Denot
  with_disk r disk = with_store r (store_with (store_of r) disk)

  -- it ends with the last disk behind d as the active one
  abbrev pub LendsActive : MutBor (Resource D.Denot) → MutBor (Stoppable D.Denot) → Fml
  LendsActive r d = Lends (the_row D) (stoppable_row D) r d (with_disk r.now)
