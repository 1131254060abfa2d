-- What the calls of a resource as a node promise: all that `Node` promises of them, and that what its first opening found stays.
use Rattle.std.specs.Prelude.{◌≡◌, ◌+◌, ◌≤◌, ℕ, true, false, List, length, Option, Some, None, Result, Ok, Err, IfOk, IfErr, OnOk, OnErr}
use Rattle.disk_journal.specs.Keeping.{IsFull}
use Rattle.disk_model.specs.Disk.{DiskState}
use Rattle.disk_model.specs.Stop.{state_of}
use Rattle.disk_model.specs.declared.stoppable.Stoppable.{Stoppable}
use Rattle.seata_types.specs.declared.acts.Act.{Act}
use Rattle.seata_types.specs.declared.acts.Act.TheVariants as act
use Rattle.seata_types.specs.declared.errors.Full.{Full}
use Rattle.seata_types.specs.declared.errors.NodeError.{NodeError}
use Rattle.seata_types.specs.declared.errors.NodeError.TheVariants as error
use Rattle.seata_types.specs.declared.errors.OpenError.{OpenError}
use Rattle.seata_types.specs.declared.errors.OpenError.TheVariants as open_error
use Rattle.seata_types.specs.declared.errors.StoreError.{StoreError}
use Rattle.seata_types.specs.declared.errors.StoreError.TheVariants as store_error
use Rattle.seata_types.specs.declared.messages.Input.{Input}
use Rattle.seata_types.specs.declared.messages.Step.{Step}
use Rattle.durable_records.specs.declared.resources.ResourceRecord.{ResourceRecord}
use Rattle.history_rules.specs.Own.{Own, Stopped, Crashed, still}
use Rattle.history_rules.specs.ResourceMemory.{Setup, memory}
use Rattle.node_steps.specs.Durable.{SamePicks, HavePick}
use Rattle.node_steps.specs.Framing.{ComesFramable, SendsFramable}
use Rattle.node_steps.specs.Promises.{AreTold, DisksFail, StaysItself, Does, TakesStep, AfterError, steps_of, goes_down, Restarts, FailsRestart, Brings, stays_down}
use Rattle.memory_store.specs.Keeping.{StaysWhereShort}
use Rattle.resource_log.specs.Records.{record_bytes}
use Rattle.resource_store.specs.declared.store.Store.{Store}
use Rattle.resource_store.specs.Keeping.{BringsBack, Changes, boot_record, found_of, known, setting_of, twin}
use Rattle.resource_core.specs.declared.nodes.Resource.{Resource}
use Rattle.resource_core.specs.NodeStanding.{StandsOver, node_state}
use Rattle.resource_core.specs.Shown.{store_of, disks_of, needs, size_of, steps_left, is_down}
use Rattle.resource_core.specs.Stepping.{asked_record}

-- the first record that its first opening found stays
abbrev pub SameFound : {D : Type 0} → (old new : Resource D) → Type 0
SameFound old new = found_of (store_of new) ≡ found_of (store_of old)

-- the record that the rule's answer asks for, if it asks for one, ends within the active disk
abbrev pub HasRoom : {D : Type 0} → (D → DiskState) → Resource D → Input → Type 0
HasRoom state r given =
    (setup : Setup) (past : List ResourceRecord) (owns : List Own) → StandsOver state r setup past owns →
    (q : ResourceRecord) → asked_record setup (memory setup past owns) given ≡ Some q → needs r (length (record_bytes q)) ≤ size_of state r

-- it asks for one, which would end behind the disk's last byte, with both numbers
abbrev pub HasNoRoom : {D : Type 0} → (D → DiskState) → Resource D → Input → Full → Type 0
HasNoRoom state r given full =
    (setup : Setup) (past : List ResourceRecord) (owns : List Own) → StandsOver state r setup past owns →
    (q : ResourceRecord) × (asked_record setup (memory setup past owns) given ≡ Some q) × IsFull (needs r (length (record_bytes q))) (size_of state r) full

-- it had room for the record of a step that was answered, or at which the disks failed, and none for one that doesn't fit
abbrev pub HadRoom : {D : Type 0} → (D → DiskState) → Resource D → Input → Result Step NodeError → Type 0
HadRoom state r given (Ok step) = HasRoom state r given
HadRoom state r given (Err (error.Failed flight)) = HasRoom state r given
HadRoom state r given (Err (error.Full full)) = HasNoRoom state r given full
HadRoom state r given (Err error.NoMemory) = Unit {0}

pub record StepsBy {D : Type 0} (state : D → DiskState) (old new : Resource D) (given : Input) (now : ℕ) (result : Result Step NodeError) : Type 0 where
  pub answers : IfOk result (TakesStep (node_state state old) (node_state state new) given now)
  pub framable : ComesFramable given → IfOk result SendsFramable
  pub after : IfErr result (AfterError (node_state state old) (node_state state new) given now)
  pub room : HadRoom state old given result
  pub same : StaysItself (node_state state old) (node_state state new)
  pub picks : SamePicks (disks_of state old) (disks_of state new)
  pub counted : steps_left new + steps_of result ≡ steps_left old
  pub down : is_down new ≡ goes_down result
  pub found : SameFound old new

pub record ArmsBy {D : Type 0} (state : D → DiskState) (old new : Resource D) (calls : ℕ) : Type 0 where
  pub does : (now : ℕ) → Does (node_state state old) (node_state state new) (Stopped calls) now (still act.Armed)
  pub same : StaysItself (node_state state old) (node_state state new)
  pub picks : SamePicks (disks_of state old) (disks_of state new)
  pub counted : steps_left new ≡ steps_left old
  pub up : is_down new ≡ false
  pub found : SameFound old new

pub record CrashesBy {D : Type 0} (state : D → DiskState) (old new : Resource D) : Type 0 where
  pub does : (now : ℕ) → Does (node_state state old) (node_state state new) Crashed now (still (act.Down None None))
  pub same : StaysItself (node_state state old) (node_state state new)
  pub picks : SamePicks (disks_of state old) (disks_of state new)
  pub counted : steps_left new ≡ steps_left old
  pub down : is_down new ≡ true
  pub found : SameFound old new

-- what became of the boot of a restart that ended with this act
abbrev pub boot_made : Act → Result (Unit {0}) StoreError
boot_made (act.Restarted kept) = Ok tt
boot_made _ = Err store_error.Failed

-- What a restart with this pick left of a store: it was brought back, and then came the record of its boot, or the disks failed
-- at it.
pub record ComesBack {D : Type 0} (state : D → DiskState) (pick : ℕ) (boot : Result (Unit {0}) StoreError) (old new : Store (Stoppable D)) : Type 0 where
  -- the store before its boot
  pub back : Store (Stoppable D)
  pub setting : setting_of back ≡ setting_of old
  pub brings : BringsBack (state_of state) pick old back
  pub boots : Changes (state_of state) (boot_record (known back)) boot back new

pub record RestartsBy {D : Type 0} (state : D → DiskState) (old new : Resource D) (pick : ℕ) (calls : Option ℕ) (now : ℕ) (result : Result Act OpenError) : Type 0 where
  pub restarts : AreTold (disks_of state old) → IfOk result (Restarts (node_state state old) (node_state state new) pick calls now)
  pub after : AreTold (disks_of state old) → IfErr result (FailsRestart (node_state state old) (node_state state new) pick calls now)
  pub brings : AreTold (disks_of state old) → IfOk result (Brings (node_state state old) pick)
  -- one that fails changes no byte where the records are short
  pub not_due : OnErr result (StaysWhereShort (state_of state) (twin (store_of old)) (twin (store_of new)))
  -- its disks came back as this pick may bring them, with a snapshot in place of the records where one was due; then came its boot
  pub settles : AreTold (disks_of state old) → IfOk result (λ done. ComesBack state pick (boot_made done) (store_of old) (store_of new))
  pub picked : OnOk result (HavePick pick (disks_of state new))
  pub failed : result ≡ Err open_error.Failed → DisksFail (disks_of state old) (disks_of state new)
  pub same : StaysItself (node_state state old) (node_state state new)
  pub counted : steps_left new ≡ steps_left old
  pub down : is_down new ≡ stays_down result
  pub found : SameFound old new
