-- What becomes of an answer: the record that it asks for is made, or a transaction is due again, and then its step is given.
use Rattle.std.specs.Prelude.{◌≡◌, ◌≤◌, ℕ, ◌+◌, true, List, [], length, Option, Some, None, Result, Ok, Err}
use Rattle.disk_model.specs.Disk.{DiskState}
use Rattle.seata_types.specs.declared.errors.NodeError.{NodeError}
use Rattle.seata_types.specs.declared.errors.StoreError.{StoreError}
use Rattle.seata_types.specs.declared.errors.StoreError.TheVariants as store_error
use Rattle.seata_types.specs.declared.ids.Xid.{Xid}
use Rattle.seata_types.specs.declared.limits.TheConstants.{BODY_BYTES}
use Rattle.seata_types.specs.declared.messages.Step.{Step}
use Rattle.seata_types.specs.declared.rows.RowKey.{RowKey}
use Rattle.byte_fields.specs.Layout.{FitsKeys}
use Rattle.durable_records.specs.declared.coordinators.SessionRecord.{SessionRecord}
use Rattle.durable_records.specs.SessionOrder.{is_within}
use Rattle.lock_table.specs.Locks.{TakesAtMost}
use Rattle.session_log.specs.Records.{record_bytes}
use Rattle.session_memory.specs.Changes.{may_come, taken_rows}
use Rattle.session_store.specs.Keeping.{managers_of, resources_of}
use Rattle.coordinator_rules.specs.Answers.{LeavesBy}
use Rattle.coordinator_rules.specs.Costs.{held_rows}
use Rattle.coordinator_rules.specs.declared.answers.Answer.{Answer}
use Rattle.coordinator_core.specs.declared.table.Table.{Table}
use Rattle.coordinator_core.specs.Answers.{AddsOn}
use Rattle.coordinator_core.specs.Knowledge.{knowledge, memory}
use Rattle.coordinator_core.specs.Plain.{error_at}

-- a record that a table may make: it fits the disks, is of its scenario, and may come
pub record IsMadeOn {D : Type 0} (t : Table D) (r : SessionRecord) : Type 0 where
  pub keys : FitsKeys (taken_rows r)
  pub small : length (record_bytes r) ≤ BODY_BYTES
  pub within : is_within (managers_of t.sessions) (resources_of t.sessions) r ≡ true
  pub allowed : may_come (memory t) r ≡ true

-- the rows that the record of an answer takes
abbrev pub asked_rows : Option SessionRecord → List RowKey
asked_rows None = []
asked_rows (Some r) = taken_rows r

-- the steps that this takes at most: for each binary digit of the number of rows that are held or to be held one comparison for each
abbrev pub TakingCosts : {D : Type 0} → Option SessionRecord → Table D → (old new : ℕ) → Type 0
TakingCosts asked t old new = TakesAtMost (length (asked_rows asked)) (held_rows (memory t) + length (asked_rows asked)) old new

-- a transaction is due again, if one is; without memory nothing changes
abbrev pub GoesLater : {D : Type 0} → Option Xid → Table D → Table D → ℕ → Result (Unit {0}) StoreError → Type 0
GoesLater again old new now (Ok done) = LeavesBy None again (knowledge old) (knowledge new) now × (new.sessions ≡ old.sessions)
GoesLater again old new now (Err cause) = (cause ≡ store_error.NoMemory) × (new ≡ old)

-- the record is added, if one is asked for, else a transaction is due again
abbrev pub KeepsOn : {D : Type 0} → (D → DiskState) → Option SessionRecord → Option Xid → Table D → Table D → ℕ → Result (Unit {0}) StoreError → Type 0
KeepsOn state (Some r) again old new now result = AddsOn state old new r now result
KeepsOn state None again old new now result = GoesLater again old new now result

-- its step is given, or its act isn't done
abbrev pub TakesAnswer : {D : Type 0} → (D → DiskState) → Answer → Table D → Table D → ℕ → Result Step NodeError → Type 0
TakesAnswer state a old new now (Ok step) = (step ≡ a.step) × KeepsOn state a.asked a.again old new now (Ok tt)
TakesAnswer state a old new now (Err told) = (cause : StoreError) × (told ≡ error_at cause a.step.act) × KeepsOn state a.asked a.again old new now (Err cause)
