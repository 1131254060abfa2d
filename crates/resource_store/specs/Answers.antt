-- What a call on a resource answers, and the record that its store makes for it, if it makes one.
use Rattle.std.specs.Prelude.{◌≡◌, ◌⊎◌, ◌≤◌, true, List, length, Option, Some, None, Result, Ok, Err, IfOk}
use Rattle.disk_model.specs.Disk.{DiskState}
use Rattle.seata_types.specs.declared.errors.StoreError.{StoreError}
use Rattle.seata_types.specs.declared.errors.StoreError.TheVariants as store_error
use Rattle.seata_types.specs.declared.limits.TheConstants.{BODY_BYTES}
use Rattle.seata_types.specs.declared.rows.Image.{Image}
use Rattle.seata_types.specs.declared.rows.ReadRow.{ReadRow}
use Rattle.seata_types.specs.declared.statements.Stmt.{Stmt}
use Rattle.local_tables.specs.Calls.{effect}
use Rattle.local_tables.specs.Rows.{Database}
use Rattle.local_tables.specs.declared.schemas.Effect.{Effect}
use Rattle.durable_records.specs.declared.resources.ResourceRecord.{ResourceRecord}
use Rattle.durable_records.specs.RowsKept.{tables}
use Rattle.resource_log.specs.Records.{FitsRecord, record_bytes}
use Rattle.resource_memory.specs.Changes.{fit}
use Rattle.resource_store.specs.declared.store.Store.{Store}
use Rattle.resource_store.specs.Meaning.{Setting, opening_of}
use Rattle.resource_store.specs.Keeping.{setting_of, Changes, IsTaken, is_down, has_failed}

-- an answer, and the record that is made for it
pub record Answer (A : Type 0) : Type 0 where
  pub told : A
  pub made : Option ResourceRecord

-- an answer for which nothing changes
abbrev pub only : {A : Type 0} → A → Answer A
only a = record { told = a; made = None }

-- an answer that is given once this record is made
abbrev pub making : {A : Type 0} → ResourceRecord → A → Answer A
making r a = record { told = a; made = Some r }

-- what became of the record of an answer
abbrev pub outcome : {A : Type 0} → Result A StoreError → Result (Unit {0}) StoreError
outcome (Ok a) = Ok tt
outcome (Err e) = Err e

-- the record is made, or why it isn't; where there is none nothing changes, and memory alone can be wanting
abbrev pub Does : {A D : Type 0} → (D → DiskState) → Option ResourceRecord → Result A StoreError → Store D → Store D → Type 0
Does state (Some r) result old new = Changes state r (outcome result) old new
Does state None (Ok a) old new = new ≡ old
Does state None (Err e) old new = (e ≡ store_error.NoMemory) × (new ≡ old)

-- a call gives this answer, unless its record isn't made
pub record Gives {A D : Type 0} (state : D → DiskState) (answer : Answer A) (result : Result A StoreError) (old new : Store D) : Type 0 where
  pub told : IfOk result (λ a. a ≡ answer.told)
  pub does : Does state answer.made result old new

-- the tables as these records leave them
abbrev pub tables_now : Setting → List ResourceRecord → Database
tables_now t rs = tables (opening_of t) rs

-- ---- what a store takes

-- images and reads of rows of these tables, in rising order of keys and of no more rows than a call may have, in a record that
-- has a place in a journal
pub record TakesRows (db : Database) (images : List Image) (reads : List ReadRow) (r : ResourceRecord) : Type 0 where
  pub fit : fit db images reads ≡ true
  pub fits : FitsRecord r
  pub small : length (record_bytes r) ≤ BODY_BYTES

-- a record that has a place in a journal
pub record HasPlace (r : ResourceRecord) : Type 0 where
  pub fits : FitsRecord r
  pub small : length (record_bytes r) ≤ BODY_BYTES

-- where statements have an effect on these tables, the record of its images has a place in a journal
abbrev pub HasPlaces : Database → List Stmt → (List Image → ResourceRecord) → Type 0
HasPlaces db stmts with_images = (e : Effect) → effect db stmts ≡ Ok e → HasPlace (with_images e.images)

-- ---- whatever a store keeps

-- What a call leaves of its store: all stays, or a record that is taken was made, or failed to be.
pub record Leaves {A D : Type 0} (state : D → DiskState) (result : Result A StoreError) (old new : Store D) : Type 0 where
  pub down : is_down new ≡ has_failed (outcome result)
  pub setting : setting_of new ≡ setting_of old
  pub changes : (new ≡ old) ⊎ ((r : ResourceRecord) × IsTaken r old × Changes state r (outcome result) old new)
