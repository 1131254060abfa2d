-- What a coordinator's sessions on two disks show of themselves and keep, said of each list of records.
use Rattle.std.specs.Prelude.{◌≡◌, ◌≢◌, ℕ, ◌+◌, Bool, true, false, Option, Some, None, List, ◌∷◌, length, Result, Ok, Err, IfOk, IfErr}
use Rattle.std.specs.Borrow.{Lends, Fml, RattleType, MutBor}
use Rattle.disk_model.specs.Disk.{DiskState, present}
use Rattle.seata_types.specs.declared.errors.Full.{Full}
use Rattle.seata_types.specs.declared.errors.OpenError.{OpenError}
use Rattle.seata_types.specs.declared.errors.StoreError.{StoreError}
use Rattle.seata_types.specs.declared.errors.StoreError.TheVariants as store_error
use Rattle.seata_types.specs.declared.ids.BranchId.{BranchId}
use Rattle.seata_types.specs.declared.ids.Xid.{Xid}
use Rattle.seata_types.specs.declared.rows.RowKey.{RowKey}
use Rattle.journal_checkpoint.specs.declared.types.Found.{Found}
use Rattle.journal_checkpoint.specs.declared.twin.Twin.{Twin}
use Rattle.journal_checkpoint.specs.Extents.{Extent, longer}
use Rattle.journal_checkpoint.specs.Keeping.{twin_extent, with_active}
use Rattle.memory_store.specs.declared.store.Store.{Store}
use Rattle.memory_store.specs.Meanings.{Meaning}
pub use Rattle.memory_store.specs.Settling.{IsNoDamage}
use Rattle.memory_store.specs.ListKeeping as listed
use Rattle.memory_store.specs.Lists as standing
use Rattle.memory_store.specs.Lists.{Lists}
use Rattle.memory_store.specs.Keeping.{SameTwins, with_twin, twin_of, memory_of, machine_of, found_of as store_found_of, is_down as store_is_down, Keeps, Takes, Falls, IsFullFor}
use Rattle.durable_records.specs.declared.coordinators.SessionRecord.{SessionRecord}
use Rattle.durable_records.specs.declared.coordinators.SessionRecord.TheVariants as log
use Rattle.session_log.specs.declared.sessions.RegisterPlace.{RegisterPlace}
use Rattle.session_log.specs.declared.sessions.Snapshot.{Snapshot}
use Rattle.session_log.specs.Records.{record_bytes}
use Rattle.lock_table.specs.Locks.{first_held, locks, TakesAtMost}
use Rattle.session_memory.specs.Holding.{held_in}
use Rattle.session_memory.specs.Changes.{after, granted_record, taken_rows}
use Rattle.session_store.specs.declared.errors.RegisterError.{RegisterError}
use Rattle.session_store.specs.declared.errors.RegisterError.TheVariants as register_error
use Rattle.session_store.specs.declared.machine.SessionMachine.{SessionMachine}
use Rattle.session_store.specs.declared.sessions.Sessions.{Sessions}
use Rattle.session_store.specs.contracts.sessions.Sessions.{the_row}
use Rattle.session_store.specs.Meaning.{meaning_of}
use Rattle.session_store.specs.Standing.{lists_of, StandsForSessions}

-- ---- what it shows of itself

-- its memory over its disks
abbrev pub store_of : {D : Type 0} → Sessions D → Store SessionMachine Snapshot D
store_of s = s.store

-- how many managers and resources its scenario has
abbrev pub managers_of : {D : Type 0} → Sessions D → ℕ
managers_of s = (machine_of s.store).managers

abbrev pub resources_of : {D : Type 0} → Sessions D → ℕ
resources_of s = (machine_of s.store).resources

-- what it knows
abbrev pub known : {D : Type 0} → Sessions D → Snapshot
known s = memory_of s.store

-- its two disks, with the records on them
abbrev pub twin : {D : Type 0} → Sessions D → Twin D
twin s = twin_of s.store

-- a call failed, so that it takes no more records
abbrev pub is_down : {D : Type 0} → Sessions D → Bool
is_down s = store_is_down s.store

-- the first record that its opening read, as a disk and an offset
abbrev pub found_of : {D : Type 0} → Sessions D → Option (Bool × ℕ)
found_of s = store_found_of s.store

-- the scenario that it is of, and what its opening found first
pub record SameOpening {D : Type 0} (old new : Sessions D) : Type 0 where
  pub managers : managers_of new ≡ managers_of old
  pub resources : resources_of new ≡ resources_of old
  pub found : found_of new ≡ found_of old

-- ---- the records that it keeps

-- how records make what it knows
abbrev pub meaning : {D : Type 0} → Sessions D → Meaning Snapshot SessionRecord
meaning s = meaning_of (managers_of s) (resources_of s)

-- the bytes of two disks stand for these records of its scenario
abbrev pub StandsFor : {D : Type 0} → Sessions D → List SessionRecord → List ℕ → List ℕ → Type 0
StandsFor s rs a b = StandsForSessions (managers_of s) (resources_of s) rs a b

-- what lists of its scenario's records say
abbrev pub lists : {D : Type 0} → Sessions D → Lists Snapshot SessionRecord Snapshot
lists s = lists_of (managers_of s) (resources_of s)

-- each pair of images of its disks stands for these records, and what it knows is their snapshot
abbrev pub KeepsRecords : {D : Type 0} → (D → DiskState) → List SessionRecord → Sessions D → Type 0
KeepsRecords state rs s = listed.KeepsRecords state (lists s) rs s.store

-- ---- one record more

-- the bytes stand for these records, and their journal stands there
abbrev pub StandsAt : {D : Type 0} → Sessions D → List SessionRecord → Extent → List ℕ → List ℕ → Type 0
StandsAt s rs e a b = listed.StandsAt (lists s) rs e a b

-- the bytes stand for the records, with their journal there, or for these and the new one behind them
abbrev pub AtOrBehind : {D : Type 0} → Sessions D → SessionRecord → List SessionRecord → Extent → List ℕ → List ℕ → Type 0
AtOrBehind s r rs e a b = listed.AtOrBehind (lists s) r rs e a b

-- a crash at any moment of the call leaves the records, with the new one or without
abbrev pub LeavesEither : {D : Type 0} → (D → DiskState) → SessionRecord → Sessions D → Sessions D → Type 0
LeavesEither state r old new = (rs : List SessionRecord) → KeepsRecords state rs old → listed.LeavesEither state (lists new) r rs old.store new.store

-- the record ends within the active disk
abbrev pub HasRoom : {D : Type 0} → (D → DiskState) → SessionRecord → Sessions D → Type 0
HasRoom state r s = listed.HasRoom state (lists s) r s.store

-- The record fits, is on the disks, and known.
pub record Adds {D : Type 0} (state : D → DiskState) (r : SessionRecord) (old new : Sessions D) : Type 0 where
  pub fits : HasRoom state r old
  pub knows : known new ≡ after r (known old)
  pub keeps : (rs : List SessionRecord) → KeepsRecords state rs old → KeepsRecords state (r ∷ rs) new
  pub any_moment : LeavesEither state r old new
  pub took : Takes state (twin old) (twin new)
  pub extent : twin_extent (twin new) ≡ longer (length (record_bytes r)) (twin_extent (twin old))
  pub up : is_down new ≡ false
  pub opening : SameOpening old new

-- The active disk failed: it may have the record, which fits, or not, and hasn't where a stop let fewer than two calls pass.
-- The record is known.
pub record Loses {D : Type 0} (state : D → DiskState) (r : SessionRecord) (old new : Sessions D) : Type 0 where
  pub fits : HasRoom state r old
  pub knows : known new ≡ after r (known old)
  pub any_moment : LeavesEither state r old new
  pub not_begun : (rs : List SessionRecord) → KeepsRecords state rs old → listed.LeavesFirst state (lists new) rs old.store new.store
  pub falls : Falls state (twin old) (twin new)
  pub down : is_down new ≡ true
  pub opening : SameOpening old new

-- where it keeps what its disks hold, the record would end behind the active disk's last byte
abbrev pub HasNoRoom : {D : Type 0} → (D → DiskState) → SessionRecord → Sessions D → Full → Type 0
HasNoRoom state r s full = (found : Found) → Keeps state (meaning s) found s.store → IsFullFor state (length (record_bytes r)) s.store full

-- Why a record isn't added: the disks fail; or it doesn't fit, or memory is refused, and nothing changes.
abbrev pub Fails : {D : Type 0} → (D → DiskState) → SessionRecord → StoreError → Sessions D → Sessions D → Type 0
Fails state r store_error.Failed old new = Loses state r old new
Fails state r (store_error.Full full) old new = (new ≡ old) × HasNoRoom state r old full
Fails state r store_error.NoMemory old new = new ≡ old

-- what a call that makes one record does, by its answer
abbrev pub Makes : {D X : Type 0} → (D → DiskState) → SessionRecord → Result X StoreError → Sessions D → Sessions D → Type 0
Makes state r (Ok answer) old new = Adds state r old new
Makes state r (Err error) old new = Fails state r error old new

-- it registers a branch; no other record has a list
abbrev pub registers : SessionRecord → Bool
registers (log.Granted xid branch resource call ticket kind hold) = true
registers _ = false

-- the record of a transaction that begins
abbrev pub begun_record : Snapshot → (manager now timeout : ℕ) → SessionRecord
begun_record s manager now timeout = log.Begun (record { 0 = s.begun + 1 }) manager now timeout

-- ---- registrations

-- the record of the next branch
abbrev pub register_record : Snapshot → Xid → RegisterPlace → List RowKey → SessionRecord
register_record s xid place hold = granted_record xid (s.granted + 1) place hold

-- no other transaction holds one of these rows
abbrev pub AreFree : {D : Type 0} → Sessions D → Xid → List RowKey → Type 0
AreFree s x rows = first_held (held_in (known s)) x rows ≡ None

-- the answer of a branch whose record is made
abbrev pub registered : {X : Type 0} → BranchId → Result X StoreError → Result BranchId RegisterError
registered branch (Ok done) = Ok branch
registered branch (Err error) = Err (register_error.Store error)

-- What a registration does: the branch is registered where no other transaction holds a row to hold or to check. Else the first
-- such row and its holder are answered, and nothing changes.
abbrev pub Registers : {D : Type 0} → (D → DiskState) → SessionRecord → Xid → (rows : List RowKey) → Result BranchId RegisterError → Sessions D → Sessions D → Type 0
Registers state r x rows (Ok branch) old new = AreFree old x rows × Adds state r old new
Registers state r x rows (Err (register_error.Held key by)) old new = (first_held (held_in (known old)) x rows ≡ Some (key, by)) × (new ≡ old)
Registers state r x rows (Err (register_error.Store error)) old new = (error ≢ store_error.NoMemory → AreFree old x rows) × Fails state r error old new

-- how many rows are held
abbrev pub held_rows : {D : Type 0} → Sessions D → ℕ
held_rows s = length (locks (held_in (known s)))

-- The steps by which a record takes its rows: for each binary digit of the number of rows that are held or to be held, one comparison
-- for each row.
abbrev pub TakesSteps : {D : Type 0} → SessionRecord → Sessions D → (old new : ℕ) → Type 0
TakesSteps r s old new = TakesAtMost (length (taken_rows r)) (held_rows s + length (taken_rows r)) old new

-- ---- openings and restarts

-- two disks stay
abbrev pub SameDisks : {D : Type 0} → Sessions D → Sessions D → Type 0
SameDisks old new = SameTwins (twin old) (twin new)

-- each list of records that the one pair of bytes stands for, the other one stands for too
abbrev pub GoesOnAs : (managers resources : ℕ) → (a b c d : List ℕ) → Type 0
GoesOnAs managers resources a b c d = standing.GoesOnAs (lists_of managers resources) a b c d

-- Two disks were read, of a scenario with so many managers and resources: each list of records that their bytes stand for is kept, and
-- bytes that stand for records are never damaged.
pub record KeepsEach {D : Type 0} (state : D → DiskState) (of_managers of_resources : ℕ) (first second : D) (result : Result (Sessions D) (OpenError × D × D)) : Type 0 where
  pub keeps : IfOk result (λ s. (rs : List SessionRecord) (a b : List ℕ) → present (state first) ≡ Some a → present (state second) ≡ Some b →
      StandsForSessions of_managers of_resources rs a b → KeepsRecords state rs s)
  pub recovers : IfErr result (λ failed. (rs : List SessionRecord) (a b : List ℕ) → present (state first) ≡ Some a → present (state second) ≡ Some b →
      StandsForSessions of_managers of_resources rs a b → IsNoDamage failed.0)
  pub managers : IfOk result (λ s. managers_of s ≡ of_managers)
  pub resources : IfOk result (λ s. resources_of s ≡ of_resources)

-- It came back as one of the pairs of images that this pick may give, and keeps each list of records that the pair stands for.
abbrev pub BringsBack : {D : Type 0} → (D → DiskState) → ℕ → Sessions D → Sessions D → Type 0
BringsBack state pick old new = listed.BringsBack state (lists new) pick old.store new.store

-- ---- a disk that is lent

module _ (D : RattleType) where
  abbrev pub with_disk : Sessions D.Denot → D.Denot → Sessions D.Denot
  with_disk s disk = record s { store = with_twin s.store (with_active (twin s) disk) }

  -- it ends with the last disk behind r as the active one
  abbrev pub LendsActive : MutBor (Sessions D.Denot) → MutBor D.Denot → Fml
  LendsActive s r = Lends (the_row D) D s r (with_disk s.now)
