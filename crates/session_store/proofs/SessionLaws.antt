-- What the calls of a store say of lists of records.
use Rattle.std.proofs.Common.{◌≡◌, ◌⊎◌, ◌==◌, ◌&&◌, ◌<◌, ◌+◌, ◌++◌, ℕ, true, false, List, ◌∷◌, length, Option, Some, None, is_none, Result, Ok, Err, refl, sym, ap, subst, ◌∙◌, IsTrue, ◌↔◌}
use Rattle.std.specs.Prelude.{OnOk}
use Rattle.disk_model.specs.Disk.{DiskState}
use Rattle.seata_types.specs.declared.errors.Full.{Full}
use Rattle.seata_types.specs.declared.errors.OpenError.{OpenError}
use Rattle.seata_types.specs.declared.errors.StoreError.{StoreError}
use Rattle.seata_types.specs.declared.errors.StoreError.TheVariants as store_error
use Rattle.seata_types.specs.declared.ids.BranchId.{BranchId}
use Rattle.seata_types.specs.declared.ids.Xid.{Xid}
use Rattle.seata_types.specs.declared.rows.RowKey.{RowKey}
use Rattle.journal_checkpoint.specs.declared.types.Found.{Found}
use Rattle.journal_checkpoint.specs.Images.{PairStandsFor, LeavesPairs, Either, with_record}
use Rattle.journal_checkpoint.specs.Extents.{longer}
use Rattle.journal_checkpoint.specs.Keeping.{KeepsPair, active_disk, first_disk, second_disk, disks, twin_extent}
use Rattle.memory_store.specs.Keeping.{Keeps, Takes, Falls, HasRoomFor, HasRoomIfTaken, IsFullFor, ChangesMemory, IsDamage, machine_of, found_of as store_found_of}
use Rattle.memory_store.specs.ListKeeping as listed
use Rattle.memory_store.specs.Lists.{AreLawful}
use Rattle.memory_store.proofs.ListKeeping as laws
use Rattle.memory_store.proofs.Lists as standing
use Rattle.durable_records.specs.declared.coordinators.SessionRecord.{SessionRecord}
use Rattle.durable_records.specs.SessionOrder.{is_within}
use Rattle.session_log.specs.declared.sessions.RegisterPlace.{RegisterPlace}
use Rattle.session_log.specs.declared.sessions.Snapshot.{Snapshot}
use Rattle.session_log.specs.Records.{FitsRecord, record_of, record_bytes}
use Rattle.lock_table.specs.Locks.{locks, first_held}
use Rattle.lock_table.specs.Answers.{FindsConflict}
use Rattle.lock_table.specs.declared.errors.HoldError.{HoldError}
use Rattle.lock_table.specs.declared.errors.HoldError.TheVariants as hold_error
use Rattle.lock_table.proofs.Firsts.{free_first}
use Rattle.session_memory.specs.Holding.{held_in}
use Rattle.session_memory.specs.Lookups.{status_in}
use Rattle.session_memory.specs.Changes.{is_begin, is_new, are_free, after, may_come}
use Rattle.session_memory.proofs.Small.{and_both, nat_same}
use Rattle.session_store.specs.declared.errors.RegisterError.TheVariants as register_error
use Rattle.session_store.specs.declared.machine.SessionMachine.{SessionMachine}
use Rattle.session_store.specs.declared.sessions.Sessions.{Sessions}
use Rattle.session_store.specs.Refusals.{of_hold}
use Rattle.session_store.specs.Meaning.{meaning_of}
use Rattle.session_store.specs.Standing.{StandsForSessions, lists_of}
use Rattle.session_store.specs.Keeping.{managers_of, resources_of, known, twin, is_down, meaning, lists, StandsFor, SameOpening, KeepsRecords, Adds, Loses, Makes, register_record, registered, AreFree, Registers, IsNoDamage, BringsBack}
use Rattle.session_store.proofs.ListLaws.{goes_behind, lists_lawful, written_back}

-- ---- small

pub same_opening : {D : Type 0} (old new : Sessions D) → machine_of new.store ≡ machine_of old.store → store_found_of new.store ≡ store_found_of old.store → SameOpening old new
same_opening old new same place = record {
  managers = ap (λ (k : SessionMachine). k.managers) same;
  resources = ap (λ (k : SessionMachine). k.resources) same;
  found = place;
}

pub same_sessions : {D : Type 0} (old new : Sessions D) → new.store ≡ old.store → new ≡ old
same_sessions old new same = λ i. record { store = same i }

-- what is kept, in the words of what it is of
pub keeps_of : {D : Type 0} (state : D → DiskState) (k : SessionMachine) (rs : List SessionRecord) (s : Sessions D) → machine_of s.store ≡ k → listed.KeepsRecords state (lists_of k.managers k.resources) rs s.store
    → KeepsRecords state rs s
keeps_of state k rs s same = subst (λ (q : SessionMachine). listed.KeepsRecords state (lists_of q.managers q.resources) rs s.store) (sym same)

-- ---- one record more

module _ {D : Type 0} (state : D → DiskState) (old new : Sessions D) (r : SessionRecord) (body : List ℕ)
    (fits : FitsRecord r) (is : body ≡ record_bytes r) (allowed : may_come (known old) r ≡ true) (within : is_within (managers_of old) (resources_of old) r ≡ true)
    (machine : machine_of new.store ≡ machine_of old.store) (place : store_found_of new.store ≡ store_found_of old.store)
    (any_moment : (found : Found) → KeepsPair state found (twin old) → LeavesPairs (disks state (twin old)) (disks state (twin new)) (Either found (with_record found body)))
    (not_begun : (found : Found) → KeepsPair state found (twin old) → (calls : ℕ) → (state (active_disk (twin old))).counts.left ≡ Some calls → calls < 2 →
    LeavesPairs (disks state (twin old)) (disks state (twin new)) (PairStandsFor found)) where
  lawful : AreLawful (lists old)
  lawful = lists_lawful (managers_of old) (resources_of old)

  body_is : record_of body ≡ Some r
  body_is = ap record_of is ∙ written_back r fits

  module _ (rs : List SessionRecord) (k : KeepsRecords state rs old) where
    leaves_either : listed.LeavesEither state (lists new) r rs old.store new.store
    leaves_either = subst (λ (q : SessionMachine). listed.LeavesEither state (lists_of q.managers q.resources) r rs old.store new.store) (sym machine)
        (laws.leaves_either (lists old) lawful state old.store new.store r body is body_is allowed (goes_behind (managers_of old) (resources_of old) r within) rs k (any_moment k.found k.kept.pair))

    leaves_first : listed.LeavesFirst state (lists new) rs old.store new.store
    leaves_first = subst (λ (q : SessionMachine). listed.LeavesFirst state (lists_of q.managers q.resources) rs old.store new.store) (sym machine)
        (λ calls left few. laws.leaves_first (lists old) lawful state old.store new.store r body is body_is allowed (goes_behind (managers_of old) (resources_of old) r within) rs k
        (not_begun k.found k.kept.pair calls left few))

    keeps_more : KeepsPair state (with_record k.found body) (twin new) → known new ≡ after r (known old) → KeepsRecords state (r ∷ rs) new
    keeps_more pair now = keeps_of state (machine_of old.store) (r ∷ rs) new machine
        (laws.keeps_more (lists old) lawful state old.store new.store r body is body_is allowed (goes_behind (managers_of old) (resources_of old) r within) rs k pair now)

  -- the disks have it, and it is known
  pub adds : HasRoomFor state (length body) old.store → ((found : Found) → Keeps state (meaning old) found old.store → KeepsPair state (with_record found body) (twin new)) → known new ≡ after r (known old) → Takes state (twin old) (twin new) →
      twin_extent (twin new) ≡ longer (length body) (twin_extent (twin old)) → is_down new ≡ false → Adds state r old new
  adds room pair now took extent up = record {
    fits = subst (λ (bytes : List ℕ). HasRoomFor state (length bytes) old.store) is room;
    knows = now;
    keeps = λ rs k. keeps_more rs k (pair k.found k.kept) now;
    any_moment = leaves_either;
    took = took;
    extent = extent ∙ ap (λ (bytes : List ℕ). longer (length bytes) (twin_extent (twin old))) is;
    up = up;
    opening = same_opening old new machine place;
  }

  -- the disks failed
  pub loses : HasRoomFor state (length body) old.store → known new ≡ after r (known old) → Falls state (twin old) (twin new) → is_down new ≡ true → Loses state r old new
  loses room now falls down = record {
    fits = subst (λ (bytes : List ℕ). HasRoomFor state (length bytes) old.store) is room;
    knows = now;
    any_moment = leaves_either;
    not_begun = leaves_first;
    falls = falls;
    down = down;
    opening = same_opening old new machine place;
  }

  -- what adding a record answers
  pub makes : (result : Result (Unit {0}) StoreError) →
      OnOk result ((found : Found) → Keeps state (meaning old) found old.store → Keeps state (meaning old) (with_record found body) new.store) →
      ChangesMemory (meaning old) r result old.store new.store → OnOk result (Takes state (twin old) (twin new)) → OnOk result (twin_extent (twin new) ≡ longer (length body) (twin_extent (twin old))) → (result ≡ Err store_error.Failed → Falls state (twin old) (twin new)) →
      ((found : Found) (full : Full) → Keeps state (meaning old) found old.store → result ≡ Err (store_error.Full full) → IsFullFor state (length body) old.store full) →
      HasRoomIfTaken state (length body) result old.store → IsTrue (is_down new) ↔ (result ≡ Err store_error.Failed) → Makes state r result old new
  makes (Ok done) keeps memory took extent falls exact room down =
      adds room (λ found kept. (keeps found kept).pair) memory took extent (laws.down_by (is_down new) (Ok done) down)
  makes (Err store_error.Failed) keeps memory took extent falls exact room down = loses room memory (falls refl) (down.1 refl)
  makes (Err (store_error.Full full)) keeps memory took extent falls exact room down =
      (same_sessions old new memory, λ found kept. subst (λ (bytes : List ℕ). IsFullFor state (length bytes) old.store full) is (exact found full kept refl))
  makes (Err store_error.NoMemory) keeps memory took extent falls exact room down = same_sessions old new memory

-- ---- registrations

-- a registration whose rows are free may come
pub may_register : (s : Snapshot) (x : Xid) (place : RegisterPlace) (hold check : List RowKey) → is_begin (status_in s x.0) ≡ true → is_new s x place.resource place.call place.ticket place.kind ≡ true →
    first_held (held_in s) x (hold ++ check) ≡ None → may_come s (register_record s x place hold) ≡ true
may_register s x place hold check begin new free =
    and_both (is_begin (status_in s x.0)) ((s.granted + 1 == s.granted + 1) && (is_new s x place.resource place.call place.ticket place.kind && are_free s x hold)) begin
    (and_both (s.granted + 1 == s.granted + 1) (is_new s x place.resource place.call place.ticket place.kind && are_free s x hold) (nat_same (s.granted + 1) (s.granted + 1) refl)
    (and_both (is_new s x place.resource place.call place.ticket place.kind) (are_free s x hold) new (ap is_none (free_first (locks (held_in s)) x hold check free))))

-- a record of a branch whose rows are free is added or isn't
pub registers_by : {D X : Type 0} (state : D → DiskState) (old new : Sessions D) (r : SessionRecord) (x : Xid) (rows : List RowKey) (branch : BranchId) → AreFree old x rows
    → (result : Result X StoreError) → Makes state r result old new → Registers state r x rows (registered branch result) old new
registers_by state old new r x rows branch free (Ok done) made = (free, made)
registers_by state old new r x rows branch free (Err error) made = (λ other. free, made)

-- nothing changed
module _ {D : Type 0} (state : D → DiskState) (s : Sessions D) (r : SessionRecord) (x : Xid) (rows : List RowKey) where
  pub no_memory : Registers state r x rows (Err (register_error.Store store_error.NoMemory)) s s
  no_memory = (λ other. absurd (other refl), refl)

  -- a row is held, or memory was refused
  pub conflict_refuses : (e : HoldError) → FindsConflict (locks (held_in (known s))) x rows (Err e) → Registers state r x rows (Err (of_hold e)) s s
  conflict_refuses (hold_error.Held key by) found = (found, refl)
  conflict_refuses hold_error.NoMemory found = no_memory

-- ---- openings and restarts

-- bytes that stand for records aren't damaged
pub not_damaged : (managers resources : ℕ) (a b : List ℕ) (e : OpenError) → IsDamage (meaning_of managers resources) a b e → (rs : List SessionRecord) → StandsForSessions managers resources rs a b → IsNoDamage e
not_damaged managers resources = standing.not_damaged (lists_of managers resources) (lists_lawful managers resources)

-- which of two lists of records came back
pub came_back : {D : Type 0} (state : D → DiskState) (pick : ℕ) (old new : Sessions D) (rs : List SessionRecord) (kept : Option SessionRecord) → BringsBack state pick old new →
    ((a b : List ℕ) → (state (first_disk (twin old))).may_leave a → (state (second_disk (twin old))).may_leave b → StandsFor new rs a b ⊎ ((r : SessionRecord) × (kept ≡ Some r) × StandsFor new (r ∷ rs) a b)) →
    KeepsRecords state rs new ⊎ ((r : SessionRecord) × (kept ≡ Some r) × KeepsRecords state (r ∷ rs) new)
came_back state pick old new = laws.came_back state (lists new) pick old.store new.store
