-- The undo log as one finite map from branches to entries.
use Rattle.std.specs.Prelude.{◌≡◌, ℕ, ◌+◌, ◌==◌, ◌&&◌, Bool, false, List, [], ◌∷◌, Option, Some, None, true, if◌then◌else◌, is_some, Result, Ok, Err}
use Rattle.std.specs.BTreeMap.{insert_entry, is_at}
use Rattle.std.specs.Map.{lookup, remove_entry, keys_of}
use Rattle.std.specs.List.Sorted.{IsStrictlySortedBy}
use Rattle.std.specs.declared.cmp.Ordering.{Ordering}
use Rattle.std.specs.declared.ops.Bound.{Bound}
use Rattle.std.specs.declared.ops.Bound.TheVariants.{Included, Excluded, Unbounded}
use Rattle.seata_types.specs.declared.ids.Leg.{Leg}
use Rattle.durable_records.specs.Fences.{leg_cmp}
use Rattle.undo_log.specs.declared.records.UndoEntry.{UndoEntry}
use Rattle.undo_log.specs.declared.records.UndoEntry.TheVariants as entry
use Rattle.undo_log.specs.declared.records.UndoError.{UndoError}
use Rattle.undo_log.specs.declared.records.UndoError.TheVariants as error
use Rattle.undo_log.specs.declared.records.UndoRecord.{UndoRecord}

-- branches stand in order of transaction, then number
abbrev pub order : Leg → Leg → Ordering
order a b = leg_cmp (a.xid.0, a.branch.0) (b.xid.0, b.branch.0)

-- each branch that has an entry, in this order
abbrev pub Log : Type 0
Log = List (Leg × UndoEntry)

abbrev pub IsInOrder : Log → Type 0
IsInOrder log = IsStrictlySortedBy order (keys_of log)

abbrev pub is_leg : Leg → Leg → Bool
is_leg leg = is_at (order leg)

-- the entry of a branch
abbrev pub entry_at : Log → Leg → Option UndoEntry
entry_at log leg = lookup (is_leg leg) log

-- the log with this entry of a branch
abbrev pub with_entry : Log → Leg → UndoEntry → Log
with_entry log leg e = insert_entry order log leg e

-- the log without an entry of this branch
abbrev pub without_entry : Log → Leg → Log
without_entry log leg = remove_entry (is_leg leg) log

-- an entry was put: exactly where the branch had none
abbrev pub Puts : Log → Leg → UndoEntry → Result (Unit {0}) UndoError → Log → Type 0
Puts old leg e (Ok done) new = (entry_at old leg ≡ None) × (new ≡ with_entry old leg e)
Puts old leg e (Err error.Taken) new = (is_some (entry_at old leg) ≡ true) × (new ≡ old)
Puts old leg e (Err error.NoMemory) new = new ≡ old

-- what Seata's undo_log has as log_status: 0 of a record, 1 of a marker
abbrev pub log_status : UndoEntry → ℕ
log_status (entry.Normal r) = 0
log_status entry.Finished = 1

-- the undo record of an entry before others; a marker adds none
abbrev pub with_record : UndoEntry → List UndoRecord → List UndoRecord
with_record (entry.Normal r) rest = r ∷ rest
with_record entry.Finished rest = rest

-- the undo records, without the markers
abbrev pub records : Log → List UndoRecord
records [] = []
records (e ∷ es) = with_record e.1 (records es)

-- whether a branch's entry is the undo record of call c of x
abbrev pub is_of_call : (x c : ℕ) → Leg → UndoEntry → Bool
is_of_call x c leg (entry.Normal r) = (leg.xid.0 == x) && (r.call == c)
is_of_call x c leg entry.Finished = false

-- the undo record that an entry is, where it is no marker
abbrev pub record_in : UndoEntry → Option UndoRecord
record_in (entry.Normal r) = Some r
record_in entry.Finished = None

-- the undo record of call c of x that has the least branch: the first one, as branches stand in order
abbrev pub record_of_call : (x c : ℕ) → Log → Option UndoRecord
record_of_call x c [] = None
record_of_call x c (e ∷ es) = if is_of_call x c e.0 e.1 then record_in e.1 else record_of_call x c es

-- ---- the branches of one transaction

-- branch b of x
abbrev pub leg_at : (x b : ℕ) → Leg
leg_at x b = record { xid = record { 0 = x }; branch = record { 0 = b } }

-- a bound past all branches of x: before the first of the next transaction, or none
abbrev pub IsPast : ℕ → Bound Leg → Type 0
IsPast x (Excluded leg) = leg ≡ leg_at (x + 1) 0
IsPast x Unbounded = Unit {0}
IsPast x (Included leg) = ⊥
