-- What a resource's memory owes to its records.
use Rattle.std.specs.Prelude.{◌≡◌, ℕ, ◌≤◌, true, List, ◌∷◌, All, map, option_map}
use Rattle.seata_types.specs.declared.ids.Leg.{Leg}
use Rattle.local_tables.specs.Rows.{Database}
use Rattle.durable_records.specs.declared.resources.ResourceRecord.{ResourceRecord}
use Rattle.durable_records.specs.Fences.{tried_of_call}
use Rattle.durable_records.specs.ResourceOrder.{Allowed, May}
use Rattle.durable_records.specs.UndoRecords.{Undo, undos_of_call}
use Rattle.undo_log.specs.Entries.{entry_at, record_of_call}
use Rattle.undo_log.specs.declared.records.UndoRecord.{UndoRecord}
use Rattle.local_tables.specs.declared.schemas.Schema.{Schema}
use Rattle.resource_log.specs.declared.states.ResourceSnapshot.{ResourceSnapshot}
use Rattle.resource_log.specs.Records.{FitsRecord}
use Rattle.resource_log.specs.SnapshotOf.{undo_log_of, snapshot_of}
use Rattle.resource_log.specs.Snapshots.{FitsSnapshot}
use Rattle.resource_log.specs.Soundness.{is_sound}
use Rattle.resource_memory.specs.Changes.{after, may_come}
use Rattle.resource_memory.specs.Keeping.{AreRows, IsKept, FitsParts, HasCounts}
use Rattle.resource_memory.specs.Known.{Known, known_of, calls_tried}
use Rattle.resource_memory.specs.Lookups.{tried_leg, branch_in, least_branch, entry_now}
use Rattle.resource_memory.specs.Snapshots.{snapshot_in, known_in}

-- one more record, where it may come, does to what is known what `after` says
abbrev pub AppliesRecords : Type 0
AppliesRecords =
    (opening : Database) (rs : List ResourceRecord) → Allowed opening rs → (r : ResourceRecord) → May opening rs r → known_of opening (r ∷ rs) ≡ after r (known_of opening rs)

-- a record whose images and reads stand in order may come after what is known exactly where it may come after the records
abbrev pub AllowsRecords : Type 0
AllowsRecords =
    (opening : Database) (rs : List ResourceRecord) → Allowed opening rs → (r : ResourceRecord) →
    (may_come (known_of opening rs) r ≡ true → May opening rs r) × (FitsRecord r → May opening rs r → may_come (known_of opening rs) r ≡ true)

-- what stands in the undo log at a branch is its undo record, or else its marker, by the records
abbrev pub FindsUndoRecords : Type 0
FindsUndoRecords =
    (opening : Database) (rs : List ResourceRecord) → Allowed opening rs → (leg : Leg) → entry_at (undo_log_of rs) leg ≡ entry_now rs leg.xid.0 leg.branch.0

-- the branch of an undo record, in the log and by the records
abbrev pub branch_of_record : UndoRecord → ℕ
branch_of_record r = r.leg.branch.0

abbrev pub branch_of_undo : Undo → ℕ
branch_of_undo u = u.branch

-- the undo record that is found of a call is that of the least branch that the records say it has
abbrev pub FindsUndosOfCalls : Type 0
FindsUndosOfCalls =
    (opening : Database) (rs : List ResourceRecord) → Allowed opening rs → (x c : ℕ) →
    option_map branch_of_record (record_of_call x c (undo_log_of rs)) ≡ least_branch (map branch_of_undo (undos_of_call rs x c))

-- a call that was tried is found at the least branch that was tried for it
abbrev pub FindsTriedCalls : Type 0
FindsTriedCalls =
    (opening : Database) (rs : List ResourceRecord) → Allowed opening rs → (x c : ℕ) → 1 ≤ c → option_map branch_in (tried_leg x c (calls_tried rs)) ≡ least_branch (tried_of_call rs x c)

-- each record has a place in a journal
abbrev pub AreWritable : List ResourceRecord → Type 0
AreWritable rs = All FitsRecord rs

-- what records say, over rows that have their keys, stands in order
abbrev pub KeepsRecords : Type 0
KeepsRecords = (opening : Database) (rs : List ResourceRecord) → AreRows opening → AreWritable rs → Allowed opening rs → IsKept (known_of opening rs)

-- the snapshot of what records say is the snapshot of the records
abbrev pub SavesRecords : Type 0
SavesRecords = (opening : Database) (rs : List ResourceRecord) → Allowed opening rs → snapshot_in (known_of opening rs) ≡ snapshot_of opening rs

-- what is known stays in order, and in a snapshot's room, where a record that may come is added
abbrev pub StaysKept : Type 0
StaysKept = (k : Known) (r : ResourceRecord) → IsKept k → may_come k r ≡ true → IsKept (after r k) × (FitsParts k → FitsRecord r → FitsParts (after r k))

-- the snapshot of what is known is sound, can be written, and says what is known
pub record IsSaved (k : Known) : Type 0 where
  pub sound : is_sound k.tables.resource k.tables.schema (snapshot_in k) ≡ true
  pub fits : FitsSnapshot (snapshot_in k)
  pub read_back : known_in k.tables.resource k.tables.schema (snapshot_in k) ≡ k

abbrev pub SavesWhatIsKnown : Type 0
SavesWhatIsKnown = (k : Known) → IsKept k → FitsParts k → HasCounts k → IsSaved k

-- what a sound snapshot says stands in order, and has a place in a snapshot
abbrev pub LoadsSoundSnapshots : Type 0
LoadsSoundSnapshots =
    (resource : ℕ) (schema : Schema) (s : ResourceSnapshot) → is_sound resource schema s ≡ true → FitsSnapshot s → IsKept (known_in resource schema s) × FitsParts (known_in resource schema s)
