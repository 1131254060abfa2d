-- What the bytes of two disks hold, by the rules of a memory: a snapshot's memory, or that of no records, and then each record
-- past it. The first record that is none, or may not come, is the damage; a snapshot stands behind its head.
use Rattle.std.specs.Prelude.{ℕ, ◌+◌, ◌^◌, nat_lt, ◌&&◌, if◌then◌else◌, Bool, false, Option, Some, None, option_map, List, [], ◌∷◌, length, Result, Ok, Err}
use Rattle.seata_types.specs.declared.errors.OpenError.{OpenError}
use Rattle.seata_types.specs.declared.errors.OpenError.TheVariants as open_error
use Rattle.disk_journal.specs.Reading.{record_length}
use Rattle.journal_checkpoint.specs.declared.layout.TheConstants.{SNAPSHOT_HEAD_BYTES}
use Rattle.journal_checkpoint.specs.declared.types.Active.{Active}
use Rattle.journal_checkpoint.specs.declared.types.Found.{Found}
use Rattle.journal_checkpoint.specs.declared.types.TwinError.{TwinError}
use Rattle.journal_checkpoint.specs.declared.types.TwinError.TheVariants as twin_error
use Rattle.journal_checkpoint.specs.Pairs.{head_of, active_of, begins_at, pair_reading}
use Rattle.memory_store.specs.Meanings.{Meaning}

-- ---- records

-- one record more may come, and is counted in four bytes
abbrev pub may_follow : {K I : Type 0} → Meaning K I → K → I → Bool
may_follow m known item = nat_lt (m.acts known + 1) (2 ^ 32) && m.may_come known item

-- the memory after what a record's body is, or the offset of that record where it is damaged
abbrev pub after_one : {K I : Type 0} → Meaning K I → K → ℕ → Option I → Result K ℕ
after_one m known at None = Err at
after_one m known at (Some item) = if may_follow m known item then Ok (m.after item known) else Err at

abbrev pub and_then : {K : Type 0} → Result K ℕ → (K → Result K ℕ) → Result K ℕ
and_then (Ok known) more = more known
and_then (Err at) more = Err at

-- the memory after these records, of which the first stands at an offset, or the offset of the damaged one
abbrev pub replayed : {K I : Type 0} → Meaning K I → K → ℕ → List (List ℕ) → Result K ℕ
replayed m known at [] = Ok known
replayed m known at (body ∷ bodies) = and_then (after_one m known at (m.record_of body)) (λ next. replayed m next (at + record_length body) bodies)

-- ---- a snapshot and records

-- what the snapshot says, or what is known of no records
abbrev pub start_of : {K I : Type 0} → Meaning K I → Option (List ℕ) → Option K
start_of m None = Some m.empty
start_of m (Some bytes) = m.memory_of bytes

-- where the records begin
abbrev pub records_at : Option (List ℕ) → ℕ
records_at snapshot = begins_at (option_map length snapshot)

abbrev pub from_start : {K I : Type 0} → Meaning K I → ℕ → List (List ℕ) → Option K → Result K ℕ
from_start m at bodies None = Err SNAPSHOT_HEAD_BYTES
from_start m at bodies (Some known) = replayed m known at bodies

-- the memory that a snapshot and records make, or the offset of the damage
abbrev pub held_in : {K I : Type 0} → Meaning K I → Found → Result K ℕ
held_in m found = from_start m (records_at found.snapshot) found.records (start_of m found.snapshot)

-- ---- two disks

abbrev pub second_of : Result Active TwinError → Bool
second_of (Ok active) = active.second
second_of (Err e) = false

-- whether the second disk is the active one, by their heads
abbrev pub second_in : List ℕ → List ℕ → Bool
second_in a b = second_of (active_of (head_of a) (head_of b))

-- the error of two disks, as a store's
abbrev pub store_error : TwinError → OpenError
store_error twin_error.Failed = open_error.Failed
store_error (twin_error.Damaged second at) = open_error.Damaged second at
store_error twin_error.NoMemory = open_error.NoMemory

-- a damage, with its disk
abbrev pub on_disk : {K : Type 0} → Bool → Result K ℕ → Result K OpenError
on_disk second (Ok known) = Ok known
on_disk second (Err at) = Err (open_error.Damaged second at)

abbrev pub of_pair : {K I : Type 0} → Meaning K I → Bool → Result Found TwinError → Result K OpenError
of_pair m second (Ok found) = on_disk second (held_in m found)
of_pair m second (Err e) = Err (store_error e)

-- what the bytes of two disks hold, or the damage with its disk and offset
unfoldable pub memory_on : {K I : Type 0} → Meaning K I → List ℕ → List ℕ → Result K OpenError
memory_on m a b = of_pair m (second_in a b) (pair_reading a b)

abbrev pub place_of : Bool → Option (List ℕ) → List (List ℕ) → Option (Bool × ℕ)
place_of second None [] = None
place_of second None (body ∷ bodies) = Some (second, SNAPSHOT_HEAD_BYTES)
place_of second (Some snapshot) bodies = Some (second, SNAPSHOT_HEAD_BYTES)

-- the first record that was read, if there was one: whether it stands on the second disk, and its offset, which is that of a
-- snapshot too
abbrev pub first_place : Bool → Found → Option (Bool × ℕ)
first_place second found = place_of second found.snapshot found.records
