-- What the bytes of two disks stand for. A disk begins with a switch, which is open where it is 1, a generation and a length
-- of four bytes each, and a snapshot of so many bytes. Behind it stands a journal. The open disk of the greater generation
-- is active; where neither is open it is the first one, without a snapshot.
use Rattle.std.specs.Prelude.{ℕ, ◌+◌, ◌==◌, ◌&&◌, nat_lt, nat_le, Bool, true, false, if◌then◌else◌, List, [], ◌∷◌, ◌++◌, length, take, drop, Option, Some, None, option_map, Result, Ok, Err}
use Rattle.std.specs.Int.{w32, to_be_bytes}
use Rattle.disk_journal.specs.Reading.{number_in, reading}
use Rattle.journal_checkpoint.specs.declared.layout.TheConstants.{SNAPSHOT_HEAD_BYTES, AROUND}
use Rattle.journal_checkpoint.specs.declared.types.Head.{Head}
use Rattle.journal_checkpoint.specs.declared.types.Head.TheVariants as head
use Rattle.journal_checkpoint.specs.declared.types.Active.{Active}
use Rattle.journal_checkpoint.specs.declared.types.Found.{Found}
use Rattle.journal_checkpoint.specs.declared.types.TwinError.{TwinError}
use Rattle.journal_checkpoint.specs.declared.types.TwinError.TheVariants as why

-- the head behind an open switch, on a disk of this size: the generation is above 0, and a gate stands behind the snapshot
abbrev pub open_head : ℕ → ℕ → ℕ → Head
open_head size generation count = if nat_lt 0 generation && nat_le (count + AROUND) size then head.Open generation count else head.Broken

-- the head that begins these bytes, on a disk of this size
unfoldable pub head_in : ℕ → List ℕ → Head
head_in size [] = head.Shut
head_in size (b ∷ rest) = if b == 1 then open_head size (number_in rest) (number_in (drop 4 rest)) else head.Shut

-- the head of a disk with these bytes
abbrev pub head_of : List ℕ → Head
head_of bytes = head_in (length bytes) (take SNAPSHOT_HEAD_BYTES bytes)

-- the disk that is active
abbrev pub is_active : (second : Bool) → (generation : ℕ) → Option ℕ → (other_open : Bool) → Active
is_active second generation snapshot other_open = record { second = second; generation = generation; snapshot = snapshot; other_open = other_open }

-- the head of the first or the second disk is damaged
abbrev pub damaged : Bool → Result Active TwinError
damaged second = Err (why.Damaged second 0)

-- which disk is active, by the two heads, or whose head is damaged
abbrev pub active_of : Head → Head → Result Active TwinError
active_of head.Broken other = damaged false
active_of head.Shut head.Broken = damaged true
active_of (head.Open g n) head.Broken = damaged true
active_of head.Shut head.Shut = Ok (is_active false 0 None false)
active_of (head.Open g n) head.Shut = Ok (is_active false g (Some n) false)
active_of head.Shut (head.Open h m) = Ok (is_active true h (Some m) false)
active_of (head.Open g n) (head.Open h m) =
    if g == h then damaged true else if nat_lt g h then Ok (is_active true h (Some m) true) else Ok (is_active false g (Some n) true)

-- where the records begin, behind a snapshot of so many bytes or none
abbrev pub begins_at : Option ℕ → ℕ
begins_at None = SNAPSHOT_HEAD_BYTES
begins_at (Some n) = SNAPSHOT_HEAD_BYTES + n

-- the snapshot of so many bytes on a disk
abbrev pub snapshot_in : List ℕ → ℕ → List ℕ
snapshot_in bytes n = take n (drop SNAPSHOT_HEAD_BYTES bytes)

-- the snapshot and these records, or the damage on the active disk
abbrev pub with_records : Active → List ℕ → Result (List (List ℕ)) ℕ → Result Found TwinError
with_records active bytes (Ok records) = Ok (record { second = active.second; generation = active.generation; snapshot = option_map (snapshot_in bytes) active.snapshot; records = records })
with_records active bytes (Err at) = Err (why.Damaged active.second at)

-- what the active disk holds, by its bytes
abbrev pub held : Active → List ℕ → Result Found TwinError
held active bytes = with_records active bytes (reading (begins_at active.snapshot) (drop (begins_at active.snapshot) bytes))

-- the first or the second of two
abbrev pub chosen : {A : Type 0} → Bool → A → A → A
chosen true first second = second
chosen false first second = first

-- what two disks hold, where this one is active
abbrev pub held_by : List ℕ → List ℕ → Result Active TwinError → Result Found TwinError
held_by first second (Ok active) = held active (chosen active.second first second)
held_by first second (Err e) = Err e

-- What the bytes of the two disks hold, or the damage with its disk and offset. Of the other disk only the head counts.
unfoldable pub pair_reading : List ℕ → List ℕ → Result Found TwinError
pair_reading first second = held_by first second (active_of (head_of first) (head_of second))

-- the bytes of a checkpoint behind its switch: generation, length, snapshot, and a closed gate
unfoldable pub checkpoint_bytes : ℕ → List ℕ → List ℕ
checkpoint_bytes generation snapshot = (to_be_bytes w32 generation ++ to_be_bytes w32 (length snapshot)) ++ (snapshot ++ 0 ∷ [])
