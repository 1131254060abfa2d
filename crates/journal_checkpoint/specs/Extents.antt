-- Where the journal of two disks stands, by lengths alone.
use Rattle.std.specs.Prelude.{ℕ, ◌+◌, ◌-◌, ◌*◌, nat_lt, Bool, false, not, length, option_map}
use Rattle.disk_journal.specs.declared.layout.TheConstants.{SHORTEST, RECORD_HEAD_BYTES}
use Rattle.journal_checkpoint.specs.declared.layout.TheConstants.{SNAPSHOT_HEAD_BYTES}
use Rattle.journal_checkpoint.specs.declared.types.Found.{Found}
use Rattle.journal_checkpoint.specs.Pairs.{begins_at}
use Rattle.journal_checkpoint.specs.Ends.{row_end}

-- the second disk is the active one; the generation of its snapshot, 0 where there is none; where its records begin, and where the
-- next one does
pub record Extent : Type 0 where
  pub second : Bool
  pub generation : ℕ
  pub begins : ℕ
  pub end : ℕ

-- on two disks of zero bytes
abbrev pub blank : Extent
blank = record { second = false; generation = 0; begins = SNAPSHOT_HEAD_BYTES; end = SNAPSHOT_HEAD_BYTES }

-- of what two disks hold
abbrev pub extent_of : Found → Extent
extent_of found = record { second = found.second; generation = found.generation; begins = begins_at (option_map length found.snapshot); end = row_end found }

-- where the next record would end if it had a body of so many bytes, with the next gate behind it
abbrev pub needed : Extent → ℕ → ℕ
needed e body = e.end + body + SHORTEST

-- with a record whose body has so many bytes
abbrev pub longer : ℕ → Extent → Extent
longer body e = record e { end = e.end + body + RECORD_HEAD_BYTES }

-- the records past the snapshot take more than half of a disk of this size
abbrev pub is_long : (size : ℕ) → Extent → Bool
is_long size e = nat_lt size (2 * (e.end - e.begins))

-- with a snapshot of so many bytes in place of the records, on the other disk
abbrev pub on_snapshot : (count : ℕ) → Extent → Extent
on_snapshot count e = record { second = not e.second; generation = e.generation + 1; begins = SNAPSHOT_HEAD_BYTES + count; end = SNAPSHOT_HEAD_BYTES + count }
