-- Where the records end that two disks hold, so that one more has no place behind them.
use Rattle.std.specs.Prelude.{◌≡◌, ℕ, ◌+◌, List, length, option_map}
use Rattle.disk_journal.specs.declared.layout.TheConstants.{SHORTEST}
use Rattle.disk_journal.specs.Reading.{row_length}
use Rattle.disk_journal.specs.Keeping.{IsFull}
use Rattle.seata_types.specs.declared.errors.Full.{Full}
use Rattle.journal_checkpoint.specs.declared.types.Found.{Found}
use Rattle.journal_checkpoint.specs.Pairs.{begins_at}
use Rattle.journal_checkpoint.specs.Images.{Pair, PairStandsFor}

-- where these records end, behind their snapshot
abbrev pub row_end : Found → ℕ
row_end found = begins_at (option_map length found.snapshot) + row_length found.records

-- each pair of images of two disks stands for records that end at this offset
abbrev pub EndAt : Pair → ℕ → Type 0
EndAt disks end = (a b : List ℕ) → disks.first.may_leave a → disks.second.may_leave b → (found : Found) × PairStandsFor found a b × (end ≡ row_end found)

-- A record with a body of so many bytes goes behind the records that two disks hold: a gate, four bytes of its length, the body, and
-- the next gate. That is past the end of a disk of this size, with both numbers.
pub record HasNoPlace (disks : Pair) (size body : ℕ) (full : Full) : Type 0 where
  pub end : ℕ
  pub held : EndAt disks end
  pub past_end : IsFull (end + body + SHORTEST) size full
