-- What a journal shows of itself: its disk, whether it is down, and the records that it keeps.
use Rattle.std.specs.Prelude.{◌≡◌, ℕ, ◌+◌, Bool, List, Result, Ok, Err}
use Rattle.std.specs.Borrow.{Lends, Fml, RattleType, MutBor}
use Rattle.disk_model.specs.Disk.{DiskState}
use Rattle.disk_journal.specs.declared.layout.TheConstants.{SHORTEST}
use Rattle.disk_journal.specs.Reading.{row_length}
use Rattle.disk_journal.specs.Keeping.{Holds}
use Rattle.disk_journal.specs.declared.errors.JournalError.{JournalError}
use Rattle.disk_journal.specs.declared.errors.JournalError.TheVariants as why
use Rattle.disk_journal.specs.declared.journal.Journal.{Journal}
use Rattle.disk_journal.specs.contracts.journal.Journal.{the_row}

abbrev pub disk_of : {D : Type 0} → Journal D → D
disk_of journal = journal.disk

-- an append failed, so that the journal takes no more records
abbrev pub is_down : {D : Type 0} → Journal D → Bool
is_down journal = journal.down

-- where its first record begins
abbrev pub from_of : {D : Type 0} → Journal D → ℕ
from_of journal = journal.from

-- where its next record begins
abbrev pub end_of : {D : Type 0} → Journal D → ℕ
end_of journal = journal.end

-- where that record would end if it had a body of so many bytes, with the next gate behind it
abbrev pub needed_for : {D : Type 0} → Journal D → ℕ → ℕ
needed_for journal body = end_of journal + body + SHORTEST

-- Each image of its disk stands for these records, nothing is pending, and the next record goes behind them.
pub record Keeps {D : Type 0} (state : D → DiskState) (bodies : List (List ℕ)) (journal : Journal D) : Type 0 where
  pub disk : Holds (state (disk_of journal)) (from_of journal) bodies
  pub end : end_of journal ≡ from_of journal + row_length bodies

-- the disk that an opening hands on
abbrev pub disk_after : {D : Type 0} → Result (Journal D × List (List ℕ)) (JournalError × D) → D
disk_after (Ok opened) = disk_of opened.0
disk_after (Err failed) = failed.1

-- An opening gives these records or fails for another reason than damage.
abbrev pub Recovers : {D : Type 0} → List (List ℕ) → Result (Journal D × List (List ℕ)) (JournalError × D) → Type 0
Recovers bodies (Ok opened) = opened.1 ≡ bodies
Recovers bodies (Err failed) = (at : ℕ) → failed.0 ≡ why.Damaged at → ⊥

abbrev pub with_disk : {D : Type 0} → Journal D → D → Journal D
with_disk journal disk = record journal { disk = disk }

module _ (D : RattleType) where
  -- the journal ends with the last disk behind r
  abbrev pub LendsDisk : MutBor (Journal D.Denot) → MutBor D.Denot → Fml
  LendsDisk journal r = Lends (the_row D) D journal r (with_disk journal.now)
