-- What a call tells that shows what the disks of a shelf hold.
use Rattle.std.specs.Prelude.{◌≡◌, ℕ, List, [], ◌∷◌, true, Result, IfErr, IfOk, codes, string_bytes}
use Rattle.std.specs.Io.KnownBytes.{Appends}
use Rattle.disk_model.specs.Disk.{DiskState, Rose}
use Rattle.disk_model.specs.Shelf.{ShelfState}
use Rattle.base_shelf.specs.Keeping.{NetIs}
use Rattle.history_text.specs.Report.{line}
use Rattle.scenario_nodes.specs.Shelves.{ReturnsAll}
use Rattle.store_shown.specs.declared.found.Shown.{Shown}
use Rattle.store_shown.specs.declared.found.Shown.TheVariants as shown
use Rattle.store_shown.specs.Showing.{IsFound, KeepsBytes, Touches}
use Rattle.lab_calls.specs.declared.answers.Answer.{Answer}
use Rattle.lab_calls.specs.Answers.{end_text, fault_text, is_among, status_of}
use Rattle.lab_calls.specs.Streams.{GainsFront, SinkState}

-- ---- the text

-- the text of what was found, and the status with it
abbrev pub IsShownText : Shown → List ℕ → ℕ → Type 0
IsShownText (shown.State state) text status = (status ≡ 0) × (text ≡ state)
IsShownText shown.Empty text status = (status ≡ 3) × (text ≡ line (codes "store: empty"))
IsShownText (shown.NoScenario e) text status = (status ≡ 3) × (text ≡ line (fault_text e))
IsShownText (shown.Unread missed names) text status =
    (status ≡ status_of missed) × (text ≡ line (end_text names missed))

-- a text and its status tell what is on the disks that a shelf gave
pub record TellsFound {D S : Type 0} (state : D → DiskState) (seen : S → ShelfState D) (had has : S)
    (text : List ℕ) (status : ℕ) : Type 0 where
  pub found : Shown
  pub is_found : IsFound state seen had has found
  pub is_text : IsShownText found text status

-- ---- the call

-- the statuses that come with a text
abbrev pub shown_statuses : List ℕ
shown_statuses = 0 ∷ 3 ∷ 7 ∷ 9 ∷ []

-- the sink got such a text, with its status
pub record WritesFound {D S : Type 0} (state : D → DiskState) (seen : S → ShelfState D)
    (had has : S) (status : ℕ) (old new : SinkState) : Type 0 where
  pub text : List ℕ
  pub told : TellsFound state seen had has text status
  pub printed : Appends old.written new.written text

-- the sink failed, and got the front of it
pub record CutsFound {D S : Type 0} (state : D → DiskState) (seen : S → ShelfState D)
    (had has : S) (old new : SinkState) : Type 0 where
  pub text : List ℕ
  pub status : ℕ
  pub told : TellsFound state seen had has text status
  pub printed : GainsFront old.written new.written text

-- A call showed what the disks of a shelf hold. The status is 0 where that was written, 3 where the
-- disk `net` keeps no whole text or one that is no scenario, 5 where the sink failed, 6 where memory
-- was refused, and else 7 or 9, of the fault that kept the disks from being read. However it ends: each
-- disk that was there has its bytes, the disk `net` comes next with those that it had, blank or not, so
-- do the disks of the nodes, no other is touched, and the disks that were taken are given back.
pub record ShowsOnce {D S : Type 0} (state : D → DiskState) (seen : S → ShelfState D) (had has : S)
    (status : ℕ) (old new : SinkState) : Type 0 where
  pub statuses : is_among (5 ∷ 6 ∷ shown_statuses) status ≡ true
  pub told : is_among shown_statuses status ≡ true
      → WritesFound state seen had has status old new
  pub cut_short : status ≡ 5 → CutsFound state seen had has old new
  pub sink_failed : status ≡ 5 → Rose old.faults new.faults
  pub no_memory : status ≡ 6 → new.written ≡ old.written
  pub bytes : KeepsBytes state (seen had) (seen has)
  pub net : (bytes : List ℕ) → NetIs state (seen had) bytes
      → NetIs state (seen has) bytes
  pub touches : Touches state (seen had) (seen has)
  pub returned : ReturnsAll (seen had) (seen has)
  pub same_tells : (seen has).tells ≡ (seen had).tells

-- ---- for the proofs alone

-- what is on the disks was told, or memory was refused; and what stays
pub record AnswersShown {D S : Type 0} (state : D → DiskState) (seen : S → ShelfState D)
    (had has : S) (result : Result Answer ℕ) : Type 0 where
  pub text : IfOk result (λ a. TellsFound state seen had has (string_bytes a.text) a.status)
  pub no_memory : IfErr result (λ status. status ≡ 6)
  pub bytes : KeepsBytes state (seen had) (seen has)
  pub net : (bytes : List ℕ) → NetIs state (seen had) bytes
      → NetIs state (seen has) bytes
  pub touches : Touches state (seen had) (seen has)
  pub returned : ReturnsAll (seen had) (seen has)
  pub same_tells : (seen has).tells ≡ (seen had).tells
