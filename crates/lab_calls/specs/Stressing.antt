-- What a call tells that ran a made scenario.
use Rattle.std.specs.Prelude.{◌≡◌, ◌≢◌, ◌⊎◌, ℕ, List, [], ◌∷◌, ◌++◌, true, map, Result, Ok, Err, IfOk, IfErr, codes, string_bytes}
use Rattle.std.specs.Fmt.{decimal, signed_decimal}
use Rattle.std.specs.Io.KnownBytes.{Appends}
use Rattle.disk_model.specs.Disk.{DiskState, Rose}
use Rattle.disk_model.specs.Shelf.{ShelfState}
use Rattle.scenario_form.specs.declared.scenarios.Scenario.{Scenario}
use Rattle.scenario_maker.specs.Made.{made}
use Rattle.scenario_reader.specs.Reading.{IsScenario}
use Rattle.history_text.specs.declared.entries.Entry.{Entry}
use Rattle.history_text.specs.History.{entries}
use Rattle.history_text.specs.Report.{line, names_of}
use Rattle.history_text.specs.Worlds.{world_of}
use Rattle.history_rules.specs.Nodes.{Past}
use Rattle.history_rules.specs.Histories.{Legal, Moment}
use Rattle.node_seat.specs.declared.faults.RunFault.{RunFault}
use Rattle.node_seat.specs.declared.faults.RunFault.TheVariants as run_fault
use Rattle.scenario_nodes.specs.Nodes.{Held, HoldAll}
use Rattle.scenario_nodes.specs.Shelves.{ReturnsAll, pair_of}
use Rattle.replay_runner.specs.Leaving.{AreAllBack, IsCalmShelf}
use Rattle.thread_runner.specs.Running.{Completed, Leaves}
use Rattle.report_text.specs.Following.{IsRead}
use Rattle.report_text.specs.Totals.{history_totals}
use Rattle.report_text.specs.declared.kept.Totals.{Totals}
use Rattle.lab_calls.specs.declared.answers.Answer.{Answer}
use Rattle.lab_calls.specs.declared.played.Played.{Played}
use Rattle.lab_calls.specs.Answers.{end_text, is_among, is_calm_end, status_of}
use Rattle.lab_calls.specs.Over.{EndsOver}
use Rattle.lab_calls.specs.Streams.{GainsFront, SinkState}

-- ---- the text

-- the four lines of the numbers of a history
abbrev pub totals_text : Totals → List ℕ
totals_text t =
    line (codes "sessions " ++ (decimal t.begun ++ (codes " ended " ++ decimal t.ended)))
    ++ (line (codes "acc " ++ signed_decimal t.money)
    ++ (line (codes "held " ++ signed_decimal t.held) ++ line (codes "locks " ++ decimal t.locks)))

-- a text has the numbers of each legal history with these entries, over whatever records were read
-- before
abbrev pub TellsNumbers : Scenario → Played → List ℕ → Type 0
TellsNumbers s p text = (past : Past) (ms : List Moment) → IsRead s p.before past
    → Legal (world_of s) past ms → entries ms ≡ p.history
    → text ≡ totals_text (history_totals s past ms)

-- the text and the status of a run that ended so: the numbers of its entries over what its disks held, or
-- the line of its fault
abbrev pub IsStressText : Scenario → Result Played RunFault → List ℕ → ℕ → Type 0
IsStressText s (Ok p) text status = (status ≡ 0) × TellsNumbers s p text
IsStressText s (Err missed) text status =
    (missed ≢ run_fault.NoMemory) × (status ≡ status_of missed)
    × (text ≡ line (end_text (names_of s) missed))

-- The nodes made a history by themselves, to its end, over the records that the disks held. It is
-- safe, and the disks that were given back show it. The text has its numbers.
pub record Stressed {D : Type 0} (state : D → DiskState) (s : Scenario) (held : Held)
    (disks : List (D × D)) (text : List ℕ) : Type 0 where
  pub entries : List Entry
  pub run : Completed s held (map (pair_of state) disks) entries
  pub counts : text ≡ totals_text (history_totals s held.past run.history)

-- at status 0: the disks of all nodes were given back, and where they tell their bytes there is such a
-- history
pub record IsStressed {D : Type 0} (state : D → DiskState) (had has : ShelfState D) (s : Scenario)
    (text : List ℕ) : Type 0 where
  pub disks : List (D × D)
  pub back : AreAllBack had has s disks
  pub stressed : (held : Held) → HoldAll state had s held
      → Stressed state s held disks text

-- ---- the call

-- the text of how a run ended was written, with its status; at 5 the sink failed, and got the front of it
pub record WritesStress (s : Scenario) (ended : Result Played RunFault) (status : ℕ)
    (old new : SinkState) : Type 0 where
  pub text : List ℕ
  pub own : ℕ
  pub is_text : IsStressText s ended text own
  pub written : status ≢ 5 → (status ≡ own) × Appends old.written new.written text
  pub cut_short : status ≡ 5 → GainsFront old.written new.written text

-- The made scenario was run and ended so. Then this was told, or memory was refused for its text.
pub record RunsMade {D S : Type 0} (state : D → DiskState) (seen : S → ShelfState D)
    (had has : S) (n size : ℕ) (tells : Scenario → Result Played RunFault → Type 0)
    (unwritten : Type 0) : Type 0 where
  pub scenario : Scenario
  pub is_made : IsScenario (made n size) scenario
  pub ended : Result Played RunFault
  pub has_ended : EndsOver (Leaves scenario) state seen had has scenario ended
  pub told : tells scenario ended ⊎ unwritten

-- memory was refused before it was run, and the shelf is as it was; or it was run
abbrev pub IsRunOrNot : {D S : Type 0} → (D → DiskState) → (S → ShelfState D) → (had has : S)
    → (same : Type 0) → (n size : ℕ) → (tells : Scenario → Result Played RunFault → Type 0)
    → (unwritten : Type 0) → Type 0
IsRunOrNot state seen had has same n size tells unwritten =
    (same × unwritten) ⊎ RunsMade state seen had has n size tells unwritten

-- A call ran the scenario that is made of a number for so many managers. The status is 0 where its
-- numbers were written, 5 where the sink failed, 6 where memory was refused, and else that of the fault
-- that ended the run. Where the disks held records of the nodes it is never 3, and where besides no
-- device fails 0, 6 or 8. At 0 no disk of a node was damaged before, by how the run ended. The disks that
-- were taken are given back.
pub record StressesOnce {D S : Type 0} (state : D → DiskState) (seen : S → ShelfState D)
    (had has : S) (same : Type 0) (n size status : ℕ) (old new : SinkState) : Type 0 where
  pub statuses : is_among (0 ∷ 3 ∷ 5 ∷ 6 ∷ 7 ∷ 8 ∷ 9 ∷ []) status ≡ true
  pub ran : IsRunOrNot state seen had has same n size
      (λ s ended. WritesStress s ended status old new)
      ((status ≡ 6) × (new.written ≡ old.written))
  pub done : status ≡ 0 → (s : Scenario) × IsScenario (made n size) s
      × ((text : List ℕ) × Appends old.written new.written text
      × IsStressed state (seen had) (seen has) s text)
  pub other : status ≡ 3 → (s : Scenario) → IsScenario (made n size) s
      → (held : Held) → ¬ HoldAll state (seen had) s held
  pub calm : ¬ Rose old.faults new.faults → (s : Scenario) → IsScenario (made n size) s
      → (held : Held) → HoldAll state (seen had) s held → IsCalmShelf state s (seen had) (seen has)
      → is_calm_end status ≡ true
  pub sink_failed : status ≡ 5 → Rose old.faults new.faults
  pub no_memory : status ≡ 6 → new.written ≡ old.written
  pub returned : ReturnsAll (seen had) (seen has)
  pub same_tells : (seen has).tells ≡ (seen had).tells

-- ---- for the proofs alone

-- what is told of the made scenario that was run, and ended so; or memory was refused
pub record TellsStress (s : Scenario) (ended : Result Played RunFault)
    (result : Result Answer ℕ) : Type 0 where
  pub text : IfOk result (λ a. IsStressText s ended (string_bytes a.text) a.status)
  pub no_memory : IfErr result (λ status. status ≡ 6)

-- memory was refused
abbrev pub IsNoMemory : Result Answer ℕ → Type 0
IsNoMemory result = result ≡ Err 6

-- the answer to a made scenario that was run, if it could be
pub record StressesMade {D S : Type 0} (state : D → DiskState) (seen : S → ShelfState D)
    (had has : S) (same : Type 0) (n size : ℕ) (result : Result Answer ℕ) : Type 0 where
  pub ran : IsRunOrNot state seen had has same n size (λ s ended. TellsStress s ended result)
      (IsNoMemory result)
  pub returned : ReturnsAll (seen had) (seen has)
  pub same_tells : (seen has).tells ≡ (seen had).tells
