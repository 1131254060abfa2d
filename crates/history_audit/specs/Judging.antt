-- What a judge keeps of the entries that it judged legal.
use Rattle.std.specs.Prelude.{◌≡◌, ◌<◌, ℕ, List, [], ◌∷◌, length, Option, Some, None}
use Rattle.seata_types.specs.declared.ids.Place.{Place}
use Rattle.seata_types.specs.declared.ids.Place.TheVariants as place
use Rattle.seata_types.specs.declared.messages.Step.{Step}
use Rattle.scenario_form.specs.declared.scenarios.Scenario.{Scenario}
use Rattle.scenario_form.specs.Runnable.{IsRunnable}
use Rattle.history_rules.specs.Nodes.{World, no_past}
use Rattle.history_rules.specs.Histories.{Moment, Legal, last_now, own}
use Rattle.history_text.specs.declared.entries.Entry.{Entry}
use Rattle.history_text.specs.History.{entries}
use Rattle.history_text.specs.Origins.{origin_of}
use Rattle.history_text.specs.Worlds.{world_of}
use Rattle.judged_devices.specs.declared.limits.TheConstants.{OWN_ENTRIES}
use Rattle.verdict_law.specs.declared.rules.Rule.{Rule}
use Rattle.verdict_law.specs.declared.rules.Rule.TheVariants as rule
use Rattle.verdict_law.specs.Verdicts.{Breaks, IsVerdict, Passes, Sends, event_at, moment_at}
use Rattle.history_audit.specs.declared.kept.Found.{Found}
use Rattle.history_audit.specs.declared.kept.Judge.{Judge}
use Rattle.history_audit.specs.Finding.{Finds}
use Rattle.history_audit.specs.Letters.{AddsLetter, AreLetters}
use Rattle.history_audit.specs.Nodes.{AreNodes}
use Rattle.history_audit.specs.Order.{newest_of}

-- what is kept is of these moments
pub record Follows (w : World) (j : Judge) (ms : List Moment) : Type 0 where
  pub newest : j.newest ≡ newest_of ms
  pub clock : j.clock ≡ last_now (own place.Tc ms)
  pub letters : AreLetters j.letters ms
  pub nodes : AreNodes w j.nodes ms

-- ---- one entry

-- it is a moment more, or it breaks this rule
abbrev pub Judged : World → List Moment → Entry → (List Moment → Type 0) → Option Rule → Type 0
Judged w ms e Keeps None = (step : Step) × Passes w no_past ms e step × Keeps (moment_at ms e step ∷ ms)
Judged w ms e Keeps (Some broken) = Breaks w no_past ms e broken

-- so it is of each legal history that the judge stands for
abbrev pub HasJudged : (old new : Judge) → Entry → Option Rule → Type 0
HasJudged old new e verdict = (w : World) (ms : List Moment) → Legal w no_past ms → Follows w old ms → Judged w ms e (Follows w new) verdict

-- ---- for the proofs alone

-- the judge stands for a legal history of a scenario, and has room for an entry more
pub record CanJudge (j : Judge) : Type 0 where
  pub scenario : Scenario
  pub runs : IsRunnable scenario
  pub history : List Moment
  pub legal : Legal (world_of scenario) no_past history
  pub follows : Follows (world_of scenario) j history
  pub room : length history < OWN_ENTRIES

-- what is found of an entry, while all but the nodes stays
pub record HasFound (old new : Judge) (e : Entry) (f : Found) : Type 0 where
  pub newest : new.newest ≡ old.newest
  pub clock : new.clock ≡ old.clock
  pub letters : new.letters ≡ old.letters
  pub finds : (w : World) (ms : List Moment) → AreLetters old.letters ms → AreNodes w old.nodes ms → Finds w ms e (AreNodes w new.nodes) f

-- of an entry that brings nothing to a node
abbrev pub HasRested : Judge → Entry → Found → Type 0
HasRested j e f = (w : World) (ms : List Moment) → AreLetters j.letters ms → AreNodes w j.nodes ms → event_at ms e ≡ None → Finds w ms e (AreNodes w j.nodes) f

-- the coordinator's clock after an entry
abbrev pub clock_after : Place → (now before : ℕ) → ℕ
clock_after place.Tc now before = now
clock_after _ now before = before

-- where the newest entry stands, and the clock, are this entry's
pub record Enters (old new : Judge) (e : Entry) : Type 0 where
  pub newest : new.newest ≡ Some (origin_of e.stamp e.place)
  pub clock : new.clock ≡ clock_after e.place e.now old.clock
  pub letters : new.letters ≡ old.letters
  pub nodes : new.nodes ≡ old.nodes

-- all is kept of an entry whose step was done
pub record Keeps (old new : Judge) (e : Entry) (step : Step) : Type 0 where
  pub sends : Sends e step
  pub newest : new.newest ≡ Some (origin_of e.stamp e.place)
  pub clock : new.clock ≡ clock_after e.place e.now old.clock
  pub letters : AddsLetter old.letters new.letters e.stamp e.place step.sent
  pub nodes : new.nodes ≡ old.nodes

-- what was sent isn't what its line shows, or all is kept
abbrev pub HasSent : (old new : Judge) → Entry → Step → Option Rule → Type 0
HasSent old new e step None = Keeps old new e step
HasSent old new e step (Some rule.Sent) = Sends e step → ⊥
HasSent old new e step (Some _) = ⊥

-- the judge stands for a legal history with these entries
pub record HasTaken (w : World) (j : Judge) (es : List Entry) : Type 0 where
  pub history : List Moment
  pub legal : Legal w no_past history
  pub printed : entries history ≡ es
  pub follows : Follows w j history

-- ---- all entries

-- a judge of a scenario that has judged nothing
abbrev pub IsFirst : Judge → Type 0
IsFirst j = (s : Scenario) × IsRunnable s × Follows (world_of s) j []

-- what is said of entries, of each scenario of which the judge is one
abbrev pub HasJudgedAll : Judge → List Entry → Option (ℕ × Rule) → Type 0
HasJudgedAll j es verdict = (s : Scenario) → IsRunnable s → Follows (world_of s) j [] → IsVerdict (world_of s) no_past es verdict
