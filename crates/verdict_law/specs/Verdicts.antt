-- What is said of printed entries: that they are those of a legal history, or which entry breaks which rule first.
use Rattle.std.specs.Prelude.{◌≡◌, ◌≤◌, ℕ, zero, suc, List, slice_get, take, Option, Some, None, option_map}
use Rattle.seata_types.specs.declared.ids.Place.TheVariants as place
use Rattle.seata_types.specs.declared.messages.Step.{Step}
use Rattle.history_rules.specs.Own.{Event}
use Rattle.history_rules.specs.Nodes.{World, Past, Role, role_at, ComesTo}
use Rattle.history_rules.specs.Histories.{Moment, own, brings, Turn, Deliver, Missing, Wait, Stop, Crash, Restart, Local, Outside, ComesToNone, Rises, ReceivesLater, IsDone, last_now, Legal}
use Rattle.history_rules.specs.Histories.{Cause as Reason}
use Rattle.history_text.specs.declared.entries.Cause.{Cause}
use Rattle.history_text.specs.declared.entries.Cause.TheVariants as cause
use Rattle.history_text.specs.declared.entries.Entry.{Entry}
use Rattle.history_text.specs.Notes.{sent_of}
use Rattle.history_text.specs.History.{entries}
use Rattle.verdict_law.specs.declared.rules.Rule.{Rule}
use Rattle.verdict_law.specs.declared.rules.Rule.TheVariants as rule

-- ---- the moment of an entry

-- the cause of an entry in the words of the rules
abbrev pub reason_of : Cause → Reason
reason_of cause.Turn = Turn
reason_of (cause.Deliver stamp from) = Deliver stamp from
reason_of (cause.Missing stamp) = Missing stamp
reason_of (cause.Wait ticks) = Wait ticks
reason_of (cause.Stop calls) = Stop calls
reason_of cause.Crash = Crash
reason_of (cause.Restart pick calls) = Restart pick calls
reason_of (cause.Local number) = Local number
reason_of (cause.Outside number) = Outside number

-- the event that an entry brings to its place after these moments, if it brings one
abbrev pub event_at : List Moment → Entry → Option Event
event_at ms e = brings ms e.place (reason_of e.cause)

-- the moment of an entry at which this step is done
abbrev pub moment_at : List Moment → Entry → Step → Moment
moment_at ms e step =
    record { stamp = e.stamp; place = e.place; now = e.now; cause = reason_of e.cause; event = event_at ms e; step = step }

-- ---- the rules, in the order in which they are asked

-- it stands above the entries before it, whatever is done, and above the message that it takes
pub record IsInOrder (ms : List Moment) (e : Entry) : Type 0 where
  pub rises : (step : Step) → Rises ms (moment_at ms e step)
  pub receives_later : ReceivesLater (reason_of e.cause) e.stamp

-- the coordinator's clock doesn't fall
abbrev pub IsTimely : List Moment → Entry → Type 0
IsTimely ms e = e.place ≡ place.Tc → last_now (own place.Tc ms) ≤ e.now

-- an event comes to a node at which it may come, and what brings none to the network
abbrev pub ComesAt : World → Past → List Moment → Entry → Option Event → Type 0
ComesAt w past ms e (Some event) = (role : Role) × (role_at w past e.place ≡ Some role) × ComesTo role event
ComesAt w past ms e None = ComesToNone ms e.place (reason_of e.cause)

-- the cause can come to the place
abbrev pub Comes : World → Past → List Moment → Entry → Type 0
Comes w past ms e = ComesAt w past ms e (event_at ms e)

-- this step may be done there, and its act is the entry's
pub record Does (w : World) (past : Past) (ms : List Moment) (e : Entry) (step : Step) : Type 0 where
  pub done : IsDone w past ms (moment_at ms e step) (event_at ms e)
  pub same_act : step.act ≡ e.act

-- what the entry sent is what the step sends, as its line shows it
abbrev pub Sends : Entry → Step → Type 0
Sends e step = option_map sent_of step.sent ≡ e.sent

-- ---- one entry

-- it may come after these moments
pub record MayCome (w : World) (past : Past) (ms : List Moment) (e : Entry) : Type 0 where
  pub in_order : IsInOrder ms e
  pub timely : IsTimely ms e
  pub comes : Comes w past ms e

-- it breaks this rule after these moments, and none before it
abbrev pub Breaks : World → Past → List Moment → Entry → Rule → Type 0
Breaks w past ms e rule.Stamp = IsInOrder ms e → ⊥
Breaks w past ms e rule.Clock = IsInOrder ms e × (IsTimely ms e → ⊥)
Breaks w past ms e rule.Cause = IsInOrder ms e × IsTimely ms e × (Comes w past ms e → ⊥)
Breaks w past ms e rule.Act = MayCome w past ms e × ((step : Step) → Does w past ms e step → ⊥)
Breaks w past ms e rule.Sent = MayCome w past ms e × ((step : Step) × Does w past ms e step × (Sends e step → ⊥))

-- it breaks none: this step is done
pub record Passes (w : World) (past : Past) (ms : List Moment) (e : Entry) (step : Step) : Type 0 where
  pub in_order : IsInOrder ms e
  pub timely : IsTimely ms e
  pub does : Does w past ms e step
  pub sends : Sends e step

-- ---- all entries

-- these are the entries of a legal history
pub record AreLegal (w : World) (past : Past) (es : List Entry) : Type 0 where
  pub history : List Moment
  pub legal : Legal w past history
  pub printed : entries history ≡ es

-- those before the k-th, counted from 0, are of a legal history, and the k-th breaks this rule after it
pub record BreakAt (w : World) (past : Past) (es : List Entry) (k : ℕ) (broken : Rule) : Type 0 where
  pub before : List Moment
  pub legal : Legal w past before
  pub printed : entries before ≡ take k es
  pub entry : Entry
  pub there : slice_get es k ≡ Some entry
  pub breaks : Breaks w past before entry broken

-- what is said of entries: nothing where they are legal, else the number of the first that isn't, counted from 1, with its rule
abbrev pub IsVerdict : World → Past → List Entry → Option (ℕ × Rule) → Type 0
IsVerdict w past es None = AreLegal w past es
IsVerdict w past es (Some (zero, broken)) = ⊥
IsVerdict w past es (Some (suc k, broken)) = BreakAt w past es k broken
