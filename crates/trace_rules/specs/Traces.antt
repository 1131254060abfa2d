-- Traces: the moments of one node, newest first, and which are legal for it alone.
use Rattle.std.specs.Prelude.{◌≡◌, ◌<◌, ◌≤◌, ℕ, List, [], ◌∷◌, filter, Option, Some, None}
use Rattle.seata_types.specs.declared.ids.Place.{Place}
use Rattle.seata_types.specs.declared.messages.Input.TheVariants as input
use Rattle.seata_types.specs.declared.messages.Message.{Message}
use Rattle.seata_types.specs.declared.messages.Step.{Step}
use Rattle.history_rules.specs.Own.{Event, Given, Stopped, Crashed, Restarted, Own}
use Rattle.history_rules.specs.Nodes.{Role, World, Past, role_at, Happens}
use Rattle.history_rules.specs.Histories.{Cause, Turn, Deliver, Stop, Crash, Restart, Local, Outside, Moment, own, same_place, last_now, ReceivesLater}

-- a stamp is greater than that of the newest moment
abbrev pub IsAfter : List Moment → ℕ → Type 0
IsAfter [] stamp = Unit {0}
IsAfter (m ∷ ms) stamp = m.stamp < stamp

-- the events that a cause may bring to a node, each message of the place that it names among them
abbrev pub MayBring : Cause → Option Event → Type 0
MayBring Turn event = event ≡ Some (Given input.Turn)
MayBring (Deliver stamp from) event = (heard : Message) × (event ≡ Some (Given (input.Message from heard)))
MayBring (Stop calls) event = event ≡ Some (Stopped calls)
MayBring Crash event = event ≡ Some Crashed
MayBring (Restart pick calls) event = event ≡ Some (Restarted pick calls)
MayBring (Local number) event = event ≡ Some (Given (input.Local number))
MayBring (Outside number) event = event ≡ Some (Given (input.Outside number))
MayBring _ event = ⊥

-- at an event what may happen there, without one nothing
abbrev pub IsDoneAlone : Role → List Own → ℕ → Option Event → Step → Type 0
IsDoneAlone role owns now (Some event) step = Happens role owns now event step
IsDoneAlone role owns now None step = ⊥

-- a moment of a node may come after these: stamps rise, a message is received after it was sent, its clock doesn't fall, the
-- cause brings the event, and what is done may happen
pub record StandsAlone (role : Role) (p : Place) (ms : List Moment) (m : Moment) : Type 0 where
  pub here : m.place ≡ p
  pub rises : IsAfter ms m.stamp
  pub receives_later : ReceivesLater m.cause m.stamp
  pub clock_rises : last_now (own p ms) ≤ m.now
  pub brought : MayBring m.cause m.event
  pub done : IsDoneAlone role (own p ms) m.now m.event m.step

-- each moment of a trace stands after those before it
abbrev pub Alone : Role → Place → List Moment → Type 0
Alone role p [] = Unit {0}
Alone role p (m ∷ ms) = Alone role p ms × StandsAlone role p ms m

-- ---- of all places

-- the trace of a place is legal for the node there, and empty where none stands
abbrev pub AloneAt : Option Role → Place → List Moment → Type 0
AloneAt (Some role) p ms = Alone role p ms
AloneAt None p ms = ms ≡ []

-- and so the trace of each place
abbrev pub AreAlone : World → Past → (Place → List Moment) → Type 0
AreAlone w past traces = (p : Place) → AloneAt (role_at w past p) p (traces p)

-- the moments of a place in a history
abbrev pub at : Place → List Moment → List Moment
at p ms = filter (λ (m : Moment). same_place p m.place) ms

-- all traces of a history
abbrev pub traces_of : List Moment → Place → List Moment
traces_of ms p = at p ms
