-- Histories of all nodes, newest first, and which are legal.
use Rattle.std.specs.Prelude.{◌≡◌, ◌⊎◌, ◌<◌, ◌≤◌, ℕ, ◌==◌, ◌&&◌, Bool, true, false, if◌then◌else◌, List, [], ◌∷◌, Option, Some, None}
use Rattle.seata_types.specs.declared.acts.Act.TheVariants as act
use Rattle.seata_types.specs.declared.ids.Place.{Place}
use Rattle.seata_types.specs.declared.ids.Place.TheVariants as place
use Rattle.seata_types.specs.declared.messages.Input.TheVariants as input
use Rattle.seata_types.specs.declared.messages.Outgoing.{Outgoing}
use Rattle.seata_types.specs.declared.messages.Step.{Step}
use Rattle.durable_records.specs.declared.coordinators.SessionRecord.{SessionRecord}
use Rattle.history_rules.specs.Own.{Event, Given, Stopped, Crashed, Restarted, Own, Left, still}
use Rattle.history_rules.specs.CoordinatorMemory.{sessions_left}
use Rattle.history_rules.specs.ResourceMemory.{Setup, Memory, memory}
use Rattle.history_rules.specs.Nodes.{Role, World, Past, role_at, Happens}

-- why an entry happened: a turn; a message, by the stamp and place of the entry that sent it; one that no entry sent; ticks
-- that pass; a stop after so many calls, a crash, a restart; a local transaction, guarded or outside
pub data Cause : Type 0 where
  Turn : Cause
  Deliver : (stamp : ℕ) → (from : Place) → Cause
  Missing : (stamp : ℕ) → Cause
  Wait : (ticks : ℕ) → Cause
  Stop : (calls : ℕ) → Cause
  Crash : Cause
  Restart : (pick : ℕ) → (calls : Option ℕ) → Cause
  Local : (number : ℕ) → Cause
  Outside : (number : ℕ) → Cause

-- an entry with the event at its node, none at the network, and the message that it sent
pub record Moment : Type 0 where
  pub stamp : ℕ
  pub place : Place
  pub now : ℕ
  pub cause : Cause
  pub event : Option Event
  pub step : Step

-- ---- places

abbrev pub same_place : Place → Place → Bool
same_place place.Net place.Net = true
same_place place.Tc place.Tc = true
same_place (place.Res m) (place.Res n) = m == n
same_place (place.Man m) (place.Man n) = m == n
same_place p q = false

-- own entries of a place with that of a moment, where it is there and has an event
abbrev pub own_if : Bool → Option Event → Moment → List Own → List Own
own_if true (Some event) m os = record { event = event; now = m.now; step = m.step } ∷ os
own_if _ event m os = os

-- the own entries of a place
abbrev pub own : Place → List Moment → List Own
own p [] = []
own p (m ∷ ms) = own_if (same_place p m.place) m.event m (own p ms)

-- ---- the network

-- what a moment that passes sent, with its place, else what was found before
abbrev pub sent_if : Bool → Moment → Option Outgoing → Option (Place × Outgoing) → Option (Place × Outgoing)
sent_if true m (Some out) before = Some (m.place, out)
sent_if _ m sent before = before

-- what the newest entry that sent something and of which a test holds sent, with its place
abbrev pub sent_by : (Moment → Bool) → List Moment → Option (Place × Outgoing)
sent_by test [] = None
sent_by test (m ∷ ms) = sent_if (test m) m m.step.sent (sent_by test ms)

-- the message that an entry with this stamp sent, and the one that it sent at this place
abbrev pub sent_at : ℕ → List Moment → Option (Place × Outgoing)
sent_at stamp ms = sent_by (λ m. m.stamp == stamp) ms

abbrev pub sent_from : ℕ → Place → List Moment → Option (Place × Outgoing)
sent_from stamp from ms = sent_by (λ m. (m.stamp == stamp) && same_place m.place from) ms

-- a message comes to its receiver alone
abbrev pub delivered : Place → Option (Place × Outgoing) → Option Event
delivered to None = None
delivered to (Some (from, out)) = if same_place out.to to then Some (Given (input.Message from out.message)) else None

-- the event that a cause brings to a node
abbrev pub brings : List Moment → Place → Cause → Option Event
brings ms to Turn = Some (Given input.Turn)
brings ms to (Deliver stamp from) = delivered to (sent_from stamp from ms)
brings ms to (Stop calls) = Some (Stopped calls)
brings ms to Crash = Some Crashed
brings ms to (Restart pick calls) = Some (Restarted pick calls)
brings ms to (Local number) = Some (Given (input.Local number))
brings ms to (Outside number) = Some (Given (input.Outside number))
brings ms to _ = None

-- a cause that comes to the network and to no node: ticks that pass, or a message that no entry sent
abbrev pub ComesToNone : List Moment → Place → Cause → Type 0
ComesToNone ms place.Net (Wait ticks) = Unit {0}
ComesToNone ms place.Net (Missing stamp) = sent_at stamp ms ≡ None
ComesToNone ms _ _ = ⊥

-- ---- legal

-- places in order: the network, the coordinator, resources, managers
abbrev pub rank : Place → ℕ × ℕ
rank place.Net = (0, 0)
rank place.Tc = (1, 0)
rank (place.Res n) = (2, n)
rank (place.Man n) = (3, n)

-- one place comes before another: by its kind, and among those of a kind by its number
abbrev pub Below : ℕ × ℕ → ℕ × ℕ → Type 0
Below p q = (p.0 < q.0) ⊎ ((p.0 ≡ q.0) × (p.1 < q.1))

-- entries rise by stamp, and those of one stamp by place
abbrev pub Rises : List Moment → Moment → Type 0
Rises [] m = Unit {0}
Rises (n ∷ ms) m = (n.stamp < m.stamp) ⊎ ((n.stamp ≡ m.stamp) × Below (rank n.place) (rank m.place))

-- a message is received at a greater stamp than it was sent
abbrev pub ReceivesLater : Cause → ℕ → Type 0
ReceivesLater (Deliver stamp from) received = stamp < received
ReceivesLater _ received = Unit {0}

-- the clock at the last of these entries, 0 where there is none
abbrev pub last_now : List Own → ℕ
last_now [] = 0
last_now (o ∷ os) = o.now

-- what may happen at a place by its node; where no node stands, nothing may
abbrev pub HappensAt : Option Role → List Own → ℕ → Event → Step → Type 0
HappensAt (Some role) os now event step = Happens role os now event step
HappensAt None os now event step = ⊥

-- at a node what may happen there, at the network nothing
abbrev pub IsDone : World → Past → List Moment → Moment → Option Event → Type 0
IsDone w past ms m (Some event) = HappensAt (role_at w past m.place) (own m.place ms) m.now event m.step
IsDone w past ms m None = ComesToNone ms m.place m.cause × (m.step ≡ still act.Nothing)

-- a moment may come after these: entries rise, the coordinator's clock doesn't fall, the cause brings the event, and what is
-- done may happen
pub record Stands (w : World) (past : Past) (ms : List Moment) (m : Moment) : Type 0 where
  pub rises : Rises ms m
  pub receives_later : ReceivesLater m.cause m.stamp
  pub clock_rises : m.place ≡ place.Tc → last_now (own place.Tc ms) ≤ m.now
  pub brought : m.event ≡ brings ms m.place m.cause
  pub done : IsDone w past ms m m.event

-- each moment stands after those before it
abbrev pub Legal : World → Past → List Moment → Type 0
Legal w past [] = Unit {0}
Legal w past (m ∷ ms) = Legal w past ms × Stands w past ms m

-- ---- what stands after a history

-- the coordinator's records with the one in flight, and what the entries of a resource leave
abbrev pub coordinator_left : Past → List Moment → Left SessionRecord
coordinator_left past ms = sessions_left past.sessions (own place.Tc ms)

abbrev pub memory_at : Past → Setup → List Moment → Memory
memory_at past s ms = memory s (past.resource s.number) (own (place.Res s.number) ms)
