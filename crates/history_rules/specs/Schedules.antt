-- Schedules: what their steps name, and which histories follow them.
use Rattle.std.specs.Prelude.{◌≡◌, ℕ, zero, suc, ◌+◌, ◌==◌, nat_lt, Bool, true, false, if◌then◌else◌, List, [], ◌∷◌, ◌++◌, length, map, slice_get, is_some, Option, Some, None}
use Rattle.seata_types.specs.declared.ids.Place.{Place}
use Rattle.seata_types.specs.declared.ids.Place.TheVariants as place
use Rattle.seata_types.specs.declared.messages.Outgoing.{Outgoing}
use Rattle.history_rules.specs.CoordinatorMemory.{start}
use Rattle.history_rules.specs.ResourceMemory.{Setup, local_of}
use Rattle.history_rules.specs.ManagerRules.{Settings}
use Rattle.history_rules.specs.Nodes.{World, Past}
use Rattle.history_rules.specs.Histories.{Cause, Turn, Deliver, Missing, Wait, Stop, Crash, Restart, Local, Outside, Moment, same_place, sent_at, Legal}

-- a member of a schedule; `Auto` stands for this many single steps
pub data Item : Type 0 where
  TurnOf : Place → Item
  DeliverOf : (stamp : ℕ) → Item
  WaitFor : (ticks : ℕ) → Item
  StopOf : Place → (calls : ℕ) → Item
  CrashOf : Place → Item
  RestartOf : Place → (pick : ℕ) → (calls : Option ℕ) → Item
  LocalOf : (number : ℕ) → Item
  OutsideOf : (number : ℕ) → Item
  Auto : (steps : ℕ) → Item

-- ---- automatic steps

-- whether a cause delivers the message of the entry with this stamp
abbrev pub takes : ℕ → Cause → Bool
takes stamp (Deliver taken from) = taken == stamp
takes stamp _ = false

-- whether an entry delivered the message of the entry with this stamp, also one at a node that was down
abbrev pub is_taken : ℕ → List Moment → Bool
is_taken stamp [] = false
is_taken stamp (m ∷ ms) = if takes stamp m.cause then true else is_taken stamp ms

-- an older delivery that waits, else that of what this moment sent, where it isn't taken
abbrev pub or_waiting : Option (Place × Cause) → (taken : Bool) → Moment → Option Outgoing → Option (Place × Cause)
or_waiting (Some older) taken m sent = Some older
or_waiting None false m (Some out) = Some (out.to, Deliver m.stamp m.place)
or_waiting None _ m sent = None

-- the delivery of the oldest of these messages that no entry delivered
abbrev pub oldest_waiting : (all ms : List Moment) → Option (Place × Cause)
oldest_waiting all [] = None
oldest_waiting all (m ∷ ms) = or_waiting (oldest_waiting all ms) (is_taken m.stamp all) m m.step.sent

-- the stamp of a turn of the node, else the one before
abbrev pub turn_at : Bool → Cause → ℕ → ℕ → ℕ
turn_at true Turn stamp before = stamp
turn_at _ cause stamp before = before

-- the stamp of a node's last turn, 0 where it had none
abbrev pub last_turn : List Moment → Place → ℕ
last_turn [] p = 0
last_turn (m ∷ ms) p = turn_at (same_place p m.place) m.cause m.stamp (last_turn ms p)

-- the nodes in order: the coordinator, the resources, the managers
abbrev pub places : World → List Place
places w = place.Tc ∷ map (λ (s : Setup). place.Res s.number) w.resources ++ map (λ (m : Settings). place.Man m.number) w.managers

-- of these nodes the one whose last turn is the earliest, the first of those that tie
abbrev pub earliest : List Moment → Place → List Place → Place
earliest ms first [] = first
earliest ms first (p ∷ ps) = earliest ms (if nat_lt (last_turn ms p) (last_turn ms first) then p else first) ps

-- a delivery, or else a turn of the node whose last turn is the earliest
abbrev pub or_turn : World → List Moment → Option (Place × Cause) → Place × Cause
or_turn w ms (Some delivery) = delivery
or_turn w ms None = (earliest ms place.Tc (places w), Turn)

-- an automatic step: the oldest message that waits, or else a turn of the node whose last turn is the earliest
abbrev pub auto_step : World → List Moment → Place × Cause
auto_step w ms = or_turn w ms (oldest_waiting ms ms)

-- ---- what a step names

-- the message of the entry with this stamp, or that there is none
abbrev pub delivery : ℕ → Option (Place × Outgoing) → Place × Cause
delivery stamp None = (place.Net, Missing stamp)
delivery stamp (Some (from, out)) = (out.to, Deliver stamp from)

-- the resource that has local transaction k
abbrev pub local_place : List Setup → ℕ → Place
local_place [] k = place.Net
local_place (s ∷ ss) k = if is_some (local_of s k) then place.Res s.number else local_place ss k

-- the place and the cause that a step names after these moments
abbrev pub named : World → List Moment → Item → Place × Cause
named w ms (TurnOf p) = (p, Turn)
named w ms (DeliverOf stamp) = delivery stamp (sent_at stamp ms)
named w ms (WaitFor ticks) = (place.Net, Wait ticks)
named w ms (StopOf p calls) = (p, Stop calls)
named w ms (CrashOf p) = (p, Crash)
named w ms (RestartOf p pick calls) = (p, Restart pick calls)
named w ms (LocalOf k) = (local_place w.resources k, Local k)
named w ms (OutsideOf k) = (local_place w.resources k, Outside k)
named w ms (Auto steps) = auto_step w ms

-- ---- follows

-- the same, so many times
abbrev pub times : {A : Type 0} → ℕ → A → List A
times zero a = []
times (suc n) a = a ∷ times n a

-- the single steps that a member stands for
abbrev pub singles_of : Item → List Item
singles_of (Auto steps) = times steps (Auto 1)
singles_of step = step ∷ []

-- the single steps of a schedule
abbrev pub singles : List Item → List Item
singles [] = []
singles (i ∷ is) = singles_of i ++ singles is

-- the clock after these moments: it begins at the coordinator's start
abbrev pub clock : Past → List Moment → ℕ
clock past [] = start past.sessions
clock past (m ∷ ms) = m.now

-- the ticks that a step lets pass
abbrev pub ticks_of : Item → ℕ
ticks_of (WaitFor ticks) = ticks
ticks_of _ = 0

-- a moment is what this step names, its stamp is its position, and its moment is the clock
abbrev pub IsStep : World → Past → List Moment → Moment → Option Item → Type 0
IsStep w past ms m None = ⊥
IsStep w past ms m (Some step) =
    (m.stamp ≡ length ms + 1) × (m.now ≡ clock past ms + ticks_of step) × ((m.place, m.cause) ≡ named w ms step)

-- each moment is the schedule's single step at its position
abbrev pub Follows : World → Past → List Item → List Moment → Type 0
Follows w past schedule [] = Unit {0}
Follows w past schedule (m ∷ ms) = Follows w past schedule ms × IsStep w past ms m (slice_get (singles schedule) (length ms))

-- a whole run of a schedule
pub record IsRun (w : World) (past : Past) (schedule : List Item) (ms : List Moment) : Type 0 where
  pub legal : Legal w past ms
  pub follows : Follows w past schedule ms
  pub whole : length ms ≡ length (singles schedule)
