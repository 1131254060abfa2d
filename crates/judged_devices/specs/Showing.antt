-- What an entry's act shows of a node's step.
use Rattle.std.specs.Prelude.{◌≡◌, ◌≢◌, ℕ, Bool, true, false, if◌then◌else◌, Option, Some, None}
use Rattle.seata_types.specs.declared.acts.Act.{Act}
use Rattle.seata_types.specs.declared.acts.Act.TheVariants as act
use Rattle.seata_types.specs.declared.acts.Durable.{Durable}
use Rattle.seata_types.specs.declared.acts.Durable.TheVariants as durable
use Rattle.seata_types.specs.declared.messages.Input.{Input}
use Rattle.seata_types.specs.declared.messages.Step.{Step}
use Rattle.history_rules.specs.Own.{Event, Given, Stopped, Crashed, Restarted, still}
use Rattle.history_rules.specs.Devices.{fails, may_stand, restarted}
use Rattle.judged_devices.specs.declared.devices.Device.{Device}
use Rattle.judged_devices.specs.declared.shown.Back.{Back}
use Rattle.judged_devices.specs.declared.shown.Plain.{Plain}
use Rattle.judged_devices.specs.declared.shown.Plain.TheVariants as plain
use Rattle.judged_devices.specs.declared.shown.Shown.{Shown}
use Rattle.judged_devices.specs.declared.shown.Shown.TheVariants as shown

-- ---- what the rule answers

-- how an answer is done, where its record fails or not
abbrev pub done_as : (failed : Bool) → Act → Shown
done_as failed (act.Durable done) = if failed then shown.Cut done else shown.Done
done_as failed _ = shown.Done

-- the act of an answer that is done so, and its step
abbrev pub shown_act : Shown → Act → Act
shown_act shown.Done answer = answer
shown_act (shown.Cut flight) answer = act.Down None (Some flight)

abbrev pub shown_step : Shown → Step → Step
shown_step shown.Done step = step
shown_step (shown.Cut flight) step = still (act.Down None (Some flight))

-- this act shows an answer so, by a fault or without
pub record IsShown (left : Option ℕ) (answer done : Act) (s : Shown) : Type 0 where
  pub fault : Bool
  pub so : done_as (fails fault left) answer ≡ s
  pub same_act : shown_act s answer ≡ done

-- how this act shows an answer, or that nothing that may be done of the answer is this act
abbrev pub Shows : Option ℕ → (answer done : Act) → Option Shown → Type 0
Shows left answer done (Some s) = IsShown left answer done s
Shows left answer done None = (fault : Bool) → shown_act (done_as (fails fault left) answer) answer ≢ done

-- ---- what a node does by itself

-- the act of a restart
abbrev pub back_act : Back → Act
back_act b = if b.cut then act.Down b.kept (Some durable.Boot) else act.Restarted b.kept

-- the act of what a node does by itself
abbrev pub act_of : Plain → Act
act_of plain.Lost = act.Lost
act_of plain.Armed = act.Armed
act_of plain.Crashed = act.Down None None
act_of plain.Rests = act.Nothing
act_of (plain.Back b) = back_act b

-- what a restart keeps, where it is free to
abbrev pub kept_flight : (keeps : Bool) → Option ℕ → Option Durable → Option Durable
kept_flight keeps left flight = if keeps then (if may_stand left then flight else None) else None

-- at a node that is down: a restart opens it again, and all else is lost
abbrev pub down_step : (boots fault keeps : Bool) → Device → Event → Step
down_step boots fault keeps d (Restarted pick calls) = restarted boots (fails fault calls) (kept_flight keeps d.left d.flight)
down_step boots fault keeps d _ = still act.Lost

-- at one that is up, whose rule answers all that it is given: a stop arms it, a crash takes it down, and a restart does nothing
abbrev pub up_step : Event → Step
up_step (Given given) = still act.Ignored
up_step (Stopped calls) = still act.Armed
up_step Crashed = still (act.Down None None)
up_step (Restarted pick calls) = still act.Nothing

-- by the device
abbrev pub own_step : (boots fault keeps : Bool) → Device → Event → Step
own_step boots fault keeps d event = if d.down then down_step boots fault keeps d event else up_step event

-- the rule answers what is given to a node that is up, and nothing else
abbrev pub IsGiven : Event → Type 0
IsGiven (Given given) = Unit {0}
IsGiven _ = ⊥

abbrev pub IsPlain : Device → Event → Type 0
IsPlain d event = d.down ≡ false → IsGiven event → ⊥

-- what is given to a node that is up
abbrev pub given_in : (down : Bool) → Event → Option Input
given_in false (Given given) = Some given
given_in _ _ = None

-- it does this by itself, by a fault or without, and by what is kept
pub record IsOwn (boots : Bool) (d : Device) (event : Event) (step : Step) : Type 0 where
  pub fault : Bool
  pub keeps : Bool
  pub is : own_step boots fault keeps d event ≡ step

-- this act shows what a node does by itself, or no act that it may do
abbrev pub ShowsPlain : (boots : Bool) → Device → Event → Act → Option Plain → Type 0
ShowsPlain boots d event done (Some p) = (act_of p ≡ done) × IsOwn boots d event (still done)
ShowsPlain boots d event done None = (fault keeps : Bool) → (own_step boots fault keeps d event).act ≢ done

-- whether it may do this by itself
abbrev pub May : (boots : Bool) → Device → Event → Plain → Bool → Type 0
May boots d event p true = IsOwn boots d event (still (act_of p))
May boots d event p false = (fault keeps : Bool) → own_step boots fault keeps d event ≢ still (act_of p)

-- whether a restart may end so
pub record IsBack (boots : Bool) (d : Device) (calls : Option ℕ) (b : Back) : Type 0 where
  pub fault : Bool
  pub keeps : Bool
  pub is : restarted boots (fails fault calls) (kept_flight keeps d.left d.flight) ≡ still (back_act b)

abbrev pub ComesBack : (boots : Bool) → Device → (calls : Option ℕ) → Back → Bool → Type 0
ComesBack boots d calls b true = IsBack boots d calls b
ComesBack boots d calls b false = (fault keeps : Bool) → restarted boots (fails fault calls) (kept_flight keeps d.left d.flight) ≢ still (back_act b)
