-- What a node of a run does of itself: it is stopped, is restarted whenever it is down, and has its clock.
use Rattle.std.specs.Prelude.{◌≡◌, ℕ, ◌+◌, Bool, true, false, if◌then◌else◌, List, [], ◌∷◌, slice_get, Option, Some, None, option_map}
use Rattle.seata_types.specs.declared.ids.Place.{Place}
use Rattle.seata_types.specs.declared.ids.Place.TheVariants as place
use Rattle.history_rules.specs.Devices.{is_down}
use Rattle.history_rules.specs.Histories.{Cause, Turn, Deliver, Stop, Restart, Moment, own}

-- a stop of a node: the calls of its disk that it lets pass, and the pick of the restart that follows it
abbrev pub NodeStop : Type 0
NodeStop = ℕ × ℕ

abbrev pub calls_of : NodeStop → ℕ
calls_of (calls, pick) = calls

-- the pick of a restart, which is 1 without a stop
abbrev pub pick_of : Option NodeStop → ℕ
pick_of None = 1
pick_of (Some (calls, pick)) = pick

-- restart k of a node with these stops, from 0: it has the pick of stop k, which was armed last, and arms the node with the calls of
-- the next stop
abbrev pub restart_of : List NodeStop → ℕ → Cause
restart_of stops k = Restart (pick_of (slice_get stops k)) (option_map calls_of (slice_get stops (k + 1)))

-- ---- counts

abbrev pub is_stop : Cause → Bool
is_stop (Stop calls) = true
is_stop cause = false

abbrev pub is_restart : Cause → Bool
is_restart (Restart pick calls) = true
is_restart cause = false

-- how often a node was restarted
abbrev pub restarts : List Moment → ℕ
restarts [] = 0
restarts (m ∷ ms) = if is_restart m.cause then restarts ms + 1 else restarts ms

-- how many turns made these entries: a stop is none
abbrev pub turns : List Moment → ℕ
turns [] = 0
turns (m ∷ ms) = if is_stop m.cause then turns ms else turns ms + 1

-- the moment at a place after so many turns there: the coordinator's clock begins at a start, and others have none
abbrev pub run_clock : (start : ℕ) → Place → ℕ → ℕ
run_clock start place.Tc turned = start + turned
run_clock start p turned = 0

-- ---- entries

-- a node with stops has made its first entry
abbrev pub HasBegun : List NodeStop → List Moment → Type 0
HasBegun stops ms = ms ≡ [] → stops ≡ []

-- why an entry of a run may happen after these: the first of a node with stops is the first of them, and restarts are by these stops
abbrev pub IsByStops : List NodeStop → List Moment → Cause → Type 0
IsByStops stops ms Turn = HasBegun stops ms
IsByStops stops ms (Deliver stamp from) = HasBegun stops ms
IsByStops stops ms (Stop calls) = (ms ≡ []) × (option_map calls_of (slice_get stops 0) ≡ Some calls)
IsByStops stops ms (Restart pick calls) = HasBegun stops ms × (Restart pick calls ≡ restart_of stops (restarts ms))
IsByStops stops ms cause = ⊥

-- an entry of a run at a place: it is by the stops, it is a restart where the node is down and there alone, and has the clock
pub record IsTurnOf (stops : List NodeStop) (start : ℕ) (p : Place) (ms : List Moment) (m : Moment) : Type 0 where
  pub by_stops : IsByStops stops ms m.cause
  pub restarted : is_restart m.cause ≡ is_down (own p ms)
  pub clock : m.now ≡ run_clock start p (turns (m ∷ ms))

-- all entries of a node
abbrev pub RunsAlone : List NodeStop → ℕ → Place → List Moment → Type 0
RunsAlone stops start p [] = Unit {0}
RunsAlone stops start p (m ∷ ms) = RunsAlone stops start p ms × IsTurnOf stops start p ms m
