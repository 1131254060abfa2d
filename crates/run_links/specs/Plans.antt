-- What the nodes of a run go by.
use Rattle.std.specs.Prelude.{◌≡◌, ◌≤◌, ℕ, if◌then◌else◌, List, [], ◌∷◌, length, All}
use Rattle.seata_types.specs.declared.ids.Place.{Place}
use Rattle.seata_types.specs.declared.limits.TheConstants.{LATEST_START}
use Rattle.scenario_form.specs.declared.scenarios.Scenario.{Scenario}
use Rattle.history_rules.specs.Histories.{same_place}
use Rattle.trace_rules.specs.Stops.{NodeStop}
use Rattle.node_seat.specs.Running.{HasPick}
use Rattle.node_seat.specs.declared.plans.Plan.{Plan}

-- the stops of a place among these, in order
abbrev pub stops_at : List (Place × ℕ × ℕ) → Place → List NodeStop
stops_at [] p = []
stops_at (stop ∷ stops) p = if same_place stop.0 p then (stop.1, stop.2) ∷ stops_at stops p else stops_at stops p

-- the stops of a place of a scenario
abbrev pub stops_of : Scenario → Place → List NodeStop
stops_of s p = stops_at s.stops p

-- the plan of the node at a place, whose clock begins at a moment
abbrev pub plan_of : Scenario → Place → (from : ℕ) → Plan
plan_of s p from = record { stops = stops_of s p; from = from; managers = length s.managers; resources = length s.resources }

-- this is the plan; its clock begins early, and its stops can be restarted from
pub record IsPlanOf (s : Scenario) (p : Place) (from : ℕ) (plan : Plan) : Type 0 where
  pub is : plan ≡ plan_of s p from
  pub starts : plan.from ≤ LATEST_START
  pub picks : All HasPick plan.stops
