-- Which nodes of a scenario are linked.
use Rattle.std.specs.Prelude.{◌+◌, ◌&&◌, ℕ, zero, suc, Bool, List, [], ◌∷◌, ◌++◌, length}
use Rattle.std.specs.List.{list_any}
use Rattle.seata_types.specs.declared.ids.Place.{Place}
use Rattle.seata_types.specs.declared.ids.Place.TheVariants as place
use Rattle.seata_types.specs.declared.statements.Work.{Work}
use Rattle.scenario_form.specs.declared.scenarios.ManagerDef.{ManagerDef}
use Rattle.scenario_form.specs.declared.scenarios.Scenario.{Scenario}
use Rattle.history_rules.specs.Histories.{same_place}

-- where a link comes from, and where it goes to
abbrev pub Route : Type 0
Route = Place × Place

-- a link each way
abbrev pub both_ways : Place → Place → List Route
both_ways p q = (p, q) ∷ (q, p) ∷ []

-- the coordinator with each of so many resources
abbrev pub resource_routes : ℕ → List Route
resource_routes zero = []
resource_routes (suc n) = resource_routes n ++ both_ways place.Tc (place.Res (suc n))

-- a manager with the resources of its calls
abbrev pub call_routes : (manager : ℕ) → List (ℕ × Work) → List Route
call_routes m [] = []
call_routes m (call ∷ calls) = both_ways (place.Man m) (place.Res call.0) ++ call_routes m calls

-- a manager with the coordinator, and with the resources of its calls
abbrev pub routes_by : (manager : ℕ) → List (ℕ × Work) → List Route
routes_by m calls = both_ways place.Tc (place.Man m) ++ call_routes m calls

-- so each manager, from number m on
abbrev pub manager_routes : (m : ℕ) → List ManagerDef → List Route
manager_routes m [] = []
manager_routes m (def ∷ defs) = routes_by m def.calls ++ manager_routes (m + 1) defs

-- all links of a run
abbrev pub routes_of : Scenario → List Route
routes_of s = resource_routes (length s.resources) ++ manager_routes 1 s.managers

-- whether a link goes from a place to a place, and whether one of these does
abbrev pub goes_over : Place → Place → Route → Bool
goes_over p q route = same_place p route.0 && same_place q route.1

abbrev pub is_route : List Route → Place → Place → Bool
is_route routes p q = list_any (goes_over p q) routes
