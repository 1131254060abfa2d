-- What holds of every scenario that is read: a run of it finds each node, each table and each number that it names.
use Rattle.std.specs.Prelude.{◌≤◌, ◌+◌, ℕ, List, [], ◌∷◌, ◌++◌, length, map, All, Option, Some, None}
use Rattle.disk_model.specs.declared.disk.TheConstants.{LAST_PICK}
use Rattle.seata_types.specs.declared.ids.Place.{Place}
use Rattle.seata_types.specs.declared.ids.Place.TheVariants as place
use Rattle.seata_types.specs.declared.limits.TheConstants.{CALLS, DISK_LEAST, DISK_MOST, LOCALS, LOCK_TRIES, MANAGERS, RESOURCES, SCHEDULE_MEMBERS, SILENT, STEPS, STOP_CALLS, TICKS}
use Rattle.scenario_form.specs.declared.scenarios.ManagerDef.{ManagerDef}
use Rattle.scenario_form.specs.declared.scenarios.ResourceDef.{ResourceDef}
use Rattle.scenario_form.specs.declared.scenarios.Scenario.{Scenario}
use Rattle.scenario_form.specs.declared.scenarios.ScheduleItem.{ScheduleItem}
use Rattle.scenario_form.specs.declared.scenarios.ScheduleItem.TheVariants as step
use Rattle.scenario_form.specs.Contents.{IsBetween, IsNodeName, AreDifferent, IsResource, IsCall, IsLocal}

-- ---- numbers

-- the numbers of a scenario, each within its limits
pub record IsSet (s : Scenario) : Type 0 where
  pub timeout : IsBetween 1 TICKS s.timeout
  pub tries : IsBetween 1 LOCK_TRIES s.lock_tries
  pub retry : IsBetween 1 TICKS s.retry
  pub forget : s.forget ≤ TICKS
  pub disk : IsBetween DISK_LEAST DISK_MOST s.disk

-- ---- managers

-- a manager whose timeout is within the limit
pub record IsTimed (def : ManagerDef) : Type 0 where
  pub least : 1 ≤ def.timeout
  pub most : def.timeout ≤ TICKS

-- at most so much, where there is something
abbrev pub IsAtMost : ℕ → Option ℕ → Type 0
IsAtMost most None = Unit {0}
IsAtMost most (Some n) = n ≤ most

-- a manager, each of whose calls is one of a resource
pub record IsManager (resources : List ResourceDef) (def : ManagerDef) : Type 0 where
  pub name : IsNodeName def.name
  pub few : length def.calls ≤ CALLS
  pub calls : All (IsCall resources) def.calls
  pub silent : IsAtMost SILENT def.silent

abbrev pub resource_name : ResourceDef → List ℕ
resource_name def = def.name

abbrev pub manager_name : ManagerDef → List ℕ
manager_name def = def.name

-- the names of the nodes, the resources first
abbrev pub node_names : Scenario → List (List ℕ)
node_names s = map resource_name s.resources ++ map manager_name s.managers

-- ---- steps

-- the place of the coordinator, or of one of so many resources
abbrev pub IsServerAmong : ℕ → Place → Type 0
IsServerAmong servers place.Tc = Unit {0}
IsServerAmong servers (place.Res n) = IsBetween 1 servers n
IsServerAmong servers _ = ⊥

-- the place of the coordinator, of one of so many resources, or of one of so many managers
abbrev pub IsPlaceAmong : ℕ → ℕ → Place → Type 0
IsPlaceAmong servers users place.Tc = Unit {0}
IsPlaceAmong servers users (place.Res n) = IsBetween 1 servers n
IsPlaceAmong servers users (place.Man n) = IsBetween 1 users n
IsPlaceAmong servers users place.Net = ⊥

-- a stop: a node with disks, how many calls of them it makes, and the pick of its restart
abbrev pub IsStop : ℕ → Place × ℕ × ℕ → Type 0
IsStop servers stop = IsServerAmong servers stop.0 × (stop.1 ≤ STOP_CALLS) × (stop.2 ≤ LAST_PICK)

-- a step for one of so many resources, managers or locals, with numbers within their limits
abbrev pub FitsNodes : (servers users locals : ℕ) → ScheduleItem → Type 0
FitsNodes servers users locals (step.Turn place) = IsPlaceAmong servers users place
FitsNodes servers users locals (step.Deliver stamp) = IsBetween 1 STEPS stamp
FitsNodes servers users locals (step.Wait ticks) = IsBetween 1 TICKS ticks
FitsNodes servers users locals (step.Stop place calls) = IsServerAmong servers place × (calls ≤ STOP_CALLS)
FitsNodes servers users locals (step.Crash place) = IsServerAmong servers place
FitsNodes servers users locals (step.Restart place pick calls) = IsServerAmong servers place × (pick ≤ LAST_PICK) × IsAtMost STOP_CALLS calls
FitsNodes servers users locals (step.Local number) = IsBetween 1 locals number
FitsNodes servers users locals (step.Outside number) = IsBetween 1 locals number
FitsNodes servers users locals (step.Auto steps) = IsBetween 1 STEPS steps

-- the single steps that an item stands for
abbrev pub steps_of : ScheduleItem → ℕ
steps_of (step.Auto k) = k
steps_of _ = 1

-- the single steps of all items
abbrev pub all_steps : List ScheduleItem → ℕ
all_steps [] = 0
all_steps (x ∷ items) = steps_of x + all_steps items

-- ---- the whole

-- a scenario that can be run, as each is that reading gives
pub record IsRunnable (s : Scenario) : Type 0 where
  pub set : IsSet s
  pub servers : length s.resources ≤ RESOURCES
  pub resources : All IsResource s.resources
  pub few : length s.managers ≤ MANAGERS
  pub timed : All IsTimed s.managers
  pub managers : All (IsManager s.resources) s.managers
  pub different : AreDifferent (node_names s)
  pub writers : length s.locals ≤ LOCALS
  pub locals : All (IsLocal s.resources) s.locals
  pub stops : All (IsStop (length s.resources)) s.stops
  pub short : length s.schedule ≤ SCHEDULE_MEMBERS
  pub steps : all_steps s.schedule ≤ STEPS
  pub fits : All (FitsNodes (length s.resources) (length s.managers) (length s.locals)) s.schedule
