-- The nodes and the schedule of a scenario, in the words of the rules.
use Rattle.std.specs.Prelude.{ℕ, ◌+◌, ◌==◌, if◌then◌else◌, List, [], ◌∷◌, ◌++◌, map}
use Rattle.seata_types.specs.declared.statements.Action.{Action}
use Rattle.seata_types.specs.declared.statements.Stmt.{Stmt}
use Rattle.seata_types.specs.declared.statements.Work.{Work}
use Rattle.seata_types.specs.declared.statements.Work.TheVariants as work
use Rattle.scenario_form.specs.declared.scenarios.ManagerDef.{ManagerDef}
use Rattle.scenario_form.specs.declared.scenarios.ResourceDef.{ResourceDef}
use Rattle.scenario_form.specs.declared.scenarios.Scenario.{Scenario}
use Rattle.scenario_form.specs.declared.scenarios.ScheduleItem.{ScheduleItem}
use Rattle.scenario_form.specs.declared.scenarios.ScheduleItem.TheVariants as item
use Rattle.history_rules.specs.CoordinatorMemory.{Times}
use Rattle.history_rules.specs.ResourceMemory.{Setup}
use Rattle.history_rules.specs.ManagerRules.{Settings}
use Rattle.history_rules.specs.Nodes.{World}
pub use Rattle.history_rules.specs.Nodes.{AreNumbered}
use Rattle.history_rules.specs.Schedules.{Item, TurnOf, DeliverOf, WaitFor, StopOf, CrashOf, RestartOf, LocalOf, OutsideOf, Auto}

-- ---- the coordinator

-- the coordinator's settings
abbrev pub times_of : Scenario → Times
times_of s = record { retry = s.retry; forget = s.forget }

-- ---- managers

-- a manager by its number, with the tries that the scenario gives each call
abbrev pub settings_of : (tries number : ℕ) → ManagerDef → Settings
settings_of tries n def = record {
  number = n;
  timeout = def.timeout;
  tries = tries;
  calls = def.calls;
  ending = def.ending;
  silent = def.silent;
  poll = def.poll;
}

-- the managers from number n on
abbrev pub managers_from : (tries n : ℕ) → List ManagerDef → List Settings
managers_from tries n [] = []
managers_from tries n (def ∷ defs) = settings_of tries n def ∷ managers_from tries (n + 1) defs

-- ---- resources

-- the TCC actions of a manager's calls of resource r, from call c on; calls are counted from 1
abbrev pub call_actions : (r manager c : ℕ) → List (ℕ × Work) → List ((ℕ × ℕ) × Action)
call_actions r manager c [] = []
call_actions r manager c ((resource, work.Tcc action) ∷ calls) =
    if resource == r then ((manager, c), action) ∷ call_actions r manager (c + 1) calls else call_actions r manager (c + 1) calls
call_actions r manager c ((resource, work.At stmts) ∷ calls) = call_actions r manager (c + 1) calls

-- those of all managers, from number n on
abbrev pub actions_at : (r n : ℕ) → List ManagerDef → List ((ℕ × ℕ) × Action)
actions_at r n [] = []
actions_at r n (def ∷ defs) = call_actions r n 1 def.calls ++ actions_at r (n + 1) defs

-- the local transactions of resource r, from number k on
abbrev pub locals_at : (r k : ℕ) → List (ℕ × List Stmt) → List (ℕ × List Stmt)
locals_at r k [] = []
locals_at r k ((resource, stmts) ∷ locals) = if resource == r then (k, stmts) ∷ locals_at r (k + 1) locals else locals_at r (k + 1) locals

-- a resource by its number
abbrev pub setup_of : Scenario → (number : ℕ) → ResourceDef → Setup
setup_of s n def = record {
  number = n;
  schema = def.schema;
  opening = def.opening;
  tries = s.lock_tries;
  actions = actions_at n 1 s.managers;
  locals = locals_at n 1 s.locals;
}

-- the resources from number n on
abbrev pub resources_from : Scenario → (n : ℕ) → List ResourceDef → List Setup
resources_from s n [] = []
resources_from s n (def ∷ defs) = setup_of s n def ∷ resources_from s (n + 1) defs

-- the resources of a scenario
unfoldable pub resources_of : Scenario → List Setup
resources_of s = resources_from s 1 s.resources

-- ---- all nodes

-- the settings of all nodes of a scenario
abbrev pub world_of : Scenario → World
world_of s = record { times = times_of s; resources = resources_of s; managers = managers_from s.lock_tries 1 s.managers }

-- ---- the schedule

-- a member of the schedule
abbrev pub item_of : ScheduleItem → Item
item_of (item.Turn place) = TurnOf place
item_of (item.Deliver stamp) = DeliverOf stamp
item_of (item.Wait ticks) = WaitFor ticks
item_of (item.Stop place calls) = StopOf place calls
item_of (item.Crash place) = CrashOf place
item_of (item.Restart place pick calls) = RestartOf place pick calls
item_of (item.Local number) = LocalOf number
item_of (item.Outside number) = OutsideOf number
item_of (item.Auto steps) = Auto steps

-- the schedule of a scenario
abbrev pub items_of : Scenario → List Item
items_of s = map item_of s.schedule
