-- The form of a scenario, as a function from JSON data: the scenario, or its first fault in the order of the members.
--
--   member      | content                                                            | read by
--   timeout     | optional, 1 to 1000000000, else 60000                              | number_or
--   lockTries   | optional, 1 to 1000, else 30                                       | number_or
--   retry       | optional, 1 to 1000000000, else 1000                               | number_or
--   forget      | optional, 0 to 1000000000, else 0                                  | number_or
--   disk        | optional, 4096 to 16777216, else 4194304                           | number_or
--   resources   | list of name, tables                                               | Resources
--   (tables)    | list of name, mode, columns, key, rows                             | Tables
--   managers    | list of name, timeout, calls, end, silent, poll                    | Managers
--   (calls)     | list of at, do, or of at, try, confirm, cancel                     | Calls
--   locals      | optional list of at, do                                            | Calls
--   stops       | optional list of node, calls, pick                                 | Nodes
--   schedule    | list of texts                                                      | Steps
use Rattle.std.specs.Prelude.{◌≡◌, ◌≢◌, ℕ, List, [], ◌∷◌, length, Option, Ok, Err, codes}
use Rattle.serde_json.specs.Data.{Data}
use Rattle.serde_json.specs.Find.{get}
use Rattle.seata_types.specs.declared.limits.TheConstants.{DEFAULT_DISK, DEFAULT_LOCK_TRIES, DEFAULT_RETRY, DEFAULT_TIMEOUT, DISK_LEAST, DISK_MOST, LOCK_TRIES, TICKS}
use Rattle.scenario_reader.specs.declared.errors.ScenarioError.{ScenarioError}
use Rattle.scenario_reader.specs.declared.errors.ScenarioError.TheVariants as fault
use Rattle.seata_types.specs.declared.ids.Place.{Place}
use Rattle.seata_types.specs.declared.statements.Stmt.{Stmt}
use Rattle.scenario_form.specs.declared.scenarios.ManagerDef.{ManagerDef}
use Rattle.scenario_form.specs.declared.scenarios.ResourceDef.{ResourceDef}
use Rattle.scenario_form.specs.declared.scenarios.Scenario.{Scenario}
use Rattle.scenario_form.specs.declared.scenarios.ScheduleItem.{ScheduleItem}
use Rattle.scenario_reader.specs.declared.settings.Settings.{Settings}
use Rattle.scenario_reader.specs.Faults.{Outcome, ◌>>=◌, member, to_member, within, an_object, only}
use Rattle.scenario_reader.specs.Numbers.{number_or}
use Rattle.scenario_reader.specs.Resources.{resources}
use Rattle.scenario_reader.specs.Managers.{managers}
use Rattle.scenario_reader.specs.Calls.{locals}
use Rattle.scenario_reader.specs.Nodes.{stops}
use Rattle.scenario_reader.specs.Steps.{schedule}

-- the numbers of a scenario
unfoldable pub settings : Data → Outcome Settings
settings d = do
  timeout ← member (codes "timeout") (number_or DEFAULT_TIMEOUT 1 TICKS) d
  tries ← member (codes "lockTries") (number_or DEFAULT_LOCK_TRIES 1 LOCK_TRIES) d
  retry ← member (codes "retry") (number_or DEFAULT_RETRY 1 TICKS) d
  forget ← member (codes "forget") (number_or 0 0 TICKS) d
  disk ← member (codes "disk") (number_or DEFAULT_DISK DISK_LEAST DISK_MOST) d
  Ok (record { timeout = timeout; lock_tries = tries; retry = retry; forget = forget; disk = disk })

-- the names of a scenario's members
abbrev pub scenario_members : List (List ℕ)
scenario_members =
    codes "timeout" ∷ codes "lockTries" ∷ codes "retry" ∷ codes "forget" ∷ codes "disk" ∷ codes "resources" ∷ codes "managers" ∷ codes "locals" ∷ codes "stops"
    ∷ codes "schedule" ∷ []

-- its nodes
abbrev pub Nodes : Type 0
Nodes = Settings × List ResourceDef × List ManagerDef

-- the numbers and the resources of a scenario
unfoldable pub servers : Data → Outcome (Settings × List ResourceDef)
servers d = do
  _ ← an_object d
  set ← settings d
  all ← member (codes "resources") resources d
  Ok (set, all)

-- the numbers and the nodes of a scenario
unfoldable pub nodes : Data → Outcome Nodes
nodes d = do
  s ← servers d
  users ← member (codes "managers") (managers s.1 s.0.timeout) d
  Ok (s.0, s.1, users)

-- its locals, stops and schedule
abbrev pub Events : Type 0
Events = List (ℕ × List Stmt) × List (Place × ℕ × ℕ) × List ScheduleItem

-- the locals and the schedule of a scenario, and the stops that were found
unfoldable pub events : List ResourceDef → List ManagerDef → Option Data → Data → Outcome Events
events servers users found d = do
  writers ← member (codes "locals") (locals servers) d
  halts ← within (to_member (codes "stops")) (stops servers found)
  steps ← member (codes "schedule") (schedule servers users (length writers)) d
  Ok (writers, halts, steps)

-- an object without other members than these
unfoldable pub only_members : Data → Outcome (Unit {0})
only_members d = only scenario_members d

-- the scenario of these nodes and events, which isn't kept under a text yet
abbrev pub with_parts : Nodes → Events → Scenario
with_parts n e =
    record {
      timeout = n.0.timeout;
      lock_tries = n.0.lock_tries;
      retry = n.0.retry;
      forget = n.0.forget;
      disk = n.0.disk;
      resources = n.1;
      managers = n.2;
      locals = e.0;
      stops = e.1;
      schedule = e.2;
      base = [];
    }

-- the scenario of the data, and of the stops that were found in it, but for its `base`, or the first fault with its path from the root
unfoldable pub parts : Option Data → Data → Outcome Scenario
parts found d = do
  n ← nodes d
  e ← events n.1 n.2 found d
  _ ← only_members d
  Ok (with_parts n e)

-- the path as it is told: that of the root is a point
abbrev pub told_path : List ℕ → List ℕ
told_path [] = codes "."
told_path (c ∷ cs) = c ∷ cs

-- a fault with its path as it is told, and an outcome with such a fault
abbrev pub told : ScenarioError → ScenarioError
told (fault.Shape path) = fault.Shape (told_path path)
told (fault.Limit path limit) = fault.Limit (told_path path) limit
told (fault.Sql path at) = fault.Sql (told_path path) at
told (fault.Mode path) = fault.Mode (told_path path)
told (fault.Name path) = fault.Name (told_path path)
told fault.NotJson = fault.NotJson
told fault.NoMemory = fault.NoMemory

abbrev pub told_of : Outcome Scenario → Outcome Scenario
told_of (Ok s) = Ok s
told_of (Err e) = Err (told e)

-- the scenario of the data but for its `base`, or its first fault
unfoldable pub scenario_of : Data → Outcome Scenario
scenario_of d = told_of (parts (get (codes "stops") d) d)

-- the fault as it is told, unless memory was refused
abbrev pub IsTold : ScenarioError → ScenarioError → Type 0
IsTold old new = new ≢ fault.NoMemory → (old ≢ fault.NoMemory) × (new ≡ told old)
