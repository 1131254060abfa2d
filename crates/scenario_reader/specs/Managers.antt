-- Managers.
use Rattle.std.specs.Prelude.{ℕ, Bool, false, if◌then◌else◌, List, [], ◌∷◌, Option, Some, None, Ok, codes}
use Rattle.serde_json.specs.Data.{Data}
use Rattle.serde_json.specs.Find.{as_bool}
use Rattle.seata_types.specs.Orders.{same_text}
use Rattle.seata_types.specs.declared.limits.TheConstants.{MANAGERS, SILENT, TICKS}
use Rattle.seata_types.specs.declared.statements.Work.{Work}
use Rattle.seata_types.specs.declared.statuses.Ending.{Ending}
use Rattle.seata_types.specs.declared.statuses.Ending.TheVariants as how
use Rattle.scenario_form.specs.declared.scenarios.ManagerDef.{ManagerDef}
use Rattle.scenario_form.specs.declared.scenarios.ResourceDef.{ResourceDef}
use Rattle.scenario_reader.specs.Faults.{Outcome, ◌>>=◌, wrong_shape, member, each, text, list, an_object, only}
use Rattle.scenario_reader.specs.Numbers.{number_in, number_or}
use Rattle.scenario_reader.specs.Names.{new_node}
use Rattle.scenario_reader.specs.Calls.{calls}

-- the ending that this word names
abbrev pub ending_in : List ℕ → Outcome Ending
ending_in word =
    if same_text word (codes "commit") then Ok how.Commit
    else (if same_text word (codes "rollback") then Ok how.Rollback else wrong_shape)

-- how a transaction is ended
unfoldable pub ending : Option Data → Outcome Ending
ending d = text d >>= ending_in

-- how many messages a manager may send, without a bound where that is left out
unfoldable pub silent : Option Data → Outcome (Option ℕ)
silent None = Ok None
silent (Some d) = do
  most ← number_in 0 SILENT d
  Ok (Some most)

-- a truth value, where one is there
abbrev pub truth_by : Option Bool → Outcome Bool
truth_by (Some b) = Ok b
truth_by None = wrong_shape

-- whether a manager asks for the status once it has closed
unfoldable pub poll : Option Data → Outcome Bool
poll None = Ok false
poll (Some d) = truth_by (as_bool d)

-- the names of a manager's members
abbrev pub manager_members : List (List ℕ)
manager_members = codes "name" ∷ codes "timeout" ∷ codes "calls" ∷ codes "end" ∷ codes "silent" ∷ codes "poll" ∷ []

-- a manager's name, timeout and calls, behind these managers
unfoldable pub heading : List ResourceDef → ℕ → List ManagerDef → Data → Outcome (List ℕ × ℕ × List (ℕ × Work))
heading resources timeout defs d = do
  _ ← an_object d
  name ← member (codes "name") (new_node resources defs) d
  ticks ← member (codes "timeout") (number_or timeout 1 TICKS) d
  found ← member (codes "calls") (calls resources) d
  Ok (name, ticks, found)

-- its end, and how it falls silent and asks
unfoldable pub closing : Data → Outcome (Ending × Option ℕ × Bool)
closing d = do
  ends ← member (codes "end") ending d
  most ← member (codes "silent") silent d
  asks ← member (codes "poll") poll d
  Ok (ends, most, asks)

-- a manager, behind these, with the timeout of the scenario where it has none of its own
unfoldable pub manager : List ResourceDef → ℕ → List ManagerDef → Data → Outcome ManagerDef
manager resources timeout defs d = do
  head ← heading resources timeout defs d
  rest ← closing d
  _ ← only manager_members d
  Ok (record { name = head.0; timeout = head.1; calls = head.2; ending = rest.0; silent = rest.1; poll = rest.2 })

-- the managers, each behind those before it, with the timeout of those that have none of their own
unfoldable pub managers : List ResourceDef → ℕ → Option Data → Outcome (List ManagerDef)
managers resources timeout d = do
  items ← list MANAGERS d
  each (manager resources timeout) [] items
