-- Nodes that a step or a stop names, and the stops.
use Rattle.std.specs.Prelude.{ℕ, ◌+◌, if◌then◌else◌, List, [], position, Option, Some, None, Ok, codes}
use Rattle.serde_json.specs.Data.{Data}
use Rattle.serde_json.specs.Find.{as_str}
use Rattle.disk_model.specs.declared.disk.TheConstants.{LAST_PICK}
use Rattle.seata_types.specs.Orders.{same_text}
use Rattle.seata_types.specs.declared.ids.Place.{Place}
use Rattle.seata_types.specs.declared.ids.Place.TheVariants as place
use Rattle.seata_types.specs.declared.limits.TheConstants.{STOP_CALLS}
use Rattle.scenario_form.specs.declared.scenarios.ManagerDef.{ManagerDef}
use Rattle.scenario_form.specs.declared.scenarios.ResourceDef.{ResourceDef}
use Rattle.scenario_reader.specs.Faults.{Outcome, ◌>>=◌, wrong_shape, wrong_name, within, to_item, each, text_by, any_list, triple}
use Rattle.scenario_reader.specs.Numbers.{number_in}
use Rattle.scenario_form.specs.Names.{is_word}
use Rattle.scenario_reader.specs.Names.{is_resource_named, is_manager_named}

-- the manager at a place, counted from 0, where the name was found
abbrev pub manager_by : Option ℕ → Outcome Place
manager_by (Some k) = Ok (place.Man (k + 1))
manager_by None = wrong_name

-- the resource at a place, counted from 0, or else what stands among the others
abbrev pub server_by : Outcome Place → Option ℕ → Outcome Place
server_by others (Some k) = Ok (place.Res (k + 1))
server_by others None = others

-- the coordinator or a resource of this name, or else what stands among the others
abbrev pub server_or : Outcome Place → List ResourceDef → List ℕ → Outcome Place
server_or others resources name =
    if same_text name (codes "tc") then Ok place.Tc else server_by others (position (is_resource_named name) resources)

-- the coordinator or the resource of this name
unfoldable pub server : List ResourceDef → List ℕ → Outcome Place
server resources name = server_or wrong_name resources name

-- the node of this name
unfoldable pub node : List ResourceDef → List ManagerDef → List ℕ → Outcome Place
node resources managers name = server_or (manager_by (position (is_manager_named name) managers)) resources name

-- ---- stops

-- the coordinator or the resource that a stop names, by the word and by the data
abbrev pub stopped_in : List ResourceDef → List ℕ → Outcome Place
stopped_in resources name = if is_word name then server resources name else wrong_shape

abbrev pub stopped : List ResourceDef → Data → Outcome Place
stopped resources d = text_by (as_str d) >>= stopped_in resources

-- a stop: a node with disks, how many calls of them it makes, and the pick of its restart
unfoldable pub stop : List ResourceDef → Data → Outcome (Place × ℕ × ℕ)
stop resources d = do
  parts ← triple d
  at ← within (to_item 0) (stopped resources parts.0)
  calls ← within (to_item 1) (number_in 0 STOP_CALLS parts.1)
  pick ← within (to_item 2) (number_in 0 LAST_PICK parts.2)
  Ok (at, calls, pick)

-- the next stop of a list, whatever stands before it
abbrev pub next_stop : List ResourceDef → List (Place × ℕ × ℕ) → Data → Outcome (Place × ℕ × ℕ)
next_stop resources stops d = stop resources d

-- the stops, none where they are left out
unfoldable pub stops : List ResourceDef → Option Data → Outcome (List (Place × ℕ × ℕ))
stops resources None = Ok []
stops resources (Some d) = do
  items ← any_list d
  each (next_stop resources) [] items
