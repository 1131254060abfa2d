-- Where a name is looked up, and names that are new.
use Rattle.std.specs.Prelude.{ℕ, ◌||◌, nat_le, Bool, if◌then◌else◌, List, length, Option, Ok}
use Rattle.std.specs.List.{list_any}
use Rattle.serde_json.specs.Data.{Data}
use Rattle.seata_types.specs.Orders.{same_text}
use Rattle.seata_types.specs.declared.limits.TheConstants.{NAME_BYTES, NODE_NAME_BYTES}
use Rattle.scenario_form.specs.declared.scenarios.ManagerDef.{ManagerDef}
use Rattle.scenario_form.specs.declared.scenarios.ResourceDef.{ResourceDef}
use Rattle.scenario_form.specs.Names.{is_node_name, is_table_name}
use Rattle.scenario_reader.specs.Faults.{Outcome, ◌>>=◌, wrong_shape, beyond, wrong_name, text}

-- ---- nodes

abbrev pub is_resource_named : List ℕ → ResourceDef → Bool
is_resource_named name def = same_text name def.name

abbrev pub is_manager_named : List ℕ → ManagerDef → Bool
is_manager_named name def = same_text name def.name

-- whether a node has this name
abbrev pub is_node : List ResourceDef → List ManagerDef → List ℕ → Bool
is_node resources managers name = list_any (is_resource_named name) resources || list_any (is_manager_named name) managers

-- a node's name that no node has
unfoldable pub new_node_name : List ResourceDef → List ManagerDef → List ℕ → Outcome (List ℕ)
new_node_name resources managers name =
    if is_node_name name
    then (if nat_le (length name) NODE_NAME_BYTES then (if is_node resources managers name then wrong_name else Ok name) else beyond NODE_NAME_BYTES)
    else wrong_shape

-- the same of a member
unfoldable pub new_node : List ResourceDef → List ManagerDef → Option Data → Outcome (List ℕ)
new_node resources managers d = do
  name ← text d
  new_node_name resources managers name

-- ---- tables and columns

-- such a name that isn't used
unfoldable pub new_name : Bool → List ℕ → Outcome (List ℕ)
new_name used name =
    if is_table_name name
    then (if nat_le (length name) NAME_BYTES then (if used then wrong_name else Ok name) else beyond NAME_BYTES)
    else wrong_shape
