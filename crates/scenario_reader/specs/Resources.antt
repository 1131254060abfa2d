-- Resources: their names, their tables and the rows that these have at the opening.
use Rattle.std.specs.Prelude.{ℕ, List, [], ◌∷◌, ◌++◌, length, map, Option, Ok, codes}
use Rattle.serde_json.specs.Data.{Data, Items, no_items, item}
use Rattle.seata_types.specs.declared.limits.TheConstants.{RESOURCES, TABLES}
use Rattle.seata_types.specs.declared.rows.Row.{Row}
use Rattle.local_tables.specs.declared.schemas.TableDef.{TableDef}
use Rattle.scenario_form.specs.declared.scenarios.ResourceDef.{ResourceDef}
use Rattle.scenario_reader.specs.Faults.{Outcome, ◌>>=◌, member, within, to_item, each, list, an_object, only}
use Rattle.scenario_reader.specs.Names.{new_node}
use Rattle.scenario_reader.specs.Tables.{table}

-- rows with the name of their table
abbrev pub named_rows : List ℕ → List Row → List (List ℕ × Row)
named_rows name rows = map (λ row. (name, row)) rows

-- tables and all their opening rows
abbrev pub Opened : Type 0
Opened = List TableDef × List (List ℕ × Row)

-- the tables, each behind those before it
abbrev pub each_table : List TableDef → List (List ℕ × Row) → Items → Outcome Opened
each_table defs opening no_items = Ok (defs, opening)
each_table defs opening (item d ds) =
    within (to_item (length defs)) (table defs (length opening) d)
    >>= (λ t. each_table (defs ++ t.0 ∷ []) (opening ++ named_rows t.0.name t.1) ds)

-- the tables of a resource, with their opening rows
unfoldable pub tables : Option Data → Outcome Opened
tables d = do
  items ← list TABLES d
  each_table [] [] items

-- the names of a resource's members
abbrev pub resource_members : List (List ℕ)
resource_members = codes "name" ∷ codes "tables" ∷ []

-- a resource, behind these
unfoldable pub resource : List ResourceDef → Data → Outcome ResourceDef
resource defs d = do
  _ ← an_object d
  name ← member (codes "name") (new_node defs []) d
  found ← member (codes "tables") tables d
  _ ← only resource_members d
  Ok (record { name = name; schema = record { tables = found.0 }; opening = found.1 })

-- the resources, each behind those before it
unfoldable pub resources : Option Data → Outcome (List ResourceDef)
resources d = do
  items ← list RESOURCES d
  each resource [] items
