-- The tables of a resource, one after another.
use Rattle.std.proofs.Common.{◌≡◌, List, [], ◌∷◌, ◌++◌, length, Ok, ℕ}
use Rattle.serde_json.specs.Data.{Data, Items, item}
use Rattle.seata_types.specs.declared.rows.Row.{Row}
use Rattle.local_tables.specs.declared.schemas.TableDef.{TableDef}
use Rattle.scenario_reader.specs.Resources.{each_table, named_rows}
use Rattle.scenario_reader.specs.Tables.{table}

-- a table that is read stands behind those before it, and its rows behind theirs
pub next_table : (defs : List TableDef) (opening : List (List ℕ × Row)) (d : Data) (ds : Items) (def : TableDef) (rows : List Row)
    → table defs (length opening) d ≡ Ok (def, rows) → each_table defs opening (item d ds) ≡ each_table (defs ++ def ∷ []) (opening ++ named_rows def.name rows) ds
next_table defs opening d ds def rows reads = rw reads
