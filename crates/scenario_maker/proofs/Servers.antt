-- The resources of a made scenario are read.
use Rattle.std.proofs.Common.{◌≡◌, ℕ, List, [], ◌∷◌, length, Some, Ok, refl}
use Rattle.std.specs.Fmt.{digits}
use Rattle.serde_json.specs.Data.{string, array, no_items, item}
use Rattle.seata_types.specs.declared.rows.Row.{Row}
use Rattle.scenario_form.specs.declared.scenarios.ResourceDef.{ResourceDef}
use Rattle.scenario_form.specs.Names.{is_node_name, is_table_name}
use Rattle.scenario_reader.specs.Faults.{text, list, pair, only}
use Rattle.scenario_reader.specs.Names.{new_node, new_node_name, new_name}
use Rattle.scenario_reader.specs.Resources as reader
use Rattle.scenario_reader.specs.Tables as table
use Rattle.scenario_maker.specs.Scenarios.{accounts, stocks, schema, account_rows, stock_rows, opening, resource, resources}
use Rattle.scenario_maker.proofs.Shapes.{items_by, server_name, accounts_data, stocks_data, server_data, server_at}

-- ---- tables

abbrev opened : List (List ℕ × Row)
opened = reader.named_rows accounts.name account_rows

accounts_read : table.table [] 0 accounts_data ≡ Ok (accounts, account_rows)
unfolding accounts account_rows accounts_data text list pair only is_table_name new_name table.table_name table.mode table.column table.columns table.key_column table.key table.int_cell table.cell_at table.row table.new_row table.rows table.heading table.content table.table
accounts_read = refl

stocks_read : table.table (accounts ∷ []) (length opened) stocks_data ≡ Ok (stocks, stock_rows)
unfolding accounts stocks account_rows stock_rows stocks_data text list pair only is_table_name new_name table.table_name table.mode table.column table.columns table.key_column table.key table.int_cell table.cell_at table.row table.new_row table.rows table.heading table.content table.table
stocks_read = refl

tables_read : reader.tables (Some (array (item accounts_data (item stocks_data no_items)))) ≡ Ok (accounts ∷ stocks ∷ [], opening)
unfolding reader.tables list opening
tables_read = rw (accounts_read, stocks_read) refl

-- ---- resources

server_read : (before : List ResourceDef) (n : ℕ) → new_node before [] (Some (string (server_name n))) ≡ Ok (server_name n)
    → reader.resource before (server_data (server_name n)) ≡ Ok (resource n)
unfolding reader.resource server_data resource schema only
server_read before n named = rw (named, tables_read) refl

first_name : new_node [] [] (Some (string (server_name 1))) ≡ Ok (server_name 1)
unfolding new_node new_node_name text is_node_name digits
first_name = refl

second_name : new_node (resource 1 ∷ []) [] (Some (string (server_name 2))) ≡ Ok (server_name 2)
unfolding new_node new_node_name text is_node_name digits resource
second_name = refl

third_name : new_node (resource 1 ∷ resource 2 ∷ []) [] (Some (string (server_name 3))) ≡ Ok (server_name 3)
unfolding new_node new_node_name text is_node_name digits resource
third_name = refl

fourth_name : new_node (resource 1 ∷ resource 2 ∷ resource 3 ∷ []) [] (Some (string (server_name 4))) ≡ Ok (server_name 4)
unfolding new_node new_node_name text is_node_name digits resource
fourth_name = refl

pub servers_read : reader.resources (Some (array (items_by server_at 0 4))) ≡ Ok resources
unfolding reader.resources list items_by resources
servers_read =
    rw (
      server_read [] 1 first_name,
      server_read (resource 1 ∷ []) 2 second_name,
      server_read (resource 1 ∷ resource 2 ∷ []) 3 third_name,
      server_read (resource 1 ∷ resource 2 ∷ resource 3 ∷ []) 4 fourth_name,
    ) refl
