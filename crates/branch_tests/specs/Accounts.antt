-- The table of the tests, and the row of its opening.
use Rattle.std.specs.Prelude.{ℕ, pos, List, [], ◌∷◌, codes}
use Rattle.seata_types.specs.declared.rows.Row.{Row}
use Rattle.seata_types.specs.declared.rows.Value.TheVariants as value
use Rattle.seata_types.specs.declared.statuses.BranchKind.TheVariants as kind
use Rattle.local_tables.specs.declared.schemas.ColType.TheVariants as type
use Rattle.local_tables.specs.declared.schemas.Schema.{Schema}
use Rattle.local_tables.specs.declared.schemas.TableDef.{TableDef}

-- the table `acc` with the columns id and m, and id as its key
abbrev pub account_table : TableDef
account_table = record { name = codes "acc"; mode = kind.At; columns = (codes "id", type.Int) ∷ ((codes "m", type.Int) ∷ []); key = 0 ∷ [] }

abbrev pub accounts : Schema
accounts = record { tables = account_table ∷ [] }

-- the row (1, 1000) of the table `acc`
abbrev pub account_rows : List (List ℕ × Row)
account_rows = (codes "acc", record { 0 = value.Int (pos 1) ∷ (value.Int (pos 1000) ∷ []) }) ∷ []
