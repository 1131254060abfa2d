-- What records and effects of statements owe to a resource that asks its store.
use Rattle.std.specs.Prelude.{◌≡◌, true, List, Ok}
use Rattle.seata_types.specs.declared.statements.Stmt.{Stmt}
use Rattle.local_tables.specs.Calls.{effect}
use Rattle.local_tables.specs.Rows.{Database}
use Rattle.local_tables.specs.declared.schemas.Effect.{Effect}
use Rattle.memory_store.specs.Lists.{HoldsRecords}
use Rattle.resource_memory.specs.Changes.{fit}
use Rattle.resource_memory.specs.Keeping.{AreRows}
use Rattle.resource_store.specs.Meaning.{Setting}
use Rattle.resource_store.specs.Standing.{lists_of}

-- what two disks hold is what each list of records says that they stand for; a record behind them that may not come is the
-- damage; and what goes on stands for the same lists
abbrev pub DisksHoldRecords : Type 0
DisksHoldRecords = (t : Setting) → HoldsRecords (lists_of t)

-- an effect of statements, on tables whose rows fit, fits these tables
abbrev pub EffectsFit : Type 0
EffectsFit = (db : Database) (stmts : List Stmt) (e : Effect) → AreRows db → effect db stmts ≡ Ok e → fit db e.images e.reads ≡ true
