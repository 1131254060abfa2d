-- Statements that write no value.
use Rattle.std.specs.Prelude.{◌≡◌, List, length}
use Rattle.std.specs.List.{AllByRecursion}
use Rattle.seata_types.specs.declared.statements.Action.{Action}
use Rattle.seata_types.specs.declared.statements.Stmt.{Stmt}
use Rattle.record_places.specs.Within.{IsStmtWithin}

-- one statement, which writes none
pub record IsDeletion (stmts : List Stmt) : Type 0 where
  pub counted : length stmts ≡ 1
  pub within : AllByRecursion IsStmtWithin stmts

-- a Try, a Confirm and a Cancel that each write none
pub record AreDeletions (action : Action) : Type 0 where
  pub tries : IsDeletion action.tries
  pub confirms : IsDeletion action.confirms
  pub cancels : IsDeletion action.cancels
