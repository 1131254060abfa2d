-- What a resource's answers leave of what it is ready for; which statements have places.
use Rattle.std.specs.Prelude.{◌≡◌, ◌<◌, ◌≤◌, ◌-◌, ◌^◌, false, List, length, Result}
use Rattle.disk_model.specs.Disk.{DiskState}
use Rattle.seata_types.specs.declared.errors.NodeError.{NodeError}
use Rattle.seata_types.specs.declared.limits.TheConstants.{STATEMENTS}
use Rattle.seata_types.specs.declared.messages.Input.{Input}
use Rattle.seata_types.specs.declared.messages.Step.{Step}
use Rattle.seata_types.specs.declared.statements.Stmt.{Stmt}
use Rattle.frame_codec.specs.Works.{FitsStmts}
use Rattle.resource_store.specs.Keeping.{is_down}
use Rattle.resource_core.specs.Ready.{AreStmtsWithin, IsReady, Serves}
use Rattle.resource_core.specs.Stepping.{Answers}
use Rattle.resource_core.specs.declared.branches.Branches.{Branches}

-- a resource that was ready is ready again after it answered, unless its disks failed, while tickets are left
abbrev pub StaysReady : {D : Type 0} → (D → DiskState) → Type 0
StaysReady {D} state = (old new : Branches D) (given : Input) (result : Result Step NodeError) → Answers state old new given result → IsReady old → Serves given
    → is_down new.store ≡ false → new.txns.opened < 2 ^ 32 - 1 → IsReady new

-- the values of statements that can be framed have places in a record
abbrev pub StatementsHavePlaces : Type 0
StatementsHavePlaces = (stmts : List Stmt) → FitsStmts stmts → length stmts ≤ STATEMENTS → AreStmtsWithin stmts
