-- Which messages may be sent: those that the layout can hold and whose numbers and keys are within the limits.
use Rattle.std.specs.Prelude.{ℕ, ◌≤◌, ◌*◌, All, Option, Some, None, List, length}
use Rattle.seata_types.specs.declared.rows.RowKey.{RowKey}
use Rattle.seata_types.specs.declared.messages.Message.{Message}
use Rattle.seata_types.specs.declared.messages.Message.TheVariants as message
use Rattle.seata_types.specs.declared.messages.Registered.{Registered}
use Rattle.seata_types.specs.declared.messages.Registered.TheVariants as registered
use Rattle.seata_types.specs.declared.messages.CallAnswer.{CallAnswer}
use Rattle.seata_types.specs.declared.messages.CallAnswer.TheVariants as answer
use Rattle.seata_types.specs.declared.errors.StmtError.{StmtError}
use Rattle.seata_types.specs.declared.errors.StmtError.TheVariants as stmt
use Rattle.seata_types.specs.declared.errors.Why.{Why}
use Rattle.seata_types.specs.declared.errors.Why.TheVariants as why
use Rattle.seata_types.specs.declared.limits.TheConstants.{RESOURCES, MANAGERS, CALLS, STATEMENTS, STATEMENT_BYTES, CALL_ROWS, NAME_BYTES, TICKS}
use Rattle.seata_types.specs.declared.ids.Xid.{Xid}
use Rattle.seata_types.specs.declared.statements.Stmt.{Stmt}
use Rattle.seata_types.specs.declared.statements.Work.{Work}
use Rattle.seata_types.specs.declared.statements.Work.TheVariants as work
use Rattle.sql_reader.specs.Canonical.{canonical_text}
use Rattle.frame_codec.specs.Messages.{FitsMessage}

-- a number from 1 to its limit
abbrev pub IsCounted : ℕ → ℕ → Type 0
IsCounted limit n = (1 ≤ n) × (n ≤ limit)

-- a key whose resource's number and whose table's name are within the limits
pub record IsKeyWithin (key : RowKey) : Type 0 where
  pub resource : IsCounted RESOURCES key.resource
  pub table : length key.table ≤ NAME_BYTES

-- no more keys than rows that a call may touch or read, each within the limits
pub record AreKeysWithin (keys : List RowKey) : Type 0 where
  pub count : length keys ≤ CALL_ROWS
  pub each : All IsKeyWithin keys

-- the parts of answers: each key in them is within the limits, and each statement's number
abbrev pub IsRegisteredWithin : Registered → Type 0
IsRegisteredWithin (registered.Conflict key holder rolling) = IsKeyWithin key
IsRegisteredWithin _ = Unit {0}

abbrev pub IsErrorWithin : StmtError → Type 0
IsErrorWithin (stmt.Overflow key) = IsKeyWithin key
IsErrorWithin (stmt.Duplicate key) = IsKeyWithin key
IsErrorWithin _ = Unit {0}

abbrev pub IsWhyWithin : Why → Type 0
IsWhyWithin (why.Stmt index error) = IsCounted STATEMENTS index × IsErrorWithin error
IsWhyWithin (why.NoRow index) = IsCounted STATEMENTS index
IsWhyWithin _ = Unit {0}

abbrev pub IsAnswerWithin : CallAnswer → Type 0
IsAnswerWithin (answer.Done id) = Unit {0}
IsAnswerWithin (answer.Busy key by) = IsKeyWithin key
IsAnswerWithin (answer.Failed reason) = IsWhyWithin reason

abbrev pub IsHeldWithin : Option (RowKey × Xid) → Type 0
IsHeldWithin None = Unit {0}
IsHeldWithin (Some held) = IsKeyWithin held.0

-- a canonical text has at most one space before each token, so it is at most twice as long as a text that reads alike
abbrev pub IsStmtWithin : Stmt → Type 0
IsStmtWithin stmt = length (canonical_text stmt) ≤ 2 * STATEMENT_BYTES

-- no more statements than a list may have, none of them too long
pub record AreStmtsWithin (stmts : List Stmt) : Type 0 where
  pub count : length stmts ≤ STATEMENTS
  pub each : All IsStmtWithin stmts

-- the statements of AT work, or each of the three lists of a TCC action
abbrev pub IsWorkWithin : Work → Type 0
IsWorkWithin (work.At stmts) = AreStmtsWithin stmts
IsWorkWithin (work.Tcc action) = AreStmtsWithin action.tries × AreStmtsWithin action.confirms × AreStmtsWithin action.cancels

-- the statement without meaning is 0 where there is none
abbrev pub IsWithinLimits : Message → Type 0
IsWithinLimits (message.Begin manager timeout) = IsCounted MANAGERS manager × IsCounted TICKS timeout
IsWithinLimits (message.BranchCommit xid id mode manager call) = IsCounted MANAGERS manager × IsCounted CALLS call
IsWithinLimits (message.BranchCommitted xid id status stmt) = stmt ≤ STATEMENTS
IsWithinLimits (message.BranchRollback xid id mode manager call) = IsCounted MANAGERS manager × IsCounted CALLS call
IsWithinLimits (message.BranchRollbacked xid id status stmt) = stmt ≤ STATEMENTS
IsWithinLimits (message.Register xid resource call ticket mode hold check) =
    IsCounted RESOURCES resource × IsCounted CALLS call × AreKeysWithin hold × AreKeysWithin check
IsWithinLimits (message.RegisterAnswer ticket xid given) = IsRegisteredWithin given
IsWithinLimits (message.LockQuery resource ticket check) = IsCounted RESOURCES resource × AreKeysWithin check
IsWithinLimits (message.LockAnswer ticket held) = IsHeldWithin held
IsWithinLimits (message.Call xid manager resource call work) =
    IsCounted MANAGERS manager × IsCounted RESOURCES resource × IsCounted CALLS call × IsWorkWithin work
IsWithinLimits (message.Answer xid call given) = IsCounted CALLS call × IsAnswerWithin given
IsWithinLimits _ = Unit {0}

-- the condition of sending
pub record IsFramable (message : Message) : Type 0 where
  pub layout : FitsMessage message
  pub limits : IsWithinLimits message
