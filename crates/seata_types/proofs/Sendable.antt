-- Which types may go to another thread (`send`), and which several threads may look at at once (`sync`). The check finds both
-- by itself for most types, but not for a condition, whose type leads back to itself, nor for what holds one. A `field` is
-- the same of a type as a part of another.
use Rattle.std.proofs.Common.{[], ◌∷◌}
use denote.RattleType.{RattleType}
use denote.Struct.Declared.{shape}
use denote.Struct.Tuple.{Tuple, tuple_type, tuple_field}
use denote.Param.Send.{IsSend, IsSync, sendable, struct_send, struct_sync, recorded_send, recorded_sync}
use denote.Param.SendFields.{as_row_send, as_row_sync}
use Rattle.std.proofs.Crossing.{crosses, Box-send, Box-sync}
use Rattle.seata_types.proofs.conditions.Cond.TheLaws.TheKnot.{send-Cond, sync-Cond}
use Rattle.seata_types.proofs.conditions.Op.TheSendSync.{the_send as op_send, the_sync as op_sync}
use Rattle.seata_types.proofs.ids.Xid.TheSendSync.{the_field_send as xid_field_send, the_send as xid_send}
use Rattle.seata_types.proofs.ids.BranchId.TheSendSync.{the_field_send as branch_send}
use Rattle.seata_types.proofs.ids.Ticket.TheSendSync.{the_field_send as ticket_send}
use Rattle.seata_types.proofs.statuses.BranchKind.TheSendSync.{the_field_send as kind_send}
use Rattle.seata_types.proofs.statuses.BranchStatus.TheSendSync.{the_field_send as branch_status_send}
use Rattle.seata_types.proofs.statuses.GlobalStatus.TheSendSync.{the_field_send as global_status_send}
use Rattle.seata_types.proofs.lists.List.TheSendSync.{the_send as list_send, the_sync as list_sync}
use Rattle.seata_types.proofs.rows.Value.TheSendSync.{the_send as value_send, the_sync as value_sync}
use Rattle.seata_types.proofs.sharing.Shared.TheSendSync.{the_send as shared_send, the_sync as shared_sync}
use Rattle.seata_types.proofs.statements.Expr.TheSendSync.{the_send as expr_send, the_sync as expr_sync}
use Rattle.seata_types.proofs.texts.Text.TheSendSync.{the_send as text_send, the_sync as text_sync}
use Rattle.seata_types.proofs.messages.CallAnswer.TheSendSync.{the_field_send as call_answer_send}
use Rattle.seata_types.proofs.messages.Registered.TheSendSync.{the_field_send as registered_send}
use Rattle.seata_types.proofs.rows.RowKey.TheSendSync.{the_send as row_key_send}
use Rattle.seata_types.specs.contracts.conditions.Cond as cond
use Rattle.seata_types.specs.contracts.lists.List as list
use Rattle.seata_types.specs.contracts.messages.Message as message
use Rattle.seata_types.specs.contracts.sharing.Shared as shared
use Rattle.seata_types.specs.contracts.statements.Action as action
use Rattle.seata_types.specs.contracts.statements.Stmt as stmt
use Rattle.seata_types.specs.contracts.statements.Work as work
use Rattle.seata_types.specs.contracts.texts.Text as text

-- a pair of values that may go
pair_send : (T : RattleType) → IsSend T → IsSend (Tuple (T ∷ T ∷ []))
pair_send T s =
    recorded_send
    (tuple_field (T ∷ T ∷ [])).row
    _
    _
    (tuple_type (T ∷ T ∷ [])).to_one
    (struct_send (shape (tuple_type (T ∷ T ∷ []))) (s, (s, tt)))

-- a pair of values that may be looked at
pair_sync : (T : RattleType) → IsSync T → IsSync (Tuple (T ∷ T ∷ []))
pair_sync T s =
    recorded_sync
    (tuple_field (T ∷ T ∷ [])).row
    _
    _
    (tuple_type (T ∷ T ∷ [])).to_one
    (struct_sync (shape (tuple_type (T ∷ T ∷ []))) (s, (s, tt)))

-- a condition
pub cond_send : IsSend cond.the_row
cond_send =
    send-Cond
    (as_row_send text.the_field text_send)
    op_send
    value_send
    (λ T s. Box-send (Tuple (T ∷ T ∷ [])) (pair_send T s))
    (λ T s. Box-send T s)

pub cond_sync : IsSync cond.the_row
cond_sync =
    sync-Cond
    (as_row_sync text.the_field text_sync)
    op_sync
    value_sync
    (λ T s. Box-sync (Tuple (T ∷ T ∷ [])) (pair_sync T s))
    (λ T s. Box-sync T s)

-- a statement
pub stmt_send : IsSend stmt.the_row
stmt_send = search (sendable, crosses, list_send, text_send, value_send, expr_send, cond_send) depth 20 fits 6000

pub stmt_sync : IsSync stmt.the_row
stmt_sync = search (sendable, crosses, list_sync, text_sync, value_sync, expr_sync, cond_sync) depth 20 fits 6000

-- an action of a TCC call
pub action_field_send : IsSend (action.the_field).row
action_field_send = search (sendable, list_send, stmt_send) depth 12

pub action_field_sync : IsSync (action.the_field).row
action_field_sync = search (sendable, list_sync, stmt_sync) depth 12

pub action_send : IsSend action.the_row
action_send = search (sendable, action_field_send) depth 12

pub action_sync : IsSync action.the_row
action_sync = search (sendable, action_field_sync) depth 12

-- an action and statements that several have
pub shared_action_send : IsSend (shared.the_row action.the_row)
shared_action_send = search (shared_send, action_send, action_sync)

pub shared_stmts_send : IsSend (shared.the_row (list.the_row stmt.the_row))
shared_stmts_send = search (shared_send, list_send, list_sync, stmt_send, stmt_sync)

-- what a call asks of a resource
pub work_field_send : IsSend (work.the_field).row
work_field_send = search (sendable, shared_send, list_send, list_sync, stmt_send, stmt_sync, action_send, action_sync) depth 12

pub work_field_sync : IsSync (work.the_field).row
work_field_sync = search (sendable, shared_sync, list_send, list_sync, stmt_send, stmt_sync, action_send, action_sync) depth 12

pub work_send : IsSend work.the_row
work_send = search (sendable, work_field_send) depth 12

pub work_sync : IsSync work.the_row
work_sync = search (sendable, work_field_sync) depth 12

-- a message
pub message_field_send : IsSend (message.the_field).row
message_field_send =
    search (
      sendable,
      crosses,
      list_send,
      row_key_send,
      registered_send,
      call_answer_send,
      work_field_send,
      branch_send,
      ticket_send,
      kind_send,
      branch_status_send,
      global_status_send,
      xid_field_send,
      xid_send,
    ) depth 40 fits 20000

pub message_send : IsSend message.the_row
message_send = search (sendable, message_field_send) depth 12

-- for the `search` of a type that holds some of them and may go
pub ruleset words =
    (list_send, cond_send, stmt_send, action_field_send, action_send, shared_action_send, shared_stmts_send, work_field_send, work_send, message_field_send, message_send)

-- for the `search` of a type that holds some of them and may be looked at
pub ruleset shared_words =
    (list_sync, cond_sync, stmt_sync, action_field_sync, action_sync, work_field_sync, work_sync)
