-- The fields of each message are read back, and what is read as one stands there.
use Rattle.std.proofs.Common.{◌≡◌, ℕ, ◌+◌, ◌^◌, ◌<◌, true, Option, List, [], ◌∷◌, ◌++◌, length, Ok, refl}
use Rattle.std.specs.Int.{w16, w64, to_be_bytes}
use Rattle.seata_types.specs.declared.ids.Xid.{Xid}
use Rattle.seata_types.specs.declared.ids.BranchId.{BranchId}
use Rattle.seata_types.specs.declared.ids.Ticket.{Ticket}
use Rattle.seata_types.specs.declared.rows.RowKey.{RowKey}
use Rattle.seata_types.specs.declared.statuses.BranchKind.{BranchKind}
use Rattle.seata_types.specs.declared.statuses.GlobalStatus.{GlobalStatus}
use Rattle.seata_types.specs.declared.statuses.BranchStatus.{BranchStatus}
use Rattle.seata_types.specs.declared.messages.Registered.{Registered}
use Rattle.seata_types.specs.declared.messages.CallAnswer.{CallAnswer}
use Rattle.seata_types.specs.declared.statements.Work.{Work}
use Rattle.seata_types.specs.declared.messages.Message.{Message}
use Rattle.seata_types.specs.declared.messages.Message.TheVariants as message
use Rattle.seata_types.specs.Statuses.{code_of, branch_code_of}
use Rattle.byte_fields.specs.Layout.{FitsKeys, FitsTicket, keys_bytes, ticket_bytes}
use Rattle.byte_fields.specs.Reading.{Position}
use Rattle.byte_fields.specs.Exactness.{AreBytes, Stands}
use Rattle.byte_fields.proofs.Chains.{ReadsParts, part, last_part}
use Rattle.byte_fields.proofs.Numbers.{two_bytes_exact, eight_bytes_exact}
use Rattle.byte_fields.proofs.Records.{written_keys_exact, ticket_exact}
use Rattle.byte_fields.specs.Parts.{xid_bytes, FitsXid, branch_bytes, FitsBranch, kind_code}
use Rattle.frame_codec.specs.Parts.{registered_bytes, FitsRegistered, held_bytes, FitsHeld, answer_bytes, FitsAnswer}
use Rattle.frame_codec.specs.Works.{work_bytes, FitsWork}
use Rattle.frame_codec.specs.Messages.{type_code, fields_bytes, FitsMessage, begin_at, begun_at, branch_commit_at, branch_committed_at, branch_rollback_at, branch_rollbacked_at, global_commit_at, commit_status_at, global_rollback_at, rollback_status_at, register_at, register_answer_at, global_status_at, status_answer_at, lock_query_at, lock_answer_at, call_at, call_answer_at, messages, is_known, fields_at}
use Rattle.byte_fields.proofs.PartLaws.{xid_exact, branch_exact, kind_exact, status_exact, branch_status_exact}
use Rattle.frame_codec.proofs.PartLaws.{registered_exact, held_exact, answer_exact}
use Rattle.frame_codec.proofs.WorkLaws.{work_exact}
use Rattle.byte_fields.proofs.Tables.{IsComplete, AreSound, sound, table_sound}

begin_part : ReadsParts begin_at (λ (t : ℕ × (ℕ)). message.Begin t.0 t.1)
    (λ t. to_be_bytes w16 t.0 ++ (to_be_bytes w64 t.1))
    (λ t. (t.0 < 2 ^ 16) × ((t.1 < 2 ^ 64)))
unfolding begin_at
begin_part = part two_bytes_exact (λ manager. last_part (λ timeout. message.Begin manager timeout) eight_bytes_exact)

begun_part : ReadsParts begun_at (λ (t : Xid). message.Begun t)
    (λ t. xid_bytes t)
    (λ t. FitsXid t)
unfolding begun_at
begun_part = last_part (λ xid. message.Begun xid) xid_exact

branch_commit_part : ReadsParts branch_commit_at (λ (t : Xid × (BranchId × (BranchKind × (ℕ × (ℕ))))). message.BranchCommit t.0 t.1.0 t.1.1.0 t.1.1.1.0 t.1.1.1.1)
    (λ t. xid_bytes t.0 ++ (branch_bytes t.1.0 ++ ((kind_code t.1.1.0 ∷ []) ++ (to_be_bytes w16 t.1.1.1.0 ++ (to_be_bytes w16 t.1.1.1.1)))))
    (λ t. FitsXid t.0 × (FitsBranch t.1.0 × (Unit {0} × ((t.1.1.1.0 < 2 ^ 16) × ((t.1.1.1.1 < 2 ^ 16))))))
unfolding branch_commit_at
branch_commit_part = part xid_exact (λ xid. part branch_exact (λ id. part kind_exact (λ mode. part two_bytes_exact (λ manager. last_part (λ call. message.BranchCommit xid id mode manager call) two_bytes_exact))))

branch_committed_part : ReadsParts branch_committed_at (λ (t : Xid × (BranchId × (BranchStatus × (ℕ)))). message.BranchCommitted t.0 t.1.0 t.1.1.0 t.1.1.1)
    (λ t. xid_bytes t.0 ++ (branch_bytes t.1.0 ++ ((branch_code_of t.1.1.0 ∷ []) ++ (to_be_bytes w16 t.1.1.1))))
    (λ t. FitsXid t.0 × (FitsBranch t.1.0 × (Unit {0} × ((t.1.1.1 < 2 ^ 16)))))
unfolding branch_committed_at
branch_committed_part = part xid_exact (λ xid. part branch_exact (λ id. part branch_status_exact (λ status. last_part (λ stmt. message.BranchCommitted xid id status stmt) two_bytes_exact)))

branch_rollback_part : ReadsParts branch_rollback_at (λ (t : Xid × (BranchId × (BranchKind × (ℕ × (ℕ))))). message.BranchRollback t.0 t.1.0 t.1.1.0 t.1.1.1.0 t.1.1.1.1)
    (λ t. xid_bytes t.0 ++ (branch_bytes t.1.0 ++ ((kind_code t.1.1.0 ∷ []) ++ (to_be_bytes w16 t.1.1.1.0 ++ (to_be_bytes w16 t.1.1.1.1)))))
    (λ t. FitsXid t.0 × (FitsBranch t.1.0 × (Unit {0} × ((t.1.1.1.0 < 2 ^ 16) × ((t.1.1.1.1 < 2 ^ 16))))))
unfolding branch_rollback_at
branch_rollback_part = part xid_exact (λ xid. part branch_exact (λ id. part kind_exact (λ mode. part two_bytes_exact (λ manager. last_part (λ call. message.BranchRollback xid id mode manager call) two_bytes_exact))))

branch_rollbacked_part : ReadsParts branch_rollbacked_at (λ (t : Xid × (BranchId × (BranchStatus × (ℕ)))). message.BranchRollbacked t.0 t.1.0 t.1.1.0 t.1.1.1)
    (λ t. xid_bytes t.0 ++ (branch_bytes t.1.0 ++ ((branch_code_of t.1.1.0 ∷ []) ++ (to_be_bytes w16 t.1.1.1))))
    (λ t. FitsXid t.0 × (FitsBranch t.1.0 × (Unit {0} × ((t.1.1.1 < 2 ^ 16)))))
unfolding branch_rollbacked_at
branch_rollbacked_part = part xid_exact (λ xid. part branch_exact (λ id. part branch_status_exact (λ status. last_part (λ stmt. message.BranchRollbacked xid id status stmt) two_bytes_exact)))

global_commit_part : ReadsParts global_commit_at (λ (t : Xid). message.GlobalCommit t)
    (λ t. xid_bytes t)
    (λ t. FitsXid t)
unfolding global_commit_at
global_commit_part = last_part (λ xid. message.GlobalCommit xid) xid_exact

commit_status_part : ReadsParts commit_status_at (λ (t : Xid × (GlobalStatus)). message.CommitStatus t.0 t.1)
    (λ t. xid_bytes t.0 ++ ((code_of t.1 ∷ [])))
    (λ t. FitsXid t.0 × (Unit {0}))
unfolding commit_status_at
commit_status_part = part xid_exact (λ xid. last_part (λ status. message.CommitStatus xid status) status_exact)

global_rollback_part : ReadsParts global_rollback_at (λ (t : Xid). message.GlobalRollback t)
    (λ t. xid_bytes t)
    (λ t. FitsXid t)
unfolding global_rollback_at
global_rollback_part = last_part (λ xid. message.GlobalRollback xid) xid_exact

rollback_status_part : ReadsParts rollback_status_at (λ (t : Xid × (GlobalStatus)). message.RollbackStatus t.0 t.1)
    (λ t. xid_bytes t.0 ++ ((code_of t.1 ∷ [])))
    (λ t. FitsXid t.0 × (Unit {0}))
unfolding rollback_status_at
rollback_status_part = part xid_exact (λ xid. last_part (λ status. message.RollbackStatus xid status) status_exact)

register_part : ReadsParts register_at (λ (t : Xid × (ℕ × (ℕ × (Ticket × (BranchKind × (List RowKey × (List RowKey))))))). message.Register t.0 t.1.0 t.1.1.0 t.1.1.1.0 t.1.1.1.1.0 t.1.1.1.1.1.0 t.1.1.1.1.1.1)
    (λ t. xid_bytes t.0 ++ (to_be_bytes w16 t.1.0 ++ (to_be_bytes w16 t.1.1.0 ++ (ticket_bytes t.1.1.1.0 ++ ((kind_code t.1.1.1.1.0 ∷ []) ++ (keys_bytes t.1.1.1.1.1.0 ++ (keys_bytes t.1.1.1.1.1.1)))))))
    (λ t. FitsXid t.0 × ((t.1.0 < 2 ^ 16) × ((t.1.1.0 < 2 ^ 16) × (FitsTicket t.1.1.1.0 × (Unit {0} × (FitsKeys t.1.1.1.1.1.0 × (FitsKeys t.1.1.1.1.1.1)))))))
unfolding register_at
register_part = part xid_exact (λ xid. part two_bytes_exact (λ resource. part two_bytes_exact (λ call. part ticket_exact (λ ticket. part kind_exact (λ mode. part written_keys_exact (λ hold. last_part (λ check. message.Register xid resource call ticket mode hold check) written_keys_exact))))))

register_answer_part : ReadsParts register_answer_at (λ (t : Ticket × (Xid × (Registered))). message.RegisterAnswer t.0 t.1.0 t.1.1)
    (λ t. ticket_bytes t.0 ++ (xid_bytes t.1.0 ++ (registered_bytes t.1.1)))
    (λ t. FitsTicket t.0 × (FitsXid t.1.0 × (FitsRegistered t.1.1)))
unfolding register_answer_at
register_answer_part = part ticket_exact (λ ticket. part xid_exact (λ xid. last_part (λ given. message.RegisterAnswer ticket xid given) registered_exact))

global_status_part : ReadsParts global_status_at (λ (t : Xid). message.GlobalStatus t)
    (λ t. xid_bytes t)
    (λ t. FitsXid t)
unfolding global_status_at
global_status_part = last_part (λ xid. message.GlobalStatus xid) xid_exact

status_answer_part : ReadsParts status_answer_at (λ (t : Xid × (GlobalStatus)). message.StatusAnswer t.0 t.1)
    (λ t. xid_bytes t.0 ++ ((code_of t.1 ∷ [])))
    (λ t. FitsXid t.0 × (Unit {0}))
unfolding status_answer_at
status_answer_part = part xid_exact (λ xid. last_part (λ status. message.StatusAnswer xid status) status_exact)

lock_query_part : ReadsParts lock_query_at (λ (t : ℕ × (Ticket × List RowKey)). message.LockQuery t.0 t.1.0 t.1.1)
    (λ t. to_be_bytes w16 t.0 ++ (ticket_bytes t.1.0 ++ keys_bytes t.1.1))
    (λ t. (t.0 < 2 ^ 16) × (FitsTicket t.1.0 × FitsKeys t.1.1))
unfolding lock_query_at
lock_query_part = part two_bytes_exact (λ resource. part ticket_exact (λ ticket. last_part (λ check. message.LockQuery resource ticket check) written_keys_exact))

lock_answer_part : ReadsParts lock_answer_at (λ (t : Ticket × Option (RowKey × Xid)). message.LockAnswer t.0 t.1)
    (λ t. ticket_bytes t.0 ++ held_bytes t.1)
    (λ t. FitsTicket t.0 × FitsHeld t.1)
unfolding lock_answer_at
lock_answer_part = part ticket_exact (λ ticket. last_part (λ held. message.LockAnswer ticket held) held_exact)

call_part : ReadsParts call_at (λ (t : Xid × (ℕ × (ℕ × (ℕ × Work)))). message.Call t.0 t.1.0 t.1.1.0 t.1.1.1.0 t.1.1.1.1)
    (λ t. xid_bytes t.0 ++ (to_be_bytes w16 t.1.0 ++ (to_be_bytes w16 t.1.1.0 ++ (to_be_bytes w16 t.1.1.1.0 ++ work_bytes t.1.1.1.1))))
    (λ t. FitsXid t.0 × ((t.1.0 < 2 ^ 16) × ((t.1.1.0 < 2 ^ 16) × ((t.1.1.1.0 < 2 ^ 16) × FitsWork t.1.1.1.1))))
unfolding call_at
call_part = part xid_exact (λ xid. part two_bytes_exact (λ manager. part two_bytes_exact (λ resource. part two_bytes_exact (λ call. last_part (λ work. message.Call xid manager resource call work) work_exact))))

call_answer_part : ReadsParts call_answer_at (λ (t : Xid × (ℕ × (CallAnswer))). message.Answer t.0 t.1.0 t.1.1)
    (λ t. xid_bytes t.0 ++ (to_be_bytes w16 t.1.0 ++ (answer_bytes t.1.1)))
    (λ t. FitsXid t.0 × ((t.1.0 < 2 ^ 16) × (FitsAnswer t.1.1)))
unfolding call_answer_at
call_answer_part = part xid_exact (λ xid. part two_bytes_exact (λ call. last_part (λ given. message.Answer xid call given) answer_exact))

message_complete : IsComplete type_code fields_bytes FitsMessage messages
unfolding fields_bytes
message_complete (message.Begin manager timeout) fits = (begin_at, refl, λ at rest. begin_part.back (manager, timeout) at rest (fits.0, fits.1))
message_complete (message.Begun xid) fits = (begun_at, refl, λ at rest. begun_part.back xid at rest fits)
message_complete (message.BranchCommit xid id mode manager call) fits = (branch_commit_at, refl, λ at rest. branch_commit_part.back (xid, (id, (mode, (manager, call)))) at rest (fits.0, (fits.1, (tt, (fits.2, fits.3)))))
message_complete (message.BranchCommitted xid id status stmt) fits = (branch_committed_at, refl, λ at rest. branch_committed_part.back (xid, (id, (status, stmt))) at rest (fits.0, (fits.1, (tt, fits.2))))
message_complete (message.BranchRollback xid id mode manager call) fits = (branch_rollback_at, refl, λ at rest. branch_rollback_part.back (xid, (id, (mode, (manager, call)))) at rest (fits.0, (fits.1, (tt, (fits.2, fits.3)))))
message_complete (message.BranchRollbacked xid id status stmt) fits = (branch_rollbacked_at, refl, λ at rest. branch_rollbacked_part.back (xid, (id, (status, stmt))) at rest (fits.0, (fits.1, (tt, fits.2))))
message_complete (message.GlobalCommit xid) fits = (global_commit_at, refl, λ at rest. global_commit_part.back xid at rest fits)
message_complete (message.CommitStatus xid status) fits = (commit_status_at, refl, λ at rest. commit_status_part.back (xid, status) at rest (fits, tt))
message_complete (message.GlobalRollback xid) fits = (global_rollback_at, refl, λ at rest. global_rollback_part.back xid at rest fits)
message_complete (message.RollbackStatus xid status) fits = (rollback_status_at, refl, λ at rest. rollback_status_part.back (xid, status) at rest (fits, tt))
message_complete (message.Register xid resource call ticket mode hold check) fits = (register_at, refl, λ at rest. register_part.back (xid, (resource, (call, (ticket, (mode, (hold, check)))))) at rest (fits.0, (fits.1, (fits.2, (fits.3, (tt, (fits.4, fits.5)))))))
message_complete (message.RegisterAnswer ticket xid given) fits = (register_answer_at, refl, λ at rest. register_answer_part.back (ticket, (xid, given)) at rest (fits.0, (fits.1, fits.2)))
message_complete (message.Answer xid call given) fits = (call_answer_at, refl, λ at rest. call_answer_part.back (xid, (call, given)) at rest (fits.0, (fits.1, fits.2)))
message_complete (message.GlobalStatus xid) fits = (global_status_at, refl, λ at rest. global_status_part.back xid at rest fits)
message_complete (message.StatusAnswer xid status) fits = (status_answer_at, refl, λ at rest. status_answer_part.back (xid, status) at rest (fits, tt))
message_complete (message.LockQuery resource ticket check) fits = (lock_query_at, refl, λ at rest. lock_query_part.back (resource, (ticket, check)) at rest (fits.0, (fits.1, fits.2)))
message_complete (message.LockAnswer ticket held) fits = (lock_answer_at, refl, λ at rest. lock_answer_part.back (ticket, held) at rest (fits.0, fits.1))
message_complete (message.Call xid manager resource call work) fits = (call_at, refl, λ at rest. call_part.back (xid, (manager, (resource, (call, work)))) at rest (fits.0, (fits.1, (fits.2, (fits.3, fits.4)))))

messages_sound : AreSound type_code fields_bytes FitsMessage messages
unfolding fields_bytes
messages_sound = (sound type_code fields_bytes FitsMessage 1 begin_part (λ t fits. (fits.0, fits.1)) (λ t. refl) (λ t. refl), (sound type_code fields_bytes FitsMessage 2 begun_part (λ t fits. fits) (λ t. refl) (λ t. refl), (sound type_code fields_bytes FitsMessage 3 branch_commit_part (λ t fits. (fits.0, fits.1.0, fits.1.1.1.0, fits.1.1.1.1)) (λ t. refl) (λ t. refl), (sound type_code fields_bytes FitsMessage 4 branch_committed_part (λ t fits. (fits.0, fits.1.0, fits.1.1.1)) (λ t. refl) (λ t. refl), (sound type_code fields_bytes FitsMessage 5 branch_rollback_part (λ t fits. (fits.0, fits.1.0, fits.1.1.1.0, fits.1.1.1.1)) (λ t. refl) (λ t. refl), (sound type_code fields_bytes FitsMessage 6 branch_rollbacked_part (λ t fits. (fits.0, fits.1.0, fits.1.1.1)) (λ t. refl) (λ t. refl), (sound type_code fields_bytes FitsMessage 7 global_commit_part (λ t fits. fits) (λ t. refl) (λ t. refl), (sound type_code fields_bytes FitsMessage 8 commit_status_part (λ t fits. fits.0) (λ t. refl) (λ t. refl), (sound type_code fields_bytes FitsMessage 9 global_rollback_part (λ t fits. fits) (λ t. refl) (λ t. refl), (sound type_code fields_bytes FitsMessage 10 rollback_status_part (λ t fits. fits.0) (λ t. refl) (λ t. refl), (sound type_code fields_bytes FitsMessage 11 register_part (λ t fits. (fits.0, fits.1.0, fits.1.1.0, fits.1.1.1.0, fits.1.1.1.1.1.0, fits.1.1.1.1.1.1)) (λ t. refl) (λ t. refl), (sound type_code fields_bytes FitsMessage 12 register_answer_part (λ t fits. (fits.0, fits.1.0, fits.1.1)) (λ t. refl) (λ t. refl), (sound type_code fields_bytes FitsMessage 15 global_status_part (λ t fits. fits) (λ t. refl) (λ t. refl), (sound type_code fields_bytes FitsMessage 16 status_answer_part (λ t fits. fits.0) (λ t. refl) (λ t. refl), (sound type_code fields_bytes FitsMessage 21 lock_query_part (λ t fits. (fits.0, fits.1.0, fits.1.1)) (λ t. refl) (λ t. refl), (sound type_code fields_bytes FitsMessage 22 lock_answer_part (λ t fits. (fits.0, fits.1)) (λ t. refl) (λ t. refl), (sound type_code fields_bytes FitsMessage 201 call_part (λ t fits. (fits.0, fits.1.0, fits.1.1.0, fits.1.1.1.0, fits.1.1.1.1)) (λ t. refl) (λ t. refl), (sound type_code fields_bytes FitsMessage 202 call_answer_part (λ t fits. (fits.0, fits.1.0, fits.1.1)) (λ t. refl) (λ t. refl), tt))))))))))))))))))

pub fields_back : (m : Message) (at : ℕ) (rest : List ℕ) → FitsMessage m → fields_at (type_code m) (record { at = at; rest = fields_bytes m ++ rest }) ≡ Ok (m, record { at = at + length (fields_bytes m); rest = rest })
unfolding fields_at
fields_back m at rest fits = let entry = message_complete m fits in rw (entry.1, entry.2 at rest) refl

pub fields_only : (code : ℕ) (m : Message) (place after : Position) → AreBytes place.rest → fields_at code place ≡ Ok (m, after) → FitsMessage m × (type_code m ≡ code) × Stands place (fields_bytes m) after
unfolding fields_at
fields_only code m place after all e = table_sound type_code fields_bytes FitsMessage messages messages_sound code place.at m place after all e

pub code_is_known : (m : Message) → FitsMessage m → is_known (type_code m) ≡ true
unfolding is_known
code_is_known m fits = let entry = message_complete m fits in rw entry.1 refl
