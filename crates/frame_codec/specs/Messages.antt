-- Messages as fields behind a type code.
use Rattle.std.specs.Prelude.{ℕ, ◌<◌, ◌^◌, ◌+◌, ◌%◌, Bool, is_some, List, [], ◌∷◌}
use Rattle.std.specs.Int.{w16, w64, to_be_bytes}
use Rattle.seata_types.specs.declared.messages.Message.{Message}
use Rattle.seata_types.specs.declared.messages.Message.TheVariants as message
use Rattle.seata_types.specs.Statuses.{code_of, branch_code_of}
use Rattle.byte_fields.specs.Layout.{FitsKeys, FitsTicket, keys_bytes, ticket_bytes}
use Rattle.byte_fields.specs.Reading.{Reader, ◌>>=◌, gives, number_at, keys_at, ticket_at}
use Rattle.byte_fields.specs.Tags.{look_up, chosen}
use Rattle.byte_fields.specs.Parts.{joined, xid_bytes, FitsXid, xid_at, branch_bytes, FitsBranch, branch_at, kind_code, kind_at, status_at, branch_status_at}
use Rattle.frame_codec.specs.Parts.{registered_bytes, FitsRegistered, registered_at, held_bytes, FitsHeld, held_at, answer_bytes, FitsAnswer, answer_at}
use Rattle.frame_codec.specs.Works.{work_bytes, FitsWork, work_at}
use Rattle.frame_codec.specs.declared.codes.TheConstants.{BEGIN, BEGUN, BRANCH_COMMIT, BRANCH_COMMITTED, BRANCH_ROLLBACK, BRANCH_ROLLBACKED, GLOBAL_COMMIT, COMMIT_STATUS, GLOBAL_ROLLBACK, ROLLBACK_STATUS, REGISTER, REGISTER_ANSWER, GLOBAL_STATUS, STATUS_ANSWER, LOCK_QUERY, LOCK_ANSWER, CALL, ANSWER}

-- the type codes, after Seata's
abbrev pub type_code : Message → ℕ
type_code (message.Begin manager timeout) = BEGIN
type_code (message.Begun xid) = BEGUN
type_code (message.BranchCommit xid id mode manager call) = BRANCH_COMMIT
type_code (message.BranchCommitted xid id status stmt) = BRANCH_COMMITTED
type_code (message.BranchRollback xid id mode manager call) = BRANCH_ROLLBACK
type_code (message.BranchRollbacked xid id status stmt) = BRANCH_ROLLBACKED
type_code (message.GlobalCommit xid) = GLOBAL_COMMIT
type_code (message.CommitStatus xid status) = COMMIT_STATUS
type_code (message.GlobalRollback xid) = GLOBAL_ROLLBACK
type_code (message.RollbackStatus xid status) = ROLLBACK_STATUS
type_code (message.Register xid resource call ticket mode hold check) = REGISTER
type_code (message.RegisterAnswer ticket xid given) = REGISTER_ANSWER
type_code (message.GlobalStatus xid) = GLOBAL_STATUS
type_code (message.StatusAnswer xid status) = STATUS_ANSWER
type_code (message.LockQuery resource ticket check) = LOCK_QUERY
type_code (message.LockAnswer ticket held) = LOCK_ANSWER
type_code (message.Call xid manager resource call work) = CALL
type_code (message.Answer xid call given) = ANSWER

-- a request is 0 and an answer 1: messages with odd codes ask, those with even codes answer
abbrev pub kind_of : ℕ → ℕ
kind_of code = (code + 1) % 2

-- the fields behind the code
unfoldable pub fields_bytes : Message → List ℕ
fields_bytes (message.Begin manager timeout) = joined (to_be_bytes w16 manager ∷ to_be_bytes w64 timeout ∷ [])
fields_bytes (message.Begun xid) = xid_bytes xid
fields_bytes (message.BranchCommit xid id mode manager call) =
    joined (xid_bytes xid ∷ branch_bytes id ∷ (kind_code mode ∷ []) ∷ to_be_bytes w16 manager ∷ to_be_bytes w16 call ∷ [])
fields_bytes (message.BranchCommitted xid id status stmt) =
    joined (xid_bytes xid ∷ branch_bytes id ∷ (branch_code_of status ∷ []) ∷ to_be_bytes w16 stmt ∷ [])
fields_bytes (message.BranchRollback xid id mode manager call) =
    joined (xid_bytes xid ∷ branch_bytes id ∷ (kind_code mode ∷ []) ∷ to_be_bytes w16 manager ∷ to_be_bytes w16 call ∷ [])
fields_bytes (message.BranchRollbacked xid id status stmt) =
    joined (xid_bytes xid ∷ branch_bytes id ∷ (branch_code_of status ∷ []) ∷ to_be_bytes w16 stmt ∷ [])
fields_bytes (message.GlobalCommit xid) = xid_bytes xid
fields_bytes (message.CommitStatus xid status) = joined (xid_bytes xid ∷ (code_of status ∷ []) ∷ [])
fields_bytes (message.GlobalRollback xid) = xid_bytes xid
fields_bytes (message.RollbackStatus xid status) = joined (xid_bytes xid ∷ (code_of status ∷ []) ∷ [])
fields_bytes (message.Register xid resource call ticket mode hold check) =
    joined (xid_bytes xid ∷ to_be_bytes w16 resource ∷ to_be_bytes w16 call ∷
    ticket_bytes ticket ∷ (kind_code mode ∷ []) ∷ keys_bytes hold ∷ keys_bytes check ∷ [])
fields_bytes (message.RegisterAnswer ticket xid given) =
    joined (ticket_bytes ticket ∷ xid_bytes xid ∷ registered_bytes given ∷ [])
fields_bytes (message.GlobalStatus xid) = xid_bytes xid
fields_bytes (message.StatusAnswer xid status) = joined (xid_bytes xid ∷ (code_of status ∷ []) ∷ [])
fields_bytes (message.LockQuery resource ticket check) =
    joined (to_be_bytes w16 resource ∷ ticket_bytes ticket ∷ keys_bytes check ∷ [])
fields_bytes (message.LockAnswer ticket held) = joined (ticket_bytes ticket ∷ held_bytes held ∷ [])
fields_bytes (message.Call xid manager resource call work) =
    joined (xid_bytes xid ∷ to_be_bytes w16 manager ∷ to_be_bytes w16 resource ∷ to_be_bytes w16 call ∷ work_bytes work ∷ [])
fields_bytes (message.Answer xid call given) =
    joined (xid_bytes xid ∷ to_be_bytes w16 call ∷ answer_bytes given ∷ [])

-- which messages have such fields: numbers within their bytes, and texts and key lists that the layout can hold
abbrev pub FitsMessage : Message → Type 0
FitsMessage (message.Begin manager timeout) = (manager < 2 ^ 16) × (timeout < 2 ^ 64)
FitsMessage (message.Begun xid) = FitsXid xid
FitsMessage (message.BranchCommit xid id mode manager call) =
    FitsXid xid × FitsBranch id × (manager < 2 ^ 16) × (call < 2 ^ 16)
FitsMessage (message.BranchCommitted xid id status stmt) = FitsXid xid × FitsBranch id × (stmt < 2 ^ 16)
FitsMessage (message.BranchRollback xid id mode manager call) =
    FitsXid xid × FitsBranch id × (manager < 2 ^ 16) × (call < 2 ^ 16)
FitsMessage (message.BranchRollbacked xid id status stmt) = FitsXid xid × FitsBranch id × (stmt < 2 ^ 16)
FitsMessage (message.GlobalCommit xid) = FitsXid xid
FitsMessage (message.CommitStatus xid status) = FitsXid xid
FitsMessage (message.GlobalRollback xid) = FitsXid xid
FitsMessage (message.RollbackStatus xid status) = FitsXid xid
FitsMessage (message.Register xid resource call ticket mode hold check) =
    FitsXid xid × (resource < 2 ^ 16) × (call < 2 ^ 16) ×
    FitsTicket ticket × FitsKeys hold × FitsKeys check
FitsMessage (message.RegisterAnswer ticket xid given) = FitsTicket ticket × FitsXid xid × FitsRegistered given
FitsMessage (message.GlobalStatus xid) = FitsXid xid
FitsMessage (message.StatusAnswer xid status) = FitsXid xid
FitsMessage (message.LockQuery resource ticket check) = (resource < 2 ^ 16) × FitsTicket ticket × FitsKeys check
FitsMessage (message.LockAnswer ticket held) = FitsTicket ticket × FitsHeld held
FitsMessage (message.Call xid manager resource call work) =
    FitsXid xid × (manager < 2 ^ 16) × (resource < 2 ^ 16) × (call < 2 ^ 16) × FitsWork work
FitsMessage (message.Answer xid call given) = FitsXid xid × (call < 2 ^ 16) × FitsAnswer given

-- a message that tells a resource how a branch ends, or its answer
abbrev pub IsOfSecondPhase : Message → Type 0
IsOfSecondPhase (message.BranchCommit xid id mode manager call) = Unit {0}
IsOfSecondPhase (message.BranchCommitted xid id status stmt) = Unit {0}
IsOfSecondPhase (message.BranchRollback xid id mode manager call) = Unit {0}
IsOfSecondPhase (message.BranchRollbacked xid id status stmt) = Unit {0}
IsOfSecondPhase _ = ⊥

-- a registration, a lock query, or the answer to one of these
abbrev pub IsOfLocks : Message → Type 0
IsOfLocks (message.Register xid resource call ticket mode hold check) = Unit {0}
IsOfLocks (message.RegisterAnswer ticket xid given) = Unit {0}
IsOfLocks (message.LockQuery resource ticket check) = Unit {0}
IsOfLocks (message.LockAnswer ticket held) = Unit {0}
IsOfLocks _ = ⊥

-- ---- the fields of each message

-- each message by its fields, in the order in which they are written
unfoldable pub begin_at : Reader Message
begin_at = do
  manager ← number_at w16
  timeout ← number_at w64
  gives (message.Begin manager timeout)

unfoldable pub begun_at : Reader Message
begun_at = do
  xid ← xid_at
  gives (message.Begun xid)

unfoldable pub branch_commit_at : Reader Message
branch_commit_at = do
  xid ← xid_at
  id ← branch_at
  mode ← kind_at
  manager ← number_at w16
  call ← number_at w16
  gives (message.BranchCommit xid id mode manager call)

unfoldable pub branch_committed_at : Reader Message
branch_committed_at = do
  xid ← xid_at
  id ← branch_at
  status ← branch_status_at
  stmt ← number_at w16
  gives (message.BranchCommitted xid id status stmt)

unfoldable pub branch_rollback_at : Reader Message
branch_rollback_at = do
  xid ← xid_at
  id ← branch_at
  mode ← kind_at
  manager ← number_at w16
  call ← number_at w16
  gives (message.BranchRollback xid id mode manager call)

unfoldable pub branch_rollbacked_at : Reader Message
branch_rollbacked_at = do
  xid ← xid_at
  id ← branch_at
  status ← branch_status_at
  stmt ← number_at w16
  gives (message.BranchRollbacked xid id status stmt)

unfoldable pub global_commit_at : Reader Message
global_commit_at = do
  xid ← xid_at
  gives (message.GlobalCommit xid)

unfoldable pub commit_status_at : Reader Message
commit_status_at = do
  xid ← xid_at
  status ← status_at
  gives (message.CommitStatus xid status)

unfoldable pub global_rollback_at : Reader Message
global_rollback_at = do
  xid ← xid_at
  gives (message.GlobalRollback xid)

unfoldable pub rollback_status_at : Reader Message
rollback_status_at = do
  xid ← xid_at
  status ← status_at
  gives (message.RollbackStatus xid status)

unfoldable pub register_at : Reader Message
register_at = do
  xid ← xid_at
  resource ← number_at w16
  call ← number_at w16
  ticket ← ticket_at
  mode ← kind_at
  hold ← keys_at
  check ← keys_at
  gives (message.Register xid resource call ticket mode hold check)

unfoldable pub register_answer_at : Reader Message
register_answer_at = do
  ticket ← ticket_at
  xid ← xid_at
  given ← registered_at
  gives (message.RegisterAnswer ticket xid given)

unfoldable pub global_status_at : Reader Message
global_status_at = do
  xid ← xid_at
  gives (message.GlobalStatus xid)

unfoldable pub status_answer_at : Reader Message
status_answer_at = do
  xid ← xid_at
  status ← status_at
  gives (message.StatusAnswer xid status)

unfoldable pub lock_query_at : Reader Message
lock_query_at = do
  resource ← number_at w16
  ticket ← ticket_at
  check ← keys_at
  gives (message.LockQuery resource ticket check)

unfoldable pub lock_answer_at : Reader Message
lock_answer_at = do
  ticket ← ticket_at
  held ← held_at
  gives (message.LockAnswer ticket held)

unfoldable pub call_at : Reader Message
call_at = do
  xid ← xid_at
  manager ← number_at w16
  resource ← number_at w16
  call ← number_at w16
  work ← work_at
  gives (message.Call xid manager resource call work)

unfoldable pub call_answer_at : Reader Message
call_answer_at = do
  xid ← xid_at
  call ← number_at w16
  given ← answer_at
  gives (message.Answer xid call given)

-- the codes that can be read, and the fields behind each
abbrev pub messages : List (ℕ × Reader Message)
messages =
    (BEGIN, begin_at) ∷
    (BEGUN, begun_at) ∷
    (BRANCH_COMMIT, branch_commit_at) ∷
    (BRANCH_COMMITTED, branch_committed_at) ∷
    (BRANCH_ROLLBACK, branch_rollback_at) ∷
    (BRANCH_ROLLBACKED, branch_rollbacked_at) ∷
    (GLOBAL_COMMIT, global_commit_at) ∷
    (COMMIT_STATUS, commit_status_at) ∷
    (GLOBAL_ROLLBACK, global_rollback_at) ∷
    (ROLLBACK_STATUS, rollback_status_at) ∷
    (REGISTER, register_at) ∷
    (REGISTER_ANSWER, register_answer_at) ∷
    (GLOBAL_STATUS, global_status_at) ∷
    (STATUS_ANSWER, status_answer_at) ∷
    (LOCK_QUERY, lock_query_at) ∷
    (LOCK_ANSWER, lock_answer_at) ∷
    (CALL, call_at) ∷
    (ANSWER, call_answer_at) ∷
    []

-- whether a code is the type code of a message
unfoldable pub is_known : ℕ → Bool
is_known code = is_some (look_up code messages)

-- the message of a type code, read from its fields; a code of none is refused as a bad tag
unfoldable pub fields_at : ℕ → Reader Message
fields_at code start = chosen start.at (look_up code messages) start
