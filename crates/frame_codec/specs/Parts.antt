-- The parts that messages alone have: the answers to registrations, lock queries and calls.
-- Of each: its bytes, which values have such bytes, and how it is read.
use Rattle.std.specs.Prelude.{ℕ, ◌<◌, ◌^◌, Option, Some, None, List, [], ◌∷◌, ◌++◌}
use Rattle.std.specs.Int.{w16, to_be_bytes}
use Rattle.seata_types.specs.declared.ids.Xid.{Xid}
use Rattle.seata_types.specs.declared.rows.RowKey.{RowKey}
use Rattle.seata_types.specs.declared.errors.StmtError.{StmtError}
use Rattle.seata_types.specs.declared.errors.StmtError.TheVariants as stmt
use Rattle.seata_types.specs.declared.errors.Why.{Why}
use Rattle.seata_types.specs.declared.errors.Why.TheVariants as why
use Rattle.seata_types.specs.declared.messages.Registered.{Registered}
use Rattle.seata_types.specs.declared.messages.Registered.TheVariants as registered
use Rattle.seata_types.specs.declared.messages.CallAnswer.{CallAnswer}
use Rattle.seata_types.specs.declared.messages.CallAnswer.TheVariants as answer
use Rattle.seata_types.specs.Statuses.{code_of}
use Rattle.byte_fields.specs.Layout.{FitsKey, FitsTicket, key_bytes, ticket_bytes}
use Rattle.byte_fields.specs.Reading.{Reader, ◌>>=◌, gives, number_at, key_at, ticket_at}
use Rattle.byte_fields.specs.Tags.{tagged}
use Rattle.byte_fields.specs.Parts.{xid_bytes, FitsXid, xid_at, branch_bytes, FitsBranch, branch_at, truth_code, truth_at, status_at}

-- ---- the answer to a registration

-- here and below: the tag is the first byte and says which one it is, and the rest stands behind it
abbrev pub registered_tag : Registered → ℕ
registered_tag (registered.Granted id) = 0
registered_tag (registered.Conflict key holder rolling) = 1
registered_tag (registered.Closed status) = 2
registered_tag registered.Late = 3

abbrev pub registered_rest : Registered → List ℕ
registered_rest (registered.Granted id) = branch_bytes id
registered_rest (registered.Conflict key holder rolling) = key_bytes key ++ (xid_bytes holder ++ truth_code rolling ∷ [])
registered_rest (registered.Closed status) = code_of status ∷ []
registered_rest registered.Late = []

abbrev pub FitsRegistered : Registered → Type 0
FitsRegistered (registered.Granted id) = FitsBranch id
FitsRegistered (registered.Conflict key holder rolling) = FitsKey key × FitsXid holder
FitsRegistered (registered.Closed status) = Unit {0}
FitsRegistered registered.Late = Unit {0}

abbrev pub granted_at : Reader Registered
granted_at = do
  id ← branch_at
  gives (registered.Granted id)

unfoldable pub conflict_at : Reader Registered
conflict_at = do
  key ← key_at
  holder ← xid_at
  rolling ← truth_at
  gives (registered.Conflict key holder rolling)

abbrev pub closed_at : Reader Registered
closed_at = do
  status ← status_at
  gives (registered.Closed status)

unfoldable pub registered_at : Reader Registered
registered_at = tagged ((0, granted_at) ∷ (1, conflict_at) ∷ (2, closed_at) ∷ (3, gives registered.Late) ∷ [])

-- ---- the answer to a lock query: the first key that another transaction holds, and the transaction

-- there is none where no other transaction holds one of the keys
abbrev pub held_tag : Option (RowKey × Xid) → ℕ
held_tag None = 0
held_tag (Some held) = 1

abbrev pub held_rest : Option (RowKey × Xid) → List ℕ
held_rest None = []
held_rest (Some held) = key_bytes held.0 ++ xid_bytes held.1

abbrev pub FitsHeld : Option (RowKey × Xid) → Type 0
FitsHeld None = Unit {0}
FitsHeld (Some held) = FitsKey held.0 × FitsXid held.1

unfoldable pub held_key_at : Reader (Option (RowKey × Xid))
held_key_at = do
  key ← key_at
  holder ← xid_at
  gives (Some (key, holder))

unfoldable pub held_at : Reader (Option (RowKey × Xid))
held_at = tagged ((0, gives None) ∷ (1, held_key_at) ∷ [])

abbrev pub held_bytes : Option (RowKey × Xid) → List ℕ
held_bytes held = held_tag held ∷ held_rest held

-- ---- why a statement has no meaning

abbrev pub stmt_error_tag : StmtError → ℕ
stmt_error_tag stmt.NoTable = 0
stmt_error_tag stmt.NoColumn = 1
stmt_error_tag stmt.Columns = 2
stmt_error_tag stmt.KeyChanged = 3
stmt_error_tag stmt.TypeMismatch = 4
stmt_error_tag stmt.TooManyRows = 5
stmt_error_tag (stmt.Overflow key) = 6
stmt_error_tag (stmt.Duplicate key) = 7
stmt_error_tag stmt.TableFull = 8

abbrev pub stmt_error_rest : StmtError → List ℕ
stmt_error_rest (stmt.Overflow key) = key_bytes key
stmt_error_rest (stmt.Duplicate key) = key_bytes key
stmt_error_rest _ = []

abbrev pub FitsStmtError : StmtError → Type 0
FitsStmtError (stmt.Overflow key) = FitsKey key
FitsStmtError (stmt.Duplicate key) = FitsKey key
FitsStmtError _ = Unit {0}

abbrev pub overflow_at : Reader StmtError
overflow_at = do
  key ← key_at
  gives (stmt.Overflow key)

abbrev pub duplicate_at : Reader StmtError
duplicate_at = do
  key ← key_at
  gives (stmt.Duplicate key)

unfoldable pub stmt_error_at : Reader StmtError
stmt_error_at = tagged (
    (0, gives stmt.NoTable) ∷ (1, gives stmt.NoColumn) ∷ (2, gives stmt.Columns) ∷ (3, gives stmt.KeyChanged) ∷
    (4, gives stmt.TypeMismatch) ∷ (5, gives stmt.TooManyRows) ∷ (6, overflow_at) ∷ (7, duplicate_at) ∷ (8, gives stmt.TableFull) ∷ [])

abbrev pub stmt_error_bytes : StmtError → List ℕ
stmt_error_bytes error = stmt_error_tag error ∷ stmt_error_rest error

-- ---- why a call failed

abbrev pub why_tag : Why → ℕ
why_tag (why.Stmt index error) = 0
why_tag why.Tries = 1
why_tag (why.Rolling holder) = 2
why_tag (why.Closed status) = 3
why_tag why.Late = 4
why_tag why.Marker = 5
why_tag (why.NoRow index) = 6
why_tag why.Fence = 7

abbrev pub why_rest : Why → List ℕ
why_rest (why.Stmt index error) = to_be_bytes w16 index ++ stmt_error_bytes error
why_rest (why.Rolling holder) = xid_bytes holder
why_rest (why.Closed status) = code_of status ∷ []
why_rest (why.NoRow index) = to_be_bytes w16 index
why_rest _ = []

abbrev pub FitsWhy : Why → Type 0
FitsWhy (why.Stmt index error) = (index < 2 ^ 16) × FitsStmtError error
FitsWhy (why.Rolling holder) = FitsXid holder
FitsWhy (why.NoRow index) = index < 2 ^ 16
FitsWhy _ = Unit {0}

unfoldable pub why_stmt_at : Reader Why
why_stmt_at = do
  index ← number_at w16
  error ← stmt_error_at
  gives (why.Stmt index error)

abbrev pub why_rolling_at : Reader Why
why_rolling_at = do
  holder ← xid_at
  gives (why.Rolling holder)

abbrev pub why_closed_at : Reader Why
why_closed_at = do
  status ← status_at
  gives (why.Closed status)

abbrev pub why_no_row_at : Reader Why
why_no_row_at = do
  index ← number_at w16
  gives (why.NoRow index)

unfoldable pub why_at : Reader Why
why_at = tagged (
    (0, why_stmt_at) ∷ (1, gives why.Tries) ∷ (2, why_rolling_at) ∷ (3, why_closed_at) ∷
    (4, gives why.Late) ∷ (5, gives why.Marker) ∷ (6, why_no_row_at) ∷ (7, gives why.Fence) ∷ [])

abbrev pub why_bytes : Why → List ℕ
why_bytes reason = why_tag reason ∷ why_rest reason

-- ---- the answer to a call

abbrev pub answer_tag : CallAnswer → ℕ
answer_tag (answer.Done id) = 0
answer_tag (answer.Busy key by) = 1
answer_tag (answer.Failed reason) = 2

abbrev pub answer_rest : CallAnswer → List ℕ
answer_rest (answer.Done id) = branch_bytes id
answer_rest (answer.Busy key by) = key_bytes key ++ ticket_bytes by
answer_rest (answer.Failed reason) = why_bytes reason

abbrev pub FitsAnswer : CallAnswer → Type 0
FitsAnswer (answer.Done id) = FitsBranch id
FitsAnswer (answer.Busy key by) = FitsKey key × FitsTicket by
FitsAnswer (answer.Failed reason) = FitsWhy reason

abbrev pub done_at : Reader CallAnswer
done_at = do
  id ← branch_at
  gives (answer.Done id)

unfoldable pub busy_at : Reader CallAnswer
busy_at = do
  key ← key_at
  by ← ticket_at
  gives (answer.Busy key by)

abbrev pub failed_at : Reader CallAnswer
failed_at = do
  reason ← why_at
  gives (answer.Failed reason)

unfoldable pub answer_at : Reader CallAnswer
answer_at = tagged ((0, done_at) ∷ (1, busy_at) ∷ (2, failed_at) ∷ [])

-- these two as they stand in their messages: the tag and the rest
abbrev pub registered_bytes : Registered → List ℕ
registered_bytes given = registered_tag given ∷ registered_rest given

abbrev pub answer_bytes : CallAnswer → List ℕ
answer_bytes given = answer_tag given ∷ answer_rest given
