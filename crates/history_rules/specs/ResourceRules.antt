-- A resource's rules: its one answer to what it is given, by its records, its open tickets and its setup. The cases stand in
-- the order in which they are tried.
use Rattle.std.specs.Prelude.{ℕ, zero, suc, ◌+◌, ◌==◌, ◌&&◌, not, nat_le, min, Bool, true, false, if◌then◌else◌, List, [], ◌∷◌, ◌++◌, find, map, Option, Some, None, Result, Ok, Err}
use Rattle.std.specs.BTreeMap.{is_at}
use Rattle.std.specs.Cmp.Lexicographic.{pointwise}
use Rattle.std.specs.Ordering.{is_lt, match_ordering}
use Rattle.seata_types.specs.Orders.{key_cmp, value_cmp}
use Rattle.seata_types.specs.declared.acts.Act.{Act}
use Rattle.seata_types.specs.declared.acts.Act.TheVariants as act
use Rattle.seata_types.specs.declared.acts.Durable.TheVariants as durable
use Rattle.seata_types.specs.declared.errors.StmtError.{StmtError}
use Rattle.seata_types.specs.declared.errors.Why.{Why}
use Rattle.seata_types.specs.declared.errors.Why.TheVariants as why
use Rattle.seata_types.specs.declared.ids.Place.TheVariants as place
use Rattle.seata_types.specs.declared.ids.Ticket.{Ticket}
use Rattle.seata_types.specs.declared.ids.Xid.{Xid}
use Rattle.seata_types.specs.declared.messages.CallAnswer.{CallAnswer}
use Rattle.seata_types.specs.declared.messages.CallAnswer.TheVariants as called
use Rattle.seata_types.specs.declared.messages.Input.{Input}
use Rattle.seata_types.specs.declared.messages.Input.TheVariants as input
use Rattle.seata_types.specs.declared.messages.Message.{Message}
use Rattle.seata_types.specs.declared.messages.Message.TheVariants as message
use Rattle.seata_types.specs.declared.messages.Registered.{Registered}
use Rattle.seata_types.specs.declared.messages.Registered.TheVariants as registered
use Rattle.seata_types.specs.declared.messages.Step.{Step}
use Rattle.seata_types.specs.declared.rows.Image.{Image}
use Rattle.seata_types.specs.declared.rows.Row.{Row}
use Rattle.seata_types.specs.declared.rows.RowKey.{RowKey}
use Rattle.seata_types.specs.declared.rows.Value.{Value}
use Rattle.seata_types.specs.declared.statements.Action.{Action}
use Rattle.seata_types.specs.declared.statements.Stmt.{Stmt}
use Rattle.seata_types.specs.declared.statements.Work.{Work}
use Rattle.seata_types.specs.declared.statements.Work.TheVariants as work
use Rattle.seata_types.specs.declared.statuses.BranchKind.{BranchKind}
use Rattle.seata_types.specs.declared.statuses.BranchKind.TheVariants as kind
use Rattle.seata_types.specs.declared.statuses.BranchStatus.{BranchStatus}
use Rattle.seata_types.specs.declared.statuses.BranchStatus.TheVariants as branch
use Rattle.local_tables.specs.Calls.{effect}
use Rattle.local_tables.specs.Rows.{Database, row_at}
use Rattle.local_tables.specs.declared.schemas.Effect.{Effect}
use Rattle.durable_records.specs.declared.resources.ResourceRecord.{ResourceRecord}
use Rattle.durable_records.specs.UndoRecords.{Undo, undo_of, undos_of_call, is_marked}
use Rattle.durable_records.specs.RowsKept.{tables}
use Rattle.durable_records.specs.Fences.{FenceAnswer, Runs, WasDone, Suspends, Refuses, fence, tried_of_call, on_try, on_confirm, on_cancel}
use Rattle.durable_records.specs.ResourceOrder.{image_keys, read_keys, only_read}
pub use Rattle.local_txn.specs.OpenTickets.{ticket_with, with_ticket, busy_in, lesser_row, busy_row, is_for_call, is_for_local}
use Rattle.history_rules.specs.Own.{still, sends}
use Rattle.history_rules.specs.CoordinatorRules.{xid_of, branch_of, last_of}
use Rattle.history_rules.specs.ResourceMemory.{Setup, Owner, OfCall, OfLocal, Open, Memory, opening_tables, action_of, local_of, next_ticket, open_at, opening_of, has_row, no_effect}

-- ---- rows

-- values that are the same; rows that are the same, or both missing
abbrev pub same_value : Value → Value → Bool
same_value a b = is_at (value_cmp a) b

abbrev pub same_row : Option Row → Option Row → Bool
same_row None None = true
same_row (Some a) (Some b) = pointwise same_value a.0 b.0
same_row _ _ = false

-- the least image whose row isn't its after
abbrev pub dirty_image : Database → List Image → Option Image
dirty_image db images = find (λ i. not (same_row (row_at db.rows i.key) i.after)) images

-- ---- small choices

-- the less of a branch and another one, if there is one
abbrev pub least_of : ℕ → Option ℕ → Option ℕ
least_of b None = Some b
least_of b (Some c) = Some (min b c)

-- the least branch of these
abbrev pub least_branch : List ℕ → Option ℕ
least_branch [] = None
least_branch (b ∷ bs) = least_of b (least_branch bs)

-- the first statement that touched no row, counted from this number
abbrev pub untouched : ℕ → List ℕ → Option ℕ
untouched index [] = None
untouched index (zero ∷ ns) = Some index
untouched index (suc n ∷ ns) = untouched (index + 1) ns

-- ---- what a ticket asks the coordinator

-- a row in its place among rows in rising order, where it isn't among them
abbrev pub with_row : RowKey → List RowKey → List RowKey
with_row key [] = key ∷ []
with_row key (k ∷ ks) = match_ordering (key_cmp key k) (key ∷ k ∷ ks) (k ∷ ks) (k ∷ with_row key ks)

-- these rows with others, in rising order
abbrev pub with_rows : List RowKey → List RowKey → List RowKey
with_rows keys [] = keys
with_rows keys (k ∷ ks) = with_row k (with_rows keys ks)

-- a call's Register: to hold the rows that it touched and check those that it only read; a Try has no rows yet. A local
-- transaction asks for all its rows, those that it only read in their places among the others
abbrev pub request_of : ℕ → Open → Owner → Message
request_of number o (OfCall m x c (work.At stmts)) =
    message.Register (xid_of x) number c o.ticket kind.At (image_keys o.images) (only_read o.images o.reads)
request_of number o (OfCall m x c (work.Tcc action)) = message.Register (xid_of x) number c o.ticket kind.Tcc [] []
request_of number o (OfLocal k) = message.LockQuery number o.ticket (with_rows (image_keys o.images) (read_keys o.reads))

-- an act that sends the coordinator the request of a ticket
abbrev pub requests : ℕ → Act → Open → Step
requests number done o = sends done place.Tc (request_of number o o.owner)

-- ---- calls

-- the answer of call c of x to its manager m
abbrev pub answers : (m x c : ℕ) → Act → CallAnswer → Step
answers m x c done answer = sends done (place.Man m) (message.Answer (xid_of x) c answer)

-- busy where another open ticket has a row, else opened as the ticket that comes next
abbrev pub free_call : (number : ℕ) → Ticket → (m x c : ℕ) → Work → Effect → Option (RowKey × Ticket) → Step
free_call number next m x c w e (Some (key, by)) = answers m x c (act.Busy (xid_of x) c key by) (called.Busy key by)
free_call number next m x c w e None = requests number (act.Opened (xid_of x) c next) (opening_of next (OfCall m x c w) e)

-- refused where the effect has none
abbrev pub new_call : (number : ℕ) → List Open → Ticket → (m x c : ℕ) → Work → Result Effect (ℕ × StmtError) → Step
new_call number opens next m x c w (Err (index, error)) = answers m x c (act.Refused (xid_of x) c (why.Stmt index error)) (called.Failed (why.Stmt index error))
new_call number opens next m x c w (Ok e) = free_call number next m x c w e (busy_row opens e)

-- what a call would do on these tables: the effect of its statements, and of a Try nothing yet
abbrev pub meaning : Database → Work → Result Effect (ℕ × StmtError)
meaning db (work.At stmts) = effect db stmts
meaning db (work.Tcc action) = Ok no_effect

-- a call: again, waiting, refused, busy, opened
abbrev pub call_answer : (number : ℕ) → Database → List Open → Ticket → (m x c : ℕ) → Work → Option ℕ → Option Open → Step
call_answer number db opens next m x c w (Some b) waits = answers m x c (act.Again (xid_of x) c (branch_of b)) (called.Done (branch_of b))
call_answer number db opens next m x c w None (Some o) = still (act.Waiting (xid_of x) c)
call_answer number db opens next m x c w None None = new_call number opens next m x c w (meaning db w)

-- ---- answers to a registration

-- a ticket is dropped, and its call fails
abbrev pub drops : Open → (m x c : ℕ) → Why → Step
drops o m x c cause = answers m x c (act.Dropped (xid_of x) c o.ticket cause) (called.Failed cause)

-- an AT grant: ignored where the branch is committed, dropped where it is marked, else committed
abbrev pub at_granted : Open → (m x c b : ℕ) → Option Undo → (marked : Bool) → Step
at_granted o m x c b (Some u) marked = still act.Ignored
at_granted o m x c b None true = drops o m x c why.Marker
at_granted o m x c b None false = answers m x c (act.Durable (durable.Committed (xid_of x) (branch_of b) o.ticket)) (called.Done (branch_of b))

-- a Try: dropped where a statement touched no row, else tried
abbrev pub try_touched : Open → (m x c b : ℕ) → Option ℕ → Step
try_touched o m x c b (Some index) = drops o m x c (why.NoRow index)
try_touched o m x c b None = answers m x c (act.Durable (durable.Tried (xid_of x) (branch_of b) o.ticket)) (called.Done (branch_of b))

-- dropped where a statement has no meaning
abbrev pub try_meant : Open → (m x c b : ℕ) → Result Effect (ℕ × StmtError) → Step
try_meant o m x c b (Err (index, error)) = drops o m x c (why.Stmt index error)
try_meant o m x c b (Ok e) = try_touched o m x c b (untouched 1 e.touched)

-- a TCC grant: dropped where the fence refuses, else the Try runs
abbrev pub tcc_granted : Open → (m x c b : ℕ) → Result Effect (ℕ × StmtError) → FenceAnswer → Step
tcc_granted o m x c b tried Runs = try_meant o m x c b tried
tcc_granted o m x c b tried _ = drops o m x c why.Fence

-- a conflict: dropped where the holder rolls back, dropped at the last try, else counted
abbrev pub conflict_answer : (tries : ℕ) → Open → (m x c : ℕ) → Xid → (rolling : Bool) → Step
conflict_answer tries o m x c holder true = drops o m x c (why.Rolling holder)
conflict_answer tries o m x c holder false = let count = o.conflicts + 1 in
    if nat_le tries count then drops o m x c why.Tries else still (act.Conflicted o.ticket count)

-- ---- the second phase of AT

-- the answers to a BranchCommit and a BranchRollback, with a branch status and the statement that failed, 0 for none
abbrev pub tells_committed : (x b : ℕ) → BranchStatus → ℕ → Act → Step
tells_committed x b st stmt done = sends done place.Tc (message.BranchCommitted (xid_of x) (branch_of b) st stmt)

abbrev pub tells_rollbacked : (x b : ℕ) → BranchStatus → ℕ → Act → Step
tells_rollbacked x b st stmt done = sends done place.Tc (message.BranchRollbacked (xid_of x) (branch_of b) st stmt)

-- the answers that tell the end of the branch, after a commit and after a rollback
abbrev pub is_committed : (x b : ℕ) → Act → Step
is_committed x b done = tells_committed x b branch.PhaseTwoCommitted 0 done

abbrev pub is_rollbacked : (x b : ℕ) → Act → Step
is_rollbacked x b done = tells_rollbacked x b branch.PhaseTwoRollbacked 0 done

-- a commit: cleared where an undo record stands, else empty
abbrev pub at_commit : (x b : ℕ) → Option Undo → Step
at_commit x b (Some u) = is_committed x b (act.Durable (durable.Cleared (xid_of x) (branch_of b)))
at_commit x b None = is_committed x b (act.Empty (xid_of x) (branch_of b))

-- dirty where a row isn't its after, else undone
abbrev pub at_undo : Database → (x b : ℕ) → Option Image → Step
at_undo db x b (Some i) =
    tells_rollbacked x b branch.PhaseTwoRollbackFailedUnretryable 0 (act.Dirty (xid_of x) (branch_of b) i.key i.after (row_at db.rows i.key))
at_undo db x b None = is_rollbacked x b (act.Durable (durable.Undone (xid_of x) (branch_of b)))

-- of an undo record with these images: blocked where an open ticket has a row
abbrev pub at_record : Database → (x b : ℕ) → List Image → Option (RowKey × Ticket) → Step
at_record db x b images (Some (key, by)) = tells_rollbacked x b branch.PhaseTwoRollbackFailedRetryable 0 (act.Blocked (xid_of x) (branch_of b) key by)
at_record db x b images None = at_undo db x b (dirty_image db images)

-- a rollback: remarked, marked, blocked, dirty, undone
abbrev pub at_rollback : Database → List Open → (x b : ℕ) → (marked : Bool) → Option Undo → Step
at_rollback db opens x b true u = is_rollbacked x b (act.Remarked (xid_of x) (branch_of b))
at_rollback db opens x b false None = is_rollbacked x b (act.Durable (durable.Marked (xid_of x) (branch_of b)))
at_rollback db opens x b false (Some u) = at_record db x b u.images (busy_in opens (image_keys u.images))

-- ---- the second phase of TCC, by the fence

-- a Confirm that runs: unable at a statement without meaning, else confirmed
abbrev pub confirm_runs : (x b : ℕ) → Result Effect (ℕ × StmtError) → Step
confirm_runs x b (Err (index, error)) =
    tells_committed x b branch.PhaseTwoCommitFailedUnretryable index (act.Unable (xid_of x) (branch_of b) index error)
confirm_runs x b (Ok e) = is_committed x b (act.Durable (durable.Confirmed (xid_of x) (branch_of b)))

-- a commit, by the fence: already confirmed, a Confirm that runs, else unfenced
abbrev pub tcc_commit : (x b : ℕ) → Result Effect (ℕ × StmtError) → FenceAnswer → Step
tcc_commit x b confirmed WasDone = is_committed x b (act.Already (xid_of x) (branch_of b))
tcc_commit x b confirmed Runs = confirm_runs x b confirmed
tcc_commit x b confirmed _ = tells_committed x b branch.PhaseTwoCommitFailedRetryable 0 (act.Unfenced (xid_of x) (branch_of b))

-- a Cancel that runs: unable at a statement without meaning, else cancelled
abbrev pub cancel_runs : (x b : ℕ) → Result Effect (ℕ × StmtError) → Step
cancel_runs x b (Err (index, error)) =
    tells_rollbacked x b branch.PhaseTwoRollbackFailedUnretryable index (act.Unable (xid_of x) (branch_of b) index error)
cancel_runs x b (Ok e) = is_rollbacked x b (act.Durable (durable.Cancelled (xid_of x) (branch_of b)))

-- a rollback, by the fence: already done, unfenced, suspended, a Cancel that runs
abbrev pub tcc_rollback : (x b : ℕ) → Result Effect (ℕ × StmtError) → FenceAnswer → Step
tcc_rollback x b cancelled WasDone = is_rollbacked x b (act.Already (xid_of x) (branch_of b))
tcc_rollback x b cancelled Refuses = tells_rollbacked x b branch.PhaseTwoRollbackFailedRetryable 0 (act.Unfenced (xid_of x) (branch_of b))
tcc_rollback x b cancelled Suspends = is_rollbacked x b (act.Durable (durable.Suspended (xid_of x) (branch_of b)))
tcc_rollback x b cancelled Runs = cancel_runs x b cancelled

-- a TCC branch whose call has no actions here is ignored
abbrev pub with_action : (Action → Step) → Option Action → Step
with_action answer None = still act.Ignored
with_action answer (Some a) = answer a

-- ---- local transactions and outside writes

-- busy where another open ticket has a row, else opened as the ticket that comes next
abbrev pub local_free : (number : ℕ) → Ticket → ℕ → Effect → Option (RowKey × Ticket) → Step
local_free number next k e (Some (key, by)) = still (act.BusyLocal k key by)
local_free number next k e None = requests number (act.OpenedLocal k next) (opening_of next (OfLocal k) e)

-- refused where the effect has none
abbrev pub local_meant : (number : ℕ) → List Open → Ticket → ℕ → Result Effect (ℕ × StmtError) → Step
local_meant number opens next k (Err (index, error)) = still (act.RefusedLocal k (why.Stmt index error))
local_meant number opens next k (Ok e) = local_free number next k e (busy_row opens e)

-- a local transaction: waiting, refused, busy, opened
abbrev pub local_answer : (number : ℕ) → Database → List Open → Ticket → ℕ → List Stmt → Option Open → Step
local_answer number db opens next k stmts (Some o) = still (act.WaitingLocal k)
local_answer number db opens next k stmts None = local_meant number opens next k (effect db stmts)

-- the answer to its lock query: dropped where a row is held, else committed
abbrev pub lock_answer : Open → Owner → Option (RowKey × Xid) → Step
lock_answer o (OfLocal k) (Some (key, holder)) = still (act.DroppedLocal k o.ticket key holder)
lock_answer o (OfLocal k) None = still (act.Durable (durable.LocalCommitted k o.ticket))
lock_answer o (OfCall m x c w) held = still act.Ignored

-- busy where an open ticket has a row, else done
abbrev pub outside_free : ℕ → Option (RowKey × Ticket) → Step
outside_free k (Some (key, by)) = still (act.BusyLocal k key by)
outside_free k None = still (act.Durable (durable.Outside k))

-- refused where the statements have no effect
abbrev pub outside_meant : List Open → ℕ → Result Effect (ℕ × StmtError) → Step
outside_meant opens k (Err (index, error)) = still (act.RefusedLocal k (why.Stmt index error))
outside_meant opens k (Ok e) = outside_free k (busy_row opens e)

-- ---- what is looked up: the records say the tables, undo records, markers and fences, the setup the statements

module _ (s : Setup) (rs : List ResourceRecord) (opens : List Open) (next : Ticket) where
  -- the tables now
  abbrev pub db : Database
  db = tables (opening_tables s) rs

  -- the branches for which the work of call c of x is done
  abbrev pub done_for : ℕ → ℕ → Work → List ℕ
  done_for x c (work.At stmts) = map (λ u. u.branch) (undos_of_call rs x c)
  done_for x c (work.Tcc action) = tried_of_call rs x c

  -- a call of no transaction is ignored
  abbrev pub on_call : (m x c : ℕ) → Work → Step
  on_call m zero c w = still act.Ignored
  on_call m (suc x) c w =
      call_answer s.number db opens next m (suc x) c w (least_branch (done_for (suc x) c w)) (find (λ o. is_for_call (suc x) c o.owner) opens)

  -- a grant, by what the ticket was opened for; a local transaction registers no branch
  abbrev pub granted_answer : Open → Owner → ℕ → Step
  granted_answer o (OfCall m x c (work.At stmts)) b = at_granted o m x c b (undo_of rs x b) (is_marked rs x b)
  granted_answer o (OfCall m x c (work.Tcc action)) b = tcc_granted o m x c b (effect db action.tries) (on_try (fence rs x b))
  granted_answer o (OfLocal k) b = still act.Ignored

  -- the coordinator's answer for an open ticket: granted, conflict, closed, late
  abbrev pub ticket_answer : Open → Owner → Registered → Step
  ticket_answer o owner (registered.Granted b) = granted_answer o owner b.0
  ticket_answer o (OfCall m x c w) (registered.Conflict key holder rolling) = conflict_answer s.tries o m x c holder rolling
  ticket_answer o (OfCall m x c w) (registered.Closed status) = drops o m x c (why.Closed status)
  ticket_answer o (OfCall m x c w) registered.Late = drops o m x c why.Late
  ticket_answer o (OfLocal k) _ = still act.Ignored

  -- an answer for a ticket that isn't open is ignored
  abbrev pub on_registered : Option Open → Registered → Step
  on_registered None answer = still act.Ignored
  on_registered (Some o) answer = ticket_answer o o.owner answer

  -- a BranchCommit and a BranchRollback, by the kind of the branch
  abbrev pub on_commit : (x b : ℕ) → BranchKind → (m c : ℕ) → Step
  on_commit x b kind.At m c = at_commit x b (undo_of rs x b)
  on_commit x b kind.Tcc m c = with_action (λ a. tcc_commit x b (effect db a.confirms) (on_confirm (fence rs x b))) (action_of s m c)

  abbrev pub on_rollback : (x b : ℕ) → BranchKind → (m c : ℕ) → Step
  on_rollback x b kind.At m c = at_rollback db opens x b (is_marked rs x b) (undo_of rs x b)
  on_rollback x b kind.Tcc m c = with_action (λ a. tcc_rollback x b (effect db a.cancels) (on_cancel (fence rs x b))) (action_of s m c)

  -- a local transaction that the resource doesn't have is ignored
  abbrev pub on_local : ℕ → Option (List Stmt) → Step
  on_local k None = still act.Ignored
  on_local k (Some stmts) = local_answer s.number db opens next k stmts (find (λ o. is_for_local k o.owner) opens)

  -- an answer for a ticket that isn't open is ignored
  abbrev pub on_lock_answer : Option Open → Option (RowKey × Xid) → Step
  on_lock_answer None held = still act.Ignored
  on_lock_answer (Some o) held = lock_answer o o.owner held

  -- an outside write: refused, busy, done
  abbrev pub on_outside : ℕ → Option (List Stmt) → Step
  on_outside k None = still act.Ignored
  on_outside k (Some stmts) = outside_meant opens k (effect db stmts)

  -- ---- turns, and all

  -- the open ticket that was sent longest ago asks again
  abbrev pub on_turn : Option Open → Step
  on_turn None = still act.Nothing
  on_turn (Some o) = requests s.number (act.Resent o.ticket) o

  -- what a resource does with a message
  abbrev pub on_message : Message → Step
  on_message (message.Call xid manager resource call w) = on_call manager xid.0 call w
  on_message (message.RegisterAnswer ticket xid answer) = on_registered (open_at opens ticket) answer
  on_message (message.LockAnswer ticket held) = on_lock_answer (open_at opens ticket) held
  on_message (message.BranchCommit xid b kind manager call) = on_commit xid.0 b.0 kind manager call
  on_message (message.BranchRollback xid b kind manager call) = on_rollback xid.0 b.0 kind manager call
  on_message _ = still act.Ignored

  -- the same of any input
  abbrev pub on_input : Input → Step
  on_input input.Turn = on_turn (last_of opens)
  on_input (input.Message from heard) = on_message heard
  on_input (input.Local k) = on_local k (local_of s k)
  on_input (input.Outside k) = on_outside k (local_of s k)

-- what a resource does with an input
abbrev pub resource_answer : Setup → Memory → Input → Step
resource_answer s m given = on_input s m.left.records m.opens (next_ticket m) given
