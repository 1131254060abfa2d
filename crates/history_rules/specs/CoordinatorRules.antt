-- The coordinator's rules: its one answer to what it is given, by the records that stand and, for moments, its own entries.
-- The cases stand in the order in which they are tried.
use Rattle.std.specs.Prelude.{ℕ, ◌&&◌, Bool, true, false, if◌then◌else◌, List, [], ◌∷◌, ◌++◌, Option, Some, None, is_some}
use Rattle.seata_types.specs.declared.acts.Act.{Act}
use Rattle.seata_types.specs.declared.acts.Act.TheVariants as act
use Rattle.seata_types.specs.declared.acts.Durable.TheVariants as durable
use Rattle.seata_types.specs.declared.ids.BranchId.{BranchId}
use Rattle.seata_types.specs.declared.ids.Place.{Place}
use Rattle.seata_types.specs.declared.ids.Place.TheVariants as place
use Rattle.seata_types.specs.declared.ids.Ticket.{Ticket}
use Rattle.seata_types.specs.declared.ids.Xid.{Xid}
use Rattle.seata_types.specs.declared.messages.Input.{Input}
use Rattle.seata_types.specs.declared.messages.Input.TheVariants as input
use Rattle.seata_types.specs.declared.messages.Message.{Message}
use Rattle.seata_types.specs.declared.messages.Message.TheVariants as message
use Rattle.seata_types.specs.declared.messages.Registered.{Registered}
use Rattle.seata_types.specs.declared.messages.Registered.TheVariants as registered
use Rattle.seata_types.specs.declared.messages.Step.{Step}
use Rattle.seata_types.specs.declared.rows.RowKey.{RowKey}
use Rattle.seata_types.specs.declared.statuses.BranchKind.{BranchKind}
use Rattle.seata_types.specs.declared.statuses.BranchStatus.{BranchStatus}
use Rattle.seata_types.specs.declared.statuses.BranchStatus.TheVariants as branch
use Rattle.seata_types.specs.declared.statuses.Decision.{Decision}
use Rattle.seata_types.specs.declared.statuses.Decision.TheVariants as how
use Rattle.seata_types.specs.declared.statuses.GlobalStatus.{GlobalStatus}
use Rattle.durable_records.specs.declared.coordinators.SessionRecord.{SessionRecord}
use Rattle.durable_records.specs.Transactions.{Session, session, session_for, decided, next_xid, is_commit, is_rollback}
use Rattle.durable_records.specs.Branches.{Grant, branches, granted, next_branch, unended, unended_branch, all_at}
use Rattle.durable_records.specs.Progress.{IsDone, Goes, status_by, status_of, may_decide, is_going, may_retry}
use Rattle.durable_records.specs.Locks.{first_held}
pub use Rattle.local_txn.specs.OpenTickets.{last_of}
use Rattle.history_rules.specs.Own.{Own, still, sends}
use Rattle.history_rules.specs.CoordinatorMemory.{Times, is_past, late_one, due_one, old_one}

-- a transaction and a branch of these numbers
abbrev pub xid_of : ℕ → Xid
xid_of x = record { 0 = x }

abbrev pub branch_of : ℕ → BranchId
branch_of b = record { 0 = b }

module _ (rs : List SessionRecord) where
  -- ---- begin

  -- a manager's transaction is begun once: known, else begun
  abbrev pub begin_answer : ℕ → Option Session → Step
  begin_answer manager (Some s) = sends (act.Known (xid_of s.xid)) (place.Man manager) (message.Begun (xid_of s.xid))
  begin_answer manager None = let xid = xid_of (next_xid rs) in
      sends (act.Durable (durable.Begun xid)) (place.Man manager) (message.Begun xid)

  -- ---- commit, rollback and the status

  -- the status of x once it is decided so
  abbrev pub decided_status : ℕ → Decision → GlobalStatus
  decided_status x decision = status_by (all_at (branches rs x)) (Some decision) Goes

  -- the status, told in answer to a GlobalCommit, and to a GlobalRollback
  abbrev pub tells_commit : Place → Xid → Act → GlobalStatus → Step
  tells_commit from xid done st = sends done from (message.CommitStatus xid st)

  abbrev pub tells_rollback : Place → Xid → Act → GlobalStatus → Step
  tells_rollback from xid done st = sends done from (message.RollbackStatus xid st)

  -- at a GlobalCommit x is decided so, and the status that follows is told
  abbrev pub commit_decides : Place → Xid → Decision → Step
  commit_decides from xid decision = tells_commit from xid (act.Durable (durable.Decided xid decision)) (decided_status xid.0 decision)

  -- a commit: told where x can't be decided, else commit in time, else the timeout
  abbrev pub commit_answer : Place → Xid → (may late : Bool) → Step
  commit_answer from xid false late = tells_commit from xid (act.Told xid (status_of rs xid.0)) (status_of rs xid.0)
  commit_answer from xid true false = commit_decides from xid how.Commit
  commit_answer from xid true true = commit_decides from xid how.Timeout

  -- a rollback: told where x can't be decided, else rollback
  abbrev pub rollback_answer : Place → Xid → (may : Bool) → Step
  rollback_answer from xid false = tells_rollback from xid (act.Told xid (status_of rs xid.0)) (status_of rs xid.0)
  rollback_answer from xid true =
      tells_rollback from xid (act.Durable (durable.Decided xid how.Rollback)) (decided_status xid.0 how.Rollback)

  -- a question for the status: told
  abbrev pub status_answer : Place → Xid → Step
  status_answer from xid = sends (act.Told xid (status_of rs xid.0)) from (message.StatusAnswer xid (status_of rs xid.0))

  -- ---- locks

  -- a local transaction's rows: held, by the first one that a transaction holds, else free
  abbrev pub query_answer : Place → Ticket → Option (RowKey × Grant) → Step
  query_answer from ticket (Some (key, holder)) =
      sends (act.Held key (xid_of holder.xid)) from (message.LockAnswer ticket (Some (key, xid_of holder.xid)))
  query_answer from ticket None = sends act.Free from (message.LockAnswer ticket None)

  -- ---- branch answers

  -- a branch is to be asked again: retrying where this changes the status, else retry
  abbrev pub retry_answer : Xid → BranchId → (changes : Bool) → Step
  retry_answer xid b true = still (act.Durable (durable.Retrying xid b))
  retry_answer xid b false = still (act.Retry xid b)

  -- by the branch's status: ended, retrying or retry, failed, else ignored
  abbrev pub end_answer : Xid → BranchId → BranchStatus → ℕ → Step
  end_answer xid b branch.PhaseTwoCommitted stmt = still (act.Durable (durable.Ended xid b))
  end_answer xid b branch.PhaseTwoRollbacked stmt = still (act.Durable (durable.Ended xid b))
  end_answer xid b branch.PhaseTwoCommitFailedRetryable stmt = retry_answer xid b (may_retry rs xid.0)
  end_answer xid b branch.PhaseTwoRollbackFailedRetryable stmt = retry_answer xid b (may_retry rs xid.0)
  end_answer xid b branch.PhaseTwoCommitFailedUnretryable stmt = still (act.Durable (durable.Failed xid b stmt))
  end_answer xid b branch.PhaseTwoRollbackFailedUnretryable stmt = still (act.Durable (durable.Failed xid b stmt))
  end_answer xid b _ stmt = still act.Ignored

  -- an answer of the decided kind counts for an unended branch of a transaction that isn't over
  abbrev pub branch_answer : (of_kind : Bool) → Xid → BranchId → BranchStatus → ℕ → Step
  branch_answer of_kind xid b st stmt =
      if of_kind && (is_going rs xid.0 && is_some (unended_branch rs xid.0 b.0)) then end_answer xid b st stmt else still act.Ignored

-- ---- registration

-- what a Register asks for
pub record Request : Type 0 where
  pub xid : ℕ
  pub resource : ℕ
  pub call : ℕ
  pub ticket : Ticket
  pub kind : BranchKind
  pub hold : List RowKey
  pub check : List RowKey

module _ (rs : List SessionRecord) (now : ℕ) (q : Request) where
  -- the answer goes to the resource that asked
  abbrev pub answers : Act → ℕ → Registered → Step
  answers done x answer = sends done (place.Res q.resource) (message.RegisterAnswer q.ticket (xid_of x) answer)

  -- conflict where another transaction holds a row, else granted
  abbrev pub hold_answer : Option (RowKey × Grant) → Step
  hold_answer (Some (key, holder)) = let rolling = is_rollback (decided rs holder.xid) in
      answers (act.Conflict (xid_of q.xid) key (xid_of holder.xid) rolling) q.xid (registered.Conflict key (xid_of holder.xid) rolling)
  hold_answer None = let b = branch_of (next_branch rs) in
      answers (act.Durable (durable.Granted (xid_of q.xid) b)) q.xid (registered.Granted b)

  -- late past the timeout, which decides it
  abbrev pub timely_answer : (past : Bool) → Step
  timely_answer true = answers (act.Durable (durable.Late (xid_of q.xid))) q.xid registered.Late
  timely_answer false = hold_answer (first_held rs q.xid (q.hold ++ q.check))

  -- closed where the transaction isn't there to be decided
  abbrev pub open_answer : (may : Bool) → Step
  open_answer false = answers (act.Closed (xid_of q.xid) (status_of rs q.xid)) q.xid (registered.Closed (status_of rs q.xid))
  open_answer true = timely_answer (is_past (session rs q.xid) now)

  -- a Register: regranted, closed, late, conflict, granted
  abbrev pub register_answer : Option Grant → Step
  register_answer (Some g) = answers (act.Regranted (xid_of g.xid) (branch_of g.branch)) g.xid (registered.Granted (branch_of g.branch))
  register_answer None = open_answer (may_decide rs q.xid)

-- ---- turns

abbrev pub first_of : {A : Type 0} → List A → Option A
first_of [] = None
first_of (x ∷ xs) = Some x

-- the manager that began a transaction, 0 where there is none
abbrev pub manager_of : Option Session → ℕ
manager_of None = 0
manager_of (Some s) = s.manager

module _ (rs : List SessionRecord) where
  -- the branch of x that is asked next: the first unended one after a commit, the last one after a rollback
  abbrev pub next_asked : ℕ → (commit : Bool) → Option Grant
  next_asked x true = last_of (unended rs x)
  next_asked x false = first_of (unended rs x)

  -- what a branch of x is asked, by how x is decided
  abbrev pub asks : ℕ → Grant → (commit : Bool) → Message
  asks x g true = message.BranchCommit (xid_of x) (branch_of g.branch) g.kind (manager_of (session rs x)) g.call
  asks x g false = message.BranchRollback (xid_of x) (branch_of g.branch) g.kind (manager_of (session rs x)) g.call

  -- a due transaction: finished where all its branches are ended, else a branch is asked
  abbrev pub due_answer : ℕ → Option Grant → Step
  due_answer x None = still (act.Durable (durable.Finished (xid_of x) (status_by (all_at (branches rs x)) (decided rs x) IsDone)))
  due_answer x (Some g) = sends (act.Asked (xid_of x) (branch_of g.branch)) (place.Res g.resource) (asks x g (is_commit (decided rs x)))

  -- a transaction that is old is forgotten; nothing where none is
  abbrev pub old_answer : Option ℕ → Step
  old_answer (Some x) = still (act.Durable (durable.Forgot (xid_of x)))
  old_answer None = still act.Nothing

  -- a turn: the timeout of a late transaction, the second phase of a due one, the end of an old one, else nothing
  abbrev pub turn_answer : (late : Option ℕ) → (due : Option (ℕ × ℕ)) → (old : Option ℕ) → Step
  turn_answer (Some x) due old = still (act.Durable (durable.Decided (xid_of x) how.Timeout))
  turn_answer None (Some (x, moment)) old = due_answer x (next_asked x (is_commit (decided rs x)))
  turn_answer None None old = old_answer old

-- ---- all

-- what the coordinator does with a message from this place, by the records that stand and the moment
abbrev pub message_answer : List SessionRecord → ℕ → Place → Message → Step
message_answer rs now from (message.Begin manager timeout) = begin_answer rs manager (session_for rs manager)
message_answer rs now from (message.Register xid resource call ticket kind hold check) =
    register_answer rs now
    (record { xid = xid.0; resource = resource; call = call; ticket = ticket; kind = kind; hold = hold; check = check })
    (granted rs xid.0 resource call ticket kind)
message_answer rs now from (message.GlobalCommit xid) = commit_answer rs from xid (may_decide rs xid.0) (is_past (session rs xid.0) now)
message_answer rs now from (message.GlobalRollback xid) = rollback_answer rs from xid (may_decide rs xid.0)
message_answer rs now from (message.GlobalStatus xid) = status_answer rs from xid
message_answer rs now from (message.LockQuery resource ticket check) = query_answer rs from ticket (first_held rs 0 check)
message_answer rs now from (message.BranchCommitted xid b st stmt) = branch_answer rs (is_commit (decided rs xid.0)) xid b st stmt
message_answer rs now from (message.BranchRollbacked xid b st stmt) = branch_answer rs (is_rollback (decided rs xid.0)) xid b st stmt
message_answer rs now from _ = still act.Ignored

-- what the coordinator does with an input
abbrev pub coordinator_answer : Times → List SessionRecord → List Own → List SessionRecord → ℕ → Input → Step
coordinator_answer times past os rs now input.Turn =
    turn_answer rs (late_one times past os rs now) (due_one times past os rs now) (old_one times past os rs now)
coordinator_answer times past os rs now (input.Message from heard) = message_answer rs now from heard
coordinator_answer times past os rs now _ = still act.Ignored
