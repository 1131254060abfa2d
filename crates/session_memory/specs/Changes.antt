-- What one more record does to a snapshot, and when it may come. Statuses follow Seata's table.
use Rattle.std.specs.Prelude.{◌≡◌, ℕ, ◌+◌, ◌<◌, ◌^◌, ◌==◌, ◌&&◌, nat_lt, Bool, true, false, if◌then◌else◌, List, [], ◌∷◌, ◌++◌, Option, Some, None, is_none, Result, OnOk, OnErr}
use Rattle.std.specs.List.{list_all, list_any}
use Rattle.seata_types.specs.declared.copies.NoMemory.{NoMemory}
use Rattle.seata_types.specs.declared.ids.Xid.{Xid}
use Rattle.seata_types.specs.declared.ids.BranchId.{BranchId}
use Rattle.seata_types.specs.declared.ids.Ticket.{Ticket}
use Rattle.seata_types.specs.declared.rows.RowKey.{RowKey}
use Rattle.seata_types.specs.declared.statuses.BranchKind.{BranchKind}
use Rattle.seata_types.specs.declared.statuses.BranchKind.TheVariants as kind
use Rattle.seata_types.specs.declared.statuses.Decision.{Decision}
use Rattle.seata_types.specs.declared.statuses.Decision.TheVariants as how
use Rattle.seata_types.specs.declared.statuses.GlobalStatus.{GlobalStatus}
use Rattle.seata_types.specs.declared.statuses.GlobalStatus.TheVariants as status
use Rattle.durable_records.specs.declared.coordinators.SessionRecord.{SessionRecord}
use Rattle.durable_records.specs.declared.coordinators.SessionRecord.TheVariants as log
use Rattle.durable_records.specs.Progress.{has_retrying}
use Rattle.lock_table.specs.Locks.{Holds, first_held, without_xid, without_leg}
use Rattle.session_log.specs.declared.sessions.Branch.{Branch}
use Rattle.session_log.specs.declared.sessions.RegisterPlace.{RegisterPlace}
use Rattle.session_log.specs.declared.sessions.Session.{Session}
use Rattle.session_log.specs.declared.sessions.SessionEntry.{SessionEntry}
use Rattle.session_log.specs.declared.sessions.Forgotten.{Forgotten}
use Rattle.session_log.specs.declared.sessions.Snapshot.{Snapshot}
use Rattle.session_log.specs.Soundness.{is_at_branch, is_ended_branch, is_open_with}
use Rattle.session_memory.specs.Lookups.{session_in, status_in, branches_in, xid_for, ticket_leg, call_leg}
use Rattle.session_memory.specs.Holding.{held_in}

-- ---- statuses

-- the status after a decision, by whether all branches are AT
abbrev pub decided_status : Decision → Bool → GlobalStatus
decided_status how.Commit true = status.AsyncCommitting
decided_status how.Commit false = status.Committing
decided_status how.Rollback at = status.Rollbacking
decided_status how.Timeout at = status.TimeoutRollbacking

-- the status after the first retry
abbrev pub retrying_status : GlobalStatus → GlobalStatus
retrying_status status.Committing = status.CommitRetrying
retrying_status status.Rollbacking = status.RollbackRetrying
retrying_status status.TimeoutRollbacking = status.TimeoutRollbackRetrying
retrying_status other = other

-- the status after a failure for good
abbrev pub failed_status : GlobalStatus → GlobalStatus
failed_status status.Committing = status.CommitFailed
failed_status status.CommitRetrying = status.CommitFailed
failed_status status.AsyncCommitting = status.CommitFailed
failed_status status.Rollbacking = status.RollbackFailed
failed_status status.RollbackRetrying = status.RollbackFailed
failed_status status.TimeoutRollbacking = status.TimeoutRollbackFailed
failed_status status.TimeoutRollbackRetrying = status.TimeoutRollbackFailed
failed_status other = other

-- the status after the last branch is ended
abbrev pub finished_status : GlobalStatus → GlobalStatus
finished_status status.Committing = status.Committed
finished_status status.CommitRetrying = status.Committed
finished_status status.AsyncCommitting = status.Committed
finished_status status.Rollbacking = status.Rollbacked
finished_status status.RollbackRetrying = status.Rollbacked
finished_status status.TimeoutRollbacking = status.TimeoutRollbacked
finished_status status.TimeoutRollbackRetrying = status.TimeoutRollbacked
finished_status other = other

abbrev pub is_begin : GlobalStatus → Bool
is_begin status.Begin = true
is_begin _ = false

-- decided, and neither finished nor failed
abbrev pub is_going : GlobalStatus → Bool
is_going status.Committing = true
is_going status.CommitRetrying = true
is_going status.AsyncCommitting = true
is_going status.Rollbacking = true
is_going status.RollbackRetrying = true
is_going status.TimeoutRollbacking = true
is_going status.TimeoutRollbackRetrying = true
is_going _ = false

-- finished, and not forgotten
abbrev pub is_finished : GlobalStatus → Bool
is_finished status.Committed = true
is_finished status.Rollbacked = true
is_finished status.TimeoutRollbacked = true
is_finished _ = false

-- ---- when a record may come

-- nobody else holds one of these rows
abbrev pub are_free : Snapshot → Xid → List RowKey → Bool
are_free s x rows = is_none (first_held (held_in s) x rows)

-- nothing is registered for this
abbrev pub is_new : Snapshot → Xid → (resource call : ℕ) → Ticket → BranchKind → Bool
is_new s x resource call ticket kind.At = is_none (ticket_leg s resource ticket)
is_new s x resource call ticket kind.Tcc = is_none (call_leg s x resource call)

-- b is a branch of x that isn't ended, and x is in its second phase
abbrev pub is_open : Snapshot → (x b : ℕ) → Bool
is_open s x b = is_going (status_in s x) && list_any (is_open_with b) (branches_in s x)

-- a record may come
abbrev pub may_come : Snapshot → SessionRecord → Bool
may_come s (log.Begun xid manager begun timeout) = (xid.0 == s.begun + 1) && is_none (xid_for s manager)
may_come s (log.Granted xid branch resource call ticket kind hold) =
    is_begin (status_in s xid.0) && ((branch.0 == s.granted + 1) && (is_new s xid resource call ticket kind && are_free s xid hold))
may_come s (log.Decided xid decision) = is_begin (status_in s xid.0)
may_come s (log.Retrying xid) = has_retrying (status_in s xid.0)
may_come s (log.Ended xid branch) = is_open s xid.0 branch.0
may_come s (log.Failed xid branch stmt) = is_open s xid.0 branch.0
may_come s (log.Finished xid) = is_going (status_in s xid.0) && list_all is_ended_branch (branches_in s xid.0)
may_come s (log.Forgot xid) = is_finished (status_in s xid.0)

-- ---- what it does

-- branch b is ended
abbrev pub with_ended : ℕ → List Branch → List Branch
with_ended b [] = []
with_ended b (c ∷ cs) = if c.id.0 == b then record c { ended = true } ∷ cs else c ∷ with_ended b cs

-- a transaction with one branch more
abbrev pub with_branch : Branch → Session → Session
with_branch b t = record t { branches = t.branches ++ b ∷ [] }

-- a transaction after a record on it that registers no branch
abbrev pub turned : SessionRecord → Session → Session
turned (log.Decided xid decision) t = record t { status = decided_status decision (list_all is_at_branch t.branches) }
turned (log.Retrying xid) t = record t { status = retrying_status t.status }
turned (log.Ended xid branch) t = record t { branches = with_ended branch.0 t.branches }
turned (log.Failed xid branch stmt) t = record t { status = failed_status t.status; failed = Some (branch, stmt) }
turned (log.Finished xid) t = record t { status = finished_status t.status }
turned _ t = t

-- transaction x after such a record
abbrev pub changed : ℕ → (Session → Session) → List SessionEntry → List SessionEntry
changed x f [] = []
changed x f (e ∷ es) = if e.xid.0 == x then record e { session = f e.session } ∷ es else e ∷ changed x f es

-- without transaction x
abbrev pub without : ℕ → List SessionEntry → List SessionEntry
without x [] = []
without x (e ∷ es) = if e.xid.0 == x then es else e ∷ without x es

-- transaction x is forgotten too: it stands before the first one with a greater number
abbrev pub with_forgotten : Forgotten → List Forgotten → List Forgotten
with_forgotten f [] = f ∷ []
with_forgotten f (g ∷ gs) = if nat_lt f.xid.0 g.xid.0 then f ∷ g ∷ gs else g ∷ with_forgotten f gs

abbrev pub forgotten_as : Xid → Option Session → List Forgotten → List Forgotten
forgotten_as x None fs = fs
forgotten_as x (Some t) fs = with_forgotten (record { xid = x; manager = t.manager }) fs

abbrev pub begun_entry : Xid → (manager begun timeout : ℕ) → SessionEntry
begun_entry xid manager begun timeout = record {
  xid = xid;
  session = record { manager = manager; begun = begun; timeout = timeout; status = status.Begin; branches = []; failed = None };
}

abbrev pub granted_branch : BranchId → (resource call : ℕ) → Ticket → BranchKind → List RowKey → Branch
granted_branch branch resource call ticket kind hold =
    record { id = branch; place = record { resource = resource; call = call; ticket = ticket; kind = kind }; hold = hold; ended = false }

abbrev pub xid_in : SessionRecord → ℕ
xid_in (log.Begun xid manager begun timeout) = xid.0
xid_in (log.Granted xid branch resource call ticket kind hold) = xid.0
xid_in (log.Decided xid decision) = xid.0
xid_in (log.Retrying xid) = xid.0
xid_in (log.Ended xid branch) = xid.0
xid_in (log.Failed xid branch stmt) = xid.0
xid_in (log.Finished xid) = xid.0
xid_in (log.Forgot xid) = xid.0

abbrev pub with_turned : SessionRecord → Snapshot → Snapshot
with_turned r s = record s { acts = s.acts + 1; sessions = changed (xid_in r) (turned r) s.sessions }

-- a branch of x more
abbrev pub with_registered : Snapshot → ℕ → Branch → Snapshot
with_registered s x b = record s { acts = s.acts + 1; granted = s.granted + 1; sessions = changed x (with_branch b) s.sessions }

-- a snapshot after one more record
abbrev pub after : SessionRecord → Snapshot → Snapshot
after (log.Begun xid manager begun timeout) s = record s {
  acts = s.acts + 1;
  begun = s.begun + 1;
  sessions = s.sessions ++ begun_entry xid manager begun timeout ∷ [];
}
after (log.Granted xid branch resource call ticket kind hold) s = with_registered s xid.0 (granted_branch branch resource call ticket kind hold)
after (log.Forgot xid) s = record s {
  acts = s.acts + 1;
  sessions = without xid.0 s.sessions;
  forgotten = forgotten_as xid (session_in s xid.0) s.forgotten;
}
after r s = with_turned r s

-- a branch is registered at a place, under this number
abbrev pub granted_record : Xid → ℕ → RegisterPlace → List RowKey → SessionRecord
granted_record xid branch place hold = log.Granted xid (record { 0 = branch }) place.resource place.call place.ticket place.kind hold

-- the rows that a record's branch takes
abbrev pub taken_rows : SessionRecord → List RowKey
taken_rows (log.Granted xid branch resource call ticket kind hold) = hold
taken_rows _ = []

-- a record on a transaction that it neither begins nor forgets, and that registers no branch
abbrev pub turns : SessionRecord → Bool
turns (log.Begun xid manager begun timeout) = false
turns (log.Granted xid branch resource call ticket kind hold) = false
turns (log.Forgot xid) = false
turns _ = true

-- the table of locks after such a record
abbrev pub locks_after : SessionRecord → Holds → Holds
locks_after (log.Decided xid how.Commit) hs = without_xid hs xid
locks_after (log.Ended xid branch) hs = without_leg hs (record { xid = xid; branch = branch })
locks_after _ hs = hs

-- ---- taking it in

-- a record that may be taken in: it may come, and there is room to count it
pub record MayTake (s : Snapshot) (r : SessionRecord) : Type 0 where
  pub allowed : may_come s r ≡ true
  pub room : s.acts + 1 < 2 ^ 32

-- after Ok the snapshot is that with the record, after an error it is as before
pub record TakesIn (r : SessionRecord) (result : Result (Unit {0}) NoMemory) (old new : Snapshot) : Type 0 where
  pub ok : OnOk result (new ≡ after r old)
  pub err : OnErr result (new ≡ old)
