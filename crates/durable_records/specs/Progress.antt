-- How far a transaction is, and its status.
use Rattle.std.specs.Prelude.{ℕ, ◌==◌, ◌&&◌, Bool, true, false, not, if◌then◌else◌, List, [], ◌∷◌, Option, Some, None, is_some, is_none}
use Rattle.seata_types.specs.declared.statuses.Decision.{Decision}
use Rattle.seata_types.specs.declared.statuses.Decision.TheVariants as how
use Rattle.seata_types.specs.declared.statuses.GlobalStatus.{GlobalStatus}
use Rattle.seata_types.specs.declared.statuses.GlobalStatus.TheVariants as status
use Rattle.durable_records.specs.declared.coordinators.SessionRecord.{SessionRecord}
use Rattle.durable_records.specs.declared.coordinators.SessionRecord.TheVariants as log
use Rattle.durable_records.specs.Transactions.{session, decided, is_forgotten}
use Rattle.durable_records.specs.Branches.{branches, all_at}

-- how far the second phase is: its branches are asked, one of them is asked again, or it is over
pub data Progress : Type 0 where
  Goes : Progress
  Retries : Progress
  IsFailed : Progress
  IsDone : Progress

-- how far x is, by its last record of these kinds
abbrev pub progress : List SessionRecord → ℕ → Progress
progress [] x = Goes
progress (log.Retrying xid ∷ rs) x = if xid.0 == x then Retries else progress rs x
progress (log.Failed xid branch stmt ∷ rs) x = if xid.0 == x then IsFailed else progress rs x
progress (log.Finished xid ∷ rs) x = if xid.0 == x then IsDone else progress rs x
progress (_ ∷ rs) x = progress rs x

-- the status by whether all branches are AT, the decision and how far the second phase is
abbrev pub status_by : Bool → Option Decision → Progress → GlobalStatus
status_by at None p = status.Begin
status_by true (Some how.Commit) Goes = status.AsyncCommitting
status_by true (Some how.Commit) Retries = status.AsyncCommitting
status_by false (Some how.Commit) Goes = status.Committing
status_by false (Some how.Commit) Retries = status.CommitRetrying
status_by at (Some how.Commit) IsFailed = status.CommitFailed
status_by at (Some how.Commit) IsDone = status.Committed
status_by at (Some how.Rollback) Goes = status.Rollbacking
status_by at (Some how.Rollback) Retries = status.RollbackRetrying
status_by at (Some how.Rollback) IsFailed = status.RollbackFailed
status_by at (Some how.Rollback) IsDone = status.Rollbacked
status_by at (Some how.Timeout) Goes = status.TimeoutRollbacking
status_by at (Some how.Timeout) Retries = status.TimeoutRollbackRetrying
status_by at (Some how.Timeout) IsFailed = status.TimeoutRollbackFailed
status_by at (Some how.Timeout) IsDone = status.TimeoutRollbacked

-- whether x began and isn't forgotten
abbrev pub is_known : List SessionRecord → ℕ → Bool
is_known rs x = is_some (session rs x) && not (is_forgotten rs x)

-- the status of x: Finished where it never began, and once it is forgotten
abbrev pub status_of : List SessionRecord → ℕ → GlobalStatus
status_of rs x = if is_known rs x then status_by (all_at (branches rs x)) (decided rs x) (progress rs x) else status.Finished

-- ---- what is asked of a transaction

-- whether branches are asked still, and below it whether the transaction is finished
abbrev pub is_on : Progress → Bool
is_on Goes = true
is_on Retries = true
is_on _ = false

abbrev pub is_done : Progress → Bool
is_done IsDone = true
is_done _ = false

-- x began and isn't decided
abbrev pub may_decide : List SessionRecord → ℕ → Bool
may_decide rs x = is_known rs x && is_none (decided rs x)

-- x is decided and neither finished nor failed
abbrev pub is_going : List SessionRecord → ℕ → Bool
is_going rs x = is_known rs x && (is_some (decided rs x) && is_on (progress rs x))

-- x is finished and not forgotten
abbrev pub is_finished : List SessionRecord → ℕ → Bool
is_finished rs x = is_known rs x && (is_some (decided rs x) && is_done (progress rs x))

-- the statuses that become a Retrying one
abbrev pub has_retrying : GlobalStatus → Bool
has_retrying status.Committing = true
has_retrying status.Rollbacking = true
has_retrying status.TimeoutRollbacking = true
has_retrying _ = false

-- the first retry of x changes its status
abbrev pub may_retry : List SessionRecord → ℕ → Bool
may_retry rs x = has_retrying (status_of rs x)
