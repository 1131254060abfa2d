-- The transactions of the coordinator's records. Lists of records stand newest first.
use Rattle.std.specs.Prelude.{ℕ, ◌+◌, ◌==◌, Bool, true, false, if◌then◌else◌, List, [], ◌∷◌, length, find, Option, Some, None}
use Rattle.seata_types.specs.declared.statuses.Decision.{Decision}
use Rattle.seata_types.specs.declared.statuses.Decision.TheVariants as how
use Rattle.durable_records.specs.declared.coordinators.SessionRecord.{SessionRecord}
use Rattle.durable_records.specs.declared.coordinators.SessionRecord.TheVariants as log

-- a transaction as it began: its number, its manager, the moment and how many ticks it may take
pub record Session : Type 0 where
  pub xid : ℕ
  pub manager : ℕ
  pub begun : ℕ
  pub timeout : ℕ

-- the transactions that began
abbrev pub sessions : List SessionRecord → List Session
sessions [] = []
sessions (log.Begun xid manager begun timeout ∷ rs) = record { xid = xid.0; manager = manager; begun = begun; timeout = timeout } ∷ sessions rs
sessions (_ ∷ rs) = sessions rs

-- the number of the next transaction: they are counted from 1
abbrev pub next_xid : List SessionRecord → ℕ
next_xid rs = length (sessions rs) + 1

abbrev pub has_xid : ℕ → Session → Bool
has_xid x s = s.xid == x

abbrev pub has_manager : ℕ → Session → Bool
has_manager m s = s.manager == m

-- transaction x
abbrev pub session : List SessionRecord → ℕ → Option Session
session rs x = find (has_xid x) (sessions rs)

-- the transaction of a manager, also where it is forgotten
abbrev pub session_for : List SessionRecord → ℕ → Option Session
session_for rs m = find (has_manager m) (sessions rs)

-- how x is decided
abbrev pub decided : List SessionRecord → ℕ → Option Decision
decided [] x = None
decided (log.Decided xid decision ∷ rs) x = if xid.0 == x then Some decision else decided rs x
decided (_ ∷ rs) x = decided rs x

-- whether x is forgotten
abbrev pub is_forgotten : List SessionRecord → ℕ → Bool
is_forgotten [] x = false
is_forgotten (log.Forgot xid ∷ rs) x = if xid.0 == x then true else is_forgotten rs x
is_forgotten (_ ∷ rs) x = is_forgotten rs x

-- the branch and the statement at which x failed
abbrev pub failed : List SessionRecord → ℕ → Option (ℕ × ℕ)
failed [] x = None
failed (log.Failed xid branch stmt ∷ rs) x = if xid.0 == x then Some (branch.0, stmt) else failed rs x
failed (_ ∷ rs) x = failed rs x

abbrev pub is_commit : Option Decision → Bool
is_commit (Some how.Commit) = true
is_commit _ = false

-- a rollback, asked for or by the timeout
abbrev pub is_rollback : Option Decision → Bool
is_rollback (Some how.Rollback) = true
is_rollback (Some how.Timeout) = true
is_rollback _ = false
