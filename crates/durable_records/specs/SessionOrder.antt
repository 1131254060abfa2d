-- When a record of the coordinator may come after others.
use Rattle.std.specs.Prelude.{◌≡◌, ℕ, ◌==◌, ◌&&◌, nat_le, Bool, true, false, List, [], ◌∷◌, length, is_some, is_none}
use Rattle.std.specs.List.{list_all}
use Rattle.seata_types.specs.declared.limits.TheConstants.{CALLS, CALL_ROWS}
use Rattle.seata_types.specs.declared.rows.RowKey.{RowKey}
use Rattle.durable_records.specs.declared.coordinators.SessionRecord.{SessionRecord}
use Rattle.durable_records.specs.declared.coordinators.SessionRecord.TheVariants as log
use Rattle.durable_records.specs.Transactions.{session_for, next_xid}
use Rattle.durable_records.specs.Branches.{granted, next_branch, unended, unended_branch}
use Rattle.durable_records.specs.Progress.{may_decide, is_going, is_finished, may_retry}
use Rattle.durable_records.specs.Locks.{first_held}

-- transaction x is the next one, and its manager has none yet
abbrev pub may_begin : List SessionRecord → (x manager : ℕ) → Bool
may_begin rs x manager = (x == next_xid rs) && is_none (session_for rs manager)

-- branch b is the next one of an undecided transaction, and no other transaction holds its rows
abbrev pub may_grant : List SessionRecord → (x b : ℕ) → List RowKey → Bool
may_grant rs x b hold = may_decide rs x && ((b == next_branch rs) && is_none (first_held rs x hold))

-- b is an unended branch of a transaction in its second phase
abbrev pub may_end : List SessionRecord → (x b : ℕ) → Bool
may_end rs x b = is_going rs x && is_some (unended_branch rs x b)

abbrev pub is_empty : {A : Type 0} → List A → Bool
is_empty [] = true
is_empty (_ ∷ _) = false

-- all branches of a transaction in its second phase are ended
abbrev pub may_finish : List SessionRecord → ℕ → Bool
may_finish rs x = is_going rs x && is_empty (unended rs x)

-- a record may come after these
abbrev pub may : List SessionRecord → SessionRecord → Bool
may rs (log.Begun xid manager begun timeout) = may_begin rs xid.0 manager
may rs (log.Granted xid branch resource call ticket kind hold) =
    may_grant rs xid.0 branch.0 hold && is_none (granted rs xid.0 resource call ticket kind)
may rs (log.Decided xid how) = may_decide rs xid.0
may rs (log.Retrying xid) = may_retry rs xid.0
may rs (log.Ended xid branch) = may_end rs xid.0 branch.0
may rs (log.Failed xid branch stmt) = may_end rs xid.0 branch.0
may rs (log.Finished xid) = may_finish rs xid.0
may rs (log.Forgot xid) = is_finished rs xid.0

-- the same as a fact
abbrev pub May : List SessionRecord → SessionRecord → Type 0
May rs r = may rs r ≡ true

-- each record may come after those before it
abbrev pub Allowed : List SessionRecord → Type 0
Allowed [] = Unit {0}
Allowed (r ∷ rs) = Allowed rs × May rs r

-- ---- numbers

-- one of this many, counted from 1
abbrev pub is_counted : ℕ → ℕ → Bool
is_counted count n = nat_le 1 n && nat_le n count

-- whether a key's resource is one of this many
abbrev pub has_resource : ℕ → RowKey → Bool
has_resource resources key = is_counted resources key.resource

-- the managers, resources and calls of a record are numbers of a scenario with this many, and a branch holds no more
-- rows than a call may touch
abbrev pub is_within : (managers resources : ℕ) → SessionRecord → Bool
is_within managers resources (log.Begun xid manager begun timeout) = is_counted managers manager
is_within managers resources (log.Granted xid branch resource call ticket kind hold) =
    is_counted resources resource && (is_counted CALLS call && (list_all (has_resource resources) hold && nat_le (length hold) CALL_ROWS))
is_within managers resources _ = true
