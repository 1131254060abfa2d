-- The rows that the branches of a snapshot hold, after Seata's global lock: until the transaction is decided commit, and
-- else until the branch is ended.
use Rattle.std.specs.Prelude.{Bool, true, false, List, [], ◌∷◌, ◌++◌, if◌then◌else◌}
use Rattle.seata_types.specs.declared.ids.Xid.{Xid}
use Rattle.seata_types.specs.declared.statuses.GlobalStatus.{GlobalStatus}
use Rattle.seata_types.specs.declared.statuses.GlobalStatus.TheVariants as status
use Rattle.lock_table.specs.Locks.{Holds}
use Rattle.session_log.specs.declared.sessions.Branch.{Branch}
use Rattle.session_log.specs.declared.sessions.SessionEntry.{SessionEntry}
use Rattle.session_log.specs.declared.sessions.Snapshot.{Snapshot}
use Rattle.session_memory.specs.Lookups.{leg_of}

-- a transaction with this status isn't decided commit
abbrev pub keeps_rows : GlobalStatus → Bool
keeps_rows status.Committing = false
keeps_rows status.CommitRetrying = false
keeps_rows status.AsyncCommitting = false
keeps_rows status.Committed = false
keeps_rows status.CommitFailed = false
keeps_rows _ = true

abbrev pub held_by_branches : Xid → List Branch → Holds
held_by_branches x [] = []
held_by_branches x (b ∷ bs) = if b.ended then held_by_branches x bs else ((leg_of x b, b.hold) ∷ held_by_branches x bs)

abbrev pub held_by : SessionEntry → Holds
held_by e = if keeps_rows e.session.status then held_by_branches e.xid e.session.branches else []

abbrev pub held : List SessionEntry → Holds
held [] = []
held (e ∷ es) = held_by e ++ held es

-- each branch that holds rows, with its rows, in order of transaction and branch
abbrev pub held_in : Snapshot → Holds
held_in s = held s.sessions
