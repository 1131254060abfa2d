-- The numbers of the statuses, and the table of their changes.
use Rattle.std.specs.Prelude.{ℕ, Bool}
use Rattle.seata_types.specs.declared.statuses.GlobalStatus.{GlobalStatus}
use Rattle.seata_types.specs.declared.statuses.GlobalStatus.TheVariants as global
use Rattle.seata_types.specs.declared.statuses.BranchStatus.{BranchStatus}
use Rattle.seata_types.specs.declared.statuses.BranchStatus.TheVariants as branch
use Rattle.std.specs.Prelude.{◌==◌, ◌||◌, ◌&&◌}

-- a session status's number
abbrev pub code_of : GlobalStatus → ℕ
code_of global.UnKnown = 0
code_of global.Begin = 1
code_of global.Committing = 2
code_of global.CommitRetrying = 3
code_of global.Rollbacking = 4
code_of global.RollbackRetrying = 5
code_of global.TimeoutRollbacking = 6
code_of global.TimeoutRollbackRetrying = 7
code_of global.AsyncCommitting = 8
code_of global.Committed = 9
code_of global.CommitFailed = 10
code_of global.Rollbacked = 11
code_of global.RollbackFailed = 12
code_of global.TimeoutRollbacked = 13
code_of global.TimeoutRollbackFailed = 14
code_of global.Finished = 15

-- a branch status's number
abbrev pub branch_code_of : BranchStatus → ℕ
branch_code_of branch.Unknown = 0
branch_code_of branch.Registered = 1
branch_code_of branch.PhaseOneDone = 2
branch_code_of branch.PhaseOneFailed = 3
branch_code_of branch.PhaseOneTimeout = 4
branch_code_of branch.PhaseTwoCommitted = 5
branch_code_of branch.PhaseTwoCommitFailedRetryable = 6
branch_code_of branch.PhaseTwoCommitFailedUnretryable = 7
branch_code_of branch.PhaseTwoRollbacked = 8
branch_code_of branch.PhaseTwoRollbackFailedRetryable = 9
branch_code_of branch.PhaseTwoRollbackFailedUnretryable = 10

-- one of these numbers
abbrev one_of : ℕ → ℕ → ℕ → Bool
one_of a b n = (n == a) || (n == b)

-- the status numbers that may follow a number, line by line of the table
abbrev pub follows : ℕ → ℕ → Bool
follows old new =
    ((old == 1) && (one_of 2 4 new || one_of 6 8 new)) ||
    ((old == 2) && ((new == 3) || one_of 9 10 new)) ||
    ((old == 3) && one_of 9 10 new) ||
    ((old == 8) && one_of 9 10 new) ||
    ((old == 4) && ((new == 5) || one_of 11 12 new)) ||
    ((old == 5) && one_of 11 12 new) ||
    ((old == 6) && ((new == 7) || one_of 13 14 new)) ||
    ((old == 7) && one_of 13 14 new)
