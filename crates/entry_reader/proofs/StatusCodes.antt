-- Statuses by their numbers.
use Rattle.std.proofs.Common.{◌≡◌, refl}
use Rattle.seata_types.specs.declared.statuses.BranchStatus.{BranchStatus}
use Rattle.seata_types.specs.declared.statuses.BranchStatus.TheVariants as branch
use Rattle.seata_types.specs.declared.statuses.GlobalStatus.{GlobalStatus}
use Rattle.seata_types.specs.declared.statuses.GlobalStatus.TheVariants as global
use Rattle.seata_types.specs.Statuses.{code_of, branch_code_of}
use Rattle.entry_reader.specs.Parts.{global_with, branch_with}

pub global_with-code_of : (s : GlobalStatus) → global_with (code_of s) ≡ s
unfolding global_with
global_with-code_of global.UnKnown = refl
global_with-code_of global.Begin = refl
global_with-code_of global.Committing = refl
global_with-code_of global.CommitRetrying = refl
global_with-code_of global.Rollbacking = refl
global_with-code_of global.RollbackRetrying = refl
global_with-code_of global.TimeoutRollbacking = refl
global_with-code_of global.TimeoutRollbackRetrying = refl
global_with-code_of global.AsyncCommitting = refl
global_with-code_of global.Committed = refl
global_with-code_of global.CommitFailed = refl
global_with-code_of global.Rollbacked = refl
global_with-code_of global.RollbackFailed = refl
global_with-code_of global.TimeoutRollbacked = refl
global_with-code_of global.TimeoutRollbackFailed = refl
global_with-code_of global.Finished = refl

pub branch_with-code_of : (s : BranchStatus) → branch_with (branch_code_of s) ≡ s
unfolding branch_with
branch_with-code_of branch.Unknown = refl
branch_with-code_of branch.Registered = refl
branch_with-code_of branch.PhaseOneDone = refl
branch_with-code_of branch.PhaseOneFailed = refl
branch_with-code_of branch.PhaseOneTimeout = refl
branch_with-code_of branch.PhaseTwoCommitted = refl
branch_with-code_of branch.PhaseTwoCommitFailedRetryable = refl
branch_with-code_of branch.PhaseTwoCommitFailedUnretryable = refl
branch_with-code_of branch.PhaseTwoRollbacked = refl
branch_with-code_of branch.PhaseTwoRollbackFailedRetryable = refl
branch_with-code_of branch.PhaseTwoRollbackFailedUnretryable = refl
