-- Statuses, modes, decisions: one piece each, which reads back.
use Rattle.std.proofs.Common.{◌≡◌, ℕ, ◌^◌, ◌<◌, ◌≤◌, min, Bool, true, false, refl, ap, ◌∙◌, arith}
use Rattle.std.specs.Prelude.{codes}
use Rattle.std.specs.Fmt.{decimal}
use Rattle.seata_types.specs.declared.statuses.BranchKind.{BranchKind}
use Rattle.seata_types.specs.declared.statuses.BranchKind.TheVariants as kind
use Rattle.seata_types.specs.declared.statuses.BranchStatus.{BranchStatus}
use Rattle.seata_types.specs.declared.statuses.BranchStatus.TheVariants as branch
use Rattle.seata_types.specs.declared.statuses.Decision.{Decision}
use Rattle.seata_types.specs.declared.statuses.Decision.TheVariants as how
use Rattle.seata_types.specs.declared.statuses.GlobalStatus.{GlobalStatus}
use Rattle.seata_types.specs.declared.statuses.GlobalStatus.TheVariants as global
use Rattle.seata_types.specs.Statuses.{code_of, branch_code_of}
use Rattle.history_text.specs.Lines.{kind_text, decision_text, holding_text}
use Rattle.entry_reader.specs.Parts.{kind_of, decision_of, rolling_of, status_of, branch_status_of, global_with, branch_with}
use Rattle.entry_reader.proofs.Identities.{number-decimal}
use Rattle.entry_reader.proofs.Spells.{IsPiece, word, decimal_piece}
use Rattle.entry_reader.proofs.StatusCodes.{global_with-code_of, branch_with-code_of}

pub code-small : (s : GlobalStatus) → code_of s < 16
code-small global.UnKnown = omega arith
code-small global.Begin = omega arith
code-small global.Committing = omega arith
code-small global.CommitRetrying = omega arith
code-small global.Rollbacking = omega arith
code-small global.RollbackRetrying = omega arith
code-small global.TimeoutRollbacking = omega arith
code-small global.TimeoutRollbackRetrying = omega arith
code-small global.AsyncCommitting = omega arith
code-small global.Committed = omega arith
code-small global.CommitFailed = omega arith
code-small global.Rollbacked = omega arith
code-small global.RollbackFailed = omega arith
code-small global.TimeoutRollbacked = omega arith
code-small global.TimeoutRollbackFailed = omega arith
code-small global.Finished = omega arith

branch_code-small : (s : BranchStatus) → branch_code_of s < 11
branch_code-small branch.Unknown = omega arith
branch_code-small branch.Registered = omega arith
branch_code-small branch.PhaseOneDone = omega arith
branch_code-small branch.PhaseOneFailed = omega arith
branch_code-small branch.PhaseOneTimeout = omega arith
branch_code-small branch.PhaseTwoCommitted = omega arith
branch_code-small branch.PhaseTwoCommitFailedRetryable = omega arith
branch_code-small branch.PhaseTwoCommitFailedUnretryable = omega arith
branch_code-small branch.PhaseTwoRollbacked = omega arith
branch_code-small branch.PhaseTwoRollbackFailedRetryable = omega arith
branch_code-small branch.PhaseTwoRollbackFailedUnretryable = omega arith

wide : (n m : ℕ) → n < m → m ≤ 16 → n < 2 ^ 64
wide n m small most = omega arith

capped : (n : ℕ) → n < 16 → min n 15 ≡ n
capped n small = omega arith

branch_capped : (n : ℕ) → n < 11 → min n 10 ≡ n
branch_capped n small = omega arith

pub code-wide : (s : GlobalStatus) → code_of s < 2 ^ 64
code-wide s = wide (code_of s) 16 (code-small s) (omega arith)

pub status_piece : (s : GlobalStatus) → IsPiece (decimal (code_of s))
status_piece s = decimal_piece (code_of s) (wide (code_of s) 16 (code-small s) (omega arith))

pub status-back : (s : GlobalStatus) → status_of (decimal (code_of s)) ≡ s
status-back s =
    ap (λ n. global_with (min n 15)) (number-decimal (code_of s) (wide (code_of s) 16 (code-small s) (omega arith)))
    ∙ ap global_with (capped (code_of s) (code-small s)) ∙ global_with-code_of s

pub branch_status_piece : (s : BranchStatus) → IsPiece (decimal (branch_code_of s))
branch_status_piece s = decimal_piece (branch_code_of s) (wide (branch_code_of s) 11 (branch_code-small s) (omega arith))

pub branch_status-back : (s : BranchStatus) → branch_status_of (decimal (branch_code_of s)) ≡ s
branch_status-back s =
    ap (λ n. branch_with (min n 10)) (number-decimal (branch_code_of s) (wide (branch_code_of s) 11 (branch_code-small s) (omega arith)))
    ∙ ap branch_with (branch_capped (branch_code_of s) (branch_code-small s)) ∙ branch_with-code_of s

pub kind_piece : (k : BranchKind) → IsPiece (kind_text k)
kind_piece kind.At = word (codes "AT") refl refl
kind_piece kind.Tcc = word (codes "TCC") refl refl

pub kind-back : (k : BranchKind) → kind_of (kind_text k) ≡ k
kind-back kind.At = refl
kind-back kind.Tcc = refl

pub decision_piece : (d : Decision) → IsPiece (decision_text d)
decision_piece how.Commit = word (codes "commit") refl refl
decision_piece how.Rollback = word (codes "rollback") refl refl
decision_piece how.Timeout = word (codes "timeout") refl refl

pub decision-back : (d : Decision) → decision_of (decision_text d) ≡ d
decision-back how.Commit = refl
decision-back how.Rollback = refl
decision-back how.Timeout = refl

pub holding_piece : (rolling : Bool) → IsPiece (holding_text rolling)
holding_piece true = word (codes "rolling") refl refl
holding_piece false = word (codes "held") refl refl

pub holding-back : (rolling : Bool) → rolling_of (holding_text rolling) ≡ rolling
holding-back true = refl
holding-back false = refl
