-- The codes of the statuses: which a byte is.
use Rattle.std.proofs.Common.{◌≡◌, ℕ, ◌<◌, Some, None, List, Ok, Err, refl, arith}
use Rattle.std.specs.Prelude.{map}
use Rattle.std.specs.Int.{w8}
use Rattle.std.proofs.lemmas.Bool.{ne_eqb}
use Rattle.seata_types.specs.declared.statuses.GlobalStatus.{GlobalStatus}
use Rattle.seata_types.specs.declared.statuses.GlobalStatus.TheVariants as global
use Rattle.seata_types.specs.declared.statuses.BranchStatus.{BranchStatus}
use Rattle.seata_types.specs.declared.statuses.BranchStatus.TheVariants as branch
use Rattle.seata_types.specs.Statuses.{code_of, branch_code_of}
use Rattle.byte_fields.specs.declared.errors.FieldError.TheVariants as errors
use Rattle.byte_fields.specs.Reading.{Position, Reader, gives, number_at}
use Rattle.byte_fields.specs.Tags.{look_up, tagged}
use Rattle.byte_fields.specs.Parts.{statuses, branch_statuses}

-- each value of a list behind its code
abbrev pub by_code : {X : Type 0} → (X → ℕ) → List X → List (ℕ × Reader X)
by_code code all = map (λ x. (code x, gives x)) all

pub tagged_found : {X : Type 0} (table : List (ℕ × Reader X)) (tag : ℕ) (x : X) (place after : Position) → number_at w8 place ≡ Ok (tag, after) → look_up tag table ≡ Some (gives x) → tagged table place ≡ Ok (x, after)
unfolding tagged
tagged_found table tag x place after read found = rw (read, found) refl

pub tagged_missed : {X : Type 0} (table : List (ℕ × Reader X)) (tag : ℕ) (place after : Position) → number_at w8 place ≡ Ok (tag, after) → look_up tag table ≡ None → tagged table place ≡ Err (errors.BadTag place.at)
unfolding tagged
tagged_missed table tag place after read missed = rw (read, missed) refl

pub status_found : (s : GlobalStatus) → look_up (code_of s) (by_code code_of statuses) ≡ Some (gives s)
status_found global.UnKnown = refl
status_found global.Begin = refl
status_found global.Committing = refl
status_found global.CommitRetrying = refl
status_found global.Rollbacking = refl
status_found global.RollbackRetrying = refl
status_found global.TimeoutRollbacking = refl
status_found global.TimeoutRollbackRetrying = refl
status_found global.AsyncCommitting = refl
status_found global.Committed = refl
status_found global.CommitFailed = refl
status_found global.Rollbacked = refl
status_found global.RollbackFailed = refl
status_found global.TimeoutRollbacked = refl
status_found global.TimeoutRollbackFailed = refl
status_found global.Finished = refl

pub status_missed : (n : ℕ) → 15 < n → look_up n (by_code code_of statuses) ≡ None
status_missed n above = rw (
  ne_eqb n 0 (λ e. omega arith),
  ne_eqb n 1 (λ e. omega arith),
  ne_eqb n 2 (λ e. omega arith),
  ne_eqb n 3 (λ e. omega arith),
  ne_eqb n 4 (λ e. omega arith),
  ne_eqb n 5 (λ e. omega arith),
  ne_eqb n 6 (λ e. omega arith),
  ne_eqb n 7 (λ e. omega arith),
  ne_eqb n 8 (λ e. omega arith),
  ne_eqb n 9 (λ e. omega arith),
  ne_eqb n 10 (λ e. omega arith),
  ne_eqb n 11 (λ e. omega arith),
  ne_eqb n 12 (λ e. omega arith),
  ne_eqb n 13 (λ e. omega arith),
  ne_eqb n 14 (λ e. omega arith),
  ne_eqb n 15 (λ e. omega arith),
) refl

pub branch_status_found : (s : BranchStatus) → look_up (branch_code_of s) (by_code branch_code_of branch_statuses) ≡ Some (gives s)
branch_status_found branch.Unknown = refl
branch_status_found branch.Registered = refl
branch_status_found branch.PhaseOneDone = refl
branch_status_found branch.PhaseOneFailed = refl
branch_status_found branch.PhaseOneTimeout = refl
branch_status_found branch.PhaseTwoCommitted = refl
branch_status_found branch.PhaseTwoCommitFailedRetryable = refl
branch_status_found branch.PhaseTwoCommitFailedUnretryable = refl
branch_status_found branch.PhaseTwoRollbacked = refl
branch_status_found branch.PhaseTwoRollbackFailedRetryable = refl
branch_status_found branch.PhaseTwoRollbackFailedUnretryable = refl

pub branch_status_missed : (n : ℕ) → 10 < n → look_up n (by_code branch_code_of branch_statuses) ≡ None
branch_status_missed n above = rw (
  ne_eqb n 0 (λ e. omega arith),
  ne_eqb n 1 (λ e. omega arith),
  ne_eqb n 2 (λ e. omega arith),
  ne_eqb n 3 (λ e. omega arith),
  ne_eqb n 4 (λ e. omega arith),
  ne_eqb n 5 (λ e. omega arith),
  ne_eqb n 6 (λ e. omega arith),
  ne_eqb n 7 (λ e. omega arith),
  ne_eqb n 8 (λ e. omega arith),
  ne_eqb n 9 (λ e. omega arith),
  ne_eqb n 10 (λ e. omega arith),
) refl
