-- What a memory says of the records, as it is used here.
use Rattle.std.proofs.Common.{◌≡◌, ◌&&◌, ℕ, Bool, true, false, if◌then◌else◌, List, Option, Some, None, is_some, refl}
use Rattle.seata_types.specs.declared.statuses.Decision.{Decision}
use Rattle.seata_types.specs.declared.statuses.Decision.TheVariants as how
use Rattle.seata_types.specs.declared.statuses.GlobalStatus.TheVariants as status
use Rattle.durable_records.specs.declared.coordinators.SessionRecord.{SessionRecord}
use Rattle.durable_records.specs.Transactions.{decided}
use Rattle.durable_records.specs.Branches.{branches, all_at}
use Rattle.durable_records.specs.Progress.{Progress, Goes, Retries, IsFailed, IsDone, progress, status_by, is_known, is_on, is_going as goes, has_retrying, may_retry}
pub use Rattle.session_memory.specs.Laws.{TellsTransaction, TellsBranches, AnswersAlike, began_as, leg_of_grant, held_row}
pub use Rattle.session_memory.proofs.LookupLaws.{answers_alike, may_alike}
use Rattle.session_memory.proofs.Small.{false_true}

-- ---- statuses

-- a transaction whose status becomes a Retrying one is in its second phase
retrying_goes : (known at : Bool) (d : Option Decision) (far : Progress) → has_retrying (if known then status_by at d far else status.Finished) ≡ true → (known && (is_some d && is_on far)) ≡ true
retrying_goes false at d far e = false_true e
retrying_goes true at None far e = false_true e
retrying_goes true at (Some d) Goes e = refl
retrying_goes true at (Some d) Retries e = refl
retrying_goes true at (Some how.Commit) IsFailed e = false_true e
retrying_goes true at (Some how.Rollback) IsFailed e = false_true e
retrying_goes true at (Some how.Timeout) IsFailed e = false_true e
retrying_goes true at (Some how.Commit) IsDone e = false_true e
retrying_goes true at (Some how.Rollback) IsDone e = false_true e
retrying_goes true at (Some how.Timeout) IsDone e = false_true e

pub retry_going : (rs : List SessionRecord) (x : ℕ) → may_retry rs x ≡ true → goes rs x ≡ true
retry_going rs x e = retrying_goes (is_known rs x) (all_at (branches rs x)) (decided rs x) (progress rs x) e
