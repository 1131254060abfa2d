-- For the proofs alone: answers by what was looked up.
use Rattle.std.specs.Prelude.{ℕ, Bool, true, false, if◌then◌else◌, Option, Some, None}
use Rattle.seata_types.specs.declared.acts.Act.TheVariants as act
use Rattle.seata_types.specs.declared.acts.Durable.TheVariants as durable
use Rattle.seata_types.specs.declared.ids.Leg.{Leg}
use Rattle.seata_types.specs.declared.ids.Xid.{Xid}
use Rattle.seata_types.specs.declared.statuses.BranchStatus.{BranchStatus}
use Rattle.seata_types.specs.declared.statuses.BranchStatus.TheVariants as branch
use Rattle.seata_types.specs.declared.statuses.Decision.TheVariants as how
use Rattle.durable_records.specs.declared.coordinators.SessionRecord.TheVariants as log
use Rattle.durable_records.specs.Progress.{has_retrying}
use Rattle.history_rules.specs.Own.{still}
use Rattle.session_log.specs.declared.sessions.Snapshot.{Snapshot}
use Rattle.session_memory.specs.Changes.{may_come, finished_status}
use Rattle.session_memory.specs.Lookups.{session_in, status_in}
use Rattle.coordinator_rules.specs.Answers.{answer, later}
use Rattle.coordinator_rules.specs.Choices.{question_in}
use Rattle.coordinator_rules.specs.Steps.{asked_step}
use Rattle.coordinator_rules.specs.declared.answers.Answer.{Answer}
use Rattle.coordinator_rules.specs.declared.questions.Question.{Question}

-- ---- branches

-- a branch is ended; it failed for good
abbrev pub ended : Leg → Answer
ended leg = answer (Some (log.Ended leg.xid leg.branch)) (still (act.Durable (durable.Ended leg.xid leg.branch)))

abbrev pub failed : Leg → (stmt : ℕ) → Answer
failed leg stmt = answer (Some (log.Failed leg.xid leg.branch stmt)) (still (act.Durable (durable.Failed leg.xid leg.branch stmt)))

-- it is to be asked again, by whether this changes its transaction's status
abbrev pub retried : Leg → (changes : Bool) → Answer
retried leg true = answer (Some (log.Retrying leg.xid)) (still (act.Durable (durable.Retrying leg.xid leg.branch)))
retried leg false = later leg.xid (still (act.Retry leg.xid leg.branch))

-- by the status of an unended branch
abbrev pub end : Snapshot → Leg → BranchStatus → (stmt : ℕ) → Answer
end s leg branch.PhaseTwoCommitted stmt = ended leg
end s leg branch.PhaseTwoRollbacked stmt = ended leg
end s leg branch.PhaseTwoCommitFailedRetryable stmt = retried leg (has_retrying (status_in s leg.xid.0))
end s leg branch.PhaseTwoRollbackFailedRetryable stmt = retried leg (has_retrying (status_in s leg.xid.0))
end s leg branch.PhaseTwoCommitFailedUnretryable stmt = failed leg stmt
end s leg branch.PhaseTwoRollbackFailedUnretryable stmt = failed leg stmt
end s leg _ stmt = answer None (still act.Ignored)

-- ---- turns

-- nothing is done
abbrev pub nothing : Answer
nothing = answer None (still act.Nothing)

-- the timeout of a transaction is decided, and one that is finished is forgotten
abbrev pub timed_out : Snapshot → Xid → Answer
timed_out s xid =
    if may_come s (log.Decided xid how.Timeout) then answer (Some (log.Decided xid how.Timeout)) (still (act.Durable (durable.Decided xid how.Timeout))) else nothing

abbrev pub forgotten : Snapshot → Xid → Answer
forgotten s xid = if may_come s (log.Forgot xid) then answer (Some (log.Forgot xid)) (still (act.Durable (durable.Forgot xid))) else nothing

-- a branch is asked
abbrev pub asked : Xid → Option Question → Answer
asked xid None = nothing
asked xid (Some q) = later xid (asked_step xid q)

-- a due transaction is finished, or its next branch is asked
abbrev pub due : Snapshot → Xid → Answer
due s xid =
    if may_come s (log.Finished xid) then answer (Some (log.Finished xid)) (still (act.Durable (durable.Finished xid (finished_status (status_in s xid.0))))) else asked xid (question_in (session_in s xid.0))

-- a turn takes a late transaction, else one that is due, else an old one
abbrev pub turn : Snapshot → (late first old : Option Xid) → Answer
turn s (Some x) first old = timed_out s x
turn s None (Some x) old = due s x
turn s None None (Some x) = forgotten s x
turn s None None None = nothing
