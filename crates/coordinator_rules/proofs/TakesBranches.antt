-- The answers to branches are those of the rules.
use Rattle.std.proofs.Common.{◌≡◌, ◌&&◌, ◌<◌, ◌^◌, not, ℕ, Bool, true, false, if◌then◌else◌, List, None, is_some, refl, sym, ap, ◌∙◌}
use Rattle.seata_types.specs.declared.acts.Act.TheVariants as act
use Rattle.seata_types.specs.declared.acts.Durable.TheVariants as durable
use Rattle.seata_types.specs.declared.ids.Leg.{Leg}
use Rattle.seata_types.specs.declared.ids.Place.{Place}
use Rattle.seata_types.specs.declared.messages.Input.{Input}
use Rattle.seata_types.specs.declared.messages.Input.TheVariants as input
use Rattle.seata_types.specs.declared.messages.Message.TheVariants as message
use Rattle.seata_types.specs.declared.statuses.BranchStatus.{BranchStatus}
use Rattle.seata_types.specs.declared.statuses.BranchStatus.TheVariants as branch
use Rattle.durable_records.specs.declared.coordinators.SessionRecord.{SessionRecord}
use Rattle.durable_records.specs.declared.coordinators.SessionRecord.TheVariants as log
use Rattle.durable_records.specs.Transactions.{decided, is_commit, is_rollback}
use Rattle.durable_records.specs.Branches.{unended_branch}
use Rattle.durable_records.specs.Progress.{has_retrying, is_known, is_on, progress, is_going as goes, may_retry}
use Rattle.history_rules.specs.Own.{still}
use Rattle.history_rules.specs.CoordinatorRules.{end_answer, retry_answer}
use Rattle.session_memory.specs.Changes.{is_begin, is_going, is_open}
use Rattle.session_memory.specs.Holding.{keeps_rows}
use Rattle.session_memory.specs.Lookups.{status_in}
use Rattle.session_memory.proofs.Small.{and_left, and_right}
use Rattle.session_memory.proofs.Lists.{and_false}
use Rattle.coordinator_rules.specs.declared.answers.Answer.{Answer}
use Rattle.coordinator_rules.specs.Answers.{Answers, answer}
use Rattle.coordinator_rules.specs.Knowledge.{Knowledge, times_in}
use Rattle.coordinator_rules.specs.Looked as looked
use Rattle.coordinator_rules.specs.Tracks.{Course, rule_answer, Follows, records}
use Rattle.coordinator_rules.proofs.AnswerLaws.{told, made, retried_later, still_sent}
use Rattle.coordinator_rules.proofs.Laws.{may_alike}
use Rattle.coordinator_rules.proofs.Takes.{alike, status_is}

-- ---- by the status of an unended branch

module _ (k : Knowledge) (now : ℕ) (in_time : now < 2 ^ 64) (leg : Leg) (opened : is_open k.memory leg.xid.0 leg.branch.0 ≡ true) (given : Input) where
  -- the transaction is in its second phase
  goes_here : (owns : Course) → Follows k owns → goes (records owns) leg.xid.0 ≡ true
  goes_here owns s =
      sym ((alike k owns s).transaction leg.xid.0).going ∙ ap (λ m. is_going (status_in m leg.xid.0)) (sym s.tracks.known)
      ∙ and_left (is_going (status_in k.memory leg.xid.0)) _ opened

  -- the rule's answer goes by this status
  abbrev GoesBy : BranchStatus → ℕ → Type 0
  GoesBy st stmt = (owns : Course) → Follows k owns → rule_answer (times_in k) owns now given ≡ end_answer (records owns) leg.xid leg.branch st stmt

  ends : ((owns : Course) → Follows k owns → rule_answer (times_in k) owns now given ≡ still (act.Durable (durable.Ended leg.xid leg.branch)))
      → (a : Answer) → a ≡ looked.ended leg → Answers k given now a
  ends rule =
      made k given now (log.Ended leg.xid leg.branch) (durable.Ended leg.xid leg.branch) None in_time opened refl (λ x before. refl) (λ x before. refl) (λ owns s. sym (rule owns s))
      (still_sent given (act.Durable (durable.Ended leg.xid leg.branch)) (λ resources. tt))

  fails : (stmt : ℕ) → ((owns : Course) → Follows k owns → rule_answer (times_in k) owns now given ≡ still (act.Durable (durable.Failed leg.xid leg.branch stmt)))
      → (a : Answer) → a ≡ looked.failed leg stmt → Answers k given now a
  fails stmt rule =
      made k given now (log.Failed leg.xid leg.branch stmt) (durable.Failed leg.xid leg.branch stmt) None in_time opened refl (λ x before. refl) (λ x before. refl) (λ owns s. sym (rule owns s))
      (still_sent given (act.Durable (durable.Failed leg.xid leg.branch stmt)) (λ resources. tt))

  retries : ((owns : Course) → Follows k owns → rule_answer (times_in k) owns now given ≡ retry_answer (records owns) leg.xid leg.branch (may_retry (records owns) leg.xid.0))
      → (b : Bool) → has_retrying (status_in k.memory leg.xid.0) ≡ b → (a : Answer) → a ≡ looked.retried leg b → Answers k given now a
  retries rule true changes =
      made k given now (log.Retrying leg.xid) (durable.Retrying leg.xid leg.branch) None in_time changes refl (λ x before. refl) (λ x before. refl)
      (λ owns s. ap (retry_answer (records owns) leg.xid leg.branch) (sym changes ∙ ap has_retrying (status_is k owns s leg.xid.0)) ∙ sym (rule owns s))
      (still_sent given (act.Durable (durable.Retrying leg.xid leg.branch)) (λ resources. tt))
  retries rule false changes =
      retried_later k given now leg.xid leg.branch None in_time goes_here
      (λ owns s. ap (retry_answer (records owns) leg.xid leg.branch) (sym changes ∙ ap has_retrying (status_is k owns s leg.xid.0)) ∙ sym (rule owns s))
      (still_sent given (act.Retry leg.xid leg.branch) (λ resources. tt))

  ignores : ((owns : Course) → Follows k owns → rule_answer (times_in k) owns now given ≡ still act.Ignored) → (a : Answer) → a ≡ answer None (still act.Ignored) → Answers k given now a
  ignores rule = told k given now act.Ignored None refl (λ owns s. sym (rule owns s)) (still_sent given act.Ignored (λ resources. tt))

  ends_by : (st : BranchStatus) (stmt : ℕ) → GoesBy st stmt → (a : Answer) → a ≡ looked.end k.memory leg st stmt → Answers k given now a
  ends_by branch.PhaseTwoCommitted stmt rule = ends rule
  ends_by branch.PhaseTwoRollbacked stmt rule = ends rule
  ends_by branch.PhaseTwoCommitFailedRetryable stmt rule = retries rule (has_retrying (status_in k.memory leg.xid.0)) refl
  ends_by branch.PhaseTwoRollbackFailedRetryable stmt rule = retries rule (has_retrying (status_in k.memory leg.xid.0)) refl
  ends_by branch.PhaseTwoCommitFailedUnretryable stmt rule = fails stmt rule
  ends_by branch.PhaseTwoRollbackFailedUnretryable stmt rule = fails stmt rule
  ends_by _ stmt rule = ignores rule

-- ---- answers of branches

module _ (t : Knowledge) (owns : Course) (s : Follows t owns) (x b : ℕ) where
  -- an answer of the decided kind counts, for an unended branch of a transaction in its second phase
  abbrev pub counts : Bool
  counts = goes (records owns) x && is_some (unended_branch (records owns) x b)

  open_is : is_open t.memory x b ≡ counts
  open_is = ap (λ m. is_open m x b) s.tracks.known ∙ may_alike (records owns) s.tracks.allowed (log.Ended (record { 0 = x }) (record { 0 = b }))

  both_by : (c d e : Bool) → (e ≡ true → c ≡ d) → (c && e) ≡ (d && e)
  both_by c d true h = ap (λ k. k && true) (h refl)
  both_by c d false h = and_false c false refl ∙ sym (and_false d false refl)

  here : counts ≡ true → is_known (records owns) x ≡ true
  here e = and_left (is_known (records owns) x) (is_some (decided (records owns) x) && is_on (progress (records owns) x)) (and_left (goes (records owns) x) (is_some (unended_branch (records owns) x b)) e)

  pub counts_commit : (not (keeps_rows (status_in t.memory x)) && is_open t.memory x b) ≡ (is_commit (decided (records owns) x) && counts)
  counts_commit =
      ap (λ k. not (keeps_rows (status_in t.memory x)) && k) open_is
      ∙ both_by (not (keeps_rows (status_in t.memory x))) (is_commit (decided (records owns) x)) counts
      (λ e. ap (λ m. not (keeps_rows (status_in m x))) s.tracks.known ∙ ((alike t owns s).branches x (here e)).commit)

  pub counts_rollback : ((keeps_rows (status_in t.memory x) && not (is_begin (status_in t.memory x))) && is_open t.memory x b) ≡ (is_rollback (decided (records owns) x) && counts)
  counts_rollback =
      ap (λ k. (keeps_rows (status_in t.memory x) && not (is_begin (status_in t.memory x))) && k) open_is
      ∙ both_by (keeps_rows (status_in t.memory x) && not (is_begin (status_in t.memory x))) (is_rollback (decided (records owns) x)) counts
      (λ e. ap (λ m. keeps_rows (status_in m x) && not (is_begin (status_in m x))) s.tracks.known ∙ ((alike t owns s).branches x (here e)).rollback)

module _ (k : Knowledge) (now : ℕ) (from : Place) (leg : Leg) (st : BranchStatus) (stmt : ℕ) where
  abbrev committed : Input
  committed = input.Message from (message.BranchCommitted leg.xid leg.branch st stmt)

  abbrev rollbacked : Input
  rollbacked = input.Message from (message.BranchRollbacked leg.xid leg.branch st stmt)

  abbrev commit_counts : Bool
  commit_counts = not (keeps_rows (status_in k.memory leg.xid.0)) && is_open k.memory leg.xid.0 leg.branch.0

  abbrev rollback_counts : Bool
  rollback_counts = (keeps_rows (status_in k.memory leg.xid.0) && not (is_begin (status_in k.memory leg.xid.0))) && is_open k.memory leg.xid.0 leg.branch.0

  by_rule : (rs : List SessionRecord) (c d b : Bool) → c ≡ d → c ≡ b → (if d then end_answer rs leg.xid leg.branch st stmt else still act.Ignored) ≡ (if b then end_answer rs leg.xid leg.branch st stmt else still act.Ignored)
  by_rule rs c d b e is = ap (λ z. if z then end_answer rs leg.xid leg.branch st stmt else still act.Ignored) (sym e ∙ is)

  commit_rule : (b : Bool) → commit_counts ≡ b → (owns : Course) → Follows k owns → rule_answer (times_in k) owns now committed ≡ (if b then end_answer (records owns) leg.xid leg.branch st stmt else still act.Ignored)
  commit_rule b is owns s =
      by_rule (records owns) commit_counts (is_commit (decided (records owns) leg.xid.0) && counts k owns s leg.xid.0 leg.branch.0) b (counts_commit k owns s leg.xid.0 leg.branch.0) is

  rollback_rule : (b : Bool) → rollback_counts ≡ b → (owns : Course) → Follows k owns → rule_answer (times_in k) owns now rollbacked ≡ (if b then end_answer (records owns) leg.xid leg.branch st stmt else still act.Ignored)
  rollback_rule b is owns s =
      by_rule (records owns) rollback_counts (is_rollback (decided (records owns) leg.xid.0) && counts k owns s leg.xid.0 leg.branch.0) b (counts_rollback k owns s leg.xid.0 leg.branch.0) is

  pub commit_ignored : commit_counts ≡ false → (a : Answer) → a ≡ answer None (still act.Ignored) → Answers k committed now a
  commit_ignored is = told k committed now act.Ignored None refl (λ owns s. sym (commit_rule false is owns s)) (still_sent committed act.Ignored (λ resources. tt))

  pub commit_counted : now < 2 ^ 64 → commit_counts ≡ true → (a : Answer) → a ≡ looked.end k.memory leg st stmt → Answers k committed now a
  commit_counted in_time is = ends_by k now in_time leg (and_right (not (keeps_rows (status_in k.memory leg.xid.0))) _ is) committed st stmt (commit_rule true is)

  pub rollback_ignored : rollback_counts ≡ false → (a : Answer) → a ≡ answer None (still act.Ignored) → Answers k rollbacked now a
  rollback_ignored is = told k rollbacked now act.Ignored None refl (λ owns s. sym (rollback_rule false is owns s)) (still_sent rollbacked act.Ignored (λ resources. tt))

  pub rollback_counted : now < 2 ^ 64 → rollback_counts ≡ true → (a : Answer) → a ≡ looked.end k.memory leg st stmt → Answers k rollbacked now a
  rollback_counted in_time is =
      ends_by k now in_time leg (and_right (keeps_rows (status_in k.memory leg.xid.0) && not (is_begin (status_in k.memory leg.xid.0))) _ is) rollbacked st stmt (rollback_rule true is)
