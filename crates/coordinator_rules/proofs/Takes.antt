-- The answers to managers are those of the rules.
use Rattle.std.proofs.Common.{◌≡◌, ◌==◌, ◌&&◌, ◌<◌, ◌+◌, ◌^◌, ℕ, Bool, true, false, if◌then◌else◌, List, Option, Some, None, option_map, is_none, is_some, refl, sym, ap, ◌∙◌}
use Rattle.std.specs.List.{list_all}
use Rattle.seata_types.specs.declared.acts.Act.{Act}
use Rattle.seata_types.specs.declared.acts.Act.TheVariants as act
use Rattle.seata_types.specs.declared.acts.Durable.TheVariants as durable
use Rattle.seata_types.specs.declared.ids.Xid.{Xid}
use Rattle.seata_types.specs.declared.ids.Place.{Place}
use Rattle.seata_types.specs.declared.ids.Place.TheVariants as place
use Rattle.seata_types.specs.declared.messages.Input.{Input}
use Rattle.seata_types.specs.declared.messages.Input.TheVariants as input
use Rattle.seata_types.specs.declared.messages.Message.TheVariants as message
use Rattle.seata_types.specs.declared.messages.Step.{Step}
use Rattle.seata_types.specs.declared.statuses.Decision.{Decision}
use Rattle.seata_types.specs.declared.statuses.Decision.TheVariants as how
use Rattle.seata_types.specs.declared.statuses.GlobalStatus.{GlobalStatus}
use Rattle.seata_types.specs.declared.statuses.GlobalStatus.TheVariants as status
use Rattle.durable_records.specs.declared.coordinators.SessionRecord.{SessionRecord}
use Rattle.durable_records.specs.declared.coordinators.SessionRecord.TheVariants as log
use Rattle.durable_records.specs.Transactions.{Session as Began, session, session_for, decided, next_xid}
use Rattle.durable_records.specs.Branches.{branches, all_at}
use Rattle.durable_records.specs.Progress.{Progress, Goes, Retries, IsFailed, IsDone, progress, status_by, status_of, is_known, is_on, may_decide, is_going as goes}
use Rattle.history_rules.specs.Own.{sends}
use Rattle.history_rules.specs.CoordinatorMemory.{is_past}
use Rattle.history_rules.specs.CoordinatorRules.{begin_answer, commit_answer, commit_decides, rollback_answer, decided_status}
use Rattle.session_log.specs.declared.sessions.Snapshot.{Snapshot}
use Rattle.session_log.specs.SnapshotOf.{session_now}
use Rattle.session_log.specs.Soundness.{is_at_branch}
use Rattle.session_memory.specs.Changes.{may_come, is_begin, finished_status, decided_status as status_decided}
use Rattle.session_memory.specs.Lookups.{status_in, session_in, branches_in, xid_for}
use Rattle.session_memory.proofs.Small.{false_true, true_false, none_some, and_left, and_both, nat_same}
use Rattle.coordinator_rules.specs.declared.answers.Answer.{Answer}
use Rattle.coordinator_rules.specs.Answers.{Answers, IsSentBy, answer}
use Rattle.coordinator_rules.specs.Choices.{has_passed_in}
use Rattle.coordinator_rules.specs.Knowledge.{Knowledge}
use Rattle.coordinator_rules.specs.Naming.{ActNames}
use Rattle.coordinator_rules.specs.Tracks.{Course, Follows, records}
use Rattle.coordinator_rules.proofs.AnswerLaws.{told, made}
use Rattle.coordinator_rules.proofs.Laws.{AnswersAlike, answers_alike, began_as}

-- ---- statuses

decided_by : (d : Decision) (at : Bool) → status_decided d at ≡ status_by at (Some d) Goes
decided_by how.Commit true = refl
decided_by how.Commit false = refl
decided_by how.Rollback at = refl
decided_by how.Timeout at = refl

finished_by : (k at : Bool) (o : Option Decision) (far : Progress) → (k && (is_some o && is_on far)) ≡ true → finished_status (if k then status_by at o far else status.Finished) ≡ status_by at o IsDone
finished_by false at o far e = false_true e
finished_by true at None far e = false_true e
finished_by true true (Some how.Commit) Goes e = refl
finished_by true false (Some how.Commit) Goes e = refl
finished_by true true (Some how.Commit) Retries e = refl
finished_by true false (Some how.Commit) Retries e = refl
finished_by true at (Some how.Rollback) Goes e = refl
finished_by true at (Some how.Rollback) Retries e = refl
finished_by true at (Some how.Timeout) Goes e = refl
finished_by true at (Some how.Timeout) Retries e = refl
finished_by true at (Some d) IsFailed e = false_true e
finished_by true at (Some d) IsDone e = false_true e

-- ---- what is known

module _ (t : Knowledge) (owns : Course) (s : Follows t owns) where
  abbrev pub stood : List SessionRecord
  stood = records owns

  pub alike : AnswersAlike stood
  alike = answers_alike stood s.tracks.allowed

  pub status_is : (x : ℕ) → status_in t.memory x ≡ status_of stood x
  status_is x = ap (λ m. status_in m x) s.tracks.known ∙ (alike.transaction x).status

  pub known_may : (x : ℕ) → may_decide stood x ≡ true → is_known stood x ≡ true
  known_may x m = and_left (is_known stood x) (is_none (decided stood x)) m

  passed_by : (now : ℕ) (o : Option Began) → has_passed_in (option_map (session_now stood) o) now ≡ is_past o now
  passed_by now None = refl
  passed_by now (Some b) = refl

  -- whether the timeout of a known transaction is over
  pub passed_is : (now x : ℕ) → is_known stood x ≡ true → has_passed_in (session_in t.memory x) now ≡ is_past (session stood x) now
  passed_is now x k =
      ap (λ m. has_passed_in (session_in m x) now) s.tracks.known
      ∙ ap (λ o. has_passed_in o now) ((alike.transaction x).session ∙ ap (λ b. if b then option_map (session_now stood) (session stood x) else None) k)
      ∙ passed_by now (session stood x)

  -- whether a transaction can be decided
  pub begins_is : (x : ℕ) → is_begin (status_in t.memory x) ≡ may_decide stood x
  begins_is x = ap (λ m. is_begin (status_in m x)) s.tracks.known ∙ (alike.transaction x).undecided

  -- the status that a decision leaves, and the end
  pub decided_is : (x : ℕ) (d : Decision) → is_known stood x ≡ true → status_decided d (list_all is_at_branch (branches_in t.memory x)) ≡ decided_status stood x d
  decided_is x d k = ap (λ m. status_decided d (list_all is_at_branch (branches_in m x))) s.tracks.known ∙ ap (status_decided d) (alike.branches x k).at ∙ decided_by d (all_at (branches stood x))

  pub finished_is : (x : ℕ) → goes stood x ≡ true → finished_status (status_in t.memory x) ≡ status_by (all_at (branches stood x)) (decided stood x) IsDone
  finished_is x g = ap finished_status (status_is x) ∙ finished_by (is_known stood x) (all_at (branches stood x)) (decided stood x) (progress stood x) g

-- ---- begin

known_by : (rs : List SessionRecord) (manager : ℕ) (xid : Xid) (o : Option Began) → option_map began_as o ≡ Some xid
    → sends (act.Known xid) (place.Man manager) (message.Begun xid) ≡ begin_answer rs manager o
known_by rs manager xid None e = none_some e
known_by rs manager xid (Some b) e = let same : began_as b ≡ xid = cc in ap (λ x. sends (act.Known x) (place.Man manager) (message.Begun x)) (sym same)

unknown_by : (o : Option Began) → is_none (option_map began_as o) ≡ true → o ≡ None
unknown_by None e = refl
unknown_by (Some b) e = false_true e

same_xid : (x y : Xid) → x.0 ≡ y.0 → x ≡ y
same_xid x y e = λ i. record { 0 = e i }

module _ (k : Knowledge) (now : ℕ) (from : Place) (manager timeout : ℕ) where
  abbrev begins : Input
  begins = input.Message from (message.Begin manager timeout)

  abbrev begun : Act → Xid → Step
  begun done xid = sends done (place.Man manager) (message.Begun xid)

  pub knows_it : (xid : Xid) → xid_for k.memory manager ≡ Some xid → IsSentBy begins (begun (act.Known xid) xid) → (a : Answer) → a ≡ answer None (begun (act.Known xid) xid) → Answers k begins now a
  knows_it xid there out =
      told k begins now (act.Known xid) (begun (act.Known xid) xid).sent refl
      (λ owns s. known_by (records owns) manager xid (session_for (records owns) manager) (sym ((alike k owns s).manager manager) ∙ ap (λ m. xid_for m manager) (sym s.tracks.known) ∙ there)) out

  module _ (xid : Xid) (none : xid_for k.memory manager ≡ None) (number : xid.0 ≡ k.memory.begun + 1) where
    abbrev item : SessionRecord
    item = log.Begun xid manager now timeout

    begun_by : (owns : Course) → Follows k owns → begun (act.Durable (durable.Begun xid)) xid ≡ begin_answer (records owns) manager (session_for (records owns) manager)
    begun_by owns s =
        let next : xid ≡ record { 0 = next_xid (records owns) } = same_xid xid (record { 0 = next_xid (records owns) }) (number ∙ ap (λ (m : Snapshot). m.begun + 1) s.tracks.known ∙ (alike k owns s).next_xid) in
        let unknown : session_for (records owns) manager ≡ None = unknown_by (session_for (records owns) manager) (ap is_none (sym ((alike k owns s).manager manager) ∙ ap (λ m. xid_for m manager) (sym s.tracks.known) ∙ none)) in
        ap (λ x. begun (act.Durable (durable.Begun x)) x) next ∙ ap (begin_answer (records owns) manager) (sym unknown)

    may_begin : may_come k.memory item ≡ true
    may_begin = and_both (xid.0 == k.memory.begun + 1) (is_none (xid_for k.memory manager)) (nat_same xid.0 (k.memory.begun + 1) number) (ap is_none none)

    pub begins_it : now < 2 ^ 64 → IsSentBy begins (begun (act.Durable (durable.Begun xid)) xid) → (a : Answer) → a ≡ answer (Some item) (begun (act.Durable (durable.Begun xid)) xid) → Answers k begins now a
    begins_it in_time out =
        made k begins now item (durable.Begun xid) (begun (act.Durable (durable.Begun xid)) xid).sent in_time may_begin refl (λ x before. refl) (λ x before. refl) begun_by out

-- ---- commit and rollback

commit_rule : (rs : List SessionRecord) (from : Place) (xid : Xid) (may past : Bool) (d : Decision) → may ≡ true → d ≡ (if past then how.Timeout else how.Commit)
    → commit_decides rs from xid d ≡ commit_answer rs from xid may past
commit_rule rs from xid false past d e is = false_true e
commit_rule rs from xid true true d e is = ap (commit_decides rs from xid) is
commit_rule rs from xid true false d e is = ap (commit_decides rs from xid) is

commit_told : (rs : List SessionRecord) (from : Place) (xid : Xid) (may past : Bool) → may ≡ false
    → sends (act.Told xid (status_of rs xid.0)) from (message.CommitStatus xid (status_of rs xid.0)) ≡ commit_answer rs from xid may past
commit_told rs from xid false past e = refl
commit_told rs from xid true past e = true_false e

rollback_rule : (rs : List SessionRecord) (from : Place) (xid : Xid) (may : Bool) → may ≡ true
    → sends (act.Durable (durable.Decided xid how.Rollback)) from (message.RollbackStatus xid (decided_status rs xid.0 how.Rollback)) ≡ rollback_answer rs from xid may
rollback_rule rs from xid true e = refl
rollback_rule rs from xid false e = false_true e

rollback_told : (rs : List SessionRecord) (from : Place) (xid : Xid) (may : Bool) → may ≡ false
    → sends (act.Told xid (status_of rs xid.0)) from (message.RollbackStatus xid (status_of rs xid.0)) ≡ rollback_answer rs from xid may
rollback_told rs from xid false e = refl
rollback_told rs from xid true e = true_false e

module _ (k : Knowledge) (now : ℕ) (from : Place) (xid : Xid) (st : GlobalStatus) where
  abbrev commits : Input
  commits = input.Message from (message.GlobalCommit xid)

  abbrev rolls : Input
  rolls = input.Message from (message.GlobalRollback xid)

  abbrev asks : Input
  asks = input.Message from (message.GlobalStatus xid)

  -- the status goes to the one that asked
  commit_sent : (done : Act) → ((resources : ℕ) → ActNames resources done) → IsSentBy commits (sends done from (message.CommitStatus xid st))
  commit_sent done names = λ managers resources. record { framable = λ f. record { layout = f.layout; limits = tt }; named = λ n. record { act = names resources; sent = (n.0, tt) } }

  rollback_sent : (done : Act) → ((resources : ℕ) → ActNames resources done) → IsSentBy rolls (sends done from (message.RollbackStatus xid st))
  rollback_sent done names = λ managers resources. record { framable = λ f. record { layout = f.layout; limits = tt }; named = λ n. record { act = names resources; sent = (n.0, tt) } }

  status_sent : (done : Act) → ((resources : ℕ) → ActNames resources done) → IsSentBy asks (sends done from (message.StatusAnswer xid st))
  status_sent done names = λ managers resources. record { framable = λ f. record { layout = f.layout; limits = tt }; named = λ n. record { act = names resources; sent = (n.0, tt) } }

  -- of a status that is told
  module _ (is : st ≡ status_in k.memory xid.0) where
    told_as : (owns : Course) → Follows k owns → is_begin (status_in k.memory xid.0) ≡ false → may_decide (records owns) xid.0 ≡ false
    told_as owns s refused = sym (begins_is k owns s xid.0) ∙ refused

    pub commit_tells : is_begin (status_in k.memory xid.0) ≡ false
        → (a : Answer) → a ≡ answer None (sends (act.Told xid st) from (message.CommitStatus xid st)) → Answers k commits now a
    commit_tells refused =
        told k commits now (act.Told xid st) (Some (record { to = from; message = message.CommitStatus xid st })) refl
        (λ owns s. ap (λ z. sends (act.Told xid z) from (message.CommitStatus xid z)) (is ∙ status_is k owns s xid.0)
        ∙ commit_told (records owns) from xid (may_decide (records owns) xid.0) (is_past (session (records owns) xid.0) now) (told_as owns s refused)) (commit_sent (act.Told xid st) (λ resources. tt))

    pub rollback_tells : is_begin (status_in k.memory xid.0) ≡ false
        → (a : Answer) → a ≡ answer None (sends (act.Told xid st) from (message.RollbackStatus xid st)) → Answers k rolls now a
    rollback_tells refused =
        told k rolls now (act.Told xid st) (Some (record { to = from; message = message.RollbackStatus xid st })) refl
        (λ owns s. ap (λ z. sends (act.Told xid z) from (message.RollbackStatus xid z)) (is ∙ status_is k owns s xid.0)
        ∙ rollback_told (records owns) from xid (may_decide (records owns) xid.0) (told_as owns s refused)) (rollback_sent (act.Told xid st) (λ resources. tt))

    pub tells : (a : Answer) → a ≡ answer None (sends (act.Told xid st) from (message.StatusAnswer xid st)) → Answers k asks now a
    tells =
        told k asks now (act.Told xid st) (Some (record { to = from; message = message.StatusAnswer xid st })) refl
        (λ owns s. ap (λ z. sends (act.Told xid z) from (message.StatusAnswer xid z)) (is ∙ status_is k owns s xid.0)) (status_sent (act.Told xid st) (λ resources. tt))

  -- of one that a decision leaves
  module _ (d : Decision) (is : st ≡ status_decided d (list_all is_at_branch (branches_in k.memory xid.0))) (may : is_begin (status_in k.memory xid.0) ≡ true) (in_time : now < 2 ^ 64) where
    decides_as : (owns : Course) → Follows k owns → (may_decide (records owns) xid.0 ≡ true) × (st ≡ decided_status (records owns) xid.0 d)
    decides_as owns s =
        let m : may_decide (records owns) xid.0 ≡ true = sym (begins_is k owns s xid.0) ∙ may in
        (m, is ∙ decided_is k owns s xid.0 d (known_may k owns s xid.0 m))

    pub commit_decides_it : d ≡ (if has_passed_in (session_in k.memory xid.0) now then how.Timeout else how.Commit)
        → (a : Answer) → a ≡ answer (Some (log.Decided xid d)) (sends (act.Durable (durable.Decided xid d)) from (message.CommitStatus xid st)) → Answers k commits now a
    commit_decides_it by =
        made k commits now (log.Decided xid d) (durable.Decided xid d) (Some (record { to = from; message = message.CommitStatus xid st })) in_time may refl (λ x before. refl) (λ x before. refl)
        (λ owns s. let done = decides_as owns s in
        ap (λ z. sends (act.Durable (durable.Decided xid d)) from (message.CommitStatus xid z)) done.1
        ∙ commit_rule (records owns) from xid (may_decide (records owns) xid.0) (is_past (session (records owns) xid.0) now) d done.0
        (by ∙ ap (λ b. if b then how.Timeout else how.Commit) (passed_is k owns s now xid.0 (known_may k owns s xid.0 done.0)))) (commit_sent (act.Durable (durable.Decided xid d)) (λ resources. tt))

  pub rollback_decides_it : st ≡ status_decided how.Rollback (list_all is_at_branch (branches_in k.memory xid.0)) → is_begin (status_in k.memory xid.0) ≡ true → now < 2 ^ 64
      → (a : Answer) → a ≡ answer (Some (log.Decided xid how.Rollback)) (sends (act.Durable (durable.Decided xid how.Rollback)) from (message.RollbackStatus xid st)) → Answers k rolls now a
  rollback_decides_it is may in_time =
      made k rolls now (log.Decided xid how.Rollback) (durable.Decided xid how.Rollback) (Some (record { to = from; message = message.RollbackStatus xid st })) in_time may refl (λ x before. refl) (λ x before. refl)
      (λ owns s. let done = decides_as how.Rollback is may in_time owns s in
      ap (λ z. sends (act.Durable (durable.Decided xid how.Rollback)) from (message.RollbackStatus xid z)) done.1
      ∙ rollback_rule (records owns) from xid (may_decide (records owns) xid.0) done.0) (rollback_sent (act.Durable (durable.Decided xid how.Rollback)) (λ resources. tt))
