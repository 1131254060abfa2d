-- The answers to turns are those of the rules.
use Rattle.std.proofs.Common.{◌≡◌, ◌&&◌, ◌<◌, ◌+◌, ◌-◌, ◌^◌, ℕ, Bool, true, false, if◌then◌else◌, List, length, Option, Some, None, option_map, refl, sym, ap, subst, ◌∙◌}
use Rattle.std.specs.Prelude.{find, nat_lt, nat_le}
use Rattle.seata_types.specs.declared.acts.Act.TheVariants as act
use Rattle.seata_types.specs.declared.acts.Durable.TheVariants as durable
use Rattle.seata_types.specs.declared.ids.Xid.{Xid}
use Rattle.seata_types.specs.declared.messages.Input.TheVariants as input
use Rattle.seata_types.specs.declared.messages.Step.{Step}
use Rattle.seata_types.specs.declared.statuses.Decision.TheVariants as how
use Rattle.durable_records.specs.declared.coordinators.SessionRecord.{SessionRecord}
use Rattle.durable_records.specs.declared.coordinators.SessionRecord.TheVariants as log
use Rattle.durable_records.specs.Transactions.{sessions, session, decided, is_commit}
use Rattle.durable_records.specs.Branches.{Grant, unended}
use Rattle.durable_records.specs.Progress.{may_decide, is_going as goes, is_finished as is_over}
use Rattle.durable_records.specs.SessionOrder.{is_empty, may}
use Rattle.history_rules.specs.Own.{still}
use Rattle.history_rules.specs.CoordinatorMemory.{is_past, is_late, is_old, due_moment}
use Rattle.history_rules.specs.CoordinatorRules.{turn_answer, due_answer, old_answer, next_asked}
use Rattle.retry_turns.specs.Plans.{TellsDue}
use Rattle.session_log.specs.SnapshotOf.{snapshot_of}
use Rattle.session_memory.specs.Changes.{may_come, finished_status}
use Rattle.session_memory.specs.Lookups.{xid_of, session_in, status_in}
use Rattle.session_memory.proofs.Small.{false_true, none_some, and_left, and_right, and_both}
use Rattle.coordinator_rules.specs.declared.answers.Answer.{Answer}
use Rattle.coordinator_rules.specs.declared.questions.Question.{Question}
use Rattle.coordinator_rules.specs.Answers.{Answers, IsSentBy, answer, late_at, due_at, old_at}
use Rattle.coordinator_rules.specs.Choices.{is_late_entry, is_old_entry, question_in}
use Rattle.coordinator_rules.specs.Knowledge.{Knowledge, times_in}
use Rattle.coordinator_rules.specs.Looked as looked
use Rattle.coordinator_rules.specs.Steps.{asked_step}
use Rattle.coordinator_rules.specs.Tracks.{Course, rule_answer, due_on, rests_on, Follows, records}
use Rattle.coordinator_rules.proofs.AnswerLaws.{told, made, asked_later, still_sent}
use Rattle.coordinator_rules.proofs.Chosen.{late_alike, old_alike, due_first, due_none, question_none, question_some, left_none}
use Rattle.coordinator_rules.proofs.Firsts.{least_passes, soonest_is}
use Rattle.coordinator_rules.proofs.Kept.{may_by, may_is}
use Rattle.coordinator_rules.proofs.Takes.{alike, finished_is}
use Rattle.history_rules.specs.CoordinatorMemory.{Times}

-- the transaction that a turn of the rules takes
abbrev IsLate : Times → (now x : ℕ) → Course → Type 0
IsLate times now x owns = late_at times now owns ≡ Some x

abbrev IsFirst : Times → (now x : ℕ) → Course → Type 0
IsFirst times now x owns = (late_at times now owns ≡ None) × ((moment : ℕ) × (due_at times now owns ≡ Some (x, moment)))

abbrev IsOld : Times → (now x : ℕ) → Course → Type 0
IsOld times now x owns = (late_at times now owns ≡ None) × ((due_at times now owns ≡ None) × (old_at times now owns ≡ Some x))

-- what the rules take
module _ (t : Knowledge) (now : ℕ) (owns : Course) (s : Follows t owns) where
  abbrev stood : List SessionRecord
  stood = records owns

  late_rule : (x : ℕ) → IsLate (times_in t) now x owns → still (act.Durable (durable.Decided (record { 0 = x }) how.Timeout)) ≡ rule_answer (times_in t) owns now input.Turn
  late_rule x is = sym (ap (λ l. turn_answer stood l (due_at (times_in t) now owns) (old_at (times_in t) now owns)) is)

  pub late_may : (x : ℕ) → IsLate (times_in t) now x owns → may_decide stood x ≡ true
  late_may x is = and_left (may_decide stood x) (is_past (session stood x) now) (least_passes (is_late stood now) (length (sessions stood)) x is)

  due_rule : (x : ℕ) (o : Option Grant) → IsFirst (times_in t) now x owns → next_asked stood x (is_commit (decided stood x)) ≡ o → due_answer stood x o ≡ rule_answer (times_in t) owns now input.Turn
  due_rule x o (none, (moment, is)) next =
      sym (ap (λ l. turn_answer stood l (due_at (times_in t) now owns) (old_at (times_in t) now owns)) none
      ∙ ap (λ d. turn_answer stood None d (old_at (times_in t) now owns)) is ∙ ap (due_answer stood x) next)

  going_by : (g b : Bool) (d m : ℕ) → (if g && b then Some d else None) ≡ Some m → g ≡ true
  going_by true b d m e = refl
  going_by false b d m e = none_some e

  pub due_goes : (x : ℕ) → IsFirst (times_in t) now x owns → goes stood x ≡ true
  due_goes x (none, (moment, is)) =
      going_by (goes stood x) (nat_le (due_on t.retry owns x) now) (due_on t.retry owns x) moment
      (soonest_is (due_moment (times_in t) owns.past owns.owns stood now) (length (sessions stood)) (x, moment) is)

  old_rule : (x : ℕ) → IsOld (times_in t) now x owns → still (act.Durable (durable.Forgot (record { 0 = x }))) ≡ rule_answer (times_in t) owns now input.Turn
  old_rule x (none, (nothing, is)) =
      sym (ap (λ l. turn_answer stood l (due_at (times_in t) now owns) (old_at (times_in t) now owns)) none
      ∙ ap (λ d. turn_answer stood None d (old_at (times_in t) now owns)) nothing ∙ ap (old_answer stood) is)

  pub old_may : (x : ℕ) → IsOld (times_in t) now x owns → is_over stood x ≡ true
  old_may x (none, (nothing, is)) =
      and_left (is_over stood x) (nat_le (rests_on owns x + t.forget) now)
      (and_right (nat_lt 0 t.forget) (is_over stood x && nat_le (rests_on owns x + t.forget) now) (least_passes (is_old (times_in t) owns.past owns.owns stood now) (length (sessions stood)) x is))

  pub nothing_rule : late_at (times_in t) now owns ≡ None → due_at (times_in t) now owns ≡ None → old_at (times_in t) now owns ≡ None → still act.Nothing ≡ rule_answer (times_in t) owns now input.Turn
  nothing_rule none nothing rests =
      sym (ap (λ l. turn_answer stood l (due_at (times_in t) now owns) (old_at (times_in t) now owns)) none
      ∙ ap (λ d. turn_answer stood None d (old_at (times_in t) now owns)) nothing ∙ ap (old_answer stood) rests)

  -- what the table takes
  late_is : option_map (λ (x : Xid). x.0) (option_map xid_of (find (is_late_entry now) t.memory.sessions)) ≡ late_at (times_in t) now owns
  late_is = ap (λ m. option_map (λ (x : Xid). x.0) (option_map xid_of (find (is_late_entry now) m.sessions))) s.tracks.known ∙ late_alike stood s.tracks.allowed (alike t owns s) now

  number_of : (o : Option Xid) (p : Option ℕ) → option_map (λ (x : Xid). x.0) o ≡ p → (x : Xid) → o ≡ Some x → p ≡ Some x.0
  number_of o p e x is = sym e ∙ ap (option_map (λ (x : Xid). x.0)) is

  no_number : (o : Option Xid) (p : Option ℕ) → option_map (λ (x : Xid). x.0) o ≡ p → o ≡ None → p ≡ None
  no_number o p e is = sym e ∙ ap (option_map (λ (x : Xid). x.0)) is

  pub late_found : (x : Xid) → option_map xid_of (find (is_late_entry now) t.memory.sessions) ≡ Some x → IsLate (times_in t) now x.0 owns
  late_found x is = number_of _ _ late_is x is

  pub late_none : option_map xid_of (find (is_late_entry now) t.memory.sessions) ≡ None → late_at (times_in t) now owns ≡ None
  late_none is = no_number _ _ late_is is

  -- the transaction that is due first
  pub due_is : (due : Option Xid) → TellsDue t.moments.turns now due → option_map (λ (x : Xid). x.0) due ≡ option_map (λ (p : ℕ × ℕ). p.0) (due_at (times_in t) now owns)
  due_is (Some x) f = ap (option_map (λ (p : ℕ × ℕ). p.0)) (sym (due_first stood s.tracks.allowed (alike t owns s) t.moments.turns (due_on t.retry owns) now s.tracks.planned x.0 f))
  due_is None none = ap (option_map (λ (p : ℕ × ℕ). p.0)) (sym (due_none stood s.tracks.allowed (alike t owns s) t.moments.turns (due_on t.retry owns) now s.tracks.planned none))

  old_is : option_map (λ (x : Xid). x.0) (option_map xid_of (find (is_old_entry t.moments.rests t.forget now) t.memory.sessions)) ≡ old_at (times_in t) now owns
  old_is =
      ap (λ m. option_map (λ (x : Xid). x.0) (option_map xid_of (find (is_old_entry t.moments.rests t.forget now) m.sessions))) s.tracks.known
      ∙ old_alike stood s.tracks.allowed (alike t owns s) t.moments.rests (rests_on owns) t.forget now s.tracks.resting

  pub old_found : (x : Xid) → option_map xid_of (find (is_old_entry t.moments.rests t.forget now) t.memory.sessions) ≡ Some x
      → late_at (times_in t) now owns ≡ None → due_at (times_in t) now owns ≡ None → IsOld (times_in t) now x.0 owns
  old_found x is none nothing = (none, (nothing, number_of _ _ old_is x is))

  pub old_none : option_map xid_of (find (is_old_entry t.moments.rests t.forget now) t.memory.sessions) ≡ None → old_at (times_in t) now owns ≡ None
  old_none is = no_number _ _ old_is is

-- ---- the answers

some_first : (o : Option (ℕ × ℕ)) (x : ℕ) → Some x ≡ option_map (λ (p : ℕ × ℕ). p.0) o → (moment : ℕ) × (o ≡ Some (x, moment))
some_first None x e = none_some (sym e)
some_first (Some p) x e = let same : x ≡ p.0 = cc in (p.1, λ i. Some (sym same i, p.1))

no_first : (o : Option (ℕ × ℕ)) → None ≡ option_map (λ (p : ℕ × ℕ). p.0) o → o ≡ None
no_first None e = refl
no_first (Some p) e = none_some e

module _ (k : Knowledge) (now : ℕ) (in_time : now < 2 ^ 64) where
  -- nothing is done where the rules take none
  rests_where : ((owns : Course) → Follows k owns → still act.Nothing ≡ rule_answer (times_in k) owns now input.Turn) → (a : Answer) → a ≡ looked.nothing → Answers k input.Turn now a
  rests_where rule = told k input.Turn now act.Nothing None refl rule (still_sent input.Turn act.Nothing (λ resources. tt))

  never : (step : Step) → ((owns : Course) → Follows k owns → false ≡ true) → (owns : Course) → Follows k owns → step ≡ rule_answer (times_in k) owns now input.Turn
  never step excluded owns s = false_true (excluded owns s)

  refused : (r : SessionRecord) (owns : Course) (s : Follows k owns) → may_come k.memory r ≡ false → may (records owns) r ≡ true → false ≡ true
  refused r owns s is here = sym is ∙ may_is k.memory k.moments (records owns) (due_on k.retry owns) (rests_on owns) s.tracks now in_time r ∙ here

  -- a late transaction
  late_by : (x : Xid) → ((owns : Course) → Follows k owns → IsLate (times_in k) now x.0 owns) → (b : Bool) → may_come k.memory (log.Decided x how.Timeout) ≡ b
      → (a : Answer) → a ≡ (if b then answer (Some (log.Decided x how.Timeout)) (still (act.Durable (durable.Decided x how.Timeout))) else looked.nothing) → Answers k input.Turn now a
  late_by x takes true may =
      made k input.Turn now (log.Decided x how.Timeout) (durable.Decided x how.Timeout) None in_time may refl (λ y before. refl) (λ y before. refl) (λ owns s. late_rule k now owns s x.0 (takes owns s))
      (still_sent input.Turn (act.Durable (durable.Decided x how.Timeout)) (λ resources. tt))
  late_by x takes false may = rests_where (never (still act.Nothing) (λ owns s. refused (log.Decided x how.Timeout) owns s may (late_may k now owns s x.0 (takes owns s))))

  -- an old one
  old_by : (x : Xid) → ((owns : Course) → Follows k owns → IsOld (times_in k) now x.0 owns) → (b : Bool) → may_come k.memory (log.Forgot x) ≡ b
      → (a : Answer) → a ≡ (if b then answer (Some (log.Forgot x)) (still (act.Durable (durable.Forgot x))) else looked.nothing) → Answers k input.Turn now a
  old_by x takes true may =
      made k input.Turn now (log.Forgot x) (durable.Forgot x) None in_time may refl (λ y before. refl) (λ y before. refl) (λ owns s. old_rule k now owns s x.0 (takes owns s))
      (still_sent input.Turn (act.Durable (durable.Forgot x)) (λ resources. tt))
  old_by x takes false may = rests_where (never (still act.Nothing) (λ owns s. refused (log.Forgot x) owns s may (old_may k now owns s x.0 (takes owns s))))

  -- one that is due
  module _ (x : Xid) (takes : (owns : Course) → Follows k owns → IsFirst (times_in k) now x.0 owns) where
    goes_on : (owns : Course) → Follows k owns → goes (records owns) x.0 ≡ true
    goes_on owns s = due_goes k now owns s x.0 (takes owns s)

    known_question : (owns : Course) → Follows k owns → question_in (session_in k.memory x.0) ≡ question_in (session_in (snapshot_of (records owns)) x.0)
    known_question owns s = ap (λ m. question_in (session_in m x.0)) s.tracks.known

    asks_by : may_come k.memory (log.Finished x) ≡ false → (o : Option Question) → question_in (session_in k.memory x.0) ≡ o → (a : Answer) → a ≡ looked.asked x o → IsSentBy input.Turn a.step → Answers k input.Turn now a
    asks_by left None is a same out =
        rests_where (never (still act.Nothing) (λ owns s.
        refused (log.Finished x) owns s left (and_both (goes (records owns) x.0) (is_empty (unended (records owns) x.0)) (goes_on owns s)
        (question_none (records owns) (alike k owns s) x.0 (goes_on owns s) (sym (known_question owns s) ∙ is))))) a same
    asks_by left (Some q) is a same out =
        asked_later k input.Turn now x q.branch (asked_step x q).sent in_time goes_on
        (λ owns s. let found = question_some (records owns) (alike k owns s) x.0 (goes_on owns s) q (sym (known_question owns s) ∙ is) in
        found.1.1 ∙ due_rule k now owns s x.0 (Some found.0) (takes owns s) found.1.0)
        (subst (λ (z : Answer). IsSentBy input.Turn z.step) same out) a same

    due_by : (b : Bool) → may_come k.memory (log.Finished x) ≡ b → (a : Answer)
        → a ≡ (if b then answer (Some (log.Finished x)) (still (act.Durable (durable.Finished x (finished_status (status_in k.memory x.0))))) else looked.asked x (question_in (session_in k.memory x.0)))
        → IsSentBy input.Turn a.step → Answers k input.Turn now a
    due_by true may a same out =
        made k input.Turn now (log.Finished x) (durable.Finished x (finished_status (status_in k.memory x.0))) None in_time may refl (λ y before. refl) (λ y before. refl)
        (λ owns s. ap (λ z. still (act.Durable (durable.Finished x z))) (finished_is k owns s x.0 (goes_on owns s)) ∙ due_rule k now owns s x.0 None (takes owns s)
        (left_none (records owns) (alike k owns s) x.0 (goes_on owns s)
        (and_right (goes (records owns) x.0) (is_empty (unended (records owns) x.0)) (may_by k.memory k.moments (records owns) (due_on k.retry owns) (rests_on owns) s.tracks now in_time (log.Finished x) may))))
        (still_sent input.Turn (act.Durable (durable.Finished x (finished_status (status_in k.memory x.0)))) (λ resources. tt)) a same
    due_by false may a same out = asks_by may (question_in (session_in k.memory x.0)) refl a same out

  -- what a turn takes by the memory
  pub takes_turn : (late due old : Option Xid) → late ≡ option_map xid_of (find (is_late_entry now) k.memory.sessions) → TellsDue k.moments.turns now due
      → old ≡ option_map xid_of (find (is_old_entry k.moments.rests k.forget now) k.memory.sessions)
      → (a : Answer) → a ≡ looked.turn k.memory late due old → IsSentBy input.Turn a.step → Answers k input.Turn now a
  takes_turn (Some x) due old late first rests a same out = late_by x (λ owns s. late_found k now owns s x (sym late)) (may_come k.memory (log.Decided x how.Timeout)) refl a same
  takes_turn None (Some x) old none first rests a same out =
      due_by x (λ owns s. (late_none k now owns s (sym none), some_first (due_at (times_in k) now owns) x.0 (due_is k now owns s (Some x) first))) (may_come k.memory (log.Finished x)) refl a same out
  takes_turn None None (Some x) none first rests a same out =
      old_by x (λ owns s. old_found k now owns s x (sym rests) (late_none k now owns s (sym none)) (no_first (due_at (times_in k) now owns) (due_is k now owns s None first)))
      (may_come k.memory (log.Forgot x)) refl a same
  takes_turn None None None none first rests a same out =
      rests_where (λ owns s. nothing_rule k now owns s (late_none k now owns s (sym none)) (no_first (due_at (times_in k) now owns) (due_is k now owns s None first)) (old_none k now owns s (sym rests))) a same
