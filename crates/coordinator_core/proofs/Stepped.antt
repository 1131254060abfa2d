-- A step of the coordinator is what happens by the rules, as far as its disks let it.
use Rattle.std.proofs.Common.{◌≡◌, ◌⊎◌, inl, inr, ◌+◌, ◌≤◌, ℕ, Bool, true, false, List, ◌∷◌, Option, None, Some, refl, sym, ap, subst, ◌∙◌, arith}
use Rattle.std.specs.Prelude.{Ok, Err}
use Rattle.std.specs.Option.{option_and_then}
use Rattle.disk_model.specs.Disk.{DiskState, IsLawful}
use Rattle.disk_model.specs.Stop.{state_of}
use Rattle.disk_model.specs.declared.stoppable.Stoppable.{Stoppable}
use Rattle.journal_checkpoint.specs.Extents.{Extent}
use Rattle.seata_types.specs.declared.acts.Act.{Act}
use Rattle.seata_types.specs.declared.acts.Act.TheVariants as act
use Rattle.seata_types.specs.declared.acts.Durable.{Durable}
use Rattle.seata_types.specs.declared.errors.Full.{Full}
use Rattle.seata_types.specs.declared.errors.NodeError.{NodeError}
use Rattle.seata_types.specs.declared.errors.NodeError.TheVariants as error
use Rattle.seata_types.specs.declared.limits.TheConstants.{MANAGERS}
use Rattle.seata_types.specs.declared.messages.Input.{Input}
use Rattle.seata_types.specs.declared.messages.Step.{Step}
use Rattle.durable_records.specs.declared.coordinators.SessionRecord.{SessionRecord}
use Rattle.session_log.specs.declared.sessions.Snapshot.{Snapshot}
use Rattle.session_store.specs.declared.sessions.Sessions.{Sessions}
use Rattle.session_store.specs.Keeping.{known, managers_of, is_down as sessions_down, HasRoom as HasRecordRoom}
use Rattle.history_rules.specs.Own.{Own, Left, Given, Event, leaves, asked_act}
use Rattle.history_rules.specs.Devices.{calls_left, fails, fault_of, left_after, down_after, written, is_down as down_by}
use Rattle.history_rules.specs.CoordinatorMemory.{Times, sessions_left, session_record, session_asked}
use Rattle.history_rules.specs.Nodes.{Role, Resource, Manager, answer, happens, left_at}
use Rattle.history_rules.specs.Nodes.{Coordinator as CoordinatorRole}
use Rattle.node_steps.specs.Ends.{behind, session_recording}
use Rattle.node_steps.specs.Promises.{TakesStep, FailsAt, StandsAsBefore, LiesAsBefore, LiesWith, Overflows, cut, own_step}
use Rattle.coordinator_core.specs.declared.nodes.Coordinator.{Coordinator}
use Rattle.coordinator_core.specs.Knowledge.{Knowledge, SameTimes, knowledge, times_in}
use Rattle.coordinator_core.specs.Answers.{is_answer, IsWithin, IsUnanswered, IsCut, IsOver, Puts, AnswersWhere, Answers}
use Rattle.coordinator_core.specs.Lying.{Lies, extent_after}
use Rattle.coordinator_core.specs.Moving.{Misses}
use Rattle.coordinator_core.specs.Standing.{node_state, StandsOver, LiesOver, OnDisks, course, sessions_of, start_of, is_down, times_of}
use Rattle.coordinator_rules.specs.Tracks.{with_own, rule_answer, Follows}
use Rattle.coordinator_core.specs.NodeLaws.{lies_same, on_same}
use Rattle.coordinator_core.specs.Stepping.{HasNoRoom, HasRoom, StepsBy}
use Rattle.coordinator_core.proofs.Stays.{remains_put, remains_lost, remains_same, stays_itself, same_picks}
use Rattle.coordinator_core.proofs.Disks.{false_true, on_added, on_lost, long, cause, kept_now}
use Rattle.coordinator_core.proofs.Laid.{fits_step, lies_added, lies_lost, over_step}

-- ---- acts that are no records

abbrev pub is_still : Act → Bool
is_still (act.Durable done) = false
is_still (act.Down kept at) = false
is_still (act.Restarted kept) = false
is_still act.Armed = false
is_still _ = true

still_down : (a : Act) (b : Bool) → is_still a ≡ true → down_after a b ≡ b
still_down (act.Durable done) b e = false_true e
still_down (act.Down kept at) b e = false_true e
still_down (act.Restarted kept) b e = false_true e
still_down act.Armed b e = false_true e
still_down _ b e = refl

still_leaves : (a : Act) (asked : Option SessionRecord) (left : Left SessionRecord) → is_still a ≡ true → leaves a asked left ≡ left
still_leaves (act.Durable done) asked left e = false_true e
still_leaves (act.Down kept at) asked left e = false_true e
still_leaves (act.Restarted kept) asked left e = false_true e
still_leaves act.Armed asked left e = false_true e
still_leaves _ asked left e = refl

still_left : (given : Input) (a : Act) (before : Option ℕ) → is_still a ≡ true → left_after false (Given given) a before ≡ before
still_left given (act.Durable done) before e = false_true e
still_left given (act.Down kept at) before e = false_true e
still_left given (act.Restarted kept) before e = false_true e
still_left given act.Armed before e = false_true e
still_left given _ before e = refl

still_fault : (a : Act) (left : Option ℕ) → is_still a ≡ true → fault_of a left ≡ 0
still_fault (act.Durable done) left e = false_true e
still_fault (act.Down kept at) left e = false_true e
still_fault (act.Restarted kept) left e = false_true e
still_fault act.Armed left e = false_true e
still_fault _ left e = refl

still_behind : (past : List SessionRecord) (start : Extent) (size : ℕ) (a : Act) (made : Option SessionRecord) (e : Extent) → is_still a ≡ true → behind (session_recording past) start size a made e ≡ e
still_behind past start size (act.Durable done) made e is = false_true is
still_behind past start size (act.Down kept at) made e is = false_true is
still_behind past start size (act.Restarted kept) made e is = false_true is
still_behind past start size act.Armed made e is = false_true is
still_behind past start size _ made e is = refl

still_puts : {D : Type 0} (state : D → DiskState) (event : Event) (now : ℕ) (a : Act) (old new : Sessions D) → is_still a ≡ true → Puts state event now a old new → new ≡ old
still_puts state event now (act.Durable done) old new e p = false_true e
still_puts state event now (act.Down kept at) old new e p = false_true e
still_puts state event now (act.Restarted kept) old new e p = false_true e
still_puts state event now act.Armed old new e p = false_true e
still_puts state event now _ old new e p = p

-- an answer is no record, or one
answer_kind : (a : Act) → is_answer a ≡ true → (is_still a ≡ true) ⊎ ((d : Durable) × (a ≡ act.Durable d))
answer_kind (act.Durable done) e = inr (done, refl)
answer_kind (act.Down kept at) e = false_true e
answer_kind (act.Restarted kept) e = false_true e
answer_kind act.Armed e = false_true e
answer_kind _ e = inl refl

still_written : (b : Bool) (step : Step) (a : Act) → is_still a ≡ true → written b step a ≡ step
still_written b step (act.Durable done) e = false_true e
still_written b step (act.Down kept at) e = refl
still_written b step (act.Restarted kept) e = refl
still_written b step act.Armed e = refl
still_written b step _ e = refl

abbrev some_record : SessionRecord → Option SessionRecord
some_record r = Some r

one_record : (r q : SessionRecord) → some_record r ≡ Some q → r ≡ q
one_record r q e = cc

no_record : (r : SessionRecord) → None ≡ some_record r → ⊥
no_record r e = cc

-- what happens at a node that is up: its rule's answer, written
happens_up : (role : Role) (owns : List Own) (now : ℕ) (fault : Bool) (given : Input) (step : Step) → down_by owns ≡ false → step ≡ answer role owns now given
    → happens role owns now fault false (Given given) ≡ written (fails fault (left_at role owns)) step step.act
happens_up role owns now fault given step up is = rw up (ap (λ (s : Step). written (fails fault (left_at role owns)) s s.act) (sym is))

pub times_same : (old new : Knowledge) → SameTimes old new → times_in new ≡ times_in old
times_same old new s = λ i. record { retry = s.retry i; forget = s.forget i }

module _ {D : Type 0} (state : D → DiskState) (law : (d : Stoppable D) → IsLawful (state_of state d)) (c c' : Coordinator D) (given : Input) (now : ℕ) (up : is_down c ≡ false) (clock : start_of c' ≡ start_of c) where
  upon : (past : List SessionRecord) (owns : List Own) → StandsOver state c past owns → down_by owns ≡ false
  upon past owns s = sym s.disks.down ∙ up

  within : (past : List SessionRecord) (owns : List Own) → StandsOver state c past owns → IsWithin c.table (course past owns)
  within past owns s = record { few = s.few; within = (s.disks.keeps (upon past owns s)).list.made.within }

  -- the rule's answer, by what is known
  is_rule : (times : Times) (past : List SessionRecord) (owns : List Own) (step : Step) → times ≡ times_of c → step ≡ rule_answer (times_of c) (course past owns) now given
      → step ≡ answer (CoordinatorRole times past) owns now given
  is_rule times past owns step same is = is ∙ ap (λ t. rule_answer t (course past owns) now given) (sym same)

  -- ---- a record has room

  -- the record of a durable act
  asked_by : (a : Act) (done : Durable) (r : SessionRecord) → a ≡ act.Durable done → session_record now (Given given) done ≡ Some r
      → option_and_then (session_record now (Given given)) (asked_act a) ≡ Some r
  asked_by a done r is asked = ap (λ k. option_and_then (session_record now (Given given)) (asked_act k)) is ∙ asked

  -- the one that an answer's act asks for
  room_by : (a : Act) → is_answer a ≡ true → Puts (state_of state) (Given given) now a (sessions_of c) (sessions_of c') → (r : SessionRecord)
      → option_and_then (session_record now (Given given)) (asked_act a) ≡ Some r → HasRecordRoom (state_of state) r (sessions_of c)
  room_by (act.Durable done) e (q, asked, adds) r is = subst (λ k. HasRecordRoom (state_of state) k (sessions_of c)) (one_record q r (sym asked ∙ is)) adds.fits
  room_by (act.Down kept at) e p r is = false_true e
  room_by _ e p r is = absurd (no_record r is)

  -- the one at which the disks failed
  room_cut_by : (done : Durable) (i : IsCut (state_of state) (IsWithin c.table) c.table c'.table given now done) (r : SessionRecord) → some_record i.r ≡ Some r → HasRecordRoom (state_of state) r (sessions_of c)
  room_cut_by done i r is = subst (λ k. HasRecordRoom (state_of state) k (sessions_of c)) (one_record i.r r is) i.loses.fits

  -- ---- an answer

  module _ (step : Step) (a : AnswersWhere (state_of state) (IsWithin c.table) c.table c'.table given now (Ok step)) where
    stands_by : (past : List SessionRecord) (owns : List Own) (s : StandsOver state c past owns) → Follows (knowledge c'.table) (with_own (own_step given now step) (course past owns))
        → (is_still step.act ≡ true) ⊎ ((d : Durable) × (step.act ≡ act.Durable d)) → OnDisks state (sessions_of c') past (own_step given now step ∷ owns)
    stands_by past owns s f (inl e) =
        let same = still_puts (state_of state) (Given given) now step.act (sessions_of c) (sessions_of c') e a.1 in
        let none = still_fault step.act (calls_left false owns) e in
        subst (λ q. OnDisks state q past (own_step given now step ∷ owns)) (sym same)
        (on_same state (sessions_of c) past owns (own_step given now step ∷ owns) (still_down step.act (down_by owns) e) (still_leaves step.act _ (sessions_left past owns) e)
        (still_left given step.act (calls_left false owns) e) (omega (arith, none)) s.disks)
    stands_by past owns s f (inr (d, is)) =
        let puts = subst (λ k. Puts (state_of state) (Given given) now k (sessions_of c) (sessions_of c')) is a.1 in
        subst (λ k. OnDisks state (sessions_of c') past (own_step given now (record { act = k; sent = step.sent }) ∷ owns)) (sym is)
        (on_added state law (sessions_of c) (sessions_of c') past owns s.disks up given now d puts.0 puts.1 puts.2 step.sent)

    written_by : (past : List SessionRecord) (owns : List Own) (s : StandsOver state c past owns) → (is_still step.act ≡ true) ⊎ ((d : Durable) × (step.act ≡ act.Durable d))
        → written (fails false (calls_left false owns)) step step.act ≡ step
    written_by past owns s (inl e) = still_written _ step step.act e
    written_by past owns s (inr (d, is)) =
        let puts = subst (λ k. Puts (state_of state) (Given given) now k (sessions_of c) (sessions_of c')) is a.1 in
        ap (λ b. written b step step.act) (long state law (sessions_of c) (sessions_of c') past owns s.disks up given now d puts.0 puts.1 puts.2) ∙ ap (written false step) is

    -- its journal, without a record or with one
    lies_by : (past : List SessionRecord) (start : Extent) (size : ℕ) (owns : List Own) (s : StandsOver state c past owns) → LiesOver state c past start size owns
        → (is_still step.act ≡ true) ⊎ ((d : Durable) × (step.act ≡ act.Durable d)) → LiesOver state c' past start size (own_step given now step ∷ owns)
    lies_by past start size owns s lies (inl e) =
        let same = still_puts (state_of state) (Given given) now step.act (sessions_of c) (sessions_of c') e a.1 in
        subst (λ (q : Sessions (Stoppable D)). Lies (state_of state) q past start size (own_step given now step ∷ owns)) (sym same)
        (lies_same (state_of state) (sessions_of c) past start size owns (own_step given now step ∷ owns) (still_down step.act (down_by owns) e)
        (still_leaves step.act _ (sessions_left past owns) e) (still_behind past start size step.act (session_asked (own_step given now step)) (extent_after past start size owns) e) lies)
    lies_by past start size owns s lies (inr (d, is)) =
        let puts = subst (λ k. Puts (state_of state) (Given given) now k (sessions_of c) (sessions_of c')) is a.1 in
        subst (λ k. LiesOver state c' past start size (own_step given now (record { act = k; sent = step.sent }) ∷ owns)) (sym is)
        (lies_added (state_of state) law (sessions_of c) (sessions_of c') past start size owns lies (upon past owns s) given now d puts.0 puts.1 step.sent (s.disks.keeps (upon past owns s)) puts.2)

    lies_taken : (times : Times) (past : List SessionRecord) (owns : List Own) (s : StandsOver state c past owns) → is_answer step.act ≡ true
        → LiesWith (node_state state c) (node_state state c') (CoordinatorRole times past) owns (own_step given now step)
    lies_taken times past owns s is start size lies = (
      fits_step (state_of state) law (sessions_of c) (sessions_of c') past start size owns lies (upon past owns s) given now step (room_by step.act is a.1),
      lies_by past start size owns s lies (answer_kind step.act is),
    )

    pub takes_step : TakesStep (node_state state c) (node_state state c') given now step
    takes_step (CoordinatorRole times past) owns (same, s) =
        let taken = a.0.takes (course past owns) (s.follows (upon past owns s)) (within past owns s) in
        let kind = answer_kind step.act taken.2 in (
          sym (happens_up (CoordinatorRole times past) owns now false given step (upon past owns s) (is_rule times past owns step same taken.0) ∙ written_by past owns s kind),
          (
            same ∙ sym (times_same (knowledge c.table) (knowledge c'.table) a.0.same),
            record {
              disks = stands_by past owns s taken.1 kind;
              starts = clock ∙ s.starts;
              few = subst (λ n. n ≤ MANAGERS) (sym (remains_put state (Given given) now step.act (sessions_of c) (sessions_of c') a.1).opening.managers) s.few;
              follows = λ e. taken.1;
              fallen = λ e. false_true (sym (downs_by past owns s taken.1 kind) ∙ e);
            },
          ),
          lies_taken times past owns s taken.2,
        )
      where
        downs_by : (past : List SessionRecord) (owns : List Own) (s : StandsOver state c past owns) → Follows (knowledge c'.table) (with_own (own_step given now step) (course past owns))
            → (is_still step.act ≡ true) ⊎ ((d : Durable) × (step.act ≡ act.Durable d)) → down_after step.act (down_by owns) ≡ false
        downs_by past owns s f (inl e) = still_down step.act (down_by owns) e ∙ upon past owns s
        downs_by past owns s f (inr (d, is)) = ap (λ k. down_after k (down_by owns)) is ∙ upon past owns s
    takes_step (Resource setup past) owns s = absurd s
    takes_step (Manager settings) owns s = absurd s

  -- ---- the disks failed

  module _ (done : Durable) (i : IsCut (state_of state) (IsWithin c.table) c.table c'.table given now done) (flight : c'.flight ≡ Some done) (count : c'.records ≡ (known (sessions_of c)).acts) where
    pub fails_at : FailsAt (node_state state c) (node_state state c') given now done
    fails_at (CoordinatorRole times past) owns (same, s) =
        let taken = i.due.answered.takes (course past owns) (s.follows (upon past owns s)) (within past owns s) in
        let kept = kept_now state law (sessions_of c) (sessions_of c') past owns s.disks up given now done i.r i.due.asked in (
          sym (happens_up (CoordinatorRole times past) owns now true given i.due.step (upon past owns s) (is_rule times past owns i.due.step same taken.0) ∙ ap (written true i.due.step) i.due.durable),
          (
            same ∙ sym (times_same (knowledge c.table) (knowledge c'.table) i.due.answered.same),
            record {
              disks = on_lost state law (sessions_of c) (sessions_of c') past owns s.disks up given now done i.r i.due.asked i.loses;
              starts = clock ∙ s.starts;
              few = subst (λ n. n ≤ MANAGERS) (sym i.loses.opening.managers) s.few;
              follows = λ e. false_true (sym e);
              fallen = λ e. record {
                flight = flight;
                count = count ∙ ap (λ (k : Snapshot). k.acts) kept.knows;
              };
            },
          ),
          cause state law (sessions_of c) (sessions_of c') past owns s.disks up given now done i.r i.due.asked i.loses,
          λ start size lies. (
            fits_step (state_of state) law (sessions_of c) (sessions_of c') past start size owns lies (upon past owns s) given now (cut done) (λ r is. room_cut_by done i r (sym i.due.asked ∙ is)),
            lies_lost (state_of state) law (sessions_of c) (sessions_of c') past start size owns lies (upon past owns s) given now done i.r i.due.asked kept i.loses,
          ),
        )
    fails_at (Resource setup past) owns s = absurd s
    fails_at (Manager settings) owns s = absurd s

  -- ---- nothing changed

  module _ (u : IsUnanswered (knowledge c.table) (knowledge c'.table)) (same_sessions : sessions_of c' ≡ sessions_of c) where
    pub stands_before : StandsAsBefore (node_state state c) (node_state state c')
    stands_before (CoordinatorRole times past) owns (same, s) = (
      same ∙ sym (times_same (knowledge c.table) (knowledge c'.table) u.same),
      record {
        disks = subst (λ q. OnDisks state q past owns) (sym same_sessions) s.disks;
        starts = clock ∙ s.starts;
        few = subst (λ (q : Sessions (Stoppable D)). managers_of q ≤ MANAGERS) (sym same_sessions) s.few;
        follows = λ e. u.stands (course past owns) (s.follows e);
        fallen = λ e. false_true (sym (upon past owns s) ∙ e);
      },
    )
    stands_before (Resource setup past) owns s = absurd s
    stands_before (Manager settings) owns s = absurd s

    pub lies_before : LiesAsBefore (node_state state c) (node_state state c')
    lies_before (CoordinatorRole times past) start size owns lies = subst (λ (q : Sessions (Stoppable D)). Lies (state_of state) q past start size owns) (sym same_sessions) lies
    lies_before (Resource setup past) start size owns lies = absurd lies
    lies_before (Manager settings) start size owns lies = absurd lies

  pub no_room : (full : Full) → IsOver (state_of state) (IsWithin c.table) c.table c'.table given now full → HasNoRoom state c given now full
  no_room full i (CoordinatorRole times past) owns (same, s) =
      let taken = i.due.answered.takes (course past owns) (s.follows (upon past owns s)) (within past owns s) in
      let kept = s.disks.keeps (upon past owns s) in (
        i.r,
        ap (λ (k : Step). session_asked (own_step given now k)) (sym (is_rule times past owns i.due.step same taken.0)) ∙ asked_by i.due.step.act i.done i.r i.due.durable i.due.asked,
        i.no_room kept.found kept.kept,
      )
  no_room full i (Resource setup past) owns s = absurd s
  no_room full i (Manager settings) owns s = absurd s

  -- by its entries
  pub overflows : (full : Full) → HasNoRoom state c given now full → Overflows (node_state state c) given now full
  overflows full none (CoordinatorRole times past) start size owns s lies =
      let over = none (CoordinatorRole times past) owns s in (
        over.0,
        over.1,
        over_step (state_of state) law (sessions_of c) (sessions_of c') past start size owns lies (upon past owns s.1) given now over.0 full over.2,
      )
  overflows full none (Resource setup past) start size owns s lies = absurd s
  overflows full none (Manager settings) start size owns s lies = absurd s

  -- ---- a record that was taken

  pub room_taken : (step : Step) → AnswersWhere (state_of state) (IsWithin c.table) c.table c'.table given now (Ok step) → HasRoom state c given now
  room_taken step a (CoordinatorRole times past) owns (same, s) r is =
      let taken = a.0.takes (course past owns) (s.follows (upon past owns s)) (within past owns s) in
      room_by step.act taken.2 a.1 r (ap (λ (k : Step). session_asked (own_step given now k)) (is_rule times past owns step same taken.0) ∙ is)
  room_taken step a (Resource setup past) owns s r is = absurd s
  room_taken step a (Manager settings) owns s r is = absurd s

  pub room_cut : (done : Durable) → IsCut (state_of state) (IsWithin c.table) c.table c'.table given now done → HasRoom state c given now
  room_cut done i (CoordinatorRole times past) owns (same, s) r is =
      let taken = i.due.answered.takes (course past owns) (s.follows (upon past owns s)) (within past owns s) in
      let rule = ap (λ (k : Step). session_asked (own_step given now k)) (is_rule times past owns i.due.step same taken.0) in
      room_cut_by done i r (sym (asked_by i.due.step.act done i.r i.due.durable i.due.asked) ∙ rule ∙ is)
  room_cut done i (Resource setup past) owns s r is = absurd s
  room_cut done i (Manager settings) owns s r is = absurd s

-- ---- all that is promised of a step

-- what is kept of a step without an answer
abbrev pub MissesOnly : {D : Type 0} → (records : ℕ) → NodeError → Coordinator D → Coordinator D → Type 0
MissesOnly records (error.Failed done) old new = (new.flight ≡ Some done) × (new.records ≡ records) × (new.left + 1 ≡ old.left)
MissesOnly records (error.Full full) old new = new.left ≡ old.left
MissesOnly records error.NoMemory old new = new.left ≡ old.left

module _ {D : Type 0} (state : D → DiskState) (law : (d : Stoppable D) → IsLawful (state_of state d)) (c c' : Coordinator D) (given : Input) (now : ℕ) (up : is_down c ≡ false) (clock : start_of c' ≡ start_of c) where
  -- it is up after an answer
  up_after : (a : Act) → Puts (state_of state) (Given given) now a (sessions_of c) (sessions_of c') → is_down c' ≡ false
  up_after (act.Durable done) p = p.2.up
  up_after _ p = ap sessions_down p ∙ up

  pub stepped : (step : Step) → Answers (state_of state) (IsWithin c.table) c.table c'.table given now (Ok step) → c'.left + 1 ≡ c.left → StepsBy state c c' given now (Ok step)
  stepped step a counted =
      let remains = remains_put state (Given given) now step.act (sessions_of c) (sessions_of c') a.answers.1 in record {
        answers = takes_step state law c c' given now up clock step a.answers;
        framable = a.framable;
        named = a.named;
        after = tt;
        room = room_taken state law c c' given now up clock step a.answers;
        same = stays_itself state c c' remains;
        picks = same_picks state c c' remains;
        counted = counted;
        down = up_after step.act a.answers.1;
        opening = remains.opening;
      }

  -- it ends without an answer
  pub missed : (failed : NodeError) → AnswersWhere (state_of state) (IsWithin c.table) c.table c'.table given now (Err failed) → MissesOnly (known (sessions_of c)).acts failed c c'
      → StepsBy state c c' given now (Err failed)
  missed (error.Failed done) i m =
      let remains = remains_lost state i.r (sessions_of c) (sessions_of c') i.loses in record {
        answers = tt;
        framable = λ f. tt;
        named = λ n. tt;
        after = fails_at state law c c' given now up clock done i m.0 m.1;
        room = room_cut state law c c' given now up clock done i;
        same = stays_itself state c c' remains;
        picks = same_picks state c c' remains;
        counted = m.2;
        down = i.loses.down;
        opening = remains.opening;
      }
  missed (error.Full full) i m =
      let remains = remains_same state (sessions_of c) (sessions_of c') i.sessions in record {
        answers = tt;
        framable = λ f. tt;
        named = λ n. tt;
        after = (
          stands_before state law c c' given now up clock i.unanswered i.sessions,
          lies_before state law c c' given now up clock i.unanswered i.sessions,
          overflows state law c c' given now up clock full (no_room state law c c' given now up clock full i),
        );
        room = no_room state law c c' given now up clock full i;
        same = stays_itself state c c' remains;
        picks = same_picks state c c' remains;
        counted = omega (arith, m);
        down = ap sessions_down i.sessions ∙ up;
        opening = remains.opening;
      }
  missed error.NoMemory i m =
      let remains = remains_same state (sessions_of c) (sessions_of c') i.1 in record {
        answers = tt;
        framable = λ f. tt;
        named = λ n. tt;
        after = (stands_before state law c c' given now up clock i.0 i.1, lies_before state law c c' given now up clock i.0 i.1);
        room = tt;
        same = stays_itself state c c' remains;
        picks = same_picks state c c' remains;
        counted = omega (arith, m);
        down = ap sessions_down i.1 ∙ up;
        opening = remains.opening;
      }

  -- the same where the act in flight is kept after the table's answer
  pub missed_after : (mid : Coordinator D) (count : ℕ) → count ≡ (known (sessions_of c)).acts → mid.left ≡ c.left → (failed : NodeError)
      → AnswersWhere (state_of state) (IsWithin c.table) c.table mid.table given now (Err failed) → Misses count failed mid c' → StepsBy state c c' given now (Err failed)
  missed_after mid count counted left (error.Failed done) a (table, start, flight, records, less) =
      missed (error.Failed done) (subst (λ t. AnswersWhere (state_of state) (IsWithin c.table) c.table t given now (Err (error.Failed done))) (sym table) a) (flight, records ∙ counted, less ∙ left)
  missed_after mid count counted left (error.Full full) a same =
      missed (error.Full full) (subst (λ (q : Coordinator D). AnswersWhere (state_of state) (IsWithin c.table) c.table q.table given now (Err (error.Full full))) (sym same) a)
      (ap (λ (q : Coordinator D). q.left) same ∙ left)
  missed_after mid count counted left error.NoMemory a same =
      missed error.NoMemory (subst (λ (q : Coordinator D). AnswersWhere (state_of state) (IsWithin c.table) c.table q.table given now (Err error.NoMemory)) (sym same) a)
      (ap (λ (q : Coordinator D). q.left) same ∙ left)
