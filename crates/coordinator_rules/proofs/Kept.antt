-- The table stands for its own entries after a record, and after an entry without one.
use Rattle.std.proofs.Common.{◌≡◌, ◌==◌, ◌<◌, ◌+◌, ◌^◌, ℕ, Bool, true, false, cond, if◌then◌else◌, List, ◌∷◌, Option, Some, None, is_some, refl, sym, ap, subst, ◌∙◌}
use Rattle.seata_types.specs.declared.acts.Act.{Act}
use Rattle.seata_types.specs.declared.acts.Act.TheVariants as act
use Rattle.seata_types.specs.declared.acts.Durable.{Durable}
use Rattle.seata_types.specs.declared.ids.Xid.{Xid}
use Rattle.seata_types.specs.declared.ids.BranchId.{BranchId}
use Rattle.seata_types.specs.declared.messages.Input.{Input}
use Rattle.seata_types.specs.declared.messages.Outgoing.{Outgoing}
use Rattle.durable_records.specs.declared.coordinators.SessionRecord.{SessionRecord}
use Rattle.durable_records.specs.declared.coordinators.SessionRecord.TheVariants as log
use Rattle.durable_records.specs.Branches.{unended, unended_branch}
use Rattle.durable_records.specs.Progress.{may_decide, is_going, is_finished}
use Rattle.durable_records.specs.SessionOrder.{Allowed, May, may, is_empty}
use Rattle.history_rules.specs.Own.{Given, Own, added, asked_act}
use Rattle.history_rules.specs.CoordinatorMemory.{session_record, due_by_durable, rests_after}
use Rattle.retry_turns.specs.Plans.{moment_of, is_planned, with_plan}
use Rattle.session_log.specs.declared.sessions.Snapshot.{Snapshot}
use Rattle.session_log.specs.SnapshotOf.{snapshot_of}
use Rattle.session_memory.specs.Changes.{may_come, after}
use Rattle.session_memory.proofs.Small.{false_true, and_left, moved}
use Rattle.session_memory.proofs.StepLaws.{snapshot_after}
use Rattle.coordinator_rules.specs.declared.moments.Moments.{Moments}
use Rattle.coordinator_rules.specs.Knowledge.{Knowledge, SameTimes}
use Rattle.coordinator_rules.specs.Answers.{again_after, is_unrecorded, own_step}
use Rattle.coordinator_rules.specs.Changes.{prepared, withdrawn, settled, IsPlannedFor, Makes, PlansAgain}
use Rattle.coordinator_rules.specs.Tracks.{Course, with_own, due_on, rests_on, Tracks, Follows, AreInOrder, records}
use Rattle.coordinator_rules.proofs.Laws.{may_alike, retry_going}
use Rattle.coordinator_rules.proofs.PlanLaws.{moment_with, moment_without, in_order_with, in_order_without}
use Rattle.coordinator_rules.proofs.Records.{going_by, finished_by, going_after, finished_after, going_not_finished, undecided_not_going}

-- ---- moments

-- when x is due, and since when it rests, after a record
abbrev pub due_by : (retry now : ℕ) → SessionRecord → ℕ → ℕ → ℕ
due_by retry now (log.Decided xid how) x before = if xid.0 == x then now else before
due_by retry now (log.Ended xid branch) x before = if xid.0 == x then now else before
due_by retry now (log.Retrying xid) x before = if xid.0 == x then now + retry else before
due_by retry now _ x before = before

abbrev pub rested_by : (now : ℕ) → SessionRecord → ℕ → ℕ → ℕ
rested_by now (log.Finished xid) x before = if xid.0 == x then now else before
rested_by now _ x before = before

-- the moment of a transaction that is planned
abbrev planned_at : Bool → ℕ → Option ℕ
planned_at going moment = if going then Some moment else None

abbrev rests_at : Bool → ℕ → Option ℕ
rests_at finished since = if finished then Some since else None

put_new : (b going : Bool) (at before : ℕ) (o : Option ℕ) → o ≡ planned_at going before → cond b (Some at) o ≡ planned_at (if b then true else going) (if b then at else before)
put_new true going at before o h = refl
put_new false going at before o h = h

put_again : (b going : Bool) (at before : ℕ) (o : Option ℕ) → (b ≡ true → going ≡ true) → o ≡ planned_at going before → cond b (Some at) o ≡ planned_at going (if b then at else before)
put_again true going at before o is h = sym (ap (λ (g : Bool). planned_at g at) (is refl))
put_again false going at before o is h = h

taken_out : (b going : Bool) (before : ℕ) (o : Option ℕ) → o ≡ planned_at going before → cond b None o ≡ planned_at (if b then false else going) before
taken_out true going before o h = refl
taken_out false going before o h = h

rest_put : (b finished : Bool) (now before : ℕ) (o : Option ℕ) → o ≡ rests_at finished before
    → cond b (Some now) o ≡ rests_at (if b then true else finished) (if b then now else before)
rest_put true finished now before o h = refl
rest_put false finished now before o h = h

rest_out : (b finished : Bool) (before : ℕ) (o : Option ℕ) → o ≡ rests_at finished before → cond b None o ≡ rests_at (if b then false else finished) before
rest_out true finished before o h = refl
rest_out false finished before o h = h

planned_some : (going : Bool) (moment : ℕ) (o : Option ℕ) → o ≡ planned_at going moment → going ≡ true → is_some o ≡ true
planned_some true moment o h e = ap is_some h
planned_some false moment o h e = false_true e

-- put in and taken out again
put_back : (b : Bool) (now : ℕ) (o : Option ℕ) → (b ≡ true → o ≡ None) → cond b None (cond b (Some now) o) ≡ o
put_back true now o none = sym (none refl)
put_back false now o none = refl

none_by : (going : Bool) (moment : ℕ) (o : Option ℕ) → o ≡ planned_at going moment → going ≡ false → o ≡ None
none_by true moment o h e = false_true (sym e)
none_by false moment o h e = h

none_resting : (finished : Bool) (since : ℕ) (o : Option ℕ) → o ≡ rests_at finished since → finished ≡ false → o ≡ None
none_resting true since o h e = false_true (sym e)
none_resting false since o h e = h

-- ---- after a record

module _ (memory : Snapshot) (m : Moments) (rs : List SessionRecord) (due_at rested : ℕ → ℕ) (t : Tracks memory m rs due_at rested) (now : ℕ) (in_time : now < 2 ^ 64) where
  -- a record that may come by the memory may come by the records
  pub may_by : (r : SessionRecord) → may_come memory r ≡ true → May rs r
  may_by r e = sym (may_alike rs t.allowed r) ∙ ap (λ s. may_come s r) (sym t.known) ∙ e

  pub may_is : (r : SessionRecord) → may_come memory r ≡ may rs r
  may_is r = ap (λ s. may_come s r) t.known ∙ may_alike rs t.allowed r

  goes_at : (xid : Xid) (x : ℕ) → is_going rs xid.0 ≡ true → (xid.0 == x) ≡ true → is_going rs x ≡ true
  goes_at xid x g e = moved (λ n. is_going rs n ≡ true) xid.0 x g e

  pub planned_going : (x : ℕ) → is_going rs x ≡ true → is_planned m.turns x ≡ true
  planned_going x g = planned_some (is_going rs x) (due_at x) (moment_of m.turns x) (t.planned x) g

  pub planned_for : (r : SessionRecord) → May rs r → IsPlannedFor r m.turns
  planned_for (log.Ended xid branch) may = planned_going xid.0 (and_left (is_going rs xid.0) (is_some (unended_branch rs xid.0 branch.0)) may)
  planned_for (log.Retrying xid) may = planned_going xid.0 (retry_going rs xid.0 may)
  planned_for _ may = tt

  module _ (retry : ℕ) where
    -- the moments after a record
    abbrev next : SessionRecord → Moments
    next r = settled retry now r (prepared r now m)

    turns_after : (r : SessionRecord) → May rs r → (x : ℕ) → moment_of (next r).turns x ≡ planned_at (going_by r x (is_going rs x)) (due_by retry now r x (due_at x))
    turns_after (log.Begun xid manager begun timeout) may x = t.planned x
    turns_after (log.Granted xid branch resource call ticket kind hold) may x = t.planned x
    turns_after (log.Decided xid how) may x =
        moment_with m.turns xid.0 now x ∙ put_new (xid.0 == x) (is_going rs x) now (due_at x) (moment_of m.turns x) (t.planned x)
    turns_after (log.Ended xid branch) may x =
        moment_with m.turns xid.0 now x ∙ put_again (xid.0 == x) (is_going rs x) now (due_at x) (moment_of m.turns x)
        (goes_at xid x (and_left (is_going rs xid.0) (is_some (unended_branch rs xid.0 branch.0)) may)) (t.planned x)
    turns_after (log.Retrying xid) may x =
        moment_with m.turns xid.0 (now + retry) x
        ∙ put_again (xid.0 == x) (is_going rs x) (now + retry) (due_at x) (moment_of m.turns x) (goes_at xid x (retry_going rs xid.0 may)) (t.planned x)
    turns_after (log.Failed xid branch stmt) may x =
        moment_without m.turns xid.0 x t.turns_in_order ∙ taken_out (xid.0 == x) (is_going rs x) (due_at x) (moment_of m.turns x) (t.planned x)
    turns_after (log.Finished xid) may x =
        moment_without m.turns xid.0 x t.turns_in_order ∙ taken_out (xid.0 == x) (is_going rs x) (due_at x) (moment_of m.turns x) (t.planned x)
    turns_after (log.Forgot xid) may x = t.planned x

    rests_by : (r : SessionRecord) (x : ℕ) → moment_of (next r).rests x ≡ rests_at (finished_by r x (is_finished rs x)) (rested_by now r x (rested x))
    rests_by (log.Finished xid) x = moment_with m.rests xid.0 now x ∙ rest_put (xid.0 == x) (is_finished rs x) now (rested x) (moment_of m.rests x) (t.resting x)
    rests_by (log.Forgot xid) x = moment_without m.rests xid.0 x t.rests_in_order ∙ rest_out (xid.0 == x) (is_finished rs x) (rested x) (moment_of m.rests x) (t.resting x)
    rests_by (log.Begun xid manager begun timeout) x = t.resting x
    rests_by (log.Granted xid branch resource call ticket kind hold) x = t.resting x
    rests_by (log.Decided xid how) x = t.resting x
    rests_by (log.Ended xid branch) x = t.resting x
    rests_by (log.Retrying xid) x = t.resting x
    rests_by (log.Failed xid branch stmt) x = t.resting x

    turns_ordered : (r : SessionRecord) → AreInOrder (next r).turns
    turns_ordered (log.Begun xid manager begun timeout) = t.turns_in_order
    turns_ordered (log.Granted xid branch resource call ticket kind hold) = t.turns_in_order
    turns_ordered (log.Decided xid how) = in_order_with m.turns xid.0 now t.turns_in_order
    turns_ordered (log.Ended xid branch) = in_order_with m.turns xid.0 now t.turns_in_order
    turns_ordered (log.Retrying xid) = in_order_with m.turns xid.0 (now + retry) t.turns_in_order
    turns_ordered (log.Failed xid branch stmt) = in_order_without m.turns xid.0 t.turns_in_order
    turns_ordered (log.Finished xid) = in_order_without m.turns xid.0 t.turns_in_order
    turns_ordered (log.Forgot xid) = t.turns_in_order

    rests_ordered : (r : SessionRecord) → AreInOrder (next r).rests
    rests_ordered (log.Begun xid manager begun timeout) = t.rests_in_order
    rests_ordered (log.Granted xid branch resource call ticket kind hold) = t.rests_in_order
    rests_ordered (log.Decided xid how) = t.rests_in_order
    rests_ordered (log.Ended xid branch) = t.rests_in_order
    rests_ordered (log.Retrying xid) = t.rests_in_order
    rests_ordered (log.Failed xid branch stmt) = t.rests_in_order
    rests_ordered (log.Finished xid) = in_order_with m.rests xid.0 now t.rests_in_order
    rests_ordered (log.Forgot xid) = in_order_without m.rests xid.0 t.rests_in_order

    pub tracks_made : (r : SessionRecord) → may_come memory r ≡ true → Tracks (after r memory) (next r) (r ∷ rs) (λ x. due_by retry now r x (due_at x)) (λ x. rested_by now r x (rested x))
    tracks_made r e = let may = may_by r e in record {
      allowed = (t.allowed, may);
      known = ap (after r) t.known ∙ sym (snapshot_after rs t.allowed r may);
      turns_in_order = turns_ordered r;
      rests_in_order = rests_ordered r;
      planned = λ x. turns_after r may x ∙ ap (λ b. planned_at b (due_by retry now r x (due_at x))) (sym (going_after rs t.allowed x r may));
      resting = λ x. rests_by r x ∙ ap (λ b. rests_at b (rested_by now r x (rested x))) (sym (finished_after rs t.allowed x r may));
    }

  -- ---- after a record that wasn't made

  abbrev back : SessionRecord → Moments
  back r = withdrawn r (prepared r now m)

  turns_back : (r : SessionRecord) → May rs r → (x : ℕ) → moment_of (back r).turns x ≡ moment_of m.turns x
  turns_back (log.Decided xid how) may x =
      moment_without (with_plan m.turns xid.0 now) xid.0 x (in_order_with m.turns xid.0 now t.turns_in_order)
      ∙ ap (cond (xid.0 == x) None) (moment_with m.turns xid.0 now x)
      ∙ put_back (xid.0 == x) now (moment_of m.turns x)
      (λ e. none_by (is_going rs x) (due_at x) (moment_of m.turns x) (t.planned x) (undecided_not_going rs t.allowed x (moved (λ n. may_decide rs n ≡ true) xid.0 x may e)))
  turns_back (log.Begun xid manager begun timeout) may x = refl
  turns_back (log.Granted xid branch resource call ticket kind hold) may x = refl
  turns_back (log.Ended xid branch) may x = refl
  turns_back (log.Retrying xid) may x = refl
  turns_back (log.Failed xid branch stmt) may x = refl
  turns_back (log.Finished xid) may x = refl
  turns_back (log.Forgot xid) may x = refl

  rests_back : (r : SessionRecord) → May rs r → (x : ℕ) → moment_of (back r).rests x ≡ moment_of m.rests x
  rests_back (log.Finished xid) may x =
      moment_without (with_plan m.rests xid.0 now) xid.0 x (in_order_with m.rests xid.0 now t.rests_in_order)
      ∙ ap (cond (xid.0 == x) None) (moment_with m.rests xid.0 now x)
      ∙ put_back (xid.0 == x) now (moment_of m.rests x)
      (λ e. none_resting (is_finished rs x) (rested x) (moment_of m.rests x) (t.resting x)
      (going_not_finished rs t.allowed x (goes_at xid x (and_left (is_going rs xid.0) (is_empty (unended rs xid.0)) may) e)))
  rests_back (log.Begun xid manager begun timeout) may x = refl
  rests_back (log.Granted xid branch resource call ticket kind hold) may x = refl
  rests_back (log.Ended xid branch) may x = refl
  rests_back (log.Retrying xid) may x = refl
  rests_back (log.Failed xid branch stmt) may x = refl
  rests_back (log.Decided xid how) may x = refl
  rests_back (log.Forgot xid) may x = refl

  turns_back_ordered : (r : SessionRecord) → AreInOrder (back r).turns
  turns_back_ordered (log.Decided xid how) = in_order_without (with_plan m.turns xid.0 now) xid.0 (in_order_with m.turns xid.0 now t.turns_in_order)
  turns_back_ordered (log.Begun xid manager begun timeout) = t.turns_in_order
  turns_back_ordered (log.Granted xid branch resource call ticket kind hold) = t.turns_in_order
  turns_back_ordered (log.Ended xid branch) = t.turns_in_order
  turns_back_ordered (log.Retrying xid) = t.turns_in_order
  turns_back_ordered (log.Failed xid branch stmt) = t.turns_in_order
  turns_back_ordered (log.Finished xid) = t.turns_in_order
  turns_back_ordered (log.Forgot xid) = t.turns_in_order

  rests_back_ordered : (r : SessionRecord) → AreInOrder (back r).rests
  rests_back_ordered (log.Finished xid) = in_order_without (with_plan m.rests xid.0 now) xid.0 (in_order_with m.rests xid.0 now t.rests_in_order)
  rests_back_ordered (log.Begun xid manager begun timeout) = t.rests_in_order
  rests_back_ordered (log.Granted xid branch resource call ticket kind hold) = t.rests_in_order
  rests_back_ordered (log.Ended xid branch) = t.rests_in_order
  rests_back_ordered (log.Retrying xid) = t.rests_in_order
  rests_back_ordered (log.Failed xid branch stmt) = t.rests_in_order
  rests_back_ordered (log.Decided xid how) = t.rests_in_order
  rests_back_ordered (log.Forgot xid) = t.rests_in_order

  pub tracks_back : (r : SessionRecord) → may_come memory r ≡ true → Tracks memory (back r) rs due_at rested
  tracks_back r e = let may = may_by r e in record {
    allowed = t.allowed;
    known = t.known;
    turns_in_order = turns_back_ordered r;
    rests_in_order = rests_back_ordered r;
    planned = λ x. turns_back r may x ∙ t.planned x;
    resting = λ x. rests_back r may x ∙ t.resting x;
  }

  -- ---- a transaction that is planned again

  pub tracks_again : (x at : ℕ) (m' : Moments) → is_going rs x ≡ true → m'.turns ≡ with_plan m.turns x at → m'.rests ≡ m.rests
      → Tracks memory m' rs (λ q. if x == q then at else due_at q) rested
  tracks_again x at m' g turns rests = record {
    allowed = t.allowed;
    known = t.known;
    turns_in_order = subst AreInOrder (sym turns) (in_order_with m.turns x at t.turns_in_order);
    rests_in_order = subst AreInOrder (sym rests) t.rests_in_order;
    planned = λ q. ap (λ ps. moment_of ps q) turns ∙ moment_with m.turns x at q
        ∙ put_again (x == q) (is_going rs q) at (due_at q) (moment_of m.turns q) (λ e. moved (λ k. is_going rs k ≡ true) x q g e) (t.planned q);
    resting = λ q. ap (λ ps. moment_of ps q) rests ∙ t.resting q;
  }

-- the same of equal things
pub tracks_same : (memory memory' : Snapshot) (m m' : Moments) (rs rs' : List SessionRecord) (due_at due_at' rested rested' : ℕ → ℕ) → Tracks memory m rs due_at rested
    → memory' ≡ memory → m' ≡ m → rs' ≡ rs → ((x : ℕ) → due_at' x ≡ due_at x) → ((x : ℕ) → rested' x ≡ rested x) → Tracks memory' m' rs' due_at' rested'
tracks_same memory memory' m m' rs rs' due_at due_at' rested rested' t same_memory same_moments same_records same_due same_rested = record {
  allowed = subst Allowed (sym same_records) t.allowed;
  known = same_memory ∙ t.known ∙ ap snapshot_of (sym same_records);
  turns_in_order = subst (λ k. AreInOrder k.turns) (sym same_moments) t.turns_in_order;
  rests_in_order = subst (λ k. AreInOrder k.rests) (sym same_moments) t.rests_in_order;
  planned = λ x. ap (λ (k : Moments). moment_of k.turns x) same_moments ∙ t.planned x ∙ ap (λ l. planned_at (is_going l x) (due_at x)) (sym same_records) ∙ ap (planned_at (is_going rs' x)) (sym (same_due x));
  resting = λ x. ap (λ (k : Moments). moment_of k.rests x) same_moments ∙ t.resting x ∙ ap (λ l. rests_at (is_finished l x) (rested x)) (sym same_records) ∙ ap (rests_at (is_finished rs' x)) (sym (same_rested x));
}

-- ---- own entries

abbrev stepped : Input → ℕ → Act → Option Outgoing → Own
stepped given now done sent = own_step given now (record { act = done; sent = sent })

-- the due moments go by the retry
same_due : (retry retry' : ℕ) (owns : Course) (q : ℕ) → retry' ≡ retry → due_on retry' owns q ≡ due_on retry owns q
same_due retry retry' owns q e = ap (λ r. due_on r owns q) e

pub stands_made : (t t' : Knowledge) (owns : Course) (now : ℕ) (r : SessionRecord) (given : Input) (d : Durable) (sent : Option Outgoing)
    → Follows t owns → now < 2 ^ 64 → Makes t t' r now → session_record now (Given given) d ≡ Some r
    → ((x before : ℕ) → due_by_durable t.retry now d x before ≡ due_by t.retry now r x before)
    → ((x before : ℕ) → rests_after now (act.Durable d) x before ≡ rested_by now r x before)
    → Follows t' (with_own (stepped given now (act.Durable d) sent) owns)
stands_made t t' owns now r given d sent s in_time makes asked dues rests = record {
  tracks = tracks_same (after r t.memory) t'.memory (settled t.retry now r (prepared r now t.moments)) t'.moments (r ∷ records owns) (added (session_record now (Given given) d) (records owns))
      (λ x. due_by t.retry now r x (due_on t.retry owns x)) (λ x. due_by_durable t'.retry now d x (due_on t'.retry owns x))
      (λ x. rested_by now r x (rests_on owns x)) (λ x. rests_after now (act.Durable d) x (rests_on owns x))
      (tracks_made t.memory t.moments (records owns) (due_on t.retry owns) (rests_on owns) s.tracks now in_time t.retry r makes.may)
      makes.memory (makes.moments planned) (ap (λ o. added o (records owns)) asked)
      (λ x. ap (λ k. due_by_durable k now d x (due_on k owns x)) makes.same.retry ∙ dues x (due_on t.retry owns x))
      (λ x. rests x (rests_on owns x));
}
  where
    planned : IsPlannedFor r t.moments.turns
    planned = planned_for t.memory t.moments (records owns) (due_on t.retry owns) (rests_on owns) s.tracks now in_time r
        (may_by t.memory t.moments (records owns) (due_on t.retry owns) (rests_on owns) s.tracks now in_time r makes.may)

-- acts at which nothing that is kept changes
abbrev pub is_quiet : Act → Bool
is_quiet (act.Known xid) = true
is_quiet (act.Regranted xid branch) = true
is_quiet (act.Conflict xid key holder rolling) = true
is_quiet (act.Closed xid status) = true
is_quiet (act.Told xid status) = true
is_quiet (act.Held key holder) = true
is_quiet act.Free = true
is_quiet act.Ignored = true
is_quiet act.Nothing = true
is_quiet _ = false

pub quiet_unrecorded : (done : Act) → is_quiet done ≡ true → is_unrecorded done ≡ true
quiet_unrecorded (act.Durable d) q = q
quiet_unrecorded (act.Down kept at) q = q
quiet_unrecorded (act.Restarted kept) q = q
quiet_unrecorded act.Armed q = q
quiet_unrecorded _ q = refl

-- they ask for nothing
pub quiet_asks : (done : Act) → is_quiet done ≡ true → None ≡ asked_act done
quiet_asks (act.Durable d) q = false_true q
quiet_asks (act.Down kept at) q = false_true q
quiet_asks _ q = refl

-- and plan nothing anew
pub quiet_again : (done : Act) → is_quiet done ≡ true → None ≡ again_after done
quiet_again (act.Asked xid branch) q = false_true q
quiet_again (act.Retry xid branch) q = false_true q
quiet_again _ q = refl

pub stands_quiet : (t : Knowledge) (owns : Course) (now : ℕ) (given : Input) (done : Act) (sent : Option Outgoing) → is_quiet done ≡ true → Follows t owns → Follows t (with_own (stepped given now done sent) owns)
stands_quiet t owns now given (act.Known xid) sent q s = record { tracks = s.tracks }
stands_quiet t owns now given (act.Regranted xid branch) sent q s = record { tracks = s.tracks }
stands_quiet t owns now given (act.Conflict xid key holder rolling) sent q s = record { tracks = s.tracks }
stands_quiet t owns now given (act.Closed xid status) sent q s = record { tracks = s.tracks }
stands_quiet t owns now given (act.Told xid status) sent q s = record { tracks = s.tracks }
stands_quiet t owns now given (act.Held key holder) sent q s = record { tracks = s.tracks }
stands_quiet t owns now given act.Free sent q s = record { tracks = s.tracks }
stands_quiet t owns now given act.Ignored sent q s = record { tracks = s.tracks }
stands_quiet t owns now given act.Nothing sent q s = record { tracks = s.tracks }
stands_quiet t owns now given _ sent q s = false_true q

-- a branch was asked, or is to be asked again
again : (t t' : Knowledge) (owns : Course) (now : ℕ) (xid : Xid) → Follows t owns → now < 2 ^ 64 → PlansAgain t t' xid.0 now → is_going (records owns) xid.0 ≡ true
    → Tracks t'.memory t'.moments (records owns) (λ q. if xid.0 == q then now + t'.retry else due_on t'.retry owns q) (rests_on owns)
again t t' owns now xid s in_time plans going =
    tracks_same t.memory t'.memory t'.moments t'.moments (records owns) (records owns)
    (λ q. if xid.0 == q then now + t.retry else due_on t.retry owns q) (λ q. if xid.0 == q then now + t'.retry else due_on t'.retry owns q) (rests_on owns) (rests_on owns)
    (tracks_again t.memory t.moments (records owns) (due_on t.retry owns) (rests_on owns) s.tracks now in_time xid.0 (now + t.retry) t'.moments going plans.turns plans.rests)
    plans.memory refl refl (λ q. ap (λ k. if xid.0 == q then now + k else due_on k owns q) plans.same.retry) (λ q. refl)

pub stands_asked : (t t' : Knowledge) (owns : Course) (now : ℕ) (given : Input) (xid : Xid) (branch : BranchId) (sent : Option Outgoing)
    → Follows t owns → now < 2 ^ 64 → PlansAgain t t' xid.0 now → is_going (records owns) xid.0 ≡ true → Follows t' (with_own (stepped given now (act.Asked xid branch) sent) owns)
stands_asked t t' owns now given xid branch sent s in_time plans going = record { tracks = again t t' owns now xid s in_time plans going }

pub stands_retry : (t t' : Knowledge) (owns : Course) (now : ℕ) (given : Input) (xid : Xid) (branch : BranchId) (sent : Option Outgoing)
    → Follows t owns → now < 2 ^ 64 → PlansAgain t t' xid.0 now → is_going (records owns) xid.0 ≡ true → Follows t' (with_own (stepped given now (act.Retry xid branch) sent) owns)
stands_retry t t' owns now given xid branch sent s in_time plans going = record { tracks = again t t' owns now xid s in_time plans going }

-- ---- settings

pub same_times : (t : Knowledge) → SameTimes t t
same_times t = record { retry = refl; forget = refl }
