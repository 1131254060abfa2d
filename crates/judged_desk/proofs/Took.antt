-- What the coordinator took of an entry, by the rules.
use Rattle.std.proofs.Common.{◌≡◌, ◌<◌, ◌^◌, ℕ, Bool, true, false, if◌then◌else◌, List, [], ◌∷◌, Option, Some, None, refl, sym, ap, subst, ◌∙◌, true≢false}
use Rattle.std.specs.Prelude.{IfSome}
use Rattle.std.specs.Option.{option_and_then}
use Rattle.seata_types.specs.declared.acts.Act.{Act}
use Rattle.seata_types.specs.declared.acts.Act.TheVariants as act
use Rattle.seata_types.specs.declared.acts.Durable.{Durable}
use Rattle.seata_types.specs.declared.ids.Xid.{Xid}
use Rattle.seata_types.specs.declared.messages.Input.{Input}
use Rattle.seata_types.specs.declared.messages.Step.{Step}
use Rattle.durable_records.specs.declared.coordinators.SessionRecord.{SessionRecord}
use Rattle.durable_records.specs.SessionOrder.{Allowed}
use Rattle.history_rules.specs.Own.{Event, Given, Stopped, Crashed, Restarted, Left, Own, added, asked_act, kept_part, leaves, still}
use Rattle.history_rules.specs.CoordinatorMemory.{Times, session_asked, session_record, sessions_left}
use Rattle.history_rules.specs.CoordinatorRules.{coordinator_answer}
use Rattle.history_rules.specs.Devices.{down_after, fails, is_down}
use Rattle.history_rules.specs.Nodes.{ComesTo}
use Rattle.history_rules.specs.Nodes.{Coordinator as CoordinatorRole}
use Rattle.session_log.specs.declared.sessions.Snapshot.{Snapshot}
use Rattle.session_log.specs.SnapshotOf.{snapshot_of}
use Rattle.session_memory.specs.Changes.{after, may_come}
use Rattle.coordinator_rules.specs.declared.answers.Answer.{Answer}
use Rattle.coordinator_rules.specs.Answers.{Answers, IsOfRules, IsRecorded, LeavesBy, own_step}
use Rattle.coordinator_rules.specs.Knowledge.{Knowledge, times_in, waits}
use Rattle.coordinator_rules.specs.Tracks.{due_on, records, rests_on}
use Rattle.coordinator_rules.specs.Tracks.{Follows as Knows}
use Rattle.coordinator_rules.proofs.Kept.{tracks_made}
use Rattle.coordinator_rules.proofs.StartLaws.{starts}
use Rattle.judged_devices.specs.declared.devices.Device.{Device}
use Rattle.judged_devices.specs.declared.shown.Back.{Back}
use Rattle.judged_devices.specs.declared.shown.Plain.{Plain}
use Rattle.judged_devices.specs.declared.shown.Plain.TheVariants as plain
use Rattle.judged_devices.specs.declared.shown.Shown.{Shown}
use Rattle.judged_devices.specs.declared.shown.Shown.TheVariants as shown
use Rattle.judged_devices.specs.Looking.{plain_in}
use Rattle.judged_devices.specs.Noting.{IsDevice}
use Rattle.judged_devices.specs.Showing as showing
use Rattle.judged_devices.specs.Showing.{IsOwn, IsPlain, act_of, back_act, down_step, given_in, kept_flight, shown_step, up_step}
use Rattle.judged_devices.specs.Taking.{IsDoneAs, Takes}
use Rattle.judged_devices.proofs.Plainly.{back_down, restart_shows}
use Rattle.judged_devices.proofs.Seen.{plain_seen}
use Rattle.judged_devices.proofs.Taking.{given_is, none_plain, none_shown, not_given, taken_plain, taken_shown}
use Rattle.judged_desk.specs.Leaving.{Answered, IsRuled, IsStood, LeftBy, Stayed, Took, TookBy, fallen, known_after, landed, left_plain, opened}
use Rattle.judged_desk.specs.Standing.{Stands, course, knowledge}
use Rattle.judged_desk.specs.declared.coordinators.Coordinator.{Coordinator}
use Rattle.judged_desk.proofs.Asked.{asked_comes, cut_durable, kept_comes, leaves_still, none_comes}

-- the settings stay
same_times : (asked : Option SessionRecord) (again : Option Xid) (old new : Knowledge) (now : ℕ) → LeavesBy asked again old new now → times_in new ≡ times_in old
same_times (Some r) again old new now makes = λ i. waits (makes.same.retry i) (makes.same.forget i)
same_times None (Some xid) old new now plans = λ i. waits (plans.same.retry i) (plans.same.forget i)
same_times None None old new now stays = ap times_in stays

-- ---- an answer

module _ (t : Times) (os : List Own) (old : Coordinator) (st : Stands t os old) (up : is_down os ≡ false) (given : Input) (now : ℕ) (a : Answer) (by_rules : IsRuled given now old a) where
  abbrev left : Left SessionRecord
  left = sessions_left [] os

  ruled : Answers (knowledge old) given now a
  ruled = by_rules old.retry

  of_rules : IsOfRules (knowledge old) given now a (course os)
  of_rules = ruled.ruled.rules (course os) st.knows

  -- nothing is in flight after it
  no_flight : (done : Act) (asked : Option SessionRecord) → IsRecorded old.memory given now done asked → (leaves done asked left).flight ≡ None
  no_flight done None unrecorded = ap (λ (l : Left SessionRecord). l.flight) (leaves_still None left done unrecorded) ∙ sym st.flight ∙ st.idle up
  no_flight done (Some r) taken = ap (λ (z : Act). (leaves z (Some r) left).flight) taken.is

  -- it is done
  stood : (new : Coordinator) → IsStood now a old new → Stands t (own_step given now a.step ∷ os) new
  stood new (left_so, stays) = record {
    times = same_times a.asked a.again (knowledge old) (knowledge new) now left_so ∙ st.times;
    knows = of_rules.left (knowledge new) left_so;
    flight = stays ∙ st.idle up ∙ sym (ap (λ (o : Option SessionRecord). (leaves a.step.act o left).flight) (sym ruled.ruled.asked) ∙ no_flight a.step.act a.asked ruled.ruled.recorded);
    comes = none_comes new.memory new.flight (stays ∙ st.idle up);
    idle = λ e. stays ∙ st.idle up;
  }

  -- or cut short
  fell : (flight : Durable) → a.step.act ≡ act.Durable flight → Stands t (own_step given now (still (act.Down None (Some flight))) ∷ os) (fallen a old)
  fell flight is = record {
    times = st.times;
    knows = record { tracks = st.knows.tracks };
    flight = ruled.ruled.asked ∙ ap (λ (done : Act). option_and_then (session_record now (Given given)) (asked_act done)) is;
    comes = asked_comes old.memory given now a.step.act a.asked ruled.ruled.recorded;
    idle = λ e. absurd (true≢false e);
  }

-- ---- what it does by itself

coordinator_comes : (t : Times) (event : Event) → ComesTo (CoordinatorRole t []) event
coordinator_comes t (Given given) = tt
coordinator_comes t (Stopped calls) = tt
coordinator_comes t Crashed = tt
coordinator_comes t (Restarted pick calls) = tt

-- it writes no boot, so its restart doesn't fail
lost_back : (b : Back) → still act.Lost ≡ still (back_act b) → ⊥
lost_back b e = let no : ◌≡◌ {A = Option Plain} (Some plain.Lost) (Some (plain.Back b)) = ap (λ (s : Step). plain_in s.act) e ∙ plain_seen (plain.Back b) in absurd cc

whole_by : (event : Event) (fault keeps : Bool) (d : Device) (b : Back) → down_step false fault keeps d event ≡ still (back_act b) → b.cut ≡ false
whole_by (Restarted pick calls) fault keeps d b e = ap (λ (z : Back). z.cut) (restart_shows false (fails fault calls) (kept_flight keeps d.left d.flight) b e)
whole_by (Given given) fault keeps d b e = absurd (lost_back b e)
whole_by (Stopped calls) fault keeps d b e = absurd (lost_back b e)
whole_by Crashed fault keeps d b e = absurd (lost_back b e)

whole : (d : Device) (event : Event) (b : Back) → IsOwn false d event (still (back_act b)) → b.cut ≡ false
whole d event b own =
    whole_by event own.fault own.keeps d b
    (ap (λ (down : Bool). if down then down_step false own.fault own.keeps d event else up_step event) (sym (back_down false d event b own)) ∙ own.is)

-- what is known is what these records say
record IsKnown (rs : List SessionRecord) (s : Snapshot) : Type 0 where
  allowed : Allowed rs
  known : s ≡ snapshot_of rs

abbrev own_with : Event → ℕ → Act → Own
own_with event now done = record { event = event; now = now; step = still done }

module _ (t : Times) (os : List Own) (old : Coordinator) (st : Stands t os old) (event : Event) (now : ℕ) (in_time : now < 2 ^ 64) where
  -- with one record more, if there is one
  more_known : (o : Option SessionRecord) → IfSome o (λ r. may_come old.memory r ≡ true) → IsKnown (added o (sessions_left [] os).records) (known_after o old.memory)
  more_known None may = record { allowed = st.knows.tracks.allowed; known = st.knows.tracks.known }
  more_known (Some r) may =
      let one = tracks_made old.memory old.moments (records (course os)) (due_on old.retry (course os)) (rests_on (course os)) st.knows.tracks now in_time old.retry r may in
      record { allowed = one.allowed; known = one.known }

  -- it is opened again
  back_known : (kept : Option Durable) → IsKnown (added (kept_part kept (sessions_left [] os).flight) (sessions_left [] os).records) (landed kept old).memory
  back_known kept =
      subst (λ (f : Option SessionRecord). IsKnown (added (kept_part kept f) (sessions_left [] os).records) (landed kept old).memory) st.flight
      (more_known (kept_part kept old.flight) (kept_comes old.memory kept old.flight st.comes))

  came_back : (kept : Option Durable) → Stands t (own_with event now (act.Restarted kept) ∷ os) (opened now (landed kept old))
  came_back kept =
      let is = back_known kept in
      let tracks = starts (added (kept_part kept (sessions_left [] os).flight) (sessions_left [] os).records) (landed kept old).memory now is.allowed is.known in_time in record {
        times = st.times;
        knows = record { tracks = tracks };
        flight = refl;
        comes = tt;
        idle = λ e. refl;
      }

  by_back : (kept : Option Durable) (cut : Bool) → cut ≡ false → Stands t (own_with event now (back_act (record { kept = kept; cut = cut })) ∷ os) (opened now (landed kept old))
  by_back kept true e = absurd (true≢false e)
  by_back kept false e = came_back kept

  -- it crashed
  crashed : Stands t (own_with event now (act.Down None None) ∷ os) (record old { flight = None })
  crashed = record {
    times = st.times;
    knows = record { tracks = st.knows.tracks };
    flight = refl;
    comes = tt;
    idle = λ e. refl;
  }

  -- a restart is whole
  abbrev IsWhole : Plain → Type 0
  IsWhole (plain.Back b) = b.cut ≡ false
  IsWhole p = Unit {0}

  stayed : (done : Act) → leaves done (session_asked (own_with event now done)) (sessions_left [] os) ≡ sessions_left [] os
      → Knows (knowledge old) (course (own_with event now done ∷ os)) → down_after done (is_down os) ≡ is_down os → Stands t (own_with event now done ∷ os) old
  stayed done same knows_then down = record {
    times = st.times;
    knows = knows_then;
    flight = st.flight ∙ ap (λ (l : Left SessionRecord). l.flight) (sym same);
    comes = st.comes;
    idle = λ e. st.idle (sym down ∙ e);
  }

  did : (p : Plain) → IsWhole p → Stands t (own_with event now (act_of p) ∷ os) (left_plain now p old)
  did plain.Lost is = stayed act.Lost refl (record { tracks = st.knows.tracks }) refl
  did plain.Armed is = stayed act.Armed refl (record { tracks = st.knows.tracks }) refl
  did plain.Rests is = stayed act.Nothing refl (record { tracks = st.knows.tracks }) refl
  did plain.Crashed is = crashed
  did (plain.Back b) is = by_back b.kept b.cut is

-- ---- an entry

module _ (t : Times) (os : List Own) (now : ℕ) (in_time : now < 2 ^ 64) (d : Device) (is : IsDevice false os d) (old new : Coordinator) (st : Stands t os old) where
  abbrev Kept : List Own → Type 0
  Kept after = Stands t after new

  module _ (given : Input) (up : d.down ≡ false) (done : Act) where
    was_up : is_down os ≡ false
    was_up = sym is.down ∙ up

    module _ (a : Answer) (by_rules : IsRuled given now old a) where
      rule : coordinator_answer t [] os (sessions_left [] os).records now given ≡ a.step
      rule = sym ((of_rules t os old st was_up given now a by_rules).step ∙ ap (λ (z : Times). coordinator_answer z [] os (sessions_left [] os).records now given) st.times)

      left_for : (how : Shown) → showing.IsShown d.left a.step.act done how → LeftBy now how a old new → Stands t (own_step given now (shown_step how a.step) ∷ os) new
      left_for shown.Done shows left_so = stood t os old st was_up given now a by_rules new left_so
      left_for (shown.Cut flight) shows left_so =
          subst (Stands t (own_step given now (still (act.Down None (Some flight))) ∷ os)) (sym left_so) (fell t os old st was_up given now a by_rules flight (cut_durable (fails shows.fault d.left) a.step.act flight shows.so))

    answered_takes : (result : Option Step) → Answered d.left given now done old new result → Takes (CoordinatorRole t []) os (Given given) now done Kept result
    answered_takes (Some step) a =
        let same = rule a.answer a.ruled in
        let does : IsDoneAs (CoordinatorRole t []) os (Given given) now done (shown_step a.how a.answer.step) =
        subst (λ (z : Step). IsDoneAs (CoordinatorRole t []) os (Given given) now done (shown_step a.how z)) same
        (taken_shown (CoordinatorRole t []) os d now is given up done a.how tt (subst (λ (z : Step). showing.Shows d.left z.act done (Some a.how)) (sym same) a.shows)) in (
          subst (IsDoneAs (CoordinatorRole t []) os (Given given) now done) (sym a.is) does,
          subst (λ (z : Step). Stands t (own_step given now z ∷ os) new) (sym a.is) (left_for a.answer a.ruled a.how a.shows a.leaves),
        )
    answered_takes None a =
        let same = rule a.answer a.ruled in
        none_shown (CoordinatorRole t []) os d now is given up done (subst (λ (z : Step). showing.Shows d.left z.act done None) (sym same) a.shows)

  module _ (event : Event) (alone : IsPlain d event) (done : Act) where
    is_whole : (p : Plain) → act_of p ≡ done → IsOwn false d event (still done) → IsWhole t os old st event now in_time p
    is_whole (plain.Back b) same own = whole d event b (subst (λ (z : Act). IsOwn false d event (still z)) (sym same) own)
    is_whole _ same own = tt

    stayed_takes : (result : Option Step) → Stayed d event now done old new result → Takes (CoordinatorRole t []) os event now done Kept result
    stayed_takes (Some step) a =
        let does = taken_plain (CoordinatorRole t []) os d now is event done a.how alone (coordinator_comes t event) a.shows in
        let left = did t os old st event now in_time a.how (is_whole a.how a.shows.0 a.shows.1) in
        let stands_done : Stands t (own_with event now done ∷ os) (left_plain now a.how old) =
        subst (λ (z : Act). Stands t (own_with event now z ∷ os) (left_plain now a.how old)) a.shows.0 left in (
          subst (IsDoneAs (CoordinatorRole t []) os event now done) (sym a.is) does,
          subst (λ (z : Step). Stands t (record { event = event; now = now; step = z } ∷ os) new) (sym a.is) (subst (Stands t (own_with event now done ∷ os)) (sym a.leaves) stands_done),
        )
    stayed_takes None a = none_plain (CoordinatorRole t []) os d now is event done alone a

  pub takes : (event : Event) (done : Act) (result : Option Step) → Took d event now done old new result → Takes (CoordinatorRole t []) os event now done Kept result
  takes event done result took = by (given_in d.down event) refl took
    where
      by : (found : Option Input) → given_in d.down event ≡ found → TookBy found d event now done old new result → Takes (CoordinatorRole t []) os event now done Kept result
      by None e t' = stayed_takes event (not_given d event e) done result t'
      by (Some given) e t' =
          let found = given_is d.down event given e in
          subst (λ (z : Event). Takes (CoordinatorRole t []) os z now done Kept result) (sym found.1) (answered_takes given found.0 done result t')
