-- The verdict on one entry, by what is found of it.
use Rattle.std.proofs.Common.{◌≡◌, ◌≤◌, ◌<◌, ℕ, suc, Bool, true, false, List, [], ◌∷◌, length, Option, Some, None, option_map, Result, Ok, Err, refl, sym, ap, subst, ◌∙◌, arith}
use Rattle.std.specs.Prelude.{IfOk}
use Rattle.std.specs.Bool.{Decides}
use Rattle.seata_types.specs.declared.acts.Act.TheVariants as act
use Rattle.seata_types.specs.declared.ids.Place.{Place}
use Rattle.seata_types.specs.declared.ids.Place.TheVariants as place
use Rattle.seata_types.specs.declared.copies.NoMemory.{NoMemory}
use Rattle.seata_types.specs.declared.messages.Outgoing.{Outgoing}
use Rattle.seata_types.specs.declared.messages.Step.{Step}
use Rattle.history_rules.specs.Own.{Event, Own, still}
use Rattle.history_rules.specs.Nodes.{World, no_past}
use Rattle.history_rules.specs.Histories.{Moment, ComesToNone, IsDone, last_now, own, own_if, same_place}
use Rattle.history_text.specs.declared.entries.Entry.{Entry}
use Rattle.history_text.specs.Notes.{sent_of}
use Rattle.history_text.specs.Worlds.{world_of}
use Rattle.judged_devices.specs.declared.events.Event.{Event as Brought}
use Rattle.judged_devices.specs.declared.limits.TheConstants.{OWN_ENTRIES}
use Rattle.judged_devices.specs.Taking.{event_of}
use Rattle.judged_bench.specs.Following as bench
use Rattle.judged_bench.specs.Leaving.{ServesEvent}
use Rattle.judged_desk.specs.Following as desk
use Rattle.judged_talk.specs.Following as talk
use Rattle.verdict_law.specs.declared.rules.Rule.{Rule}
use Rattle.verdict_law.specs.declared.rules.Rule.TheVariants as rule
use Rattle.verdict_law.specs.Verdicts.{Comes, ComesAt, IsInOrder, IsTimely, Sends, event_at, moment_at, reason_of}
use Rattle.history_audit.specs.declared.kept.Found.{Found}
use Rattle.history_audit.specs.declared.kept.Found.TheVariants as found
use Rattle.history_audit.specs.declared.kept.Judge.{Judge}
use Rattle.history_audit.specs.declared.kept.Letters.{Letters}
use Rattle.history_audit.specs.declared.kept.Nodes.{Nodes}
use Rattle.history_audit.specs.Finding.{Finds}
use Rattle.history_audit.specs.Judging.{CanJudge, Enters, Follows, HasFound, HasJudged, HasRested, HasSent, Judged, Keeps, clock_after}
use Rattle.history_audit.specs.Letters.{AddsLetter, AreLetters}
use Rattle.history_audit.specs.Nodes.{AreNodes, AreParts, NodesCan}
use Rattle.history_audit.proofs.LetterLaws.{next_letters}
use Rattle.history_audit.proofs.NodeLaws.{listed_at, own_here, own_there}
use Rattle.history_audit.proofs.Served.{served}

-- ---- room

own_fits : (b : Bool) (event : Option Event) (m : Moment) (os : List Own) (n : ℕ) → length os ≤ n → length (own_if b event m os) ≤ suc n
own_fits true (Some event) m os n low = omega (arith, low)
own_fits true None m os n low = omega (arith, low)
own_fits false event m os n low = omega (arith, low)

length_own : (p : Place) (ms : List Moment) → length (own p ms) ≤ length ms
length_own p [] = omega arith
length_own p (m ∷ ms) = own_fits (same_place p m.place) m.event m (own p ms) (length ms) (length_own p ms)

-- a part has room where its history has
room_at : (p : Place) (ms : List Moment) (taken : ℕ) → taken ≡ length (own p ms) → length ms < OWN_ENTRIES → taken < OWN_ENTRIES
room_at p ms taken is low = let most = length_own p ms in omega (arith, is, low, most)

module _ (j : Judge) (c : CanJudge j) where
  abbrev world : World
  world = world_of c.scenario

  pub nodes_can : NodesCan j.nodes
  nodes_can = record {
    desk = ((world.times, own place.Tc c.history, c.follows.nodes.desk), room_at place.Tc c.history j.nodes.desk.device.taken c.follows.nodes.desk.device.taken c.room);
    benches = λ k b kept.
        let (s, listed) = listed_at place.Res bench.Follows world.resources j.nodes.benches.items c.history c.follows.nodes.benches (suc k) b kept in
        let follows = c.follows.nodes.benches.each (suc k) s b listed kept in
        ((s, own (place.Res (suc k)) c.history, follows), room_at (place.Res (suc k)) c.history b.device.taken follows.device.taken c.room);
    talks = λ k t kept.
        let (m, listed) = listed_at place.Man talk.Follows world.managers j.nodes.talks.items c.history c.follows.nodes.talks (suc k) t kept in
        let follows = c.follows.nodes.talks.each (suc k) m t listed kept in
        ((m, own (place.Man (suc k)) c.history, follows), room_at (place.Man (suc k)) c.history t.taken follows.taken c.room);
  }

  -- what an entry brings is served
  pub served_by : (e : Entry) (comes : Brought) → ((ms : List Moment) → AreLetters j.letters ms → Some (event_of comes) ≡ event_at ms e) → ServesEvent comes
  served_by e comes brought = served c.scenario c.runs c.history c.legal e.place (reason_of e.cause) comes (sym (brought c.history c.follows.letters))

-- ---- an entry that brings nothing to a node

own_none : (b : Bool) (m : Moment) (os : List Own) → own_if b None m os ≡ os
own_none true m os = refl
own_none false m os = refl

module _ (w : World) (ms : List Moment) (e : Entry) (none : event_at ms e ≡ None) where
  own_quiet : (p : Place) (step : Step) → own p (moment_at ms e step ∷ ms) ≡ own p ms
  own_quiet p step =
      ap (λ (event : Option Event). own_if (same_place p e.place) event (moment_at ms e step) (own p ms)) none
      ∙ own_none (same_place p e.place) (moment_at ms e step) (own p ms)

  quiet_parts : {S P : Type 0} (at : ℕ → Place) (Part : S → List Own → P → Type 0) (settings : List S) (parts : List P) (step : Step)
      → AreParts at Part settings parts ms → AreParts at Part settings parts (moment_at ms e step ∷ ms)
  quiet_parts at Part settings parts step are = record {
    same = are.same;
    each = λ n s p listed kept. subst (λ os. Part s os p) (sym (own_quiet (at n) step)) (are.each n s p listed kept);
  }

  quiet_nodes : (n : Nodes) (step : Step) → AreNodes w n ms → AreNodes w n (moment_at ms e step ∷ ms)
  quiet_nodes n step are = record {
    desk = subst (λ os. desk.Follows w.times os n.desk) (sym (own_quiet place.Tc step)) are.desk;
    benches = quiet_parts place.Res bench.Follows w.resources n.benches.items step are.benches;
    talks = quiet_parts place.Man talk.Follows w.managers n.talks.items step are.talks;
  }

  comes_none : ComesToNone ms e.place (reason_of e.cause) → Comes w no_past ms e
  comes_none c = subst (ComesAt w no_past ms e) (sym none) c

  none_comes : Comes w no_past ms e → ComesToNone ms e.place (reason_of e.cause)
  none_comes c = subst (ComesAt w no_past ms e) none c

  none_done : (step : Step) → IsDone w no_past ms (moment_at ms e step) (event_at ms e) → step ≡ still act.Nothing
  none_done step d = (subst (IsDone w no_past ms (moment_at ms e step)) none d).1

-- the cause can't come there
pub rests_nowhere : (j : Judge) (e : Entry) (r : Bool) → r ≡ false → ((ms : List Moment) → AreLetters j.letters ms → Decides r (ComesToNone ms e.place (reason_of e.cause))) → HasRested j e (found.Breaks rule.Cause)
rests_nowhere j e r isnt decides w ms letters nodes none comes =
    absurd (let bad : false ≡ true = sym isnt ∙ (decides ms letters).1 (none_comes w ms e none comes) in cc)

module _ (j : Judge) (e : Entry) (r q : Bool) (is_there : r ≡ true) (decides : (ms : List Moment) → AreLetters j.letters ms → Decides r (ComesToNone ms e.place (reason_of e.cause))) (act_decides : Decides q (act.Nothing ≡ e.act)) where
  -- something was done
  pub rests_not : q ≡ false → HasRested j e (found.Breaks rule.Act)
  rests_not isnt w ms letters nodes none = (
    comes_none w ms e none ((decides ms letters).0 is_there),
    λ step does.
        let is : step ≡ still act.Nothing = none_done w ms e none step does.done in
        absurd (let bad : false ≡ true = sym isnt ∙ act_decides.1 (sym (ap (λ (z : Step). z.act) is) ∙ does.same_act) in cc),
  )

  pub rests : q ≡ true → HasRested j e (found.Does (still act.Nothing))
  rests is w ms letters nodes none =
      let comes = (decides ms letters).0 is_there in (
        comes_none w ms e none comes,
        record { done = subst (IsDone w no_past ms (moment_at ms e (still act.Nothing))) (sym none) (comes, refl); same_act = act_decides.0 is },
        quiet_nodes w ms e none j.nodes (still act.Nothing) nodes,
      )

-- ---- what is found of an entry

module _ (j : Judge) (e : Entry) where
  pub finds_all : (nodes : Nodes) (comes : Brought) → ((ms : List Moment) → AreLetters j.letters ms → Some (event_of comes) ≡ event_at ms e) → (r : Result Found NoMemory)
      → IfOk r (λ f. (w : World) (ms : List Moment) → AreNodes w j.nodes ms → event_at ms e ≡ Some (event_of comes) → Finds w ms e (AreNodes w nodes) f)
      → IfOk r (HasFound j (record j { nodes = nodes }) e)
  finds_all nodes comes brought (Ok f) finds = record { newest = refl; clock = refl; letters = refl; finds = λ w ms letters are. finds w ms are (sym (brought ms letters)) }
  finds_all nodes comes brought (Err error) finds = tt

  pub finds_rest : (f : Found) → ((ms : List Moment) → AreLetters j.letters ms → None ≡ event_at ms e) → HasRested j e f → HasFound j j e f
  finds_rest f none rested = record { newest = refl; clock = refl; letters = refl; finds = λ w ms letters are. rested w ms letters are (sym (none ms letters)) }

-- ---- what was sent

module _ (e : Entry) (step : Step) (sent : Option Outgoing) (is : sent ≡ step.sent) where
  pub sends_not : (same : Bool) → same ≡ false → Decides same (option_map sent_of sent ≡ e.sent) → Sends e step → ⊥
  sends_not same isnt decides sends = absurd (let bad : false ≡ true = sym isnt ∙ decides.1 (ap (option_map sent_of) is ∙ sends) in cc)

  pub sends_as : (same : Bool) → same ≡ true → Decides same (option_map sent_of sent ≡ e.sent) → Sends e step
  sends_as same does decides = ap (option_map sent_of) (sym is) ∙ decides.0 does

  pub all_kept : (old new : Judge) (letters : Letters) → Sends e step → AddsLetter old.letters letters e.stamp e.place sent → Enters (record old { letters = letters }) new e → Keeps old new e step
  all_kept old new letters sends adds enters = record {
    sends = sends;
    newest = enters.newest;
    clock = enters.clock;
    letters = subst (λ (l : Letters). AddsLetter old.letters l e.stamp e.place step.sent) (sym enters.letters) (subst (AddsLetter old.letters letters e.stamp e.place) is adds);
    nodes = enters.nodes;
  }

-- ---- the coordinator's clock

module _ (w : World) (ms : List Moment) (e : Entry) (step : Step) where
  abbrev m : Moment
  m = moment_at ms e step

  clock_here : e.place ≡ place.Tc → Comes w no_past ms e → last_now (own place.Tc (m ∷ ms)) ≡ e.now
  clock_here here comes = by (event_at ms e) refl comes
    where
      by : (event : Option Event) → event_at ms e ≡ event → ComesAt w no_past ms e event → last_now (own place.Tc (m ∷ ms)) ≡ e.now
      by None is comes = absurd (subst (λ p. ComesToNone ms p (reason_of e.cause)) here comes)
      by (Some event) is comes = ap last_now (subst (λ p. own p (m ∷ ms) ≡ record { event = event; now = e.now; step = step } ∷ own p ms) here (own_here w ms e event is step))

  clock_is : (before : ℕ) → before ≡ last_now (own place.Tc ms) → Comes w no_past ms e → clock_after e.place e.now before ≡ last_now (own place.Tc (m ∷ ms))
  clock_is before same comes = by e.place refl
    where
      away : (p : Place) → e.place ≡ p → same_place place.Tc p ≡ false → before ≡ last_now (own place.Tc (m ∷ ms))
      away p at apart = same ∙ ap last_now (sym (own_there place.Tc m ms (ap (same_place place.Tc) at ∙ apart)))

      by : (p : Place) → e.place ≡ p → clock_after p e.now before ≡ last_now (own place.Tc (m ∷ ms))
      by place.Tc at = sym (clock_here at comes)
      by place.Net at = away place.Net at refl
      by (place.Res n) at = away (place.Res n) at refl
      by (place.Man n) at = away (place.Man n) at refl

-- ---- one entry

module _ (old : Judge) (e : Entry) (in_order : (w : World) (ms : List Moment) → Follows w old ms → IsInOrder ms e) (timely : (w : World) (ms : List Moment) → Follows w old ms → IsTimely ms e)
    (middle : Judge) where
  pub breaks : (broken : Rule) → HasFound old middle e (found.Breaks broken) → HasJudged old middle e (Some broken)
  breaks broken f w ms legal follows = by broken (f.finds w ms follows.letters follows.nodes)
    where
      by : (broken : Rule) → Finds w ms e (AreNodes w middle.nodes) (found.Breaks broken) → Judged w ms e (Follows w middle) (Some broken)
      by rule.Stamp never = absurd never
      by rule.Clock never = absurd never
      by rule.Cause never = (in_order w ms follows, timely w ms follows, never)
      by rule.Act (comes, never) = (record { in_order = in_order w ms follows; timely = timely w ms follows; comes = comes }, never)
      by rule.Sent never = absurd never

  pub does : (step : Step) (new : Judge) (verdict : Option Rule) → HasFound old middle e (found.Does step) → HasSent middle new e step verdict → HasJudged old new e verdict
  does step new None f k w ms legal follows =
      let (comes, done, nodes) = f.finds w ms follows.letters follows.nodes in (
        step,
        record { in_order = in_order w ms follows; timely = timely w ms follows; does = done; sends = k.sends },
        record {
          newest = k.newest;
          clock = k.clock ∙ clock_is w ms e step middle.clock (f.clock ∙ follows.clock) comes;
          letters = next_letters middle.letters new.letters ms (moment_at ms e step) (subst (λ l. AreLetters l ms) (sym f.letters) follows.letters) k.letters;
          nodes = subst (λ n. AreNodes w n (moment_at ms e step ∷ ms)) (sym k.nodes) nodes;
        },
      )
  does step new (Some rule.Sent) f k w ms legal follows =
      let (comes, done, nodes) = f.finds w ms follows.letters follows.nodes in
      (record { in_order = in_order w ms follows; timely = timely w ms follows; comes = comes }, (step, done, k))
  does step new (Some rule.Stamp) f k w ms legal follows = absurd k
  does step new (Some rule.Clock) f k w ms legal follows = absurd k
  does step new (Some rule.Cause) f k w ms legal follows = absurd k
  does step new (Some rule.Act) f k w ms legal follows = absurd k

  pub does_all : (step : Step) (new : Judge) → HasFound old middle e (found.Does step) → (r : Result (Option Rule) NoMemory) → IfOk r (HasSent middle new e step) → IfOk r (HasJudged old new e)
  does_all step new f (Ok verdict) k = does step new verdict f k
  does_all step new f (Err error) k = tt
