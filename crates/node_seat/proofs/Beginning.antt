-- What a seat keeps when it is new, and after the first stop of its node; and that its node made its first entry.
use Rattle.std.proofs.Common.{◌≡◌, ◌⊎◌, inl, inr, ◌+◌, ◌||◌, not, true, false, List, [], ◌∷◌, ◌++◌, slice_get, option_map, Option, Some, None, Result, Ok, Err, OnOk, refl, ap, sym, subst, ◌∙◌, arith, true≢false}
use Rattle.seata_types.specs.declared.messages.Input.{Input}
use Rattle.durable_records.specs.SessionOrder.{is_empty}
use Rattle.frame_codec.specs.Packets.{Sent}
use Rattle.history_rules.specs.Own.{Event, Stopped}
use Rattle.history_rules.specs.CoordinatorMemory.{start}
use Rattle.history_rules.specs.Devices.{is_down}
use Rattle.history_rules.specs.Nodes.{World, Past}
use Rattle.history_rules.specs.Histories.{Moment, Stop, own}
use Rattle.link_queue.specs.Links.{Sending, Taking}
use Rattle.trace_rules.specs.Stops.{NodeStop, calls_of}
use Rattle.node_steps.specs.Nodes.{IsLawful, NodeState, place_of}
use Rattle.history_text.specs.declared.entries.Cause.{Cause}
use Rattle.history_text.specs.declared.entries.Cause.TheVariants as cause
use Rattle.history_text.specs.declared.entries.Entry.{Entry}
use Rattle.history_text.specs.History.{entries, entry_of}
use Rattle.node_seat.specs.Entering.{IsEntered, entry_at, event_by}
use Rattle.node_seat.specs.Naming.{Run}
use Rattle.node_seat.specs.Running.{AreApart, AreUnused, CanServe, IsFreshIn, IsOfRun, IsSeat}
use Rattle.node_seat.specs.Seating.{Seated, new_seat, traced_of}
use Rattle.node_seat.specs.Turns.{AnswersBegin, AnswersTurn, HasDisksToStop, IsBegun, IsHeard, IsTurned, IsUnmoved, MakesEntry, MayTurn, Takes, is_done, moment_of, noted}
use Rattle.node_seat.specs.declared.faults.RunFault.{RunFault}
use Rattle.node_seat.specs.declared.plans.Plan.{Plan}
use Rattle.node_seat.specs.declared.turned.Turned.{Turned}
use Rattle.node_seat.specs.declared.turned.Turned.TheVariants as turned
use Rattle.node_seat.proofs.AfterTurns.{comes, entry_seat, none_lines, noted-node, silent}
use Rattle.node_seat.proofs.Changed.{none_yet}
use Rattle.node_seat.proofs.Going.{can_stop, trace_more}

module _ {N : Type 0} (state : N → NodeState) (w : World) (past : Past) (run : Run) (node : N) (plan : Plan) (takers : List Taking) (senders : List Sending) where
  -- a seat of a replay
  pub new_keeps : (s : Seated N) → s ≡ new_seat false node plan takers senders → IsSeat (state s.node) w past run s
  new_keeps s is = subst (λ (x : Seated N). IsSeat (state x.node) w past run x) (sym is) (record { runs = λ runs. absurd (true≢false (sym runs)); keeps = λ runs. absurd (true≢false (sym runs)) })

  -- a seat of a run
  pub linked_keeps : IsFreshIn w past run (state node) → CanServe plan (state node) → IsOfRun past run (state node) plan takers senders → AreApart takers senders → AreUnused takers senders
      → (s : Seated N) → s ≡ new_seat true node plan takers senders → IsSeat (state s.node) w past run s
  linked_keeps fresh serves of_run apart unused s is =
      let (role, named, new) = fresh in
      subst (λ (x : Seated N). IsSeat (state x.node) w past run x) (sym is) (record {
        runs = λ runs. record {
          goes = record {
            serves = serves;
            apart = apart;
            behind = λ k d below. absurd (omega (arith, below));
            small = omega arith;
            turned = omega arith;
            restarted = omega arith;
            refused = λ k end there. let none = (unused.pushed k end there).1 in omega (arith, none);
            asked = omega arith;
          };
          of_run = of_run;
          counted = tt;
        };
        keeps = λ runs. (
          role,
          named,
          λ told. (
            [],
            record { printed = refl; alone = tt; stands = (new told).0 },
            λ runs. record {
              heard = λ k t there. inl (unused.taken k t there);
              only = λ from none. refl;
              pushed = λ k end there. (unused.pushed k end there).0;
              runs = tt;
              fits = tt;
              calm = λ none. record { restarted = refl; turned = refl; lies = (new told).1; picked = λ pick e. absurd (let no : None ≡ Some pick = e in cc) };
              cause = tt;
            },
          ),
        );
      })

-- ---- the first stop

no_moments : (ms : List Moment) → entries ms ≡ [] → ms ≡ []
no_moments [] e = refl
no_moments (m ∷ ms) e = absurd (by (entries ms) e)
  where
    by : (es : List Entry) → es ++ entry_of m ∷ [] ≡ [] → ⊥
    by [] f = let no : entry_of m ∷ [] ≡ [] = f in cc
    by (x ∷ es) f = let no : x ∷ (es ++ entry_of m ∷ []) ≡ [] = f in cc

module _ {N : Type 0} (state : N → NodeState) (law : (node : N) → IsLawful (state node)) (w : World) (past : Past) (run : Run) (old : Seated N) (is : IsSeat (state old.node) w past run old)
    (unmoved : IsUnmoved old) (has : HasDisksToStop (state old.node) old.plan) where
  runs : old.runs ≡ true
  runs = ap (λ (s : Seated N). s.runs) unmoved

  calm : old.fault ≡ None
  calm = ap (λ (s : Seated N). s.fault) unmoved

  stop_keeps : (stop : NodeStop) (stops : List NodeStop) → old.plan.stops ≡ stop ∷ stops → (made : Seated N) (result : Result (Unit {0}) RunFault)
      → MakesEntry state (record old { stamp = 1 }) made (cause.Stop (calls_of stop)) None result → IsSeat (state made.node) w past run (noted result made)
  stop_keeps stop stops are made result m =
      let running = is.runs runs in
      let none : old.stamp ≡ 0 = ap (λ (s : Seated N). s.stamp) unmoved in
      let few = running.goes.turned in
      let rare = running.goes.restarted in
      let disks = has (ap is_empty are) in
      let role = (is.keeps runs).0 in
      entry_seat state law w past run old running calm 1 old.turns old.restarts (omega (arith, none)) (omega arith) (omega arith) (omega (arith, few, none)) (omega (arith, rare)) (cause.Stop (calls_of stop)) None
      (Stopped (calls_of stop)) refl (can_stop state old running.goes unmoved (calls_of stop) disks) (λ given. disks) role (is.keeps runs).1
      (λ told.
      let (ms, k, l) = (is.keeps runs).2 told in
      let keeps = l runs in
      let counts = keeps.calm calm in
      let nothing : ms ≡ [] = no_moments ms (sym k.printed ∙ ap (λ (s : Seated N). s.trace) unmoved) in (
        ms,
        k,
        comes (state old.node) (start past.sessions) run role old ms keeps calm (omega (arith, none)) old.takers old.next 1 old.turns old.restarts (Stop (calls_of stop)) (Stopped (calls_of stop))
            (none_lines old.takers old.takers (none_yet old.takers)) (silent (Stop (calls_of stop)) (Stopped (calls_of stop)) old.takers old.takers (none_yet old.takers) (λ p. refl)) (λ from n. refl)
            (nothing, ap (λ l. option_map calls_of (slice_get l 0)) are) (sym (ap (λ l. is_down (own (place_of role) l)) nothing)) counts.restarted counts.turned (inl tt),
      ))
      made result m

  pub begin_keeps : (new : Seated N) (result : Result (Unit {0}) RunFault) → AnswersBegin state old new result → IsSeat (state new.node) w past run new
  begin_keeps new result (made, begun, is_new) =
      subst (λ (x : Seated N). IsSeat (state x.node) w past run x) (sym is_new)
      (subst (λ n. IsSeat (state n) w past run (noted result made)) (sym (noted-node result made)) (by old.plan.stops refl begun))
    where
      by : (stops : List NodeStop) → old.plan.stops ≡ stops → IsBegun state stops old made result → IsSeat (state made.node) w past run (noted result made)
      by [] are (done, same) =
          subst (λ (r : Result (Unit {0}) RunFault). IsSeat (state made.node) w past run (noted r made)) (sym done) (subst (λ (x : Seated N). IsSeat (state x.node) w past run x) (sym same) is)
      by (stop ∷ stops) are m = stop_keeps stop stops are made result m

-- ---- the first entry was made

longer : (es : List Entry) (e : Entry) → is_empty (es ++ e ∷ []) ≡ false
longer [] e = refl
longer (x ∷ es) e = refl

more_begun : (old new : List Entry) (stops : List NodeStop) → (new ≡ old) ⊎ ((e : Entry) × (new ≡ old ++ e ∷ [])) → (not (is_empty old) || is_empty stops) ≡ true
    → (not (is_empty new) || is_empty stops) ≡ true
more_begun old new stops (inl same) begun = ap (λ (l : List Entry). not (is_empty l) || is_empty stops) same ∙ begun
more_begun old new stops (inr (e, more)) begun = ap (λ b. not b || is_empty stops) (ap (λ (l : List Entry). is_empty l) more ∙ longer old e)

noted_may : {N A : Type 0} (s : Seated N) (result : Result A RunFault) → MayTurn s → MayTurn (noted result s)
noted_may s (Ok a) may = may
noted_may s (Err missed) may = record { runs = may.runs; begun = may.begun }

module _ {N : Type 0} (state : N → NodeState) where
  entry_more : (s new : Seated N) (why : Cause) (given : Option Input) (event : Event) → event_by why given ≡ Some event → (result : Result (Unit {0}) RunFault)
      → MakesEntry state s new why given result → (new.trace ≡ s.trace) ⊎ ((e : Entry) × (new.trace ≡ s.trace ++ e ∷ []))
  entry_more s new why given event is_event result m = by (trace_more state s new.node new.trace s.stamp (moment_of (state s.node) s) why event m.packet (m.entered.entered event is_event))
    where
      by : (new.trace ≡ s.trace) ⊎ ((e : Entry) × (new.trace ≡ s.trace ++ e ∷ []) × (e.stamp ≡ s.stamp) × (e.now ≡ moment_of (state s.node) s)) → (new.trace ≡ s.trace) ⊎ ((e : Entry) × (new.trace ≡ s.trace ++ e ∷ []))
      by (inl same) = inl same
      by (inr (e, more, at, clock)) = inr (e, more)

  -- after an entry a seat may have turns
  entry_may : (s new : Seated N) (why : Cause) (given : Option Input) (event : Event) → event_by why given ≡ Some event → (result : Result (Unit {0}) RunFault)
      → MakesEntry state s new why given result → s.runs ≡ true → (not (is_empty s.trace) || is_empty s.plan.stops) ≡ true → MayTurn new
  entry_may s new why given event is_event result m runs begun = record {
    runs = ap (λ (x : Seated N). x.runs) m.rest ∙ runs;
    begun = ap (λ (x : Seated N). not (is_empty new.trace) || is_empty x.plan.stops) m.rest
        ∙ more_begun s.trace new.trace s.plan.stops (entry_more s new why given event is_event result m) begun;
  }

  take_may : (old new : Seated N) (result : Result Turned RunFault) → MayTurn old → Takes state old new result → MayTurn new
  take_may old new (Ok turned.Worn) may t = subst MayTurn (sym t.heard.1) (record { runs = may.runs; begun = may.begun })
  take_may old new (Ok turned.Took) may t = entry_may _ new _ _ _ refl (Ok tt) t.heard.made may.runs may.begun
  take_may old new (Ok turned.Restarted) may t = absurd t.heard
  take_may old new (Ok turned.Idle) may t = absurd t.heard
  take_may old new (Err missed) may t = by t.heard
    where
      by : IsHeard state (record old { takers = t.takers; next = t.k + 1 }) new t.took.end.line.from t.packet (Err missed) → MayTurn new
      by (inl d) = entry_may _ new _ _ _ refl (Err missed) d.made may.runs may.begun
      by (inr (same, why)) = subst MayTurn (sym same) (record { runs = may.runs; begun = may.begun })

  turned_may : (old new : Seated N) (result : Result Turned RunFault) → MayTurn old → IsTurned state old new result → MayTurn new
  turned_may old new (Ok turned.Worn) may (inl spent) = subst MayTurn (sym spent.same) may
  turned_may old new (Ok turned.Worn) may (inr t) = take_may old new (Ok turned.Worn) may t
  turned_may old new (Ok turned.Restarted) may r = entry_may _ new _ _ _ refl (Ok tt) r.made may.runs may.begun
  turned_may old new (Ok turned.Took) may t = take_may old new (Ok turned.Took) may t
  turned_may old new (Ok turned.Idle) may r = entry_may _ new _ _ _ refl (Ok tt) r.made may.runs may.begun
  turned_may old new (Err missed) may (inl r) = entry_may _ new _ _ _ refl (Err missed) r.made may.runs may.begun
  turned_may old new (Err missed) may (inr (inl t)) = take_may old new (Err missed) may t
  turned_may old new (Err missed) may (inr (inr r)) = entry_may _ new _ _ _ refl (Err missed) r.made may.runs may.begun

  entry_made : (s new : Seated N) (why : Cause) (given : Option Input) (event : Event) → event_by why given ≡ Some event → (done : Unit {0})
      → MakesEntry state s new why given (Ok done) → (e : Entry) × (new.trace ≡ s.trace ++ e ∷ [])
  entry_made s new why given event is_event done m = by m.packet m.is (m.entered.entered event is_event)
    where
      by : (r : Result (Option Sent) RunFault) → Ok done ≡ is_done r → IsEntered state (traced_of s) (traced_of new) s.stamp (moment_of (state s.node) s) why event r
          → (e : Entry) × (new.trace ≡ s.trace ++ e ∷ [])
      by (Ok packet) is (step, e) = (entry_at s.stamp (state s.node).place (moment_of (state s.node) s) why step, e.printed)
      by (Err missed) is e = absurd (let no : Ok done ≡ Err missed = is in cc)

  pub turn_may : (old new : Seated N) (result : Result Turned RunFault) → MayTurn old → AnswersTurn state old.fault old new result → MayTurn new
  turn_may old new result may answers = by old.fault answers
    where
      by : (missed : Option RunFault) → AnswersTurn state missed old new result → MayTurn new
      by None (made, is_turned, is_new) = subst MayTurn (sym is_new) (noted_may made result (turned_may old made result may is_turned))
      by (Some missed) (answer, same) = subst MayTurn (sym same) may

  pub begin_may : (old new : Seated N) → IsUnmoved old → (result : Result (Unit {0}) RunFault) → AnswersBegin state old new result → OnOk result (MayTurn new)
  begin_may old new unmoved (Err missed) answers = tt
  begin_may old new unmoved (Ok done) (made, begun, is_new) = subst MayTurn (sym is_new) (by old.plan.stops refl begun)
    where
      by : (stops : List NodeStop) → old.plan.stops ≡ stops → IsBegun state stops old made (Ok done) → MayTurn made
      by [] are (is_done, same) =
          subst MayTurn (sym same) (record {
            runs = ap (λ (s : Seated N). s.runs) unmoved;
            begun = ap (λ (l : List Entry). not (is_empty l) || is_empty old.plan.stops) (ap (λ (s : Seated N). s.trace) unmoved) ∙ ap is_empty are;
          })
      by (stop ∷ stops) are m =
          let more = entry_made (record old { stamp = 1 }) made (cause.Stop (calls_of stop)) None (Stopped (calls_of stop)) refl done m in
          record {
            runs = ap (λ (x : Seated N). x.runs) m.rest ∙ ap (λ (s : Seated N). s.runs) unmoved;
            begun = ap (λ b. not b || is_empty made.plan.stops) (ap (λ (l : List Entry). is_empty l) more.1 ∙ longer old.trace more.0);
          }
