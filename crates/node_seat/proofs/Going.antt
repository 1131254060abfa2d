-- That the next entry of a run can be made, and that the turn after it can go on.
use Rattle.std.proofs.Common.{◌≡◌, ◌⊎◌, inl, inr, ◌+◌, ◌<◌, ◌≤◌, ℕ, zero, suc, nat_lt, Bool, true, false, if◌then◌else◌, List, [], ◌∷◌, ◌++◌, All, get_or, length, slice_get, Option, Some, None, IfSome, Result, Ok, Err, IfErr, refl, ap, sym, subst, ◌∙◌, arith}
use Rattle.std.proofs.lemmas.List.Elements.{All-append}
use Rattle.std.proofs.lemmas.Bool.Decides.{nat_tests}
use Rattle.std.proofs.lemmas.Option.{same_Some}
use Rattle.disk_model.specs.declared.disk.TheConstants.{LAST_PICK}
use Rattle.seata_types.specs.declared.ids.Place.{Place}
use Rattle.seata_types.specs.declared.ids.Place.TheVariants as place
use Rattle.seata_types.specs.declared.messages.Input.{Input}
use Rattle.seata_types.specs.declared.messages.Input.TheVariants as input
use Rattle.seata_types.specs.declared.messages.Message.{Message}
use Rattle.frame_codec.specs.Limits.{IsFramable}
use Rattle.frame_codec.specs.Packets.{Sent}
use Rattle.history_rules.specs.Own.{Event}
use Rattle.history_rules.specs.Nodes.{Past}
use Rattle.history_rules.specs.Histories.{same_place}
use Rattle.link_queue.specs.Links.{Sending}
use Rattle.trace_rules.specs.Stops.{NodeStop, pick_of, restart_of, run_clock}
use Rattle.node_steps.specs.Framing.{ComesFramable}
use Rattle.node_steps.specs.Nodes.{IsLawful, NodeState}
use Rattle.history_text.specs.declared.entries.Cause.{Cause}
use Rattle.history_text.specs.declared.entries.Cause.TheVariants as cause
use Rattle.history_text.specs.History.{cause_of}
use Rattle.history_text.specs.declared.entries.Entry.{Entry}
use Rattle.node_seat.specs.Ends.{EachBecomes, GoApart, HaveSent, OfferedIf}
use Rattle.node_seat.specs.Entering.{CanReact, HasEntered, IsEntered, entry_at, event_by}
use Rattle.node_seat.specs.Faults.{CountsFault}
use Rattle.node_seat.specs.Keeping.{IsBehind, IsInputOf, have_disks}
use Rattle.node_seat.specs.Naming.{Run}
use Rattle.node_seat.specs.Running.{CanGoOn, CanServe, HasCounted, HasPick, IsNotAfter, IsOfRun, IsRunning, LAST, MayBeGiven, may_hear}
use Rattle.node_seat.specs.Seating.{Seated, traced, traced_of}
use Rattle.node_seat.specs.Turns.{CanMake, IsAble, IsUnmoved, SentBy, at_turn, stamp_after}
use Rattle.node_seat.specs.declared.faults.RunFault.{RunFault}
use Rattle.node_seat.specs.declared.faults.RunFault.TheVariants as fault
use Rattle.node_seat.proofs.Changed.{each_same}

-- ---- clocks

pub run_clock-le : (from : ℕ) (p : Place) (m n : ℕ) → m ≤ n → run_clock from p m ≤ run_clock from p n
run_clock-le from place.Tc m n le = omega (arith, le)
run_clock-le from place.Net m n le = omega arith
run_clock-le from (place.Res k) m n le = omega arith
run_clock-le from (place.Man k) m n le = omega arith

run_clock-below : (from : ℕ) (p : Place) (n : ℕ) → run_clock from p n ≤ from + n
run_clock-below from place.Tc n = omega arith
run_clock-below from place.Net n = omega arith
run_clock-below from (place.Res k) n = omega arith
run_clock-below from (place.Man k) n = omega arith

pub run_clock-from : (from begin : ℕ) (p : Place) (n : ℕ) → (p ≡ place.Tc → from ≡ begin) → run_clock from p n ≡ run_clock begin p n
run_clock-from from begin place.Tc n same = ap (λ f. f + n) (same refl)
run_clock-from from begin place.Net n same = refl
run_clock-from from begin (place.Res k) n same = refl
run_clock-from from begin (place.Man k) n same = refl

-- ---- picks

read_at : (stops : List NodeStop) (k : ℕ) (stop : NodeStop) → slice_get stops k ≡ Some stop → (k < length stops) × (get_or stops k stop ≡ stop)
read_at [] k stop e = absurd (let no : None ≡ Some stop = e in cc)
read_at (s ∷ ss) zero stop e = (omega arith, same_Some s stop e)
read_at (s ∷ ss) (suc k) stop e = let on = read_at ss k stop e in let below = on.0 in (omega (arith, below), on.1)

-- the pick of a restart is one that a disk knows
pub pick-le : (stops : List NodeStop) (k : ℕ) → All HasPick stops → pick_of (slice_get stops k) ≤ LAST_PICK
pick-le stops k all = by (slice_get stops k) refl
  where
    by : (o : Option NodeStop) → slice_get stops k ≡ o → pick_of o ≤ LAST_PICK
    by None e = omega arith
    by (Some (calls, pick)) e = let at = read_at stops k (calls, pick) e in subst HasPick at.1 (all k (calls, pick) at.0)

-- ---- the next entry

-- the next stamp is above both
pub stamp_after-ends : (last sent : ℕ) → (last < stamp_after last sent) × (sent < stamp_after last sent)
stamp_after-ends last sent = by (nat_lt last sent) refl
  where
    by : (b : Bool) → nat_lt last sent ≡ b → (last < (if b then sent else last) + 1) × (sent < (if b then sent else last) + 1)
    by true e = let below : last < sent = grind (arith, nat_tests) in (omega (arith, below), omega arith)
    by false e = let below : sent ≤ last = grind (arith, nat_tests) in (omega arith, omega (arith, below))

pub stamp_after-le : (last sent : ℕ) → last < LAST → sent < LAST → stamp_after last sent ≤ LAST
stamp_after-le last sent a b = by (nat_lt last sent)
  where
    by : (b : Bool) → (if b then sent else last) + 1 ≤ LAST
    by true = omega (arith, b)
    by false = omega (arith, a)

-- a seat with these counts
abbrev pub counting : {N : Type 0} → Seated N → (stamp turns restarts : ℕ) → Seated N
counting s stamp turns restarts = record s { stamp = stamp; turns = turns; restarts = restarts }

module _ {N : Type 0} (state : N → NodeState) (s : Seated N) (goes : CanGoOn (state s.node) s) (stamp turned again : ℕ) (later : s.stamp < stamp) (small : stamp ≤ LAST)
    (more : s.turns ≤ turned) (few : turned ≤ stamp) where
  behind : All (IsBehind stamp (run_clock s.plan.from (state s.node).place turned)) s.trace
  behind k d below =
      let older = goes.behind k d below in
      let rises = older.stamp_rises in
      let clock = older.clock_rises in
      let on = run_clock-le s.plan.from (state s.node).place s.turns turned more in
      record { stamp_rises = omega (arith, rises, later); clock_rises = omega (arith, clock, on) }

  pub can_make : (why : Cause) (given : Option Input) → IsInputOf stamp why given → CanReact (state s.node) why given → IfSome given ComesFramable
      → CanMake state (counting s stamp turned again) why given
  can_make why given input can framable =
      let starts = goes.serves.starts in
      let clock = run_clock-below s.plan.from (state s.node).place turned in
      record {
        may = record { next = record { behind = behind; input = input }; can = can; moment = omega (arith, starts, clock, few, small); framable = framable };
        clock = omega (arith, starts, few, small);
        apart = goes.apart.go;
        counts = λ k end e. let refused = goes.refused k end e in let before = goes.small in omega (arith, refused, before);
      }

module _ {N : Type 0} (state : N → NodeState) (s : Seated N) (goes : CanGoOn (state s.node) s) where
  module _ (able : IsAble state s) where
    abbrev made : (stamp : ℕ) → s.stamp < stamp → stamp ≤ LAST → (again : ℕ) (why : Cause) (given : Option Input) → IsInputOf stamp why given → CanReact (state s.node) why given
        → IfSome given ComesFramable → CanMake state (counting s stamp (s.turns + 1) again) why given
    made stamp later small again = let turned = goes.turned in can_make state s goes stamp (s.turns + 1) again later small (omega arith) (omega (arith, later, turned))

    pub can_rest : CanMake state (at_turn s (s.stamp + 1)) cause.Turn (Some input.Turn)
    can_rest =
        let below = able.stamps in
        made (s.stamp + 1) (omega arith) (omega (arith, below)) s.restarts cause.Turn (Some input.Turn) tt (able.steps, goes.serves.inputs input.Turn tt tt) tt

    pub can_deliver : (from : Place) (message : Message) (sent : ℕ) → sent < LAST → IsFramable message → may_hear s.plan (state s.node).place message ≡ true
        → CanMake state (at_turn s (stamp_after s.stamp sent)) (cause.Deliver sent from) (Some (input.Message from message))
    can_deliver from message sent early framable may =
        let below = able.stamps in
        let ends = stamp_after-ends s.stamp sent in
        let above = ends.0 in
        let behind_it = ends.1 in
        let small = stamp_after-le s.stamp sent below early in
        made (stamp_after s.stamp sent) above small s.restarts (cause.Deliver sent from) (Some (input.Message from message)) (behind_it, refl)
        (able.steps, goes.serves.inputs (input.Message from message) framable may) framable

    pub can_restart : IsLawful (state s.node) → (state s.node).down ≡ true
        → CanMake state (record (at_turn s (s.stamp + 1)) { restarts = s.restarts + 1 }) (cause_of (restart_of s.plan.stops s.restarts)) None
    can_restart law down =
        let below = able.stamps in
        made (s.stamp + 1) (omega arith) (omega (arith, below)) (s.restarts + 1) (cause_of (restart_of s.plan.stops s.restarts)) None tt
        (law.falls down, pick-le s.plan.stops s.restarts goes.serves.picks) tt

  pub can_stop : IsUnmoved s → (calls : ℕ) → (state s.node).stops ≡ true → CanMake state (record s { stamp = 1 }) (cause.Stop calls) None
  can_stop unmoved calls has =
      let none : s.stamp ≡ 0 = ap (λ (x : Seated N). x.stamp) unmoved in
      let turned = goes.turned in
      can_make state s goes 1 s.turns s.restarts (omega (arith, none)) (omega arith) (omega arith) (omega (arith, none, turned)) (cause.Stop calls) None tt (has, tt) tt

-- ---- ends after an entry

-- an end that sends, of the same link, which counted one packet more at most
abbrev pub CountsOnce : ℕ → Sending → Sending → Type 0
CountsOnce j s u = (u.line ≡ s.line) × (u.refused ≤ s.refused + 1)

counts_none : (old new : List Sending) → new ≡ old → EachBecomes CountsOnce old new
counts_none old new same = subst (EachBecomes CountsOnce old) (sym same) (each_same CountsOnce old (λ j s e. (refl, omega arith)))

counts_if : (b : Bool) (packet : Sent) (s u : Sending) → OfferedIf b packet s u → (u.line ≡ s.line) × (u.refused ≤ s.refused + 1)
counts_if true packet s u (inl is) = (ap (λ (x : Sending). x.line) is, let same : u.refused ≡ s.refused = ap (λ (x : Sending). x.refused) is in omega (arith, same))
counts_if true packet s u (inr (is, full)) = (ap (λ (x : Sending). x.line) is, let more : u.refused ≡ s.refused + 1 = ap (λ (x : Sending). x.refused) is in omega (arith, more))
counts_if false packet s u is = (ap (λ (x : Sending). x.line) is, let same : u.refused ≡ s.refused = ap (λ (x : Sending). x.refused) is in omega (arith, same))

counts_sent : (to : Option Place) (packet : Option Sent) (old new : List Sending) → HaveSent to packet old new → EachBecomes CountsOnce old new
counts_sent (Some to) (Some packet) old new offered = record {
  count = offered.count;
  each = λ j u e. let m = offered.each j u e in (m.0, m.1, counts_if (same_place m.0.line.to to) packet m.0 u m.2);
}
counts_sent (Some to) None old new same = counts_none old new same
counts_sent None packet old new same = counts_none old new same

pub counts_out : (to : Option Place) (r : Result (Option Sent) RunFault) (old new : List Sending) → SentBy to r old new → EachBecomes CountsOnce old new
counts_out to (Ok packet) old new out = counts_sent to packet old new out
counts_out to (Err missed) old new out = counts_none old new out

-- ---- after an entry

-- a seat with another fault, and after an entry
abbrev pub with_fault : {N : Type 0} → Seated N → Option RunFault → Seated N
with_fault s missed = record s { fault = missed }

abbrev pub with_entry : {N : Type 0} → Seated N → N → List Entry → List Sending → Seated N
with_entry s node trace senders = record s { node = node; trace = trace; senders = senders }

abbrev pub error_of : {A : Type 0} → Result A RunFault → Option RunFault
error_of (Ok a) = None
error_of (Err missed) = Some missed

-- the trace stays, or has an entry more
pub trace_more : {N : Type 0} (state : N → NodeState) (s : Seated N) (x : N) (trace : List Entry) (stamp now : ℕ) (why : Cause) (event : Event) (r : Result (Option Sent) RunFault)
    → IsEntered state (traced_of s) (traced x trace) stamp now why event r → (trace ≡ s.trace) ⊎ ((e : Entry) × (trace ≡ s.trace ++ e ∷ []) × (e.stamp ≡ stamp) × (e.now ≡ now))
trace_more state s x trace stamp now why event (Ok packet) (step, e) = inr (entry_at stamp (state s.node).place now why step, e.printed, refl, refl)
trace_more state s x trace stamp now why event (Err missed) (inl e) = inl e.printed
trace_more state s x trace stamp now why event (Err missed) (inr (is, step, e)) = inr (entry_at stamp (state s.node).place now why step, e.printed, refl, refl)

-- a fault of its disks was counted
counted_by : (old new : NodeState) → new.place ≡ old.place → (missed : RunFault) → CountsFault old new missed → HasCounted new missed
counted_by old new same (fault.Store p) (at, rose) = (at ∙ sym same, omega (arith, rose))
counted_by old new same (fault.Full p full) counts = tt
counted_by old new same (fault.Damaged p second at) counts = tt
counted_by old new same fault.Other counts = tt
counted_by old new same fault.NoMemory counts = tt

module _ {N : Type 0} (state : N → NodeState) (past : Past) (run : Run) (s : Seated N) (is : IsRunning (state s.node) past run s) (stamp turned again : ℕ) (later : s.stamp < stamp)
    (small : stamp ≤ LAST) (more : s.turns ≤ turned) (few : turned ≤ stamp) (rare : again ≤ turned) (x : N) (trace : List Entry) (senders : List Sending) (to : Option Place) (why : Cause)
    (given : Option Input) (event : Event) (is_event : event_by why given ≡ Some event) (r : Result (Option Sent) RunFault)
    (e : HasEntered state (traced_of s) (traced x trace) stamp (run_clock s.plan.from (state s.node).place turned) why given r) (out : SentBy to r s.senders senders) where
  abbrev node : NodeState
  node = state x

  abbrev before : NodeState
  before = state s.node

  each : EachBecomes CountsOnce s.senders senders
  each = counts_out to r s.senders senders out

  serves : CanServe s.plan node
  serves = record {
    inputs = λ it framable may. e.same.same_inputs it (is.goes.serves.inputs it framable (subst (λ p. MayBeGiven s.plan p it) e.same.same_place may));
    starts = is.goes.serves.starts;
    picks = is.goes.serves.picks;
  }

  apart : GoApart senders
  apart j k t u tj uk to_is =
      let m = each.each j t tj in
      let n = each.each k u uk in
      is.goes.apart.go j k m.0 n.0 m.1 n.1 (ap (λ l. l.to) (sym m.2.0) ∙ to_is ∙ ap (λ l. l.to) n.2.0)

  not_after : All (IsNotAfter stamp (run_clock s.plan.from node.place turned)) trace
  not_after = by (trace_more state s x trace stamp (run_clock s.plan.from before.place turned) why event r (e.entered event is_event))
    where
      after : All (IsNotAfter stamp (run_clock s.plan.from before.place turned)) s.trace
      after k d below =
          let older = is.goes.behind k d below in
          let rises = older.stamp_rises in
          let clock = older.clock_rises in
          let on = run_clock-le s.plan.from before.place s.turns turned more in
          record { stamp_rises = omega (arith, rises, later); clock_rises = omega (arith, clock, on) }

      there : (es : List Entry) → All (IsNotAfter stamp (run_clock s.plan.from before.place turned)) es → All (IsNotAfter stamp (run_clock s.plan.from node.place turned)) es
      there es all = subst (λ p. All (IsNotAfter stamp (run_clock s.plan.from p turned)) es) (sym e.same.same_place) all

      one : (y : Entry) → y.stamp ≡ stamp → y.now ≡ run_clock s.plan.from before.place turned → All (IsNotAfter stamp (run_clock s.plan.from before.place turned)) (y ∷ [])
      one y at clock zero d below = record { stamp_rises = omega (arith, at); clock_rises = omega (arith, clock) }
      one y at clock (suc k) d below = absurd (omega (arith, below))

      by : (trace ≡ s.trace) ⊎ ((y : Entry) × (trace ≡ s.trace ++ y ∷ []) × (y.stamp ≡ stamp) × (y.now ≡ run_clock s.plan.from before.place turned))
          → All (IsNotAfter stamp (run_clock s.plan.from node.place turned)) trace
      by (inl same) = there trace (subst (All (IsNotAfter stamp (run_clock s.plan.from before.place turned))) (sym same) after)
      by (inr (y, longer, at, clock)) =
          there trace (subst (All (IsNotAfter stamp (run_clock s.plan.from before.place turned))) (sym longer) (All-append (IsNotAfter stamp (run_clock s.plan.from before.place turned)) s.trace (y ∷ []) after (one y at clock)))

  goes : CanGoOn node (with_fault (with_entry (counting s stamp turned again) x trace senders) (error_of r))
  goes = record {
    serves = serves;
    apart = record { come = is.goes.apart.come; go = apart };
    behind = not_after;
    small = small;
    turned = few;
    restarted = rare;
    refused = λ k end there.
        let m = each.each k end there in
        let once = m.2.1 in
        let first = is.goes.refused k m.0 m.1 in
        omega (arith, once, first, later);
    asked = is.goes.asked;
  }

  of_run : IsOfRun past run node s.plan s.takers senders
  of_run = record {
    stops = is.of_run.stops ∙ ap run.stops (sym e.same.same_place);
    starts = λ tells tc. is.of_run.starts tells (sym e.same.same_place ∙ tc);
    to_here = λ k t there. subst (λ p. (t.line.to ≡ p) × (t.line.queue ≡ run.queue t.line.from p)) (sym e.same.same_place) (is.of_run.to_here k t there);
    from_here = λ k end there.
        let m = each.each k end there in
        subst (λ p. (end.line.from ≡ p) × (end.line.queue ≡ run.queue p end.line.to)) (sym e.same.same_place)
        (subst (λ l. (l.from ≡ before.place) × (l.queue ≡ run.queue before.place l.to)) (sym m.2.0) (is.of_run.from_here k m.0 m.1));
    told = λ tells has. let t = is.of_run.told tells (ap have_disks (sym e.same.same_place) ∙ has) in
        record { first = e.same.first.tells_images ∙ t.first; second = e.same.second.tells_images ∙ t.second };
    sized = λ has. let t = is.of_run.sized (ap have_disks (sym e.same.same_place) ∙ has) in (e.same.first.size ∙ t.0, e.same.second.size ∙ t.1);
    managers = is.of_run.managers;
    resources = is.of_run.resources;
  }

  counted : (q : Result (Option Sent) RunFault) → IfErr q (CountsFault before node) → IfSome (error_of q) (HasCounted node)
  counted (Ok packet) none = tt
  counted (Err missed) counts = counted_by before node e.same.same_place missed counts

  -- what a seat keeps whatever its disks tell
  pub running_entry : IsRunning node past run (with_fault (with_entry (counting s stamp turned again) x trace senders) (error_of r))
  running_entry = record { goes = goes; of_run = of_run; counted = counted r e.failed }
