-- What an entry of a run keeps: its moments, its links and its counts.
use Rattle.std.proofs.Common.{◌≡◌, ◌⊎◌, inl, inr, ◌+◌, ◌-◌, ◌≤◌, ℕ, Bool, true, false, if◌then◌else◌, List, [], ◌∷◌, ◌++◌, length, slice_get, option_map, Option, Some, None, IfSome, Result, Ok, Err, refl, ap, sym, subst, ◌∙◌, arith, append-nil, length-append}
use Rattle.std.specs.Option.{option_and_then}
use Rattle.journal_checkpoint.specs.Extents.{Extent}
use Rattle.seata_types.specs.declared.ids.Place.{Place}
use Rattle.seata_types.specs.declared.ids.Place.TheVariants as place
use Rattle.seata_types.specs.declared.messages.Input.{Input}
use Rattle.seata_types.specs.declared.messages.Input.TheVariants as input
use Rattle.seata_types.specs.declared.messages.Outgoing.{Outgoing}
use Rattle.seata_types.specs.declared.messages.Step.{Step}
use Rattle.frame_codec.specs.Packets.{Sent}
use Rattle.history_rules.specs.Own.{Event, Given, Stopped, Crashed, Restarted, Own}
use Rattle.history_rules.specs.Devices.{is_down, last_pick}
use Rattle.history_rules.specs.Nodes.{Role}
use Rattle.history_rules.specs.Histories.{Moment, Deliver, own, same_place}
use Rattle.history_rules.specs.Histories.{Cause as Reason}
use Rattle.link_queue.specs.Links.{Sending, Taking, WasFull}
use Rattle.trace_rules.specs.Links.{Went, heard_from, link_room, message_in, received, said_to, sent_to, with_stamp}
use Rattle.trace_rules.specs.Stops.{IsByStops, RunsAlone, is_restart, is_stop, restarts, run_clock, turns}
use Rattle.trace_rules.proofs.LinkOrder.{MayPush, went-within, went_entry, within_append}
use Rattle.trace_rules.proofs.Order.{same_place-refl}
use Rattle.node_steps.specs.Nodes.{NodeState, place_of}
use Rattle.history_text.specs.declared.entries.Cause.{Cause}
use Rattle.history_text.specs.declared.entries.Entry.{Entry}
use Rattle.history_text.specs.Notes.{sent_of}
use Rattle.node_seat.specs.Ends.{EachBecomes, HaveSent, NoneFrom, OfferedIf}
use Rattle.node_seat.specs.Entering.{Enters, HaveLast, IsEntered, IsTold, Stays, entry_at, event_by, packet_at}
use Rattle.node_seat.specs.Faults.{Blames}
use Rattle.node_seat.specs.Keeping.{IsNext, Keeps}
use Rattle.node_seat.specs.Naming.{Run}
use Rattle.node_seat.specs.Running.{Came, HadPlaces, HeardAll, IsCauseOf, KeepsRun, PushedAll}
use Rattle.node_seat.specs.Seating.{Seated, traced, traced_of}
use Rattle.node_seat.specs.Turns.{SentBy, entry_receiver, moment_of, place_sent, receiver_in}
use Rattle.node_seat.specs.declared.faults.RunFault.{RunFault}
use Rattle.node_seat.specs.declared.faults.RunFault.TheVariants as fault
use Rattle.node_seat.proofs.Going.{error_of, run_clock-from, with_entry, with_fault}
use Rattle.node_seat.proofs.Kept.{entered, lies_for, moment, reason_of, stayed}

-- ---- the message of an entry

snoc_end : {A : Type 0} (xs : List A) (x : A) → slice_get (xs ++ x ∷ []) (length xs) ≡ Some x
snoc_end [] x = refl
snoc_end (y ∷ ys) x = snoc_end ys x

receiver_snoc : (es : List Entry) (e : Entry) → receiver_in (es ++ e ∷ []) ≡ entry_receiver e
receiver_snoc es e =
    ap (option_and_then entry_receiver)
    (ap (slice_get (es ++ e ∷ [])) (let end : length (es ++ e ∷ []) - 1 ≡ length es = let size = length-append es (e ∷ []) in omega (arith, size) in end) ∙ snoc_end es e)

abbrev place_to : Outgoing → Place
place_to out = out.to

receiver_is : (sent : Option Outgoing) → option_map place_sent (option_map sent_of sent) ≡ option_map place_to sent
receiver_is None = refl
receiver_is (Some out) = refl

-- where the newest entry sent its message
pub entered-receiver : (es new : List Entry) (stamp : ℕ) (at : Place) (now : ℕ) (why : Cause) (step : Step) → new ≡ es ++ entry_at stamp at now why step ∷ []
    → receiver_in new ≡ option_map place_to step.sent
entered-receiver es new stamp at now why step is = ap receiver_in is ∙ receiver_snoc es (entry_at stamp at now why step) ∙ receiver_is step.sent

-- ---- what was pushed of what an entry sent

-- an end that goes to a place, after an entry whose message was offered
pub pushes_said : (sent : Option Outgoing) (stamp : ℕ) (old new : List Sending) → HaveSent (option_map place_to sent) (option_map (packet_at stamp) sent) old new
    → EachBecomes (λ j s u. (u.line ≡ s.line) × MayPush (said_to s.line.to stamp sent) s.pushed u.pushed) old new
pushes_said None stamp old new same = subst (EachBecomes _ old) (sym same) (record { count = refl; each = λ j u e. (u, e, (refl, inl (sym (append-nil u.pushed)))) })
pushes_said (Some out) stamp old new offered = record {
  count = offered.count;
  each = λ j u e. let m = offered.each j u e in (m.0, m.1, by (same_place m.0.line.to out.to) m.0 u m.2);
}
  where
    full : (pushed : List Sent) → WasFull pushed → link_room ≤ length pushed
    full pushed (queued, size, (rest, is)) =
        let whole : length pushed ≡ length (rest ++ queued) = ap length is in
        let parts = length-append rest queued in
        omega (arith, size, whole, parts)

    by : (b : Bool) (s u : Sending) → OfferedIf b (packet_at stamp out) s u
        → (u.line ≡ s.line) × MayPush (if b then with_stamp stamp out.message ∷ [] else []) s.pushed u.pushed
    by true s u (inl is) = (ap (λ (x : Sending). x.line) is, inl (ap (λ (x : Sending). x.pushed) is))
    by true s u (inr (is, was)) = (ap (λ (x : Sending). x.line) is, inr (ap (λ (x : Sending). x.pushed) is, full s.pushed was))
    by false s u is = (ap (λ (x : Sending). x.line) is, inl (ap (λ (x : Sending). x.pushed) is ∙ sym (append-nil s.pushed)))

-- ---- an entry of a run

-- what came to a node, but for a stop
abbrev pub IsStop : Event → Type 0
IsStop (Stopped calls) = Unit {0}
IsStop event = ⊥

-- What is known of a seat and its moments when its ends were asked and its turn is counted, before the entry of an event.
pub record Comes {N : Type 0} (node : NodeState) (begin : ℕ) (run : Run) (role : Role) (s : Seated N) (ms : List Moment) (why : Reason) (event : Event) : Type 0 where
  pub heard : (k : ℕ) (t : Taking) → slice_get s.takers k ≡ Some t → t.taken ≡ received t.line.from ms ++ heard_from t.line.from why (Some event)
  pub only : (from : Place) → NoneFrom from s.takers → received from ms ++ heard_from from why (Some event) ≡ []
  pub pushed : (k : ℕ) (end : Sending) → slice_get s.senders k ≡ Some end → Went end.pushed (sent_to end.line.to ms)
  pub runs : RunsAlone s.plan.stops begin (place_of role) ms
  pub by_stops : IsByStops s.plan.stops ms why
  pub down : is_restart why ≡ is_down (own (place_of role) ms)
  pub restarted : s.restarts ≡ (if is_restart why then restarts ms + 1 else restarts ms)
  pub turned : s.turns ≡ (if is_stop why then turns ms else turns ms + 1)
  pub fits : HadPlaces role (run.starts (place_of role)) run.bytes (own (place_of role) ms)
  pub lies : node.lies role (run.starts (place_of role)) run.bytes (own (place_of role) ms)
  pub picked : HaveLast (last_pick (own (place_of role) ms)) node.disks
  pub came : IsStop event ⊎ Came s.takers s.plan.stops event

nothing_before : (a b : List Sent) → a ++ b ≡ [] → a ≡ []
nothing_before [] b e = refl
nothing_before (x ∷ a) b e = absurd (let no : x ∷ (a ++ b) ≡ [] = e in cc)

-- a cause brings one message at most
at_most_one : (p : Place) (why : Reason) (event : Option Event) → (heard_from p why event ≡ []) ⊎ ((x : Sent) × (heard_from p why event ≡ x ∷ []))
at_most_one p (Deliver stamp from) event = by (same_place p from) event
  where
    by : (b : Bool) (e : Option Event) → ((if b then message_in stamp e else []) ≡ []) ⊎ ((x : Sent) × ((if b then message_in stamp e else []) ≡ x ∷ []))
    by true (Some (Given (input.Message sender heard))) = inr (with_stamp stamp heard, refl)
    by true e = inl refl
    by false e = inl refl
at_most_one p why event = inl refl

-- why no entry was made, said of the seat
module _ {N : Type 0} (old new : NodeState) (same : new.place ≡ old.place) (run : Run) (role : Role) (s : Seated N) (ms : List Moment) (now : ℕ) where
  abbrev Blamed : Event → RunFault → Place → Type 0
  Blamed event missed at = Blames at role (run.starts (place_of role)) run.bytes (own (place_of role) ms) now event new.disks missed

  cause_by : (event : Event) (missed : RunFault) → IsStop event ⊎ Came s.takers s.plan.stops event → Blamed event missed old.place → IsCauseOf new run role s ms missed
  cause_by event fault.NoMemory came blames = tt
  cause_by event fault.Other came blames = absurd blames
  cause_by event (fault.Damaged p second at) came blames = absurd blames
  cause_by event (fault.Store p) (inr came) blames = record { now = now; event = event; came = came; blames = subst (Blamed event (fault.Store p)) (sym same) blames }
  cause_by event (fault.Full p full) (inr came) blames = record { now = now; event = event; came = came; blames = subst (Blamed event (fault.Full p full)) (sym same) blames }
  cause_by (Stopped calls) (fault.Store p) (inl stop) blames = absurd blames.2
  cause_by (Stopped calls) (fault.Full p full) (inl stop) blames = absurd blames.1
  cause_by (Given given) missed (inl stop) blames = absurd stop
  cause_by Crashed missed (inl stop) blames = absurd stop
  cause_by (Restarted pick calls) missed (inl stop) blames = absurd stop

module _ {N : Type 0} (state : N → NodeState) (s : Seated N) (x : N) (trace : List Entry) (senders : List Sending) (why : Cause) (given : Option Input) (event : Event)
    (is_event : event_by why given ≡ Some event) (next : IsNext s.trace s.stamp (moment_of (state s.node) s) why given) (role : Role) (at : (state s.node).place ≡ place_of role) (ms : List Moment)
    (k : Keeps (state s.node) s.trace role ms) (told : IsTold (state s.node).disks event) (begin : ℕ) (starts : place_of role ≡ place.Tc → s.plan.from ≡ begin)
    (run : Run) (c : Comes (state s.node) begin run role s ms (reason_of why) event) where
  abbrev now : ℕ
  now = moment_of (state s.node) s

  -- where its journal stood at first, and its own entries
  abbrev first : Extent
  first = run.starts (place_of role)

  abbrev owns : List Own
  owns = own (place_of role) ms

  abbrev new : Option RunFault → Seated N
  new missed = with_fault (with_entry s x trace senders) missed

  abbrev made : Step → Moment
  made step = moment state (traced_of s) (traced x trace) s.stamp now why given event is_event next role at ms k told step

  clock : (step : Step) → now ≡ run_clock begin (place_of role) (turns (made step ∷ ms))
  clock step = ap (λ p. run_clock s.plan.from p s.turns) at ∙ ap (run_clock s.plan.from (place_of role)) c.turned ∙ run_clock-from s.plan.from begin (place_of role) _ starts

  -- an entry was made, whatever came of its message
  keeps_entry : (missed : Option RunFault) (r : Result (Option Sent) RunFault) (step : Step) → Enters state (traced_of s) (traced x trace) s.stamp now why event step r
      → ((j : ℕ) (end : Sending) → slice_get senders j ≡ Some end → PushedAll missed end.pushed (sent_to end.line.to (made step ∷ ms)))
      → IfSome missed (IsCauseOf (state x) run role (new missed) (made step ∷ ms)) → KeepsRun (state x) begin run role (new missed) (made step ∷ ms)
  keeps_entry missed r step e pushed cause =
      let lies = e.does.lies told role owns k.stands first run.bytes c.lies in
      record {
        heard = λ j t there. inl (c.heard j t there);
        only = c.only;
        pushed = pushed;
        runs = (c.runs, record { by_stops = c.by_stops; restarted = c.down; clock = clock step });
        fits = rw (same_place-refl (place_of role)) (c.fits, lies.0);
        calm = λ none. record {
          restarted = c.restarted;
          turned = c.turned;
          lies = rw (same_place-refl (place_of role)) lies.1;
          picked = rw (same_place-refl (place_of role)) (e.does.picked told role owns k.stands c.picked);
        };
        cause = cause;
      }

  -- no entry was made
  keeps_none : (missed : RunFault) → Stays state (traced_of s) (traced x trace) now event missed → (state x).place ≡ (state s.node).place → senders ≡ s.senders
      → KeepsRun (state x) begin run role (new (Some missed)) ms
  keeps_none missed e same out = record {
    heard = λ j t there. by (received t.line.from ms) t.taken (heard_from t.line.from (reason_of why) (Some event)) (c.heard j t there) (at_most_one t.line.from (reason_of why) (Some event));
    only = λ from none. nothing_before (received from ms) _ (c.only from none);
    pushed = λ j end there. went-within end.pushed _ (c.pushed j end (ap (λ l. slice_get l j) (sym out) ∙ there));
    runs = c.runs;
    fits = c.fits;
    calm = λ none. absurd (let no : Some missed ≡ None = none in cc);
    cause = cause_by (state s.node) (state x) same run role (new (Some missed)) ms now event missed c.came
        (e.misses.blames told role first run.bytes owns k.stands (lies_for missed (state s.node) role first run.bytes owns c.lies));
  }
    where
      by : (front taken one : List Sent) → taken ≡ front ++ one → (one ≡ []) ⊎ ((y : Sent) × (one ≡ y ∷ [])) → HeardAll (Some missed) s.stamp front taken
      by front taken one is (inl none) = inl (is ∙ ap (λ l. front ++ l) none ∙ append-nil front)
      by front taken one is (inr (y, single)) = inr (y, is ∙ ap (λ l. front ++ l) single, tt)

  -- where it was pushed or lost at a full link
  pushed_out : (packet : Option Sent) (step : Step) → Enters state (traced_of s) (traced x trace) s.stamp now why event step (Ok packet) → SentBy (receiver_in trace) (Ok packet) s.senders senders
      → (j : ℕ) (end : Sending) → slice_get senders j ≡ Some end → Went end.pushed (sent_to end.line.to (made step ∷ ms))
  pushed_out packet step e out j end there =
      let to = entered-receiver s.trace trace s.stamp (state s.node).place now why step e.printed in
      let sent = subst (λ p. HaveSent (option_map place_to step.sent) p s.senders senders) e.packed (subst (λ q. HaveSent q packet s.senders senders) to out) in
      let m = (pushes_said step.sent s.stamp s.senders senders sent).each j end there in
      subst (λ l. Went end.pushed (sent_to l.to (made step ∷ ms))) (sym m.2.0)
      (went_entry (said_to m.0.line.to s.stamp step.sent) m.0.pushed end.pushed (sent_to m.0.line.to ms) m.2.1 (c.pushed j m.0 m.1))

  -- after an entry or a fault the seat keeps some moments
  pub keeps_after : (r : Result (Option Sent) RunFault) → IsEntered state (traced_of s) (traced x trace) s.stamp now why event r → SentBy (receiver_in trace) r s.senders senders
      → (state x).place ≡ (state s.node).place → (after : List Moment) × Keeps (state x) trace role after × KeepsRun (state x) begin run role (new (error_of r)) after
  keeps_after (Ok packet) (step, e) out same = (
    made step ∷ ms,
    entered state (traced_of s) (traced x trace) s.stamp now why given event is_event next role at ms k told step (Ok packet) e,
    keeps_entry None (Ok packet) step e (pushed_out packet step e out) tt,
  )
  keeps_after (Err missed) (inl e) out same =
      (ms, stayed state (traced_of s) (traced x trace) s.stamp now why given event is_event next role at ms k told missed e, keeps_none missed e same out)
  keeps_after (Err missed) (inr (is, step, e)) out same = (
    made step ∷ ms,
    entered state (traced_of s) (traced x trace) s.stamp now why given event is_event next role at ms k told step (Err missed) e,
    keeps_entry (Some missed) (Err missed) step e
        (λ j end there. within_append end.pushed _ _ (went-within end.pushed _ (c.pushed j end (ap (λ l. slice_get l j) (sym out) ∙ there))))
        (subst (λ f. IsCauseOf (state x) run role (new (Some missed)) (made step ∷ ms) f) (sym is) tt),
  )
