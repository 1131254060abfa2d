-- An entry keeps what a seat keeps.
use Rattle.std.proofs.Common.{◌≡◌, inl, inr, ◌<◌, ◌≤◌, ℕ, Bool, true, false, ◌||◌, not, List, [], ◌∷◌, ◌++◌, All, get_or, length, Option, Some, None, is_some, zero, suc, Result, Ok, Err, refl, ap, sym, subst, ◌∙◌, arith, length-append, true≢false}
use Rattle.std.proofs.lemmas.Option.{same_Some}
use Rattle.journal_checkpoint.specs.Extents.{Extent}
use Rattle.journal_checkpoint.specs.Images.{Pair}
use Rattle.seata_types.specs.declared.ids.Place.{Place}
use Rattle.seata_types.specs.declared.messages.Input.{Input}
use Rattle.seata_types.specs.declared.messages.Input.TheVariants as input
use Rattle.seata_types.specs.declared.messages.Step.{Step}
use Rattle.durable_records.specs.SessionOrder.{is_empty}
use Rattle.frame_codec.specs.Packets.{Sent}
use Rattle.history_rules.specs.Own.{Event, Given, Stopped, Crashed, Restarted, Own}
use Rattle.history_rules.specs.Nodes.{Role, Coordinator, Resource, Manager}
use Rattle.history_rules.specs.Histories.{Moment, Turn, Deliver, Missing, Wait, Stop, Crash, Restart, Local, Outside, ReceivesLater, own, own_if, last_now, same_place}
use Rattle.history_rules.specs.Histories.{Cause as Reason}
use Rattle.trace_rules.specs.Stops.{HasBegun, NodeStop}
use Rattle.trace_rules.specs.Traces.{MayBring, IsAfter}
use Rattle.trace_rules.proofs.Order.{same_place-refl}
use Rattle.node_steps.specs.Nodes.{IsLawful, NodeState, has_disks, place_of}
use Rattle.node_steps.specs.Promises.{AreTold}
use Rattle.history_text.specs.declared.entries.Cause.{Cause}
use Rattle.history_text.specs.declared.entries.Cause.TheVariants as cause
use Rattle.history_text.specs.declared.entries.Entry.{Entry}
use Rattle.history_text.specs.History.{cause_of, entries, entry_of}
use Rattle.node_seat.specs.declared.faults.RunFault.{RunFault}
use Rattle.node_seat.specs.declared.faults.RunFault.TheVariants as fault
use Rattle.node_seat.specs.Faults.{LiesFor}
use Rattle.node_seat.specs.Entering.{Enters, IsEntered, IsTold, Stays, entry_at, event_by}
use Rattle.node_seat.specs.Keeping.{Keeps, IsBehind, IsInputOf, IsNext, have_disks}
use Rattle.node_seat.specs.Seating.{Traced}

-- ---- causes

-- the cause of a moment whose entry has this one
abbrev pub reason_of : Cause → Reason
reason_of cause.Turn = Turn
reason_of (cause.Deliver stamp from) = Deliver stamp from
reason_of (cause.Missing stamp) = Missing stamp
reason_of (cause.Wait ticks) = Wait ticks
reason_of (cause.Stop calls) = Stop calls
reason_of cause.Crash = Crash
reason_of (cause.Restart pick calls) = Restart pick calls
reason_of (cause.Local number) = Local number
reason_of (cause.Outside number) = Outside number

printed_cause : (c : Cause) → cause_of (reason_of c) ≡ c
printed_cause cause.Turn = refl
printed_cause (cause.Deliver stamp from) = refl
printed_cause (cause.Missing stamp) = refl
printed_cause (cause.Wait ticks) = refl
printed_cause (cause.Stop calls) = refl
printed_cause cause.Crash = refl
printed_cause (cause.Restart pick calls) = refl
printed_cause (cause.Local number) = refl
printed_cause (cause.Outside number) = refl

-- a cause with its input brings the event that they make
brought_by : (stamp : ℕ) (c : Cause) (given : Option Input) (event : Event) → IsInputOf stamp c given → event_by c given ≡ Some event → MayBring (reason_of c) (Some event)
brought_by stamp cause.Turn (Some input.Turn) event is e = sym e
brought_by stamp cause.Turn _ event is e = absurd is
brought_by stamp (cause.Deliver sent from) (Some (input.Message sender heard)) event is e = (heard, sym e ∙ ap (λ p. Some (Given (input.Message p heard))) is.1)
brought_by stamp (cause.Deliver sent from) _ event is e = absurd is
brought_by stamp (cause.Missing sent) given event is e = absurd is
brought_by stamp (cause.Wait ticks) given event is e = absurd is
brought_by stamp (cause.Stop calls) None event is e = sym e
brought_by stamp (cause.Stop calls) (Some given) event is e = absurd is
brought_by stamp cause.Crash None event is e = sym e
brought_by stamp cause.Crash (Some given) event is e = absurd is
brought_by stamp (cause.Restart pick calls) None event is e = sym e
brought_by stamp (cause.Restart pick calls) (Some given) event is e = absurd is
brought_by stamp (cause.Local number) (Some (input.Local given)) event is e = sym e ∙ ap (λ n. Some (Given (input.Local n))) is
brought_by stamp (cause.Local number) _ event is e = absurd is
brought_by stamp (cause.Outside number) (Some (input.Outside given)) event is e = sym e ∙ ap (λ n. Some (Given (input.Outside n))) is
brought_by stamp (cause.Outside number) _ event is e = absurd is

later_by : (stamp : ℕ) (c : Cause) (given : Option Input) → IsInputOf stamp c given → ReceivesLater (reason_of c) stamp
later_by stamp (cause.Deliver sent from) (Some (input.Message sender heard)) is = is.0
later_by stamp (cause.Deliver sent from) _ is = absurd is
later_by stamp cause.Turn given is = tt
later_by stamp (cause.Missing sent) given is = tt
later_by stamp (cause.Wait ticks) given is = tt
later_by stamp (cause.Stop calls) given is = tt
later_by stamp cause.Crash given is = tt
later_by stamp (cause.Restart pick calls) given is = tt
later_by stamp (cause.Local number) given is = tt
later_by stamp (cause.Outside number) given is = tt

-- ---- the entries before

get_end : {A : Type 0} (xs : List A) (x d : A) → get_or (xs ++ x ∷ []) (length xs) d ≡ x
get_end [] x d = refl
get_end (y ∷ xs) x d = get_end xs x d

get_front : {A : Type 0} (xs ys : List A) (k : ℕ) (d : A) → k < length xs → get_or (xs ++ ys) k d ≡ get_or xs k d
get_front [] ys k d below = absurd (omega (arith, below))
get_front (x ∷ xs) ys zero d below = refl
get_front (x ∷ xs) ys (suc k) d below = get_front xs ys k d (omega (arith, below))

module _ {A : Type 0} (P : A → Type 0) where
  last_has : (xs : List A) (x : A) → All P (xs ++ x ∷ []) → P x
  last_has xs x all = subst P (get_end xs x x) (all (length xs) x (let size = length-append xs (x ∷ []) in omega (arith, size)))

  front_have : (xs : List A) (x : A) → All P (xs ++ x ∷ []) → All P xs
  front_have xs x all = λ k d below. subst P (get_front xs (x ∷ []) k d below) (all k d (let size = length-append xs (x ∷ []) in omega (arith, size, below)))

is_after : (stamp now : ℕ) (ms : List Moment) → All (IsBehind stamp now) (entries ms) → IsAfter ms stamp
is_after stamp now [] all = tt
is_after stamp now (m ∷ ms) all = (last_has (IsBehind stamp now) (entries ms) (entry_of m) all).stamp_rises

clock_rises : (stamp now : ℕ) (p : Place) (ms : List Moment) → All (IsBehind stamp now) (entries ms) → last_now (own p ms) ≤ now
clock_rises stamp now p [] all = omega arith
clock_rises stamp now p (m ∷ ms) all = by (same_place p m.place) m.event (clock_rises stamp now p ms (front_have (IsBehind stamp now) (entries ms) (entry_of m) all))
  where
    by : (b : Bool) (event : Option Event) → last_now (own p ms) ≤ now → last_now (own_if b event m (own p ms)) ≤ now
    by true (Some event) before = (last_has (IsBehind stamp now) (entries ms) (entry_of m) all).clock_rises
    by true None before = before
    by false event before = before

-- a node made its first entry, or has no stops
pub has_begun : (trace : List Entry) (stops : List NodeStop) (ms : List Moment) → trace ≡ entries ms → (not (is_empty trace) || is_empty stops) ≡ true → HasBegun stops ms
has_begun trace [] ms printed begun none = refl
has_begun trace (stop ∷ stops) [] printed begun none = absurd (true≢false (sym begun ∙ ap (λ (l : List Entry). not (is_empty l) || false) printed))
has_begun trace (stop ∷ stops) (m ∷ ms) printed begun none = absurd (let no : m ∷ ms ≡ [] = none in cc)

-- ---- what disks tell

-- what two disks tell stays
abbrev pub SameTelling : Pair → Pair → Type 0
SameTelling old new = (is_some new.first.content ≡ is_some old.first.content) × (is_some new.second.content ≡ is_some old.second.content)

pub told_all : (disks : Pair) (event : Event) → AreTold disks → IsTold disks event
told_all disks (Given given) told = tt
told_all disks (Stopped calls) told = tt
told_all disks Crashed told = tt
told_all disks (Restarted pick calls) told = told

pub told_for : (disks : Pair) (c : Cause) (given : Option Input) (event : Event) → event_by c given ≡ Some event → (given ≡ None → AreTold disks) → IsTold disks event
told_for disks c (Some given) event e told = subst (IsTold disks) (same_Some (Given given) event e) tt
told_for disks c None event e told = told_all disks event (told refl)

-- ---- where a journal stands

-- a node that lies by its entries does so for each fault
pub lies_for : (missed : RunFault) (node : NodeState) (role : Role) (begin : Extent) (size : ℕ) (os : List Own) → node.lies role begin size os → LiesFor missed node role begin size os
lies_for (fault.Full p full) node role begin size os lies = lies
lies_for (fault.Store p) node role begin size os lies = tt
lies_for (fault.Damaged p second at) node role begin size os lies = tt
lies_for fault.Other node role begin size os lies = tt
lies_for fault.NoMemory node role begin size os lies = tt

-- a node with disks stands at a place with disks
disks_there : (role : Role) → have_disks (place_of role) ≡ has_disks role
disks_there (Coordinator times past) = refl
disks_there (Resource setup past) = refl
disks_there (Manager settings) = refl

pub stops_there : (node : NodeState) → IsLawful node → (role : Role) (owns : List Own) → node.stands_for role owns → node.stops ≡ true → have_disks node.place ≡ true
stops_there node law role owns stands has =
    ap have_disks (law.tells.places role owns stands) ∙ disks_there role ∙ sym (law.tells.with_disks role owns stands) ∙ has

-- ---- one entry

module _ {N : Type 0} (state : N → NodeState) (old new : Traced N) (stamp now : ℕ) (why : Cause) (given : Option Input) (event : Event)
    (is_event : event_by why given ≡ Some event) (next : IsNext old.trace stamp now why given) where
  module _ (role : Role) (at : (state old.node).place ≡ place_of role) (ms : List Moment) (k : Keeps (state old.node) old.trace role ms) (told : IsTold (state old.node).disks event) where
    abbrev pub moment : Step → Moment
    moment step = record { stamp = stamp; place = place_of role; now = now; cause = reason_of why; event = Some event; step = step }

    pub entered : (step : Step) (r : Result (Option Sent) RunFault) → Enters state old new stamp now why event step r → Keeps (state new.node) new.trace role (moment step ∷ ms)
    entered step r e =
        let behind : All (IsBehind stamp now) (entries ms) = subst (All (IsBehind stamp now)) k.printed next.behind in
        let did = e.does.reacts told role (own (place_of role) ms) k.stands in
        record {
          printed = e.printed ∙ ap (λ t. t ++ entry_at stamp (state old.node).place now why step ∷ []) k.printed ∙ ap (λ p. entries ms ++ entry_at stamp p now why step ∷ []) at
              ∙ ap (λ c. entries ms ++ entry_at stamp (place_of role) now c step ∷ []) (sym (printed_cause why));
          alone = (
            k.alone,
            record {
              here = refl;
              rises = is_after stamp now ms behind;
              receives_later = later_by stamp why given next.input;
              clock_rises = clock_rises stamp now (place_of role) ms behind;
              brought = brought_by stamp why given event next.input is_event;
              done = did.0;
            },
          );
          stands = rw (same_place-refl (place_of role)) did.1;
        }

    pub stayed : (missed : RunFault) → Stays state old new now event missed → Keeps (state new.node) new.trace role ms
    stayed missed e = record { printed = e.printed ∙ k.printed; alone = k.alone; stands = e.misses.stands told role (own (place_of role) ms) k.stands }

    kept : (r : Result (Option Sent) RunFault) → IsEntered state old new stamp now why event r → (ms' : List Moment) × Keeps (state new.node) new.trace role ms'
    kept (Ok packet) (step, e) = (moment step ∷ ms, entered step (Ok packet) e)
    kept (Err missed) (inl e) = (ms, stayed missed e)
    kept (Err missed) (inr (is, step, e)) = (moment step ∷ ms, entered step (Err missed) e)
