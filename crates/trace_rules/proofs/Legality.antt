-- Traces that are legal alone merge to a legal history.
use Rattle.std.proofs.Common.{◌≡◌, ◌⊎◌, inl, inr, ◌<◌, ◌≤◌, ℕ, if◌then◌else◌, List, [], ◌∷◌, ◌++◌, Option, Some, None, refl, sym, subst, arith}
use Rattle.std.proofs.lemmas.Bool.Decides.{nat_tests}
use Rattle.seata_types.specs.declared.ids.Place.{Place}
use Rattle.seata_types.specs.declared.messages.Input.TheVariants as input
use Rattle.seata_types.specs.declared.messages.Message.{Message}
use Rattle.seata_types.specs.declared.messages.Outgoing.{Outgoing}
use Rattle.durable_records.specs.Members.{In}
use Rattle.frame_codec.specs.Packets.{Sent}
use Rattle.history_rules.specs.Own.{Event, Given, Own}
use Rattle.history_rules.specs.Nodes.{Role, World, Past, role_at}
use Rattle.history_rules.specs.Histories.{Cause, Deliver, Moment, own, brings, sent_from, last_now, ReceivesLater, IsDone, Stands, Legal}
use Rattle.trace_rules.specs.Traces.{AloneAt, AreAlone, IsDoneAlone, MayBring, StandsAlone, at, traces_of}
use Rattle.trace_rules.specs.Merged.{IsMergeOf, Sorted}
use Rattle.trace_rules.specs.Links.{EachLink, IsHeard, Taken, Within, heard_from, received, said_to, sent_to, with_stamp}
use Rattle.trace_rules.specs.Runs.{AreBegun, EachRuns, MergesLegally, MergesToRun}
use Rattle.trace_rules.proofs.Order.{Precedes, all_precede, in_at, of_at, precedes-apart, precedes-stamp, same_place-eq, same_place-refl}
use Rattle.trace_rules.proofs.LinkOrder.{front-taken, in_within, went-within, within_front, within_nil}

-- ---- members

in_front : {A : Type 0} (xs ys : List A) (a : A) → In a xs → In a (xs ++ ys)
in_front [] ys a h = absurd h
in_front (x ∷ xs) ys a h = grind (arith, in_front xs ys a)

in_back : {A : Type 0} (xs ys : List A) (a : A) → In a ys → In a (xs ++ ys)
in_back [] ys a h = h
in_back (x ∷ xs) ys a h = inr (in_back xs ys a h)

in_either : {A : Type 0} (xs ys : List A) (a : A) → In a (xs ++ ys) → In a xs ⊎ In a ys
in_either [] ys a h = inr h
in_either (x ∷ xs) ys a h = grind (arith, in_either xs ys a)

-- ---- what was received and sent

-- a moment received this from a place
record Receives (from : Place) (m : Moment) (x : Sent) : Type 0 where
  why : m.cause ≡ Deliver x.stamp from
  what : m.event ≡ Some (Given (input.Message from x.message))

-- a moment among these sent it to a place
record IsSentBy (to : Place) (ms : List Moment) (x : Sent) : Type 0 where
  sender : Moment
  among : In sender ms
  stamped : sender.stamp ≡ x.stamp
  sent : sender.step.sent ≡ Some (record { to = to; message = x.message })

heard_here : (from : Place) (m : Moment) (x : Sent) → Receives from m x → heard_from from m.cause m.event ≡ x ∷ []
heard_here from m x is = grind (arith, same_place-refl)

in_received : (from : Place) (ms : List Moment) (m : Moment) (x : Sent) → In m ms → Receives from m x → In x (received from ms)
in_received from [] m x h is = absurd h
in_received from (l ∷ ms) m x h is = grind (arith, in_received from ms m x, in_front {A = Sent}, in_back {A = Sent}, heard_here)

said_here : (to : Place) (stamp : ℕ) (o : Option Outgoing) (x : Sent) → In x (said_to to stamp o)
    → (stamp ≡ x.stamp) × (o ≡ Some (record { to = to; message = x.message }))
said_here to stamp o x h = grind (arith, same_place-eq)

sent_by_one : (to : Place) (ms : List Moment) (x : Sent) → In x (sent_to to ms) → IsSentBy to ms x
sent_by_one to [] x h = absurd h
sent_by_one to (m ∷ ms) x h = by (sent_by_one to ms x) (in_either (sent_to to ms) (said_to to m.stamp m.step.sent) x h)
  where
    by : (In x (sent_to to ms) → IsSentBy to ms x) → In x (sent_to to ms) ⊎ In x (said_to to m.stamp m.step.sent) → IsSentBy to (m ∷ ms) x
    by older (inl h) = let s = older h in record { sender = s.sender; among = inr s.among; stamped = s.stamped; sent = s.sent }
    by older (inr h) = let s = said_here to m.stamp m.step.sent x h in record { sender = m; among = inl refl; stamped = s.0; sent = s.1 }

-- ---- the network of a sorted history

-- what a moment sent is found by its stamp and place
sent_here : (m : Moment) (ms : List Moment) (out : Outgoing) → m.step.sent ≡ Some out → sent_from m.stamp m.place (m ∷ ms) ≡ Some (m.place, out)
sent_here m ms out sent = grind (arith, nat_tests, same_place-refl)

sent_there : (ms : List Moment) → Sorted ms → (s : Moment) → In s ms → (out : Outgoing) → s.step.sent ≡ Some out → sent_from s.stamp s.place ms ≡ Some (s.place, out)
sent_there [] sorted s h out sent = absurd h
sent_there (m ∷ ms) sorted s (inl e) out sent = subst (λ (z : Moment). sent_from s.stamp s.place (z ∷ ms) ≡ Some (s.place, out)) e (sent_here s ms out sent)
sent_there (m ∷ ms) sorted s (inr h) out sent =
    let below : sent_from s.stamp s.place ms ≡ Some (s.place, out) = sent_there ms sorted.0 s h out sent in
    let order : Precedes s m = all_precede m ms sorted.0 sorted.1 s h in
    grind (arith, nat_tests, below, precedes-apart s m order, same_place-eq m.place s.place)

-- a message that a moment received is found among these, and of a lesser stamp
record IsFedBy (ms : List Moment) (r : Moment) (from : Place) (x : Sent) : Type 0 where
  found : sent_from x.stamp from ms ≡ Some (from, record { to = r.place; message = x.message })
  late : x.stamp < r.stamp

-- and so each that was received
abbrev Fed : List Moment → Type 0
Fed ms = (r : Moment) (from : Place) (x : Sent) → In r ms → Receives from r x → IsFedBy ms r from x

-- also without the newest moment, which is no older than the one that received it
fed_older : (m : Moment) (ms : List Moment) (r : Moment) (from : Place) (x : Sent) → r.stamp ≤ m.stamp → IsFedBy (m ∷ ms) r from x → IsFedBy ms r from x
fed_older m ms r from x order f = grind (arith, nat_tests)

fed_before : (m : Moment) (ms : List Moment) → Sorted (m ∷ ms) → Fed (m ∷ ms) → Fed ms
fed_before m ms sorted fed r from x h is = fed_older m ms r from x (precedes-stamp r m (all_precede m ms sorted.0 sorted.1 r h)) (fed r from x (inr h) is)

-- ---- the newest moment

own_at : (p : Place) (ms : List Moment) → own p (at p ms) ≡ own p ms
own_at p [] = refl
own_at p (m ∷ ms) = grind (arith, own_at p ms)

-- a later moment than its message
later_alone : (o : Option Role) (p : Place) (ms : List Moment) → AloneAt o p ms → (m : Moment) → In m ms → ReceivesLater m.cause m.stamp
later_alone None p ms alone m h = absurd (subst (In m) alone h)
later_alone (Some role) p [] alone m h = absurd h
later_alone (Some role) p (l ∷ ms) alone m h = grind (arith, later_alone (Some role) p ms)

module _ (w : World) (past : Past) where
  fed_alone : (ms : List Moment) → Sorted ms → AreAlone w past (traces_of ms) → EachLink Within (traces_of ms) → Fed ms
  fed_alone ms sorted alone linked r from x h is = record {
    found = subst (λ (n : ℕ). sent_from n from ms ≡ Some (from, out)) s.stamped
        (subst (λ (p : Place). sent_from s.sender.stamp p ms ≡ Some (p, out)) there.1 (sent_there ms sorted s.sender there.0 out s.sent));
    late = subst (λ (c : Cause). ReceivesLater c r.stamp) is.why (later_alone (role_at w past r.place) r.place (at r.place ms) (alone r.place) r mine);
  }
    where
      mine : In r (at r.place ms)
      mine = in_at r.place ms r h refl

      out : Outgoing
      out = record { to = r.place; message = x.message }

      s : IsSentBy r.place (at from ms) x
      s = sent_by_one r.place (at from ms) x
          (in_within (received from (at r.place ms)) (sent_to r.place (at from ms)) (linked from r.place) x (in_received from (at r.place ms) r x mine is))

      there : In s.sender ms × (s.sender.place ≡ from)
      there = of_at from ms s.sender s.among

  alone_before : (m : Moment) (ms : List Moment) → AreAlone w past (traces_of (m ∷ ms)) → AreAlone w past (traces_of ms)
  alone_before m ms alone p = grind (arith, alone p)

  -- what a moment does at the node of a role
  record IsAt (ms : List Moment) (m : Moment) : Type 0 where
    role : Role
    known : role_at w past m.place ≡ Some role
    stands : StandsAlone role m.place (at m.place ms) m

  newest_at : (m : Moment) (ms : List Moment) → AreAlone w past (traces_of (m ∷ ms)) → IsAt ms m
  newest_at m ms alone = by (role_at w past m.place) refl
      (subst (λ b. AloneAt (role_at w past m.place) m.place (if b then m ∷ at m.place ms else at m.place ms)) (same_place-refl m.place) (alone m.place))
    where
      by : (o : Option Role) → role_at w past m.place ≡ o → AloneAt o m.place (m ∷ at m.place ms) → IsAt ms m
      by (Some role) e a = record { role = role; known = e; stands = a.1 }
      by None e a = absurd (let no : m ∷ at m.place ms ≡ [] = a in cc)

  -- a cause brings what it may bring, where the messages of deliveries are found
  brought : (ms : List Moment) (p : Place) (why : Cause) (event : Option Event)
      → ((stamp : ℕ) (from : Place) (message : Message) → why ≡ Deliver stamp from → event ≡ Some (Given (input.Message from message))
      → sent_from stamp from ms ≡ Some (from, record { to = p; message = message }))
      → MayBring why event → event ≡ brings ms p why
  brought ms p why event found may = grind (arith, found, same_place-refl)

  done_at : (role : Role) (ms : List Moment) (m : Moment) → role_at w past m.place ≡ Some role
      → (event : Option Event) → IsDoneAlone role (own m.place ms) m.now event m.step → IsDone w past ms m event
  done_at role ms m known event done = grind arith

  stands : (m : Moment) (ms : List Moment) → Sorted (m ∷ ms) → AreAlone w past (traces_of (m ∷ ms)) → Fed (m ∷ ms) → Stands w past ms m
  stands m ms sorted alone fed = record {
    rises = sorted.1;
    receives_later = mine.stands.receives_later;
    clock_rises = λ here. subst (λ (p : Place). last_now (own p ms) ≤ m.now) here (subst (λ (os : List Own). last_now os ≤ m.now) (own_at m.place ms) mine.stands.clock_rises);
    brought = brought ms m.place m.cause m.event found mine.stands.brought;
    done = done_at mine.role ms m mine.known m.event
        (subst (λ (os : List Own). IsDoneAlone mine.role os m.now m.event m.step) (own_at m.place ms) mine.stands.done);
  }
    where
      mine : IsAt ms m
      mine = newest_at m ms alone

      found : (stamp : ℕ) (from : Place) (message : Message) → m.cause ≡ Deliver stamp from → m.event ≡ Some (Given (input.Message from message))
          → sent_from stamp from ms ≡ Some (from, record { to = m.place; message = message })
      found stamp from message why what =
          let x : Sent = with_stamp stamp message in
          (fed_older m ms m from x (omega arith) (fed m from x (inl refl) (record { why = why; what = what }))).found

  legal : (ms : List Moment) → Sorted ms → AreAlone w past (traces_of ms) → Fed ms → Legal w past ms
  legal [] sorted alone fed = tt
  legal (m ∷ ms) sorted alone fed = (
    legal ms sorted.0 (alone_before m ms alone) (fed_before m ms sorted fed),
    stands m ms sorted alone fed,
  )

-- ---- the laws

pub merged_traces : (traces : Place → List Moment) (ms : List Moment) → IsMergeOf traces ms → traces ≡ traces_of ms
merged_traces traces ms merge = λ i. λ p. sym (merge.each p) i

pub merges_legally : MergesLegally
merges_legally w past traces ms merge alone linked =
    let same : traces ≡ traces_of ms = merged_traces traces ms merge in
    let legally : AreAlone w past (traces_of ms) = subst (AreAlone w past) same alone in
    legal w past ms merge.sorted legally (fed_alone w past ms merge.sorted legally (subst (EachLink Within) same linked))

heard_within : (received sent : List Sent) → IsHeard received sent → Within received sent
heard_within received sent h = grind (arith, within_nil, within_front, went-within)

heard_taken : (received sent : List Sent) → IsHeard received sent → Taken received sent
heard_taken received sent h = grind (arith, front-taken)

pub merges_to_run : MergesToRun
merges_to_run w past stops traces ms merge alone linked runs begun = (
  merges_legally w past traces ms merge alone (λ p q. heard_within (received p (traces q)) (sent_to q (traces p)) (linked p q)),
  record {
    nodes = subst (EachRuns past stops) same runs;
    begun = subst (AreBegun w past stops) same begun;
    taken = subst (EachLink Taken) same (λ p q. heard_taken (received p (traces q)) (sent_to q (traces p)) (linked p q));
  },
)
  where
    same : traces ≡ traces_of ms
    same = merged_traces traces ms merge
