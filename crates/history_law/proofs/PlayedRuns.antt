-- What is played of a schedule is a run of it.
use Rattle.std.proofs.Common.{◌≡◌, ◌⊎◌, inl, inr, ◌+◌, ◌≤◌, ◌==◌, ◌&&◌, ℕ, zero, suc, nat_lt, Bool, true, false, if◌then◌else◌, List, [], ◌∷◌, ◌++◌, length, map, slice_get, Option, Some, None, option_map, is_some, refl, ap, sym, subst, ◌∙◌, arith}
use Rattle.seata_types.specs.declared.acts.Act.TheVariants as act
use Rattle.seata_types.specs.declared.ids.Place.{Place}
use Rattle.seata_types.specs.declared.ids.Place.TheVariants as place
use Rattle.seata_types.specs.declared.messages.Input.TheVariants as input
use Rattle.seata_types.specs.declared.messages.Outgoing.{Outgoing}
use Rattle.history_rules.specs.Own.{Event, Given, Stopped, Crashed, Restarted, Own, still}
use Rattle.history_rules.specs.ResourceMemory.{Setup, local_of}
use Rattle.history_rules.specs.ManagerRules.{Settings}
use Rattle.std.specs.List.{list_all, list_any}
use Rattle.history_rules.specs.Nodes.{World, Past, Role, Coordinator, Resource, Manager, role_at, counted_at, ComesTo}
use Rattle.history_rules.specs.Histories.{Cause, Turn, Deliver, Missing, Wait, Stop, Crash, Restart, Local, Outside, Moment, own, own_if, same_place, sent_if, sent_at, sent_from, delivered, brings, ComesToNone, ReceivesLater, Rises, last_now, HappensAt, IsDone, Legal, Stands}
use Rattle.history_rules.specs.Schedules.{Item, TurnOf, DeliverOf, WaitFor, StopOf, CrashOf, RestartOf, LocalOf, OutsideOf, Auto, is_taken, or_waiting, oldest_waiting, last_turn, places, earliest, or_turn, delivery, local_place, named, times, singles_of, singles, clock, ticks_of, IsStep, Follows}
use Rattle.history_rules.specs.Played.{keeps_of, done_by, moment_at, next_moment, played_on}
use Rattle.durable_records.specs.SessionOrder.{is_counted}
use Rattle.history_law.specs.Points.{In}
use Rattle.history_law.specs.Network.{OnSent, EachSent}
use Rattle.history_law.specs.MessageSafety.{IsNode, ReachesNode, NamesItsNodes, AreOfResources}
use Rattle.history_law.specs.PlaySafety.{is_node, has_disk, has_local, names_node, PlayedLaw}
use Rattle.history_law.proofs.Tests.{none_some, false_true, true_false, same_nat, nat_same, nat_differs, and_left, and_right, or_either}
use Rattle.history_law.proofs.MessageHistory.{counted_there, messages_over_any}

-- ---- small facts

same_itself : (p : Place) → same_place p p ≡ true
same_itself place.Net = refl
same_itself place.Tc = refl
same_itself (place.Res n) = nat_same n n refl
same_itself (place.Man n) = nat_same n n refl

in_slot : {A : Type 0} (xs : List A) (a : A) → In a xs → (k : ℕ) × (slice_get xs k ≡ Some a)
in_slot [] a i = absurd i
in_slot (x ∷ xs) a (inl is) = (0, ap (λ z. Some z) (sym is))
in_slot (x ∷ xs) a (inr i) = let f = in_slot xs a i in (suc f.0, f.1)

in_map : {A B : Type 0} (f : A → B) (xs : List A) (b : B) → In b (map f xs) → (a : A) × (In a xs) × (b ≡ f a)
in_map f [] b i = absurd i
in_map f (x ∷ xs) b (inl is) = (x, inl refl, is)
in_map f (x ∷ xs) b (inr i) = let k = in_map f xs b i in (k.0, inr k.1, k.2)

in_either : {A : Type 0} (xs ys : List A) (a : A) → In a (xs ++ ys) → In a xs ⊎ In a ys
in_either [] ys a i = inr i
in_either (x ∷ xs) ys a (inl is) = inl (inl is)
in_either (x ∷ xs) ys a (inr i) = by (in_either xs ys a i)
  where
    by : In a xs ⊎ In a ys → In a (x ∷ xs) ⊎ In a ys
    by (inl j) = inl (inr j)
    by (inr j) = inr j

pub all_member : {A : Type 0} (test : A → Bool) (xs : List A) → list_all test xs ≡ true → (a : A) → In a xs → test a ≡ true
all_member test [] all a i = absurd i
all_member test (x ∷ xs) all a (inl is) = ap test is ∙ and_left (test x) (list_all test xs) all
all_member test (x ∷ xs) all a (inr i) = all_member test xs (and_right (test x) (list_all test xs) all) a i

any_member : {A : Type 0} (test : A → Bool) (xs : List A) → list_any test xs ≡ true → (a : A) × (In a xs) × (test a ≡ true)
any_member {A = A} test [] e = false_true e
any_member {A = A} test (x ∷ xs) e = by (any_member test xs) (or_either (test x) (list_any test xs) e)
  where
    by : (list_any test xs ≡ true → (a : A) × (In a xs) × (test a ≡ true)) → (test x ≡ true) ⊎ (list_any test xs ≡ true) → (a : A) × (In a (x ∷ xs)) × (test a ≡ true)
    by below (inl here) = (x, inl refl, here)
    by below (inr later) = let k = below later in (k.0, inr k.1, k.2)

-- ---- the nodes that a schedule names

-- a node stands at this place to which such an event may come
record ComesAt (w : World) (past : Past) (p : Place) (event : Event) : Type 0 where
  role : Role
  stands : role_at w past p ≡ Some role
  comes : ComesTo role event

-- a resource has local transaction k
record HasLocal (w : World) (k : ℕ) : Type 0 where
  resource : Setup
  there : In resource w.resources
  has : is_some (local_of resource k) ≡ true

abbrev NamesNode : World → Past → Item → Type 0
NamesNode w past (TurnOf p) = ComesAt w past p (Given input.Turn)
NamesNode w past (StopOf p calls) = ComesAt w past p (Stopped calls)
NamesNode w past (CrashOf p) = ComesAt w past p Crashed
NamesNode w past (RestartOf p pick calls) = ComesAt w past p (Restarted pick calls)
NamesNode w past (LocalOf k) = HasLocal w k
NamesNode w past (OutsideOf k) = HasLocal w k
NamesNode w past _ = Unit {0}

module _ (w : World) (past : Past) where
  resource_comes : (n : ℕ) (event : Event) → ((s : Setup) → ComesTo (Resource s (past.resource n)) event) → is_counted (length w.resources) n ≡ true → ComesAt w past (place.Res n) event
  resource_comes n event comes e =
      let found = counted_there w.resources n e in
      record { role = Resource found.0 (past.resource n); stands = ap (option_map (λ q. Resource q (past.resource n))) found.1; comes = comes found.0 }

  turn_comes : (p : Place) → is_node w p ≡ true → ComesAt w past p (Given input.Turn)
  turn_comes place.Net e = false_true e
  turn_comes place.Tc e = record { role = Coordinator w.times past.sessions; stands = refl; comes = tt }
  turn_comes (place.Res n) e = resource_comes n (Given input.Turn) (λ s. tt) e
  turn_comes (place.Man n) e = let found = counted_there w.managers n e in record { role = Manager found.0; stands = ap (option_map (λ q. Manager q)) found.1; comes = tt }

  disk_comes : (p : Place) (event : Event) → ComesTo (Coordinator w.times past.sessions) event → ((s : Setup) (n : ℕ) → ComesTo (Resource s (past.resource n)) event) → has_disk w p ≡ true → ComesAt w past p event
  disk_comes place.Net event tc res e = false_true e
  disk_comes place.Tc event tc res e = record { role = Coordinator w.times past.sessions; stands = refl; comes = tc }
  disk_comes (place.Res n) event tc res e = resource_comes n event (λ s. res s n) e
  disk_comes (place.Man n) event tc res e = false_true e

  local_found : (k : ℕ) → has_local w k ≡ true → HasLocal w k
  local_found k e = let found = any_member (λ (s : Setup). is_some (local_of s k)) w.resources e in record { resource = found.0; there = found.1; has = found.2 }

  named_node : (i : Item) → names_node w i ≡ true → NamesNode w past i
  named_node (TurnOf p) e = turn_comes p e
  named_node (StopOf p calls) e = disk_comes p (Stopped calls) tt (λ s n. tt) e
  named_node (CrashOf p) e = disk_comes p Crashed tt (λ s n. tt) e
  named_node (RestartOf p pick calls) e = disk_comes p (Restarted pick calls) tt (λ s n. tt) e
  named_node (LocalOf k) e = local_found k e
  named_node (OutsideOf k) e = local_found k e
  named_node (DeliverOf stamp) e = tt
  named_node (WaitFor ticks) e = tt
  named_node (Auto steps) e = tt

-- ---- the stamps and moments of a history that follows a schedule

module _ (w : World) (past : Past) (schedule : List Item) where
  stamp_by : (ms : List Moment) (m : Moment) (o : Option Item) → IsStep w past ms m o → m.stamp ≡ length ms + 1
  stamp_by ms m None s = absurd s
  stamp_by ms m (Some i) s = s.0

  now_by : (ms : List Moment) (m : Moment) (o : Option Item) → IsStep w past ms m o → clock past ms ≤ m.now
  now_by ms m None s = absurd s
  now_by ms m (Some i) s = let e = s.1 in omega arith

  stamp_of : (ms : List Moment) (m : Moment) → Follows w past schedule (m ∷ ms) → m.stamp ≡ length ms + 1
  stamp_of ms m f = stamp_by ms m (slice_get (singles schedule) (length ms)) f.1

  -- no stamp is above the number of entries
  stamps_low : (ms : List Moment) → Follows w past schedule ms → (m : Moment) → In m ms → m.stamp ≤ length ms
  stamps_low [] f m i = absurd i
  stamps_low (n ∷ ms) f m (inl is) = let e : m.stamp ≡ length ms + 1 = ap (λ (z : Moment). z.stamp) is ∙ stamp_of ms n f in omega arith
  stamps_low (n ∷ ms) f m (inr i) = let e = stamps_low ms f.0 m i in omega arith

  -- no own entry is later than the clock
  now_top : (p : Place) (ms : List Moment) → Follows w past schedule ms → last_now (own p ms) ≤ clock past ms
  now_top p [] f = omega arith
  now_top p (m ∷ ms) f = by (same_place p m.place) m.event (now_top p ms f.0) (now_by ms m (slice_get (singles schedule) (length ms)) f.1)
    where
      by : (b : Bool) (event : Option Event) → last_now (own p ms) ≤ clock past ms → clock past ms ≤ m.now → last_now (own_if b event m (own p ms)) ≤ m.now
      by true (Some event) below rise = omega arith
      by true None below rise = omega arith
      by false (Some event) below rise = omega arith
      by false None below rise = omega arith

-- ---- messages that were sent

sent_too : (stamp : ℕ) (ms : List Moment) (from : Place) (out : Outgoing) → sent_at stamp ms ≡ Some (from, out) → sent_from stamp from ms ≡ Some (from, out)
sent_too stamp [] from out e = none_some e
sent_too stamp (m ∷ ms) from out e = by (m.stamp == stamp) m.step.sent (sent_too stamp ms from out) e
  where
    here : (b : Bool) → same_place m.place from ≡ b → (sent : Outgoing) → ◌≡◌ {A = Option (Place × Outgoing)} (Some (m.place, sent)) (Some (from, out)) → sent_if b m (Some sent) (sent_from stamp from ms) ≡ Some (from, out)
    here true same sent e = e
    here false same sent e =
        let pair : ◌≡◌ {A = Place × Outgoing} (m.place, sent) (from, out) = cc in
        let at : m.place ≡ from = ap (λ (z : Place × Outgoing). z.0) pair in
        true_false (sym (subst (λ p. same_place m.place p ≡ true) at (same_itself m.place)) ∙ same)

    silent : (b : Bool) → sent_from stamp from ms ≡ Some (from, out) → sent_if b m None (sent_from stamp from ms) ≡ Some (from, out)
    silent true e = e
    silent false e = e

    by : (b : Bool) (sent : Option Outgoing) → (sent_at stamp ms ≡ Some (from, out) → sent_from stamp from ms ≡ Some (from, out)) → sent_if b m sent (sent_at stamp ms) ≡ Some (from, out)
        → sent_if (b && same_place m.place from) m sent (sent_from stamp from ms) ≡ Some (from, out)
    by true (Some sent) below e = here (same_place m.place from) refl sent e
    by true None below e = silent (same_place m.place from) (below e)
    by false (Some sent) below e = below e
    by false None below e = below e

-- the entry that sent it
pub record SentBy (ms : List Moment) (stamp : ℕ) (from : Place) (out : Outgoing) : Type 0 where
  pub entry : Moment
  pub there : In entry ms
  pub at : entry.stamp ≡ stamp
  pub place : entry.place ≡ from
  pub sent : entry.step.sent ≡ Some out

sent_entry : (stamp : ℕ) (ms : List Moment) (from : Place) (out : Outgoing) → sent_at stamp ms ≡ Some (from, out) → SentBy ms stamp from out
sent_entry stamp [] from out e = none_some e
sent_entry stamp (m ∷ ms) from out e = by (m.stamp == stamp) refl m.step.sent refl (sent_entry stamp ms from out) e
  where
    later : SentBy ms stamp from out → SentBy (m ∷ ms) stamp from out
    later s = record { entry = s.entry; there = inr s.there; at = s.at; place = s.place; sent = s.sent }

    by : (b : Bool) → (m.stamp == stamp) ≡ b → (sent : Option Outgoing) → m.step.sent ≡ sent → (sent_at stamp ms ≡ Some (from, out) → SentBy ms stamp from out) → sent_if b m sent (sent_at stamp ms) ≡ Some (from, out)
        → SentBy (m ∷ ms) stamp from out
    by true same (Some sent) is below e =
        let pair : ◌≡◌ {A = Place × Outgoing} (m.place, sent) (from, out) = cc in
        record {
          entry = m;
          there = inl refl;
          at = same_nat m.stamp stamp same;
          place = ap (λ (z : Place × Outgoing). z.0) pair;
          sent = is ∙ ap (λ (z : Place × Outgoing). Some z.1) pair;
        }
    by true same None is below e = later (below e)
    by false same (Some sent) is below e = later (below e)
    by false same None is below e = later (below e)

reached_of : (w : World) (past : Past) (ms : List Moment) → EachSent (ReachesNode w past) ms → (m : Moment) → In m ms → (out : Outgoing) → m.step.sent ≡ Some out → IsNode w past out.to
reached_of w past [] each m i out sent = absurd i
reached_of w past (n ∷ ms) each m (inl is) out sent =
    let here : OnSent (ReachesNode w past) n.place (Some out) = subst (OnSent (ReachesNode w past) n.place) (ap (λ (z : Moment). z.step.sent) (sym is) ∙ sent) each.1 in here.receiver
reached_of w past (n ∷ ms) each m (inr i) out sent = reached_of w past ms each.0 m i out sent

-- the message of an entry is found at its stamp and place
module _ (w : World) (past : Past) (schedule : List Item) where
  found_here : (ms : List Moment) → Follows w past schedule ms → (m : Moment) → In m ms → (out : Outgoing) → m.step.sent ≡ Some out → sent_from m.stamp m.place ms ≡ Some (m.place, out)
  found_here [] f m i out sent = absurd i
  found_here (n ∷ ms) f m (inl is) out sent =
      subst (λ (z : Moment). sent_from m.stamp m.place (z ∷ ms) ≡ Some (m.place, out)) is
      (by (m.stamp == m.stamp) (nat_same m.stamp m.stamp refl) (same_place m.place m.place) (same_itself m.place) m.step.sent sent)
    where
      by : (a : Bool) → a ≡ true → (b : Bool) → b ≡ true → (o : Option Outgoing) → o ≡ Some out → sent_if (a && b) m o (sent_from m.stamp m.place ms) ≡ Some (m.place, out)
      by true ea true eb (Some found) e = ap (option_map (λ (z : Outgoing). (m.place, z))) e
      by true ea true eb None e = none_some e
      by true ea false eb o e = false_true eb
      by false ea b eb o e = false_true ea
  found_here (n ∷ ms) f m (inr i) out sent =
      let low = stamps_low w past schedule ms f.0 m i in
      let high = stamp_of w past schedule ms n f in
      by (n.stamp == m.stamp) (nat_differs n.stamp m.stamp (λ e. omega arith)) n.step.sent (found_here ms f.0 m i out sent)
    where
      by : (a : Bool) → a ≡ false → (o : Option Outgoing) → sent_from m.stamp m.place ms ≡ Some (m.place, out) → sent_if (a && same_place n.place m.place) n o (sent_from m.stamp m.place ms) ≡ Some (m.place, out)
      by true e o below = true_false e
      by false e (Some q) below = below
      by false e None below = below

-- ---- one step

module _ (w : World) (past : Past) (schedule : List Item) (names : NamesItsNodes w) (ms : List Moment) (legal : Legal w past ms) (follows : Follows w past schedule ms) (each : EachSent (ReachesNode w past) ms) where
  -- an event comes to a node, and what brings none comes to the network
  abbrev IsFit : Place → Cause → Option Event → Type 0
  IsFit p cause None = ComesToNone ms p cause
  IsFit p cause (Some event) = ComesAt w past p event

  silent : (o : Option Role) (os : List Own) (now : ℕ) → done_by o None os now ≡ still act.Nothing
  silent None os now = refl
  silent (Some role) os now = refl

  does : (p : Place) (event : Event) (now : ℕ) → ComesAt w past p event → HappensAt (role_at w past p) (own p ms) now event (done_by (role_at w past p) (Some event) (own p ms) now)
  does p event now c =
      subst (λ (o : Option Role). HappensAt o (own p ms) now event (done_by o (Some event) (own p ms) now)) (sym c.stands)
      (record { fault = false; keeps = keeps_of event; comes = c.comes; done = refl })

  fits : (p : Place) (cause : Cause) (now : ℕ) (e : Option Event) → brings ms p cause ≡ e → IsFit p cause e → IsDone w past ms (moment_at w past ms now (p, cause)) e
  fits p cause now None is fit = (fit, ap (λ o. done_by (role_at w past p) o (own p ms) now) is ∙ silent (role_at w past p) (own p ms) now)
  fits p cause now (Some event) is fit =
      subst (λ o. HappensAt (role_at w past p) (own p ms) now event (done_by (role_at w past p) o (own p ms) now)) (sym is) (does p event now fit)

  rises : (m : Moment) → m.stamp ≡ length ms + 1 → Rises ms m
  rises m is = by ms follows is
    where
      by : (ns : List Moment) → Follows w past schedule ns → m.stamp ≡ length ns + 1 → Rises ns m
      by [] f e = tt
      by (n ∷ ns) f e = let k = stamp_of w past schedule ns n f in inl (omega arith)

  stands_at : (p : Place) (cause : Cause) (ticks : ℕ) → ReceivesLater cause (length ms + 1) → IsFit p cause (brings ms p cause) → Stands w past ms (moment_at w past ms (clock past ms + ticks) (p, cause))
  stands_at p cause ticks later fit = record {
    rises = rises (moment_at w past ms (clock past ms + ticks) (p, cause)) refl;
    receives_later = later;
    clock_rises = λ at. let k = now_top w past schedule place.Tc ms follows in omega arith;
    brought = refl;
    done = fits p cause (clock past ms + ticks) (brings ms p cause) refl fit;
  }

  -- a message that an entry sent comes to a node
  comes_to : (m : Moment) → In m ms → (out : Outgoing) → m.step.sent ≡ Some out → sent_from m.stamp m.place ms ≡ Some (m.place, out) → IsFit out.to (Deliver m.stamp m.place) (brings ms out.to (Deliver m.stamp m.place))
  comes_to m i out sent found =
      subst (λ o. IsFit out.to (Deliver m.stamp m.place) (delivered out.to o)) (sym found) (by (same_place out.to out.to) (same_itself out.to))
    where
      node : IsNode w past out.to
      node = reached_of w past ms each m i out sent

      by : (b : Bool) → b ≡ true → IsFit out.to (Deliver m.stamp m.place) (if b then Some (Given (input.Message m.place out.message)) else None)
      by true e = record { role = node.0; stands = node.1; comes = tt }
      by false e = false_true e

  abbrev Fine : ℕ → Place × Cause → Type 0
  Fine ticks (p, cause) = Stands w past ms (moment_at w past ms (clock past ms + ticks) (p, cause))

  from_entry : (ticks : ℕ) (m : Moment) → In m ms → (out : Outgoing) → m.step.sent ≡ Some out → Fine ticks (out.to, Deliver m.stamp m.place)
  from_entry ticks m i out sent =
      let low = stamps_low w past schedule ms follows m i in
      stands_at out.to (Deliver m.stamp m.place) ticks (omega arith) (comes_to m i out sent (found_here w past schedule ms follows m i out sent))

  -- a delivery, or a message that no entry sent
  delivers : (stamp : ℕ) (o : Option (Place × Outgoing)) → sent_at stamp ms ≡ o → Fine 0 (delivery stamp o)
  delivers stamp None e = stands_at place.Net (Missing stamp) 0 tt e
  delivers stamp (Some (from, out)) e =
      let s = sent_entry stamp ms from out e in
      subst (λ q. Fine 0 (out.to, Deliver q from)) s.at (subst (λ q. Fine 0 (out.to, Deliver s.entry.stamp q)) s.place (from_entry 0 s.entry s.there out s.sent))

  -- the oldest message that waits was sent by an entry
  abbrev Waits : List Moment → Place → Cause → Type 0
  Waits ns to cause = (m : Moment) × (In m ns) × ((out : Outgoing) × (m.step.sent ≡ Some out) × (◌≡◌ {A = Place × Cause} (out.to, Deliver m.stamp m.place) (to, cause)))

  waiting : (all ns : List Moment) (to : Place) (cause : Cause) → oldest_waiting all ns ≡ Some (to, cause) → Waits ns to cause
  waiting all [] to cause e = none_some e
  waiting all (m ∷ ns) to cause e = by (oldest_waiting all ns) (waiting all ns to cause) (is_taken m.stamp all) m.step.sent refl e
    where
      by : (o : Option (Place × Cause)) → (o ≡ Some (to, cause) → Waits ns to cause) → (taken : Bool) (sent : Option Outgoing) → m.step.sent ≡ sent → or_waiting o taken m sent ≡ Some (to, cause)
          → Waits (m ∷ ns) to cause
      by (Some older) below taken sent is e = let k = below e in (k.0, inr k.1, k.2)
      by None below false (Some out) is e = let pair : ◌≡◌ {A = Place × Cause} (out.to, Deliver m.stamp m.place) (to, cause) = cc in (m, inl refl, (out, is, pair))
      by None below true sent is e = none_some e
      by None below false None is e = none_some e

  -- ---- the nodes in turn

  resource_node : (s : Setup) → In s w.resources → IsNode w past (place.Res s.number)
  resource_node s i =
      let k = in_slot w.resources s i in
      let at : s.number ≡ suc k.0 = names.numbered (suc k.0) s k.1 in
      (Resource s (past.resource s.number), subst (λ n. option_map (λ q. Resource q (past.resource n)) (counted_at w.resources n) ≡ Some (Resource s (past.resource n))) (sym at) (ap (option_map (λ q. Resource q (past.resource (suc k.0)))) k.1))

  manager_node : (s : Settings) → In s w.managers → IsNode w past (place.Man s.number)
  manager_node s i =
      let k = in_slot w.managers s i in
      let at : s.number ≡ suc k.0 = names.managed (suc k.0) s k.1 in
      (Manager s, subst (λ n. option_map (λ q. Manager q) (counted_at w.managers n) ≡ Some (Manager s)) (sym at) (ap (option_map (λ q. Manager q)) k.1))

  placed : (p : Place) → In p (places w) → IsNode w past p
  placed p (inl is) = subst (IsNode w past) (sym is) (Coordinator w.times past.sessions, refl)
  placed p (inr i) = by (in_either (map (λ (s : Setup). place.Res s.number) w.resources) (map (λ (s : Settings). place.Man s.number) w.managers) p i)
    where
      by : In p (map (λ (s : Setup). place.Res s.number) w.resources) ⊎ In p (map (λ (s : Settings). place.Man s.number) w.managers) → IsNode w past p
      by (inl j) = let k = in_map (λ (s : Setup). place.Res s.number) w.resources p j in subst (IsNode w past) (sym k.2) (resource_node k.0 k.1)
      by (inr j) = let k = in_map (λ (s : Settings). place.Man s.number) w.managers p j in subst (IsNode w past) (sym k.2) (manager_node k.0 k.1)

  turn_node : (first : Place) (ps : List Place) → IsNode w past first → ((p : Place) → In p ps → IsNode w past p) → IsNode w past (earliest ms first ps)
  turn_node first [] here all = here
  turn_node first (p ∷ ps) here all = turn_node (if nat_lt (last_turn ms p) (last_turn ms first) then p else first) ps (by (nat_lt (last_turn ms p) (last_turn ms first))) (λ q i. all q (inr i))
    where
      by : (b : Bool) → IsNode w past (if b then p else first)
      by true = all p (inl refl)
      by false = here

  autos : (o : Option (Place × Cause)) → oldest_waiting ms ms ≡ o → Fine 0 (or_turn w ms o)
  autos None e =
      let node = turn_node place.Tc (places w) (Coordinator w.times past.sessions, refl) placed in
      stands_at (earliest ms place.Tc (places w)) Turn 0 tt (record { role = node.0; stands = node.1; comes = tt })
  autos (Some (to, cause)) e =
      let k = waiting ms ms to cause e in
      subst (Fine 0) k.2.2 (from_entry 0 k.0 k.1 k.2.0 k.2.1)

  -- ---- local transactions

  local_at : (k : ℕ) (rs : List Setup) (s : Setup) → In s rs → is_some (local_of s k) ≡ true → ((q : Setup) → In q rs → IsNode w past (place.Res q.number)) → IsNode w past (local_place rs k)
  local_at k [] s i has all = absurd i
  local_at k (r ∷ rs) s i has all = by (is_some (local_of r k)) refl (λ j. local_at k rs s j has (λ q z. all q (inr z))) i
    where
      by : (b : Bool) → is_some (local_of r k) ≡ b → (In s rs → IsNode w past (local_place rs k)) → In s (r ∷ rs) → IsNode w past (if b then place.Res r.number else local_place rs k)
      by true e below j = all r (inl refl)
      by false e below (inl is) = true_false (sym has ∙ ap (λ (z : Setup). is_some (local_of z k)) is ∙ e)
      by false e below (inr j) = below j

  local_node : (k : ℕ) → HasLocal w k → IsNode w past (local_place w.resources k)
  local_node k l = local_at k w.resources l.resource l.there l.has resource_node

  step_stands : (i : Item) → NamesNode w past i → Fine (ticks_of i) (named w ms i)
  step_stands (TurnOf p) n = stands_at p Turn 0 tt n
  step_stands (DeliverOf stamp) n = delivers stamp (sent_at stamp ms) refl
  step_stands (WaitFor ticks) n = stands_at place.Net (Wait ticks) ticks tt tt
  step_stands (StopOf p calls) n = stands_at p (Stop calls) 0 tt n
  step_stands (CrashOf p) n = stands_at p Crash 0 tt n
  step_stands (RestartOf p pick calls) n = stands_at p (Restart pick calls) 0 tt n
  step_stands (LocalOf k) n = let node = local_node k n in stands_at (local_place w.resources k) (Local k) 0 tt (record { role = node.0; stands = node.1; comes = tt })
  step_stands (OutsideOf k) n = let node = local_node k n in stands_at (local_place w.resources k) (Outside k) 0 tt (record { role = node.0; stands = node.1; comes = tt })
  step_stands (Auto steps) n = autos (oldest_waiting ms ms) refl

-- ---- all steps

moment_fine : (w : World) (past : Past) (ms : List Moment) (now : ℕ) (pc : Place × Cause) → ((moment_at w past ms now pc).stamp ≡ length ms + 1) × ((moment_at w past ms now pc).now ≡ now) × (◌≡◌ {A = Place × Cause} ((moment_at w past ms now pc).place, (moment_at w past ms now pc).cause) pc)
moment_fine w past ms now (p, cause) = (refl, refl, refl)

module _ (w : World) (past : Past) (schedule : List Item) (names : NamesItsNodes w) (of : AreOfResources w past.sessions) where
  record Plays (before : ℕ) (ms : List Moment) : Type 0 where
    legal : Legal w past ms
    follows : Follows w past schedule ms
    count : length ms ≡ before

  plays : (steps : List Item) (ms : List Moment) → Legal w past ms → Follows w past schedule ms → ((k j : ℕ) → j ≡ length ms + k → slice_get (singles schedule) j ≡ slice_get steps k)
      → ((i : Item) → In i steps → NamesNode w past i) → Plays (length ms + length steps) (played_on w past ms steps)
  plays [] ms legal follows at all = record { legal = legal; follows = follows; count = omega arith }
  plays (i ∷ steps) ms legal follows at all =
      let m = next_moment w past ms i in
      let stands : Stands w past ms (next_moment w past ms i) = step_stands w past schedule names ms legal follows (messages_over_any w past ms names of legal) i (all i (inl refl)) in
      let here : slice_get (singles schedule) (length ms) ≡ Some i = at 0 (length ms) (omega arith) in
      let step : IsStep w past ms (next_moment w past ms i) (slice_get (singles schedule) (length ms)) =
      subst (IsStep w past ms (next_moment w past ms i)) (sym here) (moment_fine w past ms (clock past ms + ticks_of i) (named w ms i)) in
      let rest = plays steps (next_moment w past ms i ∷ ms) (legal, stands) (follows, step) (λ k j e. at (suc k) j (omega arith)) (λ q z. all q (inr z)) in
      record { legal = rest.legal; follows = rest.follows; count = let c = rest.count in omega arith }

-- the single steps of a schedule name nodes
times_of : (n : ℕ) (a i : Item) → In i (times n a) → i ≡ a
times_of zero a i j = absurd j
times_of (suc n) a i (inl is) = is
times_of (suc n) a i (inr j) = times_of n a i j

singles_name : (w : World) (past : Past) (schedule : List Item) → ((i : Item) → In i schedule → NamesNode w past i) → (i : Item) → In i (singles schedule) → NamesNode w past i
singles_name w past [] all i j = absurd j
singles_name w past (x ∷ rest) all i j = by (singles_name w past rest (λ q z. all q (inr z)) i) (in_either (singles_of x) (singles rest) i j)
  where
    head : {A : Type 0} (a b : A) → In a (b ∷ []) → a ≡ b
    head a b (inl is) = is
    head a b (inr j) = absurd j

    one : (y : Item) → NamesNode w past y → In i (singles_of y) → NamesNode w past i
    one (Auto steps) n k = subst (NamesNode w past) (sym (times_of steps (Auto 1) i k)) tt
    one (TurnOf p) n k = subst (NamesNode w past) (sym (head i (TurnOf p) k)) n
    one (DeliverOf stamp) n k = subst (NamesNode w past) (sym (head i (DeliverOf stamp) k)) n
    one (WaitFor ticks) n k = subst (NamesNode w past) (sym (head i (WaitFor ticks) k)) n
    one (StopOf p calls) n k = subst (NamesNode w past) (sym (head i (StopOf p calls) k)) n
    one (CrashOf p) n k = subst (NamesNode w past) (sym (head i (CrashOf p) k)) n
    one (RestartOf p pick calls) n k = subst (NamesNode w past) (sym (head i (RestartOf p pick calls) k)) n
    one (LocalOf number) n k = subst (NamesNode w past) (sym (head i (LocalOf number) k)) n
    one (OutsideOf number) n k = subst (NamesNode w past) (sym (head i (OutsideOf number) k)) n

    by : (In i (singles rest) → NamesNode w past i) → In i (singles_of x) ⊎ In i (singles rest) → NamesNode w past i
    by later (inl k) = one x (all x (inl refl)) k
    by later (inr k) = later k

pub played_law : PlayedLaw
played_law w past schedule names of all =
    let p = plays w past schedule names of (singles schedule) [] tt tt (λ k j e. let same : j ≡ k = omega arith in ap (slice_get (singles schedule)) same) (singles_name w past schedule (λ i j. named_node w past i (all_member (names_node w) schedule all i j))) in
    record { legal = p.legal; follows = p.follows; whole = let c = p.count in omega arith }
