-- What an entry is at its node, and what is kept of all nodes after it.
use Rattle.std.proofs.Common.{◌≡◌, ◌≢◌, ◌-◌, ◌≤◌, ℕ, zero, suc, true, false, List, [], ◌∷◌, length-set, set, Option, Some, None, option_map, Result, Ok, Err, refl, sym, ap, subst, ◌∙◌, arith}
use Rattle.std.proofs.lemmas.Option.{same_Some}
use Rattle.std.specs.Prelude.{IfOk, Vec}
use Rattle.std.specs.declared.alloc.Global.{Global}
use Rattle.seata_types.specs.declared.copies.NoMemory.{NoMemory}
use Rattle.seata_types.specs.declared.ids.Place.{Place}
use Rattle.seata_types.specs.declared.ids.Place.TheVariants as place
use Rattle.seata_types.specs.declared.messages.Step.{Step}
use Rattle.seata_types.specs.declared.messages.Input.{Input}
use Rattle.history_rules.specs.Own.{Event, Given, Stopped, Crashed, Restarted, Own}
use Rattle.history_rules.specs.CoordinatorMemory.{Times}
use Rattle.history_rules.specs.ManagerRules.{Settings}
use Rattle.history_rules.specs.ResourceMemory.{Setup}
use Rattle.history_rules.specs.Nodes.{World, Role, Coordinator, Resource, Manager, ComesTo, counted_at, no_past, role_at}
use Rattle.history_rules.specs.Histories.{HappensAt, IsDone, Moment, own, own_if, same_place}
use Rattle.history_law.proofs.Tests.{nat_differs, nat_same}
use Rattle.history_text.specs.declared.entries.Entry.{Entry}
use Rattle.judged_devices.specs.Showing.{given_in}
use Rattle.judged_devices.specs.Taking.{Takes, one_more}
use Rattle.judged_bench.specs.Following as bench
use Rattle.judged_bench.specs.declared.benches.Bench.{Bench}
use Rattle.judged_desk.specs.Following as desk
use Rattle.judged_desk.specs.declared.desks.Desk.{Desk}
use Rattle.judged_talk.specs.Following as talk
use Rattle.judged_talk.specs.declared.talks.Talk.{Talk}
use Rattle.verdict_law.specs.declared.rules.Rule.TheVariants as rule
use Rattle.verdict_law.specs.Verdicts.{Comes, ComesAt, event_at, moment_at}
use Rattle.history_audit.specs.declared.kept.Found.{Found}
use Rattle.history_audit.specs.declared.kept.Found.TheVariants as found
use Rattle.history_audit.specs.declared.kept.Nodes.{Nodes}
use Rattle.history_audit.specs.Finding.{Finds, found_of}
use Rattle.history_audit.specs.Nodes.{AreBenches, AreNodes, AreParts, AreTalks}
use Rattle.history_audit.proofs.Counted.{counted_elsewhere, counted_high, counted_low, counted_set, counted_there}

same_itself : (p : Place) → same_place p p ≡ true
same_itself place.Net = refl
same_itself place.Tc = refl
same_itself (place.Res n) = nat_same n n refl
same_itself (place.Man n) = nat_same n n refl

-- ---- own entries

-- elsewhere there is none more
pub own_there : (p : Place) (m : Moment) (ms : List Moment) → same_place p m.place ≡ false → own p (m ∷ ms) ≡ own p ms
own_there p m ms away = rw away refl

own_by : (p : Place) (m : Moment) (os : List Own) (event : Event) → m.event ≡ Some event → own_if (same_place p p) m.event m os ≡ record { event = event; now = m.now; step = m.step } ∷ os
own_by p m os event is = ap (λ b. own_if b m.event m os) (same_itself p) ∙ ap (λ (o : Option Event). own_if true o m os) is

-- what is given, and what isn't
pub given_event : (event : Event) (given : Input) → given_in false event ≡ Some given → event ≡ Given given
given_event (Given one) given is = ap (λ (i : Input). Given i) (same_Some one given is)
given_event (Stopped calls) given is = absurd (let no : None ≡ Some given = is in cc)
given_event Crashed given is = absurd (let no : None ≡ Some given = is in cc)
given_event (Restarted pick calls) given is = absurd (let no : None ≡ Some given = is in cc)

-- ---- one entry that brings an event

module _ (w : World) (ms : List Moment) (e : Entry) (event : Event) (brought : event_at ms e ≡ Some event) where
  pub own_here : (step : Step) → own e.place (moment_at ms e step ∷ ms) ≡ one_more (own e.place ms) event e.now step
  own_here step = own_by e.place (moment_at ms e step) (own e.place ms) event brought

  -- it comes where there is a node to which it may come
  comes_at : ComesAt w no_past ms e (Some event) → Comes w no_past ms e
  comes_at c = subst (ComesAt w no_past ms e) (sym brought) c

  comes_as : Comes w no_past ms e → ComesAt w no_past ms e (Some event)
  comes_as c = subst (ComesAt w no_past ms e) brought c

  pub nowhere : role_at w no_past e.place ≡ None → Comes w no_past ms e → ⊥
  nowhere none c =
      let (role, there, comes) = comes_as c in
      absurd (let no : None ≡ Some role = sym none ∙ there in cc)

  pub not_to : ((role : Role) → role_at w no_past e.place ≡ Some role → ComesTo role event → ⊥) → Comes w no_past ms e → ⊥
  not_to never c = let (role, there, comes) = comes_as c in never role there comes

  module _ (role : Role) (there : role_at w no_past e.place ≡ Some role) where
    done_at : (step : Step) → HappensAt (Some role) (own e.place ms) e.now event step → IsDone w no_past ms (moment_at ms e step) (event_at ms e)
    done_at step h =
        subst (IsDone w no_past ms (moment_at ms e step)) (sym brought)
        (subst (λ (r : Option Role). HappensAt r (own e.place ms) e.now event step) (sym there) h)

    done_as : (step : Step) → IsDone w no_past ms (moment_at ms e step) (event_at ms e) → HappensAt (Some role) (own e.place ms) e.now event step
    done_as step d =
        subst (λ (r : Option Role). HappensAt r (own e.place ms) e.now event step) there
        (subst (IsDone w no_past ms (moment_at ms e step)) brought d)

    -- what its node takes of it is what is found of it
    pub finds_at : (Keeps : List Own → Type 0) (All : List Moment → Type 0) → ComesTo role event → ((step : Step) → Keeps (one_more (own e.place ms) event e.now step) → All (moment_at ms e step ∷ ms))
        → (o : Option Step) → Takes role (own e.place ms) event e.now e.act Keeps o → Finds w ms e All (found_of o)
    finds_at Keeps All comes grows (Some step) (done, kept) =
        (comes_at (role, there, comes), record { done = done_at step done.happens; same_act = done.same_act }, grows step kept)
    finds_at Keeps All comes grows None never =
        (comes_at (role, there, comes), λ step does. never step (record { happens = done_as step does.done; same_act = does.same_act }))

-- what is kept of one part is kept of all
pub finds_all : (w : World) (ms : List Moment) (e : Entry) (Part All : List Moment → Type 0) → ((step : Step) → Part (moment_at ms e step ∷ ms) → All (moment_at ms e step ∷ ms))
    → (f : Found) → Finds w ms e Part f → Finds w ms e All f
finds_all w ms e Part All grows (found.Does step) (comes, does, kept) = (comes, does, grows step kept)
finds_all w ms e Part All grows (found.Breaks rule.Cause) never = never
finds_all w ms e Part All grows (found.Breaks rule.Act) never = never
finds_all w ms e Part All grows (found.Breaks rule.Stamp) never = absurd never
finds_all w ms e Part All grows (found.Breaks rule.Clock) never = absurd never
finds_all w ms e Part All grows (found.Breaks rule.Sent) never = absurd never

-- ---- parts

-- two numbers, one or not
data Numbers (n k : ℕ) : Type 0 where
  One : n ≡ k → Numbers n k
  Two : n ≢ k → Numbers n k

numbers : (n k : ℕ) → Numbers n k
numbers zero zero = One refl
numbers zero (suc k) = Two (λ e. absurd (let no : zero ≡ suc k = e in cc))
numbers (suc n) zero = Two (λ e. absurd (let no : suc n ≡ zero = e in cc))
numbers (suc n) (suc k) = next (numbers n k)
  where
    next : Numbers n k → Numbers (suc n) (suc k)
    next (One e) = One (ap suc e)
    next (Two apart) = Two (λ e. apart (omega (arith, e)))

module _ {S P : Type 0} (at : ℕ → Place) (Follows : S → List Own → P → Type 0) (settings : List S) (parts : List P) where
  -- an entry at no place of these
  pub parts_stay : (ms : List Moment) (m : Moment) → ((n : ℕ) → same_place (at n) m.place ≡ false) → AreParts at Follows settings parts ms → AreParts at Follows settings parts (m ∷ ms)
  parts_stay ms m away are = record {
    same = are.same;
    each = λ n s p listed kept. subst (λ os. Follows s os p) (sym (own_there (at n) m ms (away n))) (are.each n s p listed kept);
  }

  module _ (ms : List Moment) (are : AreParts at Follows settings parts ms) (number : ℕ) where
    -- where no part is kept there is no setting
    pub none_listed : counted_at parts number ≡ None → counted_at settings number ≡ None
    none_listed none = by (counted_at settings number) refl
      where
        by : (o : Option S) → counted_at settings number ≡ o → o ≡ None
        by None is = refl
        by (Some s) is =
            let high = counted_high settings number s is in
            let size = are.same in
            let (p, kept) = counted_there parts number (counted_low settings number s is) (omega (arith, high, size)) in
            absurd (let no : None ≡ Some p = sym none ∙ kept in cc)

    -- a part has its setting
    pub listed_at : (p : P) → counted_at parts number ≡ Some p → (s : S) × (counted_at settings number ≡ Some s)
    listed_at p kept =
        let high = counted_high parts number p kept in
        let size = are.same in
        counted_there settings number (counted_low parts number p kept) (omega (arith, high, size))

    -- a part is changed, and no other, by an entry at its place
    module _ (distinct : (n k : ℕ) → n ≢ k → same_place (at n) (at k) ≡ false) (m : Moment) (here : m.place ≡ at number) (s : S) (listed : counted_at settings number ≡ Some s) (before after : P)
        (kept : counted_at parts number ≡ Some before) (follows : Follows s (own (at number) (m ∷ ms)) after) where
      pub parts_next : AreParts at Follows settings (set parts (number - 1) after) (m ∷ ms)
      parts_next = record {
        same = length-set parts (number - 1) after ∙ are.same;
        each = λ n t p listed_n kept_n. by n t p (numbers n number) listed_n kept_n;
      }
        where
          low : 1 ≤ number
          low = counted_low parts number before kept

          by : (n : ℕ) (t : S) (p : P) → Numbers n number → counted_at settings n ≡ Some t → counted_at (set parts (number - 1) after) n ≡ Some p → Follows t (own (at n) (m ∷ ms)) p
          by n t p (One is) listed_n kept_n =
              let setting : s ≡ t = same_Some s t (sym listed ∙ ap (counted_at settings) (sym is) ∙ listed_n) in
              let part : after ≡ p = same_Some after p (sym (counted_set parts number after before kept) ∙ ap (counted_at (set parts (number - 1) after)) (sym is) ∙ kept_n) in
              subst (λ k. Follows t (own (at k) (m ∷ ms)) p) (sym is)
              (subst (λ z. Follows z (own (at number) (m ∷ ms)) p) setting (subst (Follows s (own (at number) (m ∷ ms))) part follows))
          by n t p (Two apart) listed_n kept_n =
              let away : same_place (at n) m.place ≡ false = ap (same_place (at n)) here ∙ distinct n number apart in
              subst (λ os. Follows t os p) (sym (own_there (at n) m ms away))
              (are.each n t p listed_n (sym (counted_elsewhere parts number n after low apart) ∙ kept_n))

-- ---- at a resource and at a manager

module _ (w : World) (ms : List Moment) (e : Entry) (event : Event) (brought : event_at ms e ≡ Some event) where
  -- the own entries of the place of an entry
  own_at : (p : Place) → e.place ≡ p → (step : Step) → own p (moment_at ms e step ∷ ms) ≡ one_more (own p ms) event e.now step
  own_at p here step =
      subst (λ q. own q (moment_at ms e step ∷ ms) ≡ one_more (own q ms) event e.now step) here (own_here w ms e event brought step)

  module _ (number : ℕ) (here : e.place ≡ place.Res number) (benches : List Bench) (are : AreBenches w benches ms) where
    pub no_bench : counted_at benches number ≡ None → Comes w no_past ms e → ⊥
    no_bench none =
        nowhere w ms e event brought
        (ap (role_at w no_past) here ∙ ap (option_map (λ s. Resource s [])) (none_listed place.Res bench.Follows w.resources benches ms are number none))

    pub at_bench : (before after : Bench) → counted_at benches number ≡ Some before
        → (o : Option Step) → ((s : Setup) (os : List Own) (now : ℕ) → bench.Follows s os before → Takes (Resource s []) os event now e.act (λ more. bench.Follows s more after) o)
        → Finds w ms e (AreBenches w (set benches (number - 1) after)) (found_of o)
    at_bench before after kept o takes =
        let (s, listed) = listed_at place.Res bench.Follows w.resources benches ms are number before kept in
        let there : role_at w no_past e.place ≡ Some (Resource s []) = ap (role_at w no_past) here ∙ ap (option_map (λ s. Resource s [])) listed in
        let follows : bench.Follows s (own e.place ms) before = subst (λ p. bench.Follows s (own p ms) before) (sym here) (are.each number s before listed kept) in
        finds_at w ms e event brought (Resource s []) there (λ more. bench.Follows s more after) (AreBenches w (set benches (number - 1) after)) (comes s event)
        (λ step more. parts_next place.Res bench.Follows w.resources benches ms are number (λ n k apart. nat_differs n k apart) (moment_at ms e step) here s listed before after kept
        (subst (λ os. bench.Follows s os after) (ap (λ p. one_more (own p ms) event e.now step) here ∙ sym (own_at (place.Res number) here step)) more))
        o (takes s (own e.place ms) e.now follows)
      where
        comes : (s : Setup) (event : Event) → ComesTo (Resource s []) event
        comes s (Given given) = tt
        comes s (Stopped calls) = tt
        comes s Crashed = tt
        comes s (Restarted pick calls) = tt

  module _ (number : ℕ) (here : e.place ≡ place.Man number) (talks : List Talk) (are : AreTalks w talks ms) where
    pub no_talk : counted_at talks number ≡ None → Comes w no_past ms e → ⊥
    no_talk none =
        nowhere w ms e event brought
        (ap (role_at w no_past) here ∙ ap (option_map (λ m. Manager m)) (none_listed place.Man talk.Follows w.managers talks ms are number none))

    -- stops, crashes and restarts come to no manager
    pub no_event : given_in false event ≡ None → Comes w no_past ms e → ⊥
    no_event isnt = not_to w ms e event brought (λ role there. by (counted_at w.managers number) role (ap (role_at w no_past) (sym here) ∙ there))
      where
        none : (m : Settings) (happened : Event) → given_in false happened ≡ None → ComesTo (Manager m) happened → ⊥
        none m (Given given) isnt comes = absurd (let no : Some given ≡ None = isnt in cc)
        none m (Stopped calls) isnt comes = comes
        none m Crashed isnt comes = comes
        none m (Restarted pick calls) isnt comes = comes

        by : (o : Option Settings) (role : Role) → option_map (λ m. Manager m) o ≡ Some role → ComesTo role event → ⊥
        by None role is comes = absurd (let bad : None ≡ Some role = is in cc)
        by (Some m) role is comes = none m event isnt (subst (λ r. ComesTo r event) (sym (same_Some (Manager m) role is)) comes)

    pub at_talk : (given : Input) → event ≡ Given given → (before after : Talk) → counted_at talks number ≡ Some before
        → (o : Option Step) → ((m : Settings) (os : List Own) (now : ℕ) → talk.Follows m os before → Takes (Manager m) os (Given given) now e.act (λ more. talk.Follows m more after) o)
        → Finds w ms e (AreTalks w (set talks (number - 1) after)) (found_of o)
    at_talk given is before after kept o takes =
        let (m, listed) = listed_at place.Man talk.Follows w.managers talks ms are number before kept in
        let there : role_at w no_past e.place ≡ Some (Manager m) = ap (role_at w no_past) here ∙ ap (option_map (λ m. Manager m)) listed in
        let follows : talk.Follows m (own e.place ms) before = subst (λ p. talk.Follows m (own p ms) before) (sym here) (are.each number m before listed kept) in
        finds_at w ms e event brought (Manager m) there (λ more. talk.Follows m more after) (AreTalks w (set talks (number - 1) after)) (subst (ComesTo (Manager m)) (sym is) tt)
        (λ step more. parts_next place.Man talk.Follows w.managers talks ms are number (λ n k apart. nat_differs n k apart) (moment_at ms e step) here m listed before after kept
        (subst (λ os. talk.Follows m os after) (ap (λ p. one_more (own p ms) event e.now step) here ∙ sym (own_at (place.Man number) here step)) more))
        o (subst (λ z. Takes (Manager m) (own e.place ms) z e.now e.act (λ more. talk.Follows m more after) o) (sym is) (takes m (own e.place ms) e.now follows))

-- ---- all nodes

module _ (w : World) (ms : List Moment) (e : Entry) (event : Event) (brought : event_at ms e ≡ Some event) (n : Nodes) (are : AreNodes w n ms) where
  pub at_desk : e.place ≡ place.Tc → (after : Desk) (o : Option Step)
      → ((t : Times) (os : List Own) → desk.Follows t os n.desk → Takes (Coordinator t []) os event e.now e.act (λ more. desk.Follows t more after) o)
      → Finds w ms e (AreNodes w (record n { desk = after })) (found_of o)
  at_desk here after o takes =
      let there : role_at w no_past e.place ≡ Some (Coordinator w.times []) = ap (role_at w no_past) here in
      let follows : desk.Follows w.times (own e.place ms) n.desk = subst (λ p. desk.Follows w.times (own p ms) n.desk) (sym here) are.desk in
      finds_at w ms e event brought (Coordinator w.times []) there (λ more. desk.Follows w.times more after) (AreNodes w (record n { desk = after })) (comes event)
      (λ step more. record {
        desk = subst (λ os. desk.Follows w.times os after) (ap (λ p. one_more (own p ms) event e.now step) here ∙ sym (own_at w ms e event brought place.Tc here step)) more;
        benches = parts_stay place.Res bench.Follows w.resources n.benches.items ms (moment_at ms e step) (λ k. ap (same_place (place.Res k)) here) are.benches;
        talks = parts_stay place.Man talk.Follows w.managers n.talks.items ms (moment_at ms e step) (λ k. ap (same_place (place.Man k)) here) are.talks;
      })
      o (takes w.times (own e.place ms) follows)
    where
      comes : (event : Event) → ComesTo (Coordinator w.times []) event
      comes (Given given) = tt
      comes (Stopped calls) = tt
      comes Crashed = tt
      comes (Restarted pick calls) = tt

  pub with_benches : (number : ℕ) → e.place ≡ place.Res number → (benches : Vec Bench Global) (f : Found)
      → Finds w ms e (AreBenches w benches.items) f → Finds w ms e (AreNodes w (record n { benches = benches })) f
  with_benches number here benches f =
      finds_all w ms e (AreBenches w benches.items) (AreNodes w (record n { benches = benches }))
      (λ step more. record {
        desk = subst (λ os. desk.Follows w.times os n.desk) (sym (own_there place.Tc (moment_at ms e step) ms (ap (same_place place.Tc) here))) are.desk;
        benches = more;
        talks = parts_stay place.Man talk.Follows w.managers n.talks.items ms (moment_at ms e step) (λ k. ap (same_place (place.Man k)) here) are.talks;
      }) f

  pub with_talks : (number : ℕ) → e.place ≡ place.Man number → (talks : Vec Talk Global) (f : Found)
      → Finds w ms e (AreTalks w talks.items) f → Finds w ms e (AreNodes w (record n { talks = talks })) f
  with_talks number here talks f =
      finds_all w ms e (AreTalks w talks.items) (AreNodes w (record n { talks = talks }))
      (λ step more. record {
        desk = subst (λ os. desk.Follows w.times os n.desk) (sym (own_there place.Tc (moment_at ms e step) ms (ap (same_place place.Tc) here))) are.desk;
        benches = parts_stay place.Res bench.Follows w.resources n.benches.items ms (moment_at ms e step) (λ k. ap (same_place (place.Res k)) here) are.benches;
        talks = more;
      }) f

  -- no node stands at the network
  pub at_network : e.place ≡ place.Net → Comes w no_past ms e → ⊥
  at_network here = nowhere w ms e event brought (ap (role_at w no_past) here)

-- ---- where there is memory for it

module _ (e : Entry) (event : Event) (n : Nodes) where
  pub in_benches : (number : ℕ) → e.place ≡ place.Res number → (benches : Vec Bench Global) (r : Result Found NoMemory)
      → IfOk r (λ f. (w : World) (ms : List Moment) → AreBenches w n.benches.items ms → event_at ms e ≡ Some event → Finds w ms e (AreBenches w benches.items) f)
      → IfOk r (λ f. (w : World) (ms : List Moment) → AreNodes w n ms → event_at ms e ≡ Some event → Finds w ms e (AreNodes w (record n { benches = benches })) f)
  in_benches number here benches (Ok f) finds = λ w ms are brought. with_benches w ms e event brought n are number here benches f (finds w ms are.benches brought)
  in_benches number here benches (Err error) finds = tt

  pub in_talks : (number : ℕ) → e.place ≡ place.Man number → (talks : Vec Talk Global) (r : Result Found NoMemory)
      → IfOk r (λ f. (w : World) (ms : List Moment) → AreTalks w n.talks.items ms → event_at ms e ≡ Some event → Finds w ms e (AreTalks w talks.items) f)
      → IfOk r (λ f. (w : World) (ms : List Moment) → AreNodes w n ms → event_at ms e ≡ Some event → Finds w ms e (AreNodes w (record n { talks = talks })) f)
  in_talks number here talks (Ok f) finds = λ w ms are brought. with_talks w ms e event brought n are number here talks f (finds w ms are.talks brought)
  in_talks number here talks (Err error) finds = tt
