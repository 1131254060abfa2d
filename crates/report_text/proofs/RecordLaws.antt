-- The records of a legal history, over those that may come one after the other, may do so too, and are counted in 32 bits.
use Rattle.std.proofs.Common.{◌≡◌, ◌+◌, ◌≤◌, ℕ, zero, suc, Bool, true, false, List, [], ◌∷◌, length, slice_get, Option, Some, None, option_map, refl, sym, ap, ◌∙◌, subst, arith}
use Rattle.std.proofs.lemmas.Bool.Decides.{nat_tests}
use Rattle.seata_types.specs.declared.acts.Act.{Act}
use Rattle.seata_types.specs.declared.acts.Act.TheVariants as act
use Rattle.seata_types.specs.declared.acts.Durable.{Durable}
use Rattle.seata_types.specs.declared.ids.Place.{Place}
use Rattle.seata_types.specs.declared.ids.Place.TheVariants as place
use Rattle.local_tables.specs.Rows.{Database}
use Rattle.durable_records.specs.declared.coordinators.SessionRecord.{SessionRecord}
use Rattle.durable_records.specs.declared.resources.ResourceRecord.{ResourceRecord}
use Rattle.scenario_form.specs.declared.scenarios.Scenario.{Scenario}
use Rattle.history_rules.specs.CoordinatorMemory.{sessions_left, session_asked}
use Rattle.history_rules.specs.Own.{Event, Own, Left, added, kept_part, leaves}
use Rattle.history_rules.specs.Histories.{Moment, Legal, HappensAt, IsDone, own, own_if, same_place, memory_at}
use Rattle.history_rules.specs.Nodes.{Past, Resource, counted_at, role_at}
use Rattle.history_rules.specs.ResourceMemory.{Setup, Memory, memory, opening_tables, resource_asked, booted}
use Rattle.history_law.specs.Cover.{all_of}
use Rattle.history_law.proofs.Deliveries.{one_place}
use Rattle.history_law.proofs.ResourceSteps.{resource_moves}
use Rattle.history_law.proofs.SessionHistory.{both_allowed}
use Rattle.history_law.proofs.Steps.{have_tickets}
use Rattle.history_law.proofs.TicketSteps.{memory_by}
use Rattle.history_text.specs.Worlds.{resources_of, world_of}
use Rattle.report_text.proofs.AskLaws.{is_asked}
use Rattle.report_text.specs.Following.{Come, acts_before, acts_of}
use Rattle.report_text.proofs.Counts.{acts_at, counted_setup}
use Rattle.report_text.proofs.ComingLaws.{ComesBoth, OpensFit, act_comes, boot_comes, from_fits}
use Rattle.report_text.proofs.FoldLaws.{HasRoomFor, HasRoomHere}
use Rattle.report_text.proofs.NumberedLaws.{setup_at}
use Rattle.report_text.proofs.ReportLaws.{RecordsFit, RecordsMay}

-- ---- how many records there are

kept_most : {R : Type 0} (kept : Option Durable) (flight : Option R) (rs : List R) → length (added (kept_part kept flight) rs) ≤ length (added flight rs)
kept_most None None rs = omega arith
kept_most None (Some r) rs = omega arith
kept_most (Some d) flight rs = omega arith

stand_most : {R : Type 0} (flight : Option R) (rs : List R) → length rs ≤ length (added flight rs)
stand_most None rs = omega arith
stand_most (Some r) rs = omega arith

one_most : {R : Type 0} (o : Option R) (rs : List R) → length (added o rs) ≤ length rs + 1
one_most None rs = omega arith
one_most (Some r) rs = omega arith

-- with one more entry at most one more
leaves_most : {R : Type 0} (done : Act) (asked : Option R) (left : Left R) → length (all_of (leaves done asked left)) ≤ length (all_of left) + 1
leaves_most (act.Durable d) asked left =
    let one = one_most asked left.records in let before = stand_most left.flight left.records in omega (arith, one, before)
leaves_most (act.Down kept at) asked left =
    let one = one_most asked (added (kept_part kept left.flight) left.records) in let before = kept_most kept left.flight left.records in omega (arith, one, before)
leaves_most (act.Restarted kept) asked left = let before = kept_most kept left.flight left.records in omega (arith, before)
leaves_most _ asked left = omega arith

booted_most : (done : Act) (asked : Option ResourceRecord) (left : Left ResourceRecord) → length (all_of (booted done (leaves done asked left))) ≤ length (all_of left) + 1
booted_most (act.Restarted kept) asked left = let before = kept_most kept left.flight left.records in omega (arith, before)
booted_most (act.Durable d) asked left = leaves_most (act.Durable d) asked left
booted_most (act.Down kept at) asked left = leaves_most (act.Down kept at) asked left
booted_most _ asked left = omega arith

sessions_most : (past : List SessionRecord) (os : List Own) → length (all_of (sessions_left past os)) ≤ length past + length os
sessions_most past [] = omega arith
sessions_most past (o ∷ os) = let one = leaves_most o.step.act (session_asked o) (sessions_left past os) in let below = sessions_most past os in omega (arith, one, below)

memory_most : (u : Setup) (past : List ResourceRecord) (os : List Own) → length (all_of (memory u past os).left) ≤ length past + length os + 1
memory_most u past [] = omega arith
memory_most u past (o ∷ os) =
    let one = booted_most o.step.act (resource_asked u (memory u past os) o) (memory u past os).left in let below = memory_most u past os in omega (arith, one, below)

-- ---- records that come

-- what holds of a resource: its records, and these with the one in flight, may come one after the other, and its open tickets
-- fit its tables
record ComesAt (opening : Database) (m : Memory) : Type 0 where
  pub records : ComesBoth opening m.left
  pub opens : OpensFit opening m.opens

module _ (s : Scenario) (past : Past) (k : ℕ) (u : Setup) (there : slice_get (resources_of s) k ≡ Some u) (come : Come (opening_tables u) (past.resource u.number)) where
  abbrev here : Place
  here = place.Res u.number

  known : counted_at (resources_of s) u.number ≡ Some u
  known = counted_setup s k u there

  role : role_at (world_of s) past here ≡ Some (Resource u (past.resource u.number))
  role = ap (option_map (λ v. Resource v (past.resource u.number))) known

  -- one more own entry
  module _ (m : Moment) (ms : List Moment) (legal : Legal (world_of s) past (m ∷ ms)) (before : ComesAt (opening_tables u) (memory_at past u ms)) where
    own_comes : (event : Event) → HappensAt (role_at (world_of s) past here) (own here ms) m.now event m.step
        → ComesAt (opening_tables u) (memory u (past.resource u.number) (record { event = event; now = m.now; step = m.step } ∷ own here ms))
    own_comes event done =
        let mem = memory_at past u ms in
        let tickets = have_tickets (world_of s) past ms legal.0 u.number u known in
        let happens = subst (λ r. HappensAt r (own here ms) m.now event m.step) role done in
        let asked = is_asked u (past.resource u.number) (own here ms) event m.now m.step tickets happens in
        let moves = resource_moves u (past.resource u.number) (own here ms) event m.now m.step tickets happens in
        record {
          records = act_comes u mem before.records before.opens event m.step.act asked.asks asked.fits;
          opens = λ o i. from_fits u mem before.records.stand before.opens event (memory_by u mem event m.now m.step) o (moves.opens_from o i);
        }

    by : (b : Bool) → same_place here m.place ≡ b → (event : Option Event) → IsDone (world_of s) past ms m event → ComesAt (opening_tables u) (memory u (past.resource u.number) (own_if b event m (own here ms)))
    by true at (Some event) done =
        own_comes event (subst (λ p. HappensAt (role_at (world_of s) past p) (own p ms) m.now event m.step) (sym (one_place here m.place at)) done)
    by true at None done = before
    by false at event done = before

    more_come : ComesAt (opening_tables u) (memory_at past u (m ∷ ms))
    more_come = by (same_place here m.place) refl m.event legal.1.done

  none_come : ComesAt (opening_tables u) (memory_at past u [])
  none_come =
      let boot = boot_comes (opening_tables u) (past.resource u.number) come in
      record { records = record { stand = boot; fly = boot }; opens = λ o i. absurd i }

  all_come : (ms : List Moment) → Legal (world_of s) past ms → ComesAt (opening_tables u) (memory_at past u ms)
  all_come [] legal = none_come
  all_come (m ∷ ms) legal = more_come m ms legal (all_come ms legal.0)

-- ---- all nodes

pub records_may : (s : Scenario) → RecordsMay s
unfolding RecordsMay
records_may s past come ms legal counted = record {
  sessions =
      let both = both_allowed (world_of s) past ms come.allowed legal in
      let most = sessions_most past.sessions (own place.Tc ms) in
      let few = counted place.Tc in
      record { stand = both.stand; fly = both.fly; few = omega (arith, most, few) };
  resources = λ k u there.
      let both = (all_come s past k u there (come.resources k u there) ms legal).records in
      let most = memory_most u (past.resource u.number) (own (place.Res u.number) ms) in
      let few = counted (place.Res u.number) in
      let acts = acts_at s past k u there in
      record { stand = both.stand; fly = both.fly; few = omega (arith, most, few, acts) };
}

-- the own entries of a resource where an entry is are one more
one_more : (k : ℕ) (event : Event) (m : Moment) (ms : List Moment) → m.place ≡ place.Res k → m.event ≡ Some event → length (own (place.Res k) (m ∷ ms)) ≡ suc (length (own (place.Res k) ms))
one_more k event m ms at is =
    let here : same_place (place.Res k) (place.Res k) ≡ true = grind (arith, nat_tests) in
    ap (λ b. length (own_if b m.event m (own (place.Res k) ms))) (ap (same_place (place.Res k)) at ∙ here)
    ∙ ap (λ e. length (own_if true e m (own (place.Res k) ms))) is

pub has_room : (s : Scenario) → RecordsFit s
unfolding RecordsFit HasRoomFor
has_room s past ms m few = here m.place m.event refl refl where
  here : (p : Place) (event : Option Event) → m.place ≡ p → m.event ≡ event → HasRoomHere s past ms p event
  here (place.Res (suc k)) (Some event) at is = λ u there.
      let set = setup_at s k u there in
      let number : u.number ≡ suc k = ap (λ (v : Setup). v.number) set.is ∙ omega arith in
      let most = memory_most u (past.resource u.number) (own (place.Res u.number) ms) in
      let held = ap (λ n. length (past.resource n)) number in
      let more = one_more (suc k) event m ms at is in
      let same = ap (λ n. length (own (place.Res n) ms)) number in
      let bound = few (place.Res (suc k)) in
      let acts : acts_before s past (place.Res (suc k)) ≡ length (past.resource (suc k)) = ap (λ (o : Option Setup). acts_of (option_map (λ v. Resource v (past.resource (suc k))) o)) there in
      omega (arith, most, held, more, same, bound, acts)
  here (place.Res zero) event at is = tt
  here (place.Res (suc k)) None at is = tt
  here place.Tc event at is = tt
  here (place.Man n) event at is = tt
  here place.Net event at is = tt
