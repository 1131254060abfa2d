-- What a resource took of an entry, by the rules.
use Rattle.std.proofs.Common.{◌≡◌, ℕ, Bool, true, false, List, [], Option, Some, None, refl, sym, ap, subst, ◌∙◌, true≢false}
use Rattle.std.specs.Prelude.{IfSome}
use Rattle.std.specs.Option.{option_and_then}
use Rattle.seata_types.specs.declared.acts.Act.{Act}
use Rattle.seata_types.specs.declared.acts.Act.TheVariants as act
use Rattle.seata_types.specs.declared.acts.Durable.{Durable}
use Rattle.seata_types.specs.declared.acts.Durable.TheVariants as durable
use Rattle.seata_types.specs.declared.messages.Input.{Input}
use Rattle.seata_types.specs.declared.messages.Step.{Step}
use Rattle.local_tables.specs.Rows.{AreRows}
use Rattle.durable_records.specs.declared.resources.ResourceRecord.{ResourceRecord}
use Rattle.durable_records.specs.ResourceOrder.{Allowed}
use Rattle.durable_records.specs.RowsKept.{tables}
use Rattle.history_rules.specs.Own.{Event, Given, Stopped, Crashed, Restarted, Own, added, asked_act, kept_part, kept_records, still}
use Rattle.history_rules.specs.Devices.{down_after, fails, is_down}
use Rattle.history_rules.specs.ResourceMemory.{Memory, Setup, memory, memory_after, opening_tables, resource_record}
use Rattle.history_rules.specs.ResourceRules.{resource_answer}
use Rattle.history_rules.specs.Nodes.{ComesTo}
use Rattle.history_rules.specs.Nodes.{Resource as ResourceRole}
use Rattle.resource_memory.specs.Changes.{may_come}
use Rattle.resource_memory.specs.Keeping.{IsKept}
use Rattle.resource_memory.specs.Known.{Known, known_of}
use Rattle.resource_rules.specs.Answers.{Answers, IsOfRules, IsTakenBy, Shows, after, own_step, tickets_in}
use Rattle.resource_rules.specs.Laws.{known_after}
use Rattle.resource_rules.specs.declared.answers.Answer.{Answer}
use Rattle.resource_rules.proofs.TakenIn.{takes_in}
use Rattle.judged_devices.specs.declared.devices.Device.{Device}
use Rattle.judged_devices.specs.declared.shown.Back.{Back}
use Rattle.judged_devices.specs.declared.shown.Plain.{Plain}
use Rattle.judged_devices.specs.declared.shown.Plain.TheVariants as plain
use Rattle.judged_devices.specs.declared.shown.Shown.{Shown}
use Rattle.judged_devices.specs.declared.shown.Shown.TheVariants as shown
use Rattle.judged_devices.specs.Noting.{IsDevice}
use Rattle.judged_devices.specs.Showing as showing
use Rattle.judged_devices.specs.Showing.{IsOwn, IsPlain, act_of, back_act, given_in, shown_step}
use Rattle.judged_devices.specs.Taking.{IsDoneAs, Takes}
use Rattle.judged_devices.proofs.Plainly.{back_down}
use Rattle.judged_devices.proofs.Taking.{given_is, none_plain, none_shown, not_given, taken_plain, taken_shown}
use Rattle.judged_bench.specs.Leaving.{Answered, ServesGiven, Stayed, Took, TookBy, boot_fallen, booted, fallen, landed, left_back, left_by, left_plain, stands}
use Rattle.judged_bench.specs.Standing.{Stands}
use Rattle.judged_bench.specs.declared.resources.Resource.{Resource}
use Rattle.judged_bench.proofs.Opens.{opens_stay}
use Rattle.judged_bench.proofs.Parts.{IsKnown, boot_is, boot_known, boot_may, boots_more, closed_after, cut_durable, idle_after, kept_may, more_known, none_comes}

-- a record that is taken may come
taken_comes : (k : Known) (P : ResourceRecord → Type 0) → ((r : ResourceRecord) → P r → may_come k r ≡ true) → (o : Option ResourceRecord) → IfSome o P
    → IfSome o (λ r. may_come k r ≡ true)
taken_comes k P may None all = tt
taken_comes k P may (Some r) all = may r all

-- ---- an answer

module _ (s : Setup) (m : Memory) (down : Bool) (old : Resource) (st : Stands s m down old) (up : down ≡ false) (given : Input) (now : ℕ) (a : Answer)
    (answers : Answers old.setup old.memory old.txns given a) where
  shows : Shows old.setup old.memory old.txns s m
  shows = record { setup = st.setup; allowed = st.allowed; knows = st.knows; tickets = st.tickets up }

  of_rules : IsOfRules s m given a
  of_rules = answers.rules s m shows

  comes : IfSome a.asked (λ r. may_come old.memory r ≡ true)
  comes = taken_comes old.memory (IsTakenBy old.setup old.memory old.txns given) (λ r t. t.allowed) a.asked answers.taken

  -- it is done
  stood : IsKept old.memory → ServesGiven (Given given) → Stands s (memory_after s (own_step given now a.step) m) (down_after a.step.act down) (stands a old)
  stood kept served =
      let t = takes_in old.setup old.memory old.txns given a answers s m shows in
      let same : memory_after s (own_step given now a.step) m ≡ after a m = of_rules.left now in
      let rows : AreRows (tables (opening_tables s) m.left.records) = subst AreRows (ap (λ (k : Known). k.tables) st.knows) kept.rows in
      record {
        setup = t.setup;
        counted = st.counted;
        allowed = subst (λ (z : Memory). Allowed (opening_tables s) z.left.records) (sym same) t.allowed;
        knows = t.knows ∙ ap (λ (z : Memory). known_of (opening_tables s) z.left.records) (sym same);
        flight = idle_after a.asked m.left old.flight st.flight (st.idle up) ∙ ap (λ (z : Memory). z.left.flight) (sym same);
        comes = none_comes (known_after a.asked old.memory) old.flight (st.idle up);
        tickets = λ e. t.tickets ∙ ap tickets_in (sym same);
        closed = closed_after s (tables (opening_tables s) m.left.records) (Given given) a.step.act down m.opens up;
        idle = λ e. st.idle up;
        opens = opens_stay (opening_tables s) m.left.records rows s (Given given) served a.step.act m.opens st.opens;
      }

  -- or cut short
  fell : (flight : Durable) → a.step.act ≡ act.Durable flight
      → Stands s (memory_after s (own_step given now (still (act.Down None (Some flight)))) m) true (fallen a old)
  fell flight is = record {
    setup = st.setup;
    counted = st.counted;
    allowed = st.allowed;
    knows = st.knows;
    flight = of_rules.asked ∙ ap (λ (done : Act). option_and_then (resource_record s (kept_records done m.left) m.opens (Given given)) (asked_act done)) is;
    comes = comes;
    tickets = λ e. absurd (true≢false e);
    closed = λ e. refl;
    idle = λ e. absurd (true≢false e);
    opens = tt;
  }

-- ---- what it does by itself

resource_comes : (s : Setup) (event : Event) → ComesTo (ResourceRole s []) event
resource_comes s (Given given) = tt
resource_comes s (Stopped calls) = tt
resource_comes s Crashed = tt
resource_comes s (Restarted pick calls) = tt

abbrev own_with : Event → ℕ → Act → Own
own_with event now done = record { event = event; now = now; step = still done }

module _ (s : Setup) (m : Memory) (down : Bool) (old : Resource) (st : Stands s m down old) (event : Event) (now : ℕ) where
  known : IsKnown (opening_tables s) m.left.records old.memory
  known = record { allowed = st.allowed; knows = st.knows }

  -- the records with what was kept
  abbrev rs_with : Option Durable → List ResourceRecord
  rs_with kept = added (kept_part kept m.left.flight) m.left.records

  land_known : (kept : Option Durable) → IsKnown (opening_tables s) (rs_with kept) (landed kept old).memory
  land_known kept =
      subst (λ (f : Option ResourceRecord). IsKnown (opening_tables s) (added (kept_part kept f) m.left.records) (known_after (kept_part kept old.flight) old.memory)) st.flight
      (more_known (opening_tables s) m.left.records old.memory known (kept_part kept old.flight) (kept_may old.memory kept old.flight st.comes))

  fell_again : (kept : Option Durable) → Stands s (memory_after s (own_with event now (act.Down kept (Some durable.Boot))) m) true (boot_fallen (landed kept old))
  fell_again kept =
      let k = land_known kept in
      record {
        setup = st.setup;
        counted = st.counted;
        allowed = k.allowed;
        knows = k.knows;
        flight = ap (λ (r : ResourceRecord). Some r) (boot_is (opening_tables s) (rs_with kept) (landed kept old).memory k);
        comes = boot_may (opening_tables s) (rs_with kept) (landed kept old).memory k;
        tickets = λ e. absurd (true≢false e);
        closed = λ e. refl;
        idle = λ e. absurd (true≢false e);
        opens = tt;
      }

  came_back : (kept : Option Durable) → down ≡ true → Stands s (memory_after s (own_with event now (act.Restarted kept)) m) false (booted (landed kept old))
  came_back kept was =
      let k = land_known kept in
      let b = boot_known (opening_tables s) (rs_with kept) (landed kept old).memory k in
      let number = boots_more (opening_tables s) (rs_with kept) (landed kept old).memory k in
      record {
        setup = st.setup;
        counted = st.counted;
        allowed = b.allowed;
        knows = b.knows;
        flight = refl;
        comes = tt;
        tickets = λ e. λ i. record { boot = number i; opened = 0; opens = sym (st.closed was) i };
        closed = λ e. absurd (true≢false (sym e));
        idle = λ e. refl;
        opens = st.opens;
      }

  crashed : Stands s (memory_after s (own_with event now (act.Down None None)) m) true (record old { flight = None })
  crashed = record {
    setup = st.setup;
    counted = st.counted;
    allowed = st.allowed;
    knows = st.knows;
    flight = refl;
    comes = tt;
    tickets = λ e. absurd (true≢false e);
    closed = λ e. refl;
    idle = λ e. absurd (true≢false e);
    opens = tt;
  }

  by_boot : (kept : Option Durable) (cut : Bool) → (cut ≡ false → down ≡ true)
      → Stands s (memory_after s (own_with event now (back_act (record { kept = kept; cut = cut }))) m) (down_after (back_act (record { kept = kept; cut = cut })) down) (left_back (record { kept = kept; cut = cut }) old)
  by_boot kept true was = fell_again kept
  by_boot kept false was = came_back kept (was refl)

  -- a restart comes where it was down
  abbrev WasDown : Plain → Type 0
  WasDown (plain.Back b) = down ≡ true
  WasDown p = Unit {0}

  did : (p : Plain) → WasDown p → Stands s (memory_after s (own_with event now (act_of p)) m) (down_after (act_of p) down) (left_plain p old)
  did plain.Lost was = st
  did plain.Armed was = st
  did plain.Rests was = st
  did plain.Crashed was = crashed
  did (plain.Back b) was = by_boot b.kept b.cut (λ e. was)

-- ---- an entry

module _ (s : Setup) (os : List Own) (now : ℕ) (d : Device) (is : IsDevice true os d) (old new : Resource) (st : Stands s (memory s [] os) (is_down os) old) where
  abbrev m : Memory
  m = memory s [] os

  abbrev Kept : List Own → Type 0
  Kept after = Stands s (memory s [] after) (is_down after) new

  module _ (given : Input) (served : ServesGiven (Given given)) (up : d.down ≡ false) (done : Act) where
    was_up : is_down os ≡ false
    was_up = sym is.down ∙ up

    module _ (a : Answer) (answers : Answers old.setup old.memory old.txns given a) where
      rule : resource_answer s m given ≡ a.step
      rule = sym (of_rules s m (is_down os) old st was_up given now a answers).step

      left_for : (how : Shown) → showing.IsShown d.left a.step.act done how → IsKept old.memory
          → Stands s (memory_after s (own_step given now (shown_step how a.step)) m) (down_after (shown_step how a.step).act (is_down os)) (left_by how a old)
      left_for shown.Done shows kept = stood s m (is_down os) old st was_up given now a answers kept served
      left_for (shown.Cut flight) shows kept =
          fell s m (is_down os) old st was_up given now a answers flight (cut_durable (fails shows.fault d.left) a.step.act flight shows.so)

    answered_takes : (result : Option Step) → Answered d.left given done old new result → Takes (ResourceRole s []) os (Given given) now done Kept result
    answered_takes (Some step) a =
        let same = rule a.answer a.answers in
        let does : IsDoneAs (ResourceRole s []) os (Given given) now done (shown_step a.how a.answer.step) =
        subst (λ (z : Step). IsDoneAs (ResourceRole s []) os (Given given) now done (shown_step a.how z)) same
        (taken_shown (ResourceRole s []) os d now is given up done a.how tt (subst (λ (z : Step). showing.Shows d.left z.act done (Some a.how)) (sym same) a.shows)) in
        let left = left_for a.answer a.answers a.how a.shows a.kept in (
          subst (IsDoneAs (ResourceRole s []) os (Given given) now done) (sym a.is) does,
          subst (λ (z : Step). Stands s (memory_after s (own_step given now z) m) (down_after z.act (is_down os)) new) (sym a.is)
              (subst (Stands s (memory_after s (own_step given now (shown_step a.how a.answer.step)) m) (down_after (shown_step a.how a.answer.step).act (is_down os))) (sym a.leaves) left),
        )
    answered_takes None a =
        let same = rule a.answer a.answers in
        none_shown (ResourceRole s []) os d now is given up done (subst (λ (z : Step). showing.Shows d.left z.act done None) (sym same) a.shows)

  module _ (event : Event) (alone : IsPlain d event) (done : Act) where
    back_was : (p : Plain) → act_of p ≡ done → IsOwn true d event (still done) → WasDown s m (is_down os) old st event now p
    back_was (plain.Back b) same own = sym is.down ∙ back_down true d event b (subst (λ (z : Act). IsOwn true d event (still z)) (sym same) own)
    back_was _ same own = tt

    stayed_takes : (result : Option Step) → Stayed d event done old new result → Takes (ResourceRole s []) os event now done Kept result
    stayed_takes (Some step) a =
        let does = taken_plain (ResourceRole s []) os d now is event done a.how alone (resource_comes s event) a.shows in
        let left = did s m (is_down os) old st event now a.how (back_was a.how a.shows.0 a.shows.1) in
        let stands_done : Stands s (memory_after s (own_with event now done) m) (down_after done (is_down os)) (left_plain a.how old) =
        subst (λ (z : Act). Stands s (memory_after s (own_with event now z) m) (down_after z (is_down os)) (left_plain a.how old)) a.shows.0 left in (
          subst (IsDoneAs (ResourceRole s []) os event now done) (sym a.is) does,
          subst (λ (z : Step). Stands s (memory_after s (record { event = event; now = now; step = z }) m) (down_after z.act (is_down os)) new) (sym a.is)
              (subst (Stands s (memory_after s (own_with event now done) m) (down_after done (is_down os))) (sym a.leaves) stands_done),
        )
    stayed_takes None a = none_plain (ResourceRole s []) os d now is event done alone a

  pub takes : (event : Event) → ServesGiven event → (done : Act) (result : Option Step) → Took d event done old new result → Takes (ResourceRole s []) os event now done Kept result
  takes event served done result took = by (given_in d.down event) refl took
    where
      by : (found : Option Input) → given_in d.down event ≡ found → TookBy found d event done old new result → Takes (ResourceRole s []) os event now done Kept result
      by None e t = stayed_takes event (not_given d event e) done result t
      by (Some given) e t =
          let found = given_is d.down event given e in
          subst (λ (z : Event). Takes (ResourceRole s []) os z now done Kept result) (sym found.1)
          (answered_takes given (subst ServesGiven found.1 served) found.0 done result t)
