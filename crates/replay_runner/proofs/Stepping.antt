-- Single steps of a replay, from the entry to what is played.
use Rattle.std.proofs.Common.{◌≡◌, ◌+◌, ◌-◌, ◌<◌, ◌≤◌, ℕ, zero, suc, true, false, [], ◌∷◌, ◌++◌, length, set, Option, Some, None, option_map, Result, Ok, Err, OnOk, IfErr, refl, ap, sym, subst, ◌∙◌, arith, length-append}
use Rattle.disk_model.specs.Disk.{DiskState}
use Rattle.seata_types.specs.declared.ids.Place.{Place}
use Rattle.seata_types.specs.declared.ids.Place.TheVariants as place
use Rattle.seata_types.specs.declared.limits.TheConstants.{TICKS}
use Rattle.seata_types.specs.declared.messages.Input.{Input}
use Rattle.seata_types.specs.declared.messages.Input.TheVariants as input
use Rattle.scenario_form.specs.declared.scenarios.Scenario.{Scenario}
use Rattle.history_rules.specs.Nodes.{Past, Role, role_at}
use Rattle.history_rules.specs.Histories.{Missing, Wait, same_place}
use Rattle.history_rules.specs.Schedules.{DeliverOf, WaitFor, delivery}
use Rattle.history_text.specs.declared.entries.Cause.{Cause}
use Rattle.history_text.specs.declared.entries.Cause.TheVariants as cause
use Rattle.history_text.specs.Worlds.{items_of, world_of}
use Rattle.node_seat.specs.declared.faults.RunFault.{RunFault}
use Rattle.node_seat.specs.declared.faults.RunFault.TheVariants as fault
use Rattle.replay_runner.specs.declared.messages.Delivery.{Delivery}
use Rattle.replay_runner.specs.declared.messages.Letter.{Letter}
use Rattle.replay_runner.specs.declared.nodes.Nodes.{Nodes}
use Rattle.replay_runner.specs.declared.runs.Run.{Run}
use Rattle.replay_runner.specs.Letters.{delivery_of, letter_at}
use Rattle.replay_runner.specs.Entering.{Entered}
use Rattle.replay_runner.specs.Plays.{Brings, HasMade, HasPlayed, Hears, IsAt, IsPassed, Made, Names, Ready, moment_made}
use Rattle.replay_runner.specs.Standing.{AllStand, AreNodes}
use Rattle.replay_runner.proofs.Ended.{among_nodes, ends_later, fits_next, is_step_next, stands_next}
use Rattle.replay_runner.proofs.Entered.{all_stand}
use Rattle.replay_runner.proofs.Printed.{printed_there}
use Rattle.replay_runner.proofs.Chosen.{ready_at}
use Rattle.replay_runner.proofs.Played.{brings_delivery, left_next, net_plays, none_sent}
use Rattle.replay_runner.proofs.Waiting.{kept_taken}

-- no node stands at the network
not_net : (s : Scenario) (past : Past) (p : Place) (role : Role) → role_at (world_of s) past p ≡ Some role → same_place place.Net p ≡ false
not_net s past place.Net role e = absurd (let no : None ≡ Some role = e in cc)
not_net s past place.Tc role e = refl
not_net s past (place.Res n) role e = refl
not_net s past (place.Man n) role e = refl

-- what was kept of an entry
pub record IsKept {D K : Type 0} (mid new : Run D K) (p : Place) (letter : Option Letter) : Type 0 where
  pub standing : new.places.items ≡ mid.places.items ++ p ∷ []
  pub sent : new.messages.letters.items ≡ mid.messages.letters.items ++ letter ∷ []
  pub taken : new.messages.taken.items ≡ mid.messages.taken.items ++ false ∷ []
  pub waiting : new.messages.waiting ≡ mid.messages.waiting
  pub nodes : new.nodes ≡ mid.nodes
  pub network : new.network ≡ mid.network
  pub clock : new.clock ≡ mid.clock

module _ {D K : Type 0} (state : D → DiskState) (old mid new : Run D K) (p : Place) (printed : Cause) (given : Option Input) (b : Brings state old p printed given) (stamp : ℕ) (is_stamp : stamp ≡ length old.places.items + 1)
    (network : mid.network ≡ old.network) (places : mid.places ≡ old.places) (messages : mid.messages ≡ old.messages) (clock : mid.clock ≡ old.clock) where
  -- an entry was made and kept
  pub grows_by : (letter : Option Letter) → Entered state old.nodes mid.nodes stamp old.clock p printed given (among_nodes state old p printed given b stamp is_stamp) (Ok letter) → IsKept mid new p letter
      → Made state old new p printed given b (Ok tt)
  grows_by letter e k =
      let m = moment_made state old p printed given b e.step in (
        e.step,
        record {
          nodes = subst (λ (n : Nodes D K). AreNodes state b.here.s b.here.held n (m ∷ b.here.ms)) (sym k.nodes) e.nodes;
          passed = ap (λ v. v.items) (k.network ∙ network) ∙ b.here.plays.passed ∙ sym (printed_there place.Net m b.here.ms (not_net b.here.s b.here.held.past p b.role b.there));
          standing = k.standing ∙ ap (λ v. v.items ++ p ∷ []) places;
          sent = k.sent ∙ ap (λ v. v.letters.items ++ letter ∷ []) messages ∙ ap (λ l. old.messages.letters.items ++ l ∷ []) e.sent;
          taken = k.taken ∙ ap (λ v. v.taken.items ++ false ∷ []) messages;
          waiting = k.waiting ∙ ap (λ v. v.waiting) messages;
          clocked = k.clock ∙ clock;
          slow = let slow = b.here.plays.slow in omega (arith, slow);
          stands = stands_next state old p printed given b e.step e.happens;
          fits = fits_next state old p printed given b e.step e.fits;
          is_step = is_step_next state old p printed given b e.step;
        },
      )

  -- it was made, and memory was refused to keep it
  pub ends_unkept : (letter : Option Letter) → Entered state old.nodes mid.nodes stamp old.clock p printed given (among_nodes state old p printed given b stamp is_stamp) (Ok letter) → new.nodes ≡ mid.nodes
      → Made state old new p printed given b (Err fault.NoMemory)
  ends_unkept letter e same =
      let m = moment_made state old p printed given b e.step in
      ends_later state old p printed given b new fault.NoMemory e.step e.happens e.fits
      (subst (λ (n : Nodes D K). AllStand state b.here.s b.here.held n (m ∷ b.here.ms)) (sym same) (all_stand state b.here.s b.here.held mid.nodes (m ∷ b.here.ms) e.nodes)) refl

-- ---- deliveries

module _ {D K : Type 0} (state : D → DiskState) (old mid new : Run D K) (stamp : ℕ) (d : Delivery) (h : Hears state old stamp d) (role : Role) (there : role_at (world_of h.step.here.s) h.step.here.held.past d.to ≡ Some role) where
  abbrev comes : Brings state old d.to (cause.Deliver stamp d.from) (Some (input.Message d.from d.message))
  comes = brings_delivery state old stamp h.step d h.is_found role there

  -- no message has the stamp 0
  sent_first : (o : Option Letter) (k : ℕ) → letter_at k old.messages.letters.items ≡ o → option_map delivery_of o ≡ Some d → 1 ≤ k
  sent_first o zero e is = absurd (let no : None ≡ Some d = ap (option_map delivery_of) e ∙ is in cc)
  sent_first o (suc k) e is = omega arith

  pub first_stamp : 1 ≤ stamp
  first_stamp = sent_first (letter_at stamp old.messages.letters.items) stamp refl h.is_found

  pub marked_there : Made state old mid d.to (cause.Deliver stamp d.from) (Some (input.Message d.from d.message)) comes (Ok tt) → stamp ≤ length mid.messages.taken.items
  marked_there (step, g) =
      let size = ap length g.taken in
      let count = comes.here.plays.messages.count in
      let later : stamp < length comes.here.ms + 1 = comes.later in
      omega (arith, size, count, later, length-append old.messages.taken.items (false ∷ []))

  -- the message was heard, and is marked as delivered
  pub heard : Made state old mid d.to (cause.Deliver stamp d.from) (Some (input.Message d.from d.message)) comes (Ok tt)
      → new.messages.taken.items ≡ set mid.messages.taken.items (stamp - 1) true → new.messages.letters ≡ mid.messages.letters → new.messages.waiting ≡ mid.messages.waiting
      → new.nodes ≡ mid.nodes → new.network ≡ mid.network → new.places ≡ mid.places → new.clock ≡ mid.clock
      → HasMade state old new comes.here (Ok tt)
  heard (step, g) taken sent waiting nodes network places clock =
      let m = moment_made state old d.to (cause.Deliver stamp d.from) (Some (input.Message d.from d.message)) comes step in (
        m ∷ comes.here.ms,
        record {
          nodes = subst (λ (n : Nodes D K). AreNodes state comes.here.s comes.here.held n (m ∷ comes.here.ms)) (sym nodes) g.nodes;
          passed = ap (λ v. v.items) network ∙ g.passed;
          standing = ap (λ v. v.items) places ∙ g.standing ∙ ap (λ ps. ps ++ m.place ∷ []) comes.here.plays.standing;
          messages = kept_taken (world_of comes.here.s) comes.here.held.past (items_of comes.here.s) old.messages new.messages comes.here.ms m comes.here.plays.legal comes.here.plays.follows comes.here.plays.messages
              (ap (λ v. v.items) sent ∙ g.sent) (waiting ∙ g.waiting) stamp d.from refl first_stamp comes.later (taken ∙ ap (λ l. set l (stamp - 1) true) g.taken);
          clocked = clock ∙ g.clocked;
          slow = let now = clock ∙ g.clocked in let slow = g.slow in omega (arith, now, slow);
          legal = (comes.here.plays.legal, g.stands);
          follows = (comes.here.plays.follows, g.is_step);
          fits = (comes.here.plays.fits, g.fits);
          named = comes.here.plays.named;
        },
        left_next comes.here.s comes.here.ms m comes.here.item comes.here.rest comes.here.is_next,
      )

-- ---- steps that make no entry of a node

module _ {D K : Type 0} (state : D → DiskState) (old new : Run D K) where
  -- memory was refused before an entry was made
  pub ends_before : (here : IsAt state old) → new.nodes ≡ old.nodes → HasMade state old new here (Err fault.NoMemory)
  ends_before here same = record {
    history = here.ms;
    legal = here.plays.legal;
    follows = here.plays.follows;
    fits = here.plays.fits;
    stands = subst (λ (n : Nodes D K). AllStand state here.s here.held n here.ms) (sym same) (all_stand state here.s here.held old.nodes here.ms here.plays.nodes);
    cause = tt;
  }

  -- no entry with the stamp sent a message
  pub missed : (stamp : ℕ) (n : Names state old (DeliverOf stamp)) → option_map delivery_of (letter_at stamp old.messages.letters.items) ≡ None → IsPassed old new (cause.Missing stamp)
      → new.nodes ≡ old.nodes → new.messages.waiting ≡ old.messages.waiting → new.clock ≡ old.clock → HasMade state old new n.here (Ok tt)
  missed stamp n none p same_nodes waiting clock =
      let sent = none_sent state old stamp n none in
      let still = n.still in
      net_plays state old old new n.here (Missing stamp) (n.names ∙ ap (delivery stamp) sent) p refl refl refl same_nodes waiting clock
      (omega (arith, still)) (omega (arith, still)) tt refl sent (λ k. refl)

  -- so many ticks passed
  pub waited : (mid : Run D K) (ticks : ℕ) (ready : Ready state old (WaitFor ticks ∷ [])) → ticks ≤ TICKS → IsPassed mid new (cause.Wait ticks) → mid.network ≡ old.network → mid.places ≡ old.places
      → mid.messages ≡ old.messages → mid.clock ≡ old.clock + ticks → new.nodes ≡ old.nodes → new.messages.waiting ≡ old.messages.waiting → new.clock ≡ mid.clock
      → HasPlayed state ready.s ready.held new ready.rest (Ok tt)
  waited mid ticks ready few p network places messages clock same_nodes waiting same =
      net_plays state old mid new (ready_at state old (WaitFor ticks) ready) (Wait ticks) refl p network places messages same_nodes waiting same clock few tt refl tt (λ k. refl)

  -- either, or memory was refused
  pub missed_or_ends : (stamp : ℕ) (n : Names state old (DeliverOf stamp)) → option_map delivery_of (letter_at stamp old.messages.letters.items) ≡ None → (r : Result (Unit {0}) RunFault)
      → OnOk r (IsPassed old new (cause.Missing stamp)) → IfErr r (λ missed. missed ≡ fault.NoMemory) → new.nodes ≡ old.nodes
      → new.messages.waiting ≡ old.messages.waiting → new.clock ≡ old.clock → HasMade state old new n.here r
  missed_or_ends stamp n none (Ok done) p is same_nodes waiting clock = missed stamp n none p same_nodes waiting clock
  missed_or_ends stamp n none (Err why) p is same_nodes waiting clock = subst (λ w. HasMade state old new n.here (Err w)) (sym is) (ends_before n.here same_nodes)

  pub waited_or_ends : (mid : Run D K) (ticks : ℕ) (ready : Ready state old (WaitFor ticks ∷ [])) → ticks ≤ TICKS → (r : Result (Unit {0}) RunFault)
      → OnOk r (IsPassed mid new (cause.Wait ticks)) → IfErr r (λ missed. missed ≡ fault.NoMemory) → mid.network ≡ old.network → mid.places ≡ old.places
      → mid.messages ≡ old.messages → mid.clock ≡ old.clock + ticks → new.nodes ≡ old.nodes → new.messages.waiting ≡ old.messages.waiting → new.clock ≡ mid.clock
      → HasPlayed state ready.s ready.held new ready.rest r
  waited_or_ends mid ticks ready few (Ok done) p is network places messages clock same_nodes waiting same =
      waited mid ticks ready few p network places messages clock same_nodes waiting same
  waited_or_ends mid ticks ready few (Err why) p is network places messages clock same_nodes waiting same =
      subst (λ w. HasPlayed state ready.s ready.held new ready.rest (Err w)) (sym is) (ends_before (ready_at state old (WaitFor ticks) ready) same_nodes)
