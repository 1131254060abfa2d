-- Deliveries that fit a node, and that those of a history do.
use Rattle.std.proofs.Common.{◌≡◌, ◌≤◌, ◌&&◌, ℕ, zero, suc, nat_le, Bool, true, false, List, length, Option, Some, None, option_map, refl, ap, sym, ◌∙◌, arith}
use Rattle.std.proofs.lemmas.Bool.Decides.{nat_tests}
use Rattle.disk_model.specs.Disk.{DiskState}
use Rattle.seata_types.specs.declared.ids.Place.{Place}
use Rattle.seata_types.specs.declared.ids.Place.TheVariants as place
use Rattle.seata_types.specs.declared.messages.Input.TheVariants as input
use Rattle.seata_types.specs.declared.messages.Message.{Message}
use Rattle.seata_types.specs.declared.messages.Message.TheVariants as message
use Rattle.scenario_form.specs.declared.scenarios.Scenario.{Scenario}
use Rattle.scenario_form.specs.Runnable.{IsPlaceAmong}
use Rattle.durable_records.specs.SessionOrder.{is_counted}
use Rattle.frame_codec.specs.Limits.{IsFramable}
use Rattle.history_rules.specs.Nodes.{Past, World}
use Rattle.history_rules.specs.Histories.{Deliver}
use Rattle.history_law.specs.MessageSafety.{IsNode, NamesNodes, ReachesNode}
use Rattle.history_law.proofs.Deliveries.{brought_says}
use Rattle.history_law.proofs.MessageHistory.{messages_over_any}
use Rattle.history_text.specs.declared.entries.Cause.TheVariants as cause
use Rattle.history_text.specs.Worlds.{managers_from, resources_of, world_of}
use Rattle.coordinator_core.specs.Serving.{HasNumbers}
use Rattle.replay_runner.specs.declared.messages.Delivery.{Delivery}
use Rattle.replay_runner.specs.declared.messages.Letter.{Letter}
use Rattle.replay_runner.specs.declared.runs.Run.{Run}
use Rattle.replay_runner.specs.Going.{CanGo, CanMake, MayBeGiven, fits_delivery, have_resources, may_hear}
use Rattle.replay_runner.specs.Letters.{delivery_of, letter_at, the_letter}
use Rattle.replay_runner.specs.Plays.{Hears}
use Rattle.replay_runner.proofs.Counted.{counted_high, counted_low}
use Rattle.replay_runner.proofs.Lists.{get_past}
use Rattle.replay_runner.proofs.Played.{brought_there, delivered_from}
use Rattle.replay_runner.proofs.Roles.{at_manager, at_resource, length-managers, length-resources}
use Rattle.replay_runner.proofs.Worlds.{world_of-names}

-- ---- of a history

both : (a b : Bool) → a ≡ true → b ≡ true → (a && b) ≡ true
both a b one two = ap (λ x. x && b) one ∙ two

counted_within : (count n : ℕ) → 1 ≤ n → n ≤ count → is_counted count n ≡ true
counted_within count n low high = grind (arith, nat_tests, low, high)

heard_named : (w : World) (managers resources : ℕ) → managers ≡ length w.managers → resources ≡ length w.resources → (heard : Message) → NamesNodes w heard → may_hear managers resources heard ≡ true
heard_named w managers resources users servers (message.Begin manager timeout) named = ap (λ n. is_counted n manager) users ∙ named
heard_named w managers resources users servers (message.Register xid resource call ticket kind hold check) named =
    ap (λ n. is_counted n resource && have_resources n hold) servers ∙ both (is_counted (length w.resources) resource) (have_resources (length w.resources) hold) named.0 named.1
heard_named w managers resources users servers _ named = refl

module _ (s : Scenario) (past : Past) (managers resources : ℕ) (users : managers ≡ length s.managers) (servers : resources ≡ length s.resources) where
  -- a message that reaches a node fits
  fits_node : (to : Place) (heard : Message) → IsNode (world_of s) past to → NamesNodes (world_of s) heard → fits_delivery managers resources to heard ≡ true
  fits_node place.Net heard (role, e) named = absurd (let no : None ≡ Some role = e in cc)
  fits_node place.Tc heard node named =
      heard_named (world_of s) managers resources (users ∙ sym (length-managers s.lock_tries 1 s.managers)) (servers ∙ sym (length-resources s)) heard named
  fits_node (place.Res n) heard (role, e) named =
      let (setup, listed, is) = at_resource s past n role e in
      let low = counted_low (resources_of s) n setup listed in
      let high = counted_high (resources_of s) n setup listed in
      let size = length-resources s in
      counted_within resources n low (omega (arith, high, size, servers))
  fits_node (place.Man n) heard (role, e) named =
      let (settings, listed, is) = at_manager s past n role e in
      let low = counted_low (managers_from s.lock_tries 1 s.managers) n settings listed in
      let high = counted_high (managers_from s.lock_tries 1 s.managers) n settings listed in
      let size = length-managers s.lock_tries 1 s.managers in
      counted_within managers n low (omega (arith, high, size, users))

module _ {D K : Type 0} (state : D → DiskState) (r : Run D K) (stamp : ℕ) (d : Delivery) (h : Hears state r stamp d) where
  abbrev s : Scenario
  s = h.step.here.s

  abbrev past : Past
  past = h.step.here.held.past

  pub reaches : ReachesNode (world_of s) past d.from (record { to = d.to; message = d.message })
  reaches =
      brought_says (ReachesNode (world_of s) past) h.step.here.ms d.to (Deliver stamp d.from) d.from d.message
      (messages_over_any (world_of s) past h.step.here.ms (world_of-names s h.step.here.runnable) h.step.here.plays.named h.step.here.plays.legal)
      (sym (brought_there state r stamp h.step d (delivered_from (letter_at stamp r.messages.letters.items) d h.is_found)))

  pub hears_fits : fits_delivery (length r.nodes.managers.items) (length r.nodes.resources.items) d.to d.message ≡ true
  hears_fits =
      let nodes = h.step.here.plays.nodes in
      fits_node s past (length r.nodes.managers.items) (length r.nodes.resources.items) nodes.managers nodes.resources d.to d.message reaches.receiver reaches.named

-- ---- of any replay

both_true : (a b : Bool) → (a && b) ≡ true → (a ≡ true) × (b ≡ true)
both_true true true e = (refl, refl)
both_true true false e = absurd (let no : false ≡ true = e in cc)
both_true false b e = absurd (let no : false ≡ true = e in cc)

counted_between : (count n : ℕ) → is_counted count n ≡ true → (1 ≤ n) × (n ≤ count)
counted_between count n is =
    let (low, high) = both_true (nat_le 1 n) (nat_le n count) is in
    (grind (arith, nat_tests, low), grind (arith, nat_tests, high))

fits_there : (managers resources : ℕ) (to : Place) (heard : Message) → fits_delivery managers resources to heard ≡ true → IsPlaceAmong resources managers to
fits_there managers resources place.Tc heard fits = tt
fits_there managers resources (place.Res n) heard fits = counted_between resources n fits
fits_there managers resources (place.Man n) heard fits = counted_between managers n fits
fits_there managers resources place.Net heard fits = absurd (let no : false ≡ true = fits in cc)

has_numbers : (managers resources : ℕ) (heard : Message) → may_hear managers resources heard ≡ true → HasNumbers managers resources heard
has_numbers managers resources (message.Begin manager timeout) may = may
has_numbers managers resources (message.Register xid resource call ticket kind hold check) may = both_true (is_counted resources resource) (have_resources resources hold) may
has_numbers managers resources _ may = tt

may_given : (managers resources : ℕ) (to from : Place) (heard : Message) → fits_delivery managers resources to heard ≡ true → IsFramable heard → MayBeGiven managers resources to (input.Message from heard)
may_given managers resources place.Tc from heard fits framable = has_numbers managers resources heard fits
may_given managers resources (place.Res n) from heard fits framable = framable
may_given managers resources (place.Man n) from heard fits framable = tt
may_given managers resources place.Net from heard fits framable = tt

-- a letter that is there has a stamp of those before
letter_within : (letters : List (Option Letter)) (stamp : ℕ) (d : Delivery) → option_map delivery_of (letter_at stamp letters) ≡ Some d → (1 ≤ stamp) × (stamp ≤ length letters)
letter_within letters zero d e = absurd (let no : None ≡ Some d = e in cc)
letter_within letters (suc k) d e = (omega arith, by (nat_le (suc k) (length letters)) refl)
  where
    by : (b : Bool) → nat_le (suc k) (length letters) ≡ b → suc k ≤ length letters
    by true low = grind (arith, nat_tests)
    by false high =
        let past : length letters ≤ k = grind (arith, nat_tests) in
        absurd (let no : None ≡ Some d = sym (ap (λ o. option_map delivery_of (the_letter o)) (get_past letters k past)) ∙ e in cc)

module _ {D K : Type 0} (r : Run D K) (stamp : ℕ) (d : Delivery) (can : CanGo r 1) (sent : option_map delivery_of (letter_at stamp r.messages.letters.items) ≡ Some d) where
  within : (1 ≤ stamp) × (stamp ≤ length r.messages.letters.items)
  within = letter_within r.messages.letters.items stamp d sent

  pub first_stamp : 1 ≤ stamp
  first_stamp = within.0

  pub stamp_there : stamp ≤ length r.places.items
  stamp_there = let high = within.1 in let letters = can.goes.letters in omega (arith, high, letters)

  pub can_hear : IsFramable d.message → fits_delivery (length r.nodes.managers.items) (length r.nodes.resources.items) d.to d.message ≡ true
      → CanMake r d.to (cause.Deliver stamp d.from) (Some (input.Message d.from d.message))
  can_hear framable fits = record {
    can = can;
    there = fits_there (length r.nodes.managers.items) (length r.nodes.resources.items) d.to d.message fits;
    comes = (let there = stamp_there in omega (arith, there), refl);
    takes = (framable, may_given (length r.nodes.managers.items) (length r.nodes.resources.items) d.to d.from d.message fits framable);
  }
