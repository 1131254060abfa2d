-- What the replay chooses itself.
use Rattle.std.proofs.Common.{◌≡◌, ◌+◌, ◌<◌, ◌≤◌, ◌&&◌, not, is_some, ℕ, suc, nat_lt, Bool, true, false, List, [], ◌∷◌, length, slice_get, Option, Some, None, refl, ap, sym, subst, ◌∙◌, add-one, arith}
use Rattle.std.proofs.lemmas.Bool.Decides.{nat_tests}
use Rattle.disk_model.specs.Disk.{DiskState}
use Rattle.seata_types.specs.declared.ids.Place.{Place}
use Rattle.seata_types.specs.declared.ids.Place.TheVariants as place
use Rattle.seata_types.specs.declared.limits.TheConstants.{STEPS}
use Rattle.scenario_form.specs.declared.scenarios.Scenario.{Scenario}
use Rattle.history_rules.specs.Histories.{Moment, Turn}
use Rattle.history_rules.specs.Schedules.{Item, Auto, DeliverOf, TurnOf, delivery, earliest, is_taken, named, or_turn, places, singles}
use Rattle.history_text.specs.Worlds.{items_of, world_of}
use Rattle.replay_runner.specs.declared.messages.Letter.{Letter}
use Rattle.replay_runner.specs.declared.messages.Messages.{Messages}
use Rattle.replay_runner.specs.declared.runs.Run.{Run}
use Rattle.replay_runner.specs.Letters.{AreMessages, letters, the_letter, waits}
use Rattle.replay_runner.specs.Entering.{IsEarliest}
use Rattle.replay_runner.specs.Plays.{IsAt, Names, Ready}
use Rattle.replay_runner.proofs.Histories.{Found, letters_from, length-letters}
use Rattle.replay_runner.proofs.Lists.{drop_below}
use Rattle.replay_runner.proofs.Singles.{length-singles}
use Rattle.replay_runner.proofs.Waiting.{first_waits, none_waits}

-- ---- the next step

pub short_at : {D K : Type 0} (state : D → DiskState) (r : Run D K) (item : Item) (ready : Ready state r (item ∷ [])) → length ready.ms < STEPS
short_at state r item ready =
    let below = drop_below (singles (items_of ready.s)) (length ready.ms) item ready.rest ready.is_next in
    let size = length-singles ready.s.schedule in
    let few = ready.runnable.steps in
    omega (arith, below, size, few)

-- the next of a schedule's steps that are left
abbrev pub ready_at : {D K : Type 0} (state : D → DiskState) (r : Run D K) (item : Item) → Ready state r (item ∷ []) → IsAt state r
ready_at state r item ready = record {
  s = ready.s;
  held = ready.held;
  runnable = ready.runnable;
  ms = ready.ms;
  plays = ready.plays;
  short = short_at state r item ready;
  item = item;
  rest = ready.rest;
  is_next = ready.is_next;
}

-- ---- messages that wait

-- what is kept says which message waits
waits_is : (kept : Messages) (ms : List Moment) → AreMessages kept ms → (k : ℕ) → k < length ms → waits kept.letters.items kept.taken.items k ≡ (not (is_taken (k + 1) ms) && is_some (the_letter (slice_get (letters ms) k)))
waits_is kept ms are k below = rw (are.taken k below, ap (λ l. slice_get l k) are.sent) refl

-- more is known of those that don't wait
pub messages_moved : (old new : Messages) (ms : List Moment) → AreMessages old ms → new.letters ≡ old.letters → new.taken ≡ old.taken → new.waiting ≤ length ms
    → ((k : ℕ) → old.waiting ≤ k → k < new.waiting → waits old.letters.items old.taken.items k ≡ false) → AreMessages new ms
messages_moved old new ms are sent taken within none = record {
  sent = ap (λ v. v.items) sent ∙ are.sent;
  count = ap (λ v. length v.items) taken ∙ are.count;
  taken = λ k below. ap (λ v. slice_get v.items k) taken ∙ are.taken k below;
  within = within;
  passed = λ k below. ap (λ v. waits v.items new.taken.items k) sent ∙ ap (λ v. waits old.letters.items v.items k) taken ∙ by k below (nat_lt k old.waiting) refl;
}
  where
    by : (k : ℕ) → k < new.waiting → (b : Bool) → nat_lt k old.waiting ≡ b → waits old.letters.items old.taken.items k ≡ false
    by k below true e = are.passed k (grind (arith, nat_tests))
    by k below false e = none k (grind (arith, nat_tests)) below

both_true : (a b : Bool) → (not a && b) ≡ true → (a ≡ false) × (b ≡ true)
both_true false true e = (refl, refl)
both_true false false e = absurd (let no : false ≡ true = e in cc)
both_true true b e = absurd (let no : false ≡ true = e in cc)

some_letter : (o : Option Letter) → is_some o ≡ true → (l : Letter) × (o ≡ Some l)
some_letter None e = absurd (let no : false ≡ true = e in cc)
some_letter (Some l) e = (l, refl)

module _ {D K : Type 0} (state : D → DiskState) (r : Run D K) (n : ℕ) (names : Names state r (Auto n)) where
  abbrev ms : List Moment
  ms = names.here.ms

  abbrev s : Scenario
  s = names.here.s

  none_before : (k : ℕ) → k < r.messages.waiting → (not (is_taken (k + 1) ms) && is_some (the_letter (slice_get (letters ms) k))) ≡ false
  none_before k below =
      let within = names.here.plays.messages.within in
      sym (waits_is r.messages ms names.here.plays.messages k (omega (arith, below, within))) ∙ names.here.plays.messages.passed k below

  pub names_oldest : (stamp : ℕ) → stamp ≡ r.messages.waiting + 1 → r.messages.waiting < length r.messages.letters.items → waits r.messages.letters.items r.messages.taken.items r.messages.waiting ≡ true
      → named (world_of s) ms (Auto n) ≡ named (world_of s) ms (DeliverOf stamp)
  names_oldest stamp is below waiting =
      let size = ap length names.here.plays.messages.sent ∙ length-letters ms in
      let under : r.messages.waiting < length ms = omega (arith, below, size) in
      let there = both_true (is_taken (r.messages.waiting + 1) ms) (is_some (the_letter (slice_get (letters ms) r.messages.waiting))) (sym (waits_is r.messages ms names.here.plays.messages r.messages.waiting under) ∙ waiting) in
      let (l, at) = some_letter (the_letter (slice_get (letters ms) r.messages.waiting)) there.1 in
      let oldest = first_waits (world_of s) names.here.held.past (items_of s) ms ms names.here.plays.follows r.messages.waiting under none_before l at there.0 in
      let found : Found (r.messages.waiting + 1) ms (Some l) =
      subst (λ k. Found k ms (Some l)) (sym (add-one r.messages.waiting)) (subst (Found (suc r.messages.waiting) ms) at (letters_from (world_of s) names.here.held.past (items_of s) ms names.here.plays.follows r.messages.waiting)) in
      ap (or_turn (world_of s) ms) oldest ∙ sym (ap (λ k. named (world_of s) ms (DeliverOf k)) is ∙ ap (delivery (r.messages.waiting + 1)) found.0)

  -- the first message that waits is delivered
  abbrev pub auto_delivers : (stamp : ℕ) → stamp ≡ r.messages.waiting + 1 → r.messages.waiting < length r.messages.letters.items → waits r.messages.letters.items r.messages.taken.items r.messages.waiting ≡ true
      → Names state r (DeliverOf stamp)
  auto_delivers stamp is below waiting = record { here = names.here; still = names.still; names = names.names ∙ names_oldest stamp is below waiting }

  pub names_turn : (p : Place) → r.messages.waiting ≡ length r.messages.letters.items → p ≡ earliest ms place.Tc (places (world_of s)) → named (world_of s) ms (Auto n) ≡ named (world_of s) ms (TurnOf p)
  names_turn p all is =
      let size = ap length names.here.plays.messages.sent ∙ length-letters ms in
      let none = none_waits (world_of s) names.here.held.past (items_of s) ms ms names.here.plays.follows (λ k below. none_before k (omega (arith, below, all, size))) in
      ap (or_turn (world_of s) ms) none ∙ ap (λ q. (q, Turn)) (sym is)

  -- where none waits, the node whose last turn is the earliest gets one
  abbrev pub auto_turns : (p : Place) → r.messages.waiting ≡ length r.messages.letters.items → p ≡ earliest ms place.Tc (places (world_of s)) → Names state r (TurnOf p)
  auto_turns p all is = record { here = names.here; still = names.still; names = names.names ∙ names_turn p all is }

-- ---- the messages that were looked through

-- a replay with more known of its messages
abbrev pub moved : {D K : Type 0} → Run D K → Messages → Run D K
moved r kept = record { nodes = r.nodes; network = r.network; places = r.places; messages = kept; clock = r.clock }

module _ {D K : Type 0} (state : D → DiskState) (old : Run D K) (kept : Messages) (n : Names state old (Auto 1)) (sent : kept.letters ≡ old.messages.letters) (taken : kept.taken ≡ old.messages.taken)
    (within : kept.waiting ≤ length old.messages.letters.items) (none : (k : ℕ) → old.messages.waiting ≤ k → k < kept.waiting → waits old.messages.letters.items old.messages.taken.items k ≡ false) where
  pub are : AreMessages kept n.here.ms
  are =
      let size = ap length n.here.plays.messages.sent ∙ length-letters n.here.ms in
      messages_moved old.messages kept n.here.ms n.here.plays.messages sent taken (omega (arith, within, size)) none

  abbrev pub looked : Names state (moved old kept) (Auto 1)
  looked = record {
    here = record {
      s = n.here.s;
      held = n.here.held;
      runnable = n.here.runnable;
      ms = n.here.ms;
      plays = record {
        nodes = n.here.plays.nodes;
        passed = n.here.plays.passed;
        standing = n.here.plays.standing;
        messages = are;
        clocked = n.here.plays.clocked;
        slow = n.here.plays.slow;
        legal = n.here.plays.legal;
        follows = n.here.plays.follows;
        fits = n.here.plays.fits;
        named = n.here.plays.named;
      };
      short = n.here.short;
      item = n.here.item;
      rest = n.here.rest;
      is_next = n.here.is_next;
    };
    still = n.still;
    names = n.names;
  }

  -- the one that waits is delivered
  abbrev pub looked_delivers : (stamp : ℕ) → stamp ≡ kept.waiting + 1 → kept.waiting < length old.messages.letters.items → waits old.messages.letters.items old.messages.taken.items kept.waiting ≡ true
      → Names state (moved old kept) (DeliverOf stamp)
  looked_delivers stamp is below waiting =
      auto_delivers state (moved old kept) 1 looked stamp is (subst (λ v. kept.waiting < length v.items) (sym sent) below)
      (ap (λ v. waits v.items kept.taken.items kept.waiting) sent ∙ ap (λ v. waits old.messages.letters.items v.items kept.waiting) taken ∙ waiting)

  -- where none waits a turn is given
  abbrev pub looked_turns : (p : Place) → kept.waiting ≡ length old.messages.letters.items → IsEarliest state old.nodes p → Names state (moved old kept) (TurnOf p)
  looked_turns p all earliest =
      auto_turns state (moved old kept) 1 looked p (all ∙ ap (λ v. length v.items) (sym sent)) (earliest n.here.s n.here.held n.here.ms n.here.plays.nodes)
