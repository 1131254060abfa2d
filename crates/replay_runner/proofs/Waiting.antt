-- Which messages of a history wait to be delivered.
use Rattle.std.proofs.Common.{◌≡◌, ◌≢◌, ◌+◌, ◌-◌, ◌<◌, ◌≤◌, ◌==◌, ◌&&◌, not, is_some, ℕ, nat_eq, nat_lt, Bool, true, false, List, [], ◌∷◌, ◌++◌, length, set, length-set, slice_get, Option, Some, None, option_map, refl, ap, sym, subst, ◌∙◌, arith, length-append}
use Rattle.std.proofs.lemmas.Bool.Decides.{nat_tests}
use Rattle.std.proofs.lemmas.Option.{same_Some}
use Rattle.seata_types.specs.declared.ids.Place.{Place}
use Rattle.seata_types.specs.declared.messages.Outgoing.{Outgoing}
use Rattle.history_rules.specs.Nodes.{Past, World}
use Rattle.history_rules.specs.Histories.{Moment, Cause, Turn, Deliver, Missing, Wait, Stop, Crash, Restart, Local, Outside, Legal, ReceivesLater}
use Rattle.history_rules.specs.Schedules.{Follows, Item, is_taken, oldest_waiting, or_waiting, takes}
use Rattle.replay_runner.specs.declared.messages.Letter.{Letter}
use Rattle.replay_runner.specs.declared.messages.Messages.{Messages}
use Rattle.replay_runner.specs.Letters.{AreMessages, letter_from, letter_of, letters, the_letter, waits}
use Rattle.replay_runner.proofs.Histories.{length-letters, step_stamp}
use Rattle.replay_runner.proofs.Lists.{slice_get-set_other, slice_get-set_same, snoc_below, snoc_end}

-- ---- one entry more

-- no entry delivers a message of a later one
takes_not : (c : Cause) (stamp k : ℕ) → ReceivesLater c stamp → stamp ≤ k → takes k c ≡ false
takes_not (Deliver sent from) stamp k later within =
    let other : sent ≢ k = omega (arith, later, within) in grind (arith, nat_tests)
takes_not Turn stamp k later within = refl
takes_not (Missing sent) stamp k later within = refl
takes_not (Wait ticks) stamp k later within = refl
takes_not (Stop calls) stamp k later within = refl
takes_not Crash stamp k later within = refl
takes_not (Restart pick calls) stamp k later within = refl
takes_not (Local number) stamp k later within = refl
takes_not (Outside number) stamp k later within = refl

taken_before : (k : ℕ) (m : Moment) (ms : List Moment) → takes k m.cause ≡ false → is_taken k (m ∷ ms) ≡ is_taken k ms
taken_before k m ms quiet = rw quiet refl

module _ (w : World) (past : Past) (schedule : List Item) where
  pub none_taken : (ms : List Moment) → Legal w past ms → Follows w past schedule ms → (k : ℕ) → length ms < k → is_taken k ms ≡ false
  none_taken [] legal follows k later = refl
  none_taken (m ∷ ms) legal follows k later =
      let stamp = step_stamp w past schedule _ ms m follows.1 in
      taken_before k m ms (takes_not m.cause m.stamp k legal.1.receives_later (omega (arith, stamp, later))) ∙ none_taken ms legal.0 follows.0 k (omega (arith, later))

waits_alike : (sent sent' : List (Option Letter)) (taken taken' : List Bool) (k : ℕ) → slice_get sent' k ≡ slice_get sent k → slice_get taken' k ≡ slice_get taken k
    → waits sent' taken' k ≡ waits sent taken k
waits_alike sent sent' taken taken' k s t = rw (s, t) refl

waits_no_more : (sent : List (Option Letter)) (taken : List Bool) (k : ℕ) → slice_get taken k ≡ Some true → waits sent taken k ≡ false
waits_no_more sent taken k e = rw e refl

-- what is kept of the messages, with those of one moment more
module _ (w : World) (past : Past) (schedule : List Item) (old new : Messages) (ms : List Moment) (m : Moment) (legal : Legal w past ms) (follows : Follows w past schedule ms)
    (are : AreMessages old ms) (sent : new.letters.items ≡ old.letters.items ++ letter_of m ∷ []) (waiting : new.waiting ≡ old.waiting) where
  size : length old.letters.items ≡ length ms
  size = ap length are.sent ∙ length-letters ms

  same_letter : (k : ℕ) → k < length ms → slice_get new.letters.items k ≡ slice_get old.letters.items k
  same_letter k below = ap (λ l. slice_get l k) sent ∙ snoc_below old.letters.items (letter_of m) k (omega (arith, below, size))

  marks_before : (k : ℕ) → k < length ms → slice_get (old.taken.items ++ false ∷ []) k ≡ Some (is_taken (k + 1) ms)
  marks_before k below = snoc_below old.taken.items false k (let count = are.count in omega (arith, below, count)) ∙ are.taken k below

  marks_here : slice_get (old.taken.items ++ false ∷ []) (length ms) ≡ Some (is_taken (length ms + 1) ms)
  marks_here = ap (slice_get (old.taken.items ++ false ∷ [])) (sym are.count) ∙ snoc_end old.taken.items false ∙ ap Some (sym (none_taken w past schedule ms legal follows (length ms + 1) (omega arith)))

  marks : (k : ℕ) → k < length ms + 1 → slice_get (old.taken.items ++ false ∷ []) k ≡ Some (is_taken (k + 1) ms)
  marks k below = by (nat_lt k (length ms)) refl
    where
      by : (b : Bool) → nat_lt k (length ms) ≡ b → slice_get (old.taken.items ++ false ∷ []) k ≡ Some (is_taken (k + 1) ms)
      by true e = marks_before k (grind (arith, nat_tests))
      by false e = let at : k ≡ length ms = let above : length ms ≤ k = grind (arith, nat_tests) in omega (arith, above, below) in
          subst (λ n. slice_get (old.taken.items ++ false ∷ []) n ≡ Some (is_taken (n + 1) ms)) (sym at) marks_here

  -- no message was delivered by it
  pub kept_quiet : new.taken.items ≡ old.taken.items ++ false ∷ [] → ((k : ℕ) → takes k m.cause ≡ false) → AreMessages new (m ∷ ms)
  kept_quiet taken quiet = record {
    sent = sent ∙ ap (λ l. l ++ letter_of m ∷ []) are.sent;
    count = ap length taken ∙ (let count = are.count in omega (arith, length-append old.taken.items (false ∷ []), count));
    taken = λ k below. ap (λ l. slice_get l k) taken ∙ marks k (omega (arith, below)) ∙ ap Some (sym (taken_before (k + 1) m ms (quiet (k + 1))));
    within = let within = are.within in omega (arith, within, waiting);
    passed = λ k below.
        let low : k < old.waiting = omega (arith, below, waiting) in
        let under : k < length ms = let within = are.within in omega (arith, low, within) in
        waits_alike old.letters.items new.letters.items old.taken.items new.taken.items k (same_letter k under)
        (ap (λ l. slice_get l k) taken ∙ snoc_below old.taken.items false k (let count = are.count in omega (arith, under, count))) ∙ are.passed k low;
  }

  -- it delivered the message of this stamp
  pub kept_taken : (stamp : ℕ) (from : Place) → m.cause ≡ Deliver stamp from → 1 ≤ stamp → stamp < length ms + 1
      → new.taken.items ≡ set (old.taken.items ++ false ∷ []) (stamp - 1) true → AreMessages new (m ∷ ms)
  kept_taken stamp from cause first below taken = record {
    sent = sent ∙ ap (λ l. l ++ letter_of m ∷ []) are.sent;
    count = ap length taken ∙ length-set (old.taken.items ++ false ∷ []) (stamp - 1) true ∙ (let count = are.count in omega (arith, length-append old.taken.items (false ∷ []), count));
    taken = λ k under. by k (omega (arith, under)) (nat_eq k (stamp - 1)) refl;
    within = let within = are.within in omega (arith, within, waiting);
    passed = λ k under.
        let low : k < old.waiting = omega (arith, under, waiting) in
        let high : k < length ms = let within = are.within in omega (arith, low, within) in
        quiet k low high (nat_eq k (stamp - 1)) refl;
  }
    where
      delivers : (k : ℕ) → takes k m.cause ≡ (stamp == k)
      delivers k = ap (takes k) cause

      marked : (k : ℕ) → k < length ms + 1 → k ≡ stamp - 1 → slice_get new.taken.items k ≡ Some true
      marked k under at = ap (λ l. slice_get l k) taken ∙ ap (slice_get (set (old.taken.items ++ false ∷ []) (stamp - 1) true)) at
          ∙ slice_get-set_same (old.taken.items ++ false ∷ []) (stamp - 1) true (is_taken (stamp - 1 + 1) ms) (marks (stamp - 1) (omega (arith, under, at)))

      unmarked : (k : ℕ) → k ≢ stamp - 1 → slice_get new.taken.items k ≡ slice_get (old.taken.items ++ false ∷ []) k
      unmarked k other = ap (λ l. slice_get l k) taken ∙ slice_get-set_other (old.taken.items ++ false ∷ []) (stamp - 1) k true other

      by : (k : ℕ) → k < length ms + 1 → (b : Bool) → nat_eq k (stamp - 1) ≡ b → slice_get new.taken.items k ≡ Some (is_taken (k + 1) (m ∷ ms))
      by k under true e =
          let at : k ≡ stamp - 1 = grind (arith, nat_tests) in
          let here : (stamp == (k + 1)) ≡ true = let same : stamp ≡ k + 1 = omega (arith, at, first) in grind (arith, nat_tests) in
          marked k under at ∙ ap Some (sym (rw (delivers (k + 1) ∙ here) refl))
      by k under false e =
          let other : k ≢ stamp - 1 = grind (arith, nat_tests) in
          let away : (stamp == (k + 1)) ≡ false = let no : stamp ≢ k + 1 = omega (arith, other, first) in grind (arith, nat_tests) in
          unmarked k other ∙ marks k under ∙ ap Some (sym (taken_before (k + 1) m ms (delivers (k + 1) ∙ away)))

      quiet : (k : ℕ) → k < old.waiting → k < length ms → (b : Bool) → nat_eq k (stamp - 1) ≡ b → waits new.letters.items new.taken.items k ≡ false
      quiet k low high true e = waits_no_more new.letters.items new.taken.items k (marked k (omega (arith, high)) (grind (arith, nat_tests)))
      quiet k low high false e =
          waits_alike old.letters.items new.letters.items old.taken.items new.taken.items k (same_letter k high)
          (unmarked k (grind (arith, nat_tests)) ∙ snoc_below old.taken.items false k (let count = are.count in omega (arith, high, count))) ∙ are.passed k low

-- ---- the oldest that waits

module _ (w : World) (past : Past) (schedule : List Item) (all : List Moment) where
  abbrev pub waiting_at : List Moment → ℕ → Bool
  waiting_at ms k = not (is_taken (k + 1) all) && is_some (the_letter (slice_get (letters ms) k))

  waiting_below : (m : Moment) (ms : List Moment) (k : ℕ) → k < length ms → waiting_at (m ∷ ms) k ≡ waiting_at ms k
  waiting_below m ms k below = rw (snoc_below (letters ms) (letter_of m) k (let size = length-letters ms in omega (arith, below, size))) refl

  letter_end : (m : Moment) (ms : List Moment) → slice_get (letters (m ∷ ms)) (length ms) ≡ Some (letter_of m)
  letter_end m ms = ap (slice_get (letters ms ++ letter_of m ∷ [])) (sym (length-letters ms)) ∙ snoc_end (letters ms) (letter_of m)

  pub none_waits : (ms : List Moment) → Follows w past schedule ms → ((k : ℕ) → k < length ms → waiting_at ms k ≡ false) → oldest_waiting all ms ≡ None
  none_waits [] follows none = refl
  none_waits (m ∷ ms) follows none =
      let before = none_waits ms follows.0 (λ k below. sym (waiting_below m ms k below) ∙ none k (omega (arith, below))) in
      let stamp = step_stamp w past schedule _ ms m follows.1 in
      let here : (not (is_taken m.stamp all) && is_some (letter_of m)) ≡ false =
      ap (λ n. not (is_taken n all) && is_some (letter_of m)) stamp ∙ ap (λ o. not (is_taken (length ms + 1) all) && is_some (the_letter o)) (sym (letter_end m ms)) ∙ none (length ms) (omega arith) in
      ap (λ o. or_waiting o (is_taken m.stamp all) m m.step.sent) before ∙ by (is_taken m.stamp all) m.step.sent here
    where
      by : (b : Bool) (o : Option Outgoing) → (not b && is_some (option_map (letter_from m.place m.stamp) o)) ≡ false → or_waiting None b m o ≡ None
      by true o e = refl
      by false None e = refl
      by false (Some out) e = absurd (let no : true ≡ false = e in cc)

  pub first_waits : (ms : List Moment) → Follows w past schedule ms → (k : ℕ) → k < length ms → ((j : ℕ) → j < k → waiting_at ms j ≡ false)
      → (l : Letter) → the_letter (slice_get (letters ms) k) ≡ Some l → is_taken (k + 1) all ≡ false → oldest_waiting all ms ≡ Some (l.to, Deliver (k + 1) l.from)
  first_waits [] follows k below none l there free = absurd (omega (arith, below))
  first_waits (m ∷ ms) follows k below none l there free = by (first_waits ms follows.0 k) (nat_lt k (length ms)) refl
    where
      stamp : m.stamp ≡ length ms + 1
      stamp = step_stamp w past schedule _ ms m follows.1

      here : (o : Option Outgoing) → m.step.sent ≡ o → option_map (letter_from m.place m.stamp) o ≡ Some l → is_taken m.stamp all ≡ false
          → or_waiting None (is_taken m.stamp all) m m.step.sent ≡ Some (l.to, Deliver m.stamp l.from)
      here None e is untaken = absurd (let no : None ≡ Some l = is in cc)
      here (Some out) e is untaken =
          let same : letter_from m.place m.stamp out ≡ l = same_Some _ l is in
          rw (untaken, e) (ap (λ (x : Letter). Some (x.to, Deliver m.stamp x.from)) same)

      by : (k < length ms → ((j : ℕ) → j < k → waiting_at ms j ≡ false) → (x : Letter) → the_letter (slice_get (letters ms) k) ≡ Some x → is_taken (k + 1) all ≡ false
          → oldest_waiting all ms ≡ Some (x.to, Deliver (k + 1) x.from)) → (b : Bool) → nat_lt k (length ms) ≡ b → oldest_waiting all (m ∷ ms) ≡ Some (l.to, Deliver (k + 1) l.from)
      by earlier true e =
          let under : k < length ms = grind (arith, nat_tests) in
          let older = earlier under (λ j low. sym (waiting_below m ms j (omega (arith, low, under))) ∙ none j low) l
          (ap the_letter (sym (snoc_below (letters ms) (letter_of m) k (let size = length-letters ms in omega (arith, under, size)))) ∙ there) free in
          ap (λ o. or_waiting o (is_taken m.stamp all) m m.step.sent) older
      by earlier false e =
          let at : k ≡ length ms = let above : length ms ≤ k = grind (arith, nat_tests) in omega (arith, above, below) in
          let before = none_waits ms follows.0 (λ j low. sym (waiting_below m ms j low) ∙ none j (omega (arith, low, at))) in
          let number : k + 1 ≡ m.stamp = omega (arith, at, stamp) in
          let is : letter_of m ≡ Some l = sym (ap the_letter (letter_end m ms)) ∙ ap (λ n. the_letter (slice_get (letters (m ∷ ms)) n)) (sym at) ∙ there in
          ap (λ o. or_waiting o (is_taken m.stamp all) m m.step.sent) before
          ∙ here m.step.sent refl is (ap (λ n. is_taken n all) (sym number) ∙ free) ∙ ap (λ n. Some (l.to, Deliver n l.from)) (sym number)
