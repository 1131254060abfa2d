-- Facts on histories that follow a schedule.
use Rattle.std.proofs.Common.{inl, ◌≡◌, ◌≢◌, ◌+◌, ◌<◌, ◌≤◌, ◌==◌, ℕ, zero, suc, nat_eq, nat_lt, Bool, true, false, List, [], ◌∷◌, ◌++◌, length, slice_get, Option, Some, None, option_map, refl, ap, sym, ◌∙◌, arith, length-append}
use Rattle.std.proofs.lemmas.Bool.Decides.{nat_tests}
use Rattle.seata_types.specs.declared.ids.Place.{Place}
use Rattle.seata_types.specs.declared.ids.Place.TheVariants as place
use Rattle.seata_types.specs.declared.messages.Outgoing.{Outgoing}
use Rattle.history_rules.specs.Own.{Event}
use Rattle.history_rules.specs.Nodes.{Past, World}
use Rattle.history_rules.specs.Histories.{Moment, own, own_if, same_place, sent_by, sent_at, sent_from, sent_if, Rises, last_now}
use Rattle.history_rules.specs.Schedules.{Item, Follows, IsStep, clock}
use Rattle.replay_runner.specs.declared.messages.Letter.{Letter}
use Rattle.replay_runner.specs.Letters.{letters, letter_of, letter_at, the_letter, letter_from}
use Rattle.replay_runner.proofs.Lists.{snoc_below, snoc_end, snoc_past}

-- ---- places

pub same_place-refl : (p : Place) → same_place p p ≡ true
same_place-refl place.Net = refl
same_place-refl place.Tc = refl
same_place-refl (place.Res n) = grind (arith, nat_tests)
same_place-refl (place.Man n) = grind (arith, nat_tests)

pub length-letters : (ms : List Moment) → length (letters ms) ≡ length ms
length-letters [] = refl
length-letters (m ∷ ms) = let rest = length-letters ms in omega (arith, length-append (letters ms) (letter_of m ∷ []), rest)

-- ---- letters

-- a letter's message, with the place that sent it
abbrev pub sent_of : Letter → Option (Place × Outgoing)
sent_of l = Some (l.from, record { to = l.to; message = l.packet.message })

-- what the letters say of a stamp
abbrev pub Found : ℕ → List Moment → Option Letter → Type 0
Found k ms None = sent_at k ms ≡ None
Found k ms (Some l) = (sent_at k ms ≡ sent_of l) × (sent_from k l.from ms ≡ sent_of l)

-- ---- stamps and clocks

module _ (w : World) (past : Past) (schedule : List Item) where
  pub step_stamp : (o : Option Item) (ms : List Moment) (m : Moment) → IsStep w past ms m o → m.stamp ≡ length ms + 1
  step_stamp None ms m h = absurd h
  step_stamp (Some step) ms m h = h.0

  pub step_clock : (o : Option Item) (ms : List Moment) (m : Moment) → IsStep w past ms m o → clock past ms ≤ m.now
  step_clock None ms m h = absurd h
  step_clock (Some step) ms m h = let e = h.1 in omega (arith, e)

  -- a moment whose stamp is its position stands after the newest one
  pub rises_after : (ms : List Moment) (m : Moment) → Follows w past schedule ms → m.stamp ≡ length ms + 1 → Rises ms m
  rises_after [] m f here = tt
  rises_after (last ∷ ms) m f here = let e = step_stamp _ ms last f.1 in inl (omega (arith, e, here))

  pub last_now-le : (p : Place) (ms : List Moment) → Follows w past schedule ms → last_now (own p ms) ≤ clock past ms
  last_now-le p [] f = omega arith
  last_now-le p (m ∷ ms) f = by (same_place p m.place) m.event (last_now-le p ms f.0) (step_clock _ ms m f.1)
    where
      by : (b : Bool) (e : Option Event) → last_now (own p ms) ≤ clock past ms → clock past ms ≤ m.now → last_now (own_if b e m (own p ms)) ≤ m.now
      by true (Some event) before rises = omega arith
      by true None before rises = omega arith
      by false e before rises = omega arith

  -- ---- messages

  -- no entry has a stamp that is still to come
  none_later : (kind : Moment → Bool) (k : ℕ) → ((m : Moment) → kind m ≡ true → m.stamp ≡ k) → (ms : List Moment) → Follows w past schedule ms → length ms < k
      → sent_by kind ms ≡ None
  none_later kind k only [] f later = refl
  none_later kind k only (m ∷ ms) f later = by (kind m) refl (none_later kind k only ms f.0 (omega arith)) (step_stamp _ ms m f.1)
    where
      by : (b : Bool) → kind m ≡ b → sent_by kind ms ≡ None → m.stamp ≡ length ms + 1 → sent_if b m m.step.sent (sent_by kind ms) ≡ None
      by true e before at = let stamp = only m e in absurd (omega (arith, stamp, at, later))
      by false e before at = before

  -- no entry has the stamp 0
  none_first : (kind : Moment → Bool) → ((m : Moment) → kind m ≡ true → m.stamp ≡ 0) → (ms : List Moment) → Follows w past schedule ms → sent_by kind ms ≡ None
  none_first kind only [] f = refl
  none_first kind only (m ∷ ms) f = by (kind m) refl (none_first kind only ms f.0) (step_stamp _ ms m f.1)
    where
      by : (b : Bool) → kind m ≡ b → sent_by kind ms ≡ None → m.stamp ≡ length ms + 1 → sent_if b m m.step.sent (sent_by kind ms) ≡ None
      by true e before at = let stamp = only m e in absurd (omega (arith, stamp, at))
      by false e before at = before

  abbrev stamped : ℕ → Moment → Bool
  stamped k m = m.stamp == k

  stamped-is : (k : ℕ) (m : Moment) → stamped k m ≡ true → m.stamp ≡ k
  stamped-is k m e = grind (arith, nat_tests)

  -- an entry of another stamp changes nothing
  found_before : (k : ℕ) (m : Moment) (ms : List Moment) (r : Option Letter) → (m.stamp == k) ≡ false → Found k ms r → Found k (m ∷ ms) r
  found_before k m ms None other h = rw other h
  found_before k m ms (Some l) other h = (rw other h.0, rw other h.1)

  -- the entry of the stamp itself
  found_here : (k : ℕ) (m : Moment) (ms : List Moment) → (m.stamp == k) ≡ true → sent_at k ms ≡ None → Found k (m ∷ ms) (letter_of m)
  found_here k m ms here none = by m.step.sent refl
    where
      by : (o : Option Outgoing) → m.step.sent ≡ o → Found k (m ∷ ms) (option_map (letter_from m.place m.stamp) o)
      by None e = rw (here, e) none
      by (Some out) e = (rw (here, e) refl, rw (here, same_place-refl m.place, e) refl)

  -- the letters say of each stamp what its entry sent
  pub letters_from : (ms : List Moment) → Follows w past schedule ms → (j : ℕ) → Found (suc j) ms (the_letter (slice_get (letters ms) j))
  letters_from [] f j = refl
  letters_from (m ∷ ms) f j = by (nat_lt j (length ms)) refl (nat_eq j (length ms)) refl (letters_from ms f.0 j)
    where
      at : m.stamp ≡ length ms + 1
      at = step_stamp _ ms m f.1

      size : length (letters ms) ≡ length ms
      size = length-letters ms

      by : (b : Bool) → nat_lt j (length ms) ≡ b → (e : Bool) → nat_eq j (length ms) ≡ e → Found (suc j) ms (the_letter (slice_get (letters ms) j))
          → Found (suc j) (m ∷ ms) (the_letter (slice_get (letters ms ++ letter_of m ∷ []) j))
      by true below e is before =
          let lower : j < length ms = grind (arith, nat_tests) in
          let within : j < length (letters ms) = omega (arith, lower, size) in
          let other : m.stamp ≢ suc j = omega (arith, at, lower) in
          let no : (m.stamp == suc j) ≡ false = grind (arith, nat_tests) in
          rw (snoc_below (letters ms) (letter_of m) j within) (found_before (suc j) m ms _ no before)
      by false above true is before =
          let number : j ≡ length ms = grind (arith, nat_tests) in
          let end : j ≡ length (letters ms) = omega (arith, number, size) in
          let here : (m.stamp == suc j) ≡ true = let same : m.stamp ≡ suc j = omega (arith, at, number) in grind (arith, nat_tests) in
          let last : slice_get (letters ms ++ letter_of m ∷ []) j ≡ Some (letter_of m) = rw end (snoc_end (letters ms) (letter_of m)) in
          rw last (found_here (suc j) m ms here (none_later (stamped (suc j)) (suc j) (stamped-is (suc j)) ms f.0 (omega (arith, number))))
      by false above false is before =
          let past : length ms < j = grind (arith, nat_tests) in
          let beyond : length (letters ms) < j = omega (arith, past, size) in
          rw (snoc_past (letters ms) (letter_of m) j beyond) (none_later (stamped (suc j)) (suc j) (stamped-is (suc j)) (m ∷ ms) f (omega (arith, past)))

  -- a letter that is there was sent before
  pub letter_below : (ms : List Moment) (k : ℕ) (l : Letter) → letter_at k (letters ms) ≡ Some l → k < length ms + 1
  letter_below ms zero l e = omega arith
  letter_below ms (suc j) l e = by (nat_lt j (length ms)) refl
    where
      beyond : {A : Type 0} (xs : List A) (i : ℕ) → length xs ≤ i → slice_get xs i ≡ None
      beyond [] i h = refl
      beyond (x ∷ xs) zero h = absurd (omega (arith, h))
      beyond (x ∷ xs) (suc i) h = beyond xs i (omega (arith, h))

      none_some : None ≡ Some l → ⊥
      none_some e = cc

      by : (b : Bool) → nat_lt j (length ms) ≡ b → suc j < length ms + 1
      by true below = grind (arith, nat_tests)
      by false above = absurd (none_some (sym (ap the_letter (beyond (letters ms) j (grind (arith, nat_tests, length-letters ms)))) ∙ e))

  -- the same of any number
  pub letters_at : (ms : List Moment) → Follows w past schedule ms → (k : ℕ) → Found k ms (letter_at k (letters ms))
  letters_at ms f zero = none_first (stamped 0) (stamped-is 0) ms f
  letters_at ms f (suc j) = letters_from ms f j
