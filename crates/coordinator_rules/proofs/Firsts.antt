-- The transaction that a turn takes is the first of those that stand in order.
use Rattle.std.proofs.Common.{◌≡◌, ◌==◌, ◌&&◌, ◌||◌, ◌<◌, ◌≤◌, ◌+◌, ℕ, zero, suc, Bool, true, false, cond, if◌then◌else◌, List, [], ◌∷◌, length, Option, Some, None, refl, sym, ap, ◌∙◌, arith, add-one}
use Rattle.std.specs.Prelude.{find, filter, option_map, nat_lt}
use Rattle.std.proofs.lemmas.Bool.Decides.{nat_tests}
use Rattle.history_rules.specs.CoordinatorMemory.{or_this, least, sooner, soonest}
use Rattle.retry_turns.specs.Plans.{goes_before, moment_of, Plans}
use Rattle.session_log.specs.SnapshotOf.{in_order}
use Rattle.session_memory.specs.Lookups.{or_else, xid_of}
use Rattle.session_memory.specs.Order.{Each}
use Rattle.session_memory.proofs.Small.{true_false, none_some, same_nat}
use Rattle.session_memory.proofs.Lists.{AreCounted, find_both, and_false}
use Rattle.session_log.specs.declared.sessions.SessionEntry.{SessionEntry}
use Rattle.session_memory.specs.Changes.{is_finished}
use Rattle.coordinator_rules.specs.Choices.{is_by, is_old_entry}

-- ---- the least that passes

module _ {X : Type 0} (number : X → ℕ) (k p : X → Bool) (test : ℕ → Bool) where
  abbrev Agrees : X → Type 0
  Agrees x = (k x && p x) ≡ test (number x)

  least_by : (b c : Bool) (x : X) (xs : List X) → k x ≡ b → p x ≡ c → (b && c) ≡ test (number x) → number x ≡ length xs + 1
      → option_map number (find p (in_order (filter k xs))) ≡ least test (length xs)
      → option_map number (find p (in_order (cond b (x ∷ filter k xs) (filter k xs)))) ≡ or_this (least test (length xs)) (test (suc (length xs))) (suc (length xs))
  least_by true c x xs here passes agrees is below =
      ap (option_map number) (find_both p (in_order (filter k xs)) (x ∷ [])) ∙ joined (find p (in_order (filter k xs))) c passes below
      ∙ ap (λ b. or_this (least test (length xs)) b (number x)) (agrees ∙ ap test (is ∙ add-one (length xs))) ∙ ap (or_this (least test (length xs)) (test (suc (length xs)))) (is ∙ add-one (length xs))
    where
      joined : (o : Option X) (d : Bool) → p x ≡ d → option_map number o ≡ least test (length xs)
          → option_map number (or_else o (find p (x ∷ []))) ≡ or_this (least test (length xs)) d (number x)
      joined (Some y) d e before = ap (λ l. or_this l d (number x)) before
      joined None true e before = rw e (ap (λ l. or_this l true (number x)) before)
      joined None false e before = rw e (ap (λ l. or_this l false (number x)) before)
  least_by false c x xs here passes agrees is below =
      below ∙ kept (least test (length xs)) ∙ ap (λ b. or_this (least test (length xs)) b (suc (length xs))) (agrees ∙ ap test (is ∙ add-one (length xs)))
    where
      kept : (o : Option ℕ) → o ≡ or_this o false (suc (length xs))
      kept None = refl
      kept (Some y) = refl

  pub least_found : (xs : List X) → AreCounted number xs → Each Agrees xs → option_map number (find p (in_order (filter k xs))) ≡ least test (length xs)
  least_found [] counted agree = refl
  least_found (x ∷ xs) counted agree = least_by (k x) (p x) x xs refl refl agree.0 counted.0 (least_found xs counted.1 agree.1)

-- the least that passes passes
pub least_passes : (test : ℕ → Bool) (n x : ℕ) → least test n ≡ Some x → test x ≡ true
least_passes test zero x e = none_some e
least_passes test (suc n) x e = by (least_passes test n x) (least test n) refl (test (suc n)) refl e
  where
    by : (least test n ≡ Some x → test x ≡ true) → (r : Option ℕ) → least test n ≡ r → (b : Bool) → test (suc n) ≡ b
        → or_this r b (suc n) ≡ Some x → test x ≡ true
    by below (Some y) before b this is = below (before ∙ is)
    by below None before true this is = let same : suc n ≡ x = cc in ap test (sym same) ∙ this
    by below None before false this is = none_some is

-- ---- the soonest

not_sooner : (k m : ℕ) (b rest : Bool) → nat_lt k m ≡ b → (b || rest) ≡ false → nat_lt k m ≡ false
not_sooner k m true rest e f = true_false f
not_sooner k m false rest e f = e

module _ (moment : ℕ → Option ℕ) where
  -- nobody has a moment
  pub soonest_none : ((y : ℕ) → moment y ≡ None) → (n : ℕ) → soonest moment n ≡ None
  soonest_none none zero = refl
  soonest_none none (suc n) = rw (soonest_none none n, none (suc n)) refl

  -- the soonest is one of them, with its moment
  abbrev IsAmong : ℕ → Option (ℕ × ℕ) → Type 0
  IsAmong n None = Unit {0}
  IsAmong n (Some p) = (moment p.0 ≡ Some p.1) × (p.0 ≤ n)

  among_by : (n : ℕ) (o : Option (ℕ × ℕ)) (here : Option ℕ) → moment (suc n) ≡ here → IsAmong n o → IsAmong (suc n) (sooner o (suc n) here)
  among_by n None None e a = tt
  among_by n (Some p) None e a = (a.0, omega (arith, a.1))
  among_by n None (Some m) e a = (e, omega arith)
  among_by n (Some (x, soon)) (Some m) e a = by (nat_lt m soon)
    where
      by : (b : Bool) → IsAmong (suc n) (if b then Some (suc n, m) else Some (x, soon))
      by true = (e, omega arith)
      by false = (a.0, omega (arith, a.1))

  among : (n : ℕ) → IsAmong n (soonest moment n)
  among zero = tt
  among (suc n) = among_by n (soonest moment n) (moment (suc n)) refl (among n)

  module _ (x m : ℕ) (is : moment x ≡ Some m) (first : (y k : ℕ) → moment y ≡ Some k → goes_before k y m x ≡ false) where
    later : (n : ℕ) (here : Option ℕ) → moment (suc n) ≡ here → sooner (Some (x, m)) (suc n) here ≡ Some (x, m)
    later n None e = refl
    later n (Some k) e = ap (λ b. if b then Some (suc n, k) else Some (x, m)) (not_sooner k m (nat_lt k m) ((k == m) && nat_lt (suc n) x) refl (first (suc n) k e))

    earlier_by : (y k : ℕ) (b c d : Bool) → nat_lt k m ≡ b → (k == m) ≡ c → nat_lt y x ≡ d → y < x → (b || (c && d)) ≡ false → nat_lt m k ≡ true
    earlier_by y k true c d lt eq less under e = true_false e
    earlier_by y k false true true lt eq less under e = true_false e
    earlier_by y k false true false lt eq less under e = absurd (grind (arith, nat_tests, less, under))
    earlier_by y k false false d lt eq less under e = grind (arith, nat_tests, lt, eq)

    last : (n : ℕ) → x ≡ suc n → (o : Option (ℕ × ℕ)) → IsAmong n o → sooner o (suc n) (moment (suc n)) ≡ Some (x, m)
    last n at None a = rw (ap moment (sym at) ∙ is) (ap (λ y. Some (y, m)) (sym at))
    last n at (Some (y, k)) a =
        let under : y < x = (let le = a.1 in omega (arith, le, at)) in
        rw (ap moment (sym at) ∙ is)
        (ap (λ b. if b then Some (suc n, m) else Some (y, k)) (earlier_by y k (nat_lt k m) (k == m) (nat_lt y x) refl refl refl under (first y k a.0)) ∙ ap (λ z. Some (z, m)) (sym at))

    at_most : (n : ℕ) → x ≤ suc n → (b : Bool) → (x == suc n) ≡ b → (x ≤ n → soonest moment n ≡ Some (x, m)) → sooner (soonest moment n) (suc n) (moment (suc n)) ≡ Some (x, m)
    at_most n le true e below = last n (same_nat x (suc n) e) (soonest moment n) (among n)
    at_most n le false e below =
        ap (λ o. sooner o (suc n) (moment (suc n))) (below (grind (arith, nat_tests, le, e))) ∙ later n (moment (suc n)) refl

    -- the one that nobody goes before is the soonest
    pub soonest_found : (n : ℕ) → 1 ≤ x → x ≤ n → soonest moment n ≡ Some (x, m)
    soonest_found zero ge le = absurd (omega (arith, ge, le))
    soonest_found (suc n) ge le = at_most n le (x == suc n) refl (λ below. soonest_found n ge below)

  -- the soonest has its moment
  pub soonest_is : (n : ℕ) (p : ℕ × ℕ) → soonest moment n ≡ Some p → moment p.0 ≡ Some p.1
  soonest_is n p e = by (soonest moment n) e (among n)
    where
      by : (o : Option (ℕ × ℕ)) → o ≡ Some p → IsAmong n o → moment p.0 ≡ Some p.1
      by None e a = none_some e
      by (Some r) e a = let same : r ≡ p = cc in ap (λ (z : ℕ × ℕ). moment z.0) (sym same) ∙ a.0 ∙ ap (λ (z : ℕ × ℕ). Some z.1) same

-- ---- none is old where none is forgotten

none_passes : {X : Type 0} (p : X → Bool) (none : (x : X) → p x ≡ false) (xs : List X) → find p xs ≡ None
none_passes p none [] = refl
none_passes p none (x ∷ xs) = ap (λ b. cond b (Some x) (find p xs)) (none x) ∙ none_passes p none xs

pub never_old : (rests : Plans) (forget now : ℕ) (es : List SessionEntry) → forget ≡ 0 → None ≡ option_map xid_of (find (is_old_entry rests forget now) es)
never_old rests zero now es e =
    sym (ap (option_map xid_of) (none_passes (is_old_entry rests 0 now) (λ t. and_false (is_finished t.session.status) false refl) es))
never_old rests (suc forget) now es e = absurd (omega (arith, e))

-- ---- nor where none rests for so long

resting_by : (o : Option ℕ) (forget now : ℕ) → ((n : ℕ) → o ≡ Some n → now < n + forget) → is_by forget now o ≡ false
resting_by None forget now young = refl
resting_by (Some since) forget now young = let late : now < since + forget = young since refl in grind (arith, nat_tests, late)

pub none_old : (rests : Plans) (forget now : ℕ) (es : List SessionEntry) → ((x n : ℕ) → moment_of rests x ≡ Some n → now < n + forget) → None ≡ option_map xid_of (find (is_old_entry rests forget now) es)
none_old rests forget now es young = sym (ap (option_map xid_of) (none_passes (is_old_entry rests forget now) is_young es))
  where
    is_young : (t : SessionEntry) → is_old_entry rests forget now t ≡ false
    is_young t =
        and_false (is_finished t.session.status) _ (and_false (nat_lt 0 forget) _ (resting_by (moment_of rests t.xid.0) forget now (young t.xid.0)))
