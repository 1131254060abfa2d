-- Lists of ends after calls that change some of them.
use Rattle.std.proofs.Common.{◌≡◌, ◌≢◌, ◌⊎◌, inl, inr, ◌+◌, ◌-◌, ◌^◌, ◌<◌, ◌≤◌, ◌==◌, min, ℕ, zero, suc, Bool, true, false, List, [], ◌∷◌, ◌++◌, set, length, slice_get, Option, Some, None, IfSome, refl, ap, sym, subst, ◌∙◌, arith, length-set}
use Rattle.std.proofs.lemmas.Bool.Decides.{nat_tests}
use Rattle.std.proofs.lemmas.Option.{same_Some}
use lib.ListN.{get_or}
use Rattle.seata_types.specs.declared.ids.Place.{Place}
use Rattle.frame_codec.specs.Packets.{Sent}
use Rattle.history_rules.specs.Histories.{same_place}
use Rattle.link_queue.specs.Links.{Sending, Taking, with_missed}
use Rattle.trace_rules.proofs.Order.{same_place-eq}
use Rattle.node_seat.specs.Ends.{EachBecomes, TookNothing, TookThis, MissedOnce, NoneTook, HaveMissed, HaveMissedBefore, IsBefore, TookIf, TookAt, WasOffered, OfferedIf, HaveOffered, GoApart}

-- ---- a list with one item set

pub slice_get-set_same : {A : Type 0} (xs : List A) (k : ℕ) (x y : A) → slice_get xs k ≡ Some y → slice_get (set xs k x) k ≡ Some x
slice_get-set_same [] k x y e = absurd (let no : None ≡ Some y = e in cc)
slice_get-set_same (z ∷ xs) zero x y e = refl
slice_get-set_same (z ∷ xs) (suc k) x y e = slice_get-set_same xs k x y e

pub slice_get-set_other : {A : Type 0} (xs : List A) (k j : ℕ) (x : A) → j ≢ k → slice_get (set xs k x) j ≡ slice_get xs j
slice_get-set_other [] k j x other = refl
slice_get-set_other (z ∷ xs) zero zero x other = absurd (other refl)
slice_get-set_other (z ∷ xs) zero (suc j) x other = refl
slice_get-set_other (z ∷ xs) (suc k) zero x other = refl
slice_get-set_other (z ∷ xs) (suc k) (suc j) x other = slice_get-set_other xs k j x (λ e. other (ap (λ n. suc n) e))

-- what an index gives stands there
pub got : {A : Type 0} (xs : List A) (k : ℕ) (x : A) → k < length xs → x ≡ get_or xs k x → slice_get xs k ≡ Some x
got xs k x below is = at xs k x below ∙ ap Some (sym is)
  where
    at : {A : Type 0} (ys : List A) (j : ℕ) (d : A) → j < length ys → slice_get ys j ≡ Some (get_or ys j d)
    at [] j d below = absurd (omega (arith, below))
    at (y ∷ ys) zero d below = refl
    at (y ∷ ys) (suc j) d below = at ys j d (omega (arith, below))

-- what stands somewhere stands below the length
pub below_length : {A : Type 0} (xs : List A) (k : ℕ) (x : A) → slice_get xs k ≡ Some x → k < length xs
below_length [] k x e = absurd (let no : None ≡ Some x = e in cc)
below_length (y ∷ ys) zero x e = omega arith
below_length (y ∷ ys) (suc k) x e = let on = below_length ys k x e in omega (arith, on)

-- and below the length something stands
pub stands_below : {A : Type 0} (xs : List A) (k : ℕ) → k < length xs → (x : A) × (slice_get xs k ≡ Some x)
stands_below [] k below = absurd (omega (arith, below))
stands_below (y ∷ ys) zero below = (y, refl)
stands_below (y ∷ ys) (suc k) below = stands_below ys k (omega (arith, below))

-- what stands at j once the k-th is u
at_set : {A : Type 0} (xs : List A) (k : ℕ) (t u : A) → slice_get xs k ≡ Some t → (j : ℕ) (v : A) → slice_get (set xs k u) j ≡ Some v
    → (b : Bool) → (j == k) ≡ b → ((j ≡ k) × (v ≡ u)) ⊎ (((j == k) ≡ false) × (slice_get xs j ≡ Some v))
at_set xs k t u e j v f true is =
    let same : j ≡ k = grind (arith, nat_tests) in
    inl (same, same_Some v u (sym f ∙ ap (slice_get (set xs k u)) same ∙ slice_get-set_same xs k u t e))
at_set xs k t u e j v f false is =
    let apart : j ≢ k = grind (arith, nat_tests) in
    inr (is, sym (slice_get-set_other xs k j u apart) ∙ f)

-- ---- each of a list

pub each_same : {A : Type 0} (P : ℕ → A → A → Type 0) (xs : List A) → ((j : ℕ) (x : A) → slice_get xs j ≡ Some x → P j x x) → EachBecomes P xs xs
each_same P xs same = record { count = refl; each = λ j u e. (u, e, same j u e) }

-- one item changes after a call
pub each_set : {A : Type 0} (P R : ℕ → A → A → Type 0) (old now : List A) (k : ℕ) (t u : A) → EachBecomes P old now → slice_get now k ≡ Some t
    → ((s : A) → P k s t → R k s u) → ((j : ℕ) (s v : A) → (j == k) ≡ false → slice_get now j ≡ Some v → P j s v → R j s v) → EachBecomes R old (set now k u)
each_set {A} P R old now k t u became here changed others = record {
  count = length-set now k u ∙ became.count;
  each = λ j v e. by j v (at_set now k t u here j v e (j == k) refl);
}
  where
    by : (j : ℕ) (v : A) → ((j ≡ k) × (v ≡ u)) ⊎ (((j == k) ≡ false) × (slice_get now j ≡ Some v)) → (s : A) × (slice_get old j ≡ Some s) × R j s v
    by j v (inl (at, is)) =
        let m = became.each k t here in
        (m.0, ap (slice_get old) at ∙ m.1, subst (λ i. R i m.0 v) (sym at) (subst (R k m.0) (sym is) (changed m.0 m.2)))
    by j v (inr (apart, at)) = let m = became.each j v at in (m.0, m.1, others j m.0 v apart at m.2)

-- one call after another
pub each_then : {A : Type 0} (P Q R : ℕ → A → A → Type 0) (a b c : List A) → EachBecomes P a b → EachBecomes Q b c
    → ((j : ℕ) (s t u : A) → P j s t → Q j t u → R j s u) → EachBecomes R a c
each_then P Q R a b c first second both = record {
  count = second.count ∙ first.count;
  each = λ j u e. let m = second.each j u e in let o = first.each j m.0 m.1 in (o.0, o.1, both j o.0 m.0 u o.2 m.2);
}

-- each of them, where its place is below the length
pub each_within : {A : Type 0} (P : ℕ → A → A → Type 0) (old new : List A) → EachBecomes (λ j t u. j < length new → P j t u) old new → EachBecomes P old new
each_within P old new became = record { count = became.count; each = λ j u e. let m = became.each j u e in (m.0, m.1, m.2 (below_length new j u e)) }

-- two facts of one call
pub each_both : {A : Type 0} (P Q R : ℕ → A → A → Type 0) (old new : List A) → EachBecomes P old new → EachBecomes Q old new
    → ((j : ℕ) (s u : A) → P j s u → Q j s u → R j s u) → EachBecomes R old new
each_both P Q R old new first second both = record {
  count = first.count;
  each = λ j u e.
      let m = first.each j u e in
      let o = second.each j u e in
      (m.0, m.1, both j m.0 u m.2 (subst (λ s. Q j s u) (same_Some o.0 m.0 (sym o.1 ∙ m.1)) o.2));
}

-- ---- taking

nothing_then : (s t u : Taking) → TookNothing s t → TookNothing t u → TookNothing s u
nothing_then s t u a b = record { line = b.line ∙ a.line; taken = b.taken ∙ a.taken; counted = let x = a.counted in let y = b.counted in omega (arith, x, y) }

this_then : (packet : Sent) (s t u : Taking) → TookNothing s t → TookThis packet t u → TookThis packet s u
this_then packet s t u a b = record { line = b.line ∙ a.line; taken = b.taken ∙ ap (λ l. l ++ packet ∷ []) a.taken }

nothing_same : (t : Taking) → TookNothing t t
nothing_same t = record { line = refl; taken = refl; counted = omega arith }

missed_nothing : (t : Taking) → TookNothing t (with_missed t)
missed_nothing t = record { line = refl; taken = refl; counted = omega arith }

pub none_yet : (ts : List Taking) → NoneTook ts ts
none_yet ts = each_same (λ j. TookNothing) ts (λ j t e. nothing_same t)

abbrev MissesIn : ℕ → ℕ → ℕ → Taking → Taking → Type 0
MissesIn low high j t u = low ≤ j → j < high → MissedOnce t u

pub none_missed : (low : ℕ) (ts : List Taking) → HaveMissed low low ts ts
none_missed low ts = each_same (MissesIn low low) ts (λ j t e above below. absurd (omega (arith, above, below)))

abbrev NoneIn : ℕ → ℕ → ℕ → Taking → Taking → Type 0
NoneIn low high j s t = TookNothing s t × MissesIn low high j s t

none_in : (low high : ℕ) (old new : List Taking) → NoneTook old new → HaveMissed low high old new → EachBecomes (NoneIn low high) old new
none_in low high old new none missed = each_both (λ j. TookNothing) (MissesIn low high) (NoneIn low high) old new none missed (λ j s t p q. (p, q))

module _ (old now : List Taking) (k : ℕ) (t u : Taking) (none : NoneTook old now) (here : slice_get now k ≡ Some t) where
  -- the k-th found none
  pub none_set : u ≡ with_missed t → NoneTook old (set now k u)
  none_set is =
      each_set (λ j. TookNothing) (λ j. TookNothing) old now k t u none here
      (λ s same. nothing_then s t u same (subst (TookNothing t) (sym is) (missed_nothing t))) (λ j s v apart at same. same)

  pub missed_set : (low : ℕ) → HaveMissed low k old now → u ≡ with_missed t → HaveMissed low (k + 1) old (set now k u)
  missed_set low missed is = each_set (NoneIn low k) (MissesIn low (k + 1)) old now k t u (none_in low k old now none missed) here last others
    where
      last : (s : Taking) → NoneIn low k k s t → MissesIn low (k + 1) k s u
      last s (same, before) above below =
          let counted = same.counted in
          let more : u.missed ≡ min (t.missed + 1) (2 ^ 64 - 1) = ap (λ (x : Taking). x.missed) is in
          omega (arith, counted, more)

      others : (j : ℕ) (s v : Taking) → (j == k) ≡ false → slice_get now j ≡ Some v → NoneIn low k j s v → MissesIn low (k + 1) j s v
      others j s v apart at (same, before) above below = before above (grind (arith, nat_tests))

  -- those before the k-th found none
  pub before_set : (low : ℕ) (packet : Sent) → HaveMissed low k old now → TookThis packet t u → HaveMissed low k old (set now k u)
  before_set low packet missed took =
      each_set (MissesIn low k) (MissesIn low k) old now k t u missed here (λ s before above below. absurd (omega (arith, below))) (λ j s v apart at before. before)

  -- the k-th took a packet
  pub took_set : (packet : Sent) → TookThis packet t u → TookAt old (set now k u) k packet
  took_set packet took =
      let m = none.each k t here in
      record {
        end = m.0;
        there = m.1;
        each = each_set (λ j. TookNothing) (λ j. TookIf (j == k) packet) old now k t u none here (λ s same. mine s (k == k) (grind (arith, nat_tests)) same)
            (λ j s v apart at same. rw apart same);
      }
    where
      mine : (s : Taking) (b : Bool) → b ≡ true → TookNothing s t → TookIf b packet s u
      mine s true is same = this_then packet s t u same took
      mine s false is same = absurd (let no : false ≡ true = is in cc)

-- one row of calls after another
module _ (a b c : List Taking) (first : NoneTook a b) where
  pub took_then : (k : ℕ) (packet : Sent) → TookAt b c k packet → TookAt a c k packet
  took_then k packet took =
      let m = first.each k took.end took.there in
      record {
        end = m.0;
        there = m.1;
        each = each_then (λ j. TookNothing) (λ j. TookIf (j == k) packet) (λ j. TookIf (j == k) packet) a b c first took.each (λ j s t u. by s t u (j == k));
      }
    where
      by : (s t u : Taking) (d : Bool) → TookNothing s t → TookIf d packet t u → TookIf d packet s u
      by s t u true none then = this_then packet s t u none then
      by s t u false none then = nothing_then s t u none then

  pub took_joined : (o : Option (ℕ × Sent)) → IfSome o (λ found. TookAt b c found.0 found.1) → IfSome o (λ found. TookAt a c found.0 found.1)
  took_joined None took = tt
  took_joined (Some found) took = took_then found.0 found.1 took

-- the ends before the one that took a packet, in rotation
module _ (old new : List Taking) (next k : ℕ) where
  pub before_first : (n : ℕ) → HaveMissed next k old new → (next ≤ k) × (k < n) → HaveMissedBefore next k old new
  before_first n missed (above, below) = record { count = missed.count; each = λ j u e. let m = missed.each j u e in (m.0, m.1, by j m.0 u m.2) }
    where
      by : (j : ℕ) (t u : Taking) → MissesIn next k j t u → IsBefore next k j → MissedOnce t u
      by j t u m (inl (low, high)) = m low high
      by j t u m (inr (early, other)) = absurd (omega (arith, early, above))

-- they stand behind it where none was found there
pub before_second : (a b c : List Taking) (next k n : ℕ) → n ≡ length a → NoneTook a b → HaveMissed next n a b → (packet : Sent) → TookAt b c k packet → HaveMissed 0 k b c
    → (0 ≤ k) × (k < next) → HaveMissedBefore next k a c
before_second a b c next k n size first high packet took low (_, early) =
    each_within (λ j s u. IsBefore next k j → MissedOnce s u) a c
    (each_then (NoneIn next n) (λ j t u. TookIf (j == k) packet t u × MissesIn 0 k j t u) (λ j s u. j < length c → IsBefore next k j → MissedOnce s u) a b c (none_in next n a b first high)
    (each_both (λ j. TookIf (j == k) packet) (MissesIn 0 k) (λ j t u. TookIf (j == k) packet t u × MissesIn 0 k j t u) b c took.each low (λ j t u p q. (p, q))) by)
  where
    counted : (d : Bool) (s t u : Taking) → TookNothing s t → (j : ℕ) → j < k → (j == k) ≡ d → TookIf d packet t u → MissedOnce t u → MissedOnce s u
    counted d s t u none j below is took_it more = let x = none.counted in omega (arith, x, more)

    kept : (d : Bool) (s t u : Taking) (j : ℕ) → next ≤ j → (j == k) ≡ d → MissedOnce s t → TookIf d packet t u → MissedOnce s u
    kept true s t u j above is missed took_it = let same : j ≡ k = grind (arith, nat_tests) in absurd (omega (arith, same, above, early))
    kept false s t u j above is missed none = let x = none.counted in omega (arith, x, missed)

    by : (j : ℕ) (s t u : Taking) → NoneIn next n j s t → TookIf (j == k) packet t u × MissesIn 0 k j t u → j < length c → IsBefore next k j → MissedOnce s u
    by j s t u (none, front) (this, back) below (inl (above, under)) = counted (j == k) s t u none j under refl this (back (omega arith) under)
    by j s t u (none, front) (this, back) below (inr (e, inr under)) = counted (j == k) s t u none j under refl this (back (omega arith) under)
    by j s t u (none, front) (this, back) below (inr (e, inl above)) =
        let sizes = took.each.count in
        let more = first.count in
        kept (j == k) s t u j above refl (front above (omega (arith, below, sizes, more, size))) this

-- the same of what the second row answered
pub before_joined : (a b c : List Taking) (next n : ℕ) → n ≡ length a → NoneTook a b → HaveMissed next n a b → (o : Option (ℕ × Sent)) → IfSome o (λ found. TookAt b c found.0 found.1)
    → IfSome o (λ found. HaveMissed 0 found.0 b c) → IfSome o (λ found. (0 ≤ found.0) × (found.0 < next)) → IfSome o (λ found. HaveMissedBefore next found.0 a c)
before_joined a b c next n size first high None took low within = tt
before_joined a b c next n size first high (Some found) took low within = before_second a b c next found.0 n size first high found.1 took low within

-- what an index gives is what stood there
module _ (t d u : Taking) (e : t ≡ d) where
  pub took_from : (packet : Sent) → TookThis packet d u → TookThis packet t u
  took_from packet took = subst (λ (x : Taking). TookThis packet x u) (sym e) took

  pub missed_from : u ≡ with_missed d → u ≡ with_missed t
  missed_from is = is ∙ ap with_missed (sym e)

-- ---- sending

abbrev Offered : Place → Sent → ℕ → Sending → Sending → Type 0
Offered to packet j s u = OfferedIf (same_place s.line.to to) packet s u

pub none_offered : (to : Place) (packet : Sent) (ss : List Sending) → ((j : ℕ) (s : Sending) → slice_get ss j ≡ Some s → same_place s.line.to to ≡ false) → HaveOffered to packet ss ss
none_offered to packet ss away = each_same (Offered to packet) ss (λ j s e. rw (away j s e) refl)

abbrev IsSame : ℕ → Sending → Sending → Type 0
IsSame j s v = v ≡ s

pub offered_set : (to : Place) (packet : Sent) (ss : List Sending) (k : ℕ) (t u : Sending) → slice_get ss k ≡ Some t → same_place t.line.to to ≡ true → GoApart ss → WasOffered packet t u
    → HaveOffered to packet ss (set ss k u)
offered_set to packet ss k t u here meant apart offered =
    each_set IsSame (Offered to packet) ss ss k t u (each_same IsSame ss (λ j s e. refl)) here (λ s same. subst (λ (x : Sending). Offered to packet k x u) same (rw meant offered))
    (λ j s v other at same. subst (λ (x : Sending). Offered to packet j x v) same (rw (away j v other at (same_place v.line.to to) refl) refl))
  where
    away : (j : ℕ) (v : Sending) → (j == k) ≡ false → slice_get ss j ≡ Some v → (c : Bool) → same_place v.line.to to ≡ c → same_place v.line.to to ≡ false
    away j v other at true same =
        let one : j ≡ k = apart j k v t at here (same_place-eq v.line.to to same ∙ sym (same_place-eq t.line.to to meant)) in absurd (grind (arith, nat_tests))
    away j v other at false same = same

-- one more end is passed
pub passed : (to : Place) (ss : List Sending) (k : ℕ) (t : Sending) → slice_get ss k ≡ Some t → same_place t.line.to to ≡ false
    → ((j : ℕ) (u : Sending) → j < k → slice_get ss j ≡ Some u → same_place u.line.to to ≡ false)
    → (j : ℕ) (u : Sending) → j < k + 1 → slice_get ss j ≡ Some u → same_place u.line.to to ≡ false
passed to ss k t here away before j u below at = by (j == k) refl
  where
    by : (b : Bool) → (j == k) ≡ b → same_place u.line.to to ≡ false
    by true e =
        let same : j ≡ k = grind (arith, nat_tests) in
        let is : u ≡ t = same_Some u t (sym at ∙ ap (slice_get ss) same ∙ here) in ap (λ (s : Sending). same_place s.line.to to) is ∙ away
    by false e = let other : j < k = grind (arith, nat_tests, below) in before j u other at
