-- Changes at the first place that passes.
use Rattle.std.proofs.Common.{◌≡◌, ◌<◌, ◌+◌, ℕ, zero, suc, Bool, true, false, cond, not, List, [], ◌∷◌, ◌++◌, length, take, drop, Option, Some, None, refl, sym, ap, ◌∙◌, arith}
use Rattle.std.specs.Prelude.{find, nat_lt, option_map, Result, Ok, Err, OnOk}
use Rattle.seata_types.specs.declared.ids.Xid.{Xid}
use Rattle.std.proofs.Math.ListN.{set, get_or}
use Rattle.std.specs.List.{position, position_or_len}
use Rattle.std.proofs.lemmas.List.Quantifiers.{position-Some}
use Rattle.std.proofs.lemmas.Bool.Decides.{nat_tests}
use Rattle.session_log.specs.declared.sessions.Branch.{Branch}
use Rattle.session_log.specs.declared.sessions.Session.{Session}
use Rattle.session_log.specs.declared.sessions.SessionEntry.{SessionEntry}
use Rattle.session_log.specs.declared.sessions.Forgotten.{Forgotten}
use Rattle.session_memory.specs.Lookups.{has_xid, session_of, has_number, is_later}
use Rattle.session_memory.specs.Changes.{with_ended, changed, without, with_forgotten, forgotten_as}
use Rattle.session_memory.specs.Order.{Each}
use Rattle.session_memory.proofs.Small.{none_some}

-- the first place at which p passes
abbrev pub IsFirst : {X : Type 0} → (X → Bool) → List X → ℕ → Type 0
IsFirst p [] i = ⊥
IsFirst p (x ∷ xs) zero = p x ≡ true
IsFirst p (x ∷ xs) (suc i) = (p x ≡ false) × IsFirst p xs i

first_is : {X : Type 0} (p : X → Bool) (xs : List X) (i : ℕ) (d : X) → i < length xs → p (get_or xs i d) ≡ true → ((k : ℕ) → k < i → p (get_or xs k d) ≡ false) → IsFirst p xs i
first_is p [] i d lt at before = absurd (omega (arith, lt))
first_is p (x ∷ xs) zero d lt at before = at
first_is p (x ∷ xs) (suc i) d lt at before = (before 0 (omega arith), first_is p xs i d (omega (arith, lt)) at (λ k le. before (suc k) (omega (arith, le))))

-- nothing is at no place
some_place : {X : Type 0} (p : X → Bool) (xs : List X) (i : ℕ) → position p xs ≡ Some i → (d : X) → IsFirst p xs i
some_place p xs i e d = let k = position-Some p xs i d e in first_is p xs i d k.0 k.1 k.2

pub first_place : {X : Type 0} (p : X → Bool) (xs : List X) (i : ℕ) → position p xs ≡ Some i → IsFirst p xs i
first_place p [] i e = none_some e
first_place p (x ∷ xs) i e = some_place p (x ∷ xs) i e x

first_fits : (n : ℕ) → cond {A = Option ℕ} (nat_lt 0 (suc n)) (Some 0) None ≡ Some 0
first_fits n = let lt : nat_lt 0 (suc n) ≡ true = grind (arith, nat_tests) in rw lt refl

no_place_by : {X : Type 0} (p : X → Bool) (x : X) (xs : List X) (b : Bool) → p x ≡ b →
    cond (nat_lt (cond (not b) (1 + position_or_len p xs) 0) (length (x ∷ xs))) (Some (cond (not b) (1 + position_or_len p xs) 0)) None ≡ None →
    (position p xs ≡ None → Each (λ y. p y ≡ false) xs) → Each (λ y. p y ≡ false) (x ∷ xs)
no_place_by p x xs true is e below = none_some (sym e ∙ first_fits (length xs))
no_place_by p x xs false is e below = (is, below (fewer (position_or_len p xs) (length xs) e))
  where
    fewer_by : (m n : ℕ) (b : Bool) → nat_lt m n ≡ b → cond (nat_lt (1 + m) (suc n)) (Some (1 + m)) None ≡ None → cond b (Some m) None ≡ None
    fewer_by m n true lt e = absurd (let more : nat_lt (1 + m) (suc n) ≡ true = grind (arith, nat_tests) in cc)
    fewer_by m n false lt e = refl

    fewer : (m n : ℕ) → cond (nat_lt (1 + m) (suc n)) (Some (1 + m)) None ≡ None → cond (nat_lt m n) (Some m) None ≡ None
    fewer m n e = fewer_by m n (nat_lt m n) refl e

pub no_place : {X : Type 0} (p : X → Bool) (xs : List X) → position p xs ≡ None → Each (λ x. p x ≡ false) xs
no_place p [] e = tt
no_place p (x ∷ xs) e = no_place_by p x xs (p x) refl e (no_place p xs)

-- ---- branches

module _ (b : ℕ) where
  pub ended_first : (cs : List Branch) (i : ℕ) (d : Branch) → IsFirst (has_number b) cs i → set cs i (record (get_or cs i d) { ended = true }) ≡ with_ended b cs
  ended_first [] i d f = absurd f
  ended_first (c ∷ cs) zero d f = rw f refl
  ended_first (c ∷ cs) (suc i) d f = rw f.0 (ap (λ (r : List Branch). c ∷ r) (ended_first cs i d f.1))

  pub ended_none : (cs : List Branch) → Each (λ c. has_number b c ≡ false) cs → with_ended b cs ≡ cs
  ended_none [] n = refl
  ended_none (c ∷ cs) n = rw n.0 (ap (λ (r : List Branch). c ∷ r) (ended_none cs n.1))

-- ---- transactions

module _ (x : ℕ) where
  pub changed_first : (f : Session → Session) (es : List SessionEntry) (i : ℕ) (d : SessionEntry) → IsFirst (has_xid x) es i → set es i (record (get_or es i d) { session = f (get_or es i d).session }) ≡ changed x f es
  changed_first f [] i d p = absurd p
  changed_first f (e ∷ es) zero d p = rw p refl
  changed_first f (e ∷ es) (suc i) d p = rw p.0 (ap (λ (r : List SessionEntry). e ∷ r) (changed_first f es i d p.1))

  pub changed_none : (f : Session → Session) (es : List SessionEntry) → Each (λ e. has_xid x e ≡ false) es → changed x f es ≡ es
  changed_none f [] n = refl
  changed_none f (e ∷ es) n = rw n.0 (ap (λ (r : List SessionEntry). e ∷ r) (changed_none f es n.1))

  pub without_first : (es : List SessionEntry) (i : ℕ) → IsFirst (has_xid x) es i → take i es ++ drop (suc i) es ≡ without x es
  without_first [] i p = absurd p
  without_first (e ∷ es) zero p = rw p refl
  without_first (e ∷ es) (suc i) p = rw p.0 (ap (λ (r : List SessionEntry). e ∷ r) (without_first es i p.1))

  pub without_none : (es : List SessionEntry) → Each (λ e. has_xid x e ≡ false) es → without x es ≡ es
  without_none [] n = refl
  without_none (e ∷ es) n = rw n.0 (ap (λ (r : List SessionEntry). e ∷ r) (without_none es n.1))

  pub found_first : (es : List SessionEntry) (i : ℕ) (d : SessionEntry) → IsFirst (has_xid x) es i → find (has_xid x) es ≡ Some (get_or es i d)
  found_first [] i d p = absurd p
  found_first (e ∷ es) zero d p = rw p refl
  found_first (e ∷ es) (suc i) d p = rw p.0 (found_first es i d p.1)

  pub found_none : (es : List SessionEntry) → Each (λ e. has_xid x e ≡ false) es → find (has_xid x) es ≡ None
  found_none [] n = refl
  found_none (e ∷ es) n = rw n.0 (found_none es n.1)

-- ---- forgotten transactions

module _ (f : Forgotten) where
  pub put_first : (gs : List Forgotten) (i : ℕ) → IsFirst (is_later f.xid.0) gs i → take i gs ++ f ∷ drop i gs ≡ with_forgotten f gs
  put_first [] i p = absurd p
  put_first (g ∷ gs) zero p = rw p refl
  put_first (g ∷ gs) (suc i) p = rw p.0 (ap (λ (r : List Forgotten). g ∷ r) (put_first gs i p.1))

  pub put_last : (gs : List Forgotten) → Each (λ g. is_later f.xid.0 g ≡ false) gs → gs ++ f ∷ [] ≡ with_forgotten f gs
  put_last [] n = refl
  put_last (g ∷ gs) n = rw n.0 (ap (λ (r : List Forgotten). g ∷ r) (put_last gs n.1))

-- ---- the code's own words

abbrev put_session : List SessionEntry → ℕ → SessionEntry → Session → List SessionEntry
put_session es i d t = set es i (record { xid = (get_or es i d).xid; session = t })

pub changed_to : (x : ℕ) (f : Session → Session) (es : List SessionEntry) (i : ℕ) (d : SessionEntry) (t : Session) → IsFirst (has_xid x) es i → t ≡ f (get_or es i d).session → put_session es i d t ≡ changed x f es
changed_to x f es i d t p e = ap (put_session es i d) e ∙ changed_first x f es i d p

pub changed_ok : {E : Type 0} (r : Result (Unit {0}) E) (x : ℕ) (f : Session → Session) (es : List SessionEntry) (i : ℕ) (d : SessionEntry) (t : Session) → IsFirst (has_xid x) es i →
    OnOk r (t ≡ f (get_or es i d).session) → OnOk r (put_session es i d t ≡ changed x f es)
changed_ok (Ok u) x f es i d t p e = changed_to x f es i d t p e
changed_ok (Err w) x f es i d t p e = tt

pub forgotten_first : (x : Xid) (es : List SessionEntry) (i : ℕ) (d : SessionEntry) (gs hs : List Forgotten) → IsFirst (has_xid x.0) es i → d ≡ get_or es i d →
    hs ≡ with_forgotten (record { xid = x; manager = d.session.manager }) gs → hs ≡ forgotten_as x (option_map session_of (find (has_xid x.0) es)) gs
forgotten_first x es i d gs hs p is e =
    e ∙ sym (ap (λ (o : Option SessionEntry). forgotten_as x (option_map session_of o) gs) (found_first x.0 es i d p)
    ∙ ap (λ (g : SessionEntry). with_forgotten (record { xid = x; manager = g.session.manager }) gs) (sym is))

pub forgotten_none : (x : Xid) (es : List SessionEntry) (gs : List Forgotten) → Each (λ e. has_xid x.0 e ≡ false) es → gs ≡ forgotten_as x (option_map session_of (find (has_xid x.0) es)) gs
forgotten_none x es gs n = sym (ap (λ (o : Option SessionEntry). forgotten_as x (option_map session_of o) gs) (found_none x.0 es n))
