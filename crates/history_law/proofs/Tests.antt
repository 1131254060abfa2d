-- Small facts of tests and lists.
use Rattle.std.proofs.Common.{◌≡◌, ◌⊎◌, inl, inr, ◌&&◌, ◌||◌, not, Bool, true, false, cond, List, [], ◌∷◌, find, filter, Option, Some, None, is_some, refl, ap, sym, ◌∙◌}
use Rattle.std.specs.List.{list_any}
use Rattle.history_law.specs.Points.{In}
pub use Rattle.durable_records.proofs.Tests.{false_true, true_false, none_some, and_left, and_right, and_both, not_true, false_not, same_nat, nat_same, nat_differs, moved, is_none_none, not_some, some_not_none}
pub use Rattle.durable_records.proofs.MemberFacts.{find_none, none_found, found_in, in_filter, of_filter, found_member, member_found}

pub or_right : (a : Bool) {b : Bool} → b ≡ true → (a || b) ≡ true
or_right true e = refl
or_right false e = e

pub or_either : (a b : Bool) → (a || b) ≡ true → (a ≡ true) ⊎ (b ≡ true)
or_either true b e = inl refl
or_either false b e = inr e

pub or_false : (a b : Bool) → (a || b) ≡ false → (a ≡ false) × (b ≡ false)
or_false true b e = true_false e
or_false false b e = (refl, e)

pub not_false : (a : Bool) → not a ≡ false → a ≡ true
not_false true e = refl
not_false false e = sym e

pub record Found {A : Type 0} (o : Option A) : Type 0 where
  pub it : A
  pub is : o ≡ Some it

pub some_found : {A : Type 0} (o : Option A) → is_some o ≡ true → Found o
some_found None e = false_true e
some_found (Some a) e = record { it = a; is = refl }

-- ---- whether a filtered list has one that passes

module _ {A : Type 0} (kept test : A → Bool) where
  some_of_by : (x : A) (xs : List A) → is_some (find test (filter kept xs)) ≡ list_any (λ a. kept a && test a) xs → (b c : Bool) → test x ≡ c
      → is_some (find test (cond b (x ∷ filter kept xs) (filter kept xs))) ≡ ((b && c) || list_any (λ a. kept a && test a) xs)
  some_of_by x xs below true true t = rw t refl
  some_of_by x xs below true false t = rw t below
  some_of_by x xs below false c t = below

  pub some_of : (xs : List A) → is_some (find test (filter kept xs)) ≡ list_any (λ a. kept a && test a) xs
  some_of [] = refl
  some_of (x ∷ xs) = some_of_by x xs (some_of xs) (kept x) (test x) refl

-- two tests that agree on each member
pub any_same : {A : Type 0} (p q : A → Bool) (xs : List A) → ((a : A) → In a xs → p a ≡ q a) → list_any p xs ≡ list_any q xs
any_same p q [] same = refl
any_same p q (x ∷ xs) same = ap (λ b. b || list_any p xs) (same x (inl refl)) ∙ ap (λ b. q x || b) (any_same p q xs (λ a i. same a (inr i)))

-- no member passes
pub any_none : {A : Type 0} (p : A → Bool) (xs : List A) → ((a : A) → In a xs → p a ≡ false) → list_any p xs ≡ false
any_none p [] fails = refl
any_none p (x ∷ xs) fails = ap (λ b. b || list_any p xs) (fails x (inl refl)) ∙ any_none p xs (λ a i. fails a (inr i))
