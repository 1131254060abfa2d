-- A list is read back, and what is read as a list stands there.
use Rattle.std.proofs.Common.{◌≡◌, ℕ, zero, suc, ◌+◌, Bool, All, IsTrue, Option, Some, None, List, [], ◌∷◌, ◌++◌, length, Ok, refl, ap, subst, append_assoc, arith}
use Rattle.std.specs.List.{flat_map}
use Rattle.std.specs.Int.{w16, to_be_bytes}
use Rattle.std.proofs.lemmas.List.{length-append}
use Rattle.std.proofs.lemmas.List.Concat.{flat_map-cons}
use Rattle.std.proofs.lemmas.List.Elements.{All-nil, All-cons, All-head, All-tail}
use Rattle.byte_fields.specs.Layout.{list_bytes, may_come, IsInOrder, FitsList}
use Rattle.byte_fields.specs.Reading.{Position, Reader, and_then, gives, number_at, items_at, list_at}
use Rattle.byte_fields.specs.Exactness.{AreBytes, Stands, ReadsExactly}
use Rattle.byte_fields.proofs.Chains.{step_ok, ok_is, Stands-then, AreBytes-after}
use Rattle.byte_fields.proofs.Numbers.{two_bytes_exact}

-- an item is read where it may follow the one before it, and nothing else is
abbrev pub FollowsExactly : {X : Type 0} → (Option X → Reader X) → (X → List ℕ) → (X → X → Bool) → (X → Type 0) → Type 0
FollowsExactly {X = X} item bytes follows Fits = (last : Option X) → ReadsExactly (item last) bytes (λ x. Fits x × IsTrue (may_come follows last x))

pub items_back : {X : Type 0} (follows : X → X → Bool) (item : Option X → Reader X) (bytes : X → List ℕ) (Fits : X → Type 0) → FollowsExactly item bytes follows Fits →
    (last : Option X) (xs : List X) (at : ℕ) (rest : List ℕ) → All Fits xs → IsInOrder follows last xs →
    items_at item last (length xs) (record { at = at; rest = flat_map bytes xs ++ rest }) ≡ Ok (xs, record { at = at + length (flat_map bytes xs); rest = rest })
unfolding items_at
items_back {X = X} follows item bytes Fits law last [] at rest fits order = ap (λ (n : ℕ). Ok ([], record { at = n; rest = rest })) (omega arith)
items_back {X = X} follows item bytes Fits law last (x ∷ xs) at rest fits order =
    let one = (law last).back x at (flat_map bytes xs ++ rest) (All-head Fits x xs fits, order.0) in
    let two = items_back follows item bytes Fits law (Some x) xs (at + length (bytes x)) rest (All-tail Fits x xs fits) order.1 in
    let place : at + length (bytes x) + length (flat_map bytes xs) ≡ at + length (bytes x ++ flat_map bytes xs) = omega (arith, length-append (bytes x) (flat_map bytes xs)) in
    rw (flat_map-cons bytes x xs, append_assoc (bytes x) (flat_map bytes xs) rest, one, two, place) refl

pub record FoundItems {X : Type 0} (follows : X → X → Bool) (bytes : X → List ℕ) (Fits : X → Type 0) (last : Option X) (n : ℕ) (xs : List X) (place after : Position) : Type 0 where
  pub count : length xs ≡ n
  pub each : All Fits xs
  pub order : IsInOrder follows last xs
  pub stands : Stands place (flat_map bytes xs) after

pub items_only : {X : Type 0} (follows : X → X → Bool) (item : Option X → Reader X) (bytes : X → List ℕ) (Fits : X → Type 0) → FollowsExactly item bytes follows Fits →
    (n : ℕ) (last : Option X) (xs : List X) (place after : Position) → AreBytes place.rest → items_at item last n place ≡ Ok (xs, after) →
    FoundItems follows bytes Fits last n xs place after
unfolding items_at
items_only {X = X} follows item bytes Fits law zero last xs place after all e =
    subst (λ (r : List X × Position). FoundItems follows bytes Fits last 0 r.0 place r.1) (ok_is ([], place) (xs, after) e)
    (record { count = refl; each = All-nil Fits; order = tt; stands = record { rest = refl; at = omega arith } })
items_only {X = X} follows item bytes Fits law (suc n) last xs place after all e =
    let a = step_ok (item last place) (λ x p. and_then (items_at item (Some x) n p) (λ others. gives (x ∷ others))) (xs, after) e in
    let b = step_ok (items_at item (Some a.0.0) n a.0.1) (λ others. gives (a.0.0 ∷ others)) (xs, after) a.2 in
    let first = (law last).only a.0.0 place a.0.1 all a.1 in
    let others = items_only follows item bytes Fits law n (Some a.0.0) b.0.0 a.0.1 b.0.1 (AreBytes-after (bytes a.0.0) place a.0.1 all first.1) b.1 in
    let both = Stands-then place a.0.1 b.0.1 (bytes a.0.0) (flat_map bytes b.0.0) first.1 others.stands in
    subst (λ (r : List X × Position). FoundItems follows bytes Fits last (suc n) r.0 place r.1) (ok_is (a.0.0 ∷ b.0.0, b.0.1) (xs, after) b.2)
    (record { count = ap suc others.count; each = All-cons Fits a.0.0 b.0.0 first.0.0 others.each; order = (first.0.1, others.order); stands = rw (flat_map-cons bytes a.0.0 b.0.0) both })

pub list_exact : {X : Type 0} (follows : X → X → Bool) (item : Option X → Reader X) (bytes : X → List ℕ) (Fits : X → Type 0) → FollowsExactly item bytes follows Fits →
    ReadsExactly (list_at item) (list_bytes bytes) (FitsList follows Fits)
unfolding list_at
list_exact {X = X} follows item bytes Fits law = record {
  back = λ xs at rest fits.
      let count = two_bytes_exact.back (length xs) at (flat_map bytes xs ++ rest) fits.count in
      let body = items_back follows item bytes Fits law None xs (at + length (to_be_bytes w16 (length xs))) rest fits.each fits.order in
      let place : at + length (to_be_bytes w16 (length xs)) + length (flat_map bytes xs) ≡ at + length (list_bytes bytes xs) = omega (arith, length-append (to_be_bytes w16 (length xs)) (flat_map bytes xs)) in
      rw (append_assoc (to_be_bytes w16 (length xs)) (flat_map bytes xs) rest, count, body, place) refl;
  only = λ xs place after all e.
      let a = step_ok (number_at w16 place) (items_at item None) (xs, after) e in
      let count = two_bytes_exact.only a.0.0 place a.0.1 all a.1 in
      let body = items_only follows item bytes Fits law a.0.0 None xs a.0.1 after (AreBytes-after (to_be_bytes w16 a.0.0) place a.0.1 all count.1) a.2 in
      let both = Stands-then place a.0.1 after (to_be_bytes w16 a.0.0) (flat_map bytes xs) count.1 body.stands in
      (record { count = omega (arith, count.0, body.count); each = body.each; order = body.order }, rw body.count both);
}
