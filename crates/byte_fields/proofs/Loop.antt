-- Reading items one after the other, as a loop does.
use Rattle.std.proofs.Common.{◌≡◌, ℕ, suc, ◌-◌, ◌+◌, ◌≤◌, ◌<◌, Option, Some, List, [], ◌∷◌, ◌++◌, length, Ok, Err, refl, sym, ap, ◌∙◌, append_assoc, arith}
use Rattle.std.specs.Prelude.{slice_get}
use Rattle.std.proofs.lemmas.List.{append-nil, length-append}
use Rattle.std.proofs.lemmas.Option.{slice_get-get_or}
use Rattle.std.proofs.Math.Seq.{get_or-append_seam}
use Rattle.byte_fields.specs.declared.errors.FieldError.{FieldError}
use Rattle.byte_fields.specs.Reading.{Position, Reader, Read, and_then, gives, items_at}
use Rattle.byte_fields.specs.Cursors.{Fails}

abbrev pub last : {X : Type 0} → List X → Option X
last xs = slice_get xs (length xs - 1)

pub last-push : {X : Type 0} (xs : List X) (x : X) → last (xs ++ x ∷ []) ≡ Some x
last-push xs x =
    let len : length (xs ++ x ∷ []) ≡ length xs + 1 = length-append xs (x ∷ []) in
    let at_end : length (xs ++ x ∷ []) - 1 ≡ length xs = omega arith in
    rw at_end (slice_get-get_or (xs ++ x ∷ []) (length xs) x (omega arith) ∙ ap (λ y. Some y) (get_or-append_seam xs x [] x))

-- what was read before, and what is still read
abbrev pub with_front : {X : Type 0} → List X → Read (List X) → Read (List X)
with_front front read = and_then read (λ xs. gives (front ++ xs))

regroup : {X : Type 0} (front : List X) (x : X) (read : Read (List X)) → with_front front (and_then read (λ xs. gives (x ∷ xs))) ≡ with_front (front ++ x ∷ []) read
regroup {X = X} front x (Ok r) = ap (λ (xs : List X). Ok (xs, r.1)) (simp append_assoc)
regroup front x (Err e) = refl

pub goes_on : {X : Type 0} (item : Option X → Reader X) (front : List X) (count i : ℕ) (p : Position) (x : X) (after : Position) (total : Read (List X)) → i < count → item (last front) p ≡ Ok (x, after)
    → with_front front (items_at item (last front) (count - i) p) ≡ total → with_front (front ++ x ∷ []) (items_at item (last (front ++ x ∷ [])) (count - (i + 1)) after) ≡ total
unfolding items_at
goes_on item front count i p x after total lt h so_far =
    let k : count - i ≡ suc (count - (i + 1)) = omega arith in
    let one : with_front front (items_at item (last front) (count - i) p) ≡ with_front (front ++ x ∷ []) (items_at item (Some x) (count - (i + 1)) after) = rw (k, h) (regroup front x (items_at item (Some x) (count - (i + 1)) after)) in
    rw (last-push front x) (sym one ∙ so_far)

pub ends : {X : Type 0} (item : Option X → Reader X) (e : FieldError) (front : List X) (count i : ℕ) (p : Position) (total : Read (List X)) → i < count → Fails e (item (last front) p)
    → with_front front (items_at item (last front) (count - i) p) ≡ total → Fails e total
unfolding items_at
ends item e front count i p total lt h so_far other =
    let k : count - i ≡ suc (count - (i + 1)) = omega arith in
    let one : with_front front (items_at item (last front) (count - i) p) ≡ Err e = rw (k, h other) refl in
    sym so_far ∙ one

pub is_done : {X : Type 0} (item : Option X → Reader X) (front : List X) (count i : ℕ) (p : Position) (total : Read (List X)) → count ≤ i → with_front front (items_at item (last front) (count - i) p) ≡ total → total ≡ Ok (front, p)
unfolding items_at
is_done {X = X} item front count i p total le so_far =
    let k : count - i ≡ 0 = omega arith in
    let one : with_front front (items_at item (last front) (count - i) p) ≡ Ok (front, p) = rw k (ap (λ (xs : List X). Ok (xs, p)) (append-nil front)) in
    sym so_far ∙ one
