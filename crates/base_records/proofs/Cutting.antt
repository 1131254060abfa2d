-- The records of a text: how they come one after the other, and what they tell of it.
use Rattle.std.proofs.Common.{◌≡◌, ◌≤◌, ℕ, zero, suc, List, [], ◌∷◌, ◌++◌, length, take, drop, refl, sym, ap, ◌∙◌, arith}
use Rattle.std.proofs.lemmas.List.{take-append-drop}
use Rattle.base_records.specs.Pieces.{cut, records_of, joined, IsWhole, RecordsJoin, TextsDiffer, WholeFrontsEnd}

-- ---- one piece

dropped : (n x : ℕ) (xs : List ℕ) (most : ℕ) → 1 ≤ n → length (x ∷ xs) ≤ suc most → length (drop n (x ∷ xs)) ≤ most
dropped zero x xs most some few = absurd (omega arith)
dropped (suc n) x xs most some few = short n xs most (omega (arith, few))
  where
    short : (k : ℕ) (ys : List ℕ) (m : ℕ) → length ys ≤ m → length (drop k ys) ≤ m
    short zero ys m h = h
    short (suc k) [] m h = h
    short (suc k) (y ∷ ys) m h = short k ys m (omega (arith, h))

not_empty : (n x : ℕ) (xs : List ℕ) → 1 ≤ n → take n (x ∷ xs) ≡ [] → ⊥
not_empty zero x xs some e = absurd (omega arith)
not_empty (suc n) x xs some e = absurd cc

-- the bound on the pieces doesn't matter
same_cut : (n m k : ℕ) (text : List ℕ) → 1 ≤ n → length text ≤ m → length text ≤ k → cut n m text ≡ cut n k text
same_cut n zero zero [] some few less = refl
same_cut n zero (suc k) [] some few less = refl
same_cut n (suc m) zero [] some few less = refl
same_cut n (suc m) (suc k) [] some few less = refl
same_cut n zero k (c ∷ cs) some few less = absurd (omega (arith, few))
same_cut n (suc m) zero (c ∷ cs) some few less = absurd (omega (arith, less))
same_cut n (suc m) (suc k) (c ∷ cs) some few less =
    ap (λ z. take n (c ∷ cs) ∷ z) (same_cut n m k (drop n (c ∷ cs)) some (dropped n c cs m some few) (dropped n c cs k some less))

-- ---- the first record, and the others

pub last_record : (n : ℕ) → records_of n [] ≡ [] ∷ []
unfolding records_of
last_record n = refl

pub first_record : (n c : ℕ) (cs : List ℕ) → 1 ≤ n → records_of n (c ∷ cs) ≡ take n (c ∷ cs) ∷ records_of n (drop n (c ∷ cs))
unfolding records_of
first_record n c cs some =
    ap (λ z. take n (c ∷ cs) ∷ z) (same_cut n (length cs) (length (drop n (c ∷ cs))) (drop n (c ∷ cs)) some (dropped n c cs (length cs) some (omega arith)) (omega arith))

-- ---- the laws

joins : (n most : ℕ) (text : List ℕ) → 1 ≤ n → length text ≤ most → joined (cut n most text) ≡ text
joins n zero [] some few = refl
joins n zero (c ∷ cs) some few = absurd (omega (arith, few))
joins n (suc most) [] some few = refl
joins n (suc most) (c ∷ cs) some few =
    ap (λ z. take n (c ∷ cs) ++ z) (joins n most (drop n (c ∷ cs)) some (dropped n c cs most some few)) ∙ take-append-drop n (c ∷ cs)

pub records_join : RecordsJoin
unfolding records_of
records_join n text some = joins n (length text) text some (omega arith)

both_of : (a b : List ℕ) (xs ys : List (List ℕ)) → a ∷ xs ≡ b ∷ ys → (a ≡ b) × (xs ≡ ys)
both_of a b xs ys e = (cc, cc)

-- the first records that end with the empty one are all
all_cut : (n most : ℕ) (text : List ℕ) (front missing : List (List ℕ)) → 1 ≤ n → length text ≤ most → (front ++ [] ∷ []) ++ missing ≡ cut n most text → front ++ [] ∷ [] ≡ cut n most text
all_cut n zero [] [] missing some few same = refl
all_cut n (suc most) [] [] missing some few same = refl
all_cut n zero [] (f ∷ []) missing some few same = absurd cc
all_cut n zero [] (f ∷ g ∷ fs) missing some few same = absurd cc
all_cut n (suc most) [] (f ∷ []) missing some few same = absurd cc
all_cut n (suc most) [] (f ∷ g ∷ fs) missing some few same = absurd cc
all_cut n zero (c ∷ cs) front missing some few same = absurd (omega (arith, few))
all_cut n (suc most) (c ∷ cs) [] missing some few same =
    absurd (not_empty n c cs some (sym (both_of [] (take n (c ∷ cs)) missing (cut n most (drop n (c ∷ cs))) same).0))
all_cut n (suc most) (c ∷ cs) (f ∷ fs) missing some few same =
    let both = both_of f (take n (c ∷ cs)) ((fs ++ [] ∷ []) ++ missing) (cut n most (drop n (c ∷ cs))) same in
    let rest = all_cut n most (drop n (c ∷ cs)) fs missing some (dropped n c cs most some few) both.1 in
    ap (λ z. z ∷ fs ++ [] ∷ []) both.0 ∙ ap (λ z. take n (c ∷ cs) ∷ z) rest

pub whole_fronts_end : WholeFrontsEnd
unfolding records_of
whole_fronts_end n records text some front whole =
    whole.ends ∙ all_cut n (length text) text whole.front front.missing some (omega arith) (ap (λ z. z ++ front.missing) (sym whole.ends) ∙ front.whole)

-- all records of a text end with the empty one
ends_cut : (n most : ℕ) (text : List ℕ) → 1 ≤ n → length text ≤ most → IsWhole (cut n most text)
ends_cut n zero text some few = record { front = []; ends = refl }
ends_cut n (suc most) [] some few = record { front = []; ends = refl }
ends_cut n (suc most) (c ∷ cs) some few =
    let rest = ends_cut n most (drop n (c ∷ cs)) some (dropped n c cs most some few) in
    record { front = take n (c ∷ cs) ∷ rest.front; ends = ap (λ z. take n (c ∷ cs) ∷ z) rest.ends }

pub records_end : (n : ℕ) (text : List ℕ) → 1 ≤ n → IsWhole (records_of n text)
unfolding records_of
records_end n text some = ends_cut n (length text) text some (omega arith)

pub texts_differ : TextsDiffer
texts_differ n text other some front =
    sym (records_join n text some) ∙ ap joined (whole_fronts_end n (records_of n text) other some front (records_end n text some)) ∙ records_join n other some
