-- The records of a text, one after the other.
use Rattle.std.proofs.Common.{◌≡◌, ◌<◌, ◌≤◌, ◌+◌, ◌-◌, ℕ, zero, suc, min, nat_eq, nat_le, Bool, true, false, not, true≢false, Some, None, slice_get, List, [], ◌∷◌, ◌++◌, length, take, drop, refl, sym, ap, subst, ◌∙◌, arith, append_assoc}
use Rattle.std.specs.Cmp.Lexicographic.{pointwise, same_text, other_text}
use Rattle.std.proofs.Math.ListN.{drop_of_length-le}
use Rattle.std.proofs.Math.Seq.{take-nil, take_all}
use Rattle.std.proofs.lemmas.Bool.Decides.{nat_tests}
use Rattle.std.proofs.lemmas.List.{append_cancel_left, drop-drop, length-drop}
use Rattle.std.proofs.lemmas.Option.{same_Some}
use Rattle.seata_types.specs.declared.limits.TheConstants.{BODY_BYTES}
use Rattle.base_records.specs.Pieces.{records_of}
use Rattle.base_records.proofs.Cutting.{first_record, last_record}
use Rattle.base_disk.specs.declared.marks.Mark.{Mark}
use Rattle.base_disk.specs.Marks.{left_of, mark_at}

-- ---- the next record

same_rest : (text : List ℕ) (at n step : ℕ) → step ≡ min (length text - at) n → drop (at + n) text ≡ drop (at + step) text
same_rest text at n step is = by (nat_le n (length text - at)) refl
  where
    by : (b : Bool) → nat_le n (length text - at) ≡ b → drop (at + n) text ≡ drop (at + step) text
    by true e = ap (λ k. drop (at + k) text) (let same : n ≡ step = grind (arith, nat_tests) in same)
    by false e =
        drop_of_length-le text {i = at + n} (grind (arith, nat_tests)) ∙ sym (drop_of_length-le text {i = at + step} (grind (arith, nat_tests)))

pub next_left : (text : List ℕ) (at step : ℕ) (ended : Bool) → step ≡ min (length text - at) BODY_BYTES → (ended ≡ true → length text ≤ at) → (ended ≡ false → at < length text)
    → left_of text (mark_at at false) ≡ take BODY_BYTES (drop at text) ∷ left_of text (mark_at (at + step) ended)
next_left text at step true is last more =
    let none : drop at text ≡ [] = drop_of_length-le text (last refl) in
    ap (records_of BODY_BYTES) none ∙ last_record BODY_BYTES ∙ ap (λ (p : List ℕ). p ∷ []) (sym (ap (take BODY_BYTES) none ∙ take-nil BODY_BYTES))
next_left text at step false is last more = by (drop at text) refl
  where
    by : (left : List ℕ) → drop at text ≡ left → records_of BODY_BYTES (drop at text) ≡ take BODY_BYTES (drop at text) ∷ records_of BODY_BYTES (drop (at + step) text)
    by [] e = absurd (let size = length-drop at text in let none = ap length e in let below = more refl in omega (arith, size, none, below))
    by (c ∷ cs) e =
        let rest : drop BODY_BYTES (c ∷ cs) ≡ drop (at + step) text = ap (drop BODY_BYTES) (sym e) ∙ drop-drop BODY_BYTES at text ∙ same_rest text at BODY_BYTES step is in
        let piece : take BODY_BYTES (c ∷ cs) ≡ take BODY_BYTES (drop at text) = ap (take BODY_BYTES) (sym e) in
        ap (records_of BODY_BYTES) e ∙ first_record BODY_BYTES c cs (omega arith) ∙ (λ i. piece i ∷ records_of BODY_BYTES (rest i))

-- ---- marks

all_passed : (text : List ℕ) (m : Mark) → m.ended ≡ true → left_of text m ≡ []
all_passed text m ended = rw ended refl

not_passed : (text : List ℕ) (m : Mark) → m.ended ≡ false → left_of text m ≡ left_of text (mark_at m.at false)
not_passed text m goes = rw goes refl

-- the mark behind the record that begins at one
abbrev pub mark_behind : List ℕ → Mark → Mark
mark_behind text m = mark_at (m.at + min (length text - m.at) BODY_BYTES) (nat_eq (length text - m.at) 0)

pub left_behind : (text : List ℕ) (m : Mark) → m.at ≤ length text → left_of text (mark_at m.at false) ≡ take BODY_BYTES (drop m.at text) ∷ left_of text (mark_behind text m)
left_behind text m within =
    next_left text m.at (min (length text - m.at) BODY_BYTES) (nat_eq (length text - m.at) 0) refl (λ e. grind (arith, nat_tests)) (λ e. grind (arith, nat_tests, within))

-- what is left at a mark is the record that begins there, and what is left behind it
pub left_at : (text : List ℕ) (m next : Mark) (piece : List ℕ) → m.ended ≡ false → piece ≡ take BODY_BYTES (drop m.at text)
    → left_of text (mark_at m.at false) ≡ take BODY_BYTES (drop m.at text) ∷ left_of text next → left_of text m ≡ piece ∷ left_of text next
left_at text m next piece goes is left = not_passed text m goes ∙ left ∙ ap (λ (p : List ℕ). p ∷ left_of text next) (sym is)

-- a record is at most so long
small_front : (n : ℕ) (xs : List ℕ) → length (take n xs) ≤ n
small_front zero xs = omega arith
small_front (suc n) [] = omega arith
small_front (suc n) (x ∷ xs) = let h = small_front n xs in omega (arith, h)

pub small_piece : (text piece : List ℕ) (at : ℕ) → piece ≡ take BODY_BYTES (drop at text) → length piece ≤ BODY_BYTES
small_piece text piece at is = subst (λ (p : List ℕ). length p ≤ BODY_BYTES) (sym is) (small_front BODY_BYTES (drop at text))

-- ---- records that are compared

-- what a test for a difference has told
not_true : (b : Bool) → not b ≡ false → true ≡ b
not_true true same = refl
not_true false same = absurd (true≢false same)

pub not_false : (b : Bool) → not b ≡ true → false ≡ b
not_false true apart = absurd (true≢false (sym apart))
not_false false apart = refl

pub same_bytes : (a b : List ℕ) (differ : Bool) → differ ≡ not (pointwise nat_eq a b) → differ ≡ false → a ≡ b
same_bytes a b differ is same = same_text a b (not_true (pointwise nat_eq a b) (sym is ∙ same))

pub other_bytes : (a b : List ℕ) (differ : Bool) → differ ≡ not (pointwise nat_eq a b) → differ ≡ true → a ≡ b → ⊥
other_bytes a b differ is apart = other_text a b (not_false (pointwise nat_eq a b) (sym is ∙ apart))

pub take_next : {A : Type 0} (xs : List A) (i : ℕ) (x : A) → slice_get xs i ≡ Some x → take (i + 1) xs ≡ take i xs ++ x ∷ []
take_next [] i x e = absurd (let no : None ≡ Some x = e in cc)
take_next (y ∷ ys) zero x e = ap (λ (z : _). z ∷ []) (same_Some y x e)
take_next (y ∷ ys) (suc i) x e =
    ap (λ k. take k (y ∷ ys)) (let one : suc i + 1 ≡ suc (i + 1) = omega arith in one) ∙ ap (λ (l : List _). y ∷ l) (take_next ys i x e)

pub split_at : {A : Type 0} (xs : List A) (i : ℕ) (x : A) → slice_get xs i ≡ Some x → xs ≡ take i xs ++ x ∷ drop (i + 1) xs
split_at [] i x e = absurd (let no : None ≡ Some x = e in cc)
split_at (y ∷ ys) zero x e = ap (λ (z : _). z ∷ ys) (same_Some y x e)
split_at (y ∷ ys) (suc i) x e =
    ap (λ (l : List _). y ∷ l) (split_at ys i x e)
    ∙ ap (λ k. y ∷ (take i ys ++ x ∷ drop k (y ∷ ys))) (let one : suc (i + 1) ≡ suc i + 1 = omega arith in one)

-- a record more is the same
pub one_more : (all done left more : List (List ℕ)) (r piece : List ℕ) → all ≡ done ++ left → left ≡ piece ∷ more → r ≡ piece → all ≡ (done ++ r ∷ []) ++ more
one_more all done left more r piece is next same =
    is ∙ ap (λ l. done ++ l) (next ∙ ap (λ (p : List ℕ). p ∷ more) (sym same)) ∙ sym (append_assoc done (r ∷ []) more)

-- behind records that are the first ones of a text comes what is left of it
pub front_left : (done rest missing left : List (List ℕ)) (r : List ℕ) → (done ++ r ∷ rest) ++ missing ≡ done ++ left → left ≡ r ∷ (rest ++ missing)
front_left done rest missing left r same = sym (append_cancel_left done (r ∷ (rest ++ missing)) left (sym (append_assoc done (r ∷ rest) missing) ∙ same))

-- what is left at a mark, where a record and others are left behind the first ones
module _ (text : List ℕ) (m : Mark) (r : List ℕ) (rest : List (List ℕ)) (next : left_of text m ≡ r ∷ rest) where
  -- the last one wasn't passed
  pub none_left : m.ended ≡ true → ⊥
  none_left ended = let no : [] ≡ r ∷ rest = sym (all_passed text m ended) ∙ next in cc

  -- that record begins there
  pub next_is : m.at ≤ length text → m.ended ≡ false → r ≡ take BODY_BYTES (drop m.at text)
  next_is within goes = heads (sym next ∙ not_passed text m goes ∙ left_behind text m within)
    where
      heads : {p : List ℕ} {ps : List (List ℕ)} → r ∷ rest ≡ p ∷ ps → r ≡ p
      heads e = cc

-- ---- one record

pub first_bytes : (xs : List ℕ) (k n step : ℕ) → k ≡ length xs → step ≡ min k n → take step (take k xs) ≡ take n xs
first_bytes xs k n step whole is = ap (take step) (take_all k xs (omega (arith, whole))) ∙ by (nat_le n k) refl
  where
    by : (b : Bool) → nat_le n k ≡ b → take step xs ≡ take n xs
    by true e = ap (λ j. take j xs) (let same : step ≡ n = grind (arith, nat_tests) in same)
    by false e = take_all step xs (grind (arith, nat_tests)) ∙ sym (take_all n xs (grind (arith, nat_tests)))
