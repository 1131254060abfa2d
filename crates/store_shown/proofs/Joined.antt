-- Records that keep a text: whether the last one is an empty one, and all one after the other.
use Rattle.std.proofs.Common.{◌≡◌, ◌∙◌, ◌+◌, ◌-◌, ℕ, zero, suc, true, false, true≢false, Some, None, slice_get, List, [], ◌∷◌, ◌++◌, length, drop, length-append, append_assoc, refl, sym, ap, arith}
use Rattle.std.proofs.lemmas.Option.{same_Some}
use Rattle.base_records.specs.Pieces.{IsWhole, joined}
use Rattle.store_shown.specs.Texts.{is_end, is_whole}

-- ---- the last record

pub whole_is : (records : List (List ℕ)) → is_whole records ≡ true → IsWhole records
whole_is [] whole = absurd (true≢false (sym whole))
whole_is ([] ∷ []) whole = record { front = []; ends = refl }
whole_is ((c ∷ cs) ∷ []) whole = absurd (true≢false (sym whole))
whole_is (r ∷ next ∷ rest) whole =
    let fewer : length (r ∷ next ∷ rest) - 1 ≡ suc (length (next ∷ rest) - 1) = omega arith in
    let w = whole_is (next ∷ rest) (ap is_end (sym (ap (slice_get (r ∷ next ∷ rest)) fewer)) ∙ whole) in
    record { front = r ∷ w.front; ends = ap (λ (rs : List (List ℕ)). r ∷ rs) w.ends }

last_get : (front : List (List ℕ)) (r : List ℕ) (n : ℕ) → n ≡ length front → slice_get (front ++ r ∷ []) n ≡ Some r
last_get [] r zero at = refl
last_get [] r (suc n) at = absurd (omega (arith, at))
last_get (f ∷ front) r zero at = absurd (omega (arith, at))
last_get (f ∷ front) r (suc n) at = last_get front r n (omega (arith, at))

is_whole_one : (front : List (List ℕ)) → is_whole (front ++ [] ∷ []) ≡ true
is_whole_one front = let size = length-append front ([] ∷ []) in ap is_end (last_get front [] (length (front ++ [] ∷ []) - 1) (omega (arith, size)))

pub not_whole : (records : List (List ℕ)) → is_whole records ≡ false → IsWhole records → ⊥
not_whole records other w = true≢false (sym (is_whole_one w.front) ∙ ap is_whole (sym w.ends) ∙ other)

-- ---- one after the other

-- the records before the next one were put down, and it is put behind them
pub joined_next : (records : List (List ℕ)) (i : ℕ) (r front text : List ℕ) → slice_get records i ≡ Some r → joined records ≡ front ++ joined (drop i records) → text ≡ front ++ r → joined records ≡ text ++ joined (drop (i + 1) records)
joined_next records i r front text at is put =
    is ∙ ap (λ (z : List ℕ). front ++ z) (next records i r at) ∙ sym (append_assoc front r (joined (drop (i + 1) records))) ∙ ap (λ (z : List ℕ). z ++ joined (drop (i + 1) records)) (sym put)
  where
    next : (rs : List (List ℕ)) (k : ℕ) (x : List ℕ) → slice_get rs k ≡ Some x → joined (drop k rs) ≡ x ++ joined (drop (k + 1) rs)
    next [] k x e = absurd (let no : None ≡ Some x = e in cc)
    next (y ∷ ys) zero x e = ap (λ (z : List ℕ). z ++ joined ys) (same_Some y x e)
    next (y ∷ ys) (suc k) x e = next ys k x e ∙ ap (λ n. x ++ joined (drop n (y ∷ ys))) (let same : suc (k + 1) ≡ suc k + 1 = omega arith in same)
