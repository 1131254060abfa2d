-- The tokens of a text, one step at a time.
use Rattle.std.proofs.Common.{◌≡◌, ℕ, zero, suc, ◌+◌, ◌-◌, ◌<◌, ◌≤◌, true, false, List, [], ◌∷◌, ◌++◌, length, map, get_or, drop, refl, ap, ◌∙◌, sym, drop-cons, add-one, append_assoc, append-nil, arith}
use Rattle.std.proofs.lemmas.List.{drop-drop}
use Rattle.sql_reader.specs.Lexing.{is_blank, token_at, starts_from, starts}

starts_from-drop : (n : ℕ) (z : List ℕ) → starts_from n z ≡ starts_from zero (drop n z)
starts_from-drop zero z = refl
starts_from-drop (suc n) [] = refl
starts_from-drop (suc n) (b ∷ z) = starts_from-drop n z

drop-behind_first : (n b : ℕ) (z : List ℕ) → 1 ≤ n → drop (n - 1) z ≡ drop n (b ∷ z)
drop-behind_first zero b z some = absurd (omega arith)
drop-behind_first (suc n) b z some = let e : suc n - 1 ≡ n = omega arith in ap (λ k. drop k z) e

pub starts-blank : (b : ℕ) (z : List ℕ) → is_blank b ≡ true → starts (b ∷ z) ≡ starts z
unfolding starts
starts-blank b z is = rw is refl

pub starts-token : (b : ℕ) (z : List ℕ) → is_blank b ≡ false → 1 ≤ (token_at (b ∷ z)).1 → starts (b ∷ z) ≡ (b ∷ z) ∷ starts (drop (token_at (b ∷ z)).1 (b ∷ z))
unfolding starts
starts-token b z is some = rw (is, starts_from-drop ((token_at (b ∷ z)).1 - 1) z, drop-behind_first (token_at (b ∷ z)).1 b z some) refl

starts_end : (z : List ℕ) (at : ℕ) → length z ≤ at → starts (drop at z) ≡ []
unfolding starts
starts_end [] zero past = refl
starts_end [] (suc at) past = refl
starts_end (b ∷ z) zero past = absurd (omega arith)
starts_end (b ∷ z) (suc at) past = starts_end z at (omega arith)

pub starts_blank : (z : List ℕ) (at : ℕ) → at < length z → is_blank (get_or z at 0) ≡ true → starts (drop (at + 1) z) ≡ starts (drop at z)
starts_blank z at inside is =
    let first : drop at z ≡ get_or z at 0 ∷ drop (at + 1) z = rw (add-one, drop-cons z at 0) in
    rw first (sym (starts-blank (get_or z at 0) (drop (at + 1) z) is))

starts_token : (z : List ℕ) (at bytes : ℕ) → at < length z → is_blank (get_or z at 0) ≡ false → (token_at (drop at z)).1 ≡ bytes → 1 ≤ bytes
    → starts (drop at z) ≡ drop at z ∷ starts (drop (at + bytes) z)
starts_token z at bytes inside is are some =
    let first : drop at z ≡ get_or z at 0 ∷ drop (at + 1) z = rw (add-one, drop-cons z at 0) in
    let step = starts-token (get_or z at 0) (drop (at + 1) z) is (rw (← first) (omega arith)) in
    let step' = rw (← first, are, drop-drop) at step in
    step'

-- what a list has of the starts before `at`, and what the rest gives
pub map_starts_token : {X : Type 0} (f : List ℕ → X) (z : List ℕ) (at bytes : ℕ) (found longer all : List X) (item : X)
    → at < length z → is_blank (get_or z at 0) ≡ false → (token_at (drop at z)).1 ≡ bytes → 1 ≤ bytes → item ≡ f (drop at z) → longer ≡ found ++ item ∷ []
    → found ++ map f (starts (drop at z)) ≡ all → longer ++ map f (starts (drop (at + bytes) z)) ≡ all
map_starts_token f z at bytes found longer all item inside is are some item-is longer-is so_far =
    rw (longer-is, item-is, append_assoc) (rw (starts_token z at bytes inside is are some) at so_far)

pub map_starts_end : {X : Type 0} (f : List ℕ → X) (z : List ℕ) (at : ℕ) (found all : List X) → length z ≤ at → found ++ map f (starts (drop at z)) ≡ all → found ≡ all
map_starts_end f z at found all past so_far = sym (append-nil found) ∙ rw (starts_end z at past) at so_far
