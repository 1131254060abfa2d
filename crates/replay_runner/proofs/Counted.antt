-- Members of lists that are counted from 1.
use Rattle.std.proofs.Common.{◌≡◌, ◌≢◌, ◌+◌, ◌-◌, ◌≤◌, ℕ, zero, suc, List, length, set, slice_get, Some, None, refl, ap, sym, ◌∙◌, arith}
use Rattle.std.proofs.lemmas.Option.{slice_get_within}
use Rattle.history_rules.specs.Nodes.{counted_at}
use Rattle.replay_runner.proofs.Lists.{member_at, slice_get-set_other, slice_get-set_same}

pub counted_low : {A : Type 0} (xs : List A) (n : ℕ) (x : A) → counted_at xs n ≡ Some x → 1 ≤ n
counted_low xs zero x e = absurd (let no : None ≡ Some x = e in cc)
counted_low xs (suc n) x e = omega arith

pub counted_is : {A : Type 0} (xs : List A) (n : ℕ) → 1 ≤ n → counted_at xs n ≡ slice_get xs (n - 1)
counted_is xs zero low = absurd (omega (arith, low))
counted_is xs (suc n) low = ap (slice_get xs) (let same : n ≡ suc n - 1 = omega arith in same)

pub counted_next : {A : Type 0} (xs : List A) (k : ℕ) → counted_at xs (k + 1) ≡ slice_get xs k
counted_next xs k = counted_is xs (k + 1) (omega arith) ∙ ap (slice_get xs) (let same : k + 1 - 1 ≡ k = omega arith in same)

-- no more than there are members
pub counted_high : {A : Type 0} (xs : List A) (n : ℕ) (x : A) → counted_at xs n ≡ Some x → n ≤ length xs
counted_high xs n x e =
    let low = counted_low xs n x e in
    let below = slice_get_within xs (n - 1) x (sym (counted_is xs n low) ∙ e) in
    omega (arith, low, below)

-- there is one for each number
pub counted_there : {A : Type 0} (xs : List A) (n : ℕ) → 1 ≤ n → n ≤ length xs → (x : A) × (counted_at xs n ≡ Some x)
counted_there xs n low high = let (x, at) = member_at xs (n - 1) (omega (arith, low, high)) in (x, counted_is xs n low ∙ at)

-- ---- one changed

pub counted_set : {A : Type 0} (xs : List A) (n : ℕ) (x y : A) → counted_at xs n ≡ Some y → counted_at (set xs (n - 1) x) n ≡ Some x
counted_set xs n x y e =
    let low = counted_low xs n y e in
    counted_is (set xs (n - 1) x) n low ∙ slice_get-set_same xs (n - 1) x y (sym (counted_is xs n low) ∙ e)

pub counted_elsewhere : {A : Type 0} (xs : List A) (n k : ℕ) (x : A) → 1 ≤ n → k ≢ n → counted_at (set xs (n - 1) x) k ≡ counted_at xs k
counted_elsewhere xs n zero x low apart = refl
counted_elsewhere xs n (suc k) x low apart = slice_get-set_other xs (n - 1) k x (λ e. apart (omega (arith, e, low)))
