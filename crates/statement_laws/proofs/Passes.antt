-- What holds of each item of a list, as far as a loop has come.
use Rattle.std.proofs.Common.{◌≡◌, ◌<◌, ℕ, List, slice_get, Some}

-- it holds of the items before the k-th
abbrev pub AllBefore : {A : Type 0} → (A → Type 0) → List A → ℕ → Type 0
AllBefore {A} P xs k = (i : ℕ) (x : A) → i < k → slice_get xs i ≡ Some x → P x
