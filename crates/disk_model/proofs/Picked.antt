-- What a crash picks, place by place.
use Rattle.std.proofs.Common.{◌≡◌, ℕ, zero, suc, ◌+◌, ◌-◌, ◌<◌, ◌≤◌, Bool, false, if◌then◌else◌, List, [], ◌∷◌, length, get_or, refl, ◌∙◌, ap, inl, inr, arith}
use Rattle.std.proofs.lemmas.Bool.{cases_eq, cases_lt}
use Rattle.disk_model.specs.Disk.{put}
use Rattle.disk_model.proofs.Put.{put_before, put_within}
use Rattle.disk_model.specs.Memory.{picked, picked_byte}

pub length-picked : (pick : ℕ) (marks : List Bool) (stable present : List ℕ) → length marks ≡ length present → length stable ≡ length present → length (picked pick marks stable present) ≡ length present
length-picked pick [] [] [] marked kept = refl
length-picked pick (m ∷ marks) (s ∷ stable) (p ∷ present) marked kept = omega (arith, length-picked pick marks stable present (omega arith) (omega arith))
length-picked pick [] stable (p ∷ present) marked kept = absurd (omega arith)
length-picked pick (m ∷ marks) [] (p ∷ present) marked kept = absurd (omega arith)
length-picked pick (m ∷ marks) stable [] marked kept = absurd (omega arith)
length-picked pick [] (s ∷ stable) [] marked kept = absurd (omega arith)

pub picked_at : (pick : ℕ) (marks : List Bool) (stable present : List ℕ) → length marks ≡ length present → length stable ≡ length present → (k : ℕ) → get_or (picked pick marks stable present) k 0 ≡ (if get_or marks k false then picked_byte pick (get_or stable k 0) (get_or present k 0) else get_or present k 0)
picked_at pick [] [] [] marked kept k = refl
picked_at pick (m ∷ marks) (s ∷ stable) (p ∷ present) marked kept zero = refl
picked_at pick (m ∷ marks) (s ∷ stable) (p ∷ present) marked kept (suc k) = picked_at pick marks stable present (omega arith) (omega arith) k
picked_at pick [] stable (p ∷ present) marked kept k = absurd (omega arith)
picked_at pick (m ∷ marks) [] (p ∷ present) marked kept k = absurd (omega arith)
picked_at pick (m ∷ marks) stable [] marked kept k = absurd (omega arith)
picked_at pick [] (s ∷ stable) [] marked kept k = absurd (omega arith)

-- what is not marked stays
pub picked_clear : (pick : ℕ) (marks : List Bool) (stable present : List ℕ) → length marks ≡ length present → length stable ≡ length present → (k : ℕ) → get_or marks k false ≡ false → get_or (picked pick marks stable present) k 0 ≡ get_or present k 0
picked_clear pick marks stable present marked kept k clear = rw (picked_at pick marks stable present marked kept k, clear) refl

-- one more place is done
module _ (k : ℕ) (now goal : List ℕ) (done : (j : ℕ) → j < k → get_or now j 0 ≡ get_or goal j 0) where
  pub done_by_write : (v : ℕ) → k + 1 ≤ length now → v ≡ get_or goal k 0 → (j : ℕ) → j < k + 1 → get_or (put k (v ∷ []) now) j 0 ≡ get_or goal j 0
  done_by_write v fits value j h = elim (cases_lt j k) [
    | inl below ↦ put_before k (v ∷ []) now fits j 0 below ∙ done j below
    | inr here ↦ let none : j - k ≡ 0 = omega arith in
        put_within k (v ∷ []) now fits j 0 here h ∙ ap (λ i. get_or (v ∷ []) i 0) none ∙ value ∙ ap (λ i. get_or goal i 0) (omega arith)
  ]

  pub done_already : get_or now k 0 ≡ get_or goal k 0 → (j : ℕ) → j < k + 1 → get_or now j 0 ≡ get_or goal j 0
  done_already value j h = elim (cases_eq j k) [
    | inl here ↦ rw here value
    | inr other ↦ done j (omega arith)
  ]
