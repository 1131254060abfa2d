-- Bytes or marks written over others, place by place.
use Rattle.std.proofs.Common.{◌++◌, refl, take, drop, ◌≡◌, ℕ, ◌+◌, ◌-◌, ◌<◌, ◌≤◌, List, length, get_or, sym, ◌∙◌, ap, inl, inr, arith, rules, length-append, length-take, length-drop}
use Rattle.std.proofs.lemmas.Bool.{cases_lt}
use Rattle.std.proofs.lemmas.Grind.{same_number_lists}
use Rattle.std.proofs.lemmas.List.{places, append_assoc, take_at, drop_at, get_or-take, get_or-drop}
use Rattle.disk_model.specs.Disk.{put, SameOutside}

module _ {A : Type 0} (at : ℕ) (new old : List A) (fits : at + length new ≤ length old) where
  pub length-put : length (put at new old) ≡ length old
  length-put = simp (length-append, length-take, length-drop) (omega arith)

  pub put_before : (k : ℕ) (d : A) → k < at → get_or (put at new old) k d ≡ get_or old k d
  put_before k d h = search (rules, places)

  pub put_within : (k : ℕ) (d : A) → at ≤ k → k < at + length new → get_or (put at new old) k d ≡ get_or new (k - at) d
  put_within k d h l = search (rules, places)

  pub put_after : (k : ℕ) (d : A) → at + length new ≤ k → get_or (put at new old) k d ≡ get_or old k d
  put_after k d h = search (rules, places)

-- a place is before a range, in it or after it
pub data Placed (at n k : ℕ) : Type 0 where
  before : k < at → Placed at n k
  within : at ≤ k → k < at + n → Placed at n k
  after : at + n ≤ k → Placed at n k

pub placed : (at n k : ℕ) → Placed at n k
placed at n k = elim (cases_lt k at) [
  | inl h ↦ before h
  | inr h ↦ elim (cases_lt k (at + n)) [ inl l ↦ within h l | inr l ↦ after l ]
]

-- two lists that agree at each place outside a range
pub outside : (at n : ℕ) (old new : List ℕ) → length new ≡ length old → ((k : ℕ) → k < at → get_or new k 0 ≡ get_or old k 0) → ((k : ℕ) → at + n ≤ k → get_or new k 0 ≡ get_or old k 0) → SameOutside at n old new
outside at n old new size below above = record {
  size = size;
  before = same_number_lists _ _ (simp length-take (omega arith)) (λ k h. let l : k < at = omega (arith, length-take at new) in get_or-take at new k 0 l ∙ below k l ∙ sym (get_or-take at old k 0 l));
  after = same_number_lists _ _ (simp length-drop (omega arith)) (λ k h. get_or-drop (at + n) new k 0 ∙ above (at + n + k) (omega arith) ∙ sym (get_or-drop (at + n) old k 0));
}

module _ {at n : ℕ} {old new : List ℕ} (same : SameOutside at n old new) where
  pub same_before : (k : ℕ) → k < at → get_or new k 0 ≡ get_or old k 0
  same_before k h = sym (get_or-take at new k 0 h) ∙ ap (λ l. get_or l k 0) same.before ∙ get_or-take at old k 0 h

  pub same_after : (k : ℕ) → at + n ≤ k → get_or new k 0 ≡ get_or old k 0
  same_after k h =
      let here : at + n + (k - (at + n)) ≡ k = omega arith in
      ap (λ i. get_or new i 0) (sym here) ∙ sym (get_or-drop (at + n) new (k - (at + n)) 0) ∙ ap (λ l. get_or l (k - (at + n)) 0) same.after ∙ get_or-drop (at + n) old (k - (at + n)) 0 ∙ ap (λ i. get_or old i 0) here

module _ (at : ℕ) (new old : List ℕ) (fits : at + length new ≤ length old) where
  pub put_outside : SameOutside at (length new) old (put at new old)
  put_outside = outside at (length new) old (put at new old) (length-put at new old fits) (λ k h. put_before at new old fits k 0 h) (λ k h. put_after at new old fits k 0 h)

  pub put_there : take (length new) (drop at (put at new old)) ≡ new
  put_there =
      let size : length (take at old) ≡ at = simp length-take (omega arith) in
      ap (λ (l : List ℕ). take (length new) l) (ap (drop at) (append_assoc (take at old) new (drop (at + length new) old)) ∙ drop_at (take at old) (new ++ drop (at + length new) old) at size) ∙ take_at new (drop (at + length new) old) (length new) refl
