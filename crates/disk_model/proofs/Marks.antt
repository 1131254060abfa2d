-- Marks of bytes: which are set, and where.
use Rattle.std.proofs.Common.{◌≡◌, ℕ, ◌+◌, ◌-◌, ◌<◌, ◌≤◌, Bool, true, false, List, length, get_or, replicate, refl, sym, ◌∙◌, ap, inl, inr, arith}
use Rattle.std.specs.Prelude.{min, max}
use Rattle.std.proofs.lemmas.List.{length-replicate, get_or-replicate, get_or_past, ext_get_or}
use Rattle.std.proofs.lemmas.Bool.{cases_lt, false≢true}
use Rattle.disk_model.specs.Bounds.{marks_with, IsBounded}
use Rattle.disk_model.specs.Disk.{put}
use Rattle.disk_model.specs.Memory.{MarksWithin}
use Rattle.disk_model.proofs.Put.{before, within, after, placed, length-put, put_before, put_within, put_after}

not_marked : (b : Bool) → (b ≡ true → ⊥) → b ≡ false
not_marked true not = absurd (not refl)
not_marked false not = refl

-- below the bounds and from their end on nothing is marked
module _ (low high : ℕ) (marks : List Bool) (bounds : MarksWithin low high marks) where
  pub clear_below : (k : ℕ) → k < low → get_or marks k false ≡ false
  clear_below k h = not_marked (get_or marks k false) (λ marked. omega (arith, bounds.from k marked))

  pub clear_above : (k : ℕ) → high ≤ k → get_or marks k false ≡ false
  clear_above k h = not_marked (get_or marks k false) (λ marked. omega (arith, bounds.to k marked))

-- nothing is marked
pub none_marked : (n k : ℕ) → get_or (replicate n false) k false ≡ false
none_marked n k = elim (cases_lt k n) [
  | inl h ↦ get_or-replicate n k false false h
  | inr h ↦ get_or_past (replicate n false) k false (omega (arith, length-replicate n false))
]

-- which is within any bounds
pub none_within : (low high : ℕ) (marks : List Bool) → marks ≡ replicate (length marks) false → MarksWithin low high marks
none_within low high marks clear = record { from = λ k marked. absurd (none k marked); to = λ k marked. absurd (none k marked) }
  where
    none : (k : ℕ) → get_or marks k false ≡ true → ⊥
    none k marked = false≢true (sym (none_marked (length marks) k) ∙ ap (λ (m : List Bool). get_or m k false) (sym clear) ∙ marked)

-- all marks from low to below high set to one value
abbrev pub set_range : Bool → ℕ → ℕ → List Bool → List Bool
set_range value low high marks = put low (replicate (high - low) value) marks

module _ (value : Bool) (low high : ℕ) (marks : List Bool) (order : low ≤ high) (end : high ≤ length marks) where
  fits : low + length (replicate (high - low) value) ≤ length marks
  fits = omega (arith, length-replicate (high - low) value)

  pub length-set_range : length (set_range value low high marks) ≡ length marks
  length-set_range = length-put low (replicate (high - low) value) marks fits

  pub set_below : (k : ℕ) → k < low → get_or (set_range value low high marks) k false ≡ get_or marks k false
  set_below k h = put_before low (replicate (high - low) value) marks fits k false h

  pub set_between : (k : ℕ) → low ≤ k → k < high → get_or (set_range value low high marks) k false ≡ value
  set_between k h l = put_within low (replicate (high - low) value) marks fits k false h (omega (arith, length-replicate (high - low) value)) ∙ get_or-replicate (high - low) (k - low) value false (omega arith)

  pub set_above : (k : ℕ) → high ≤ k → get_or (set_range value low high marks) k false ≡ get_or marks k false
  set_above k h = put_after low (replicate (high - low) value) marks fits k false (omega (arith, length-replicate (high - low) value))

-- all marks between their bounds cleared
module _ (low high : ℕ) (marks : List Bool) (order : low ≤ high) (end : high ≤ length marks) (bounds : MarksWithin low high marks) where
  none_left : (k : ℕ) → get_or (set_range false low high marks) k false ≡ false
  none_left k = elim (placed low (high - low) k) [
    | before l ↦ set_below false low high marks order end k l ∙ clear_below low high marks bounds k l
    | within g l ↦ set_between false low high marks order end k g (omega arith)
    | after g ↦ set_above false low high marks order end k (omega arith) ∙ clear_above low high marks bounds k (omega arith)
  ]

  pub all_cleared : set_range false low high marks ≡ replicate (length marks) false
  all_cleared = ext_get_or false _ _ (length-set_range false low high marks order end ∙ sym (length-replicate (length marks) false)) (λ k h. none_left k ∙ sym (none_marked (length marks) k))

-- all marks of a range set, within bounds that hold it
module _ (low high : ℕ) (marks : List Bool) (order : low ≤ high) (end : high ≤ length marks) (from to : ℕ) (lower : from ≤ low) (upper : high ≤ to) (bounds : MarksWithin from to marks) where
  both : (k : ℕ) → get_or (set_range true low high marks) k false ≡ true → (from ≤ k) × (k < to)
  both k marked = elim (placed low (high - low) k) [
    | before l ↦ let was : get_or marks k false ≡ true = sym (set_below true low high marks order end k l) ∙ marked in (bounds.from k was, bounds.to k was)
    | within g l ↦ (omega arith, omega arith)
    | after g ↦ let was : get_or marks k false ≡ true = sym (set_above true low high marks order end k (omega arith)) ∙ marked in (bounds.from k was, bounds.to k was)
  ]

  pub set_within : MarksWithin from to (set_range true low high marks)
  set_within = record { from = λ k marked. (both k marked).0; to = λ k marked. (both k marked).1 }

-- marks lie within wider bounds too
pub wider : (low high from to : ℕ) (marks : List Bool) → from ≤ low → high ≤ to → MarksWithin low high marks → MarksWithin from to marks
wider low high from to marks lower upper bounds = record {
  from = λ k marked. omega (arith, bounds.from k marked);
  to = λ k marked. omega (arith, bounds.to k marked);
}

-- two ranges that touch, set one after another, are one
module _ (marks : List Bool) (low high low' high' from to : ℕ) (order : low ≤ high) (end : high ≤ length marks) (order' : low' ≤ high') (end' : high' ≤ length marks) (touch : low ≤ high') (touch' : low' ≤ high) (from_is : from ≡ min low low') (to_is : to ≡ max high high') where
  wide : from ≤ to
  wide = omega arith

  wide_end : to ≤ length marks
  wide_end = omega arith

  abbrev first : List Bool
  first = set_range true low high marks

  first_end : high' ≤ length first
  first_end = omega (arith, length-set_range true low high marks order end)

  set_twice : (k : ℕ) → from ≤ k → k < to → get_or (set_range true low' high' first) k false ≡ true
  set_twice k g l = elim (placed low' (high' - low') k) [
    | before b ↦ set_below true low' high' first order' first_end k b ∙ set_between true low high marks order end k (omega arith) (omega arith)
    | within b e ↦ set_between true low' high' first order' first_end k b (omega arith)
    | after e ↦ set_above true low' high' first order' first_end k (omega arith) ∙ set_between true low high marks order end k (omega arith) (omega arith)
  ]

  same : (k : ℕ) → get_or (set_range true from to marks) k false ≡ get_or (set_range true low' high' first) k false
  same k = elim (placed from (to - from) k) [
    | before b ↦ set_below true from to marks wide wide_end k b ∙ sym (set_below true low' high' first order' first_end k (omega arith) ∙ set_below true low high marks order end k (omega arith))
    | within b e ↦ set_between true from to marks wide wide_end k b (omega arith) ∙ sym (set_twice k b (omega arith))
    | after e ↦ set_above true from to marks wide wide_end k (omega arith) ∙ sym (set_above true low' high' first order' first_end k (omega arith) ∙ set_above true low high marks order end k (omega arith))
  ]

  pub set_joined : set_range true from to marks ≡ set_range true low' high' (set_range true low high marks)
  set_joined = ext_get_or false _ _ (length-set_range true from to marks wide wide_end ∙ sym (length-set_range true low' high' first order' first_end ∙ length-set_range true low high marks order end)) (λ k h. same k)

-- how many marks there are, and that they lie within their bounds
module _ (whole : Bool) (low high : ℕ) (marks : List Bool) (bounded : IsBounded whole low high marks) where
  pub length-marks_with : length (marks_with whole low high marks) ≡ length marks
  length-marks_with = by_cases whole
    where
      by_cases : (b : Bool) → length (marks_with b low high marks) ≡ length marks
      by_cases true = length-set_range true low high marks bounded.order bounded.end
      by_cases false = refl

  pub marks_within : (from to : ℕ) → from ≤ low → high ≤ to → MarksWithin from to (marks_with whole low high marks)
  marks_within from to lower upper = by_cases whole refl
    where
      by_cases : (b : Bool) → whole ≡ b → MarksWithin from to (marks_with b low high marks)
      by_cases true is = set_within low high marks bounded.order bounded.end from to lower upper (none_within from to marks (bounded.clear is))
      by_cases false is = wider low high from to marks lower upper (bounded.within is)

  -- where the bounds are empty no mark is set
  pub none_bounded : low ≡ high → marks ≡ replicate (length marks) false
  none_bounded empty = by_cases whole refl
    where
      by_cases : (b : Bool) → whole ≡ b → marks ≡ replicate (length marks) false
      by_cases true is = bounded.clear is
      by_cases false is = ext_get_or false _ _ (sym (length-replicate (length marks) false)) (λ k h. not_marked (get_or marks k false) (λ marked. omega (arith, (bounded.within is).from k marked, (bounded.within is).to k marked)) ∙ sym (none_marked (length marks) k))

  -- one more range, where marks say what is pending
  pub bounded_by_marks : (low' high' from to : ℕ) → low' ≤ high' → high' ≤ length marks → from ≡ min low low' → to ≡ max high high' → IsBounded false from to (set_range true low' high' (marks_with whole low high marks))
  bounded_by_marks low' high' from to order end from_is to_is = record {
    order = omega (arith, bounded.order);
    end = omega (arith, bounded.end, length-marks_with, length-set_range true low' high' (marks_with whole low high marks) order (omega (arith, length-marks_with)));
    clear = λ never. absurd (false≢true never);
    within = λ is. set_within low' high' (marks_with whole low high marks) order (omega (arith, length-marks_with)) from to (omega arith) (omega arith) (marks_within from to (omega arith) (omega arith));
  }
