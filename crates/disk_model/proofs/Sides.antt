-- Stable bytes that are saved apart from the present ones.
use Rattle.std.proofs.Common.{◌≡◌, ℕ, ◌+◌, ◌-◌, ◌<◌, ◌≤◌, List, [], ◌++◌, length, get_or, take, drop, refl, sym, ◌∙◌, ap, inl, inr, arith, length-append, length-take, length-drop}
use Rattle.std.proofs.lemmas.Bool.{cases_lt}
use Rattle.std.proofs.lemmas.Grind.{same_number_lists}
use Rattle.std.proofs.lemmas.List.{get_or-take, get_or-drop, get_or_append_left, get_or-append_right}
use Rattle.disk_model.specs.Disk.{put}
use Rattle.disk_model.proofs.Put.{before, within, after, placed, length-put, put_before, put_within, put_after}

-- Where nothing is saved, a range is.
module _ (low high : ℕ) (present : List ℕ) (order : low ≤ high) (end : high ≤ length present) where
  range : List ℕ
  range = take (high - low) (drop low present)

  length-range : length range ≡ high - low
  unfolding range
  length-range = omega (arith, length-take (high - low) (drop low present), length-drop low present)

  range_fits : low + length range ≤ length present
  range_fits = omega (arith, length-range)

  range_stays : (k : ℕ) → get_or (put low range present) k 0 ≡ get_or present k 0
  unfolding range
  range_stays k = elim (placed low (length range) k) [
    | before l ↦ put_before low range present range_fits k 0 l
    | within g l ↦ put_within low range present range_fits k 0 g l ∙ get_or-take (high - low) (drop low present) (k - low) 0 (omega (arith, length-range)) ∙ get_or-drop low present (k - low) 0 ∙ ap (λ i. get_or present i 0) (omega arith)
    | after g ↦ put_after low range present range_fits k 0 g
  ]

  pub saved_first : (from : ℕ) → from + 0 ≤ length present → put low (take (high - low) (drop low present)) present ≡ put from [] present
  unfolding range
  saved_first from inside = same_number_lists _ _ (length-put low range present range_fits ∙ sym (length-put from [] present inside)) (λ k h. range_stays k ∙ sym (elim (cases_lt k from) [
    | inl below ↦ put_before from [] present inside k 0 below
    | inr past ↦ put_after from [] present inside k 0 (omega arith)
  ]))

module _ (from : ℕ) (saved present : List ℕ) (inside : from + length saved ≤ length present) where
  -- The bytes in front of what is saved are saved too.
  module _ (low : ℕ) (order : low ≤ from) where
    front : List ℕ
    front = take (from - low) (drop low present)

    length-front : length front ≡ from - low
    unfolding front
    length-front = omega (arith, length-take (from - low) (drop low present), length-drop low present)

    length-more : length (front ++ saved) ≡ (from - low) + length saved
    length-more = omega (arith, length-append front saved, length-front)

    more_fits : low + length (front ++ saved) ≤ length present
    more_fits = omega (arith, length-more)

    front_at : (k : ℕ) → low ≤ k → k < from → get_or front (k - low) 0 ≡ get_or present k 0
    unfolding front
    front_at k g l = get_or-take (from - low) (drop low present) (k - low) 0 (omega arith) ∙ get_or-drop low present (k - low) 0 ∙ ap (λ i. get_or present i 0) (omega arith)

    pub saved_before : put low (take (from - low) (drop low present) ++ saved) present ≡ put from saved present
    unfolding front
    saved_before = same_number_lists _ _ (length-put low (front ++ saved) present more_fits ∙ sym (length-put from saved present inside)) (λ k h. elim (placed low (length (front ++ saved)) k) [
      | before l ↦ put_before low (front ++ saved) present more_fits k 0 l ∙ sym (put_before from saved present inside k 0 (omega arith))
      | within g l ↦ put_within low (front ++ saved) present more_fits k 0 g l ∙ elim (cases_lt k from) [
        | inl below ↦ get_or_append_left front saved 0 (k - low) (omega (arith, length-front)) ∙ front_at k g below ∙ sym (put_before from saved present inside k 0 below)
        | inr past ↦ get_or-append_right front saved (from - low) (k - low) 0 length-front (omega arith) ∙ ap (λ i. get_or saved i 0) (omega arith) ∙ sym (put_within from saved present inside k 0 past (omega (arith, length-more)))
      ]
      | after g ↦ put_after low (front ++ saved) present more_fits k 0 g ∙ sym (put_after from saved present inside k 0 (omega (arith, length-more)))
    ])

  -- Bytes behind what is saved are saved too.
  module _ (high : ℕ) (end : high ≤ length present) (order : from + length saved ≤ high) where
    back : List ℕ
    back = take (high - (from + length saved)) (drop (from + length saved) present)

    length-back : length back ≡ high - (from + length saved)
    unfolding back
    length-back = omega (arith, length-take (high - (from + length saved)) (drop (from + length saved) present), length-drop (from + length saved) present)

    length-longer : from + length (saved ++ back) ≡ high
    length-longer = omega (arith, length-append saved back, length-back)

    longer_fits : from + length (saved ++ back) ≤ length present
    longer_fits = omega (arith, length-longer)

    back_at : (k : ℕ) → from + length saved ≤ k → k < high → get_or back (k - (from + length saved)) 0 ≡ get_or present k 0
    unfolding back
    back_at k g l = get_or-take (high - (from + length saved)) (drop (from + length saved) present) (k - (from + length saved)) 0 (omega arith) ∙ get_or-drop (from + length saved) present (k - (from + length saved)) 0 ∙ ap (λ i. get_or present i 0) (omega arith)

    pub saved_behind : put from (saved ++ take (high - (from + length saved)) (drop (from + length saved) present)) present ≡ put from saved present
    unfolding back
    saved_behind = same_number_lists _ _ (length-put from (saved ++ back) present longer_fits ∙ sym (length-put from saved present inside)) (λ k h. elim (placed from (length (saved ++ back)) k) [
      | before l ↦ put_before from (saved ++ back) present longer_fits k 0 l ∙ sym (put_before from saved present inside k 0 l)
      | within g l ↦ put_within from (saved ++ back) present longer_fits k 0 g l ∙ elim (cases_lt k (from + length saved)) [
        | inl below ↦ get_or_append_left saved back 0 (k - from) (omega arith) ∙ sym (put_within from saved present inside k 0 g below)
        | inr past ↦ get_or-append_right saved back (length saved) (k - from) 0 refl (omega arith) ∙ ap (λ i. get_or back i 0) (omega arith) ∙ back_at k past (omega (arith, length-longer)) ∙ sym (put_after from saved present inside k 0 past)
      ]
      | after g ↦ put_after from (saved ++ back) present longer_fits k 0 g ∙ sym (put_after from saved present inside k 0 (omega (arith, length-longer)))
    ])

  -- What is written over saved bytes leaves the stable ones as they are.
  pub saved_stays : (at : ℕ) (bytes : List ℕ) → from ≤ at → at + length bytes ≤ from + length saved → put from saved (put at bytes present) ≡ put from saved present
  saved_stays at bytes begins ends =
      let fits : at + length bytes ≤ length present = omega arith in
      let size = length-put at bytes present fits in
      let within_new : from + length saved ≤ length (put at bytes present) = omega arith in
      same_number_lists _ _ (length-put from saved (put at bytes present) within_new ∙ size ∙ sym (length-put from saved present inside)) (λ k h. elim (placed from (length saved) k) [
        | before l ↦ put_before from saved (put at bytes present) within_new k 0 l ∙ put_before at bytes present fits k 0 (omega arith) ∙ sym (put_before from saved present inside k 0 l)
        | within g l ↦ put_within from saved (put at bytes present) within_new k 0 g l ∙ sym (put_within from saved present inside k 0 g l)
        | after g ↦ put_after from saved (put at bytes present) within_new k 0 g ∙ put_after at bytes present fits k 0 (omega arith) ∙ sym (put_after from saved present inside k 0 g)
      ])
