-- Values and blank ones behind them, place by place.
use Rattle.std.proofs.Common.{◌≡◌, ℕ, zero, suc, ◌+◌, ◌-◌, ◌<◌, ◌≤◌, List, ◌++◌, length, get_or, take, drop, replicate, refl, sym, ◌∙◌, ap, inl, inr, arith, length-append}
use Rattle.std.proofs.lemmas.List.{length-replicate, length-take, length-drop, get_or-take, get_or-drop, get_or_past, get_or_append_left, get_or-append_right, ext_get_or, drop-replicate, append_assoc, take_all}
use Rattle.std.proofs.lemmas.Bool.{cases_lt}
use Rattle.std.specs.Prelude.{min}
use Rattle.disk_model.specs.Disk.{put}
use Rattle.disk_model.specs.Padding.{padded}
use Rattle.disk_model.proofs.Put.{before, within, after, placed, length-put, put_before, put_within, put_after}

all_blank : {T : Type 0} (count k : ℕ) (b : T) → get_or (replicate count b) k b ≡ b
all_blank zero k b = refl
all_blank (suc count) zero b = refl
all_blank (suc count) (suc k) b = all_blank count k b

-- blank values at the end change none
pub blank_behind : {T : Type 0} (there : List T) (count k : ℕ) (b : T) → get_or (there ++ replicate count b) k b ≡ get_or there k b
blank_behind there count k b = elim (cases_lt k (length there)) [
  | inl h ↦ get_or_append_left there _ b k h
  | inr past ↦ get_or-append_right there _ (length there) k b refl past ∙ all_blank count _ b ∙ sym (get_or_past there k b past)
]

module _ {T : Type 0} (size : ℕ) (b : T) (there : List T) (fits : length there ≤ size) where
  pub length-padded : length (padded size b there) ≡ size
  length-padded = omega (arith, length-append there (replicate (size - length there) b), length-replicate (size - length there) b)

  pub padded_at : (k : ℕ) → get_or (padded size b there) k b ≡ get_or there k b
  padded_at k = blank_behind there (size - length there) k b

-- More of the values there
module _ {T : Type 0} (size : ℕ) (b : T) (there : List T) (fits : length there ≤ size) (end : ℕ) (inside : end ≤ size) where
  length-more : length (there ++ replicate (end - length there) b) ≡ length there + (end - length there)
  length-more = omega (arith, length-append there (replicate (end - length there) b), length-replicate (end - length there) b)

  pub more_fits : length (there ++ replicate (end - length there) b) ≤ size
  more_fits = omega (arith, length-more)

  pub more_reaches : end ≤ length (there ++ replicate (end - length there) b)
  more_reaches = omega (arith, length-more)

  pub reached : padded size b (there ++ replicate (end - length there) b) ≡ padded size b there
  reached =
      let more = there ++ replicate (end - length there) b in
      ext_get_or b _ _ (length-padded size b more more_fits ∙ sym (length-padded size b there fits)) (λ k h. padded_at size b more more_fits k ∙ blank_behind there (end - length there) k b ∙ sym (padded_at size b there fits k))

-- values written over some that are all there
pub put_there : {T : Type 0} (size : ℕ) (b : T) (there : List T) → length there ≤ size → (at : ℕ) (values : List T) → at + length values ≤ length there → padded size b (put at values there) ≡ put at values (padded size b there)
put_there size b there fits at values inside =
    let count = length-put at values there inside in
    let whole = length-padded size b there fits in
    let kept : length (put at values there) ≤ size = omega arith in
    let goes : at + length values ≤ length (padded size b there) = omega arith in
    ext_get_or b _ _ (length-padded size b (put at values there) kept ∙ sym (length-put at values (padded size b there) goes ∙ whole)) (λ k h. padded_at size b (put at values there) kept k ∙ elim (placed at (length values) k) [
      | before l ↦ put_before at values there inside k b l ∙ sym (put_before at values (padded size b there) goes k b l ∙ padded_at size b there fits k)
      | within g l ↦ put_within at values there inside k b g l ∙ sym (put_within at values (padded size b there) goes k b g l)
      | after g ↦ put_after at values there inside k b g ∙ sym (put_after at values (padded size b there) goes k b g ∙ padded_at size b there fits k)
    ])

-- values written over the last ones, or behind them
module _ {T : Type 0} (size : ℕ) (b : T) (there : List T) (fits : length there ≤ size) (at : ℕ) (values : List T) (past : length there < at + length values) (inside : at + length values ≤ size) where
  front : List T
  front = take at there ++ replicate (at - length there) b

  length-front : length front ≡ at
  unfolding front
  length-front = omega (arith, length-append (take at there) (replicate (at - length there) b), length-replicate (at - length there) b, length-take at there)

  front_at : (k : ℕ) → k < at → get_or front k b ≡ get_or there k b
  unfolding front
  front_at k l = blank_behind (take at there) (at - length there) k b ∙ get_or-take at there k b l

  pub put_behind : padded size b ((take at there ++ replicate (at - length there) b) ++ values) ≡ put at values (padded size b there)
  unfolding front
  put_behind =
      let new = front ++ values in
      let count : length new ≡ at + length values = omega (arith, length-append front values, length-front) in
      let kept : length new ≤ size = omega arith in
      let whole = length-padded size b there fits in
      let goes : at + length values ≤ length (padded size b there) = omega arith in
      ext_get_or b _ _ (length-padded size b new kept ∙ sym (length-put at values (padded size b there) goes ∙ whole)) (λ k h. padded_at size b new kept k ∙ elim (placed at (length values) k) [
        | before l ↦ get_or_append_left front values b k (omega (arith, length-front)) ∙ front_at k l ∙ sym (put_before at values (padded size b there) goes k b l ∙ padded_at size b there fits k)
        | within g l ↦ get_or-append_right front values at k b length-front g ∙ sym (put_within at values (padded size b there) goes k b g l)
        | after g ↦ get_or_past new k b (omega arith) ∙ sym (put_after at values (padded size b there) goes k b g ∙ padded_at size b there fits k ∙ get_or_past there k b (omega arith))
      ])

-- Values that are read

-- where some are not there
module _ {T : Type 0} (size : ℕ) (b : T) (there : List T) (fits : length there ≤ size) (at count : ℕ) (inside : at + count ≤ size) where
  some : List T
  some = take count (drop at there)

  rest : List T
  rest = drop (length there - at) (replicate count b)

  length-some : length some ≡ min count (length there - at)
  unfolding some
  length-some = omega (arith, length-take count (drop at there), length-drop at there)

  length-rest : length rest ≡ count - (length there - at)
  unfolding rest
  length-rest = omega (arith, length-drop (length there - at) (replicate count b), length-replicate count b)

  place : (k : ℕ) → k < count → get_or (some ++ rest) k b ≡ get_or there (at + k) b
  unfolding some rest
  place k h = elim (cases_lt k (length some)) [
    | inl l ↦ get_or_append_left some rest b k l ∙ get_or-take count (drop at there) k b h ∙ get_or-drop at there k b
    | inr past ↦ get_or-append_right some rest (length some) k b refl past ∙ get_or-drop (length there - at) (replicate count b) (k - length some) b ∙ all_blank count _ b ∙ sym (get_or_past there (at + k) b (omega (arith, length-some)))
  ]

  pub read_behind : take count (drop at there) ++ drop (length there - at) (replicate count b) ≡ take count (drop at (padded size b there))
  unfolding some rest
  read_behind =
      let whole = length-padded size b there fits in
      ext_get_or b _ _ (omega (arith, length-append some rest, length-some, length-rest, length-take count (drop at (padded size b there)), length-drop at (padded size b there)))
      (λ k h. let l : k < count = omega (arith, length-append some rest, length-some, length-rest) in place k l ∙ sym (get_or-take count (drop at (padded size b there)) k b l ∙ get_or-drop at (padded size b there) k b ∙ padded_at size b there fits (at + k)))

  -- behind others, where they go past what is there
  pub read_to_end : length there ≤ at + count → (front : List T) → (front ++ drop at there) ++ replicate (length front + count - length (front ++ drop at there)) b ≡ front ++ take count (drop at (padded size b there))
  unfolding some rest
  read_to_end past front =
      let all = take_all count (drop at there) (omega (arith, length-drop at there)) in
      let left : length front + count - length (front ++ some) ≡ count - (length there - at) = omega (arith, length-append front some, length-some) in
      rw (← all) (append_assoc front some _ ∙ ap (λ l. front ++ l) (rw (left, ← drop-replicate (length there - at) count b) read_behind))
