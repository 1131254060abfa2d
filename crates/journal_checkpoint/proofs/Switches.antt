-- What stands at a disk's switch.
use Rattle.std.proofs.Common.{◌≡◌, ◌≢◌, ℕ, ◌+◌, ◌<◌, ◌≤◌, Bool, true, false, List, [], ◌∷◌, length, get_or, take, drop, refl, sym, ◌∙◌, ap, inl, inr, arith}
use Rattle.std.specs.Prelude.{◌&&◌, nat_lt, nat_le}
use Rattle.std.specs.Int.{w32, from_be_bytes}
use Rattle.std.proofs.lemmas.List.{drop_more, drop-drop, drop-take, take-take, get_or-take}
use Rattle.std.proofs.lemmas.Bool.{cases_eq}
use Rattle.std.proofs.lemmas.Bool.Decides.{nat_tests}
use Rattle.disk_journal.specs.Reading.{number_in}
use Rattle.disk_journal.proofs.Rows.{number_is}
use Rattle.journal_checkpoint.specs.declared.types.Head.{Head}
use Rattle.journal_checkpoint.specs.declared.types.Head.TheVariants as head
use Rattle.journal_checkpoint.specs.Pairs.{open_head, head_in, head_of}

pub opened_in : (size : ℕ) (rest : List ℕ) → head_in size (1 ∷ rest) ≡ open_head size (number_in rest) (number_in (drop 4 rest))
unfolding head_in
opened_in size rest = refl

pub shut_in : (size b : ℕ) (rest : List ℕ) → b ≢ 1 → head_in size (b ∷ rest) ≡ head.Shut
unfolding head_in
shut_in size b rest shut = grind (arith, nat_tests)

none_in : (size : ℕ) → head_in size [] ≡ head.Shut
unfolding head_in
none_in size = refl

pub no_head : (c : List ℕ) → length c ≡ 0 → head_of c ≡ head.Shut
no_head [] none = none_in 0
no_head (b ∷ c) none = absurd (omega arith)

-- a head that is open is not shut
open_not_shut : (size g n : ℕ) → open_head size g n ≡ head.Shut → ⊥
open_not_shut size g n is = by (nat_lt 0 g && nat_le (n + 10) size) refl
  where
    by : (b : Bool) → (nat_lt 0 g && nat_le (n + 10) size) ≡ b → ⊥
    by true e = grind (arith, nat_tests)
    by false e = grind (arith, nat_tests)

pub broken_head : (size g n : ℕ) → size < n + 10 → open_head size g n ≡ head.Broken
broken_head size g n cut = grind (arith, nat_tests)

pub open_head_at : (size g n : ℕ) → 0 < g → n + 10 ≤ size → open_head size g n ≡ head.Open g n
open_head_at size g n some fits = grind (arith, nat_tests)

module _ (c : List ℕ) (some : 0 < length c) where
  pub switch_split : c ≡ get_or c 0 0 ∷ drop 1 c
  switch_split = drop_more c 0 0 some

  front_is : take 9 c ≡ get_or c 0 0 ∷ take 8 (drop 1 c)
  front_is = ap (take 9) switch_split

  pub shut_head : get_or c 0 0 ≢ 1 → head_of c ≡ head.Shut
  shut_head shut = ap (head_in (length c)) front_is ∙ shut_in (length c) (get_or c 0 0) (take 8 (drop 1 c)) shut

  pub opened_head : get_or c 0 0 ≡ 1 → head_of c ≡ open_head (length c) (from_be_bytes w32 (take 4 (drop 1 c))) (from_be_bytes w32 (take 4 (drop 5 c)))
  opened_head is =
      let rest = take 8 (drop 1 c) in
      let first : number_in rest ≡ from_be_bytes w32 (take 4 (drop 1 c)) = number_is rest ∙ ap (from_be_bytes w32) (take-take 4 8 (drop 1 c) (omega arith)) in
      let tail : drop 4 rest ≡ take 4 (drop 5 c) = drop-take 4 4 (drop 1 c) ∙ ap (take 4) (drop-drop 4 1 c) in
      let second : number_in (drop 4 rest) ≡ from_be_bytes w32 (take 4 (drop 5 c)) = number_is (drop 4 rest) ∙ ap (λ (l : List ℕ). from_be_bytes w32 (take 4 l)) tail ∙ ap (from_be_bytes w32) (take-take 4 4 (drop 5 c) (omega arith)) in
      ap (head_in (length c)) front_is ∙ ap (λ (b : ℕ). head_in (length c) (b ∷ rest)) is ∙ opened_in (length c) rest
      ∙ ap (λ (g : ℕ). open_head (length c) g (number_in (drop 4 rest))) first ∙ ap (open_head (length c) (from_be_bytes w32 (take 4 (drop 1 c)))) second

  pub shut_switch : head_of c ≡ head.Shut → get_or c 0 0 ≢ 1
  shut_switch is one = open_not_shut (length c) (from_be_bytes w32 (take 4 (drop 1 c))) (from_be_bytes w32 (take 4 (drop 5 c))) (sym (opened_head one) ∙ is)

  pub open_switch : (g n : ℕ) → head_of c ≡ head.Open g n → get_or c 0 0 ≡ 1
  open_switch g n is = elim (cases_eq (get_or c 0 0) 1) [
    | inl one ↦ one
    | inr shut ↦ let no : head.Shut ≡ head.Open g n = sym (shut_head shut) ∙ is in absurd (cc)
  ]

  -- what was read of it
  module _ (first : List ℕ) (one : length first ≡ 1) (read : first ≡ take (length first) (drop 0 c)) where
    pub switch_is : get_or first 0 0 ≡ get_or c 0 0
    switch_is = ap (λ (l : List ℕ). get_or l 0 0) read ∙ get_or-take (length first) c 0 0 (omega arith)

    pub read_shut : get_or first 0 0 ≢ 1 → head_of c ≡ head.Shut
    read_shut shut = shut_head (λ is. shut (switch_is ∙ is))

    pub read_short : get_or first 0 0 ≡ 1 → length c < 10 → head_of c ≡ head.Broken
    read_short is short = opened_head (sym switch_is ∙ is) ∙ broken_head (length c) (from_be_bytes w32 (take 4 (drop 1 c))) (from_be_bytes w32 (take 4 (drop 5 c))) (omega arith)

    pub read_open : get_or first 0 0 ≡ 1 → (g n : List ℕ) → length g ≡ 4 → g ≡ take (length g) (drop 1 c) → length n ≡ 4 → n ≡ take (length n) (drop 5 c) → head_of c ≡ open_head (length c) (from_be_bytes w32 g) (from_be_bytes w32 n)
    read_open is g n four g_read four_too n_read =
        let gs : take 4 (drop 1 c) ≡ g = ap (λ (k : ℕ). take k (drop 1 c)) (sym four) ∙ sym g_read in
        let ns : take 4 (drop 5 c) ≡ n = ap (λ (k : ℕ). take k (drop 5 c)) (sym four_too) ∙ sym n_read in
        opened_head (sym switch_is ∙ is) ∙ ap (λ (l : List ℕ). open_head (length c) (from_be_bytes w32 l) (from_be_bytes w32 (take 4 (drop 5 c)))) gs ∙ ap (λ (l : List ℕ). open_head (length c) (from_be_bytes w32 g) (from_be_bytes w32 l)) ns

    pub read_opened : get_or first 0 0 ≡ 1 → (g n : List ℕ) → length g ≡ 4 → g ≡ take (length g) (drop 1 c) → length n ≡ 4 → n ≡ take (length n) (drop 5 c)
        → (size x y : ℕ) → length c ≡ size → x ≡ from_be_bytes w32 g → y ≡ from_be_bytes w32 n → (h : Head) → h ≡ open_head size x y → head_of c ≡ h
    read_opened is g n four g_read four_too n_read size x y size_is x_is y_is h h_is =
        read_open is g n four g_read four_too n_read ∙ ap (λ (k : ℕ). open_head k (from_be_bytes w32 g) (from_be_bytes w32 n)) size_is
        ∙ ap (λ (k : ℕ). open_head size k (from_be_bytes w32 n)) (sym x_is) ∙ ap (open_head size x) (sym y_is) ∙ sym h_is
