-- The values of the rows that an INSERT makes, and of those that an UPDATE leaves, have places.
use Rattle.std.proofs.Common.{◌≡◌, ℕ, zero, suc, ◌^◌, ◌-◌, ◌≤◌, ◌<◌, Bool, true, false, cond, ◌&&◌, ℤ, List, [], ◌∷◌, length, filter_map, slice_get, slice_set, Option, Some, None, option_map, option_and_then, refl, sym, ap, subst, ◌∙◌, arith}
use Rattle.std.specs.Prelude.{◌+ℤ◌, ◌-ℤ◌, pos, negsuc, int_le, int_lt, FitsSigned}
use Rattle.std.specs.Int.{w64}
use Rattle.std.specs.List.{AllByRecursion, cons_option, position}
use Rattle.std.proofs.lemmas.Bool.{and_parts}
use Rattle.std.proofs.lemmas.Bool.Decides.{nat_tests}
use Rattle.std.proofs.lemmas.Int.{ints}
use Rattle.std.proofs.lemmas.Option.{none-some}
use Rattle.seata_types.specs.Orders.{same_text}
use Rattle.seata_types.specs.declared.rows.Row.{Row}
use Rattle.seata_types.specs.declared.rows.Value.{Value}
use Rattle.seata_types.specs.declared.rows.Value.TheVariants as value
use Rattle.seata_types.specs.declared.statements.Expr.{Expr}
use Rattle.seata_types.specs.declared.statements.Sign.{Sign}
use Rattle.seata_types.specs.declared.statements.Sign.TheVariants as sign
use Rattle.seata_types.specs.declared.statements.Term.{Term}
use Rattle.seata_types.specs.declared.statements.Term.TheVariants as term
use Rattle.byte_fields.specs.Layout.{FitsValue}
use Rattle.local_tables.specs.Cells.{Column, cell, place_of}
use Rattle.local_tables.specs.Rows.{each_of, key_values}
use Rattle.local_tables.specs.Sums.{within, joined, number, term_value, term_number, sum_from, sum_value, expr_value, set_at, set_cells, row_of, updated}
use Rattle.local_tables.specs.Touches.{value_for, tuple_row}
use Rattle.local_tables.specs.declared.schemas.TableDef.{TableDef}
use Rattle.record_places.specs.Within.{IsTermWithin, IsSetWithin}

some_is : {A : Type 0} (a b : A) → Some a ≡ Some b → a ≡ b
some_is a b e = cc

-- ---- lists

pub got : {A : Type 0} (P : A → Type 0) (xs : List A) (i : ℕ) (x : A) → AllByRecursion P xs → slice_get xs i ≡ Some x → P x
got P [] i x all e = absurd (none-some x e)
got P (y ∷ ys) zero x all e = subst P (some_is y x e) all.0
got P (y ∷ ys) (suc i) x all e = got P ys i x all.1 e

each_set : {A : Type 0} (P : A → Type 0) (xs : List A) (i : ℕ) (x : A) → AllByRecursion P xs → P x → AllByRecursion P (slice_set xs i x)
each_set P [] i x all new = tt
each_set P (y ∷ ys) zero x all new = (new, all.1)
each_set P (y ∷ ys) (suc i) x all new = (all.0, each_set P ys i x all.1 new)

set_length : {A : Type 0} (xs : List A) (i : ℕ) (x : A) → length (slice_set xs i x) ≡ length xs
set_length [] i x = refl
set_length (y ∷ ys) zero x = refl
set_length (y ∷ ys) (suc i) x = ap suc (set_length ys i x)

-- ---- sums

range_fits : (z : ℤ) → (int_le (negsuc (2 ^ 63 - 1)) z && int_lt z (pos (2 ^ 63))) ≡ true → FitsSigned w64 z
range_fits (pos n) e =
    let below = (and_parts (int_le (negsuc (2 ^ 63 - 1)) (pos n)) (int_lt (pos n) (pos (2 ^ 63))) e).1 in
    let less : n < 2 ^ 63 = grind (arith, nat_tests) in
    omega (arith, ints)
range_fits (negsuc n) e =
    let above = (and_parts (int_le (negsuc (2 ^ 63 - 1)) (negsuc n)) (int_lt (negsuc n) (pos (2 ^ 63))) e).0 in
    let less : n ≤ 2 ^ 63 - 1 = grind (arith, nat_tests) in
    omega (arith, ints)

within_fits : (sum n : ℤ) → within sum ≡ Some n → FitsSigned w64 n
within_fits sum n e = by (int_le (negsuc (2 ^ 63 - 1)) sum && int_lt sum (pos (2 ^ 63))) refl e
  where
    by : (b : Bool) → (int_le (negsuc (2 ^ 63 - 1)) sum && int_lt sum (pos (2 ^ 63))) ≡ b → cond b (Some sum) None ≡ Some n → FitsSigned w64 n
    by true is f = subst (FitsSigned w64) (some_is sum n f) (range_fits sum is)
    by false is f = absurd (none-some n f)

joined_fits : (s : Sign) (total k n : ℤ) → joined s total k ≡ Some n → FitsSigned w64 n
joined_fits sign.Plus total k n e = within_fits (total +ℤ k) n e
joined_fits sign.Minus total k n e = within_fits (total -ℤ k) n e

number_fits : (v : Value) (n : ℤ) → FitsValue v → number v ≡ Some n → FitsSigned w64 n
number_fits (value.Int m) n fits e = subst (FitsSigned w64) (some_is m n e) fits
number_fits (value.Text text) n fits e = absurd (none-some n e)

module _ (def : TableDef) (row : Row) (values : AllByRecursion FitsValue row.0) where
  cell_within : (name : List ℕ) (v : Value) → cell def row name ≡ Some v → FitsValue v
  cell_within name v e = by (place_of def name) e
    where
      by : (o : Option ℕ) → option_and_then (slice_get row.0) o ≡ Some v → FitsValue v
      by None f = absurd (none-some v f)
      by (Some i) f = got FitsValue row.0 i v values f

  term_within : (t : Term) (v : Value) → IsTermWithin t → term_value def row t ≡ Some v → FitsValue v
  term_within (term.Lit literal) v fits e = subst FitsValue (some_is literal v e) fits
  term_within (term.Column name) v fits e = cell_within name v e

  number_within : (t : Term) (n : ℤ) → IsTermWithin t → term_number def row t ≡ Some n → FitsSigned w64 n
  number_within t n fits e = by (term_value def row t) refl e
    where
      by : (o : Option Value) → term_value def row t ≡ o → option_and_then number o ≡ Some n → FitsSigned w64 n
      by None is f = absurd (none-some n f)
      by (Some v) is f = number_fits v n (term_within t v fits is) f

  sum_within : (total n : ℤ) (ss : List (Sign × Term)) → FitsSigned w64 total → sum_from def row total ss ≡ Some n → FitsSigned w64 n
  sum_within total n [] fits e = subst (FitsSigned w64) (some_is total n e) fits
  sum_within total n (s ∷ ss) fits e = by (λ k. sum_within k n ss) (term_number def row s.1) e
    where
      Rest : Type 0
      Rest = (k : ℤ) → FitsSigned w64 k → sum_from def row k ss ≡ Some n → FitsSigned w64 n

      next : Rest → (o : Option ℤ) → ((k : ℤ) → o ≡ Some k → FitsSigned w64 k) → option_and_then (λ k. sum_from def row k ss) o ≡ Some n → FitsSigned w64 n
      next rest None is f = absurd (none-some n f)
      next rest (Some k) is f = rest k (is k refl) f

      by : Rest → (o : Option ℤ) → option_and_then (λ k. sum_from def row k ss) (option_and_then (joined s.0 total) o) ≡ Some n → FitsSigned w64 n
      by rest None f = absurd (none-some n f)
      by rest (Some k) f = next rest (joined s.0 total k) (λ m is. joined_fits s.0 total k m is) f

  expr_within : (first : Term) (rest : List (Sign × Term)) (v : Value) → IsTermWithin first → sum_value def row first rest ≡ Some v → FitsValue v
  expr_within first [] v fits e = term_within first v fits e
  expr_within first (s ∷ ss) v fits e = by (term_number def row first) refl e
    where
      made : (o : Option ℤ) → ((k : ℤ) → o ≡ Some k → FitsSigned w64 k) → option_map (λ n. value.Int n) o ≡ Some v → FitsValue v
      made None is f = absurd (none-some v f)
      made (Some k) is f = subst FitsValue (some_is (value.Int k) v f) (is k refl)

      by : (o : Option ℤ) → term_number def row first ≡ o → option_map (λ n. value.Int n) (option_and_then (λ n. sum_from def row n (s ∷ ss)) o) ≡ Some v → FitsValue v
      by None is f = absurd (none-some v f)
      by (Some n) is f = made (sum_from def row n (s ∷ ss)) (λ k there. sum_within n k (s ∷ ss) (number_within first n fits is) there) f

  -- ---- what an UPDATE leaves

  set_within : (place : Option ℕ) (new : Value) (cells : List Value) → AllByRecursion FitsValue cells → FitsValue new → AllByRecursion FitsValue (set_at place new cells)
  set_within None new cells all fits = all
  set_within (Some i) new cells all fits = each_set FitsValue cells i new all fits

  place_length : (place : Option ℕ) (new : Value) (cells : List Value) → length (set_at place new cells) ≡ length cells
  place_length None new cells = refl
  place_length (Some i) new cells = set_length cells i new

  cells_within : (sets : List (List ℕ × Expr)) (cells after : List Value) → AllByRecursion IsSetWithin sets → AllByRecursion FitsValue cells → set_cells def row sets cells ≡ Some after
      → AllByRecursion FitsValue after × (length after ≡ length cells)
  cells_within [] cells after sets all e =
      let same = some_is cells after e in
      (subst (AllByRecursion FitsValue) same all, sym (ap (λ (l : List Value). length l) same))
  cells_within (s ∷ ss) cells after sets all e = by (λ new. cells_within ss (set_at (place_of def s.0) new cells) after sets.1) (expr_value def row s.1) refl e
    where
      Rest : Type 0
      Rest = (new : Value) → AllByRecursion FitsValue (set_at (place_of def s.0) new cells) → set_cells def row ss (set_at (place_of def s.0) new cells) ≡ Some after
          → AllByRecursion FitsValue after × (length after ≡ length (set_at (place_of def s.0) new cells))

      by : Rest → (o : Option Value) → expr_value def row s.1 ≡ o → option_and_then (λ new. set_cells def row ss (set_at (place_of def s.0) new cells)) o ≡ Some after → AllByRecursion FitsValue after × (length after ≡ length cells)
      by rest None is f = absurd (none-some after f)
      by rest (Some new) is f =
          let later = rest new (set_within (place_of def s.0) new cells all (expr_within s.1.first s.1.rest new sets.0.0 is)) f in
          (later.0, later.1 ∙ place_length (place_of def s.0) new cells)

  pub updated_within : (sets : List (List ℕ × Expr)) (new : Row) → AllByRecursion IsSetWithin sets → updated def sets row ≡ Some new → AllByRecursion FitsValue new.0 × (length new.0 ≡ length row.0)
  updated_within sets new are e = by (set_cells def row sets row.0) refl e
    where
      by : (o : Option (List Value)) → set_cells def row sets row.0 ≡ o → option_map row_of o ≡ Some new → AllByRecursion FitsValue new.0 × (length new.0 ≡ length row.0)
      by None is f = absurd (none-some new f)
      by (Some cells) is f =
          subst (λ (r : Row). AllByRecursion FitsValue r.0 × (length r.0 ≡ length row.0)) (some_is (row_of cells) new f) (cells_within sets row.0 cells are values is)

  -- ---- the values of the key columns

  key_within : (keys : List ℕ) (pk : List Value) → each_of (slice_get row.0) keys ≡ Some pk → AllByRecursion FitsValue pk × (length pk ≡ length keys)
  key_within [] pk e = let same = some_is [] pk e in (subst (AllByRecursion FitsValue) same tt, sym (ap (λ (l : List Value). length l) same))
  key_within (k ∷ ks) pk e = by (key_within ks) (slice_get row.0 k) refl (each_of (slice_get row.0) ks) refl e
    where
      Rest : Type 0
      Rest = (vs : List Value) → each_of (slice_get row.0) ks ≡ Some vs → AllByRecursion FitsValue vs × (length vs ≡ length ks)

      by : Rest → (o : Option Value) → slice_get row.0 k ≡ o → (rest : Option (List Value)) → each_of (slice_get row.0) ks ≡ rest → option_and_then (λ y. option_map (λ ys. y ∷ ys) rest) o ≡ Some pk
          → AllByRecursion FitsValue pk × (length pk ≡ length (k ∷ ks))
      by known None is rest more f = absurd (none-some pk f)
      by known (Some v) is None more f = absurd (none-some pk f)
      by known (Some v) is (Some vs) more f =
          let tail = known vs more in
          subst (λ (l : List Value). AllByRecursion FitsValue l × (length l ≡ length (k ∷ ks))) (some_is (v ∷ vs) pk f) ((got FitsValue row.0 k v values is, tail.0), ap suc tail.1)

  pub parts_within : (pk : List Value) → key_values def row ≡ Some pk → AllByRecursion FitsValue pk × (length pk ≡ length def.key)
  parts_within pk e = key_within def.key pk e

-- ---- what an INSERT makes

filled_within : (columns : List (List ℕ)) (tuple : List Value) → AllByRecursion FitsValue tuple → (cs : List Column)
    → AllByRecursion FitsValue (filter_map (value_for columns tuple) cs) × (length (filter_map (value_for columns tuple) cs) ≤ length cs)
filled_within columns tuple all [] = (tt, omega arith)
filled_within columns tuple all (c ∷ cs) = by (position (same_text c.0) columns) (filled_within columns tuple all cs)
  where
    put : (o : Option Value) → ((v : Value) → o ≡ Some v → FitsValue v) → AllByRecursion FitsValue (filter_map (value_for columns tuple) cs) × (length (filter_map (value_for columns tuple) cs) ≤ length cs)
        → AllByRecursion FitsValue (cons_option o (filter_map (value_for columns tuple) cs)) × (length (cons_option o (filter_map (value_for columns tuple) cs)) ≤ length (c ∷ cs))
    put None is rest = (rest.0, omega (arith, rest.1))
    put (Some v) is rest = ((is v refl, rest.0), omega (arith, rest.1))

    by : (place : Option ℕ) → AllByRecursion FitsValue (filter_map (value_for columns tuple) cs) × (length (filter_map (value_for columns tuple) cs) ≤ length cs)
        → AllByRecursion FitsValue (cons_option (option_and_then (slice_get tuple) place) (filter_map (value_for columns tuple) cs))
        × (length (cons_option (option_and_then (slice_get tuple) place) (filter_map (value_for columns tuple) cs)) ≤ length (c ∷ cs))
    by None rest = put None (λ v f. absurd (none-some v f)) rest
    by (Some i) rest = put (slice_get tuple i) (λ v f. got FitsValue tuple i v all f) rest

pub tuple_within : (def : TableDef) (columns : List (List ℕ)) (tuple : List Value) → AllByRecursion FitsValue tuple
    → AllByRecursion FitsValue (tuple_row def columns tuple).0 × (length (tuple_row def columns tuple).0 ≤ length def.columns)
tuple_within def columns tuple all = filled_within columns tuple all def.columns
