-- The rows that an INSERT makes and those that an UPDATE leaves fit their table.
use Rattle.std.proofs.Common.{◌≡◌, ℕ, zero, suc, ◌+◌, ◌<◌, ◌≤◌, ◌==◌, eqb-true, eq-eqb, Bool, true, false, not, cond, ◌&&◌, ℤ, List, [], ◌∷◌, length, map, zip, filter_map, count_by, slice_get, slice_set, find, Option, Some, None, option_map, option_and_then, refl, sym, ap, ◌∙◌, subst, arith}
use Rattle.std.specs.Prelude.{nat_lt}
use Rattle.std.specs.List.{AllByRecursion, IsDistinct, list_all, cons_option, position, position_or_len}
use Rattle.std.proofs.Math.ListN.{get_or}
use Rattle.std.proofs.lemmas.Bool.{and_parts, and_from}
use Rattle.std.proofs.lemmas.Bool.Decides.{nat_tests}
use Rattle.std.proofs.lemmas.List.Quantifiers.{position-Some}
use Rattle.std.proofs.lemmas.List.Sums.{sum_by-cons}
use Rattle.std.proofs.lemmas.Option.{none-some}
use Rattle.seata_types.specs.Orders.{same_text}
use Rattle.seata_types.specs.declared.rows.Row.{Row}
use Rattle.seata_types.specs.declared.rows.Value.{Value}
use Rattle.seata_types.specs.declared.rows.Value.TheVariants as value
use Rattle.seata_types.specs.declared.statements.Sign.{Sign}
use Rattle.seata_types.specs.declared.statements.Term.{Term}
use Rattle.seata_types.specs.declared.statements.Term.TheVariants as term
use Rattle.local_tables.specs.Cells.{Column, has_name, place_of, cell}
use Rattle.local_tables.specs.Checks.{Set, is_once, name_of, has_length, type_of, type_name, column_type, same_type, fits_column, term_type, is_number, is_number_part, sum_fits, fits_set, fits_named, fits_tuple}
use Rattle.local_tables.specs.Rows.{fits_cell, fits_row}
use Rattle.local_tables.specs.Sums.{term_value, term_number, sum_from, sum_value, expr_value, set_at, set_cells, row_of, updated}
use Rattle.local_tables.specs.Touches.{value_for, tuple_row}
use Rattle.local_tables.specs.declared.schemas.ColType.{ColType}
use Rattle.local_tables.specs.declared.schemas.ColType.TheVariants as type
use Rattle.local_tables.specs.declared.schemas.TableDef.{TableDef}
use Rattle.local_tables.proofs.KeyLaws.{same_text_same, same_text_itself}

some_is : {A : Type 0} (a b : A) → Some a ≡ Some b → a ≡ b
some_is a b e = cc

-- as many values as columns, each of its column's type
abbrev AllFit : TableDef → List Column → List Value → Type 0
AllFit def cs vs = (length vs ≡ length cs) × (list_all (fits_cell def) (zip cs vs) ≡ true)

fits_of : (def : TableDef) (row : Row) → fits_row def row ≡ true → AllFit def def.columns row.0
fits_of def row e =
    let both = and_parts (length row.0 == length def.columns) _ e in
    (eqb-true (length row.0) (length def.columns) both.0, both.1)

fits_from : (def : TableDef) (row : Row) → AllFit def def.columns row.0 → fits_row def row ≡ true
fits_from def row h = and_from (length row.0 == length def.columns) _ (eq-eqb (length row.0) (length def.columns) h.0) h.1

-- ---- the first place at which a test passes

first_place : (n : ℕ) → cond {A = Option ℕ} (nat_lt 0 (suc n)) (Some 0) None ≡ Some 0
first_place n = let lt : nat_lt 0 (suc n) ≡ true = grind (arith, nat_tests) in rw lt refl

later_place : (m n : ℕ) (c : Bool) → nat_lt m n ≡ c → cond (nat_lt (1 + m) (suc n)) (Some (1 + m)) None ≡ option_map suc (cond c (Some m) None)
later_place m n true e =
    let more : nat_lt (1 + m) (suc n) ≡ true = grind (arith, nat_tests) in
    let next : 1 + m ≡ suc m = omega arith in
    rw more (ap (λ (k : ℕ). Some k) next)
later_place m n false e = let less : nat_lt (1 + m) (suc n) ≡ false = grind (arith, nat_tests) in rw less refl

place_by : (m n : ℕ) (b : Bool) → cond (nat_lt (cond (not b) (1 + m) 0) (suc n)) (Some (cond (not b) (1 + m) 0)) None ≡ cond b (Some 0) (option_map suc (cond (nat_lt m n) (Some m) None))
place_by m n true = first_place n
place_by m n false = later_place m n (nat_lt m n) refl

place_step : {X : Type 0} (p : X → Bool) (x : X) (xs : List X) → position p (x ∷ xs) ≡ cond (p x) (Some 0) (option_map suc (position p xs))
place_step p x xs = place_by (position_or_len p xs) (length xs) (p x)

get_later : (v : Value) (vs : List Value) (o : Option ℕ) → option_and_then (slice_get (v ∷ vs)) (option_map suc o) ≡ option_and_then (slice_get vs) o
get_later v vs None = refl
get_later v vs (Some k) = refl

-- ---- a tuple has a value for each column of its table

-- a value that is there and has the type of the column of this name
abbrev IsFor : TableDef → List ℕ → Option Value → Type 0
IsFor def name o = (v : Value) × (o ≡ Some v) × (fits_column def name v ≡ true)

named_value : (def : TableDef) (name : List ℕ) (columns : List (List ℕ)) (tuple : List Value) → length tuple ≡ length columns → list_all (fits_named def) (zip columns tuple) ≡ true → 1 ≤ count_by (same_text name) columns
    → IsFor def name (option_and_then (slice_get tuple) (position (same_text name) columns))
named_value def name [] tuple same fit once = absurd (let none : count_by (same_text name) [] ≡ 0 = refl in omega (arith, once, none))
named_value def name (c ∷ cs) [] same fit once = absurd (omega (arith, same))
named_value def name (c ∷ cs) (v ∷ vs) same fit once =
    let one : length vs ≡ length cs = omega (arith, same) in
    subst (λ (o : Option ℕ). IsFor def name (option_and_then (slice_get (v ∷ vs)) o)) (sym (place_step (same_text name) c cs))
    (by (same_text name c) refl (named_value def name cs vs one parts.1))
  where
    parts : (fits_column def c v ≡ true) × (list_all (fits_named def) (zip cs vs) ≡ true)
    parts = and_parts (fits_column def c v) _ fit

    by : (b : Bool) → same_text name c ≡ b → (1 ≤ count_by (same_text name) cs → IsFor def name (option_and_then (slice_get vs) (position (same_text name) cs)))
        → IsFor def name (option_and_then (slice_get (v ∷ vs)) (cond b (Some 0) (option_map suc (position (same_text name) cs))))
    by true is later = (v, refl, ap (λ (n : List ℕ). fits_column def n v) (same_text_same name c is) ∙ parts.0)
    by false is later =
        let rest : count_by (same_text name) (c ∷ cs) ≡ count_by (same_text name) cs = sum_by-cons (λ n. cond (same_text name n) 1 0) c cs ∙ ap (λ b. cond b 1 0 + count_by (same_text name) cs) is ∙ omega arith in
        subst (IsFor def name) (sym (get_later v vs (position (same_text name) cs))) (later (omega (arith, once, rest)))

filled : (def : TableDef) (columns : List (List ℕ)) (tuple : List Value) → length tuple ≡ length columns → list_all (fits_named def) (zip columns tuple) ≡ true
    → (cs : List Column) → list_all (is_once columns) (map name_of cs) ≡ true → AllFit def cs (filter_map (value_for columns tuple) cs)
filled def columns tuple same fit [] once = (refl, refl)
filled def columns tuple same fit (c ∷ cs) once =
    let both = and_parts (is_once columns c.0) _ once in
    let count : count_by (same_text c.0) columns ≡ 1 = eqb-true _ _ both.0 in
    let found = named_value def c.0 columns tuple same fit (omega (arith, count)) in
    let rest = filled def columns tuple same fit cs both.1 in
    let whole : AllFit def (c ∷ cs) (found.0 ∷ filter_map (value_for columns tuple) cs) = (ap suc rest.0, and_from (fits_column def c.0 found.0) _ found.2 rest.1) in
    subst (λ (o : Option Value). AllFit def (c ∷ cs) (cons_option o (filter_map (value_for columns tuple) cs))) (sym found.1) whole

-- the row of a tuple fits the table
pub tuple_fits : (def : TableDef) (columns : List (List ℕ)) (tuple : List Value) → list_all (is_once columns) (map name_of def.columns) ≡ true → has_length (length columns) tuple ≡ true → fits_tuple def columns tuple ≡ true
    → fits_row def (tuple_row def columns tuple) ≡ true
tuple_fits def columns tuple once long fit =
    fits_from def (tuple_row def columns tuple) (filled def columns tuple (eqb-true (length tuple) (length columns) long) fit def.columns once)

-- ---- the value of an expression has its column's type

types_join : (a b c : Option ColType) → same_type a b ≡ true → same_type b c ≡ true → same_type a c ≡ true
types_join (Some type.Int) (Some type.Int) c e f = f
types_join (Some type.Text) (Some type.Text) c e f = f
types_join (Some type.Int) (Some type.Text) c e f = cc
types_join (Some type.Text) (Some type.Int) c e f = cc
types_join (Some type.Int) None c e f = cc
types_join (Some type.Text) None c e f = cc
types_join None (Some type.Int) c e f = cc
types_join None (Some type.Text) c e f = cc
types_join None None c e f = cc

module _ (def : TableDef) (name : List ℕ) where
  value_at : (cs : List Column) (vs : List Value) (i : ℕ) (d : Column) (v : Value) → list_all (fits_cell def) (zip cs vs) ≡ true → i < length cs → has_name name (get_or cs i d) ≡ true → slice_get vs i ≡ Some v
      → fits_column def name v ≡ true
  value_at [] vs i d v fit within is at = absurd (omega (arith, within))
  value_at (c ∷ cs) [] i d v fit within is at = absurd (none-some v at)
  value_at (c ∷ cs) (x ∷ vs) zero d v fit within is at =
      let here : fits_column def c.0 x ≡ true = (and_parts (fits_column def c.0 x) _ fit).0 in
      ap (λ (n : List ℕ). fits_column def n v) (sym (same_text_same c.0 name is)) ∙ ap (fits_column def c.0) (sym (some_is x v at)) ∙ here
  value_at (c ∷ cs) (x ∷ vs) (suc i) d v fit within is at =
      value_at cs vs i d v (and_parts (fits_column def c.0 x) _ fit).1 (omega (arith, within)) is at

  set_value_at : (cs : List Column) (vs : List Value) (i : ℕ) (d : Column) (new : Value) → list_all (fits_cell def) (zip cs vs) ≡ true → i < length cs → has_name name (get_or cs i d) ≡ true → fits_column def name new ≡ true
      → list_all (fits_cell def) (zip cs (slice_set vs i new)) ≡ true
  set_value_at [] vs i d new fit within is right = absurd (omega (arith, within))
  set_value_at (c ∷ cs) [] i d new fit within is right = refl
  set_value_at (c ∷ cs) (x ∷ vs) zero d new fit within is right =
      and_from (fits_column def c.0 new) _ (ap (λ (n : List ℕ). fits_column def n new) (same_text_same c.0 name is) ∙ right) (and_parts (fits_column def c.0 x) _ fit).1
  set_value_at (c ∷ cs) (x ∷ vs) (suc i) d new fit within is right =
      let both = and_parts (fits_column def c.0 x) _ fit in
      and_from (fits_column def c.0 x) _ both.0 (set_value_at cs vs i d new both.1 (omega (arith, within)) is right)

  -- a cell of a row that fits
  cell_fits : (row : Row) (v : Value) → fits_row def row ≡ true → cell def row name ≡ Some v → fits_column def name v ≡ true
  cell_fits row v fit e = by (place_of def name) refl e
    where
      by : (o : Option ℕ) → place_of def name ≡ o → option_and_then (slice_get row.0) o ≡ Some v → fits_column def name v ≡ true
      by None is f = absurd (none-some v f)
      by (Some i) is f =
          let at = position-Some (has_name name) def.columns i (name, type.Int) is in
          value_at def.columns row.0 i (name, type.Int) v (fits_of def row fit).1 at.0 at.1 f

  set_length : (vs : List Value) (i : ℕ) (new : Value) → length (slice_set vs i new) ≡ length vs
  set_length [] i new = refl
  set_length (x ∷ vs) zero new = refl
  set_length (x ∷ vs) (suc i) new = ap suc (set_length vs i new)

  -- cells with one set to a value of its column's type
  set_fits : (cells : List Value) (new : Value) → AllFit def def.columns cells → fits_column def name new ≡ true → AllFit def def.columns (set_at (place_of def name) new cells)
  set_fits cells new fit right = by (place_of def name) refl
    where
      by : (o : Option ℕ) → place_of def name ≡ o → AllFit def def.columns (set_at o new cells)
      by None is = fit
      by (Some i) is =
          let at = position-Some (has_name name) def.columns i (name, type.Int) is in
          (set_length cells i new ∙ fit.0, set_value_at def.columns cells i (name, type.Int) new fit.1 at.0 at.1 right)

module _ (def : TableDef) (old : Row) (fit : fits_row def old ≡ true) where
  term_fits : (wanted : Option ColType) (part : Term) (v : Value) → same_type wanted (term_type def part) ≡ true → term_value def old part ≡ Some v → same_type wanted (Some (type_of v)) ≡ true
  term_fits wanted (term.Lit literal) v types e = ap (λ (x : Value). same_type wanted (Some (type_of x))) (sym (some_is literal v e)) ∙ types
  term_fits wanted (term.Column name) v types e = types_join wanted (column_type def name) (Some (type_of v)) types (cell_fits def name old v fit e)

  sum_value_fits : (wanted : Option ColType) (first : Term) (rest : List (Sign × Term)) (v : Value) → sum_fits def wanted first rest ≡ true → sum_value def old first rest ≡ Some v → same_type wanted (Some (type_of v)) ≡ true
  sum_value_fits wanted first [] v types e = term_fits wanted first v types e
  sum_value_fits wanted first (s ∷ ss) v types e =
      by (option_and_then (λ n. sum_from def old n (s ∷ ss)) (term_number def old first)) e
    where
      by : (o : Option ℤ) → option_map (λ n. value.Int n) o ≡ Some v → same_type wanted (Some (type_of v)) ≡ true
      by None f = absurd (none-some v f)
      by (Some n) f =
          ap (λ (x : Value). same_type wanted (Some (type_of x))) (sym (some_is (value.Int n) v f))
          ∙ (and_parts (same_type wanted (Some type.Int)) (is_number def first && list_all (is_number_part def) (s ∷ ss)) types).0

  sets_fit : (sets : List Set) (cells after : List Value) → list_all (fits_set def) sets ≡ true → AllFit def def.columns cells → set_cells def old sets cells ≡ Some after → AllFit def def.columns after
  sets_fit [] cells after types h e = subst (AllFit def def.columns) (some_is cells after e) h
  sets_fit (x ∷ xs) cells after types h e =
      by (expr_value def old x.1) refl e (λ new. sets_fit xs (set_at (place_of def x.0) new cells) after parts.1)
    where
      parts : (fits_set def x ≡ true) × (list_all (fits_set def) xs ≡ true)
      parts = and_parts (fits_set def x) (list_all (fits_set def) xs) types

      by : (o : Option Value) → expr_value def old x.1 ≡ o → option_and_then (λ new. set_cells def old xs (set_at (place_of def x.0) new cells)) o ≡ Some after
          → ((new : Value) → AllFit def def.columns (set_at (place_of def x.0) new cells) → set_cells def old xs (set_at (place_of def x.0) new cells) ≡ Some after → AllFit def def.columns after) → AllFit def def.columns after
      by None is f rest = absurd (none-some after f)
      by (Some new) is f rest =
          let right : fits_column def x.0 new ≡ true = sum_value_fits (column_type def x.0) x.1.first x.1.rest new parts.0 is in
          rest new (set_fits def x.0 cells new h right) f

  -- what an UPDATE leaves of a row that fits
  pub updated_fits : (sets : List Set) (new : Row) → list_all (fits_set def) sets ≡ true → updated def sets old ≡ Some new → fits_row def new ≡ true
  updated_fits sets new types e = by (set_cells def old sets old.0) refl e
    where
      by : (o : Option (List Value)) → set_cells def old sets old.0 ≡ o → option_map row_of o ≡ Some new → fits_row def new ≡ true
      by None is f = absurd (none-some new f)
      by (Some cells) is f =
          ap (fits_row def) (sym (some_is (row_of cells) new f)) ∙ fits_from def (row_of cells) (sets_fit sets old.0 cells types (fits_of def old fit) is)

-- ---- where no two columns have one name, the type of a name is the column's own

found_later : (c : Column) (cs es : List Column) → AllByRecursion (λ n. same_text c.0 n ≡ false) (map name_of es) → AllByRecursion (λ e. find (has_name e.0) cs ≡ Some e) es → AllByRecursion (λ e. find (has_name e.0) (c ∷ cs) ≡ Some e) es
found_later c cs [] other all = tt
found_later c cs (e ∷ es) other all = (ap (λ b. cond b (Some c) (find (has_name e.0) cs)) other.0 ∙ all.0, found_later c cs es other.1 all.1)

found_itself : (cs : List Column) → IsDistinct same_text (map name_of cs) → AllByRecursion (λ e. find (has_name e.0) cs ≡ Some e) cs
unfolding IsDistinct
found_itself [] d = tt
found_itself (c ∷ cs) d =
    (ap (λ b. cond b (Some c) (find (has_name c.0) cs)) (same_text_itself c.0), found_later c cs cs d.0 (found_itself cs d.1))

type_itself : (t : ColType) → same_type (Some t) (Some t) ≡ true
type_itself type.Int = refl
type_itself type.Text = refl

own_types : (def : TableDef) (cs : List Column) (vs : List Value) → AllByRecursion (λ e. find (has_name e.0) def.columns ≡ Some e) cs
    → ((k : ℕ) (c : Column) (v : Value) → slice_get cs k ≡ Some c → slice_get vs k ≡ Some v → c.1 ≡ type_of v) → list_all (fits_cell def) (zip cs vs) ≡ true
own_types def [] vs all own = refl
own_types def (c ∷ cs) [] all own = refl
own_types def (c ∷ cs) (v ∷ vs) all own =
    and_from (fits_column def c.0 v) _
    (ap (λ (o : Option Column). same_type (option_map type_name o) (Some (type_of v))) all.0
    ∙ ap (λ (t : ColType). same_type (Some t) (Some (type_of v))) (own 0 c v refl refl) ∙ type_itself (type_of v))
    (own_types def cs vs all.1 (λ k. own (suc k)))

-- a row with a value of its column's own type for each column
pub own_types_fit : (def : TableDef) (row : Row) → IsDistinct same_text (map name_of def.columns) → length row.0 ≡ length def.columns
    → ((k : ℕ) (c : Column) (v : Value) → slice_get def.columns k ≡ Some c → slice_get row.0 k ≡ Some v → c.1 ≡ type_of v) → fits_row def row ≡ true
own_types_fit def row d long own = fits_from def row (long, own_types def def.columns row.0 (found_itself def.columns d) own)
