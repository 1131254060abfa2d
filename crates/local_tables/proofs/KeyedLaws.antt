-- Where a condition asks for one key, at most the row at this key is matched.
use Rattle.std.proofs.Common.{◌≡◌, ℕ, eqb-true, Bool, true, false, cond, ◌&&◌, List, [], ◌∷◌, filter, slice_get, Option, Some, None, option_map, option_and_then, sym, refl, ap, ap₂, ◌∙◌, true≢false}
use Rattle.std.specs.List.Sorted.{IsStrictlySortedBy}
use Rattle.std.specs.Map.{keys_of}
use Rattle.std.proofs.lemmas.Bool.{and_parts}
use Rattle.std.proofs.lemmas.Map.Entries.{option_filter}
use Rattle.std.proofs.lemmas.Map.Keys.{IsDistinct-from_sorted}
use Rattle.seata_types.specs.Condition.{Condition}
use Rattle.seata_types.specs.Condition as condition
use Rattle.seata_types.specs.Orders.{key_cmp}
use Rattle.seata_types.specs.declared.conditions.Op.{Op}
use Rattle.seata_types.specs.declared.conditions.Op.TheVariants as op
use Rattle.seata_types.specs.declared.rows.Row.{Row}
use Rattle.seata_types.specs.declared.rows.RowKey.{RowKey}
use Rattle.seata_types.specs.declared.rows.Value.{Value}
use Rattle.local_tables.specs.Cells.{place_of, holds, compares}
use Rattle.local_tables.specs.Checks.{is_place}
use Rattle.local_tables.specs.Lookups.{IsRising, HasKeysOf, over, change_at, kept, is_equality, first_of_two, literal_at, key_literals, only}
use Rattle.local_tables.specs.Rows.{Rows, Change, put_all, is_key, each_of, key_values, key_in, is_in, row_at, IsMap}
use Rattle.local_tables.specs.Touches.{is_matched, matched}
use Rattle.local_tables.specs.declared.schemas.TableDef.{TableDef}
use Rattle.local_tables.proofs.KeyLaws.{value_exact, equal_from_is_eq, same_key, same_text_same}
use Rattle.local_tables.proofs.MapLaws.{rising_filter, at_filter, same_entries, is_key_itself}
use Rattle.local_tables.proofs.PutLaws.{map_put_all, row_at_put_all}

-- ---- the literal that a condition asks for

literal_of : (test : Op) (literal v : Value) (found : Option Value) (b : Bool) → cond (is_equality test && b) (Some literal) None ≡ Some v → compares test literal found ≡ true → (b ≡ true) × (found ≡ Some v)
literal_of op.Eq literal v (Some x) true e h =
    (refl, ap Some (value_exact x literal (equal_from_is_eq _ h)) ∙ e)
literal_of op.Eq literal v None true e h = cc
literal_of op.Eq literal v found false e h = cc
literal_of op.Ne literal v found b e h = cc
literal_of op.Lt literal v found b e h = cc
literal_of op.Le literal v found b e h = cc
literal_of op.Gt literal v found b e h = cc
literal_of op.Ge literal v found b e h = cc

at_place : (key : ℕ) (cells : List Value) (place : Option ℕ) (v : Value) → (is_place key place ≡ true) × (option_and_then (slice_get cells) place ≡ Some v) → slice_get cells key ≡ Some v
at_place key cells None v h = cc
at_place key cells (Some place) v h = ap (slice_get cells) (sym (eqb-true place key h.0)) ∙ h.1

of_two : (P : Type 0) (left right : Option Value) (v : Value) → first_of_two left right ≡ Some v → (left ≡ Some v → P) → (right ≡ Some v → P) → P
of_two P (Some x) right v e first second = first e
of_two P None right v e first second = second e

holds_at_literal : (def : TableDef) (row : Row) (asked : Condition) (place : ℕ) (v : Value) → literal_at def asked place ≡ Some v → holds def row asked ≡ true → slice_get row.0 place ≡ Some v
holds_at_literal def row (condition.Cmp column test literal) place v e h =
    at_place place row.0 (place_of def column) v (literal_of test literal v _ _ e h)
holds_at_literal def row (condition.And left right) place v e h =
    let both = and_parts _ _ h in
    of_two _ (literal_at def left place) (literal_at def right place) v e (λ l. holds_at_literal def row left place v l both.0) (λ r. holds_at_literal def row right place v r both.1)
holds_at_literal def row (condition.Or left right) place v e h = cc
holds_at_literal def row (condition.Not inner) place v e h = cc

-- what gives the same of each that it gives something of, gives the same of all
each_same : (f g : ℕ → Option Value) (places : List ℕ) (vs : List Value) → ((place : ℕ) (v : Value) → f place ≡ Some v → g place ≡ Some v) → each_of f places ≡ Some vs → each_of g places ≡ Some vs
each_same f g [] vs same e = e
each_same f g (place ∷ places) vs same e = by (f place) (each_of f places) refl refl (λ us. each_same f g places us same) e
  where
    by : (o : Option Value) (r : Option (List Value)) → f place ≡ o → each_of f places ≡ r → ((us : List Value) → each_of f places ≡ Some us → each_of g places ≡ Some us) → option_and_then (λ v. option_map (λ us. v ∷ us) r) o ≡ Some vs
        → option_and_then (λ v. option_map (λ us. v ∷ us) (each_of g places)) (g place) ≡ Some vs
    by None r h k rest d = cc
    by (Some v) None h k rest d = cc
    by (Some v) (Some us) h k rest d =
        ap₂ (λ (o : Option Value) (r : Option (List Value)). option_and_then (λ w. option_map (λ ws. w ∷ ws) r) o) (same place v h) (rest us k) ∙ d

pub holds_at_literals : (def : TableDef) (row : Row) (asked : Condition) (vs : List Value) → key_literals def asked ≡ Some vs → holds def row asked ≡ true → key_values def row ≡ Some vs
holds_at_literals def row asked vs e h =
    each_same (literal_at def asked) (slice_get row.0) def.key vs (λ place v f. holds_at_literal def row asked place v f h) e

-- ---- at most one row

module _ (resource : ℕ) (def : TableDef) (asked : Condition) (v : List Value) (e : key_literals def asked ≡ Some v) where
  abbrev m : RowKey × Row → Bool
  m = is_matched resource def (Some asked)

  abbrev the_key : RowKey
  the_key = key_in resource def v

  matched_is_there : (q : RowKey) (row : Row) → (q.table ≡ def.name → key_values def row ≡ Some q.pk) → m (q, row) ≡ true → q ≡ the_key
  matched_is_there q row has h =
      let parts = and_parts (is_in resource def q) (holds def row asked) h in
      let place = and_parts _ _ parts.0 in
      let table : q.table ≡ def.name = same_text_same q.table def.name place.1 in
      let number : q.resource ≡ resource = eqb-true q.resource resource place.0 in
      let cell : key_values def row ≡ Some v = holds_at_literals def row asked v e parts.1 in
      let own : key_values def row ≡ Some q.pk = has table in
      let pk : q.pk ≡ v = cc in
      λ i. record { resource = number i; table = table i; pk = pk i }

  at_other : (q : RowKey) (o : Option Row) → ((row : Row) → o ≡ Some row → q.table ≡ def.name → key_values def row ≡ Some q.pk) → is_key q the_key ≡ false → option_filter (λ row. m (q, row)) o ≡ None
  at_other q None has other = refl
  at_other q (Some row) has other = by (m (q, row)) refl
    where
      by : (b : Bool) → m (q, row) ≡ b → cond b (Some row) None ≡ None
      by false h = refl
      by true h =
          let same : q ≡ the_key = matched_is_there q row (has row refl) h in
          absurd (true≢false (sym (is_key_itself the_key) ∙ ap (λ k. is_key k the_key) (sym same) ∙ other))

neither : (b : Bool) → ◌≡◌ {A = Option Row} None (cond b None None)
neither true = refl
neither false = refl

at_only : (k q : RowKey) (o : Option Row) → row_at (only k o) q ≡ cond (is_key q k) o None
at_only k q None = neither (is_key q k)
at_only k q (Some row) = refl

map_only : (k : RowKey) (o : Option Row) → IsMap (only k o)
unfolding IsStrictlySortedBy
map_only k None = tt
map_only k (Some row) = (tt, tt)

pub matched_only : (resource : ℕ) (def : TableDef) (asked : Condition) (v : List Value) (now : Rows) → key_literals def asked ≡ Some v → IsMap now → HasKeysOf def now
    → only (key_in resource def v) (option_filter (λ row. is_matched resource def (Some asked) (key_in resource def v, row)) (row_at now (key_in resource def v))) ≡ filter (is_matched resource def (Some asked)) now
matched_only resource def asked v now e s has =
    let k = key_in resource def v in
    let p = is_matched resource def (Some asked) in
    same_entries (only k (option_filter (λ row. p (k, row)) (row_at now k))) (filter p now) (map_only k _) (rising_filter p now s) (λ q.
    at_only k q _ ∙ by q (is_key q k) refl ∙ sym (at_filter p now q s))
  where
    by : (q : RowKey) (b : Bool) → is_key q (key_in resource def v) ≡ b
        → cond b (option_filter (λ row. is_matched resource def (Some asked) (key_in resource def v, row)) (row_at now (key_in resource def v))) None ≡ option_filter (λ row. is_matched resource def (Some asked) (q, row)) (row_at now q)
    by q true h = ap (λ j. option_filter (λ row. is_matched resource def (Some asked) (j, row)) (row_at now j)) (sym (same_key q _ h))
    by q false h = sym (at_other resource def asked v e q (row_at now q) (λ row there. has q row there) h)

-- the same of rows under changes
looked_up_matches : (resource : ℕ) (def : TableDef) (cond : Option Condition) (asked : Condition) (v : List Value) (rows : Rows) (changes : List Change) → cond ≡ Some asked → key_literals def asked ≡ Some v → IsMap rows → IsRising changes
    → HasKeysOf def (put_all rows changes) → (found : Rows)
    → found ≡ only (key_in resource def v) (kept (is_matched resource def cond) (key_in resource def v, over (row_at rows (key_in resource def v)) (change_at changes (key_in resource def v)))).1
    → found ≡ matched resource def cond (put_all rows changes)
looked_up_matches resource def cond asked v rows changes is e s t has found h =
    let k = key_in resource def v in
    let now : Rows = put_all rows changes in
    let there : row_at now k ≡ over (row_at rows k) (change_at changes k) = row_at_put_all rows changes k s (IsDistinct-from_sorted key_cmp (keys_of changes) t) in
    h
    ∙ ap (λ o. only k (option_filter (λ row. is_matched resource def cond (k, row)) o)) (sym there)
    ∙ ap (λ c. only k (option_filter (λ row. is_matched resource def c (k, row)) (row_at now k))) is
    ∙ matched_only resource def asked v now e (map_put_all rows changes s) has
    ∙ ap (λ c. matched resource def c now) (sym is)

-- the same where the condition may be absent
pub asked_matches : (resource : ℕ) (def : TableDef) (cond : Option Condition) (v : List Value) (rows : Rows) (changes : List Change) → option_and_then (key_literals def) cond ≡ Some v → IsMap rows → IsRising changes
    → HasKeysOf def (put_all rows changes) → (found : Rows)
    → found ≡ only (key_in resource def v) (kept (is_matched resource def cond) (key_in resource def v, over (row_at rows (key_in resource def v)) (change_at changes (key_in resource def v)))).1
    → found ≡ matched resource def cond (put_all rows changes)
asked_matches resource def None v rows changes e s t has found h = cc
asked_matches resource def (Some asked) v rows changes e s t has found h = looked_up_matches resource def (Some asked) asked v rows changes refl e s t has found h
