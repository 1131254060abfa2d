-- What is known of resources and of their rows at the opening once they are read.
use Rattle.std.proofs.Common.{◌≡◌, ◌≤◌, ◌<◌, ◌+◌, ◌⊎◌, inl, inr, ℕ, suc, Bool, true, false, cond, ◌||◌, true≢false, ap₂, List, [], ◌∷◌, ◌++◌, length, map, Option, Some, None, is_some, option_map, Ok, refl, ap, sym, ◌∙◌, subst, arith}
use Rattle.std.proofs.lemmas.Cmp.{eq_by_cmp_equiv, lists_total}
use Rattle.std.proofs.lemmas.List.{append-nil, append_assoc, length-append}
use Rattle.std.proofs.lemmas.List.Elements.{All-append, All-cons, All-head, All-map, All-nil, All-push, All-tail, All-weaker, filter_map-append}
use Rattle.std.proofs.lemmas.List.Folds.{find-append}
use Rattle.std.proofs.lemmas.Option.{same_Some}
use Rattle.std.specs.List.{IsDistinct, AllByRecursion, cons_option, list_any, find, slice_get}
use Rattle.std.specs.Map.{keys_of}
use Rattle.std.specs.Prelude.{All, IsSome, codes}
use Rattle.std.specs.Option.{option_or}
use Rattle.serde_json.specs.Data.{Data, Items, no_items, item}
use Rattle.serde_json.specs.Find.{get}
use Rattle.seata_types.specs.Orders.{same_text}
use Rattle.seata_types.specs.ValueOrder.{value_cmp_total}
use Rattle.seata_types.specs.declared.limits.TheConstants.{RESOURCES, RESOURCE_ROWS, TABLES}
use Rattle.seata_types.specs.declared.rows.Row.{Row}
use Rattle.seata_types.specs.declared.rows.RowKey.{RowKey}
use Rattle.seata_types.specs.declared.rows.Value.{Value}
use Rattle.seata_types.specs.declared.rows.Value.TheVariants as value
use Rattle.local_tables.proofs.KeyLaws.{same_key, same_text_itself}
use Rattle.local_tables.proofs.RowFitLaws.{own_types_fit}
use Rattle.local_tables.specs.Checks.{type_of}
use Rattle.local_tables.specs.Rows.{fits_row, is_key, key_in, key_values, keyed, keyed_row, opening_entry, opening_rows, with_key, each_of, is_named, table_named}
use Rattle.local_tables.specs.declared.schemas.ColType.{ColType}
use Rattle.local_tables.specs.declared.schemas.ColType.TheVariants as type
use Rattle.local_tables.specs.declared.schemas.Schema.{Schema}
use Rattle.local_tables.specs.declared.schemas.TableDef.{TableDef}
use Rattle.scenario_form.specs.declared.scenarios.ResourceDef.{ResourceDef}
use Rattle.scenario_form.specs.Contents.{AreDifferent, FitsColumn, IsTable, IsRow, IsOpeningRow, IsResource, table_name}
use Rattle.scenario_reader.specs.Faults.{within, to_item, to_member, items_length, list, member, an_object, only}
use Rattle.scenario_reader.specs.Names.{new_node, is_node, is_resource_named}
use Rattle.scenario_reader.specs.Resources as form
use Rattle.scenario_form.specs.Runnable.{resource_name}
use Rattle.scenario_reader.specs.Tables.{is_table_named, table, key_of, key_behind, with_part}
use Rattle.scenario_reader.specs.Tables as tables
use Rattle.scenario_reader.proofs.Apart.{different_push, stands_within}
use Rattle.scenario_reader.proofs.CallFacts.{find_named}
use Rattle.scenario_reader.proofs.Inverses.{bind_ok, within_ok, same_ok, list_ok, each_all, each_few, each_keeps}
use Rattle.scenario_reader.proofs.TableFacts.{IsRead, table_ok}
use Rattle.scenario_reader.proofs.WholeFacts.{new_node_ok}

abbrev schema_of : List TableDef → Schema
schema_of defs = record { tables = defs }

-- ---- tables that are looked up

-- a table that is found is found among more
find_kept : (test : TableDef → Bool) (defs more : List TableDef) (def : TableDef) → find test defs ≡ Some def → find test (defs ++ more) ≡ Some def
find_kept test defs more def is = find-append test defs more ∙ ap (λ (r : Option TableDef). option_or r (find test more)) is

found_here : (b : Bool) (def : TableDef) (rest : Option TableDef) → b ≡ true → cond b (Some def) rest ≡ Some def
found_here b def rest is = ap (λ c. cond c (Some def) rest) is

found_later : (b : Bool) (def : TableDef) (rest : Option TableDef) → b ≡ false → cond b (Some def) rest ≡ rest
found_later b def rest is = ap (λ c. cond c (Some def) rest) is

neither : (a b : Bool) → (a || b) ≡ false → (a ≡ false) × (b ≡ false)
neither true b e = absurd cc
neither false b e = (refl, e)

-- a table behind those of other names is found
find_new : (test : TableDef → Bool) (defs : List TableDef) (def : TableDef) → list_any test defs ≡ false → test def ≡ true → find test (defs ++ def ∷ []) ≡ Some def
find_new test [] def none is = found_here (test def) def None is
find_new test (d ∷ defs) def none is =
    let both = neither (test d) (list_any test defs) none in
    found_later (test d) d (find test (defs ++ def ∷ [])) both.0 ∙ find_new test defs def both.1 is

found_either : (b : Bool) (d : TableDef) (rest : Option TableDef) (def : TableDef) → cond b (Some d) rest ≡ Some def → (d ≡ def) ⊎ (rest ≡ Some def)
found_either true d rest def e = inl (same_Some d def e)
found_either false d rest def e = inr e

-- what holds of all tables holds of one that is found
found_has : (P : TableDef → Type 0) (test : TableDef → Bool) (defs : List TableDef) (def : TableDef) → All P defs → find test defs ≡ Some def → P def
found_has P test [] def all e = absurd cc
found_has P test (d ∷ defs) def all e =
    elim (found_either (test d) d (find test defs) def e) [
      | inl here ↦ subst P here (All-head P d defs all)
      | inr later ↦ found_has P test defs def (All-tail P d defs all) later
    ]

none_all : (test : TableDef → Bool) (defs : List TableDef) → list_any test defs ≡ false → All (λ d. test d ≡ false) defs
none_all test [] none = All-nil (λ d. test d ≡ false)
none_all test (d ∷ defs) none =
    let both = neither (test d) (list_any test defs) none in All-cons (λ z. test z ≡ false) d defs both.0 (none_all test defs both.1)

-- ---- keys of rows

-- the values of the key columns are all there
key_behind_is : (row : Row) (places : List ℕ) (parts : List Value) → All (λ k. k < length row.0) places
    → (found : List Value) × (each_of (slice_get row.0) places ≡ Some found) × (key_behind parts places row ≡ parts ++ found)
key_behind_is row [] parts within = ([], refl, sym (append-nil parts))
key_behind_is row (k ∷ places) parts within =
    let at = stands_within row.0 k (All-head (λ j. j < length row.0) k places within) in
    let rest = key_behind_is row places (parts ++ at.0 ∷ []) (All-tail (λ j. j < length row.0) k places within) in (
      at.0 ∷ rest.0,
      rw (at.1, rest.1),
      ap (λ (v : Option Value). key_behind (with_part parts v) places row) at.1 ∙ rest.2 ∙ append_assoc parts (at.0 ∷ []) rest.0,
    )

key_values_is : (def : TableDef) (row : Row) → IsTable def → IsRow def.columns row → key_values def row ≡ Some (key_of def.key row)
key_values_is def row table fits =
    let within = subst (λ n. All (λ k. k < n) def.key) (sym fits.whole) table.parts in
    let is = key_behind_is row def.key [] within in
    is.1 ∙ ap (λ (key : List Value). Some key) (sym is.2)

own_type : (t : ColType) (v : Value) → FitsColumn t v → t ≡ type_of v
own_type type.Int (value.Int number) fits = refl
own_type type.Text (value.Text text) fits = refl
own_type type.Int (value.Text text) fits = absurd fits
own_type type.Text (value.Int number) fits = absurd fits

-- a row of a table's columns fits the table
fits_row_is : (def : TableDef) (row : Row) → IsTable def → IsRow def.columns row → fits_row def row ≡ true
fits_row_is def row table fits =
    own_types_fit def row table.different fits.whole (λ k column cell at there. own_type column.1 cell (fits.each k column cell at there))

-- the entry of a row of a table
abbrev entry_of : ℕ → TableDef → Row → RowKey × Row
entry_of number def row = (key_in number def (key_of def.key row), row)

keyed_row_is : (number : ℕ) (schema : Schema) (o : List ℕ × Row) (def : TableDef) → table_named schema o.0 ≡ Some def → IsTable def → IsRow def.columns o.1
    → keyed_row number schema o ≡ Some (entry_of number def o.1)
keyed_row_is number schema o def found table fits =
    ap (λ (t : Option TableDef). opening_entry number t o.1) found
    ∙ ap (λ b. cond b (keyed number def o.1) None) (fits_row_is def o.1 table fits)
    ∙ ap (option_map (with_key number def o.1)) (key_values_is def o.1 table fits)

-- rows of tables that stay have the same entries among more tables
same_rows : (number : ℕ) (old new : Schema) (opening : List (List ℕ × Row)) → All (λ o. table_named new o.0 ≡ table_named old o.0) opening
    → opening_rows number new opening ≡ opening_rows number old opening
same_rows number old new [] all = refl
same_rows number old new (o ∷ opening) all =
    let P = λ (z : List ℕ × Row). table_named new z.0 ≡ table_named old z.0 in
    ap₂ cons_option (ap (λ (t : Option TableDef). opening_entry number t o.1) (All-head P o opening all)) (same_rows number old new opening (All-tail P o opening all))

-- the keys of the rows of one table
new_keys : (number : ℕ) (schema : Schema) (def : TableDef) (rows : List Row) → table_named schema def.name ≡ Some def → IsTable def → All (IsRow def.columns) rows
    → keys_of (opening_rows number schema (form.named_rows def.name rows)) ≡ map (λ (r : Row). key_in number def (key_of def.key r)) rows
new_keys number schema def [] found table fits = refl
new_keys number schema def (r ∷ rows) found table fits =
    let is = keyed_row_is number schema (def.name, r) def found table (All-head (IsRow def.columns) r rows fits) in
    let rest = new_keys number schema def rows found table (All-tail (IsRow def.columns) r rows fits) in
    ap (λ (e : Option (RowKey × Row)). keys_of (cons_option e (opening_rows number schema (form.named_rows def.name rows)))) is
    ∙ ap (λ (ks : List RowKey). key_in number def (key_of def.key r) ∷ ks) rest

-- the keys so far are of other tables than one of another name
old_keys : (number : ℕ) (defs : List TableDef) (name : List ℕ) (opening : List (List ℕ × Row)) → All IsTable defs → list_any (is_table_named name) defs ≡ false
    → All (IsOpeningRow (schema_of defs)) opening → AllByRecursion (λ k. same_text name k.table ≡ false) (keys_of (opening_rows number (schema_of defs) opening))
old_keys number defs name [] tables none rows = tt
old_keys number defs name (o ∷ opening) tables none rows =
    let at = All-head (IsOpeningRow (schema_of defs)) o opening rows in
    let is = keyed_row_is number (schema_of defs) o at.0 at.1 (found_has IsTable (is_named o.0) defs at.0 tables at.1) at.2 in
    let other = found_has (λ d. is_table_named name d ≡ false) (is_named o.0) defs at.0 (none_all (is_table_named name) defs none) at.1 in
    let rest = old_keys number defs name opening tables none (All-tail (IsOpeningRow (schema_of defs)) o opening rows) in
    let whole : AllByRecursion (λ k. same_text name k.table ≡ false) (key_in number at.0 (key_of at.0.key o.1) ∷ keys_of (opening_rows number (schema_of defs) opening)) = (other, rest) in
    subst (λ (e : Option (RowKey × Row)). AllByRecursion (λ k. same_text name k.table ≡ false) (keys_of (cons_option e (opening_rows number (schema_of defs) opening)))) (sym is) whole

-- ---- keys that differ

differs : (b : Bool) → (b ≡ true → ⊥) → b ≡ false
differs true no_way = absurd (no_way refl)
differs false no_way = refl

apart_tables : (k q : RowKey) → same_text q.table k.table ≡ false → is_key k q ≡ false
apart_tables k q other =
    differs (is_key k q) (λ one. true≢false (sym (ap (λ (z : RowKey). same_text q.table z.table) (same_key k q one) ∙ same_text_itself q.table) ∙ other))

apart_parts : (number : ℕ) (def : TableDef) (a b : List Value) → tables.same_key a b ≡ false → is_key (key_in number def a) (key_in number def b) ≡ false
apart_parts number def a b other =
    differs (is_key (key_in number def a) (key_in number def b))
    (λ one. let same : a ≡ b = ap (λ (z : RowKey). z.pk) (same_key (key_in number def a) (key_in number def b) one) in
    true≢false (sym (ap (λ (z : List Value). tables.same_key z b) same ∙ (eq_by_cmp_equiv (lists_total value_cmp_total)).refl b) ∙ other))

-- one key against those of a table of another name
apart_from : (k : RowKey) (number : ℕ) (def : TableDef) (rows : List Row) → same_text def.name k.table ≡ false
    → AllByRecursion (λ q. is_key k q ≡ false) (map (λ (r : Row). key_in number def (key_of def.key r)) rows)
apart_from k number def [] other = tt
apart_from k number def (r ∷ rows) other = (apart_tables k (key_in number def (key_of def.key r)) other, apart_from k number def rows other)

all_apart : (ks : List RowKey) (number : ℕ) (def : TableDef) (rows : List Row) → AllByRecursion (λ k. same_text def.name k.table ≡ false) ks
    → AllByRecursion (λ k. AllByRecursion (λ q. is_key k q ≡ false) (map (λ (r : Row). key_in number def (key_of def.key r)) rows)) ks
all_apart [] number def rows others = tt
all_apart (k ∷ ks) number def rows others = (apart_from k number def rows others.0, all_apart ks number def rows others.1)

one_apart : (number : ℕ) (def : TableDef) (a : List Value) (rows : List Row) → AllByRecursion (λ b. tables.same_key a b ≡ false) (map (key_of def.key) rows)
    → AllByRecursion (λ q. is_key (key_in number def a) q ≡ false) (map (λ (r : Row). key_in number def (key_of def.key r)) rows)
one_apart number def a [] others = tt
one_apart number def a (r ∷ rows) others = (apart_parts number def a (key_of def.key r) others.0, one_apart number def a rows others.1)

-- the rows of one table have different keys
new_apart : (number : ℕ) (def : TableDef) (rows : List Row) → IsDistinct tables.same_key (map (key_of def.key) rows)
    → IsDistinct is_key (map (λ (r : Row). key_in number def (key_of def.key r)) rows)
unfolding IsDistinct
new_apart number def [] apart = tt
new_apart number def (r ∷ rows) apart = (one_apart number def (key_of def.key r) rows apart.0, new_apart number def rows apart.1)

all_both : (P : RowKey → Type 0) (xs ys : List RowKey) → AllByRecursion P xs → AllByRecursion P ys → AllByRecursion P (xs ++ ys)
all_both P [] ys left right = right
all_both P (x ∷ xs) ys left right = (left.0, all_both P xs ys left.1 right)

distinct_append : (xs ys : List RowKey) → IsDistinct is_key xs → IsDistinct is_key ys → AllByRecursion (λ x. AllByRecursion (λ y. is_key x y ≡ false) ys) xs → IsDistinct is_key (xs ++ ys)
unfolding IsDistinct
distinct_append [] ys left right apart = right
distinct_append (x ∷ xs) ys left right apart = (all_both (λ y. is_key x y ≡ false) xs ys left.0 apart.0, distinct_append xs ys left.1 right apart.1)

keys_append : (xs ys : List (RowKey × Row)) → keys_of (xs ++ ys) ≡ keys_of xs ++ keys_of ys
keys_append [] ys = refl
keys_append (x ∷ xs) ys = ap (λ (ks : List RowKey). x.0 ∷ ks) (keys_append xs ys)

-- ---- the tables of a resource with their rows

-- tables, and rows of them, so far
record AreOpened (defs : List TableDef) (opening : List (List ℕ × Row)) : Type 0 where
  pub each : All IsTable defs
  pub different : AreDifferent (map table_name defs)
  pub few : length opening ≤ RESOURCE_ROWS
  pub rows : All (IsOpeningRow (schema_of defs)) opening
  pub apart : (number : ℕ) → IsDistinct is_key (keys_of (opening_rows number (schema_of defs) opening))

nothing_opened : AreOpened [] []
unfolding IsDistinct
nothing_opened =
    record { each = All-nil IsTable; different = tt; few = omega arith; rows = All-nil (IsOpeningRow (schema_of [])); apart = λ number. tt }

length_named : (name : List ℕ) (rows : List Row) → length (form.named_rows name rows) ≡ length rows
length_named name [] = refl
length_named name (r ∷ rows) = ap suc (length_named name rows)

-- one more table with its rows
one_opened : (defs : List TableDef) (opening : List (List ℕ × Row)) (def : TableDef) (more : List Row) → AreOpened defs opening → IsRead defs (length opening) def more
    → AreOpened (defs ++ def ∷ []) (opening ++ form.named_rows def.name more)
one_opened defs opening def more so_far next =
    let new = schema_of (defs ++ def ∷ []) in
    let here : table_named new def.name ≡ Some def =
    find_named def.name (defs ++ def ∷ []) ∙ find_new (is_table_named def.name) defs def next.new (same_text_itself def.name) in
    let kept : (o : List ℕ × Row) → IsOpeningRow (schema_of defs) o → IsOpeningRow new o =
    λ o row. (row.0, find_kept (is_named o.0) defs (def ∷ []) row.0 row.1, row.2) in
    let there : All (λ o. table_named new o.0 ≡ table_named (schema_of defs) o.0) opening =
    All-weaker (IsOpeningRow (schema_of defs)) (λ o. table_named new o.0 ≡ table_named (schema_of defs) o.0)
    (λ o row. find_kept (is_named o.0) defs (def ∷ []) row.0 row.1 ∙ sym row.1) opening so_far.rows in
    let added : All (IsOpeningRow new) (form.named_rows def.name more) =
    All-map (IsOpeningRow new) (λ (r : Row). (def.name, r)) more
    (All-weaker (IsRow def.columns) (λ (r : Row). IsOpeningRow new (def.name, r)) (λ r fits. (def, here, fits)) more next.kept.each) in
    let count : length (opening ++ form.named_rows def.name more) ≡ length opening + length more =
    length-append opening (form.named_rows def.name more) ∙ ap (λ n. length opening + n) (length_named def.name more) in
    record {
      each = All-push IsTable defs def so_far.each next.table;
      different = different_push table_name defs def next.new so_far.different;
      few = subst (λ n. n ≤ RESOURCE_ROWS) (sym count) next.few;
      rows = All-append (IsOpeningRow new) opening (form.named_rows def.name more) (All-weaker (IsOpeningRow (schema_of defs)) (IsOpeningRow new) kept opening so_far.rows) added;
      apart = λ number.
          let olds = keys_of (opening_rows number (schema_of defs) opening) in
          let news = map (λ (r : Row). key_in number def (key_of def.key r)) more in
          let whole : keys_of (opening_rows number new (opening ++ form.named_rows def.name more)) ≡ olds ++ news =
          ap keys_of (filter_map-append (keyed_row number new) opening (form.named_rows def.name more))
          ∙ keys_append (opening_rows number new opening) (opening_rows number new (form.named_rows def.name more))
          ∙ ap (λ (es : List (RowKey × Row)). keys_of es ++ keys_of (opening_rows number new (form.named_rows def.name more))) (same_rows number (schema_of defs) new opening there)
          ∙ ap (λ (ks : List RowKey). olds ++ ks) (new_keys number new def more here next.table next.kept.each) in
          subst (IsDistinct is_key) (sym whole)
          (distinct_append olds news (so_far.apart number) (new_apart number def more next.kept.apart)
          (all_apart olds number def more (old_keys number defs def.name opening so_far.each next.new so_far.rows)));
    }

each_table_ok : (ds : Items) (defs : List TableDef) (opening : List (List ℕ × Row)) (found : form.Opened) → AreOpened defs opening → form.each_table defs opening ds ≡ Ok found
    → AreOpened found.0 found.1 × (length found.0 ≡ length defs + items_length ds)
each_table_ok no_items defs opening found so_far e =
    let same = same_ok (defs, opening) found e in
    let whole : length defs ≡ length defs + items_length no_items = omega arith in
    subst (λ (z : form.Opened). AreOpened z.0 z.1 × (length z.0 ≡ length defs + items_length no_items)) same (so_far, whole)
each_table_ok (item d ds) defs opening found so_far e =
    let one = bind_ok (within (to_item (length defs)) (table defs (length opening) d)) (λ t. form.each_table (defs ++ t.0 ∷ []) (opening ++ form.named_rows t.0.name t.1) ds) found e in
    let next = table_ok defs (length opening) d one.0 (within_ok (to_item (length defs)) (table defs (length opening) d) one.0 one.1) in
    let rest = each_table_ok ds (defs ++ one.0.0 ∷ []) (opening ++ form.named_rows one.0.0.name one.0.1) found (one_opened defs opening one.0.0 one.0.1 so_far next) one.2 in
    let more : length (defs ++ one.0.0 ∷ []) ≡ length defs + length (one.0.0 ∷ []) = length-append defs (one.0.0 ∷ []) in
    let single : length (one.0.0 ∷ []) ≡ 1 = refl in
    let whole : items_length (item d ds) ≡ suc (items_length ds) = refl in
    let last = rest.1 in
    (rest.0, omega arith)

tables_ok : (d : Option Data) (found : form.Opened) → form.tables d ≡ Ok found → AreOpened found.0 found.1 × (length found.0 ≤ TABLES)
unfolding form.tables
tables_ok d found e =
    let items = bind_ok (list TABLES d) _ _ e in
    let few = list_ok TABLES d items.0 items.1 in
    let all = each_table_ok items.0 [] [] found nothing_opened items.2 in
    let whole = all.1 in
    (all.0, omega arith)

-- ---- resources

opening_each : (number : ℕ) (defs : List TableDef) (opening : List (List ℕ × Row)) → All IsTable defs → All (IsOpeningRow (schema_of defs)) opening
    → All (λ o. IsSome (keyed_row number (schema_of defs) o)) opening
opening_each number defs opening tables rows =
    All-weaker (IsOpeningRow (schema_of defs)) (λ o. IsSome (keyed_row number (schema_of defs) o))
    (λ o row. ap is_some (keyed_row_is number (schema_of defs) o row.0 row.1 (found_has IsTable (is_named o.0) defs row.0 tables row.1) row.2)) opening rows

-- a resource behind these
record IsNext (before : List ResourceDef) (def : ResourceDef) : Type 0 where
  pub sound : IsResource def
  pub new : is_node before [] def.name ≡ false

resource_ok : (before : List ResourceDef) (d : Data) (def : ResourceDef) → form.resource before d ≡ Ok def → IsNext before def
unfolding form.resource
resource_ok before d def e =
    let shape = bind_ok (an_object d) _ _ e in
    let name = bind_ok (member (codes "name") (new_node before []) d) _ _ shape.2 in
    let found = bind_ok (member (codes "tables") form.tables d) _ _ name.2 in
    let last = bind_ok (only form.resource_members d) _ _ found.2 in
    let new = new_node_ok before [] (get (codes "name") d) name.0 (within_ok (to_member (codes "name")) _ _ name.1) in
    let opened = tables_ok (get (codes "tables") d) found.0 (within_ok (to_member (codes "tables")) _ _ found.1) in
    let whole : IsNext before (record { name = name.0; schema = schema_of found.0.0; opening = found.0.1 }) =
    record {
      sound = record {
        name = new.0;
        schema = record { few = opened.1; each = opened.0.each; different = opened.0.different };
        few = opened.0.few;
        rows = opened.0.rows;
        opens = λ number. record { each = opening_each number found.0.0 found.0.1 opened.0.each opened.0.rows; different = opened.0.apart number };
      };
      new = new.1;
    } in
    subst (IsNext before) (same_ok (record { name = name.0; schema = schema_of found.0.0; opening = found.0.1 }) def last.2) whole

-- the resources of a scenario
pub record AreResources (resources : List ResourceDef) : Type 0 where
  pub few : length resources ≤ RESOURCES
  pub each : All IsResource resources
  pub different : AreDifferent (map resource_name resources)

neither_node : (before : List ResourceDef) (name : List ℕ) → is_node before [] name ≡ false → list_any (is_resource_named name) before ≡ false
neither_node before name e = (neither (list_any (is_resource_named name) before) false e).0

none_different : AreDifferent (map resource_name [])
unfolding IsDistinct
none_different = tt

pub resources_ok : (d : Option Data) (resources : List ResourceDef) → form.resources d ≡ Ok resources → AreResources resources
unfolding form.resources
resources_ok d resources e =
    let items = bind_ok (list RESOURCES d) _ _ e in
    record {
      few = each_few form.resource RESOURCES d items.0 resources items.1 items.2;
      each = each_all form.resource IsResource (λ before one def reads. (resource_ok before one def reads).sound) items.0 resources items.2;
      different = each_keeps form.resource (λ before. AreDifferent (map resource_name before))
          (λ before one def apart reads. different_push resource_name before def (neither_node before def.name (resource_ok before one def reads).new) apart)
          [] items.0 resources none_different items.2;
    }
