-- The tables of a resource that was read, and its rows at the opening, have places in a journal.
use Rattle.std.proofs.Common.{◌≡◌, ◌<◌, ◌≤◌, ℕ, zero, suc, Bool, true, false, cond, get_or, List, [], ◌∷◌, All, length, slice_get, Some, None, refl, subst, arith}
use Rattle.std.specs.List.{AllByRecursion, find, list_all}
use Rattle.std.specs.Prelude.{not}
use Rattle.std.proofs.lemmas.Bool.{and_parts}
use Rattle.std.proofs.lemmas.Bool.Decides.{nat_tests}
use Rattle.std.proofs.lemmas.List.Elements.{recursion_from_All}
use Rattle.std.proofs.lemmas.Option.{same_Some, slice_get-get_or}
use Rattle.std.proofs.lemmas.Str.{IsUtf8-from_ascii, is_utf8-from_IsUtf8}
use Rattle.seata_types.specs.declared.limits.TheConstants.{COLUMNS, NAME_BYTES}
use Rattle.seata_types.specs.declared.rows.Row.{Row}
use Rattle.seata_types.specs.declared.rows.Value.{Value}
use Rattle.seata_types.specs.declared.rows.Value.TheVariants as value
use Rattle.byte_fields.specs.Layout.{FitsRow, FitsText, FitsValue, is_control, is_plain}
use Rattle.byte_fields.specs.Parts.{FitsNamedRow}
use Rattle.local_tables.specs.Rows.{is_named}
use Rattle.local_tables.specs.declared.schemas.ColType.{ColType}
use Rattle.local_tables.specs.declared.schemas.ColType.TheVariants as type
use Rattle.local_tables.specs.declared.schemas.Schema.{Schema}
use Rattle.local_tables.specs.declared.schemas.TableDef.{TableDef}
use Rattle.local_tables.proofs.KeyLaws.{same_text_same}
use Rattle.record_places.specs.Within.{IsTableWithin}
use Rattle.resource_store.specs.Meaning.{Opens, setting}
use Rattle.scenario_form.specs.Contents.{FitsColumn, IsOpeningRow, IsResource, IsRow, IsTable}
use Rattle.scenario_form.specs.Names.{is_lower, is_lower_word, is_name_byte, is_table_name}
use Rattle.scenario_form.specs.Contents.{Column, is_printable}
use Rattle.scenario_form.specs.declared.scenarios.ResourceDef.{ResourceDef}
use Rattle.scenario_nodes.specs.Calls.{HasType, HasTypes}
use Rattle.scenario_nodes.proofs.Passes.{placed}

-- ---- names

byte_low : (c : ℕ) → is_name_byte c ≡ true → c < 128
byte_low c e = grind (arith, nat_tests)

byte_plain : (c : ℕ) → is_name_byte c ≡ true → not (is_control c) ≡ true
byte_plain c e = grind (arith, nat_tests)

name_bytes : (c : ℕ) (cs : List ℕ) → is_lower_word (c ∷ cs) ≡ true → list_all is_name_byte (c ∷ cs) ≡ true
name_bytes c cs e = let parts = and_parts (is_lower c) (list_all is_name_byte cs) e in rw (parts.0, parts.1) refl

word_bytes : (name : List ℕ) → is_lower_word name ≡ true → list_all is_name_byte name ≡ true
word_bytes [] e = refl
word_bytes (c ∷ cs) e = name_bytes c cs e

ascii : (name : List ℕ) → list_all is_name_byte name ≡ true → (i : ℕ) → get_or name i 0 < 128
ascii [] e i = omega arith
ascii (c ∷ cs) e zero = byte_low c (and_parts (is_name_byte c) (list_all is_name_byte cs) e).0
ascii (c ∷ cs) e (suc i) = ascii cs (and_parts (is_name_byte c) (list_all is_name_byte cs) e).1 i

uncontrolled : (name : List ℕ) → list_all is_name_byte name ≡ true → list_all (λ c. not (is_control c)) name ≡ true
uncontrolled [] e = refl
uncontrolled (c ∷ cs) e = let parts = and_parts (is_name_byte c) (list_all is_name_byte cs) e in rw (byte_plain c parts.0, uncontrolled cs parts.1) refl

name_fits : (name : List ℕ) → is_table_name name ≡ true → length name ≤ NAME_BYTES → FitsText name
unfolding is_table_name is_plain
name_fits name form short =
    let bytes = word_bytes name (and_parts (is_lower_word name) _ form).0 in
    record { short = omega (arith, short); plain = rw (is_utf8-from_IsUtf8 name (IsUtf8-from_ascii name (ascii name bytes)), uncontrolled name bytes) refl }

-- ---- tables

table_within : (def : TableDef) → IsTable def → IsTableWithin def
table_within def is =
    let columns = is.columns in
    let key = is.key in
    record {
      name = name_fits def.name is.name.form is.name.short;
      short = is.name.short;
      columns = columns.1;
      keyed = key.0;
      parts = key.1;
    }

pub tables_within : (defs : List TableDef) → All IsTable defs → AllByRecursion IsTableWithin defs
tables_within defs all = recursion_from_All IsTableWithin defs (λ k d below. table_within (get_or defs k d) (all k d below))

-- ---- rows

-- a table that a name finds is one of them, and has this name
named_found : (name : List ℕ) (defs : List TableDef) (def : TableDef) → find (is_named name) defs ≡ Some def → (k : ℕ) × (slice_get defs k ≡ Some def) × (def.name ≡ name)
named_found name [] def e = absurd (let no : None ≡ Some def = e in cc)
named_found name (first ∷ defs) def e = by (named_found name defs def) (is_named name first) refl e
  where
    by : (find (is_named name) defs ≡ Some def → (k : ℕ) × (slice_get defs k ≡ Some def) × (def.name ≡ name)) → (b : Bool) → is_named name first ≡ b
        → cond b (Some first) (find (is_named name) defs) ≡ Some def → (k : ℕ) × (slice_get (first ∷ defs) k ≡ Some def) × (def.name ≡ name)
    by later true is found = (0, found, subst (λ (d : TableDef). d.name ≡ name) (same_Some first def found) (same_text_same first.name name is))
    by later false is found = let (k, at, called) = later found in (suc k, at, called)

-- a printable text has no control character
pub plain_text : (text : List ℕ) → list_all is_printable text ≡ true → list_all (λ c. not (is_control c)) text ≡ true
plain_text [] e = refl
plain_text (c ∷ text) e = let parts = and_parts (is_printable c) (list_all is_printable text) e in rw (plain_byte c parts.0, plain_text text parts.1) refl
  where
    plain_byte : (c : ℕ) → is_printable c ≡ true → not (is_control c) ≡ true
    plain_byte c e = grind (arith, nat_tests)

value_fits : (t : ColType) (v : Value) → FitsColumn t v → HasType v → FitsValue v
unfolding is_plain
value_fits type.Int (value.Int number) fits is = is
value_fits type.Text (value.Text text) (printable, short) is = (short, rw (is_utf8-from_IsUtf8 text is, plain_text text printable) refl)
value_fits type.Int (value.Text text) fits is = absurd fits
value_fits type.Text (value.Int number) fits is = absurd fits

there : {A : Type 0} (xs : List A) (k : ℕ) → k < length xs → (x : A) × (slice_get xs k ≡ Some x)
there [] k below = absurd (omega (arith, below))
there (x ∷ xs) zero below = (x, refl)
there (x ∷ xs) (suc k) below = there xs k (omega (arith, below))

row_fits : (columns : List Column) (row : Row) → length columns ≤ COLUMNS → IsRow columns row → All HasType row.0 → FitsRow row
row_fits columns row few is typed = record {
  count = let whole = is.whole in omega (arith, few, whole);
  each = value_at;
}
  where
    value_at : (k : ℕ) (d : Value) → k < length row.0 → FitsValue (get_or row.0 k d)
    value_at k d below =
        let whole = is.whole in
        let (column, at) = there columns k (omega (arith, below, whole)) in
        value_fits column.1 (get_or row.0 k d) (is.each k column (get_or row.0 k d) at (slice_get-get_or row.0 k d below)) (typed k d below)

pub rows_fit : (schema : Schema) (opening : List (List ℕ × Row)) → All IsTable schema.tables → All (IsOpeningRow schema) opening → All HasTypes opening → All FitsNamedRow opening
rows_fit schema opening tables rows typed = λ k d below. row_at (get_or opening k d) (rows k d below) (typed k d below)
  where
    row_at : (o : List ℕ × Row) → IsOpeningRow schema o → HasTypes o → FitsNamedRow o
    row_at o (def, found, is) types =
        let (k, at, called) = named_found o.0 schema.tables def found in
        let table = placed IsTable schema.tables k def at tables in
        let columns = table.columns in
        (subst FitsText called (name_fits def.name table.name.form table.name.short), row_fits def.columns o.1 columns.1 is types)

pub resource_opens : (n : ℕ) (def : ResourceDef) → IsResource def → All HasTypes def.opening → Opens (setting n def.schema def.opening)
resource_opens n def is typed = record { opens = is.opens n; fits = rows_fit def.schema def.opening is.schema.each is.rows typed }
