-- Tables stay sound where a row with its key is put, and where a row goes.
use Rattle.std.proofs.Common.{◌≡◌, ℕ, Bool, true, false, cond, List, [], ◌∷◌, find, Option, Some, None, option_map, sym, refl, ap, ◌∙◌, subst}
use Rattle.std.specs.List.Sorted.{IsStrictlySortedBy}
use Rattle.std.proofs.lemmas.Option.{none-some}
use Rattle.seata_types.specs.declared.rows.Row.{Row}
use Rattle.seata_types.specs.declared.rows.RowKey.{RowKey}
use Rattle.seata_types.specs.declared.rows.Value.{Value}
use Rattle.local_tables.specs.Rows.{Rows, FitsKey, SideFitsKey, IsRowOf, fits_row, is_key, is_named, key_in, key_values, keyed, opening_entry, with_key, put, row_at, table_named}
use Rattle.local_tables.specs.Sound.{IsSound}
use Rattle.local_tables.specs.declared.schemas.Schema.{Schema}
use Rattle.local_tables.specs.declared.schemas.TableDef.{TableDef}
use Rattle.local_tables.proofs.KeyLaws.{same_key, same_text_same}
use Rattle.local_tables.proofs.PutLaws.{map_put, row_at_put}

found_passes : {X : Type 0} (p : X → Bool) (xs : List X) (x : X) → find p xs ≡ Some x → p x ≡ true
found_passes p [] x e = cc
found_passes p (y ∷ ys) x e = by (p y) refl e (found_passes p ys x)
  where
    by : (b : Bool) → p y ≡ b → cond b (Some y) (find p ys) ≡ Some x → (find p ys ≡ Some x → p x ≡ true) → p x ≡ true
    by true q f h = let same : y ≡ x = cc in ap p (sym same) ∙ q
    by false q f h = h f

-- a table has the name by which it was found
pub named : (schema : Schema) (name : List ℕ) (def : TableDef) → table_named schema name ≡ Some def → def.name ≡ name
named schema name def e = same_text_same def.name name (found_passes (is_named name) schema.tables def e)

-- one table by one name
pub same_table : (schema : Schema) (name : List ℕ) (def other : TableDef) → table_named schema name ≡ Some def → table_named schema def.name ≡ Some other → def ≡ other
same_table schema name def other e f =
    let same : table_named schema def.name ≡ table_named schema name = ap (table_named schema) (named schema name def e) in
    cc

-- what an entry is like that was made of a row of this table
pub record IsEntryOf (resource : ℕ) (def : TableDef) (row : Row) (e : RowKey × Row) : Type 0 where
  pub number : e.0.resource ≡ resource
  pub table : e.0.table ≡ def.name
  pub values : key_values def e.1 ≡ Some e.0.pk
  pub same : row ≡ e.1

keyed_cell : (resource : ℕ) (def : TableDef) (row : Row) (e : RowKey × Row) (o : Option (List Value)) → key_values def row ≡ o → option_map (with_key resource def row) o ≡ Some e → IsEntryOf resource def row e
keyed_cell resource def row e None o f = cc
keyed_cell resource def row e (Some pk) o f =
    let key : key_in resource def pk ≡ e.0 = cc in
    let same : row ≡ e.1 = cc in
    record {
      number = sym (ap (λ (k : RowKey). k.resource) key);
      table = sym (ap (λ (k : RowKey). k.table) key);
      values = sym (ap (λ (r : Row). key_values def r) same) ∙ o ∙ ap (λ (k : RowKey). Some k.pk) key;
      same = same;
    }

-- what a row is like that was given its key
pub keyed_has : (resource : ℕ) (def : TableDef) (row : Row) (e : RowKey × Row) → keyed resource def row ≡ Some e → IsEntryOf resource def row e
keyed_has resource def row e f = keyed_cell resource def row e (key_values def row) refl f

-- a row of a table that is found by a name
pub fits_key_from : (schema : Schema) (name : List ℕ) (def : TableDef) (key : RowKey) (row : Row) → table_named schema name ≡ Some def → key.table ≡ def.name → IsRowOf def key row → FitsKey schema key row
fits_key_from schema name def key row e t h other f =
    let same : def ≡ other = same_table schema name def other e (ap (table_named schema) (sym t) ∙ f) in
    subst (λ (d : TableDef). IsRowOf d key row) same h

pub sound_nil : (schema : Schema) → IsSound schema []
unfolding IsStrictlySortedBy
sound_nil schema = record { in_order = tt; keyed = λ key row e. absurd (none-some row e) }

put_keyed : (schema : Schema) (rows : Rows) (k q : RowKey) (c : Option Row) (row : Row) (b : Bool) → is_key k q ≡ b → SideFitsKey schema k c → (row_at rows q ≡ Some row → FitsKey schema q row) → cond b c (row_at rows q) ≡ Some row → FitsKey schema q row
put_keyed schema rows k q (Some new) row true e h old f =
    let same : new ≡ row = cc in
    subst (λ (r : Row). FitsKey schema q r) same (subst (λ (j : RowKey). FitsKey schema j new) (same_key k q e) h)
put_keyed schema rows k q None row true e h old f = absurd (none-some row f)
put_keyed schema rows k q c row false e h old f = old f

pub sound_put : (schema : Schema) (rows : Rows) (k : RowKey) (c : Option Row) → IsSound schema rows → SideFitsKey schema k c → IsSound schema (put rows k c)
sound_put schema rows k c s h = record {
  in_order = map_put rows k c s.in_order;
  keyed = λ q row e. put_keyed schema rows k q c row (is_key k q) refl h (s.keyed q row) (sym (row_at_put rows k c q s.in_order) ∙ e);
}

-- an opening row has its key, and fits
pub opened_has : (resource : ℕ) (def : TableDef) (row : Row) (e : RowKey × Row) → opening_entry resource (Some def) row ≡ Some e → (fits_row def row ≡ true) × IsEntryOf resource def row e
opened_has resource def row e f = by (fits_row def row) refl f
  where
    by : (b : Bool) → fits_row def row ≡ b → cond b (keyed resource def row) None ≡ Some e → (fits_row def row ≡ true) × IsEntryOf resource def row e
    by true fits g = (fits, keyed_has resource def row e g)
    by false fits g = absurd (none-some e g)

pub entry_fits : (resource : ℕ) (def : TableDef) (row : Row) (e : RowKey × Row) → fits_row def row ≡ true → IsEntryOf resource def row e → IsRowOf def e.0 e.1
entry_fits resource def row e fits has = record { fits = ap (fits_row def) (sym has.same) ∙ fits; values = has.values }

-- an opening row at its key
pub sound_opened : (resource : ℕ) (schema : Schema) (name : List ℕ) (def : TableDef) (row : Row) (e : RowKey × Row) (rows : Rows) → Some def ≡ table_named schema name → opening_entry resource (Some def) row ≡ Some e → IsSound schema rows → IsSound schema (put rows e.0 (Some e.1))
sound_opened resource schema name def row e rows t f s =
    let has = opened_has resource def row e f in
    sound_put schema rows e.0 (Some e.1) s (fits_key_from schema name def e.0 e.1 (sym t) has.1.table (entry_fits resource def row e has.0 has.1))
