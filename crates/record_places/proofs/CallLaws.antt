-- What the statements of a call did so far has places: the rows that it changed, and those that it read.
use Rattle.std.proofs.Common.{◌≡◌, ℕ, ◌≤◌, ◌<◌, ◌+◌, ◌^◌, ◌==◌, eqb-true, Bool, true, false, cond, List, [], ◌∷◌, length, map, filter, find, Option, Some, None, Ok, Err, refl, sym, subst, arith}
use Rattle.std.specs.List.{AllByRecursion, cons_option}
use Rattle.std.proofs.lemmas.Bool.{and_parts}
use Rattle.std.proofs.lemmas.List.Elements.{All-from_recursion}
use Rattle.std.proofs.lemmas.Option.{none-some}
use Rattle.seata_types.specs.declared.limits.TheConstants.{COLUMNS, NAME_BYTES}
use Rattle.seata_types.specs.declared.rows.Row.{Row}
use Rattle.seata_types.specs.declared.rows.RowKey.{RowKey}
use Rattle.seata_types.specs.declared.rows.Value.{Value}
use Rattle.seata_types.specs.declared.statements.Expr.{Expr}
use Rattle.seata_types.specs.declared.statements.Stmt.{Stmt}
use Rattle.seata_types.specs.declared.statements.Stmt.TheVariants as stmt
use Rattle.byte_fields.specs.Layout.{FitsKey, FitsText, FitsValue}
use Rattle.local_tables.specs.Calls.{Call, Meaning, nothing, steps, step}
use Rattle.local_tables.specs.Checks.{table_of}
use Rattle.local_tables.specs.Rows.{Database, Rows, Change, HasItsKey, comes, fits_row, goes, is_key, opening_entry, put_all, row_at, table_named}
use Rattle.local_tables.specs.Touches.{becomes, inserted, inserted_row, is_matched, readings, touches, tuple_row}
use Rattle.local_tables.specs.declared.schemas.TableDef.{TableDef}
use Rattle.local_tables.proofs.ChangeLaws.{each_insert_all}
use Rattle.local_tables.proofs.MeaningLaws.{IsTaken, Oks, step_oks, with_step}
use Rattle.local_tables.proofs.RowsKept.{all_put_all}
use Rattle.local_tables.proofs.SoundLaws.{IsEntryOf, keyed_has, opened_has}
use Rattle.record_places.specs.Within.{AreTablesWithin, HasValues, IsSetWithin, IsStmtWithin, IsTableWithin}
use Rattle.record_places.proofs.ValueLaws.{parts_within, tuple_within, updated_within}

some_is : {A : Type 0} (a b : A) → Some a ≡ Some b → a ≡ b
some_is a b e = cc

-- a key that has a place, with no longer a table's name than it may have
pub record IsKeyWithin (key : RowKey) : Type 0 where
  pub fits : FitsKey key
  pub short : length key.table ≤ NAME_BYTES

pub record IsRowWithin (row : Row) : Type 0 where
  pub values : AllByRecursion FitsValue row.0
  pub count : length row.0 ≤ COLUMNS

abbrev pub IsEntryWithin : RowKey × Row → Type 0
IsEntryWithin e = IsKeyWithin e.0 × IsRowWithin e.1

abbrev pub IsSideWithin : Option Row → Type 0
IsSideWithin o = (row : Row) → o ≡ Some row → IsRowWithin row

abbrev pub IsChangeWithin : Change → Type 0
IsChangeWithin c = IsKeyWithin c.0 × IsSideWithin c.1

pub record IsCallWithin (call : Call) : Type 0 where
  pub changed : AllByRecursion IsChangeWithin call.changes
  pub read : AllByRecursion IsEntryWithin call.reads

-- ---- lists

pub found_in : {A : Type 0} (P : A → Type 0) (p : A → Bool) (xs : List A) (x : A) → AllByRecursion P xs → find p xs ≡ Some x → P x
found_in P p [] x all e = absurd (none-some x e)
found_in P p (y ∷ ys) x all e = by (found_in P p ys x all.1) (p y) e
  where
    by : (find p ys ≡ Some x → P x) → (b : Bool) → cond b (Some y) (find p ys) ≡ Some x → P x
    by later true f = subst P (some_is y x f) all.0
    by later false f = later f

each_filtered : {A B : Type 0} (P : A → Type 0) (Q : B → Type 0) (p : A → Bool) (f : A → B) → ((x : A) → P x → Q (f x)) → (xs : List A) → AllByRecursion P xs → AllByRecursion Q (map f (filter p xs))
each_filtered P Q p f gives [] all = tt
each_filtered P Q p f gives (x ∷ xs) all = by (each_filtered P Q p f gives xs all.1) (p x)
  where
    by : AllByRecursion Q (map f (filter p xs)) → (b : Bool) → AllByRecursion Q (map f (cond b (x ∷ filter p xs) (filter p xs)))
    by rest true = (gives x all.0, rest)
    by rest false = rest

each_left : {A : Type 0} (P : A → Type 0) (p : A → Bool) (xs : List A) → AllByRecursion P xs → AllByRecursion P (filter p xs)
each_left P p [] all = tt
each_left P p (x ∷ xs) all = by (each_left P p xs all.1) (p x)
  where
    by : AllByRecursion P (filter p xs) → (b : Bool) → AllByRecursion P (cond b (x ∷ filter p xs) (filter p xs))
    by rest true = (all.0, rest)
    by rest false = rest

-- the row at a key
pub at_within : (es : Rows) (key : RowKey) → AllByRecursion IsEntryWithin es → IsSideWithin (row_at es key)
at_within [] key all = λ row e. absurd (none-some row e)
at_within (x ∷ xs) key all = by (is_key key x.0) (at_within xs key all.1)
  where
    by : (b : Bool) → IsSideWithin (row_at xs key) → IsSideWithin (cond b (Some x.1) (row_at xs key))
    by true later = λ row e. subst IsRowWithin (some_is x.1 row e) all.0.1
    by false later = later

module _ (db : Database) (w : AreTablesWithin db) where
  pub table_within : (name : List ℕ) (def : TableDef) → table_named db.schema name ≡ Some def → IsTableWithin def
  table_within name def e = found_in IsTableWithin _ db.schema.tables def w.tables e

  -- the key of a row of a table
  pub key_of_entry : (def : TableDef) → IsTableWithin def → (row : Row) (e : RowKey × Row) → IsEntryOf db.resource def row e → AllByRecursion FitsValue e.1.0 → IsKeyWithin e.0
  key_of_entry def t row e is values =
      let parts = parts_within def e.1 values e.0.pk is.values in
      record {
        fits = record {
          resource = subst (λ (n : ℕ). n < 2 ^ 16) (sym is.number) w.resource;
          table = subst FitsText (sym is.table) t.name;
          pk = record {
            count = (omega (arith, parts.1, t.keyed), omega (arith, parts.1, t.parts));
            each = All-from_recursion FitsValue e.0.pk parts.0;
          };
        };
        short = subst (λ (name : List ℕ). length name ≤ NAME_BYTES) (sym is.table) t.short;
      }

  row_count : (def : TableDef) → IsTableWithin def → (row : Row) → fits_row def row ≡ true → length row.0 ≤ COLUMNS
  row_count def t row e =
      let same = eqb-true (length row.0) (length def.columns) (and_parts (length row.0 == length def.columns) _ e).0 in
      omega (arith, same, t.columns)

  entry_within : (e : RowKey × Row) → HasItsKey db.resource db.schema e → HasValues e → IsEntryWithin e
  entry_within e h values = by (table_named db.schema e.0.table) refl h
    where
      by : (table : Option TableDef) → table_named db.schema e.0.table ≡ table → opening_entry db.resource table e.1 ≡ Some e → IsEntryWithin e
      by None is f = absurd (none-some e f)
      by (Some def) is f =
          let has = opened_has db.resource def e.1 e f in
          let t = table_within e.0.table def is in
          (key_of_entry def t e.1 e has.1 values, record { values = values; count = row_count def t e.1 has.0 })

  entries_within : (es : Rows) → AllByRecursion (HasItsKey db.resource db.schema) es → AllByRecursion HasValues es → AllByRecursion IsEntryWithin es
  entries_within [] keyed values = tt
  entries_within (e ∷ es) keyed values = (entry_within e keyed.0 values.0, entries_within es keyed.1 values.1)

  pub rows_within : AllByRecursion IsEntryWithin db.rows
  rows_within = entries_within db.rows w.rows.keyed w.values

  -- ---- what a statement puts and reads

  module _ (def : TableDef) (t : IsTableWithin def) where
    inserted_within : (columns : List (List ℕ)) (tuples : List (List Value)) → AllByRecursion (AllByRecursion FitsValue) tuples → AllByRecursion IsChangeWithin (map comes (inserted db.resource def columns tuples))
    inserted_within columns [] all = tt
    inserted_within columns (x ∷ xs) all = by (inserted_row db.resource def columns x) refl (inserted_within columns xs all.1)
      where
        by : (o : Option (RowKey × Row)) → inserted_row db.resource def columns x ≡ o → AllByRecursion IsChangeWithin (map comes (inserted db.resource def columns xs))
            → AllByRecursion IsChangeWithin (map comes (cons_option o (inserted db.resource def columns xs)))
        by None is rest = rest
        by (Some e) is rest =
            let has = keyed_has db.resource def (tuple_row def columns x) e is in
            let made = tuple_within def columns x all.0 in
            let row : IsRowWithin e.1 = subst IsRowWithin has.same (record { values = made.0; count = omega (arith, made.1, t.columns) }) in
            ((key_of_entry def t (tuple_row def columns x) e has row.values, λ other same. subst IsRowWithin (some_is e.1 other same) row), rest)

    updated_row : (sets : List (List ℕ × Expr)) (old new : Row) → AllByRecursion IsSetWithin sets → IsRowWithin old → IsSideWithin (becomes def sets (record { resource = 0; table = []; pk = [] }, old)).1
    updated_row sets old new are is = λ row e.
        let made = updated_within def old is.values sets row are e in
        record { values = made.0; count = omega (arith, made.1, is.count) }

    touched_within : (s : Stmt) (now : Rows) → IsStmtWithin s → AllByRecursion IsEntryWithin now → AllByRecursion IsChangeWithin (touches db.resource def s now)
    touched_within (stmt.Insert table columns tuples) now is all = inserted_within columns tuples is
    touched_within (stmt.Update table sets asked) now is all =
        each_filtered IsEntryWithin IsChangeWithin (is_matched db.resource def asked) (becomes def sets) (λ e h. (h.0, updated_row sets e.1 e.1 is h.1)) now all
    touched_within (stmt.Delete table asked) now is all = each_filtered IsEntryWithin IsChangeWithin (is_matched db.resource def asked) goes (λ e h. (h.0, λ row none. absurd (none-some row none))) now all
    touched_within (stmt.Select table asked) now is all = tt

    read_within : (s : Stmt) (now : Rows) → AllByRecursion IsEntryWithin now → AllByRecursion IsEntryWithin (readings db.resource def s now)
    read_within (stmt.Insert table columns tuples) now all = tt
    read_within (stmt.Update table sets asked) now all = tt
    read_within (stmt.Delete table asked) now all = tt
    read_within (stmt.Select table asked) now all = each_left IsEntryWithin (is_matched db.resource def asked) now all

  -- ---- statement after statement

  pub puts_within : (cs : List Change) → AllByRecursion IsChangeWithin cs → AllByRecursion (λ (c : Change). (row : Row) → c.1 ≡ Some row → IsEntryWithin (c.0, row)) cs
  puts_within [] all = tt
  puts_within (c ∷ cs) all = ((λ row e. (all.0.0, all.0.1 row e)), puts_within cs all.1)

  pub going : (call : Call) (s : Stmt) (def : TableDef) → IsTaken db call s def → IsStmtWithin s → IsCallWithin call → IsCallWithin (with_step db call s def)
  going call s def taken is h =
      let t = table_within (table_of s) def taken.named in
      let now = all_put_all IsEntryWithin db.rows call.changes rows_within (puts_within call.changes h.changed) in
      record {
        changed = each_insert_all IsChangeWithin call.changes (touches db.resource def s (put_all db.rows call.changes)) h.changed (touched_within def t s (put_all db.rows call.changes) is now);
        read = each_insert_all IsEntryWithin call.reads (readings db.resource def s (put_all db.rows call.changes)) h.read (read_within def t s (put_all db.rows call.changes) now);
      }

  pub steps_within : (ss : List Stmt) (i : ℕ) (m : Meaning Call) (call : Call) → AllByRecursion IsStmtWithin ss → Oks IsCallWithin m → steps db i m ss ≡ Ok call → IsCallWithin call
  steps_within [] i (Ok c) call all h e = let same : c ≡ call = cc in subst IsCallWithin same h
  steps_within [] i (Err f) call all h e = absurd cc
  steps_within (s ∷ ss) i (Ok c) call all h e =
      steps_within ss (i + 1) (step db c s) call all.1 (step_oks db c s IsCallWithin (λ def taken. going c s def taken all.0 h)) e
  steps_within (s ∷ ss) i (Err f) call all h e = absurd cc

  pub nothing_within : IsCallWithin nothing
  nothing_within = record { changed = tt; read = tt }
