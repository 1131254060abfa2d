-- The key at which a statement has no meaning has a place.
use Rattle.std.proofs.Common.{◌≡◌, ℕ, ◌≤◌, ◌+◌, ◌==◌, eqb-true, nat_le, Bool, true, false, cond, List, [], ◌∷◌, length, filter, find, Option, Some, None, option_map, Result, Ok, Err, refl, ap, subst, arith}
use Rattle.std.specs.List.{AllByRecursion, cons_option}
use Rattle.std.specs.Map.{keys_of}
use Rattle.std.proofs.lemmas.Bool.{and_parts}
use Rattle.std.proofs.lemmas.Option.{none-some}
use Rattle.seata_types.specs.Condition.{Condition}
use Rattle.seata_types.specs.declared.errors.StmtError.{StmtError}
use Rattle.seata_types.specs.declared.errors.StmtError.TheVariants as errors
use Rattle.seata_types.specs.declared.limits.TheConstants.{CALL_ROWS, RESOURCE_ROWS}
use Rattle.seata_types.specs.declared.rows.Row.{Row}
use Rattle.seata_types.specs.declared.rows.RowKey.{RowKey}
use Rattle.seata_types.specs.declared.rows.Value.{Value}
use Rattle.seata_types.specs.declared.statements.Stmt.{Stmt}
use Rattle.seata_types.specs.declared.statements.Stmt.TheVariants as stmt
use Rattle.byte_fields.specs.Layout.{FitsValue}
use Rattle.local_tables.specs.Calls.{Call, Meaning, ◌>>=◌, check, effect, found, no_key, nothing, rows_seen, step, steps, to_effect}
use Rattle.local_tables.specs.Checks.{table_of, knows_columns, fills_columns, leaves_key, has_types}
use Rattle.local_tables.specs.Rows.{Database, Rows, is_in, put_all, table_named}
use Rattle.local_tables.specs.Touches.{duplicate, entry_key, inserted, inserted_row, is_matched, is_taken, matched, overflowing, overflows, tuple_row}
use Rattle.local_tables.specs.declared.schemas.TableDef.{TableDef}
use Rattle.local_tables.proofs.MeaningLaws.{Oks, step_oks, with_step}
use Rattle.local_tables.proofs.RowsKept.{all_put_all}
use Rattle.local_tables.proofs.SoundLaws.{keyed_has}
use Rattle.record_places.specs.Laws.{FaultsHavePlaces, IsFaultAmong}
use Rattle.record_places.specs.Within.{AreKeysOf, AreTablesWithin, IsFaultOf, IsKeyOf, IsStmtWithin, IsTableWithin}
use Rattle.record_places.proofs.CallLaws.{IsCallWithin, IsEntryWithin, found_in, going, key_of_entry, nothing_within, puts_within, rows_within, table_within}
use Rattle.record_places.proofs.ValueLaws.{tuple_within}

some_is : {A : Type 0} (a b : A) → Some a ≡ Some b → a ≡ b
some_is a b e = cc

-- ---- what holds of each reason for which there is no meaning

abbrev Errs : {X : Type 0} → (StmtError → Type 0) → Meaning X → Type 0
Errs P (Ok x) = Unit {0}
Errs P (Err e) = P e

check_errs : {Y : Type 0} (P : StmtError → Type 0) (b : Bool) (error : StmtError) (f : Unit {0} → Meaning Y) → P error → (b ≡ true → Errs P (f tt)) → Errs P (check b error >>= f)
check_errs P true error f p h = h refl
check_errs P false error f p h = p

found_errs : {Y : Type 0} (P : StmtError → Type 0) (o : Option TableDef) (f : TableDef → Meaning Y) → P errors.NoTable → ((def : TableDef) → o ≡ Some def → Errs P (f def)) → Errs P (found o >>= f)
found_errs P (Some def) f p h = h def refl
found_errs P None f p h = p

key_errs : {Y : Type 0} (P : StmtError → Type 0) (o : Option RowKey) (error : RowKey → StmtError) (f : Unit {0} → Meaning Y) → ((key : RowKey) → o ≡ Some key → P (error key)) → Errs P (f tt)
    → Errs P (no_key o error >>= f)
key_errs P None error f p h = h
key_errs P (Some key) error f p h = p key refl

fault_parts : (i : ℕ) (f : StmtError) (index : ℕ) (fault : StmtError) → ◌≡◌ {A = Result Call (ℕ × StmtError)} (Err (i, f)) (Err (index, fault)) → (i ≡ index) × (f ≡ fault)
fault_parts i f index fault e =
    let same : ◌≡◌ {A = ℕ × StmtError} (i, f) (index, fault) = cc in
    (ap (λ (q : ℕ × StmtError). q.0) same, ap (λ (q : ℕ × StmtError). q.1) same)

-- one of the items that pass a test, with what holds of each
passed : {A : Type 0} (P : A → Type 0) (p q : A → Bool) (xs : List A) (x : A) → AllByRecursion P xs → find q (filter p xs) ≡ Some x → P x × (p x ≡ true)
passed P p q [] x all e = absurd (none-some x e)
passed P p q (y ∷ ys) x all e = by (passed P p q ys x all.1) (p y) refl e
  where
    rest : (find q (filter p ys) ≡ Some x → P x × (p x ≡ true)) → p y ≡ true → (b : Bool) → cond b (Some y) (find q (filter p ys)) ≡ Some x → P x × (p x ≡ true)
    rest later is true f = subst (λ z. P z × (p z ≡ true)) (some_is y x f) (all.0, is)
    rest later is false f = later f

    by : (find q (filter p ys) ≡ Some x → P x × (p x ≡ true)) → (b : Bool) → p y ≡ b → find q (cond b (y ∷ filter p ys) (filter p ys)) ≡ Some x → P x × (p x ≡ true)
    by later true is f = rest later is (q y) f
    by later false is f = later f

module _ (db : Database) (w : AreTablesWithin db) where
  module _ (def : TableDef) (t : IsTableWithin def) where
    -- ---- a row of which a sum leaves 64 bits

    matched_key : (asked : Option Condition) (e : RowKey × Row) → IsEntryWithin e → is_matched db.resource def asked e ≡ true → IsKeyOf db.resource e.0
    matched_key asked e is m =
        let lies = and_parts (is_in db.resource def e.0) _ m in
        let place = and_parts (e.0.resource == db.resource) _ lies.0 in
        record { fits = is.0.fits; of = eqb-true e.0.resource db.resource place.0; short = is.0.short }

    overflow_key : (s : Stmt) (now : Rows) (key : RowKey) → AllByRecursion IsEntryWithin now → overflowing db.resource def s now ≡ Some key → IsKeyOf db.resource key
    overflow_key (stmt.Insert table columns tuples) now key all e = absurd (none-some key e)
    overflow_key (stmt.Delete table asked) now key all e = absurd (none-some key e)
    overflow_key (stmt.Select table asked) now key all e = absurd (none-some key e)
    overflow_key (stmt.Update table sets asked) now key all e = by (find (overflows def sets) (matched db.resource def asked now)) refl e
      where
        by : (o : Option (RowKey × Row)) → find (overflows def sets) (matched db.resource def asked now) ≡ o → option_map entry_key o ≡ Some key → IsKeyOf db.resource key
        by None is f = absurd (none-some key f)
        by (Some x) is f =
            let p = passed IsEntryWithin (is_matched db.resource def asked) (overflows def sets) now x all is in
            subst (IsKeyOf db.resource) (some_is x.0 key f) (matched_key asked x p.0 p.1)

    -- ---- a row that is there already, or inserted twice

    inserted_keys : (columns : List (List ℕ)) (tuples : List (List Value)) → AllByRecursion (AllByRecursion FitsValue) tuples → AreKeysOf db.resource (keys_of (inserted db.resource def columns tuples))
    inserted_keys columns [] all = tt
    inserted_keys columns (x ∷ xs) all = by (inserted_row db.resource def columns x) refl (inserted_keys columns xs all.1)
      where
        by : (o : Option (RowKey × Row)) → inserted_row db.resource def columns x ≡ o → AreKeysOf db.resource (keys_of (inserted db.resource def columns xs))
            → AreKeysOf db.resource (keys_of (cons_option o (inserted db.resource def columns xs)))
        by None is rest = rest
        by (Some e) is rest =
            let has = keyed_has db.resource def (tuple_row def columns x) e is in
            let values = subst (λ (r : Row). AllByRecursion FitsValue r.0) has.same (tuple_within def columns x all.0).0 in
            let key = key_of_entry db w def t (tuple_row def columns x) e has values in
            (record { fits = key.fits; of = has.number; short = key.short }, rest)

    duplicate_key : (s : Stmt) (now : Rows) (key : RowKey) → IsStmtWithin s → duplicate db.resource def s now ≡ Some key → IsKeyOf db.resource key
    duplicate_key (stmt.Insert table columns tuples) now key is e =
        found_in (IsKeyOf db.resource) (is_taken now (keys_of (inserted db.resource def columns tuples))) (keys_of (inserted db.resource def columns tuples)) key (inserted_keys columns tuples is) e
    duplicate_key (stmt.Update table sets asked) now key is e = absurd (none-some key e)
    duplicate_key (stmt.Delete table asked) now key is e = absurd (none-some key e)
    duplicate_key (stmt.Select table asked) now key is e = absurd (none-some key e)

  -- ---- one statement, and one after the other

  step_errs : (call : Call) (s : Stmt) → IsStmtWithin s → IsCallWithin call → Errs (IsFaultOf db.resource) (step db call s)
  unfolding step
  step_errs call s is h =
      let now = all_put_all IsEntryWithin db.rows call.changes (rows_within db w) (puts_within db w call.changes h.changed) in
      found_errs (IsFaultOf db.resource) (table_named db.schema (table_of s)) _ tt (λ def named.
      check_errs (IsFaultOf db.resource) (knows_columns def s) errors.NoColumn _ tt (λ knows.
      check_errs (IsFaultOf db.resource) (fills_columns def s) errors.Columns _ tt (λ fills.
      check_errs (IsFaultOf db.resource) (leaves_key def s) errors.KeyChanged _ tt (λ leaves.
      check_errs (IsFaultOf db.resource) (has_types def s) errors.TypeMismatch _ tt (λ types.
      check_errs (IsFaultOf db.resource) (nat_le (rows_seen (with_step db call s def)) CALL_ROWS) errors.TooManyRows _ tt (λ few.
      key_errs (IsFaultOf db.resource) (overflowing db.resource def s (put_all db.rows call.changes)) errors.Overflow _
      (λ key e. overflow_key def (table_within db w (table_of s) def named) s (put_all db.rows call.changes) key now e)
      (key_errs (IsFaultOf db.resource) (duplicate db.resource def s (put_all db.rows call.changes)) errors.Duplicate _
      (λ key e. duplicate_key def (table_within db w (table_of s) def named) s (put_all db.rows call.changes) key is e)
      (check_errs (IsFaultOf db.resource) (nat_le (length (put_all db.rows (with_step db call s def).changes)) RESOURCE_ROWS) errors.TableFull _ tt (λ full. tt)))))))))

  at_once : (ss : List Stmt) (i : ℕ) (f : StmtError) (index : ℕ) (fault : StmtError) → IsFaultOf db.resource f → ◌≡◌ {A = Result Call (ℕ × StmtError)} (Err (i, f)) (Err (index, fault))
      → (i ≤ index) × (index ≤ i + length ss) × IsFaultOf db.resource fault
  at_once ss i f index fault p e =
      let same = fault_parts i f index fault e in
      let number = same.0 in
      (omega (arith, number), omega (arith, number), subst (IsFaultOf db.resource) same.1 p)

  steps_errs : (ss : List Stmt) (i : ℕ) (m : Meaning Call) (index : ℕ) (fault : StmtError) → AllByRecursion IsStmtWithin ss → Oks IsCallWithin m → Errs (IsFaultOf db.resource) m → steps db i m ss ≡ Err (index, fault)
      → (i ≤ index) × (index ≤ i + length ss) × IsFaultOf db.resource fault
  steps_errs [] i (Ok c) index fault all h p e = absurd cc
  steps_errs [] i (Err f) index fault all h p e = at_once [] i f index fault p e
  steps_errs (s ∷ ss) i (Err f) index fault all h p e = at_once (s ∷ ss) i f index fault p e
  steps_errs (s ∷ ss) i (Ok c) index fault all h p e =
      let later = steps_errs ss (i + 1) (step db c s) index fault all.1 (step_oks db c s IsCallWithin (λ def taken. going db w c s def taken all.0 h)) (step_errs c s all.0 h) e in
      (omega (arith, later.0), omega (arith, later.1), later.2)

  first_fault : (ss : List Stmt) (index : ℕ) (fault : StmtError) → AllByRecursion IsStmtWithin ss → steps db 0 (Ok nothing) ss ≡ Err (index, fault) → IsFaultAmong db.resource ss index fault
  first_fault [] index fault all e = absurd cc
  first_fault (s ∷ ss) index fault all e =
      let later = steps_errs ss 1 (step db nothing s) index fault all.1 (step_oks db nothing s IsCallWithin (λ def taken. going db w nothing s def taken all.0 (nothing_within db w))) (step_errs nothing s all.0 (nothing_within db w)) e in
      record { counted = later.0; among = omega (arith, later.1); place = later.2 }

effect_fault : (db : Database) (r : Result Call (ℕ × StmtError)) (index : ℕ) (fault : StmtError) → to_effect db r ≡ Err (index, fault) → r ≡ Err (index, fault)
effect_fault db (Ok call) index fault e = absurd cc
effect_fault db (Err f) index fault e = cc

pub faults_have_places : FaultsHavePlaces
unfolding effect
faults_have_places db stmts index fault w all is = first_fault db w stmts index fault all (effect_fault db (steps db 0 (Ok nothing) stmts) index fault is)
