-- A step by its parts: what the definition refuses, then what the rows refuse.
use Rattle.std.proofs.Common.{◌≡◌, ℕ, nat_le, Bool, true, false, cond, List, [], ◌∷◌, map, find, length, Option, Some, None, Ok, Err, option_map, sym, refl, ap, ◌∙◌}
use Rattle.std.specs.Map.{keys_of}
use Rattle.seata_types.specs.declared.errors.StmtError.{StmtError}
use Rattle.seata_types.specs.declared.errors.StmtError.TheVariants as errors
use Rattle.seata_types.specs.declared.limits.TheConstants.{CALL_ROWS, RESOURCE_ROWS}
use Rattle.seata_types.specs.declared.rows.RowKey.{RowKey}
use Rattle.seata_types.specs.declared.statements.Stmt.{Stmt}
use Rattle.seata_types.specs.declared.statements.Stmt.TheVariants as stmt
use Rattle.local_tables.specs.Calls.{Call, Meaning, ◌>>=◌, check, no_key, going_on, rows_seen, step}
use Rattle.local_tables.specs.Checks.{table_of, knows_columns, fills_columns, leaves_key, has_types, Set}
use Rattle.local_tables.specs.Refusals.{refusal, change_key, is_gone, overflow_in, duplicate_in, fault, answer_of}
use Rattle.local_tables.specs.Rows.{Rows, Change, Database, comes, put_all, table_named}
use Rattle.local_tables.specs.Touches.{touches, readings, overflowing, duplicate, becomes, overflows, entry_key, first_taken}
use Rattle.local_tables.specs.declared.schemas.TableDef.{TableDef}

-- ---- what the definition refuses

refused_by : {X : Type 0} (a b c d : Bool) (rest : Meaning X) (why : StmtError)
    → cond a (cond b (cond c (cond d None (Some errors.TypeMismatch)) (Some errors.KeyChanged)) (Some errors.Columns)) (Some errors.NoColumn) ≡ Some why
    → (check a errors.NoColumn >>= λ _. check b errors.Columns >>= λ _. check c errors.KeyChanged >>= λ _. check d errors.TypeMismatch >>= λ _. rest) ≡ Err why
refused_by false b c d rest why e = cc
refused_by true false c d rest why e = cc
refused_by true true false d rest why e = cc
refused_by true true true false rest why e = cc
refused_by true true true true rest why e = cc

accepted_by : {X : Type 0} (a b c d : Bool) (rest : Meaning X)
    → cond a (cond b (cond c (cond d None (Some errors.TypeMismatch)) (Some errors.KeyChanged)) (Some errors.Columns)) (Some errors.NoColumn) ≡ None
    → (check a errors.NoColumn >>= λ _. check b errors.Columns >>= λ _. check c errors.KeyChanged >>= λ _. check d errors.TypeMismatch >>= λ _. rest) ≡ rest
accepted_by false b c d rest e = cc
accepted_by true false c d rest e = cc
accepted_by true true false d rest e = cc
accepted_by true true true false rest e = cc
accepted_by true true true true rest e = refl

-- ---- what the rows refuse

-- the tests of the rows after a statement
abbrev tested : Bool → Option RowKey → Option RowKey → Bool → Call → Meaning Call
tested seen overflow taken count after =
    check seen errors.TooManyRows >>= λ _. no_key overflow errors.Overflow >>= λ _. no_key taken errors.Duplicate >>= λ _. check count errors.TableFull >>= λ _. Ok after

overflowed : (seen count : Bool) (key : RowKey) (taken : Option RowKey) (after : Call) → tested seen (Some key) taken count after ≡ answer_of (cond seen (Some (errors.Overflow key)) (Some errors.TooManyRows)) after
overflowed true count key taken after = refl
overflowed false count key taken after = refl

repeated : (seen count : Bool) (key : RowKey) (after : Call) → tested seen None (Some key) count after ≡ answer_of (cond seen (Some (errors.Duplicate key)) (Some errors.TooManyRows)) after
repeated true count key after = refl
repeated false count key after = refl

counted : (seen count : Bool) (after : Call) → tested seen None None count after ≡ answer_of (cond seen (cond count None (Some errors.TableFull)) (Some errors.TooManyRows)) after
counted true true after = refl
counted true false after = refl
counted false count after = refl

tested_by : (seen count : ℕ) (overflow taken : Option RowKey) (after : Call) → tested (nat_le seen CALL_ROWS) overflow taken (nat_le count RESOURCE_ROWS) after ≡ answer_of (fault seen overflow taken (nat_le count RESOURCE_ROWS)) after
tested_by seen count (Some key) taken after = overflowed (nat_le seen CALL_ROWS) (nat_le count RESOURCE_ROWS) key taken after
tested_by seen count None (Some key) after = repeated (nat_le seen CALL_ROWS) (nat_le count RESOURCE_ROWS) key after
tested_by seen count None None after = counted (nat_le seen CALL_ROWS) (nat_le count RESOURCE_ROWS) after

-- ---- the errors by the rows that are touched

find_gone : (def : TableDef) (sets : List Set) (es : Rows) → option_map change_key (find is_gone (map (becomes def sets) es)) ≡ option_map entry_key (find (overflows def sets) es)
find_gone def sets [] = refl
find_gone def sets (e ∷ es) = by (overflows def sets e) (find_gone def sets es)
  where
    by : (b : Bool) → option_map change_key (find is_gone (map (becomes def sets) es)) ≡ option_map entry_key (find (overflows def sets) es)
        → option_map change_key (cond b (Some (becomes def sets e)) (find is_gone (map (becomes def sets) es))) ≡ option_map entry_key (cond b (Some e) (find (overflows def sets) es))
    by true h = refl
    by false h = h

pub overflow_in_touches : (resource : ℕ) (def : TableDef) (s : Stmt) (now : Rows) → overflow_in s (touches resource def s now) ≡ overflowing resource def s now
overflow_in_touches resource def (stmt.Insert table columns tuples) now = refl
overflow_in_touches resource def (stmt.Update table sets asked) now = find_gone def sets _
overflow_in_touches resource def (stmt.Delete table asked) now = refl
overflow_in_touches resource def (stmt.Select table asked) now = refl

keys_of_comes : (es : Rows) → keys_of (map comes es) ≡ keys_of es
keys_of_comes [] = refl
keys_of_comes (e ∷ es) = ap (λ l. e.0 ∷ l) (keys_of_comes es)

pub duplicate_in_touches : (resource : ℕ) (def : TableDef) (s : Stmt) (now : Rows) → duplicate_in s now (touches resource def s now) ≡ duplicate resource def s now
duplicate_in_touches resource def (stmt.Insert table columns tuples) now = ap (first_taken now) (keys_of_comes _)
duplicate_in_touches resource def (stmt.Update table sets asked) now = refl
duplicate_in_touches resource def (stmt.Delete table asked) now = refl
duplicate_in_touches resource def (stmt.Select table asked) now = refl

-- ---- the step

pub step_without_table : (db : Database) (call : Call) (s : Stmt) → table_named db.schema (table_of s) ≡ None → step db call s ≡ Err errors.NoTable
unfolding step
step_without_table db call s e = rw e refl

pub step_refused : (db : Database) (call : Call) (s : Stmt) (def : TableDef) (why : StmtError) → table_named db.schema (table_of s) ≡ Some def → refusal def s ≡ Some why → step db call s ≡ Err why
unfolding step
step_refused db call s def why e f = rw e (refused_by (knows_columns def s) (fills_columns def s) (leaves_key def s) (has_types def s) _ why f)

pub step_taken : (db : Database) (call after : Call) (s : Stmt) (def : TableDef) (made : List Change) (read : Rows) (overflow taken : Option RowKey) (why : Option StmtError) → table_named db.schema (table_of s) ≡ Some def → refusal def s ≡ None
    → made ≡ touches db.resource def s (put_all db.rows call.changes) → read ≡ readings db.resource def s (put_all db.rows call.changes) → after ≡ going_on call made read → overflow ≡ overflow_in s made
    → taken ≡ duplicate_in s (put_all db.rows call.changes) made → why ≡ fault (rows_seen after) overflow taken (nat_le (length (put_all db.rows after.changes)) RESOURCE_ROWS) → step db call s ≡ answer_of why after
unfolding step
step_taken db call after s def made read overflow taken why e f is_made is_read is_after is_overflow is_taken is_why =
    let now : Rows = put_all db.rows call.changes in
    let same_after : after ≡ going_on call (touches db.resource def s now) (readings db.resource def s now) = is_after ∙ ap (λ m. going_on call m read) is_made ∙ ap (going_on call (touches db.resource def s now)) is_read in
    let same_overflow : overflow ≡ overflowing db.resource def s now = is_overflow ∙ ap (overflow_in s) is_made ∙ overflow_in_touches db.resource def s now in
    let same_taken : taken ≡ duplicate db.resource def s now = is_taken ∙ ap (duplicate_in s now) is_made ∙ duplicate_in_touches db.resource def s now in
    rw e (accepted_by (knows_columns def s) (fills_columns def s) (leaves_key def s) (has_types def s) _ f
    ∙ ap (λ c. tested (nat_le (rows_seen c) CALL_ROWS) (overflowing db.resource def s now) (duplicate db.resource def s now) (nat_le (length (put_all db.rows c.changes)) RESOURCE_ROWS) c) (sym same_after)
    ∙ ap (λ o. tested (nat_le (rows_seen after) CALL_ROWS) o (duplicate db.resource def s now) (nat_le (length (put_all db.rows after.changes)) RESOURCE_ROWS) after) (sym same_overflow)
    ∙ ap (λ o. tested (nat_le (rows_seen after) CALL_ROWS) overflow o (nat_le (length (put_all db.rows after.changes)) RESOURCE_ROWS) after) (sym same_taken)
    ∙ tested_by (rows_seen after) (length (put_all db.rows after.changes)) overflow taken after
    ∙ ap (λ w. answer_of w after) (sym is_why))
