-- One more statement on the tables and the call as they are inside.
use Rattle.std.proofs.Common.{◌≡◌, ℕ, nat_le, Bool, true, false, cond, List, length, Option, Some, None, Err, IfNone, sym, refl, ap, ap₂, ◌∙◌, subst₂}
use Rattle.seata_types.specs.declared.errors.StmtError.{StmtError}
use Rattle.seata_types.specs.declared.errors.StmtError.TheVariants as errors
use Rattle.seata_types.specs.declared.rows.RowKey.{RowKey}
use Rattle.seata_types.specs.declared.statements.Stmt.{Stmt}
use Rattle.seata_types.specs.declared.limits.TheConstants.{RESOURCE_ROWS}
use Rattle.local_tables.specs.Calls.{Call, going_on, rows_seen, step}
use Rattle.local_tables.specs.Checks.{table_of, knows_columns, fills_columns, leaves_key, has_types}
use Rattle.local_tables.specs.Lookups.{IsRising, AreRowsOf, HasKeysOf}
use Rattle.local_tables.specs.Refusals.{refusal, overflow_in, duplicate_in, fault, answer_of}
use Rattle.local_tables.specs.Rows.{Rows, Change, Database, put_all, table_named}
use Rattle.local_tables.specs.Sound.{IsSound, IsChangeOf, AreChangesOf}
use Rattle.local_tables.specs.Touches.{touches, readings}
use Rattle.local_tables.specs.declared.schemas.TableDef.{TableDef}
use Rattle.local_tables.proofs.ChangeLaws.{IsAccepted, rows_under, keys_of_rows, touched_changes, each_insert_all}
use Rattle.local_tables.proofs.PutLaws.{map_put_all}
use Rattle.local_tables.proofs.StepLaws.{step_taken, step_refused, step_without_table}

-- the changes of a call, on the tables as they are inside
changes_inside : (v db : Database) (w call : Call) → v ≡ db → w ≡ call → AreChangesOf db.resource db.schema call.changes → AreChangesOf v.resource v.schema w.changes
changes_inside v db w call e f h = subst₂ (λ (d : Database) (k : Call). AreChangesOf d.resource d.schema k.changes) (sym e) (sym f) h

rows_inside : (v db : Database) (w call : Call) (name : List ℕ) (def : TableDef) → v ≡ db → w ≡ call → IsSound v.schema v.rows → IsRising w.changes → AreChangesOf db.resource db.schema call.changes → table_named db.schema name ≡ Some def
    → AreRowsOf def (put_all v.rows w.changes)
rows_inside v db w call name def e f sound rising changes named =
    rows_under v.schema v.resource v.rows w.changes sound (changes_inside v db w call e f changes) name def rising (ap (λ (d : Database). table_named d.schema name) e ∙ named)

pub keys_inside : (v db : Database) (w call : Call) (name : List ℕ) (def : TableDef) → v ≡ db → w ≡ call → IsSound v.schema v.rows → IsRising w.changes → AreChangesOf db.resource db.schema call.changes → table_named db.schema name ≡ Some def
    → HasKeysOf def (put_all v.rows w.changes)
keys_inside v db w call name def e f sound rising changes named =
    keys_of_rows def (put_all v.rows w.changes) (rows_inside v db w call name def e f sound rising changes named)

pub step_inside : (v db : Database) (w call u after : Call) (s : Stmt) (def : TableDef) (made : List Change) (read : Rows) (overflow taken : Option RowKey) (seen : ℕ) (fits : Bool) (why : Option StmtError) → v ≡ db → w ≡ call → u ≡ after
    → table_named db.schema (table_of s) ≡ Some def → refusal def s ≡ None → made ≡ touches v.resource def s (put_all v.rows w.changes) → read ≡ readings v.resource def s (put_all v.rows w.changes)
    → after ≡ going_on call made read → overflow ≡ overflow_in s made → taken ≡ duplicate_in s (put_all v.rows w.changes) made → seen ≡ rows_seen after → fits ≡ nat_le (length (put_all v.rows u.changes)) RESOURCE_ROWS
    → why ≡ fault seen overflow taken fits → step db call s ≡ answer_of why after
step_inside v db w call u after s def made read overflow taken seen fits why e f g named accepted is_made is_read is_after is_overflow is_taken is_seen is_fits is_why =
    let named' : table_named v.schema (table_of s) ≡ Some def = ap (λ (d : Database). table_named d.schema (table_of s)) e ∙ named in
    let after' : after ≡ going_on w made read = is_after ∙ ap (λ (k : Call). going_on k made read) (sym f) in
    let fits' : fits ≡ nat_le (length (put_all v.rows after.changes)) RESOURCE_ROWS = is_fits ∙ ap (λ (k : Call). nat_le (length (put_all v.rows k.changes)) RESOURCE_ROWS) g in
    let why' : why ≡ fault (rows_seen after) overflow taken (nat_le (length (put_all v.rows after.changes)) RESOURCE_ROWS) = is_why ∙ ap₂ (λ m t. fault m overflow taken t) is_seen fits' in
    ap₂ (λ (d : Database) (k : Call). step d k s) (sym e) (sym f) ∙ step_taken v w after s def made read overflow taken why named' accepted is_made is_read after' is_overflow is_taken why'

tests_pass : (a b c d : Bool) → ◌≡◌ {A = Option StmtError} (cond a (cond b (cond c (cond d None (Some errors.TypeMismatch)) (Some errors.KeyChanged)) (Some errors.Columns)) (Some errors.NoColumn)) None
    → (b ≡ true) × (c ≡ true) × (d ≡ true)
tests_pass false b c d e = absurd cc
tests_pass true false c d e = absurd cc
tests_pass true true false d e = absurd cc
tests_pass true true true false e = absurd cc
tests_pass true true true true e = (refl, refl, refl)

accepted : (def : TableDef) (s : Stmt) → refusal def s ≡ None → IsAccepted def s
accepted def s e =
    let pass = tests_pass (knows_columns def s) (fills_columns def s) (leaves_key def s) (has_types def s) e in
    record { fills = pass.0; leaves = pass.1; types = pass.2 }

IfNone_from : {X : Type 0} (o : Option X) (P : Type 0) → P → IfNone o P
IfNone_from None P h = h
IfNone_from (Some x) P h = tt

pub changes_after : (v db : Database) (w call after : Call) (s : Stmt) (def : TableDef) (made : List Change) (read : Rows) (why : Option StmtError) → v ≡ db → w ≡ call
    → table_named db.schema (table_of s) ≡ Some def → refusal def s ≡ None → made ≡ touches v.resource def s (put_all v.rows w.changes) → after ≡ going_on call made read
    → IsSound v.schema v.rows → IsRising w.changes → AreChangesOf db.resource db.schema call.changes → IfNone why (AreChangesOf db.resource db.schema after.changes)
changes_after v db w call after s def made read why e f named passed is_made is_after sound rising changes =
    let now : Rows = put_all v.rows w.changes in
    let named' : table_named v.schema (table_of s) ≡ Some def = ap (λ (d : Database). table_named d.schema (table_of s)) e ∙ named in
    let has = rows_inside v db w call (table_of s) def e f sound rising changes named in
    let old = changes_inside v db w call e f changes in
    let new = touched_changes v.resource v.schema (table_of s) def named' s now (map_put_all v.rows w.changes sound.in_order) has (accepted def s passed) in
    let both = each_insert_all (IsChangeOf v.resource v.schema) w.changes (touches v.resource def s now) old new in
    let after' : going_on w (touches v.resource def s now) read ≡ after = sym (is_after ∙ ap₂ (λ (k : Call) m. going_on k m read) (sym f) is_made) in
    IfNone_from why _ (subst₂ (λ (d : Database) (k : Call). AreChangesOf d.resource d.schema k.changes) e after' both)

pub no_table_inside : (v db : Database) (call : Call) (s : Stmt) (table : List ℕ) → v ≡ db → table ≡ table_of s → None ≡ table_named v.schema table → step db call s ≡ Err errors.NoTable
no_table_inside v db call s table e f h =
    step_without_table db call s (sym (h ∙ ap₂ (λ (d : Database) name. table_named d.schema name) e f))

pub refused_inside : (v db : Database) (call : Call) (s : Stmt) (table : List ℕ) (def : TableDef) (why : StmtError) → v ≡ db → table ≡ table_of s → Some def ≡ table_named v.schema table → Some why ≡ refusal def s → step db call s ≡ Err why
refused_inside v db call s table def why e f h refused =
    step_refused db call s def why (sym (h ∙ ap₂ (λ (d : Database) name. table_named d.schema name) e f)) (sym refused)
