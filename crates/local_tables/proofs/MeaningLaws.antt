-- What is known of a statement that has a meaning, and what calls keep from statement to statement.
use Rattle.std.proofs.Common.{◌≡◌, ℕ, ◌+◌, ◌≤◌, nat_le, Bool, true, false, length, List, [], ◌∷◌, Option, Some, None, Ok, Err, refl, subst}
use Rattle.std.proofs.lemmas.Bool.{leb-true}
use Rattle.seata_types.specs.declared.errors.StmtError.{StmtError}
use Rattle.seata_types.specs.declared.errors.StmtError.TheVariants as errors
use Rattle.seata_types.specs.declared.limits.TheConstants.{CALL_ROWS, RESOURCE_ROWS}
use Rattle.seata_types.specs.declared.statements.Stmt.{Stmt}
use Rattle.local_tables.specs.Calls.{Call, Meaning, ◌>>=◌, check, no_key, found, going_on, rows_seen, step, steps}
use Rattle.local_tables.specs.Checks.{table_of, knows_columns, fills_columns, leaves_key, has_types}
use Rattle.local_tables.specs.Rows.{Database, put_all, table_named}
use Rattle.local_tables.specs.Touches.{touches, readings, overflowing, duplicate}
use Rattle.local_tables.specs.declared.schemas.TableDef.{TableDef}
use Rattle.local_tables.proofs.ChangeLaws.{IsAccepted}

-- it holds of what has a meaning
abbrev pub Oks : {X : Type 0} → (X → Type 0) → Meaning X → Type 0
Oks P (Ok x) = P x
Oks P (Err e) = Unit {0}

pub bind_oks : {X Y : Type 0} (P : Y → Type 0) (m : Meaning X) (f : X → Meaning Y) → ((x : X) → m ≡ Ok x → Oks P (f x)) → Oks P (m >>= f)
bind_oks P (Ok x) f h = h x refl
bind_oks P (Err e) f h = tt

check_oks : {Y : Type 0} (P : Y → Type 0) (b : Bool) (error : StmtError) (f : Unit {0} → Meaning Y) → (b ≡ true → Oks P (f tt)) → Oks P (check b error >>= f)
check_oks P true error f h = h refl
check_oks P false error f h = tt

found_oks : {Y : Type 0} (P : Y → Type 0) (o : Option TableDef) (f : TableDef → Meaning Y) → ((def : TableDef) → o ≡ Some def → Oks P (f def)) → Oks P (found o >>= f)
found_oks P (Some def) f h = h def refl
found_oks P None f h = tt

-- the call with one more statement
abbrev pub with_step : Database → Call → Stmt → TableDef → Call
with_step db call s def = going_on call (touches db.resource def s (put_all db.rows call.changes)) (readings db.resource def s (put_all db.rows call.changes))

-- a statement that has a meaning after this call: its table's definition takes it, and the call has no more rows than it may
pub record IsTaken (db : Database) (call : Call) (s : Stmt) (def : TableDef) : Type 0 where
  pub named : table_named db.schema (table_of s) ≡ Some def
  pub accepted : IsAccepted def s
  pub few : rows_seen (with_step db call s def) ≤ CALL_ROWS

-- what holds of this call holds of each step that has a meaning
pub step_oks : (db : Database) (call : Call) (s : Stmt) (P : Call → Type 0) → ((def : TableDef) → IsTaken db call s def → P (with_step db call s def)) → Oks P (step db call s)
unfolding step
step_oks db call s P on =
    found_oks P (table_named db.schema (table_of s)) _ (λ def named.
    check_oks P (knows_columns def s) errors.NoColumn _ (λ knows.
    check_oks P (fills_columns def s) errors.Columns _ (λ fills.
    check_oks P (leaves_key def s) errors.KeyChanged _ (λ leaves.
    check_oks P (has_types def s) errors.TypeMismatch _ (λ types.
    check_oks P (nat_le (rows_seen (with_step db call s def)) CALL_ROWS) errors.TooManyRows _ (λ few.
    bind_oks P (no_key (overflowing db.resource def s (put_all db.rows call.changes)) errors.Overflow) _ (λ u q.
    bind_oks P (no_key (duplicate db.resource def s (put_all db.rows call.changes)) errors.Duplicate) _ (λ u q.
    bind_oks P (check (nat_le (length (put_all db.rows (with_step db call s def).changes)) RESOURCE_ROWS) errors.TableFull) _ (λ u q.
    on def (record {
      named = named;
      accepted = record { fills = fills; leaves = leaves; types = types };
      few = leb-true (rows_seen (with_step db call s def)) CALL_ROWS few;
    }))))))))))

-- what each statement keeps that has a meaning, all of them keep
pub steps_keep : (db : Database) (P : Call → Type 0) → ((call : Call) (s : Stmt) (def : TableDef) → IsTaken db call s def → P call → P (with_step db call s def)) →
    (ss : List Stmt) (i : ℕ) (m : Meaning Call) (call : Call) → Oks P m → steps db i m ss ≡ Ok call → P call
steps_keep db P keeps [] i (Ok c) call h e = let same : c ≡ call = cc in subst P same h
steps_keep db P keeps [] i (Err f) call h e = absurd cc
steps_keep db P keeps (s ∷ ss) i (Ok c) call h e = steps_keep db P keeps ss (i + 1) (step db c s) call (step_oks db c s P (λ def is. keeps c s def is h)) e
steps_keep db P keeps (s ∷ ss) i (Err f) call h e = absurd cc
