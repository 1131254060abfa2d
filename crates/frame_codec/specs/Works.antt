-- What a call asks, as fields: statements, each as its canonical text.
use Rattle.std.specs.Prelude.{ℕ, ◌<◌, ◌^◌, All, Option, Some, None, List, ◌∷◌, [], ◌++◌, length, Result, Ok, Err, if◌then◌else◌}
use Rattle.std.specs.Int.{w16}
use Rattle.seata_types.specs.declared.statements.Stmt.{Stmt}
use Rattle.seata_types.specs.declared.statements.Work.{Work}
use Rattle.seata_types.specs.declared.statements.Work.TheVariants as work
use Rattle.seata_types.specs.Orders.{same_text}
use Rattle.sql_reader.specs.declared.errors.SqlError.{SqlError}
use Rattle.sql_reader.specs.Answer.{reading}
use Rattle.sql_reader.specs.Readable.{IsReadable}
use Rattle.sql_reader.specs.Canonical.{canonical_text}
use Rattle.byte_fields.specs.declared.errors.FieldError.TheVariants as errors
use Rattle.byte_fields.specs.Layout.{FitsText, text_bytes, list_bytes}
use Rattle.byte_fields.specs.Reading.{Reader, ◌>>=◌, and_then, gives, fails, number_at, text_at, items_at}
use Rattle.byte_fields.specs.Tags.{tagged}

-- ---- a statement

-- a statement is put as its canonical text, with the length before it
unfoldable pub stmt_bytes : Stmt → List ℕ
stmt_bytes stmt = text_bytes (canonical_text stmt)

-- one that some text reads as, and whose canonical text is a text that can be put
pub record FitsStmt (stmt : Stmt) : Type 0 where
  pub readable : IsReadable stmt
  pub text : FitsText (canonical_text stmt)

-- a statement that was read, where the text is its canonical one
abbrev pub if_canonical : List ℕ → Result Stmt SqlError → Option Stmt
if_canonical text (Ok stmt) = if same_text (canonical_text stmt) text then Some stmt else None
if_canonical text (Err refused) = None

-- the statement of which a text is the canonical one
unfoldable pub stmt_of : List ℕ → Option Stmt
stmt_of text = if_canonical text (reading text)

-- a statement, or a bad text at the place where its field begins
abbrev pub stmt_or_fault : ℕ → Option Stmt → Reader Stmt
stmt_or_fault place (Some stmt) = gives stmt
stmt_or_fault place None = fails (errors.BadText place)

-- the statement whose canonical text stands there; a text that is that of none is a bad text
unfoldable pub stmt_at : Reader Stmt
stmt_at start = and_then (text_at start) (λ text. stmt_or_fault start.at (stmt_of text))

-- ---- statements

-- no more statements than two bytes can count, each of which fits
pub record FitsStmts (stmts : List Stmt) : Type 0 where
  pub count : length stmts < 2 ^ 16
  pub each : All FitsStmt stmts

abbrev pub stmts_bytes : List Stmt → List ℕ
stmts_bytes stmts = list_bytes stmt_bytes stmts

-- a statement, whatever stood before it
abbrev pub any_stmt : Option Stmt → Reader Stmt
any_stmt last = stmt_at

-- a count, and as many statements
unfoldable pub stmts_at : Reader (List Stmt)
stmts_at = do
  n ← number_at w16
  items_at any_stmt None n

-- ---- work

-- AT work is one list of statements; a TCC action is three: its tries, its confirms and its cancels
abbrev pub work_tag : Work → ℕ
work_tag (work.At stmts) = 0
work_tag (work.Tcc action) = 1

abbrev pub work_rest : Work → List ℕ
work_rest (work.At stmts) = stmts_bytes stmts
work_rest (work.Tcc action) = stmts_bytes action.tries ++ (stmts_bytes action.confirms ++ stmts_bytes action.cancels)

abbrev pub FitsWork : Work → Type 0
FitsWork (work.At stmts) = FitsStmts stmts
FitsWork (work.Tcc action) = FitsStmts action.tries × FitsStmts action.confirms × FitsStmts action.cancels

unfoldable pub at_work_at : Reader Work
at_work_at = do
  stmts ← stmts_at
  gives (work.At stmts)

unfoldable pub tcc_work_at : Reader Work
tcc_work_at = do
  tries ← stmts_at
  confirms ← stmts_at
  cancels ← stmts_at
  gives (work.Tcc (record { tries = tries; confirms = confirms; cancels = cancels }))

unfoldable pub work_at : Reader Work
work_at = tagged ((0, at_work_at) ∷ (1, tcc_work_at) ∷ [])

abbrev pub work_bytes : Work → List ℕ
work_bytes asked = work_tag asked ∷ work_rest asked
