-- Statements that some texts read as can be framed, where their canonical texts are UTF-8; their values then have places.
use Rattle.std.proofs.Common.{◌≡◌, ℕ, List, All, get_or, Ok, refl, arith}
use Rattle.std.specs.Prelude.{IsUtf8, IsTrue}
use Rattle.std.proofs.lemmas.Str.{is_utf8-from_IsUtf8}
use Rattle.seata_types.specs.declared.statements.Action.{Action}
use Rattle.seata_types.specs.declared.statements.Stmt.{Stmt}
use Rattle.byte_fields.specs.Layout.{is_plain}
use Rattle.sql_reader.specs.Answer.{reading}
use Rattle.sql_reader.specs.Canonical.{canonical_text}
use Rattle.sql_reader.specs.Readable.{IsReadable}
use Rattle.sql_reader.proofs.ReadBack.{reading_readable}
use Rattle.statement_laws.proofs.WrittenLength.{written_length}
use Rattle.statement_laws.proofs.WrittenText.{written_printable}
use Rattle.frame_codec.specs.Limits.{IsStmtWithin}
use Rattle.frame_codec.specs.Works.{FitsStmt}
use Rattle.resource_core.specs.Ready.{IsActionWithin}
use Rattle.resource_core.specs.Ready.{AreStmtsWithin as HavePlaces}
use Rattle.resource_rules.proofs.StatementLaws.{stmts_within}
use Rattle.scenario_nodes.proofs.Tables.{plain_text}
use Rattle.scenario_nodes.specs.Calls.{AreFramable, AreRead, IsFramableAction, IsRead}

-- ---- statements

pub readable : (s : Stmt) → IsRead s → IsReadable s
readable s (text, short, reads) = reading_readable text s reads

plain : (text : List ℕ) (s : Stmt) → reading text ≡ Ok s → IsUtf8 (canonical_text s) → IsTrue (is_plain (canonical_text s))
unfolding is_plain
plain text s reads utf8 = rw (is_utf8-from_IsUtf8 (canonical_text s) utf8, plain_text (canonical_text s) (written_printable text s reads)) refl

stmt_fits : (s : Stmt) → IsRead s → IsUtf8 (canonical_text s) → FitsStmt s
stmt_fits s (text, short, reads) utf8 = record {
  readable = reading_readable text s reads;
  text = record { short = let long = written_length text s reads in omega (arith, long, short); plain = plain text s reads utf8 };
}

stmt_short : (s : Stmt) → IsRead s → IsStmtWithin s
stmt_short s (text, short, reads) = let long = written_length text s reads in omega (arith, long, short)

pub framable : (stmts : List Stmt) → AreRead stmts → All (λ s. IsUtf8 (canonical_text s)) stmts → AreFramable stmts
framable stmts read utf8 = record {
  layout = record { count = let few = read.few in omega (arith, few); each = λ k d below. stmt_fits (get_or stmts k d) (read.each k d below) (utf8 k d below) };
  limits = record { count = read.few; each = λ k d below. stmt_short (get_or stmts k d) (read.each k d below) };
}

-- ---- what a resource takes

pub have_places : (stmts : List Stmt) → AreFramable stmts → HavePlaces stmts
have_places stmts are = stmts_within stmts are.layout are.limits.count

pub action_within : (action : Action) → IsFramableAction action → IsActionWithin action
action_within action is = record {
  tries = have_places action.tries is.tries;
  confirms = have_places action.confirms is.confirms;
  cancels = have_places action.cancels is.cancels;
}
