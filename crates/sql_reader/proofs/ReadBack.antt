-- What is read can be written, and what is written reads as the same.
use Rattle.std.proofs.Common.{◌≡◌, ◌∙◌, ℕ, List, ap, subst, Ok, Err, true}
use Rattle.seata_types.specs.declared.statements.Stmt.{Stmt}
use Rattle.std.specs.Prelude.{IfOk}
use Rattle.sql_reader.specs.Lexing.{tokens}
use Rattle.sql_reader.specs.Parsing.{Outcome}
use Rattle.sql_reader.specs.Grammar.{statement}
use Rattle.sql_reader.specs.Answer.{reading, answer}
use Rattle.sql_reader.specs.Canonical.{canonical_text, pieces}
use Rattle.sql_reader.specs.Readable.{IsReadable}
use Rattle.sql_reader.proofs.AheadStatements.{statement-ahead}
use Rattle.sql_reader.proofs.GoodPieces.{pieces-good}
use Rattle.sql_reader.proofs.Sound.{AreProper, statement_readable}
use Rattle.sql_reader.proofs.ProperTokens.{tokens-proper}
use Rattle.sql_reader.proofs.PieceTokens.{spaced-tokens}

pub reading_canonical : (s : Stmt) → IsReadable s → reading (canonical_text s) ≡ Ok s
unfolding reading canonical_text
reading_canonical s is = ap (answer (canonical_text s)) (ap statement (spaced-tokens true (pieces s) (pieces-good s is)) ∙ statement-ahead s is)

answered-readable : (text : List ℕ) (o : Outcome Stmt) (s : Stmt) → IfOk o (λ r. IsReadable r.0 × AreProper r.1) → answer text o ≡ Ok s → IsReadable s
answered-readable text (Ok found) s readable is = let same : found.0 ≡ s = cc in subst IsReadable same readable.0
answered-readable text (Err refusal) s readable is = cc

pub reading_readable : (text : List ℕ) (s : Stmt) → reading text ≡ Ok s → IsReadable s
unfolding reading
reading_readable text s is = answered-readable text (statement (tokens text)) s (statement_readable (tokens text) (tokens-proper text)) is
