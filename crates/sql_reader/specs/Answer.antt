-- What a text reads as.
use Rattle.std.specs.Prelude.{ℕ, ◌-◌, List, length, slice_get, unwrap_or, Result, Ok, Err}
use Rattle.seata_types.specs.declared.statements.Stmt.{Stmt}
use Rattle.sql_reader.specs.declared.errors.SqlError.{SqlError}
use Rattle.sql_reader.specs.declared.errors.SqlError.TheVariants as error
use Rattle.sql_reader.specs.declared.errors.Refusal.{Refusal}
use Rattle.sql_reader.specs.Parsing.{Outcome}
use Rattle.sql_reader.specs.Lexing.{tokens, places}
use Rattle.sql_reader.specs.Grammar.{statement}

-- the byte of the first token that was refused, or the end of the text
abbrev pub place_of : List ℕ → Refusal → ℕ
place_of text refusal = unwrap_or (slice_get (places text) (length (places text) - refusal.left)) (length text)

-- the statement, or the refusal at its byte in the text
abbrev pub answer : List ℕ → Outcome Stmt → Result Stmt SqlError
answer text (Ok found) = Ok found.0
answer text (Err refusal) = Err (error.Refused (place_of text refusal) refusal.kind)

-- The statement that a text is, or the first token from the left that can't stand where it stands.
unfoldable pub reading : List ℕ → Result Stmt SqlError
reading text = answer text (statement (tokens text))
