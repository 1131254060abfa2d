-- The canonical text of a statement is at most twice as long as a text that reads as it.
use Rattle.std.proofs.Common.{◌≡◌, ◌≤◌, ℕ, zero, suc, ◌+◌, ◌*◌, Bool, true, false, List, [], ◌∷◌, ◌++◌, length, Ok, length-append, arith}
use Rattle.std.specs.Prelude.{pos, neg_ℤ, ◌||◌}
use Rattle.seata_types.specs.declared.statements.Stmt.{Stmt}
use Rattle.sql_reader.specs.Answer.{reading}
use Rattle.sql_reader.specs.Canonical.{Piece, Number, doubled, piece_text, pieces, clings, opens, gap, spaced, canonical_text}
use Rattle.sql_reader.specs.Lexing.{quote}
use Rattle.statement_laws.proofs.Payments.{total}
use Rattle.statement_laws.proofs.Productions.{ArePrices, reading-pays}
use Rattle.statement_laws.proofs.TokenLengths.{spaced_length, length-tokens}

-- a piece with a space before it
abbrev piece_length : Piece → ℕ
piece_length p = suc (length (piece_text p))

negative_length : (n : ℕ) → piece_length (Number (neg_ℤ (pos n))) ≤ 2 + piece_length (Number (pos n))
unfolding piece_text
negative_length zero = omega arith
negative_length (suc n) = omega arith

-- a sign and its digits are one piece, and two tokens
lengths : ArePrices spaced_length piece_length
unfolding piece_text
lengths = record {
  of_symbol = λ s. omega arith;
  of_name = λ n. omega arith;
  of_text = λ t. omega (arith, length-append (doubled t) (quote ∷ []));
  of_number = λ n. omega arith;
  of_negative = λ n. omega (arith, negative_length n);
}

gap-short : (b : Bool) → length (gap b) ≤ 1
gap-short true = omega arith
gap-short false = omega arith

length-spaced : (tight : Bool) (ps : List Piece) → length (spaced tight ps) ≤ total piece_length ps
unfolding spaced
length-spaced tight [] = omega arith
length-spaced tight (p ∷ ps) = omega (
  arith,
  length-append (gap (tight || clings p) ++ piece_text p) (spaced (opens p) ps),
  length-append (gap (tight || clings p)) (piece_text p),
  gap-short (tight || clings p),
  length-spaced (opens p) ps,
)

pub written_length : (text : List ℕ) (s : Stmt) → reading text ≡ Ok s → length (canonical_text s) ≤ 2 * length text
unfolding canonical_text
written_length text s is = omega (arith, reading-pays spaced_length piece_length lengths text s is, length-spaced true (pieces s), length-tokens text)
