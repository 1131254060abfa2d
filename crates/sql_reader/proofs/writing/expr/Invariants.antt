use Rattle.std.proofs.Common.{◌≡◌, [], ◌∷◌, drop}
use Rattle.std.specs.List.{flat_map}
use Rattle.sql_reader.specs.Canonical.{Fixed, sign_of, term_piece, written, expr_pieces}
use Rattle.sql_reader.proofs.writing.expr.Given as goal

abbrev pub invariant-loop-sign : goal.invariant-loop-sign
invariant-loop-sign l =
    written l.writer (flat_map (λ t. Fixed (sign_of t.0) ∷ term_piece t.1 ∷ []) (drop l.sign-index l.expr.rest)) ≡ written l.fn.writer (expr_pieces l.expr)
