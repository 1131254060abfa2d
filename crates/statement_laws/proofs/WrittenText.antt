-- The canonical text of a statement has no control character, and is UTF-8 where a text that reads as it is.
use Rattle.std.proofs.Common.{◌≡◌, ◌<◌, ℕ, Bool, true, false, List, [], ◌∷◌, ◌++◌, length, Ok, refl, sym, subst, append_assoc, length-append, arith}
use Rattle.std.specs.Prelude.{if◌then◌else◌, ◌==◌, ◌||◌, nat_le}
use Rattle.std.specs.List.{AllByRecursion, list_all}
use Rattle.std.specs.Str.{IsUtf8, IsCharBoundary, is_utf8}
use Rattle.std.proofs.Math.Seq.{drop-append_seam, get_or-append_seam, take-append_seam}
use Rattle.std.proofs.lemmas.Bool.{and_parts}
use Rattle.std.proofs.lemmas.List.Folds.{list_all-append}
use Rattle.std.proofs.lemmas.Str.{IsCharBoundary-after_ascii, IsCharBoundary-before_ascii, IsUtf8-append, IsUtf8-drop, IsUtf8-from_is_utf8, IsUtf8-nil, IsUtf8-take, is_utf8-from_IsUtf8}
use Rattle.seata_types.specs.declared.limits.TheConstants.{TEXT_BYTES}
use Rattle.seata_types.specs.declared.statements.Stmt.{Stmt}
use Rattle.sql_reader.specs.Answer.{reading}
use Rattle.sql_reader.specs.Canonical.{Piece, Quoted, doubled, piece_text, pieces, clings, opens, gap, spaced, canonical_text}
use Rattle.sql_reader.specs.Lexing.{has_text_form, is_printable, quote}
use Rattle.statement_laws.proofs.PlainTexts.{plain-printable, plain-utf8}
use Rattle.statement_laws.proofs.ReadTexts.{IsReadFrom}
use Rattle.statement_laws.proofs.TestedPieces.{Passes, pieces-pass}

-- ---- no control character

printable-append : (xs ys : List ℕ) → list_all is_printable xs ≡ true → list_all is_printable ys ≡ true → list_all is_printable (xs ++ ys) ≡ true
printable-append xs ys first second = rw (list_all-append, first, second) refl

doubled-printable : (t : List ℕ) → list_all is_printable t ≡ true → list_all is_printable (doubled t) ≡ true
doubled-printable [] are = refl
doubled-printable (b ∷ z) are =
    let parts = and_parts (is_printable b) (list_all is_printable z) are in
    let later = doubled-printable z parts.1 in
    elim (b == quote) as (λ is. list_all is_printable (if is then quote ∷ quote ∷ doubled z else b ∷ doubled z) ≡ true) [ true ↦ later | false ↦ rw (parts.0, later) refl ]

quoted-printable : (t : List ℕ) → has_text_form t ≡ true → list_all is_printable (piece_text (Quoted t)) ≡ true
unfolding piece_text has_text_form
quoted-printable t form = printable-append (doubled t) (quote ∷ []) (doubled-printable t (and_parts (nat_le (length t) TEXT_BYTES) (list_all is_printable t) form).1) refl

printable_passes : Passes (λ z. list_all is_printable z) (λ _. Unit {0})
printable_passes = record {
  plain = plain-printable;
  later = λ b z _. tt;
  quoted = λ z found _ read form. quoted-printable found.0 form;
}

gap-printable : (b : Bool) → list_all is_printable (gap b) ≡ true
gap-printable true = refl
gap-printable false = refl

spaced-printable : (tight : Bool) (ps : List Piece) → AllByRecursion (λ p. list_all is_printable (piece_text p) ≡ true) ps → list_all is_printable (spaced tight ps) ≡ true
unfolding spaced
spaced-printable tight [] are = refl
spaced-printable tight (p ∷ ps) are =
    let space = gap (tight || clings p) in
    printable-append (space ++ piece_text p) (spaced (opens p) ps) (printable-append space (piece_text p) (gap-printable (tight || clings p)) are.0) (spaced-printable (opens p) ps are.1)

pub written_printable : (text : List ℕ) (s : Stmt) → reading text ≡ Ok s → list_all is_printable (canonical_text s) ≡ true
unfolding canonical_text
written_printable text s is = spaced-printable true (pieces s) (pieces-pass (λ z. list_all is_printable z) (λ _. Unit {0}) printable_passes text s tt is)

-- ---- UTF-8

-- the end of a text in UTF-8, which may begin inside a character
abbrev IsEndOfUtf8 : List ℕ → Type 0
IsEndOfUtf8 z = (front : List ℕ) × IsUtf8 (front ++ z)

end-later : (b : ℕ) (z : List ℕ) → IsEndOfUtf8 (b ∷ z) → IsEndOfUtf8 z
end-later b z (front, utf8) = (front ++ b ∷ [], subst IsUtf8 (sym (append_assoc front (b ∷ []) z)) utf8)

-- a text is cut before an ASCII byte and behind it
module _ (xs ys : List ℕ) (q : ℕ) (ascii : q < 128) (whole : IsUtf8 (xs ++ q ∷ ys)) where
  boundary : IsCharBoundary (xs ++ q ∷ ys) (length xs)
  boundary = IsCharBoundary-before_ascii (xs ++ q ∷ ys) (length xs) (omega (arith, length-append xs (q ∷ ys))) (subst (λ n. n < 128) (sym (get_or-append_seam xs q ys 0)) ascii)

  pub utf8_before : IsUtf8 xs
  utf8_before = subst IsUtf8 (take-append_seam xs (q ∷ ys)) (IsUtf8-take (xs ++ q ∷ ys) (length xs) whole boundary)

  pub utf8_behind : IsUtf8 ys
  utf8_behind =
      let rest : IsUtf8 (q ∷ ys) = subst IsUtf8 (drop-append_seam xs (q ∷ ys)) (IsUtf8-drop (xs ++ q ∷ ys) (length xs) whole boundary) in
      IsUtf8-drop (q ∷ ys) 1 rest (IsCharBoundary-after_ascii (q ∷ ys) 0 rest (omega arith) ascii)

pub quoted-utf8 : (t : List ℕ) → IsUtf8 (doubled t) → IsUtf8 (piece_text (Quoted t))
unfolding piece_text
quoted-utf8 t inner =
    let one : IsUtf8 (quote ∷ []) = plain-utf8 (quote ∷ []) refl in
    IsUtf8-append (quote ∷ []) (doubled t ++ quote ∷ []) one (IsUtf8-append (doubled t) (quote ∷ []) inner one)

-- what stands between the quotes of a text in UTF-8
inner-utf8 : (z : List ℕ) (found : List ℕ × ℕ) → IsEndOfUtf8 (quote ∷ z) → IsReadFrom z found → IsUtf8 (doubled found.0)
inner-utf8 z found (front, utf8) read = utf8_before (doubled found.0) read.rest quote (omega arith) (subst IsUtf8 read.whole (utf8_behind front z quote (omega arith) utf8))

utf8_passes : Passes is_utf8 IsEndOfUtf8
utf8_passes = record {
  plain = λ z is. is_utf8-from_IsUtf8 z (plain-utf8 z is);
  later = end-later;
  quoted = λ z found end read form. is_utf8-from_IsUtf8 (piece_text (Quoted found.0)) (quoted-utf8 found.0 (inner-utf8 z found end read));
}

gap-utf8 : (b : Bool) → IsUtf8 (gap b)
gap-utf8 true = IsUtf8-nil
gap-utf8 false = plain-utf8 (gap false) refl

-- pieces in UTF-8 make a text in UTF-8
pub spaced-text : (tight : Bool) (ps : List Piece) → AllByRecursion (λ p. IsUtf8 (piece_text p)) ps → IsUtf8 (spaced tight ps)
unfolding spaced
spaced-text tight [] are = IsUtf8-nil
spaced-text tight (p ∷ ps) are =
    let space = gap (tight || clings p) in
    IsUtf8-append (space ++ piece_text p) (spaced (opens p) ps) (IsUtf8-append space (piece_text p) (gap-utf8 (tight || clings p)) are.0) (spaced-text (opens p) ps are.1)

tested-utf8 : (ps : List Piece) → AllByRecursion (λ p. is_utf8 (piece_text p) ≡ true) ps → AllByRecursion (λ p. IsUtf8 (piece_text p)) ps
tested-utf8 [] are = tt
tested-utf8 (p ∷ ps) are = (IsUtf8-from_is_utf8 (piece_text p) are.0, tested-utf8 ps are.1)

pub written_utf8 : (text : List ℕ) (s : Stmt) → IsUtf8 text → reading text ≡ Ok s → IsUtf8 (canonical_text s)
unfolding canonical_text
written_utf8 text s utf8 is = spaced-text true (pieces s) (tested-utf8 (pieces s) (pieces-pass is_utf8 IsEndOfUtf8 utf8_passes text s ([], utf8) is))
