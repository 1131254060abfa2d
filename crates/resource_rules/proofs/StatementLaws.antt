-- A statement that can be framed writes values that have places in a record: its canonical text is plain, so each text in it is.
use Rattle.std.proofs.Common.{◌≡◌, ◌≤◌, ◌<◌, ℕ, zero, suc, Bool, true, false, if◌then◌else◌, leb, eqb, get_or, List, [], ◌∷◌, ◌++◌, length, refl, sym, subst, append_assoc, arith}
use Rattle.std.specs.Prelude.{not, ◌||◌, IsTrue}
use Rattle.std.specs.List.{AllByRecursion, flat_map, list_all}
use Rattle.std.specs.Str.{IsUtf8, IsCharBoundary, is_utf8}
use Rattle.std.proofs.Math.Seq.{drop-append_seam, get_or-append_seam, take-append_seam}
use Rattle.std.proofs.lemmas.Bool.{and_parts, eqb-true, leb-true, le-ltb}
use Rattle.std.proofs.lemmas.List.{length-append}
use Rattle.std.proofs.lemmas.List.Concat.{flat_map-cons}
use Rattle.std.proofs.lemmas.List.Elements.{recursion_from_All}
use Rattle.std.proofs.lemmas.Str.{IsCharBoundary-after_ascii, IsCharBoundary-before_ascii, IsUtf8-append, IsUtf8-drop, IsUtf8-from_ascii, IsUtf8-from_is_utf8, IsUtf8-take, is_utf8-from_IsUtf8}
use Rattle.seata_types.specs.declared.limits.TheConstants.{STATEMENTS, TEXT_BYTES}
use Rattle.seata_types.specs.declared.rows.Value.{Value}
use Rattle.seata_types.specs.declared.rows.Value.TheVariants as value
use Rattle.seata_types.specs.declared.statements.Expr.{Expr}
use Rattle.seata_types.specs.declared.statements.Sign.{Sign}
use Rattle.seata_types.specs.declared.statements.Stmt.{Stmt}
use Rattle.seata_types.specs.declared.statements.Stmt.TheVariants as stmt
use Rattle.seata_types.specs.declared.statements.Term.{Term}
use Rattle.seata_types.specs.declared.statements.Term.TheVariants as term
use Rattle.byte_fields.specs.Layout.{FitsValue, is_control, is_plain}
use Rattle.sql_reader.specs.Canonical.{Piece, Fixed, Name, Number, Quoted, assignment_pieces, canonical_text, clings, comma_separated, doubled, expr_pieces, filter_pieces, gap, opens, piece_text, pieces, sign_of, spaced, term_piece, tuple_pieces, value_piece}
use Rattle.sql_reader.specs.declared.symbols.Symbol.TheVariants as symbol
use Rattle.sql_reader.specs.Lexing.{has_text_form, is_printable, quote}
use Rattle.sql_reader.specs.Readable.{IsAssignment, IsLiteral, IsReadable, IsTerm, OneOrMore}
use Rattle.frame_codec.specs.Works.{FitsStmt, FitsStmts}
use Rattle.record_places.specs.Within.{IsSetWithin, IsStmtWithin, IsTermWithin}
use Rattle.resource_rules.specs.Ready.{AreStmtsWithin}

-- ---- a text cut at an ASCII byte

module _ (xs ys : List ℕ) (q : ℕ) (ascii : q < 128) (whole : IsUtf8 (xs ++ q ∷ ys)) where
  boundary : IsCharBoundary (xs ++ q ∷ ys) (length xs)
  boundary = IsCharBoundary-before_ascii (xs ++ q ∷ ys) (length xs) (omega (arith, length-append xs (q ∷ ys))) (subst (λ n. n < 128) (sym (get_or-append_seam xs q ys 0)) ascii)

  before : IsUtf8 xs
  before = subst IsUtf8 (take-append_seam xs (q ∷ ys)) (IsUtf8-take (xs ++ q ∷ ys) (length xs) whole boundary)

  behind : IsUtf8 ys
  behind =
      let rest : IsUtf8 (q ∷ ys) = subst IsUtf8 (drop-append_seam xs (q ∷ ys)) (IsUtf8-drop (xs ++ q ∷ ys) (length xs) whole boundary) in
      IsUtf8-drop (q ∷ ys) 1 rest (IsCharBoundary-after_ascii (q ∷ ys) 0 rest (omega arith) ascii)

-- ---- a quoted text

quote_ascii : quote < 128
quote_ascii = omega arith

one_quote : IsUtf8 (quote ∷ [])
one_quote = IsUtf8-from_ascii (quote ∷ []) each
  where
    each : (i : ℕ) → get_or (quote ∷ []) i 0 < 128
    each zero = quote_ascii
    each (suc i) = omega arith

undoubled : (t pre : List ℕ) → IsUtf8 (pre ++ doubled t) → IsUtf8 (pre ++ t)
undoubled [] pre u = u
undoubled (b ∷ z) pre u = by (undoubled z []) (undoubled z (pre ++ b ∷ [])) (eqb b quote) refl u
  where
    by : (IsUtf8 (doubled z) → IsUtf8 z) → (IsUtf8 ((pre ++ b ∷ []) ++ doubled z) → IsUtf8 ((pre ++ b ∷ []) ++ z)) → (is : Bool) → eqb b quote ≡ is
        → IsUtf8 (pre ++ (if is then quote ∷ quote ∷ doubled z else b ∷ doubled z)) → IsUtf8 (pre ++ b ∷ z)
    by alone longer true e v =
        let rest : IsUtf8 z = alone (behind [] (doubled z) quote quote_ascii (behind pre (quote ∷ doubled z) quote quote_ascii v)) in
        subst (λ c. IsUtf8 (pre ++ c ∷ z)) (sym (eqb-true b quote e))
        (IsUtf8-append pre (quote ∷ z) (before pre (quote ∷ doubled z) quote quote_ascii v) (IsUtf8-append (quote ∷ []) z one_quote rest))
    by alone longer false e v = subst IsUtf8 (append_assoc pre (b ∷ []) z) (longer (subst IsUtf8 (sym (append_assoc pre (b ∷ []) (doubled z))) v))

-- ---- the pieces of a text

abbrev IsPlainPiece : Piece → Type 0
IsPlainPiece (Quoted text) = IsUtf8 text
IsPlainPiece _ = Unit {0}

abbrev ArePlain : List Piece → Type 0
ArePlain ps = AllByRecursion IsPlainPiece ps

plain_piece : (p : Piece) (front back : List ℕ) → IsUtf8 (front ++ (piece_text p ++ back)) → IsPlainPiece p
unfolding piece_text
plain_piece (Fixed found) front back u = tt
plain_piece (Name name) front back u = tt
plain_piece (Number number) front back u = tt
plain_piece (Quoted text) front back u =
    let inner : IsUtf8 ((doubled text ++ quote ∷ []) ++ back) = behind front ((doubled text ++ quote ∷ []) ++ back) quote quote_ascii u in
    undoubled text [] (before (doubled text) back quote quote_ascii (subst IsUtf8 (append_assoc (doubled text) (quote ∷ []) back) inner))

plain_pieces : (ps : List Piece) (tight : Bool) (front : List ℕ) → IsUtf8 (front ++ spaced tight ps) → ArePlain ps
unfolding spaced
plain_pieces [] tight front u = tt
plain_pieces (p ∷ ps) tight front u =
    let space : List ℕ = gap (tight || clings p) in
    let rest : List ℕ = spaced (opens p) ps in
    let parts : IsUtf8 (front ++ (space ++ (piece_text p ++ rest))) = subst (λ (w : List ℕ). IsUtf8 (front ++ w)) (append_assoc space (piece_text p) rest) u in
    let here : IsUtf8 ((front ++ space) ++ (piece_text p ++ rest)) = subst IsUtf8 (sym (append_assoc front space (piece_text p ++ rest))) parts in
    let past : IsUtf8 (((front ++ space) ++ piece_text p) ++ rest) = subst IsUtf8 (sym (append_assoc (front ++ space) (piece_text p) rest)) here in
    (plain_piece p (front ++ space) rest here, plain_pieces ps (opens p) ((front ++ space) ++ piece_text p) past)

pieces_plain : (s : Stmt) → IsUtf8 (canonical_text s) → ArePlain (pieces s)
unfolding canonical_text
pieces_plain s u = plain_pieces (pieces s) true [] u

-- ---- parts of lists

split : (xs ys : List Piece) → ArePlain (xs ++ ys) → ArePlain xs × ArePlain ys
split [] ys all = (tt, all)
split (x ∷ xs) ys all = let more = split xs ys all.1 in ((all.0, more.0), more.1)

flat : {A : Type 0} (item : A → List Piece) (xs : List A) → ArePlain (flat_map item xs) → AllByRecursion (λ x. ArePlain (item x)) xs
flat item [] all = tt
flat item (x ∷ xs) all = let parts = split (item x) (flat_map item xs) (subst ArePlain (flat_map-cons item x xs) all) in (parts.0, flat item xs parts.1)

-- what holds by two facts of each
both : {A : Type 0} (P Q R : A → Type 0) → ((x : A) → P x → Q x → R x) → (xs : List A) → AllByRecursion P xs → AllByRecursion Q xs → AllByRecursion R xs
both P Q R each [] ps qs = tt
both P Q R each (x ∷ xs) ps qs = (each x ps.0 qs.0, both P Q R each xs ps.1 qs.1)

separated : {A : Type 0} (item : A → List Piece) (xs : List A) → ArePlain (comma_separated item xs) → AllByRecursion (λ x. ArePlain (item x)) xs
separated item [] all = tt
separated {A} item (x ∷ xs) all =
    let parts = split (item x) (flat_map (λ y. Fixed symbol.Comma ∷ item y) xs) all in
    let more = flat (λ y. Fixed symbol.Comma ∷ item y) xs parts.1 in
    (parts.0, both (λ y. ArePlain (Fixed symbol.Comma ∷ item y)) (λ y. ArePlain (Fixed symbol.Comma ∷ item y)) (λ y. ArePlain (item y)) (λ y a b. a.1) xs more more)

each_of : {A : Type 0} (Each : A → Type 0) (xs : List A) → OneOrMore Each xs → AllByRecursion Each xs
each_of Each [] none = absurd none
each_of Each (x ∷ xs) all = all

-- ---- values

printable_plain : (text : List ℕ) → list_all is_printable text ≡ true → list_all (λ c. not (is_control c)) text ≡ true
printable_plain [] e = refl
printable_plain (c ∷ text) e =
    let parts = and_parts (is_printable c) (list_all is_printable text) e in
    let here = and_parts (leb 32 c) (not (eqb c 127)) parts.0 in
    rw (le-ltb c 32 (leb-true 32 c here.0), here.1, printable_plain text parts.1) refl

value_within : (v : Value) → IsLiteral v → IsPlainPiece (value_piece v) → FitsValue v
unfolding has_text_form is_plain
value_within (value.Int number) form plain = form
value_within (value.Text text) form plain =
    let parts = and_parts (leb (length text) TEXT_BYTES) (list_all is_printable text) form in
    (leb-true (length text) TEXT_BYTES parts.0, rw (is_utf8-from_IsUtf8 text plain, printable_plain text parts.1) refl)

term_within : (t : Term) → IsTerm t → IsPlainPiece (term_piece t) → IsTermWithin t
term_within (term.Lit literal) form plain = value_within literal form plain
term_within (term.Column name) form plain = tt

tuple_within : (values : List Value) → OneOrMore IsLiteral values → ArePlain (tuple_pieces values) → AllByRecursion FitsValue values
unfolding tuple_pieces
tuple_within values form plain =
    let inner = (split (comma_separated (λ v. value_piece v ∷ []) values) (Fixed symbol.Close ∷ []) plain.1).0 in
    both IsLiteral (λ v. ArePlain (value_piece v ∷ [])) FitsValue (λ v is all. value_within v is all.0) values (each_of IsLiteral values form) (separated (λ v. value_piece v ∷ []) values inner)

set_within : (s : List ℕ × Expr) → IsAssignment s → ArePlain (assignment_pieces s) → IsSetWithin s
unfolding assignment_pieces expr_pieces
set_within s form plain =
    let tail = plain.1.1 in (
      term_within s.1.first form.1.0 tail.0,
      both (λ (t : Sign × Term). IsTerm t.1) (λ t. ArePlain (Fixed (sign_of t.0) ∷ term_piece t.1 ∷ [])) (λ t. IsTermWithin t.1) (λ t is all. term_within t.1 is all.1.0) s.1.rest form.1.1
          (flat (λ (t : Sign × Term). Fixed (sign_of t.0) ∷ term_piece t.1 ∷ []) s.1.rest tail.1),
    )

-- ---- statements

written : (s : Stmt) → IsReadable s → ArePlain (pieces s) → IsStmtWithin s
unfolding IsReadable pieces
written (stmt.Insert table columns rows) form plain =
    let tuples = (split (comma_separated (λ c. Name c ∷ []) columns) (Fixed symbol.Close ∷ Fixed symbol.Values ∷ comma_separated tuple_pieces rows) plain.1.1.1.1).1.1.1 in
    both (OneOrMore IsLiteral) (λ r. ArePlain (tuple_pieces r)) (λ r. AllByRecursion FitsValue r) tuple_within rows (each_of (OneOrMore IsLiteral) rows form.2) (separated tuple_pieces rows tuples)
written (stmt.Update table sets asked) form plain =
    let writes = (split (comma_separated assignment_pieces sets) (filter_pieces asked) plain.1.1.1).0 in
    both IsAssignment (λ s. ArePlain (assignment_pieces s)) IsSetWithin set_within sets (each_of IsAssignment sets form.1) (separated assignment_pieces sets writes)
written (stmt.Delete table asked) form plain = tt
written (stmt.Select table asked) form plain = tt

plain_utf8 : (text : List ℕ) → IsTrue (is_plain text) → IsUtf8 text
unfolding is_plain
plain_utf8 text is = IsUtf8-from_is_utf8 text (and_parts (is_utf8 text) (list_all (λ c. not (is_control c)) text) is).0

pub stmt_within : (s : Stmt) → FitsStmt s → IsStmtWithin s
stmt_within s fits = written s fits.readable (pieces_plain s (plain_utf8 (canonical_text s) fits.text.plain))

pub stmts_within : (stmts : List Stmt) → FitsStmts stmts → length stmts ≤ STATEMENTS → AreStmtsWithin stmts
stmts_within stmts fits few = record { count = few; each = each stmts (recursion_from_All FitsStmt stmts fits.each) }
  where
    each : (xs : List Stmt) → AllByRecursion FitsStmt xs → AllByRecursion IsStmtWithin xs
    each [] all = tt
    each (x ∷ xs) all = (stmt_within x all.0, each xs all.1)
