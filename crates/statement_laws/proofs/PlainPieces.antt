-- The canonical text of a statement that can be read is UTF-8 where the texts of its values are.
use Rattle.std.proofs.Common.{◌≡◌, ◌<◌, ℕ, suc, Bool, true, false, List, [], ◌∷◌, ◌++◌, Option, Some, None, All, refl, sym, subst, append_assoc, arith}
use Rattle.std.specs.Prelude.{if◌then◌else◌, ◌==◌, ◌||◌, ℤ, pos, negsuc, FitsSigned, IsUtf8}
use Rattle.std.specs.Fmt.{decimal, signed_decimal}
use Rattle.std.specs.Int.{w64}
use Rattle.std.specs.List.{AllByRecursion, flat_map}
use Rattle.std.proofs.lemmas.Bool.{eqb-true}
use Rattle.std.proofs.lemmas.Int.{ints}
use Rattle.std.proofs.lemmas.List.Elements.{recursion_from_All}
use Rattle.std.proofs.lemmas.Str.{IsUtf8-append}
use Rattle.seata_types.specs.declared.rows.Value.{Value}
use Rattle.seata_types.specs.declared.rows.Value.TheVariants as value
use Rattle.seata_types.specs.declared.statements.Term.{Term}
use Rattle.seata_types.specs.declared.statements.Term.TheVariants as part
use Rattle.seata_types.specs.declared.statements.Sign.{Sign}
use Rattle.seata_types.specs.declared.statements.Expr.{Expr}
use Rattle.seata_types.specs.declared.statements.Stmt.{Stmt}
use Rattle.seata_types.specs.declared.statements.Stmt.TheVariants as stmt
use Rattle.seata_types.specs.Condition.{Condition}
use Rattle.seata_types.specs.Condition as tree
use Rattle.sql_reader.specs.declared.symbols.Symbol.{Symbol}
use Rattle.sql_reader.specs.declared.symbols.Symbol.TheVariants as symbol
use Rattle.sql_reader.specs.Canonical.{Piece, Fixed, Name, Quoted, doubled, piece_text, value_piece, term_piece, sign_of, op_symbol, comma_separated, expr_pieces, assignment_pieces, tuple_pieces, is_or, is_and, grouped, condition_pieces, filter_pieces, pieces, symbol_text, spaced, gap, opens, clings, canonical_text}
use Rattle.sql_reader.specs.Lexing.{quote}
use Rattle.sql_reader.specs.Readable.{IsName, IsLiteral, IsTerm, IsExpr, IsAssignment, OneOrMore, HasReadableParts, IsFilter, IsReadable}
use Rattle.statement_laws.specs.Texts.{HasText, HasTextOf, HasTexts, HasTextsIn, HasTextsOf, AreTexts}
use Rattle.statement_laws.proofs.PlainTexts.{plain-utf8, symbol-plain, name-plain, number-plain, negative-plain}
use Rattle.statement_laws.proofs.WrittenText.{utf8_before, utf8_behind, quoted-utf8, spaced-text}

-- ---- texts in quotes

-- with what stands before the text
front-doubled : (front z : List ℕ) → IsUtf8 (front ++ z) → IsUtf8 (front ++ doubled z)
front-doubled front [] utf8 = utf8
front-doubled front (b ∷ z) utf8 = by_test (b == quote) refl (front-doubled [] z) (front-doubled (front ++ b ∷ []) z)
  where
    by_test : (is : Bool) → (b == quote) ≡ is → (IsUtf8 z → IsUtf8 (doubled z)) → (IsUtf8 ((front ++ b ∷ []) ++ z) → IsUtf8 ((front ++ b ∷ []) ++ doubled z))
        → IsUtf8 (front ++ (if is then quote ∷ quote ∷ doubled z else b ∷ doubled z))
    by_test true e behind on =
        let whole : IsUtf8 (front ++ quote ∷ z) = subst (λ c. IsUtf8 (front ++ c ∷ z)) (eqb-true b quote e) utf8 in
        let two : IsUtf8 (quote ∷ quote ∷ doubled z) = IsUtf8-append (quote ∷ quote ∷ []) (doubled z) (plain-utf8 (quote ∷ quote ∷ []) refl) (behind (utf8_behind front z quote (omega arith) whole)) in
        IsUtf8-append front (quote ∷ quote ∷ doubled z) (utf8_before front z quote (omega arith) whole) two
    by_test false e behind on = subst IsUtf8 (append_assoc front (b ∷ []) (doubled z)) (on (subst IsUtf8 (sym (append_assoc front (b ∷ []) z)) utf8))

-- ---- pieces

abbrev IsPlain : Piece → Type 0
IsPlain p = IsUtf8 (piece_text p)

abbrev ArePlain : List Piece → Type 0
ArePlain = AllByRecursion IsPlain

plain-append : (ps qs : List Piece) → ArePlain ps → ArePlain qs → ArePlain (ps ++ qs)
plain-append [] qs first second = second
plain-append (p ∷ ps) qs first second = (first.0, plain-append ps qs first.1 second)

fixed : (s : Symbol) → IsPlain (Fixed s)
unfolding piece_text
fixed s = plain-utf8 (symbol_text s) (symbol-plain s)

named : (n : List ℕ) → IsName n → IsPlain (Name n)
unfolding piece_text
named n is = plain-utf8 n (name-plain n is.form)

signed-utf8 : (z : ℤ) → FitsSigned w64 z → IsUtf8 (signed_decimal z)
signed-utf8 (pos n) fits = plain-utf8 (decimal n) (number-plain n (omega (arith, ints)))
signed-utf8 (negsuc n) fits = plain-utf8 (signed_decimal (negsuc n)) (negative-plain (suc n) (omega (arith, ints)))

literal-plain : (v : Value) → IsLiteral v → HasText v → IsPlain (value_piece v)
unfolding piece_text
literal-plain (value.Int z) is text = signed-utf8 z is
literal-plain (value.Text t) is text = quoted-utf8 t (front-doubled [] t text)

term-plain : (t : Term) → IsTerm t → HasTextOf t → IsPlain (term_piece t)
term-plain (part.Lit v) is text = literal-plain v is text
term-plain (part.Column n) is text = named n is

terms-plain : (ts : List (Sign × Term)) → AllByRecursion (λ t. IsTerm t.1) ts → AllByRecursion (λ t. HasTextOf t.1) ts
    → ArePlain (flat_map (λ t. Fixed (sign_of t.0) ∷ term_piece t.1 ∷ []) ts)
terms-plain [] are texts = tt
terms-plain (t ∷ ts) are texts = (fixed (sign_of t.0), (term-plain t.1 are.0 texts.0, terms-plain ts are.1 texts.1))

expr-plain : (e : Expr) → IsExpr e → HasTexts e → ArePlain (expr_pieces e)
unfolding expr_pieces
expr-plain e is texts = (term-plain e.first is.0 texts.0, terms-plain e.rest is.1 (recursion_from_All (λ t. HasTextOf t.1) e.rest texts.1))

module _ {A : Type 0} (Is : A → Type 0) (Has : A → Type 0) (item : A → List Piece) (each : (x : A) → Is x → Has x → ArePlain (item x)) where
  behind-plain : (xs : List A) → AllByRecursion Is xs → AllByRecursion Has xs → ArePlain (flat_map (λ y. Fixed symbol.Comma ∷ item y) xs)
  behind-plain [] are texts = tt
  behind-plain (x ∷ xs) are texts = (fixed symbol.Comma, plain-append (item x) (flat_map (λ y. Fixed symbol.Comma ∷ item y) xs) (each x are.0 texts.0) (behind-plain xs are.1 texts.1))

  listed-plain : (xs : List A) → OneOrMore Is xs → AllByRecursion Has xs → ArePlain (comma_separated item xs)
  listed-plain [] some texts = tt
  listed-plain (x ∷ xs) some texts = plain-append (item x) (flat_map (λ y. Fixed symbol.Comma ∷ item y) xs) (each x some.0 texts.0) (behind-plain xs some.1 texts.1)

tuple-plain : (vs : List Value) → OneOrMore IsLiteral vs → All HasText vs → ArePlain (tuple_pieces vs)
unfolding tuple_pieces
tuple-plain vs are texts =
    let values = listed-plain IsLiteral HasText (λ v. value_piece v ∷ []) (λ v is text. (literal-plain v is text, tt)) vs are (recursion_from_All HasText vs texts) in
    (fixed symbol.Open, plain-append (comma_separated (λ v. value_piece v ∷ []) vs) (Fixed symbol.Close ∷ []) values (fixed symbol.Close, tt))

assignment-plain : (s : List ℕ × Expr) → IsAssignment s → HasTexts s.1 → ArePlain (assignment_pieces s)
unfolding assignment_pieces
assignment-plain s is texts = (named s.0 is.0, (fixed symbol.Equal, expr-plain s.1 is.1 texts))

grouped-plain : (b : Bool) (ps : List Piece) → ArePlain ps → ArePlain (grouped b ps)
grouped-plain true ps are = (fixed symbol.Open, plain-append ps (Fixed symbol.Close ∷ []) are (fixed symbol.Close, tt))
grouped-plain false ps are = are

condition-plain : (c : Condition) → HasReadableParts c → HasTextsIn c → ArePlain (condition_pieces c)
unfolding condition_pieces
condition-plain (tree.Cmp column test compared) is texts = (named column is.0, (fixed (op_symbol test), (literal-plain compared is.1 texts, tt)))
condition-plain (tree.And left right) is texts =
    plain-append (grouped (is_or left) (condition_pieces left)) (Fixed symbol.And ∷ grouped (is_or right || is_and right) (condition_pieces right))
    (grouped-plain (is_or left) (condition_pieces left) (condition-plain left is.0 texts.0))
    (fixed symbol.And, grouped-plain (is_or right || is_and right) (condition_pieces right) (condition-plain right is.1 texts.1))
condition-plain (tree.Or left right) is texts =
    plain-append (condition_pieces left) (Fixed symbol.Or ∷ grouped (is_or right) (condition_pieces right))
    (condition-plain left is.0 texts.0) (fixed symbol.Or, grouped-plain (is_or right) (condition_pieces right) (condition-plain right is.1 texts.1))
condition-plain (tree.Not inner) is texts = (fixed symbol.Not, grouped-plain (is_or inner || is_and inner) (condition_pieces inner) (condition-plain inner is texts))

filter-plain : (c : Option Condition) → IsFilter c → HasTextsOf c → ArePlain (filter_pieces c)
unfolding filter_pieces
filter-plain None is texts = tt
filter-plain (Some c) is texts = (fixed symbol.Where, condition-plain c is.0 texts)

-- names have no texts
no-texts : (names : List (List ℕ)) → AllByRecursion (λ n. Unit {0}) names
no-texts [] = tt
no-texts (n ∷ names) = (tt, no-texts names)

pieces-plain : (s : Stmt) → IsReadable s → AreTexts s → ArePlain (pieces s)
unfolding pieces IsReadable
pieces-plain (stmt.Insert table columns rows) is texts =
    let values = listed-plain (OneOrMore IsLiteral) (λ r. All HasText r) tuple_pieces tuple-plain rows is.2 (recursion_from_All (λ r. All HasText r) rows texts) in
    let names = listed-plain IsName (λ n. Unit {0}) (λ c. Name c ∷ []) (λ n is _. (named n is, tt)) columns is.1 (no-texts columns) in
    let lists = plain-append (comma_separated (λ c. Name c ∷ []) columns) (Fixed symbol.Close ∷ Fixed symbol.Values ∷ comma_separated tuple_pieces rows) names
    (fixed symbol.Close, (fixed symbol.Values, values)) in
    (fixed symbol.Insert, (fixed symbol.Into, (named table is.0, (fixed symbol.Open, lists))))
pieces-plain (stmt.Update table sets c) is texts =
    let changes = listed-plain IsAssignment (λ s. HasTexts s.1) assignment_pieces assignment-plain sets is.1 (recursion_from_All (λ s. HasTexts s.1) sets texts.0) in
    (fixed symbol.Update, (named table is.0, (fixed symbol.Set, plain-append (comma_separated assignment_pieces sets) (filter_pieces c) changes (filter-plain c is.2 texts.1))))
pieces-plain (stmt.Delete table c) is texts = (fixed symbol.Delete, (fixed symbol.From, (named table is.0, filter-plain c is.1 texts)))
pieces-plain (stmt.Select table c) is texts = (
  fixed symbol.Select,
  (
    fixed symbol.Star,
    (
      fixed symbol.From,
      (
        named table is.0,
        plain-append (filter_pieces c) (Fixed symbol.For ∷ Fixed symbol.Update ∷ []) (filter-plain c is.1 texts) (fixed symbol.For, (fixed symbol.Update, tt)),
      ),
    ),
  ),
)

pub canonical_utf8 : (s : Stmt) → IsReadable s → AreTexts s → IsUtf8 (canonical_text s)
unfolding canonical_text
canonical_utf8 s is texts = spaced-text true (pieces s) (pieces-plain s is texts)
