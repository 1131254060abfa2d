-- The tokens of pieces, before further tokens; and the productions on them.
use Rattle.std.proofs.Common.{append-nil, append_assoc, ◌≡◌, ◌≤◌, ◌<◌, ℕ, zero, suc, ◌^◌, Bool, true, false, List, [], ◌∷◌, ◌++◌, length, Some, None, Ok, refl, ap, ◌∙◌, sym, arith}
use Rattle.std.specs.Prelude.{nat_le, nat_lt, pos, negsuc}
use Rattle.std.specs.List.{AllByRecursion, flat_map}
use Rattle.std.proofs.lemmas.Int.{ints}
use Rattle.std.proofs.lemmas.Bool.Decides.{nat_tests}
use Rattle.seata_types.specs.declared.rows.Value.{Value}
use Rattle.seata_types.specs.declared.rows.Value.TheVariants as value
use Rattle.seata_types.specs.declared.statements.Term.{Term}
use Rattle.seata_types.specs.declared.statements.Term.TheVariants as part
use Rattle.seata_types.specs.declared.statements.Sign.{Sign}
use Rattle.seata_types.specs.declared.statements.Sign.TheVariants as sign
use Rattle.seata_types.specs.declared.statements.Expr.{Expr}
use Rattle.sql_reader.specs.declared.symbols.Symbol.{Symbol}
use Rattle.sql_reader.specs.declared.symbols.Symbol.TheVariants as symbol
use Rattle.sql_reader.specs.declared.tokens.Token.{Token}
use Rattle.sql_reader.specs.declared.tokens.Token.TheVariants as token
use Rattle.sql_reader.specs.Parsing.{Parser, and_then, ◌>>=◌, ◌>>◌, pure, same_symbol, sees, past, eat, expect, more}
use denote.Enum.Bare.{sameb}
use Rattle.sql_reader.specs.contracts.symbols.Symbol.{the_type}
use Rattle.sql_reader.specs.Grammar as g
use Rattle.sql_reader.specs.Canonical.{Piece, Fixed, Name, Number, Quoted, value_piece, term_piece, sign_of, comma_separated, expr_pieces}
use Rattle.sql_reader.specs.Readable.{IsLiteral, IsTerm, IsExpr, OneOrMore}

-- the tokens of these pieces, before the rest
abbrev pub ahead : List Piece → List Token → List Token
ahead [] rest = rest
ahead (Fixed s ∷ ps) rest = token.Symbol s ∷ ahead ps rest
ahead (Name n ∷ ps) rest = token.Name n ∷ ahead ps rest
ahead (Number (pos n) ∷ ps) rest = token.Number n ∷ ahead ps rest
ahead (Number (negsuc n) ∷ ps) rest = token.Symbol symbol.Minus ∷ token.Number (suc n) ∷ ahead ps rest
ahead (Quoted t ∷ ps) rest = token.Quoted t ∷ ahead ps rest

pub ahead-append : (ps qs : List Piece) (rest : List Token) → ahead (ps ++ qs) rest ≡ ahead ps (ahead qs rest)
ahead-append [] qs rest = refl
ahead-append (Fixed s ∷ ps) qs rest = ap (λ ts. token.Symbol s ∷ ts) (ahead-append ps qs rest)
ahead-append (Name n ∷ ps) qs rest = ap (λ ts. token.Name n ∷ ts) (ahead-append ps qs rest)
ahead-append (Number (pos n) ∷ ps) qs rest = ap (λ ts. token.Number n ∷ ts) (ahead-append ps qs rest)
ahead-append (Number (negsuc n) ∷ ps) qs rest = ap (λ ts. token.Symbol symbol.Minus ∷ token.Number (suc n) ∷ ts) (ahead-append ps qs rest)
ahead-append (Quoted t ∷ ps) qs rest = ap (λ ts. token.Quoted t ∷ ts) (ahead-append ps qs rest)

pub length-ahead : (ps : List Piece) (rest : List Token) → length rest ≤ length (ahead ps rest)
length-ahead [] rest = omega arith
length-ahead (Fixed s ∷ ps) rest = omega (arith, length-ahead ps rest)
length-ahead (Name n ∷ ps) rest = omega (arith, length-ahead ps rest)
length-ahead (Number (pos n) ∷ ps) rest = omega (arith, length-ahead ps rest)
length-ahead (Number (negsuc n) ∷ ps) rest = omega (arith, length-ahead ps rest)
length-ahead (Quoted t ∷ ps) rest = omega (arith, length-ahead ps rest)

-- ---- parts

pub literal-ahead : (v : Value) (rest : List Token) → IsLiteral v → g.literal (ahead (value_piece v ∷ []) rest) ≡ Ok (v, rest)
unfolding g.literal
literal-ahead (value.Int (pos n)) rest is =
    let below : n < 2 ^ 63 = omega (arith, ints, is) in
    let fits : nat_lt n (2 ^ 63) ≡ true = grind (arith, nat_tests) in
    rw fits refl
literal-ahead (value.Int (negsuc n)) rest is =
    let below : suc n ≤ 2 ^ 63 = omega (arith, ints, is) in
    let fits : nat_le (suc n) (2 ^ 63) ≡ true = grind (arith, nat_tests) in
    rw fits refl
literal-ahead (value.Text t) rest is = refl

term-ahead : (t : Term) (rest : List Token) → IsTerm t → g.term (ahead (term_piece t ∷ []) rest) ≡ Ok (t, rest)
unfolding g.term
term-ahead (part.Column n) rest is = refl
term-ahead (part.Lit (value.Int (pos n))) rest is = ap (λ o. and_then o (λ found. pure (part.Lit found))) (literal-ahead (value.Int (pos n)) rest is)
term-ahead (part.Lit (value.Int (negsuc n))) rest is = ap (λ o. and_then o (λ found. pure (part.Lit found))) (literal-ahead (value.Int (negsuc n)) rest is)
term-ahead (part.Lit (value.Text t)) rest is = ap (λ o. and_then o (λ found. pure (part.Lit found))) (literal-ahead (value.Text t) rest is)

-- no sign stands next
abbrev pub NoSign : List Token → Type 0
NoSign rest = g.plus_or_minus rest ≡ Ok (None, rest)

sign-ahead : (s : Sign) (rest : List Token) → g.plus_or_minus (token.Symbol (sign_of s) ∷ rest) ≡ Ok (Some s, rest)
unfolding g.plus_or_minus
sign-ahead sign.Plus rest = refl
sign-ahead sign.Minus rest = refl

abbrev signed : Sign × Term → List Piece
signed t = Fixed (sign_of t.0) ∷ term_piece t.1 ∷ []

terms-ahead : (n : ℕ) (found ts : List (Sign × Term)) (rest : List Token) → length ts ≤ n → AllByRecursion (λ t. IsTerm t.1) ts → NoSign rest
    → g.more_terms n found (ahead (flat_map signed ts) rest) ≡ Ok (found ++ ts, rest)
unfolding g.more_terms
terms-ahead zero found [] rest few are none = ap (λ ts. Ok (ts, rest)) (sym (append-nil found))
terms-ahead (suc n) found [] rest few are none = rw none (ap (λ ts. Ok (ts, rest)) (sym (append-nil found)))
terms-ahead zero found (t ∷ ts) rest few are none = absurd (omega arith)
terms-ahead (suc n) found (t ∷ ts) rest few are none =
    let first = sign-ahead t.0 (ahead (term_piece t.1 ∷ flat_map signed ts) rest) in
    let second = term-ahead t.1 (ahead (flat_map signed ts) rest) are.0 in
    let split = ahead-append (term_piece t.1 ∷ []) (flat_map signed ts) rest in
    rw (first, split, second) (terms-ahead n (found ++ t ∷ []) ts rest (omega arith) are.1 none ∙ ap (λ xs. Ok (xs, rest)) (append_assoc found (t ∷ []) ts))

count-terms : (ts : List (Sign × Term)) (rest : List Token) → length ts ≤ length (ahead (flat_map signed ts) rest)
count-terms [] rest = omega arith
count-terms (t ∷ ts) rest = omega (arith, count-terms ts rest, length-ahead (term_piece t.1 ∷ []) (ahead (flat_map signed ts) rest), ap length (ahead-append (term_piece t.1 ∷ []) (flat_map signed ts) rest))

pub expr-ahead : (e : Expr) (rest : List Token) → IsExpr e → NoSign rest → g.expr (ahead (expr_pieces e) rest) ≡ Ok (e, rest)
unfolding g.expr expr_pieces
expr-ahead e rest is none =
    let split = ahead-append (term_piece e.first ∷ []) (flat_map signed e.rest) rest in
    let first = term-ahead e.first (ahead (flat_map signed e.rest) rest) is.0 in
    let others = terms-ahead (length (ahead (flat_map signed e.rest) rest)) [] e.rest rest (count-terms e.rest rest) is.1 none in
    rw (split, first, others) refl

-- ---- repetitions

pub more-stops : {A B : Type 0} (s : Symbol) (item : Parser A) (join : B → A → B) (n : ℕ) (b : B) (rest : List Token) → sees s rest ≡ false → more s item join n b rest ≡ Ok (b, rest)
unfolding more past
more-stops s item join zero b rest none = refl
more-stops s item join (suc n) b rest none = rw none refl

pub sees-itself : (s : Symbol) (rest : List Token) → sees s (token.Symbol s ∷ rest) ≡ true
unfolding sees same_symbol
sees-itself s rest = same_itself s
  where
    same_itself : (s : Symbol) → sameb the_type s s ≡ true
    same_itself symbol.Insert = refl
    same_itself _ = refl

pub more-goes : {A B : Type 0} (s : Symbol) (item : Parser A) (join : B → A → B) (n : ℕ) (b : B) (x : A) (ts rest : List Token) → item ts ≡ Ok (x, rest)
    → more s item join (suc n) b (token.Symbol s ∷ ts) ≡ more s item join n (join b x) rest
unfolding more past
more-goes s item join n b x ts rest is = rw (sees-itself s ts, is) refl

pub expect-ahead : {B : Type 0} (s : Symbol) (f : Parser B) (rest : List Token) → (expect s >> f) (token.Symbol s ∷ rest) ≡ f rest
unfolding expect past
expect-ahead s f rest = rw (sees-itself s rest) refl

pub eat-ahead : {B : Type 0} (s : Symbol) (f : Bool → Parser B) (rest : List Token) → (eat s >>= f) (token.Symbol s ∷ rest) ≡ f true rest
unfolding past
eat-ahead s f rest = rw (sees-itself s rest) refl

pub eat-other : {B : Type 0} (s : Symbol) (f : Bool → Parser B) (rest : List Token) → sees s rest ≡ false → (eat s >>= f) rest ≡ f false rest
unfolding past
eat-other s f rest none = rw none refl

-- an item that is read from its pieces, wherever After holds of what follows
pub record ReadsBack {A : Type 0} (Good : A → Type 0) (After : List Token → Type 0) (item : Parser A) (pieces_of : A → List Piece) : Type 0 where
  pub reads : (x : A) (rest : List Token) → Good x → After rest → item (ahead (pieces_of x) rest) ≡ Ok (x, rest)
  pub comma : (rest : List Token) → After (token.Symbol symbol.Comma ∷ rest)

abbrev pub behind_comma : {A : Type 0} → (A → List Piece) → A → List Piece
behind_comma pieces_of x = Fixed symbol.Comma ∷ pieces_of x

after-item : {A : Type 0} (Good : A → Type 0) (After : List Token → Type 0) (item : Parser A) (pieces_of : A → List Piece) → ReadsBack Good After item pieces_of
    → (xs : List A) (rest : List Token) → After rest → After (ahead (flat_map (behind_comma pieces_of) xs) rest)
after-item Good After item pieces_of is [] rest follows = follows
after-item Good After item pieces_of is (y ∷ ys) rest follows = is.comma _

more-ahead : {A : Type 0} (Good : A → Type 0) (After : List Token → Type 0) (item : Parser A) (pieces_of : A → List Piece) → ReadsBack Good After item pieces_of
    → (n : ℕ) (found xs : List A) (rest : List Token) → length xs ≤ n → AllByRecursion Good xs → After rest → sees symbol.Comma rest ≡ false
    → more symbol.Comma item (λ ys x. ys ++ x ∷ []) n found (ahead (flat_map (behind_comma pieces_of) xs) rest) ≡ Ok (found ++ xs, rest)
more-ahead Good After item pieces_of is n found [] rest few are follows none =
    more-stops symbol.Comma item (λ ys x. ys ++ x ∷ []) n found rest none ∙ ap (λ ys. Ok (ys, rest)) (sym (append-nil found))
more-ahead Good After item pieces_of is zero found (x ∷ xs) rest few are follows none = absurd (omega arith)
more-ahead Good After item pieces_of is (suc n) found (x ∷ xs) rest few are follows none =
    let later = ahead (flat_map (behind_comma pieces_of) xs) rest in
    let split = ahead-append (pieces_of x) (flat_map (behind_comma pieces_of) xs) rest in
    let one = is.reads x later are.0 (after-item Good After item pieces_of is xs rest follows) in
    rw split (more-goes symbol.Comma item (λ ys x. ys ++ x ∷ []) n found x (ahead (pieces_of x) later) later one
    ∙ more-ahead Good After item pieces_of is n (found ++ x ∷ []) xs rest (omega arith) are.1 follows none
    ∙ ap (λ ys. Ok (ys, rest)) (append_assoc found (x ∷ []) xs))

count-items : {A : Type 0} (pieces_of : A → List Piece) (xs : List A) (rest : List Token) → length xs ≤ length (ahead (flat_map (behind_comma pieces_of) xs) rest)
count-items pieces_of [] rest = omega arith
count-items pieces_of (x ∷ xs) rest =
    omega (arith, count-items pieces_of xs rest, length-ahead (pieces_of x) (ahead (flat_map (behind_comma pieces_of) xs) rest), ap length (ahead-append (pieces_of x) (flat_map (behind_comma pieces_of) xs) rest))

pub listed-ahead : {A : Type 0} (Good : A → Type 0) (After : List Token → Type 0) (item : Parser A) (pieces_of : A → List Piece) → ReadsBack Good After item pieces_of
    → (xs : List A) (rest : List Token) → OneOrMore Good xs → After rest → sees symbol.Comma rest ≡ false → g.listed item (ahead (comma_separated pieces_of xs) rest) ≡ Ok (xs, rest)
listed-ahead Good After item pieces_of is [] rest some follows none = absurd some
listed-ahead Good After item pieces_of is (x ∷ xs) rest some follows none =
    let later = ahead (flat_map (behind_comma pieces_of) xs) rest in
    let split = ahead-append (pieces_of x) (flat_map (behind_comma pieces_of) xs) rest in
    let first = is.reads x later some.0 (after-item Good After item pieces_of is xs rest follows) in
    rw (split, first) (more-ahead Good After item pieces_of is (length later) (x ∷ []) xs rest (count-items pieces_of xs rest) some.1 follows none)
