-- Rows: one piece each, which reads back.
use Rattle.std.proofs.Common.{◌≡◌, ℕ, suc, ◌+◌, ◌%◌, ◌^◌, ◌<◌, ◌≤◌, ◌==◌, Bool, true, false, List, [], ◌∷◌, ◌++◌, refl, ap, sym, ◌∙◌, append_assoc, nat_eq, arith}
use Rattle.std.specs.Prelude.{◌&&◌, not, pos, negsuc, codes, map, Option, Some, None}
use Rattle.std.specs.Fmt.{decimal}
use Rattle.std.specs.List.{AllByRecursion, list_all}
use Rattle.std.proofs.lemmas.Bool.Decides.{nat_tests}
use Rattle.std.proofs.lemmas.List.Folds.{list_all-append}
use Rattle.std.proofs.lemmas.Fmt.{decimal_by_steps}
use Rattle.seata_types.specs.Orders.{same_text}
use Rattle.seata_types.specs.declared.rows.Row.{Row}
use Rattle.seata_types.specs.declared.rows.Value.{Value}
use Rattle.seata_types.specs.declared.rows.Value.TheVariants as value
use Rattle.history_text.specs.Lines.{quoted, literal_text, more_values_text, values_text, option_row_text}
use Rattle.entry_reader.specs.declared.pieces.Separator.{Separator}
use Rattle.entry_reader.specs.declared.pieces.Separator.TheVariants as at
use Rattle.entry_reader.specs.declared.pieces.Inside.TheVariants as inside
use Rattle.entry_reader.specs.Cuts.{after, prefixed, cut}
use Rattle.entry_reader.specs.Values.{literal_of, cell_of, row_of, option_row_of}
use Rattle.entry_reader.specs.Types.{IsValue, IsOptionRow}
use Rattle.entry_reader.proofs.Ascii.{both_left, both_right}
use Rattle.entry_reader.proofs.CutBytes.{prefixed-prefixed, prefixed-nothing}
use Rattle.entry_reader.proofs.Closed.{IsClosed}
use Rattle.entry_reader.proofs.Spells.{IsPiece, word}
use Rattle.entry_reader.proofs.Tests.{both, not_true}
use Rattle.entry_reader.proofs.Literals.{step, row_quotes, quoted-cut, wide, wide_next, StartsWithDigit, decimal-starts, literal-closed, literal-back}

-- ---- inside a row nothing is cut

abbrev IsKept : Separator → List ℕ → Type 0
IsKept s t = (rest : List ℕ) → cut s inside.Row (t ++ rest) ≡ prefixed t (cut s inside.Row rest)

abbrev stays_in_row : ℕ → Bool
stays_in_row c = not (c == 39) && not (c == 41)

row_stays : (c : ℕ) → (c == 39) ≡ false → (c == 41) ≡ false → after inside.Row c ≡ inside.Row
row_stays c quote bracket = rw (quote, bracket) refl

no_piece : (s : Separator) (text : List ℕ) → prefixed [] (cut s inside.Row text) ≡ cut s inside.Row text
no_piece s text = prefixed-nothing s inside.Row text

kept-append : (s : Separator) (a b : List ℕ) → IsKept s a → IsKept s b → IsKept s (a ++ b)
kept-append s a b first second rest =
    ap (λ t. cut s inside.Row t) (append_assoc a b rest) ∙ first (b ++ rest) ∙ ap (λ ps. prefixed a ps) (second rest)
    ∙ prefixed-prefixed a b (cut s inside.Row rest)

kept-byte : (s : Separator) (c : ℕ) → stays_in_row c ≡ true → IsKept s (c ∷ [])
kept-byte s c is rest =
    step s inside.Row inside.Row c rest refl
    (row_stays c (not_true (c == 39) (both_left (not (c == 39)) (not (c == 41)) is)) (not_true (c == 41) (both_right (not (c == 39)) (not (c == 41)) is)))

kept-all : (s : Separator) (t : List ℕ) → list_all stays_in_row t ≡ true → IsKept s t
kept-all s [] all = λ rest. sym (no_piece s rest)
kept-all s (c ∷ cs) all =
    kept-append s (c ∷ []) cs (kept-byte s c (both_left (stays_in_row c) (list_all stays_in_row cs) all)) (kept-all s cs (both_right (stays_in_row c) (list_all stays_in_row cs) all))

digit_stays : (k : ℕ) → k < 10 → stays_in_row (48 + k) ≡ true
digit_stays k low = grind (arith, nat_tests)

decimal-stays : (n : ℕ) → n < 2 ^ 64 → list_all stays_in_row (decimal n) ≡ true
decimal-stays n small = decimal_by_steps (λ k ds. list_all stays_in_row ds ≡ true)
    (λ k low. both (stays_in_row (48 + k)) true (digit_stays k low) refl)
    (λ k ds high so_far.
    let low : k % 10 < 10 = omega arith in
    list_all-append stays_in_row ds ((48 + k % 10) ∷ [])
    ∙ both (list_all stays_in_row ds) (list_all stays_in_row ((48 + k % 10) ∷ [])) so_far (both (stays_in_row (48 + k % 10)) true (digit_stays (k % 10) low) refl))
    n small

quoted-kept : (s : Separator) (text : List ℕ) → IsKept s (39 ∷ (quoted text ++ (39 ∷ [])))
quoted-kept s text rest =
    step s inside.Row inside.RowText 39 ((quoted text ++ (39 ∷ [])) ++ rest) refl refl
    ∙ ap (λ t. prefixed (39 ∷ []) (cut s inside.RowText t)) (append_assoc (quoted text) (39 ∷ []) rest)
    ∙ ap (λ ps. prefixed (39 ∷ []) ps) (quoted-cut s inside.RowText inside.Row (row_quotes s) text rest)
    ∙ prefixed-prefixed (39 ∷ []) (quoted text ++ (39 ∷ [])) (cut s inside.Row rest)

literal-kept : (s : Separator) (v : Value) → IsValue v → IsKept s (literal_text v)
literal-kept s (value.Int (pos n)) small = kept-all s (decimal n) (decimal-stays n (wide n small))
literal-kept s (value.Int (negsuc n)) small = kept-append s (45 ∷ []) (decimal (suc n)) (kept-byte s 45 refl) (kept-all s (decimal (suc n)) (decimal-stays (suc n) (wide_next n small)))
literal-kept s (value.Text text) is = quoted-kept s text

more-kept : (s : Separator) (vs : List Value) → AllByRecursion IsValue vs → IsKept s (more_values_text (codes ", ") vs)
more-kept s [] all = kept-all s [] refl
more-kept s (v ∷ vs) all =
    kept-append s (codes ", " ++ literal_text v) (more_values_text (codes ", ") vs)
    (kept-append s (codes ", ") (literal_text v) (kept-all s (codes ", ") refl) (literal-kept s v all.0)) (more-kept s vs all.1)

values-kept : (s : Separator) (vs : List Value) → AllByRecursion IsValue vs → IsKept s (values_text (codes ", ") vs)
values-kept s [] all = kept-all s [] refl
values-kept s (v ∷ vs) all = kept-append s (literal_text v) (more_values_text (codes ", ") vs) (literal-kept s v all.0) (more-kept s vs all.1)

-- a bracket, what is kept inside, and the other bracket
bracketed-closed : (s : Separator) (t : List ℕ) → ((rest : List ℕ) → cut s inside.Nothing (40 ∷ rest) ≡ prefixed (40 ∷ []) (cut s inside.Row rest)) → IsKept s t
    → IsClosed s (40 ∷ (t ++ (41 ∷ [])))
bracketed-closed s t begins kept rest =
    begins ((t ++ (41 ∷ [])) ++ rest)
    ∙ ap (λ z. prefixed (40 ∷ []) (cut s inside.Row z)) (append_assoc t (41 ∷ []) rest)
    ∙ ap (λ ps. prefixed (40 ∷ []) ps) (kept (41 ∷ rest) ∙ ap (λ ps. prefixed t ps) (step s inside.Row inside.Nothing 41 rest refl refl) ∙ prefixed-prefixed t (41 ∷ []) (cut s inside.Nothing rest))
    ∙ prefixed-prefixed (40 ∷ []) (t ++ (41 ∷ [])) (cut s inside.Nothing rest)

pub row_piece : (row : Option Row) → IsOptionRow row → IsPiece (option_row_text row)
row_piece None is = word (codes "-") refl refl
row_piece (Some row) is = record {
  spaces = bracketed-closed at.Space (values_text (codes ", ") row.0) (λ rest. refl) (values-kept at.Space row.0 is);
  bars = bracketed-closed at.Bar (values_text (codes ", ") row.0) (λ rest. refl) (values-kept at.Bar row.0 is);
}

-- ---- they read back

-- how a literal begins
record Begins (t : List ℕ) : Type 0 where
  first : ℕ
  further : List ℕ
  is : t ≡ first ∷ further
  no_space : (first == 32) ≡ false
  no_bracket : nat_eq first 41 ≡ false

by_digit : (t : List ℕ) → StartsWithDigit t → Begins t
by_digit t starts =
    let high : 48 ≤ starts.first = starts.digit in
    record { first = starts.first; further = starts.others; is = starts.is; no_space = grind (arith, nat_tests); no_bracket = grind (arith, nat_tests) }

begins : (v : Value) → IsValue v → Begins (literal_text v)
begins (value.Int (pos n)) small = by_digit (decimal n) (decimal-starts n (wide n small))
begins (value.Int (negsuc n)) small = record { first = 45; further = decimal (suc n); is = refl; no_space = refl; no_bracket = refl }
begins (value.Text text) is = record { first = 39; further = quoted text ++ (39 ∷ []); is = refl; no_space = refl; no_bracket = refl }

no_space-cell : (c : ℕ) (cs : List ℕ) → (c == 32) ≡ false → cell_of (c ∷ cs) ≡ literal_of (c ∷ cs)
no_space-cell c cs other = rw other refl

cell-literal : (v : Value) (rest : List ℕ) → IsValue v → cell_of (literal_text v ++ rest) ≡ literal_of (literal_text v ++ rest)
cell-literal v rest is =
    let b = begins v is in
    let front : literal_text v ++ rest ≡ b.first ∷ (b.further ++ rest) = ap (λ t. t ++ rest) b.is in
    ap cell_of front ∙ no_space-cell b.first (b.further ++ rest) b.no_space ∙ ap literal_of (sym front)

-- what may stand before a cell's literal
abbrev IsFront : List ℕ → Type 0
IsFront front = (v : Value) (rest : List ℕ) → IsValue v → cell_of (front ++ (literal_text v ++ rest)) ≡ literal_of (literal_text v ++ rest)

cell-last : (front : List ℕ) → IsFront front → (v : Value) → IsValue v → cell_of (front ++ (literal_text v ++ (41 ∷ []))) ≡ v
cell-last front may v is = may v (41 ∷ []) is ∙ literal-back v (41 ∷ []) is (λ m. refl) refl

cell-inner : (front : List ℕ) → IsFront front → (v : Value) → IsValue v → cell_of (front ++ (literal_text v ++ [])) ≡ v
cell-inner front may v is = may v [] is ∙ literal-back v [] is (λ m. refl) refl

cells-back : (front : List ℕ) → IsFront front → (v : Value) (vs : List Value) → IsValue v → AllByRecursion IsValue vs
    → map cell_of (prefixed front (cut at.Item inside.Nothing (literal_text v ++ (more_values_text (codes ", ") vs ++ (41 ∷ []))))) ≡ v ∷ vs
cells-back front may v [] is all =
    ap (λ ps. map cell_of (prefixed front ps)) (literal-closed at.Item v is (41 ∷ []))
    ∙ ap (λ x. x ∷ []) (cell-last front may v is)
cells-back front may v (w ∷ ws) is all =
    let more = literal_text w ++ (more_values_text (codes ", ") ws ++ (41 ∷ [])) in
    let text : more_values_text (codes ", ") (w ∷ ws) ++ (41 ∷ []) ≡ 44 ∷ 32 ∷ more =
    ap (λ t. 44 ∷ 32 ∷ t) (append_assoc (literal_text w) (more_values_text (codes ", ") ws) (41 ∷ [])) in
    let one : cut at.Item inside.Nothing (literal_text v ++ (44 ∷ 32 ∷ more)) ≡ (literal_text v ++ []) ∷ prefixed (32 ∷ []) (cut at.Item inside.Nothing more) =
    literal-closed at.Item v is (44 ∷ 32 ∷ more) in
    ap (λ t. map cell_of (prefixed front (cut at.Item inside.Nothing (literal_text v ++ t)))) text
    ∙ ap (λ ps. map cell_of (prefixed front ps)) one
    ∙ ap (λ x. x ∷ map cell_of (prefixed (32 ∷ []) (cut at.Item inside.Nothing more))) (cell-inner front may v is)
    ∙ ap (λ xs. v ∷ xs) (cells-back (32 ∷ []) (λ u rest h. refl) w ws all.0 all.1)

row_of-cells : (text : List ℕ) → same_text text (codes ")") ≡ false → row_of (40 ∷ text) ≡ record { 0 = map cell_of (cut at.Item inside.Nothing text) }
unfolding row_of
row_of-cells text h = rw h refl

row_of-none : row_of (codes "()") ≡ record { 0 = [] }
unfolding row_of
row_of-none = refl

no_bracket-text : (c : ℕ) (cs : List ℕ) → nat_eq c 41 ≡ false → same_text (c ∷ cs) (codes ")") ≡ false
no_bracket-text c cs other = ap (λ b. b && same_text cs []) other

cells-row : (vs : List Value) → AllByRecursion IsValue vs → row_of (40 ∷ (values_text (codes ", ") vs ++ (41 ∷ []))) ≡ record { 0 = vs }
cells-row [] all = row_of-none
cells-row (v ∷ vs) all =
    let text = literal_text v ++ (more_values_text (codes ", ") vs ++ (41 ∷ [])) in
    let b = begins v all.0 in
    let front : text ≡ b.first ∷ (b.further ++ (more_values_text (codes ", ") vs ++ (41 ∷ []))) = ap (λ t. t ++ (more_values_text (codes ", ") vs ++ (41 ∷ []))) b.is in
    let some : same_text text (codes ")") ≡ false =
    ap (λ t. same_text t (codes ")")) front ∙ no_bracket-text b.first (b.further ++ (more_values_text (codes ", ") vs ++ (41 ∷ []))) b.no_bracket in
    ap (λ t. row_of (40 ∷ t)) (append_assoc (literal_text v) (more_values_text (codes ", ") vs) (41 ∷ []))
    ∙ row_of-cells text some
    ∙ ap (λ ps. record { 0 = map cell_of ps }) (sym (prefixed-nothing at.Item inside.Nothing text))
    ∙ ap (λ xs. record { 0 = xs }) (cells-back [] cell-literal v vs all.0 all.1)

pub row-back : (row : Option Row) → IsOptionRow row → option_row_of (option_row_text row) ≡ row
unfolding option_row_of
row-back None is = refl
row-back (Some row) is = ap (λ r. Some r) (cells-row row.0 is)
