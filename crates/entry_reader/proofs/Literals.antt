-- Values: their literals are cut nowhere, and read back.
use Rattle.std.proofs.Common.{◌≡◌, ℕ, suc, ◌+◌, ◌-◌, ◌%◌, ◌^◌, ◌<◌, ◌≤◌, min, ◌==◌, Bool, true, false, List, [], ◌∷◌, ◌++◌, refl, ap, sym, subst, ◌∙◌, append_assoc, arith}
use Rattle.std.specs.Prelude.{pos, negsuc, neg_ℤ}
use Rattle.std.specs.Fmt.{decimal}
use Rattle.std.specs.List.{list_all}
use Rattle.std.proofs.lemmas.Bool.Decides.{nat_tests}
use Rattle.std.proofs.lemmas.Fmt.{decimal_by_steps}
use Rattle.seata_types.specs.declared.rows.Value.{Value}
use Rattle.seata_types.specs.declared.rows.Value.TheVariants as value
use Rattle.history_text.specs.Lines.{quoted, literal_text}
use Rattle.entry_reader.specs.declared.pieces.Separator.{Separator}
use Rattle.entry_reader.specs.declared.pieces.Separator.TheVariants as at
use Rattle.entry_reader.specs.declared.pieces.Inside.{Inside}
use Rattle.entry_reader.specs.declared.pieces.Inside.TheVariants as inside
use Rattle.entry_reader.specs.Cuts.{separates, ends, after, prefixed, placed, cut}
use Rattle.entry_reader.specs.Parts.{number, number_on, text_from, unquoted}
use Rattle.entry_reader.specs.Values.{negative, positive, literal_of}
use Rattle.entry_reader.specs.Types.{IsValue}
use Rattle.entry_reader.proofs.Numbers.{number_on-decimal}
use Rattle.entry_reader.proofs.CutBytes.{prefixed-prefixed}
use Rattle.entry_reader.proofs.Closed.{IsClosed, goes, closed-all, decimal-goes}
use Rattle.entry_reader.proofs.Tests.{both}
use Rattle.entry_reader.proofs.TextBytes.{text_from_text}

-- ---- texts in quotes

quoted-quote : (c : ℕ) (cs : List ℕ) → (c == 39) ≡ true → quoted (c ∷ cs) ≡ 39 ∷ 39 ∷ quoted cs
quoted-quote c cs is = rw is refl

quoted-other : (c : ℕ) (cs : List ℕ) → (c == 39) ≡ false → quoted (c ∷ cs) ≡ c ∷ quoted cs
quoted-other c cs is = rw is refl

-- inside quotes, and outside them
pub record Quotes (s : Separator) (i o : Inside) : Type 0 where
  inner : (c : ℕ) → ends s i c ≡ false
  outer : ends s o 39 ≡ false
  closes : after i 39 ≡ o
  opens : after o 39 ≡ i
  stays : (c : ℕ) → (c == 39) ≡ false → after i c ≡ i

text_stays : (c : ℕ) → (c == 39) ≡ false → after inside.Text c ≡ inside.Text
text_stays c other = rw other refl

row_text_stays : (c : ℕ) → (c == 39) ≡ false → after inside.RowText c ≡ inside.RowText
row_text_stays c other = rw other refl

no_quote : (s : Separator) → separates s 39 ≡ false
no_quote at.Bar = refl
no_quote at.Space = refl
no_quote at.Name = refl
no_quote at.Part = refl
no_quote at.Item = refl

text_quotes : (s : Separator) → Quotes s inside.Text inside.Nothing
text_quotes s = record { inner = λ c. refl; outer = no_quote s; closes = refl; opens = refl; stays = text_stays }

pub row_quotes : (s : Separator) → Quotes s inside.RowText inside.Row
row_quotes s = record { inner = λ c. refl; outer = refl; closes = refl; opens = refl; stays = row_text_stays }

-- one byte that doesn't end a piece
pub step : (s : Separator) (i j : Inside) (c : ℕ) (cs : List ℕ) → ends s i c ≡ false → after i c ≡ j → cut s i (c ∷ cs) ≡ prefixed (c ∷ []) (cut s j cs)
step s i j c cs goes_on next = ap (λ b. placed b c (cut s (after i c) cs)) goes_on ∙ ap (λ k. prefixed (c ∷ []) (cut s k cs)) next

quoted-step : (s : Separator) (i o : Inside) → Quotes s i o → (c : ℕ) (cs rest : List ℕ) (b : Bool) → (c == 39) ≡ b
    → cut s i (quoted cs ++ (39 ∷ rest)) ≡ prefixed (quoted cs ++ (39 ∷ [])) (cut s o rest)
    → cut s i (quoted (c ∷ cs) ++ (39 ∷ rest)) ≡ prefixed (quoted (c ∷ cs) ++ (39 ∷ [])) (cut s o rest)
quoted-step s i o q c cs rest true is so_far =
    let tail = quoted cs ++ (39 ∷ rest) in
    let twice : cut s i (39 ∷ 39 ∷ tail) ≡ prefixed (39 ∷ []) (prefixed (39 ∷ []) (cut s i tail)) =
    step s i o 39 (39 ∷ tail) (q.inner 39) q.closes ∙ ap (λ ps. prefixed (39 ∷ []) ps) (step s o i 39 tail q.outer q.opens) in
    let whole : cut s i (39 ∷ 39 ∷ tail) ≡ prefixed (39 ∷ 39 ∷ (quoted cs ++ (39 ∷ []))) (cut s o rest) =
    twice ∙ ap (λ ps. prefixed (39 ∷ []) (prefixed (39 ∷ []) ps)) so_far
    ∙ ap (λ ps. prefixed (39 ∷ []) ps) (prefixed-prefixed (39 ∷ []) (quoted cs ++ (39 ∷ [])) (cut s o rest))
    ∙ prefixed-prefixed (39 ∷ []) (39 ∷ (quoted cs ++ (39 ∷ []))) (cut s o rest) in
    subst (λ (t : List ℕ). cut s i (t ++ (39 ∷ rest)) ≡ prefixed (t ++ (39 ∷ [])) (cut s o rest)) (sym (quoted-quote c cs is)) whole
quoted-step s i o q c cs rest false is so_far =
    let tail = quoted cs ++ (39 ∷ rest) in
    let whole : cut s i (c ∷ tail) ≡ prefixed (c ∷ (quoted cs ++ (39 ∷ []))) (cut s o rest) =
    step s i i c tail (q.inner c) (q.stays c is) ∙ ap (λ ps. prefixed (c ∷ []) ps) so_far
    ∙ prefixed-prefixed (c ∷ []) (quoted cs ++ (39 ∷ [])) (cut s o rest) in
    subst (λ (t : List ℕ). cut s i (t ++ (39 ∷ rest)) ≡ prefixed (t ++ (39 ∷ [])) (cut s o rest)) (sym (quoted-other c cs is)) whole

pub quoted-cut : (s : Separator) (i o : Inside) → Quotes s i o → (t rest : List ℕ) → cut s i (quoted t ++ (39 ∷ rest)) ≡ prefixed (quoted t ++ (39 ∷ [])) (cut s o rest)
quoted-cut s i o q [] rest = step s i o 39 rest (q.inner 39) q.closes
quoted-cut s i o q (c ∷ cs) rest = quoted-step s i o q c cs rest (c == 39) refl (quoted-cut s i o q cs rest)

unquoted-step : (c : ℕ) (cs rest : List ℕ) (b : Bool) → (c == 39) ≡ b → unquoted false (quoted cs ++ (39 ∷ rest)) ≡ cs → unquoted false (quoted (c ∷ cs) ++ (39 ∷ rest)) ≡ c ∷ cs
unquoted-step c cs rest true is so_far =
    let same : c ≡ 39 = grind (arith, nat_tests) in
    ap (λ t. unquoted false (t ++ (39 ∷ rest))) (quoted-quote c cs is) ∙ ap (λ t. 39 ∷ t) so_far ∙ ap (λ k. k ∷ cs) (sym same)
unquoted-step c cs rest false is so_far =
    let tail = quoted cs ++ (39 ∷ rest) in
    let plain : unquoted false (c ∷ tail) ≡ c ∷ unquoted false tail = rw is refl in
    ap (λ t. unquoted false (t ++ (39 ∷ rest))) (quoted-other c cs is) ∙ plain ∙ ap (λ t. c ∷ t) so_far

unquoted-quoted : (t rest : List ℕ) → unquoted true rest ≡ [] → unquoted false (quoted t ++ (39 ∷ rest)) ≡ t
unquoted-quoted [] rest ends_there = ends_there
unquoted-quoted (c ∷ cs) rest ends_there = unquoted-step c cs rest (c == 39) refl (unquoted-quoted cs rest ends_there)

-- ---- literals are cut nowhere

minus_goes : (s : Separator) → goes s 45 ≡ true
minus_goes at.Bar = refl
minus_goes at.Space = refl
minus_goes at.Name = refl
minus_goes at.Part = refl
minus_goes at.Item = refl

pub wide : (n : ℕ) → n < 2 ^ 63 → n < 2 ^ 64
wide n small = omega arith

pub wide_next : (n : ℕ) → n < 2 ^ 63 → suc n < 2 ^ 64
wide_next n small = omega arith

quoted-closed : (s : Separator) (text : List ℕ) → IsClosed s (39 ∷ (quoted text ++ (39 ∷ [])))
quoted-closed s text rest =
    step s inside.Nothing inside.Text 39 ((quoted text ++ (39 ∷ [])) ++ rest) (no_quote s) refl
    ∙ ap (λ t. prefixed (39 ∷ []) (cut s inside.Text t)) (append_assoc (quoted text) (39 ∷ []) rest)
    ∙ ap (λ ps. prefixed (39 ∷ []) ps) (quoted-cut s inside.Text inside.Nothing (text_quotes s) text rest)
    ∙ prefixed-prefixed (39 ∷ []) (quoted text ++ (39 ∷ [])) (cut s inside.Nothing rest)

pub literal-closed : (s : Separator) (v : Value) → IsValue v → IsClosed s (literal_text v)
literal-closed s (value.Int (pos n)) small = closed-all s (decimal n) (decimal-goes s n (wide n small))
literal-closed s (value.Int (negsuc n)) small =
    closed-all s (45 ∷ decimal (suc n)) (both (goes s 45) (list_all (goes s) (decimal (suc n))) (minus_goes s) (decimal-goes s (suc n) (wide_next n small)))
literal-closed s (value.Text text) is = quoted-closed s text

-- ---- literals read back

-- a text that begins with a digit
pub record StartsWithDigit (t : List ℕ) : Type 0 where
  pub first : ℕ
  pub others : List ℕ
  pub is : t ≡ first ∷ others
  pub digit : 48 ≤ first
  pub low : first ≤ 57

pub decimal-starts : (n : ℕ) → n < 2 ^ 64 → StartsWithDigit (decimal n)
decimal-starts n small = decimal_by_steps (λ k ds. StartsWithDigit ds)
    (λ k low. record { first = 48 + k; others = []; is = refl; digit = omega arith; low = omega arith })
    (λ k ds high so_far. record {
      first = so_far.first;
      others = so_far.others ++ ((48 + k % 10) ∷ []);
      is = ap (λ t. t ++ ((48 + k % 10) ∷ [])) so_far.is;
      digit = so_far.digit;
      low = so_far.low;
    })
    n small

digit-literal : (c : ℕ) (cs : List ℕ) → 48 ≤ c → literal_of (c ∷ cs) ≡ value.Int (positive (c ∷ cs))
digit-literal c cs high =
    let quote : (c == 39) ≡ false = grind (arith, nat_tests) in
    let minus : (c == 45) ≡ false = grind (arith, nat_tests) in
    rw (quote, minus) refl

number-decimal-then : (n : ℕ) (rest : List ℕ) → n < 2 ^ 64 → ((m : ℕ) → number_on m rest ≡ m) → number (decimal n ++ rest) ≡ n
unfolding number
number-decimal-then n rest small ends_there =
    ap (λ k. min k (2 ^ 64 - 1)) (number_on-decimal n rest small ∙ ends_there n) ∙ omega arith

positive-back : (n : ℕ) (rest : List ℕ) → n < 2 ^ 63 → ((m : ℕ) → number_on m rest ≡ m) → positive (decimal n ++ rest) ≡ pos n
unfolding positive
positive-back n rest small ends_there =
    let same : min (number (decimal n ++ rest)) (2 ^ 63 - 1) ≡ n = ap (λ k. min k (2 ^ 63 - 1)) (number-decimal-then n rest (wide n small) ends_there) ∙ omega arith in
    ap pos same

negative-back : (n : ℕ) (rest : List ℕ) → n < 2 ^ 63 → ((m : ℕ) → number_on m rest ≡ m) → negative (decimal (suc n) ++ rest) ≡ negsuc n
unfolding negative
negative-back n rest small ends_there =
    let same : min (number (decimal (suc n) ++ rest)) (2 ^ 63) ≡ suc n = ap (λ k. min k (2 ^ 63)) (number-decimal-then (suc n) rest (wide_next n small) ends_there) ∙ omega arith in
    ap (λ k. neg_ℤ (pos k)) same

pub literal-back : (v : Value) (rest : List ℕ) → IsValue v → ((m : ℕ) → number_on m rest ≡ m) → unquoted true rest ≡ [] → literal_of (literal_text v ++ rest) ≡ v
literal-back (value.Int (pos n)) rest small number_ends text_ends =
    let starts = decimal-starts n (wide n small) in
    let front : decimal n ++ rest ≡ starts.first ∷ (starts.others ++ rest) = ap (λ t. t ++ rest) starts.is in
    ap literal_of front ∙ digit-literal starts.first (starts.others ++ rest) starts.digit ∙ ap (λ t. value.Int (positive t)) (sym front)
    ∙ ap value.Int (positive-back n rest small number_ends)
literal-back (value.Int (negsuc n)) rest small number_ends text_ends = ap value.Int (negative-back n rest small number_ends)
literal-back (value.Text text) rest is number_ends text_ends =
    ap (λ t. value.Text (text_from (unquoted false t))) (append_assoc (quoted text) (39 ∷ []) rest)
    ∙ ap (λ t. value.Text (text_from t)) (unquoted-quoted text rest text_ends) ∙ ap value.Text (text_from_text text is)
