-- Facts on the parts of a line over plain lists.
use Rattle.std.proofs.Common.{◌≡◌, ◌≢◌, ℕ, suc, ◌+◌, ◌<◌, ◌==◌, false, List, [], ◌∷◌, ◌++◌, length, drop, get_or, refl, ap, sym, subst, ◌∙◌, arith, append_assoc, add-one}
use Rattle.std.proofs.lemmas.Bool.Decides.{nat_tests}
use Rattle.std.proofs.lemmas.Str.{IsUtf8-drop, IsCharBoundary-after_ascii}
use Rattle.std.specs.Prelude.{IsUtf8}
use Rattle.history_text.specs.Lines.{quoted}

-- no byte is a quote
abbrev HasNoQuote : List ℕ → Type 0
HasNoQuote s = (i : ℕ) → i < length s → get_or s i 0 ≢ 39

tail_has_no_quote : (c : ℕ) (s : List ℕ) → HasNoQuote (c ∷ s) → HasNoQuote s
tail_has_no_quote c s none i below = none (suc i) (omega arith)

head_is_no_quote : (c : ℕ) (s : List ℕ) → HasNoQuote (c ∷ s) → (c == 39) ≡ false
head_is_no_quote c s none = let other : c ≢ 39 = none 0 (omega arith) in grind (arith, nat_tests)

-- a text without a quote stays
pub quoted_plain : (s : List ℕ) → HasNoQuote s → quoted s ≡ s
quoted_plain [] none = refl
quoted_plain (c ∷ s) none = rw (head_is_no_quote c s none) (ap (λ r. c ∷ r) (quoted_plain s (tail_has_no_quote c s none)))

-- what stands before the first quote, two quotes, and the rest
pub quoted_split : (s rest : List ℕ) → HasNoQuote s → quoted (s ++ 39 ∷ rest) ≡ s ++ 39 ∷ 39 ∷ quoted rest
quoted_split [] rest none = refl
quoted_split (c ∷ s) rest none = rw (head_is_no_quote c s none) (ap (λ r. c ∷ r) (quoted_split s rest (tail_has_no_quote c s none)))

drop_past : (s : List ℕ) (c : ℕ) (rest : List ℕ) → drop (suc (length s)) (s ++ c ∷ rest) ≡ rest
drop_past [] c rest = refl
drop_past (b ∷ s) c rest = drop_past s c rest

at_end : (s : List ℕ) (c : ℕ) (rest : List ℕ) → get_or (s ++ c ∷ rest) (length s) 0 ≡ c
at_end [] c rest = refl
at_end (b ∷ s) c rest = at_end s c rest

longer : (s : List ℕ) (c : ℕ) (rest : List ℕ) → length s < length (s ++ c ∷ rest)
longer [] c rest = omega arith
longer (b ∷ s) c rest = let more = longer s c rest in omega (arith, more)

-- what follows a quote in a text is a text
pub IsUtf8-after_quote : (s rest : List ℕ) → IsUtf8 (s ++ 39 ∷ rest) → IsUtf8 rest
IsUtf8-after_quote s rest text =
    let low : get_or (s ++ 39 ∷ rest) (length s) 0 < 128 = rw (at_end s 39 rest) (omega arith) in
    subst (λ t. IsUtf8 t) (ap (λ n. drop n (s ++ 39 ∷ rest)) (add-one (length s)) ∙ drop_past s 39 rest)
    (IsUtf8-drop (s ++ 39 ∷ rest) (length s + 1) text (IsCharBoundary-after_ascii (s ++ 39 ∷ rest) (length s) text (longer s 39 rest) low))

-- what was written, and the rest of the text, are what was to be written
pub written_on : (done start before rest text whole : List ℕ) → done ++ quoted text ≡ whole → text ≡ before ++ 39 ∷ rest → HasNoQuote before
    → start ≡ done ++ (before ++ 39 ∷ 39 ∷ []) → start ++ quoted rest ≡ whole
written_on done start before rest text whole so_far split none wrote =
    rw (wrote, append_assoc, append_assoc) (ap (λ r. done ++ r) (sym (ap quoted split ∙ quoted_split before rest none)) ∙ so_far)

-- a word and a number, and then another text, at the end
pub two_more : (out first number more one two : List ℕ) → one ≡ out ++ (first ++ number) → two ≡ one ++ more → two ≡ out ++ (first ++ (number ++ more))
two_more out first number more one two is_one is_two =
    is_two ∙ ap (λ l. l ++ more) is_one ∙ append_assoc out (first ++ number) more ∙ ap (λ l. out ++ l) (append_assoc first number more)

pub three_more : (out first number space more one two three : List ℕ) → one ≡ out ++ (first ++ number) → two ≡ one ++ space → three ≡ two ++ more → three ≡ out ++ (first ++ (number ++ (space ++ more)))
three_more out first number space more one two three is_one is_two is_three =
    is_three ∙ ap (λ l. l ++ more) is_two ∙ append_assoc one space more ∙ two_more out first number (space ++ more) one (one ++ (space ++ more)) is_one refl
