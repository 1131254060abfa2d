-- A word is looked for only among the keywords of its length.
use Rattle.std.proofs.Common.{◌≡◌, ◌≢◌, ℕ, Bool, true, false, List, [], ◌∷◌, length, codes, suc, Some, None, refl, ap, ◌∙◌, sym, arith}
use Rattle.std.specs.Prelude.{if◌then◌else◌, ◌==◌}
use Rattle.std.specs.Str.{str_eq_ignore_ascii_case, str_to_ascii_lowercase}
use Rattle.std.proofs.lemmas.Bool.Decides.{nat_tests}
use Rattle.sql_reader.specs.declared.symbols.Symbol.{Symbol}
use Rattle.sql_reader.specs.declared.symbols.Symbol.TheVariants as symbol
use Rattle.sql_reader.specs.Lexing.{keywords, listed_as, keyword}
use Rattle.sql_reader.proofs.Keywords.{same_bytes}

-- those of so many letters
abbrev pub of_length : ℕ → List (List ℕ × Symbol) → List (List ℕ × Symbol)
of_length n [] = []
of_length n (k ∷ ks) = if length k.0 == n then k ∷ of_length n ks else of_length n ks

length-lower : (a : List ℕ) → length (str_to_ascii_lowercase a) ≡ length a
length-lower [] = refl
length-lower (x ∷ xs) = ap (λ n. suc n) (length-lower xs)

same_length : (a b : List ℕ) → str_eq_ignore_ascii_case a b ≡ true → length b ≡ length a
same_length a b is =
    sym (length-lower b) ∙ ap length (sym (same_bytes (str_to_ascii_lowercase a) (str_to_ascii_lowercase b) is)) ∙ length-lower a

differ : (a b : ℕ) → a ≢ b → (a == b) ≡ false
differ a b are = grind (arith, nat_tests)

listed-of_length : (ks : List (List ℕ × Symbol)) (word : List ℕ) → listed_as ks word ≡ listed_as (of_length (length word) ks) word
listed-of_length [] word = refl
listed-of_length (k ∷ ks) word = by_tests (str_eq_ignore_ascii_case word k.0) refl (length k.0 == length word) refl (listed-of_length ks word)
  where
    by_tests : (same : Bool) → str_eq_ignore_ascii_case word k.0 ≡ same → (long : Bool) → (length k.0 == length word) ≡ long
        → listed_as ks word ≡ listed_as (of_length (length word) ks) word
        → (if same then Some k.1 else listed_as ks word) ≡ listed_as (if long then k ∷ of_length (length word) ks else of_length (length word) ks) word
    by_tests same is true are later = rw is (ap (λ o. if same then Some k.1 else o) later)
    by_tests true is false are later = let e : length k.0 ≡ length word = same_length word k.0 is in absurd (grind (arith, nat_tests))
    by_tests false is false are later = later

pub keyword_of_length : (word : List ℕ) (n : ℕ) → length word ≡ n → keyword word ≡ listed_as (of_length n keywords) word
unfolding keyword
keyword_of_length word n is = listed-of_length keywords word ∙ ap (λ m. listed_as (of_length m keywords) word) is

pub keyword_of_two : (word : List ℕ) → length word ≡ 2 → keyword word ≡ listed_as ((codes "OR", symbol.Or) ∷ []) word
keyword_of_two word is = keyword_of_length word 2 is

pub keyword_of_three : (word : List ℕ) → length word ≡ 3
    → keyword word ≡ listed_as ((codes "SET", symbol.Set) ∷ (codes "FOR", symbol.For) ∷ (codes "AND", symbol.And) ∷ (codes "NOT", symbol.Not) ∷ []) word
keyword_of_three word is = keyword_of_length word 3 is

pub keyword_of_four : (word : List ℕ) → length word ≡ 4 → keyword word ≡ listed_as ((codes "INTO", symbol.Into) ∷ (codes "FROM", symbol.From) ∷ []) word
keyword_of_four word is = keyword_of_length word 4 is

pub keyword_of_five : (word : List ℕ) → length word ≡ 5 → keyword word ≡ listed_as ((codes "WHERE", symbol.Where) ∷ []) word
keyword_of_five word is = keyword_of_length word 5 is

pub keyword_of_six : (word : List ℕ) → length word ≡ 6
    → keyword word ≡ listed_as ((codes "INSERT", symbol.Insert) ∷ (codes "VALUES", symbol.Values) ∷ (codes "UPDATE", symbol.Update) ∷ (codes "DELETE", symbol.Delete) ∷ (codes "SELECT", symbol.Select) ∷ []) word
keyword_of_six word is = keyword_of_length word 6 is

pub keyword_of_other : (word : List ℕ) → length word ≢ 2 → length word ≢ 3 → length word ≢ 4 → length word ≢ 5 → length word ≢ 6 → keyword word ≡ None
keyword_of_other word two three four five six =
    keyword_of_length word (length word) refl
    ∙ rw (differ 2 (length word) (λ e. two (sym e)), differ 3 (length word) (λ e. three (sym e)), differ 4 (length word) (λ e. four (sym e)), differ 5 (length word) (λ e. five (sym e)), differ 6 (length word) (λ e. six (sym e))) refl
