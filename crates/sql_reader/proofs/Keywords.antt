-- A keyword in any case.
use Rattle.std.proofs.Common.{◌≡◌, ℕ, true, List, [], ◌∷◌, Some, refl, ap, ◌∙◌, sym, arith}
use Rattle.std.specs.Prelude.{if◌then◌else◌, ◌==◌}
use Rattle.std.specs.Str.{str_eq_ignore_ascii_case, str_to_ascii_lowercase, bytes_eq}
use Rattle.std.proofs.lemmas.Bool.Decides.{nat_tests}
use Rattle.sql_reader.specs.declared.symbols.Symbol.{Symbol}
use Rattle.sql_reader.specs.Lexing.{keywords, listed_as, keyword, word_token}
use Rattle.sql_reader.proofs.Words.{both_left, both_right}

pub same_bytes : (a b : List ℕ) → bytes_eq a b ≡ true → a ≡ b
same_bytes [] [] is = refl
same_bytes [] (y ∷ ys) is = cc
same_bytes (x ∷ xs) [] is = cc
same_bytes (x ∷ xs) (y ∷ ys) is =
    let first_is : (x == y) ≡ true = both_left (x == y) (bytes_eq xs ys) is in
    let first : x ≡ y = grind (arith, nat_tests) in
    let others = same_bytes xs ys (both_right (x == y) (bytes_eq xs ys) is) in
    rw (first, others) refl

listed-lower : (ks : List (List ℕ × Symbol)) (a b : List ℕ) → str_to_ascii_lowercase a ≡ str_to_ascii_lowercase b → listed_as ks a ≡ listed_as ks b
listed-lower [] a b is = refl
listed-lower (k ∷ ks) a b is = rw is (ap (λ o. if str_eq_ignore_ascii_case b k.0 then Some k.1 else o) (listed-lower ks a b is))

pub keyword-alike : (a b : List ℕ) → str_eq_ignore_ascii_case a b ≡ true → keyword a ≡ keyword b
unfolding keyword
keyword-alike a b is = listed-lower keywords a b (same_bytes (str_to_ascii_lowercase a) (str_to_ascii_lowercase b) is)

pub token-alike : (s : Symbol) (a b : List ℕ) → str_eq_ignore_ascii_case a b ≡ true → keyword a ≡ Some s → word_token a ≡ word_token b
unfolding word_token
token-alike s a b same is =
    let also : keyword b ≡ Some s = sym (keyword-alike a b same) ∙ is in
    rw (is, also) refl
