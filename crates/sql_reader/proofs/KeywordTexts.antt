-- A text with the letters of a keyword in another case.
use Rattle.std.proofs.Common.{◌≡◌, ◌≤◌, ◌<◌, ℕ, zero, suc, ◌+◌, ◌-◌, Bool, true, false, cond, List, [], ◌∷◌, ◌++◌, length, length-append, map, drop, Option, Some, None, Ok, Err, refl, ap, ◌∙◌, sym, subst, inl, inr, ◌⊎◌, arith}
use Rattle.std.proofs.lemmas.List.{length-map}
use Rattle.std.specs.Prelude.{if◌then◌else◌, slice_index, IsSome, Contains}
use Rattle.std.specs.List.{prefix_len, list_all}
use Rattle.std.specs.Char.{is_ascii_alphabetic, is_ascii_digit, to_ascii_lowercase}
use Rattle.std.specs.Str.{str_eq_ignore_ascii_case, str_to_ascii_lowercase}
use Rattle.std.proofs.lemmas.Bool.Decides.{nat_tests}
use Rattle.std.proofs.Math.Seq.{drop-append_seam}
use Rattle.seata_types.specs.declared.statements.Stmt.{Stmt}
use Rattle.sql_reader.specs.declared.symbols.Symbol.{Symbol}
use Rattle.sql_reader.specs.declared.tokens.Token.{Token}
use Rattle.sql_reader.specs.Lexing.{is_blank, is_word_byte, keywords, listed_as, keyword, word_token, token_at, starts_from, starts, tokens, places}
use Rattle.sql_reader.specs.Parsing.{Outcome}
use Rattle.sql_reader.specs.Grammar.{statement}
use Rattle.sql_reader.specs.Answer.{reading, answer}
use Rattle.sql_reader.specs.Alike.{HasKeyword}
use Rattle.sql_reader.proofs.Words.{both_left, both_right}
use Rattle.sql_reader.proofs.Keywords.{same_bytes, keyword-alike, token-alike}
use Rattle.sql_reader.proofs.PieceTokens.{prefix_len-whole, word-first}
use Rattle.sql_reader.proofs.Starts.{starts-token}
use Rattle.sql_reader.proofs.Cuts.{EndsLike, token_at-cut}

-- ---- the letters of a keyword

-- at least one letter, and nothing else
abbrev is_letters : List ℕ → Bool
is_letters [] = false
is_letters (b ∷ w) = list_all is_ascii_alphabetic (b ∷ w)

letter-of_lower : (b : ℕ) → is_ascii_alphabetic (to_ascii_lowercase b) ≡ true → is_ascii_alphabetic b ≡ true
letter-of_lower b is = grind (arith, nat_tests)

all-of_lower : (w : List ℕ) → list_all is_ascii_alphabetic (str_to_ascii_lowercase w) ≡ true → list_all is_ascii_alphabetic w ≡ true
all-of_lower [] all = refl
all-of_lower (b ∷ w) all =
    rw (letter-of_lower b (both_left (is_ascii_alphabetic (to_ascii_lowercase b)) (list_all is_ascii_alphabetic (str_to_ascii_lowercase w)) all))
    (all-of_lower w (both_right (is_ascii_alphabetic (to_ascii_lowercase b)) (list_all is_ascii_alphabetic (str_to_ascii_lowercase w)) all))

letters-of_lower : (w : List ℕ) → is_letters (str_to_ascii_lowercase w) ≡ true → is_letters w ≡ true
letters-of_lower [] all = all
letters-of_lower (b ∷ w) all = all-of_lower (b ∷ w) all

listed-letters : (ks : List (List ℕ × Symbol)) (w : List ℕ) (s : Symbol) → list_all (λ k. is_letters (str_to_ascii_lowercase k.0)) ks ≡ true → listed_as ks w ≡ Some s → is_letters w ≡ true
listed-letters [] w s are is = cc
listed-letters (k ∷ ks) w s are is =
    by_test (str_eq_ignore_ascii_case w k.0) refl (listed-letters ks w s (both_right (is_letters (str_to_ascii_lowercase k.0)) (list_all (λ k. is_letters (str_to_ascii_lowercase k.0)) ks) are)) is
  where
    by_test : (same : Bool) → str_eq_ignore_ascii_case w k.0 ≡ same → (listed_as ks w ≡ Some s → is_letters w ≡ true) → (if same then Some k.1 else listed_as ks w) ≡ Some s → is_letters w ≡ true
    by_test true same later is =
        letters-of_lower w (subst (λ l. is_letters l ≡ true) (sym (same_bytes (str_to_ascii_lowercase w) (str_to_ascii_lowercase k.0) same))
        (both_left (is_letters (str_to_ascii_lowercase k.0)) (list_all (λ k. is_letters (str_to_ascii_lowercase k.0)) ks) are))
    by_test false same later is = later is

keyword-letters : (w : List ℕ) (s : Symbol) → keyword w ≡ Some s → is_letters w ≡ true
unfolding keyword
keyword-letters w s is = listed-letters keywords w s refl is

letter-word : (b : ℕ) → is_ascii_alphabetic b ≡ true → is_word_byte b ≡ true
letter-word b is = grind (arith, nat_tests)

letters-word : (w : List ℕ) → list_all is_ascii_alphabetic w ≡ true → list_all is_word_byte w ≡ true
letters-word [] all = refl
letters-word (b ∷ w) all =
    rw (letter-word b (both_left (is_ascii_alphabetic b) (list_all is_ascii_alphabetic w) all)) (letters-word w (both_right (is_ascii_alphabetic b) (list_all is_ascii_alphabetic w) all))

-- ---- where it stands

-- a text that begins with a letter
record BeginsWithLetter (z : List ℕ) : Type 0 where
  some : 0 < length z
  word : is_word_byte (slice_index z 0) ≡ true
  letter : is_ascii_alphabetic (slice_index z 0) ≡ true

letter-plain : (b : ℕ) → is_ascii_alphabetic b ≡ true → is_blank b ≡ false
letter-plain b is = grind (arith, nat_tests)

ends-letters : (b c : ℕ) (y z : List ℕ) → is_ascii_alphabetic b ≡ true → is_ascii_alphabetic c ≡ true → EndsLike (b ∷ y) (c ∷ z)
ends-letters b c y z first second =
    let word : is_word_byte b ≡ true = letter-word b first in
    let digit : is_ascii_digit c ≡ false = grind (arith, nat_tests) in
    record {
      some = omega arith;
      no_word = λ none. absurd (by_test (is_word_byte b) word none);
      no_digit = λ _. rw digit refl;
      no_quote = grind (arith, nat_tests);
      no_greater = grind (arith, nat_tests);
      no_equal = grind (arith, nat_tests);
    }
  where
    by_test : (is : Bool) → is ≡ true → cond is (1 + prefix_len is_word_byte y) 0 ≡ 0 → ⊥
    by_test true is none = absurd (omega (arith, none))
    by_test false is none = cc

-- ---- tokens, and where they begin

-- a token, and how long the text is from it on
abbrev mark_of : List ℕ → Token × ℕ
mark_of z = ((token_at z).0, length z)

-- a token begins where so many bytes are left
abbrev Begins : ℕ → List ℕ → ℕ → Type 0
Begins left z n = Contains (map length (starts_from left z)) n

contains-cases : {X : Type 0} (x y : X) (xs : List X) → Contains (x ∷ xs) y → (x ≡ y) ⊎ Contains xs y
contains-cases x y xs (zero, inside, is) = inl is
contains-cases x y xs (suc k, inside, is) = inr (k, omega arith, is)

contains-none : {X : Type 0} (y : X) → Contains [] y → ⊥
contains-none y (k, inside, is) = absurd (omega arith)

begins-within : (left : ℕ) (z : List ℕ) (n : ℕ) → Begins left z n → left + n ≤ length z
begins-within left [] n is = absurd (contains-none n is)
begins-within (suc left) (b ∷ z) n is = let later = begins-within left z n is in omega (arith, later)
begins-within zero (b ∷ z) n is = by_test (is_blank b) (begins-within zero z n) (begins-within ((token_at (b ∷ z)).1 - 1) z n) is
  where
    by_test : (blank : Bool) → (Begins zero z n → zero + n ≤ length z) → (Begins ((token_at (b ∷ z)).1 - 1) z n → ((token_at (b ∷ z)).1 - 1) + n ≤ length z)
        → Contains (map length (if blank then starts_from zero z else (b ∷ z) ∷ starts_from ((token_at (b ∷ z)).1 - 1) z)) n → zero + n ≤ suc (length z)
    by_test true first second is = let later = first is in omega (arith, later)
    by_test false first second is =
        elim (contains-cases (suc (length z)) n (map length (starts_from ((token_at (b ∷ z)).1 - 1) z)) is) [
          | inl here ↦ omega (arith, here)
          | inr later ↦ let bound = second later in omega (arith, bound)
        ]

contains-first : {X : Type 0} (x y : X) (xs : List X) → x ≡ y → Contains (x ∷ xs) y
contains-first x y xs is = (zero, omega arith, is)

contains-later : {X : Type 0} (x y : X) (xs : List X) → Contains xs y → Contains (x ∷ xs) y
contains-later x y xs (k, inside, is) = (suc k, omega (arith, inside), is)

-- a place, by the bytes that are left there
begins-by_place : (zs : List (List ℕ)) (n k left : ℕ) → n ≡ k + left → ((m : ℕ) → Contains (map length zs) m → m ≤ n) → Contains (map (λ z. n - length z) zs) k → Contains (map length zs) left
begins-by_place [] n k left whole most is = absurd (contains-none k is)
begins-by_place (z ∷ zs) n k left whole most is =
    elim (contains-cases (n - length z) k (map (λ y. n - length y) zs) is) [
      | inl here ↦
          let short : length z ≤ n = most (length z) (contains-first (length z) (length z) (map length zs) refl) in
          contains-first (length z) left (map length zs) (omega (arith, here, short, whole))
      | inr later ↦
          contains-later (length z) left (map length zs) (begins-by_place zs n k left whole (λ m has. most m (contains-later (length z) m (map length zs) has)) later)
    ]

cons-marks : (t u : Token × ℕ) (m n : ℕ) (f g : ℕ → List (Token × ℕ)) → t ≡ u → m ≡ n → f (u.1 - 1) ≡ g (u.1 - 1) → ((t.0, m) ∷ f (t.1 - 1)) ≡ ((u.0, n) ∷ g (u.1 - 1))
cons-marks t u m n f g is same later = rw (is, same, later) refl

-- Texts with one front have the same tokens at the same places where a token begins behind it, and the rests have the same.
marks-behind : (before : List ℕ) (left : ℕ) (y z : List ℕ) → EndsLike y z → length z ≡ length y → map mark_of (starts_from zero z) ≡ map mark_of (starts_from zero y)
    → Begins left (before ++ y) (length y) → map mark_of (starts_from left (before ++ z)) ≡ map mark_of (starts_from left (before ++ y))
marks-behind [] zero y z ends same here begins = here
marks-behind [] (suc left) y z ends same here begins = let within = begins-within (suc left) y (length y) begins in absurd (omega (arith, within))
marks-behind (b ∷ x) (suc left) y z ends same here begins = marks-behind x left y z ends same here begins
marks-behind (b ∷ x) zero y z ends same here begins =
    by_test (is_blank b) (marks-behind x zero y z ends same here) (marks-behind x ((token_at (b ∷ (x ++ y))).1 - 1) y z ends same here) begins
  where
    at_token : (map mark_of (starts_from ((token_at (b ∷ (x ++ y))).1 - 1) (x ++ z)) ≡ map mark_of (starts_from ((token_at (b ∷ (x ++ y))).1 - 1) (x ++ y))) → Begins ((token_at (b ∷ (x ++ y))).1 - 1) (x ++ y) (length y)
        → (mark_of (b ∷ (x ++ z)) ∷ map mark_of (starts_from ((token_at (b ∷ (x ++ z))).1 - 1) (x ++ z))) ≡ (mark_of (b ∷ (x ++ y)) ∷ map mark_of (starts_from ((token_at (b ∷ (x ++ y))).1 - 1) (x ++ y)))
    at_token later more =
        let within = begins-within ((token_at (b ∷ (x ++ y))).1 - 1) (x ++ y) (length y) more in
        let ended : (token_at (b ∷ (x ++ y))).1 ≤ suc (length x) = omega (arith, within, length-append x y) in
        let long : suc (length (x ++ z)) ≡ suc (length (x ++ y)) = omega (arith, same, length-append x y, length-append x z) in
        cons-marks (token_at (b ∷ (x ++ z))) (token_at (b ∷ (x ++ y))) (suc (length (x ++ z))) (suc (length (x ++ y)))
        (λ k. map mark_of (starts_from k (x ++ z))) (λ k. map mark_of (starts_from k (x ++ y))) (token_at-cut b x y z ends ended) long later

    by_test : (blank : Bool)
        → (Begins zero (x ++ y) (length y) → map mark_of (starts_from zero (x ++ z)) ≡ map mark_of (starts_from zero (x ++ y)))
        → (Begins ((token_at (b ∷ (x ++ y))).1 - 1) (x ++ y) (length y) → map mark_of (starts_from ((token_at (b ∷ (x ++ y))).1 - 1) (x ++ z)) ≡ map mark_of (starts_from ((token_at (b ∷ (x ++ y))).1 - 1) (x ++ y)))
        → Contains (map length (if blank then starts_from zero (x ++ y) else (b ∷ (x ++ y)) ∷ starts_from ((token_at (b ∷ (x ++ y))).1 - 1) (x ++ y))) (length y)
        → map mark_of (if blank then starts_from zero (x ++ z) else (b ∷ (x ++ z)) ∷ starts_from ((token_at (b ∷ (x ++ z))).1 - 1) (x ++ z))
        ≡ map mark_of (if blank then starts_from zero (x ++ y) else (b ∷ (x ++ y)) ∷ starts_from ((token_at (b ∷ (x ++ y))).1 - 1) (x ++ y))
    by_test true first second is = first is
    by_test false first second is =
        elim (contains-cases (suc (length (x ++ y))) (length y) (map length (starts_from ((token_at (b ∷ (x ++ y))).1 - 1) (x ++ y))) is) [
          | inl whole ↦ absurd (omega (arith, whole, length-append x y))
          | inr more ↦ at_token (second more) more
        ]

-- ---- a word of letters

word-starts : (w behind : List ℕ) → is_letters w ≡ true → prefix_len is_word_byte behind ≡ 0
    → map mark_of (starts (w ++ behind)) ≡ ((word_token w, length (w ++ behind)) ∷ map mark_of (starts behind))
word-starts [] behind letters ends = cc
word-starts (b ∷ w) behind letters ends =
    let letter = both_left (is_ascii_alphabetic b) (list_all is_ascii_alphabetic w) letters in
    let whole = prefix_len-whole is_word_byte (b ∷ w) behind (letters-word (b ∷ w) letters) ends in
    let first = word-first b w behind letter whole in
    let some : 1 ≤ (token_at (b ∷ (w ++ behind))).1 = rw first (omega arith) in
    let rest : drop (suc (length w)) (b ∷ (w ++ behind)) ≡ behind = drop-append_seam (b ∷ w) behind in
    rw (starts-token b (w ++ behind) (letter-plain b letter) some, first, rest) refl

length-alike : (a b : List ℕ) → str_eq_ignore_ascii_case a b ≡ true → length b ≡ length a
length-alike a b is =
    let same : str_to_ascii_lowercase a ≡ str_to_ascii_lowercase b = same_bytes (str_to_ascii_lowercase a) (str_to_ascii_lowercase b) is in
    sym (length-map b to_ascii_lowercase) ∙ sym (ap length same) ∙ length-map a to_ascii_lowercase

ends-words : (v w behind : List ℕ) → is_letters v ≡ true → is_letters w ≡ true → EndsLike (v ++ behind) (w ++ behind)
ends-words [] w behind first second = cc
ends-words (b ∷ v) [] behind first second = cc
ends-words (b ∷ v) (c ∷ w) behind first second =
    ends-letters b c (v ++ behind) (w ++ behind) (both_left (is_ascii_alphabetic b) (list_all is_ascii_alphabetic v) first) (both_left (is_ascii_alphabetic c) (list_all is_ascii_alphabetic w) second)

-- ---- what is read

tokens-by_marks : (zs : List (List ℕ)) → map (λ z. (token_at z).0) zs ≡ map (λ m. m.0) (map mark_of zs)
tokens-by_marks [] = refl
tokens-by_marks (z ∷ zs) = ap (λ ts. (token_at z).0 ∷ ts) (tokens-by_marks zs)

places-by_marks : (n : ℕ) (zs : List (List ℕ)) → map (λ z. n - length z) zs ≡ map (λ m. n - m.1) (map mark_of zs)
places-by_marks n [] = refl
places-by_marks n (z ∷ zs) = ap (λ ns. (n - length z) ∷ ns) (places-by_marks n zs)

answer-alike : (a b : List ℕ) → length a ≡ length b → places a ≡ places b → (o : Outcome Stmt) → answer a o ≡ answer b o
answer-alike a b long same (Ok found) = refl
answer-alike a b long same (Err refusal) = rw (long, same) refl

places-same : (a b : List ℕ) → length a ≡ length b → map mark_of (starts a) ≡ map mark_of (starts b) → places a ≡ places b
unfolding places
places-same a b long same =
    places-by_marks (length a) (starts a) ∙ ap (map (λ m. length a - m.1)) same ∙ sym (places-by_marks (length a) (starts b)) ∙ ap (λ n. map (λ z. n - length z) (starts b)) long

-- the same tokens at the same places are read alike
reading-same : (a b : List ℕ) → length a ≡ length b → map mark_of (starts a) ≡ map mark_of (starts b) → reading a ≡ reading b
unfolding reading tokens
reading-same a b long same =
    let words : tokens a ≡ tokens b = tokens-by_marks (starts a) ∙ ap (map (λ m. m.0)) same ∙ sym (tokens-by_marks (starts b)) in
    ap (λ ts. answer a (statement ts)) words ∙ answer-alike a b long (places-same a b long same) (statement (tokens b))

some-symbol : (o : Option Symbol) → IsSome o → (s : Symbol) × (o ≡ Some s)
some-symbol None is = cc
some-symbol (Some s) is = (s, refl)

begins-behind : (before y : List ℕ) → Contains (places (before ++ y)) (length before) → Begins zero (before ++ y) (length y)
unfolding places starts
begins-behind before y is =
    begins-by_place (starts (before ++ y)) (length (before ++ y)) (length before) (length y) (length-append before y)
    (λ m has. let within = begins-within zero (before ++ y) m has in omega (arith, within)) is

-- two texts of one length, with the same tokens at the same places
record SameTokens (a b : List ℕ) : Type 0 where
  long : length a ≡ length b
  marks : map mark_of (starts a) ≡ map mark_of (starts b)

same-tokens : (before word other behind : List ℕ) → HasKeyword before word behind → str_eq_ignore_ascii_case word other ≡ true
    → SameTokens (before ++ (other ++ behind)) (before ++ (word ++ behind))
unfolding starts
same-tokens before word other behind has same =
    let (s, is) = some-symbol (keyword word) has.is_keyword in
    let first = keyword-letters word s is in
    let second = keyword-letters other s (sym (keyword-alike word other same) ∙ is) in
    let long : length (other ++ behind) ≡ length (word ++ behind) = omega (arith, length-alike word other same, length-append word behind, length-append other behind) in
    let here : map mark_of (starts (other ++ behind)) ≡ map mark_of (starts (word ++ behind)) =
    word-starts other behind second has.ends ∙ rw (long, token-alike s word other same is) refl ∙ sym (word-starts word behind first has.ends) in
    record {
      long = omega (arith, long, length-append before (word ++ behind), length-append before (other ++ behind));
      marks = marks-behind before zero (word ++ behind) (other ++ behind) (ends-words word other behind first second) long here (begins-behind before (word ++ behind) has.begins);
    }

pub reading-alike : (before word other behind : List ℕ) → HasKeyword before word behind → str_eq_ignore_ascii_case word other ≡ true
    → reading (before ++ (other ++ behind)) ≡ reading (before ++ (word ++ behind))
reading-alike before word other behind has same =
    let alike = same-tokens before word other behind has same in
    reading-same (before ++ (other ++ behind)) (before ++ (word ++ behind)) alike.long alike.marks

pub places-alike : (before word other behind : List ℕ) → HasKeyword before word behind → str_eq_ignore_ascii_case word other ≡ true
    → places (before ++ (other ++ behind)) ≡ places (before ++ (word ++ behind))
places-alike before word other behind has same =
    let alike = same-tokens before word other behind has same in
    places-same (before ++ (other ++ behind)) (before ++ (word ++ behind)) alike.long alike.marks
