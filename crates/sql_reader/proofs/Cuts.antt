-- A token is read from its own bytes, whatever follows that doesn't go on with it.
use Rattle.std.proofs.Common.{◌≡◌, ◌≤◌, ◌<◌, ◌-◌, ◌^◌, min, ℕ, suc, ◌+◌, Bool, true, false, cond, List, [], ◌∷◌, ◌++◌, length, take, get_or, drop, Option, Some, None, refl, ap, ◌∙◌, sym, subst, length-append, arith}
use Rattle.std.specs.Prelude.{if◌then◌else◌, ◌==◌, slice_index}
use Rattle.std.specs.List.{prefix_len, take_while}
use Rattle.std.specs.Char.{is_ascii_alphabetic, is_ascii_digit}
use Rattle.std.proofs.lemmas.Bool.Decides.{nat_tests}
use Rattle.std.proofs.lemmas.List.{take-append-le}
use Rattle.sql_reader.specs.declared.symbols.Symbol.TheVariants as symbol
use Rattle.sql_reader.specs.declared.tokens.Token.{Token}
use Rattle.sql_reader.specs.declared.tokens.Token.TheVariants as token
use Rattle.sql_reader.specs.Lexing.{is_word_byte, word_token, text_at, text_by, behind, mark, marked_by, quote, number_after, token_at}
use Rattle.sql_reader.proofs.QuotedTexts.{text_at-cons}

-- what may follow a token in place of y, so that it ends where it ended before y
pub record EndsLike (y z : List ℕ) : Type 0 where
  pub some : 0 < length y
  pub no_word : prefix_len is_word_byte y ≡ 0 → prefix_len is_word_byte z ≡ 0
  pub no_digit : prefix_len is_ascii_digit y ≡ 0 → prefix_len is_ascii_digit z ≡ 0
  pub no_quote : (slice_index z 0 == quote) ≡ false
  pub no_greater : (slice_index z 0 == 62) ≡ false
  pub no_equal : (slice_index z 0 == 61) ≡ false

-- ---- words and digits

prefix_len-cut : (p : ℕ → Bool) (x y z : List ℕ) → (prefix_len p y ≡ 0 → prefix_len p z ≡ 0) → prefix_len p (x ++ y) ≤ length x → prefix_len p (x ++ z) ≡ prefix_len p (x ++ y)
prefix_len-cut p [] y z ends within = let none : prefix_len p y ≡ 0 = omega (arith, within) in ends none ∙ sym none
prefix_len-cut p (b ∷ x) y z ends within = by_test (p b) (prefix_len-cut p x y z ends) within
  where
    by_test : (is : Bool) → (prefix_len p (x ++ y) ≤ length x → prefix_len p (x ++ z) ≡ prefix_len p (x ++ y)) → cond is (1 + prefix_len p (x ++ y)) 0 ≤ suc (length x)
        → cond is (1 + prefix_len p (x ++ z)) 0 ≡ cond is (1 + prefix_len p (x ++ y)) 0
    by_test true later within = ap (λ n. 1 + n) (later (omega (arith, within)))
    by_test false later within = refl

take_while-cut : (p : ℕ → Bool) (x y z : List ℕ) → (prefix_len p y ≡ 0 → prefix_len p z ≡ 0) → prefix_len p (x ++ y) ≤ length x → take_while p (x ++ z) ≡ take_while p (x ++ y)
take_while-cut p x y z ends within =
    ap (λ n. take n (x ++ z)) (prefix_len-cut p x y z ends within) ∙ take-append-le (prefix_len p (x ++ y)) x z within ∙ sym (take-append-le (prefix_len p (x ++ y)) x y within)

-- what is read of bytes of one kind, and how many they are
abbrev run : {X : Type 0} → (List ℕ → X) → (ℕ → Bool) → List ℕ → X × ℕ
run f p z = (f (take_while p z), prefix_len p z)

run-cut : {X : Type 0} (f : List ℕ → X) (p : ℕ → Bool) (x y z : List ℕ) → (prefix_len p y ≡ 0 → prefix_len p z ≡ 0) → prefix_len p (x ++ y) ≤ length x → run f p (x ++ z) ≡ run f p (x ++ y)
run-cut f p x y z ends within =
    let one = take_while-cut p x y z ends within in
    let two = prefix_len-cut p x y z ends within in
    λ i. (f (one i), two i)

-- ---- texts

-- a value is found, and its closing quote stands within so many bytes
abbrev Within : ℕ → Option (List ℕ × ℕ) → Type 0
Within n None = ⊥
Within n (Some found) = found.1 ≤ n

behind-within : (v : List ℕ) (k m n : ℕ) (o : Option (List ℕ × ℕ)) → m ≤ k + n → Within m (behind v k o) → Within n o
behind-within v k m n None most within = within
behind-within v k m n (Some found) most within = omega (arith, within)

behind-short : (v : List ℕ) (k m : ℕ) (o : Option (List ℕ × ℕ)) → m < k → Within m (behind v k o) → ⊥
behind-short v k m None short within = within
behind-short v k m (Some found) short within = absurd (omega (arith, within))

text_at-some : (z : List ℕ) → Within 0 (text_at z) → ⊥
text_at-some [] within = within
text_at-some (b ∷ z) within = by_tests (b == quote) (get_or z 0 0 == quote) (rw (text_at-cons b z) at within)
  where
    by_tests : (is next : Bool) → Within 0 (if is then (if next then behind (quote ∷ []) 2 (text_at (drop 1 z)) else Some ([], 1)) else behind (b ∷ []) 1 (text_at z)) → ⊥
    by_tests true true within = behind-short (quote ∷ []) 2 0 (text_at (drop 1 z)) (omega arith) within
    by_tests true false within = absurd (omega (arith, within))
    by_tests false next within = behind-short (b ∷ []) 1 0 (text_at z) (omega arith) within

last-cut : (b : ℕ) (y z : List ℕ) → EndsLike y z → Within 1 (text_at (b ∷ y)) → text_at (b ∷ z) ≡ text_at (b ∷ y)
last-cut b y z ends within = rw (text_at-cons b y, text_at-cons b z, ends.no_quote) (by_tests (b == quote) (get_or y 0 0 == quote) (rw (text_at-cons b y) at within))
  where
    by_tests : (is next : Bool) → Within 1 (if is then (if next then behind (quote ∷ []) 2 (text_at (drop 1 y)) else Some ([], 1)) else behind (b ∷ []) 1 (text_at y))
        → (if is then Some ([], 1) else behind (b ∷ []) 1 (text_at z)) ≡ (if is then (if next then behind (quote ∷ []) 2 (text_at (drop 1 y)) else Some ([], 1)) else behind (b ∷ []) 1 (text_at y))
    by_tests true true within = absurd (behind-short (quote ∷ []) 2 1 (text_at (drop 1 y)) (omega arith) within)
    by_tests true false within = refl
    by_tests false next within = absurd (text_at-some y (behind-within (b ∷ []) 1 1 0 (text_at y) (omega arith) within))

text_at-cut : (x y z : List ℕ) → EndsLike y z → Within (length x) (text_at (x ++ y)) → text_at (x ++ z) ≡ text_at (x ++ y)
text_at-cut [] y z ends within = absurd (text_at-some y within)
text_at-cut (b ∷ []) y z ends within = last-cut b y z ends within
text_at-cut (b ∷ c ∷ x) y z ends within = by_tests (b == quote) (c == quote) (text_at-cut x y z ends) (text_at-cut (c ∷ x) y z ends) within
  where
    by_tests : (is next : Bool) → (Within (length x) (text_at (x ++ y)) → text_at (x ++ z) ≡ text_at (x ++ y))
        → (Within (suc (length x)) (text_at (c ∷ (x ++ y))) → text_at (c ∷ (x ++ z)) ≡ text_at (c ∷ (x ++ y)))
        → Within (suc (suc (length x))) (if is then (if next then behind (quote ∷ []) 2 (text_at (x ++ y)) else Some ([], 1)) else behind (b ∷ []) 1 (text_at (c ∷ (x ++ y))))
        → (if is then (if next then behind (quote ∷ []) 2 (text_at (x ++ z)) else Some ([], 1)) else behind (b ∷ []) 1 (text_at (c ∷ (x ++ z))))
        ≡ (if is then (if next then behind (quote ∷ []) 2 (text_at (x ++ y)) else Some ([], 1)) else behind (b ∷ []) 1 (text_at (c ∷ (x ++ y))))
    by_tests true true shorter short within = ap (behind (quote ∷ []) 2) (shorter (behind-within (quote ∷ []) 2 (suc (suc (length x))) (length x) (text_at (x ++ y)) (omega arith) within))
    by_tests true false shorter short within = refl
    by_tests false next shorter short within =
        ap (behind (b ∷ []) 1) (short (behind-within (b ∷ []) 1 (suc (suc (length x))) (suc (length x)) (text_at (c ∷ (x ++ y))) (omega arith) within))

text_by-within : (y : List ℕ) (x : List ℕ) (o : Option (List ℕ × ℕ)) → 0 < length y → (text_by (x ++ y) o).1 ≤ suc (length x) → Within (length x) o
text_by-within y x None some within = absurd (omega (arith, within, length-append x y))
text_by-within y x (Some found) some within = omega (arith, within)

text_by-cut : (x y z : List ℕ) (o : Option (List ℕ × ℕ)) → Within (length x) o → text_by (x ++ z) o ≡ text_by (x ++ y) o
text_by-cut x y z None within = absurd within
text_by-cut x y z (Some found) within = refl

-- ---- marks

less-cut : (n m : ℕ) → (m == 62) ≡ false → (m == 61) ≡ false → (marked_by (mark 60 n)).1 ≤ 1 → marked_by (mark 60 m) ≡ marked_by (mark 60 n)
unfolding mark
less-cut n m no_greater no_equal within = rw (no_greater, no_equal) (by_tests (n == 62) (n == 61) within)
  where
    by_tests : (g e : Bool) → (marked_by (Some (if g then (symbol.NotEqual, 2) else (if e then (symbol.LessOrEqual, 2) else (symbol.Less, 1))))).1 ≤ 1
        → marked_by (Some (symbol.Less, 1)) ≡ marked_by (Some (if g then (symbol.NotEqual, 2) else (if e then (symbol.LessOrEqual, 2) else (symbol.Less, 1))))
    by_tests true e within = absurd (omega (arith, within))
    by_tests false true within = absurd (omega (arith, within))
    by_tests false false within = refl

greater-cut : (n m : ℕ) → (m == 61) ≡ false → (marked_by (mark 62 n)).1 ≤ 1 → marked_by (mark 62 m) ≡ marked_by (mark 62 n)
unfolding mark
greater-cut n m no_equal within = rw no_equal (by_test (n == 61) within)
  where
    by_test : (e : Bool) → (marked_by (Some (if e then (symbol.GreaterOrEqual, 2) else (symbol.Greater, 1)))).1 ≤ 1
        → marked_by (Some (symbol.Greater, 1)) ≡ marked_by (Some (if e then (symbol.GreaterOrEqual, 2) else (symbol.Greater, 1)))
    by_test true within = absurd (omega (arith, within))
    by_test false within = refl

unequal-cut : (n m : ℕ) → (m == 61) ≡ false → (marked_by (mark 33 n)).1 ≤ 1 → marked_by (mark 33 m) ≡ marked_by (mark 33 n)
unfolding mark
unequal-cut n m no_equal within = rw no_equal (by_test (n == 61) within)
  where
    by_test : (e : Bool) → (marked_by (if e then Some (symbol.NotEqual, 2) else None)).1 ≤ 1 → marked_by None ≡ marked_by (if e then Some (symbol.NotEqual, 2) else None)
    by_test true within = absurd (omega (arith, within))
    by_test false within = refl

others-cut : (b n m : ℕ) → (b == 60) ≡ false → (b == 62) ≡ false → (b == 33) ≡ false → marked_by (mark b m) ≡ marked_by (mark b n)
unfolding mark
others-cut b n m less greater unequal = rw (less, greater, unequal) refl

mark-cut : (b n m : ℕ) → (m == 62) ≡ false → (m == 61) ≡ false → (marked_by (mark b n)).1 ≤ 1 → marked_by (mark b m) ≡ marked_by (mark b n)
mark-cut b n m no_greater no_equal within = by_tests (b == 60) refl (b == 62) refl (b == 33) refl
  where
    Same : ℕ → Type 0
    Same c = (marked_by (mark c n)).1 ≤ 1 → marked_by (mark c m) ≡ marked_by (mark c n)

    by_tests : (less : Bool) → (b == 60) ≡ less → (greater : Bool) → (b == 62) ≡ greater → (unequal : Bool) → (b == 33) ≡ unequal → marked_by (mark b m) ≡ marked_by (mark b n)
    by_tests true l greater g unequal u = let is : 60 ≡ b = grind (arith, nat_tests) in subst Same is (less-cut n m no_greater no_equal) within
    by_tests false l true g unequal u = let is : 62 ≡ b = grind (arith, nat_tests) in subst Same is (greater-cut n m no_equal) within
    by_tests false l false g true u = let is : 33 ≡ b = grind (arith, nat_tests) in subst Same is (unequal-cut n m no_equal) within
    by_tests false l false g false u = others-cut b n m l g u

-- ---- tokens

word_at : (b : ℕ) (z : List ℕ) → is_ascii_alphabetic b ≡ true → token_at (b ∷ z) ≡ (word_token (take_while is_word_byte (b ∷ z)), prefix_len is_word_byte (b ∷ z))
unfolding token_at
word_at b z letter = rw letter refl

abbrev number_of : List ℕ → Token
number_of ds = token.Number (min (number_after 0 ds) (2 ^ 64 - 1))

number_at : (b : ℕ) (z : List ℕ) → is_ascii_alphabetic b ≡ false → is_ascii_digit b ≡ true → token_at (b ∷ z) ≡ (number_of (take_while is_ascii_digit (b ∷ z)), prefix_len is_ascii_digit (b ∷ z))
unfolding token_at
number_at b z letter digit = rw (letter, digit) refl

quoted_at : (b : ℕ) (z : List ℕ) → is_ascii_alphabetic b ≡ false → is_ascii_digit b ≡ false → (b == quote) ≡ true → token_at (b ∷ z) ≡ text_by z (text_at z)
unfolding token_at
quoted_at b z letter digit is = rw (letter, digit, is) refl

mark_at : (b : ℕ) (z : List ℕ) → is_ascii_alphabetic b ≡ false → is_ascii_digit b ≡ false → (b == quote) ≡ false → token_at (b ∷ z) ≡ marked_by (mark b (slice_index z 0))
unfolding token_at
mark_at b z letter digit is = rw (letter, digit, is) refl

next-cut : (b : ℕ) (x y z : List ℕ) → EndsLike y z → (marked_by (mark b (slice_index (x ++ y) 0))).1 ≤ suc (length x) → marked_by (mark b (slice_index (x ++ z) 0)) ≡ marked_by (mark b (slice_index (x ++ y) 0))
next-cut b [] y z ends within = mark-cut b (slice_index y 0) (slice_index z 0) ends.no_greater ends.no_equal (omega (arith, within))
next-cut b (c ∷ x) y z ends within = refl

-- A token that ends within its first bytes is the same with any bytes behind that end it alike.
pub token_at-cut : (b : ℕ) (x y z : List ℕ) → EndsLike y z → (token_at (b ∷ (x ++ y))).1 ≤ suc (length x) → token_at (b ∷ (x ++ z)) ≡ token_at (b ∷ (x ++ y))
token_at-cut b x y z ends within = by_kinds (is_ascii_alphabetic b) refl (is_ascii_digit b) refl (b == quote) refl
  where
    quoted : text_at (x ++ z) ≡ text_at (x ++ y) → Within (length x) (text_at (x ++ y)) → text_by (x ++ z) (text_at (x ++ z)) ≡ text_by (x ++ y) (text_at (x ++ y))
    quoted same inside = ap (text_by (x ++ z)) same ∙ text_by-cut x y z (text_at (x ++ y)) inside

    by_kinds : (letter : Bool) → is_ascii_alphabetic b ≡ letter → (digit : Bool) → is_ascii_digit b ≡ digit → (is : Bool) → (b == quote) ≡ is → token_at (b ∷ (x ++ z)) ≡ token_at (b ∷ (x ++ y))
    by_kinds true l digit d is q =
        word_at b (x ++ z) l ∙ run-cut word_token is_word_byte (b ∷ x) y z ends.no_word (rw (word_at b (x ++ y) l) at within) ∙ sym (word_at b (x ++ y) l)
    by_kinds false l true d is q =
        number_at b (x ++ z) l d ∙ run-cut number_of is_ascii_digit (b ∷ x) y z ends.no_digit (rw (number_at b (x ++ y) l d) at within) ∙ sym (number_at b (x ++ y) l d)
    by_kinds false l false d true q =
        let inside = text_by-within y x (text_at (x ++ y)) ends.some (rw (quoted_at b (x ++ y) l d q) at within) in
        quoted_at b (x ++ z) l d q ∙ quoted (text_at-cut x y z ends inside) inside ∙ sym (quoted_at b (x ++ y) l d q)
    by_kinds false l false d false q =
        mark_at b (x ++ z) l d q ∙ next-cut b x y z ends (rw (mark_at b (x ++ y) l d q) at within) ∙ sym (mark_at b (x ++ y) l d q)
