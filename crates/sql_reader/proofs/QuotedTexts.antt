-- Texts in quotes: one step of reading, and that the value of a text in UTF-8 is in UTF-8.
use Rattle.std.proofs.Common.{◌≡◌, ◌≢◌, ℕ, ◌+◌, ◌<◌, true, false, List, [], ◌∷◌, ◌++◌, length, get_or, drop, Option, Some, None, refl, ap, ◌∙◌, sym, append_assoc, drop-cons, add-one, add_assoc, append-nil, add-zero, zero-add, zero, suc, subst, inl, inr, ◌≤◌, length-append, arith}
use Rattle.std.proofs.lemmas.Bool.{cases_eq}
use Rattle.std.proofs.lemmas.Bool.Decides.{nat_tests}
use Rattle.std.proofs.lemmas.List.{get_or-drop, drop-drop}
use Rattle.std.proofs.lemmas.Str.{inside_one, IsUtf8-append, IsUtf8-encode, IsUtf8-nil, char_from_byte, encode_ascii, length-encode, len_utf8_bounds}
use lib.Utf8.{encodes, encode, scalar, scalars}
use Rattle.sql_reader.proofs.Words.{both_left, both_right}
use Rattle.std.specs.Prelude.{if◌then◌else◌, ◌==◌}
use Rattle.std.specs.Str.{IsUtf8}
use Rattle.sql_reader.specs.Lexing.{text_at, behind, quote}

pub text_at-cons : (b : ℕ) (z : List ℕ) → text_at (b ∷ z) ≡ (if b == quote then (if get_or z 0 0 == quote then behind (quote ∷ []) 2 (text_at (drop 1 z)) else Some ([], 1)) else behind (b ∷ []) 1 (text_at z))
text_at-cons b [] = refl
text_at-cons b (c ∷ z) = refl

behind-behind : (v w : List ℕ) (m n : ℕ) (more : Option (List ℕ × ℕ)) → behind v m (behind w n more) ≡ behind (v ++ w) (m + n) more
behind-behind v w m n None = refl
behind-behind v w m n (Some f) = rw (← append_assoc, ← add_assoc) refl

-- a byte that is no quote
pub text_at_plain : (z : List ℕ) (at : ℕ) (v : List ℕ) → at < length z → get_or z at 0 ≢ quote
    → behind (v ++ (get_or z at 0 ∷ [])) (at + 1) (text_at (drop (at + 1) z)) ≡ behind v at (text_at (drop at z))
text_at_plain z at v inside plain =
    let first : drop at z ≡ get_or z at 0 ∷ drop (at + 1) z = rw (add-one, drop-cons z at 0) in
    let other : (get_or z at 0 == quote) ≡ false = grind (arith, nat_tests) in
    rw (first, text_at-cons (get_or z at 0) (drop (at + 1) z), other) (sym (behind-behind v (get_or z at 0 ∷ []) at 1 (text_at (drop (at + 1) z))))

-- the same at a place under another name
pub text_at_plain_at : (z : List ℕ) (at next : ℕ) (v : List ℕ) → next ≡ at → at < length z → get_or z at 0 ≢ quote
    → behind (v ++ (get_or z next 0 ∷ [])) (next + 1) (text_at (drop (next + 1) z)) ≡ behind v at (text_at (drop at z))
text_at_plain_at z at next v same inside plain = rw same (text_at_plain z at v inside plain)

-- two quotes
pub text_at_double : (z : List ℕ) (at next : ℕ) (v : List ℕ) → next ≡ at + 1 → at < length z → get_or z at 0 ≡ quote → get_or z next 0 ≡ quote
    → behind (v ++ (get_or z next 0 ∷ [])) (next + 1) (text_at (drop (next + 1) z)) ≡ behind v at (text_at (drop at z))
text_at_double z at next v is_next inside first second =
    let now : drop at z ≡ get_or z at 0 ∷ drop next z = rw (is_next, add-one, drop-cons z at 0) in
    let is_quote : (get_or z at 0 == quote) ≡ true = grind (arith, nat_tests) in
    let beyond : get_or (drop next z) 0 0 ≡ quote = rw (get_or-drop, add-zero) second in
    let is_double : (get_or (drop next z) 0 0 == quote) ≡ true = grind (arith, nat_tests) in
    let later : drop 1 (drop next z) ≡ drop (next + 1) z = drop-drop 1 next z in
    let bytes : next + 1 ≡ at + 2 = omega arith in
    rw (now, text_at-cons (get_or z at 0) (drop next z), is_quote, is_double, later, second)
    (ap (λ n. behind (v ++ (quote ∷ [])) n (text_at (drop (next + 1) z))) bytes ∙ sym (behind-behind v (quote ∷ []) at 2 (text_at (drop (next + 1) z))))

-- the closing quote
pub text_at_closed : (z : List ℕ) (at : ℕ) (v : List ℕ) → at < length z → get_or z at 0 ≡ quote → get_or z (at + 1) 0 ≢ quote
    → Some (v, at + 1) ≡ behind v at (text_at (drop at z))
text_at_closed z at v inside first second =
    let now : drop at z ≡ get_or z at 0 ∷ drop (at + 1) z = rw (add-one, drop-cons z at 0) in
    let is_quote : (get_or z at 0 == quote) ≡ true = grind (arith, nat_tests) in
    let beyond : get_or (drop (at + 1) z) 0 0 ≢ quote = rw (get_or-drop, add-zero) second in
    let is_single : (get_or (drop (at + 1) z) 0 0 == quote) ≡ false = grind (arith, nat_tests) in
    rw (now, text_at-cons (get_or z at 0) (drop (at + 1) z), is_quote, is_single, append-nil) refl

-- ---- UTF-8

pub nil-behind : (more : Option (List ℕ × ℕ)) → more ≡ behind [] 0 more
nil-behind None = refl
nil-behind (Some f) = ap (λ n. Some (f.0, n)) (sym (zero-add f.1))

text_at-append : (xs z : List ℕ) → ((k : ℕ) → k < length xs → get_or xs k 0 ≢ quote) → text_at (xs ++ z) ≡ behind xs (length xs) (text_at z)
text_at-append [] z plain = nil-behind (text_at z)
text_at-append (x ∷ xs) z plain =
    let other : (x == quote) ≡ false = let apart : x ≢ quote = plain 0 (omega arith) in grind (arith, nat_tests) in
    let later : text_at (xs ++ z) ≡ behind xs (length xs) (text_at z) = text_at-append xs z (λ k inside. plain (suc k) (omega arith)) in
    let count : 1 + length xs ≡ suc (length xs) = omega arith in
    rw (text_at-cons x (xs ++ z), other, later, behind-behind (x ∷ []) xs 1 (length xs) (text_at z)) (ap (λ n. behind (x ∷ xs) n (text_at z)) count)

-- what stands behind a found value
behind_found : (v : List ℕ) (n : ℕ) (more : Option (List ℕ × ℕ)) (value : List ℕ) (bytes : ℕ) → behind v n more ≡ Some (value, bytes)
    → (w : List ℕ) × (m : ℕ) × (more ≡ Some (w, m)) × (value ≡ v ++ w)
behind_found v n None value bytes is = cc
behind_found v n (Some f) value bytes is =
    let same : (v ++ f.0, n + f.1) ≡ (value, bytes) = cc in (f.0, f.1, refl, sym (ap (λ (p : List ℕ × ℕ). p.0) same))

pub encode-plain : (c : ℕ) → c ≢ quote → (k : ℕ) → k < length (encode c) → get_or (encode c) k 0 ≢ quote
encode-plain c apart k inside is = apart (inside_one c [] (encode c) k (sym (append-nil (encode c))) inside (omega (arith, is)) ∙ is)

-- a value that begins with these UTF-8 bytes
longer-utf8 : (v : List ℕ) (n : ℕ) (z value : List ℕ) (bytes : ℕ) → IsUtf8 v → ((w : List ℕ) (m : ℕ) → text_at z ≡ Some (w, m) → IsUtf8 w)
    → behind v n (text_at z) ≡ Some (value, bytes) → IsUtf8 value
longer-utf8 v n z value bytes first later is =
    let (w, m, found, value-is) = behind_found v n (text_at z) value bytes is in
    subst IsUtf8 (sym value-is) (IsUtf8-append v w first (later w m found))

pub encode-quote : encode quote ≡ quote ∷ []
encode-quote = encode_ascii quote (omega arith)

quote-utf8 : IsUtf8 (quote ∷ [])
quote-utf8 = subst IsUtf8 encode-quote (IsUtf8-encode quote refl)

first-plain : (d : ℕ) (rest : List ℕ) → d ≢ quote → get_or (encode d ++ rest) 0 0 ≢ quote
first-plain d rest apart is = apart (char_from_byte (encode d ++ rest) rest d refl (omega (arith, is)) (omega (arith, length-append (encode d) rest, length-encode d, len_utf8_bounds d)) ∙ is)

no-value-utf8 : (value : List ℕ) (bytes : ℕ) → ◌≡◌ {A = Option (List ℕ × ℕ)} (Some ([], 1)) (Some (value, bytes)) → IsUtf8 value
no-value-utf8 value bytes is =
    let same : ◌≡◌ {A = List ℕ × ℕ} ([], 1) (value, bytes) = cc in subst IsUtf8 (ap (λ (p : List ℕ × ℕ). p.0) same) IsUtf8-nil

-- the value behind a quote, where shorter texts have values in UTF-8
behind_quote-utf8 : (cs value : List ℕ) (bytes : ℕ) → scalars cs ≡ true
    → ((ds w : List ℕ) (m : ℕ) → length ds < length cs → scalars ds ≡ true → text_at (encodes ds) ≡ Some (w, m) → IsUtf8 w)
    → text_at (quote ∷ encodes cs) ≡ Some (value, bytes) → IsUtf8 value
behind_quote-utf8 [] value bytes are shorter is = no-value-utf8 value bytes is
behind_quote-utf8 (d ∷ ds) value bytes are shorter is =
    elim (cases_eq d quote) [
      | inl quoted ↦
          let two : encodes (d ∷ ds) ≡ quote ∷ encodes ds = rw (quoted, encode-quote) refl in
          longer-utf8 (quote ∷ []) 2 (encodes ds) value bytes quote-utf8
          (λ w m. shorter ds w m (omega arith) (both_right (scalar d) (scalars ds) are))
          (sym (ap (λ z. text_at (quote ∷ z)) two) ∙ is)
      | inr apart ↦
          let plain : get_or (encodes (d ∷ ds)) 0 0 ≢ quote = first-plain d (encodes ds) apart in
          let is_single : (get_or (encodes (d ∷ ds)) 0 0 == quote) ≡ false = grind (arith, nat_tests) in
          no-value-utf8 value bytes (sym (rw is_single at (text_at-cons quote (encodes (d ∷ ds)))) ∙ is)
    ]

-- by the count of the characters
value-utf8 : (n : ℕ) (cs : List ℕ) (value : List ℕ) (bytes : ℕ) → length cs ≤ n → scalars cs ≡ true → text_at (encodes cs) ≡ Some (value, bytes) → IsUtf8 value
value-utf8 n [] value bytes few are is = cc
value-utf8 zero (c ∷ cs) value bytes few are is = absurd (omega arith)
value-utf8 (suc n) (c ∷ cs) value bytes few are is =
    let others : scalars cs ≡ true = both_right (scalar c) (scalars cs) are in
    elim (cases_eq c quote) [
      | inl quoted ↦
          let one : encodes (c ∷ cs) ≡ quote ∷ encodes cs = rw (quoted, encode-quote) refl in
          behind_quote-utf8 cs value bytes others (λ ds w m fewer. value-utf8 n ds w m (omega arith)) (sym (ap text_at one) ∙ is)
      | inr apart ↦
          longer-utf8 (encode c) (length (encode c)) (encodes cs) value bytes (IsUtf8-encode c (both_left (scalar c) (scalars cs) are))
          (λ w m. value-utf8 n cs w m (omega arith) others)
          (sym (text_at-append (encode c) (encodes cs) (encode-plain c apart)) ∙ is)
    ]

pub text_utf8 : (z value : List ℕ) (bytes : ℕ) → IsUtf8 z → text_at z ≡ Some (value, bytes) → IsUtf8 value
text_utf8 z value bytes (cs, is) found = value-utf8 (length cs) cs value bytes (omega arith) is.0 (ap text_at is.1 ∙ found)
