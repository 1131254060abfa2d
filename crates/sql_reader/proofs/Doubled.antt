-- Quotes that stand twice, character by character.
use Rattle.std.proofs.Common.{◌≡◌, ◌≢◌, ℕ, suc, ◌<◌, true, false, List, [], ◌∷◌, ◌++◌, length, get_or, refl, ap, append_assoc, append-nil, arith}
use Rattle.std.specs.Prelude.{if◌then◌else◌, ◌==◌}
use Rattle.std.proofs.lemmas.Bool.Decides.{nat_tests}
use Rattle.std.proofs.lemmas.Str.{encodes-append}
use lib.Utf8.{encodes, encode}
use Rattle.sql_reader.specs.Lexing.{quote}
use Rattle.sql_reader.specs.Canonical.{doubled}
use Rattle.sql_reader.proofs.QuotedTexts.{encode-plain, encode-quote}

pub doubled-append : (xs ys : List ℕ) → doubled (xs ++ ys) ≡ doubled xs ++ doubled ys
doubled-append [] ys = refl
doubled-append (x ∷ xs) ys =
    elim (x == quote) as (λ b. (if b then quote ∷ quote ∷ doubled (xs ++ ys) else x ∷ doubled (xs ++ ys)) ≡ (if b then quote ∷ quote ∷ doubled xs else x ∷ doubled xs) ++ doubled ys) [
      | true ↦ ap (λ z. quote ∷ quote ∷ z) (doubled-append xs ys)
      | false ↦ ap (λ z. x ∷ z) (doubled-append xs ys)
    ]

doubled-plain : (xs : List ℕ) → ((k : ℕ) → k < length xs → get_or xs k 0 ≢ quote) → doubled xs ≡ xs
doubled-plain [] plain = refl
doubled-plain (x ∷ xs) plain =
    let other : (x == quote) ≡ false = let apart : x ≢ quote = plain 0 (omega arith) in grind (arith, nat_tests) in
    rw other (ap (λ z. x ∷ z) (doubled-plain xs (λ k inside. plain (suc k) (omega arith))))

doubled-char : (c : ℕ) → c ≢ quote → doubled (encode c) ≡ encode c
doubled-char c apart = doubled-plain (encode c) (encode-plain c apart)

doubled-quote : doubled (encode quote) ≡ encode quote ++ encode quote
doubled-quote = rw encode-quote refl

-- one character more
pub doubled_other : (before text : List ℕ) (cs : List ℕ) (c : ℕ) → c ≢ quote → text ≡ before ++ doubled (encodes cs) → text ++ encode c ≡ before ++ doubled (encodes (cs ++ c ∷ []))
doubled_other before text cs c apart so_far =
    rw (encodes-append, append-nil, doubled-append, doubled-char c apart, so_far, append_assoc) refl

pub doubled_quote : (before text : List ℕ) (cs : List ℕ) (c : ℕ) → c ≡ quote → text ≡ before ++ doubled (encodes cs) → text ++ encode c ++ encode c ≡ before ++ doubled (encodes (cs ++ c ∷ []))
doubled_quote before text cs c is so_far =
    rw (is, encodes-append, append-nil, doubled-append, doubled-quote, so_far, append_assoc, append_assoc) refl
