-- Words are ASCII.
use Rattle.std.proofs.Common.{◌≡◌, ℕ, suc, ◌+◌, ◌-◌, ◌<◌, ◌≤◌, Bool, true, false, List, ◌∷◌, length, drop, get_or, drop-cons, length-drop, refl, subst, arith}
use Rattle.std.specs.Prelude.{◌&&◌}
use Rattle.std.specs.Char.{is_ascii_alphabetic}
use Rattle.std.specs.List.{prefix_len}
use Rattle.std.specs.Str.{IsUtf8, IsCharBoundary}
use Rattle.std.proofs.lemmas.Bool.Decides.{nat_tests}
use Rattle.std.proofs.lemmas.List.{get_or-drop}
use Rattle.std.proofs.lemmas.List.Sums.{prefix_len-le-length, prefix_len_passes}
use Rattle.std.proofs.lemmas.Str.{IsCharBoundary-after_ascii}
use Rattle.sql_reader.specs.Lexing.{is_word_byte}

pub both_left : (a b : Bool) → (a && b) ≡ true → a ≡ true
both_left true b is = refl
both_left false b is = cc

pub both_right : (a b : Bool) → (a && b) ≡ true → b ≡ true
both_right true b is = is
both_right false b is = cc

letter-word_byte : (b : ℕ) → is_ascii_alphabetic b ≡ true → is_word_byte b ≡ true
letter-word_byte b is = grind (arith, nat_tests)

word_byte-ascii : (b : ℕ) → is_word_byte b ≡ true → b < 128
word_byte-ascii b is = grind (arith, nat_tests)

-- ---- a word that begins with a letter at a place of a text

word_some : (z : List ℕ) (at : ℕ) → at < length z → is_ascii_alphabetic (get_or z at 0) ≡ true → 1 ≤ prefix_len is_word_byte (drop at z)
word_some z at inside is =
    let first : drop at z ≡ get_or z at 0 ∷ drop (suc at) z = drop-cons z at 0 inside in
    rw (first, letter-word_byte (get_or z at 0) is) (omega arith)

pub word_end : (z : List ℕ) (at len : ℕ) → IsUtf8 z → at < length z → is_ascii_alphabetic (get_or z at 0) ≡ true → len ≡ prefix_len is_word_byte (drop at z) → IsCharBoundary z (at + len)
word_end z at len utf8 inside letter is =
    let some : 1 ≤ len = omega (arith, is, word_some z at inside letter) in
    let within : at + len ≤ length z = omega (arith, is, prefix_len-le-length is_word_byte (drop at z), length-drop at z) in
    let passes = prefix_len_passes is_word_byte (drop at z) (len - 1) 0 (omega (arith, is)) in
    let last : is_word_byte (get_or z (at + (len - 1)) 0) ≡ true = rw (get_or-drop at z (len - 1) 0) at passes in
    let behind : at + (len - 1) + 1 ≡ at + len = omega arith in
    subst (λ n. IsCharBoundary z n) behind (IsCharBoundary-after_ascii z (at + (len - 1)) utf8 (omega arith) (word_byte-ascii (get_or z (at + (len - 1)) 0) last))
