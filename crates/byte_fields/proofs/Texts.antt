-- When a text is plain; a text is read back, and what is read as a text stands there.
use Rattle.std.proofs.Common.{◌≡◌, ℕ, Bool, true, false, List, IsTrue, refl, zero, suc, ◌+◌, ◌<◌, ◌≤◌, cond, ltb, leb, get_or, [], ◌∷◌, ◌++◌, length, Ok, subst, append_assoc, arith}
use Rattle.std.specs.Prelude.{not, ◌&&◌}
use Rattle.std.specs.List.{list_all}
use Rattle.std.specs.Str.{IsUtf8, is_utf8}
use Rattle.std.proofs.lemmas.Str.{IsUtf8-from_is_utf8, is_utf8-from_IsUtf8, IsUtf8-from_ascii}
use Rattle.byte_fields.specs.Layout.{is_control, is_plain, text_bytes, FitsText}
use Rattle.std.specs.Int.{w16, to_be_bytes}
use Rattle.std.proofs.lemmas.Bool.{and_parts, ltb-false, le-ltb, ltb-true, leb-true, ne_eqb}
use Rattle.std.proofs.lemmas.List.{length-append}
use Rattle.byte_fields.specs.declared.errors.FieldError.{FieldError}
use Rattle.byte_fields.specs.declared.errors.FieldError.TheVariants as errors
use Rattle.byte_fields.specs.Reading.{Position, ◌>>=◌, gives, fails, plain_or_fault, bytes_of, number_at, text_at, short_text_at}
use Rattle.byte_fields.specs.Exactness.{Stands, ReadsExactly}
use Rattle.byte_fields.proofs.Chains.{step_ok, Stands-then}
use Rattle.byte_fields.proofs.Numbers.{bytes_back, bytes_only, two_bytes_exact}

abbrev pub no_control : List ℕ → Bool
no_control text = list_all (λ c. not (is_control c)) text

and_false : (b : Bool) → (b && false) ≡ false
and_false true = refl
and_false false = refl

pub is_plain-true : (bytes text : List ℕ) → text ≡ bytes → IsUtf8 bytes → no_control text ≡ true → is_plain bytes ≡ true
unfolding is_plain
is_plain-true bytes text same utf8 none = rw (is_utf8-from_IsUtf8 bytes utf8, ← same, none) refl

pub is_plain-control : (bytes text : List ℕ) → text ≡ bytes → no_control text ≡ false → is_plain bytes ≡ false
unfolding is_plain
is_plain-control bytes text same some = rw (← same, some) (and_false (is_utf8 text))

not_true : (b : Bool) → (b ≡ true → ⊥) → b ≡ false
not_true true h = absurd (h refl)
not_true false h = refl

pub is_plain-no_text : (text : List ℕ) → (IsUtf8 text → ⊥) → is_plain text ≡ false
unfolding is_plain
is_plain-no_text text h = rw (not_true (is_utf8 text) (λ e. h (IsUtf8-from_is_utf8 text e))) refl

-- space to tilde: a text of these alone is plain
abbrev pub is_printable : List ℕ → Bool
is_printable text = list_all (λ c. leb 32 c && ltb c 127) text

in_range : (c : ℕ) → (leb 32 c && ltb c 127) ≡ true → (c < 128) × ((not (is_control c)) ≡ true)
in_range c e =
    let parts = and_parts (leb 32 c) (ltb c 127) e in
    let low : 32 ≤ c = leb-true _ _ parts.0 in
    let high : c < 127 = ltb-true _ _ parts.1 in
    (omega arith, rw (le-ltb c 32 low, ne_eqb c 127 (λ e. omega arith)) refl)

printable_ascii : (text : List ℕ) → is_printable text ≡ true → (i : ℕ) → get_or text i 0 < 128
printable_ascii [] e i = omega arith
printable_ascii (c ∷ text) e zero = (in_range c (and_parts (leb 32 c && ltb c 127) (is_printable text) e).0).0
printable_ascii (c ∷ text) e (suc i) = printable_ascii text (and_parts (leb 32 c && ltb c 127) (is_printable text) e).1 i

printable_no_control : (text : List ℕ) → is_printable text ≡ true → no_control text ≡ true
printable_no_control [] e = refl
printable_no_control (c ∷ text) e =
    let parts = and_parts (leb 32 c && ltb c 127) (is_printable text) e in
    rw ((in_range c parts.0).1, printable_no_control text parts.1) refl

pub is_plain_printable : (text : List ℕ) → is_printable text ≡ true → is_plain text ≡ true
is_plain_printable text e = is_plain-true text text refl (IsUtf8-from_ascii text (printable_ascii text e)) (printable_no_control text e)

-- a choice that gave a value
pub passed : {X : Type 0} (b : Bool) (d : FieldError) (x : X) (p : Position) (y : X × Position) → cond b (gives x) (fails d) p ≡ Ok y → (b ≡ true) × ((x, p) ≡ y)
passed true d x p y e = (refl, cc)
passed false d x p y e = absurd cc

pub passed_over : {X : Type 0} (b : Bool) (d : FieldError) (x : X) (p : Position) (y : X × Position) → cond b (fails d) (gives x) p ≡ Ok y → (b ≡ false) × ((x, p) ≡ y)
passed_over true d x p y e = absurd cc
passed_over false d x p y e = (refl, cc)

pub text_exact : ReadsExactly text_at text_bytes FitsText
unfolding text_at
text_exact = record {
  back = λ text at rest fits.
      let count = two_bytes_exact.back (length text) at (text ++ rest) fits.short in
      let body = bytes_back at (length text) text (at + length (to_be_bytes w16 (length text))) rest refl in
      let place : at + length (to_be_bytes w16 (length text)) + length text ≡ at + length (text_bytes text) = omega (arith, length-append (to_be_bytes w16 (length text)) text) in
      rw (append_assoc (to_be_bytes w16 (length text)) text rest, count, body, fits.plain, place) refl;
  only = λ text place after all e.
      let a = step_ok (number_at w16 place) (λ n. bytes_of place.at n >>= plain_or_fault place.at) (text, after) e in
      let b = step_ok (bytes_of place.at a.0.0 a.0.1) (plain_or_fault place.at) (text, after) a.2 in
      let count = two_bytes_exact.only a.0.0 place a.0.1 all a.1 in
      let body = bytes_only place.at a.0.0 b.0.0 a.0.1 b.0.1 b.1 in
      let plain = passed (is_plain b.0.0) (errors.BadText place.at) b.0.0 b.0.1 (text, after) b.2 in
      let both = Stands-then place a.0.1 b.0.1 (to_be_bytes w16 a.0.0) b.0.0 count.1 body.1 in
      let whole : Stands place (text_bytes b.0.0) b.0.1 = rw body.0 both in
      subst (λ (r : List ℕ × Position). FitsText r.0 × Stands place (text_bytes r.0) r.1) plain.1
      (record { short = omega (arith, count.0, body.0); plain = plain.0 }, whole);
}

pub record IsShort (text : List ℕ) : Type 0 where
  pub short : length text ≤ 120
  pub plain : IsTrue (is_plain text)

pub short_text_exact : ReadsExactly short_text_at text_bytes IsShort
unfolding short_text_at
short_text_exact = record {
  back = λ text at rest fits.
      let read = text_exact.back text at rest (record { short = omega (arith, fits.short); plain = fits.plain }) in
      let few : ltb 120 (length text) ≡ false = le-ltb _ _ fits.short in
      rw (read, few) refl;
  only = λ text place after all e.
      let a = step_ok (text_at place) (λ t. cond (ltb 120 (length t)) (fails (errors.BadText place.at)) (gives t)) (text, after) e in
      let found = text_exact.only a.0.0 place a.0.1 all a.1 in
      let few = passed_over (ltb 120 (length a.0.0)) (errors.BadText place.at) a.0.0 a.0.1 (text, after) a.2 in
      subst (λ (r : List ℕ × Position). IsShort r.0 × Stands place (text_bytes r.0) r.1) few.1
      (record { short = ltb-false _ _ few.0; plain = found.0.plain }, found.1);
}
