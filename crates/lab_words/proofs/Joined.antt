-- A name and its value in one word.
use Rattle.std.proofs.Common.{◌≡◌, ◌||◌, ◌+◌, ◌++◌, ℕ, Bool, true, false, if◌then◌else◌, List, [], ◌∷◌, length, take, drop, Option, Some, None, refl, ap, sym, ◌∙◌, arith}
use Rattle.std.proofs.Math.Seq.{take-append_seam, drop-append_seam}
use Rattle.std.proofs.lemmas.List.{drop-drop}
use Rattle.std.specs.List.{position_or_len}
use Rattle.lab_words.specs.Grammar.{Spelling, before, has_equals, is_equals, name_in, spelt, value_in}

or_true : (a b : Bool) → b ≡ true → (a || b) ≡ true
or_true true b e = refl
or_true false b e = e

neither : (a b : Bool) → (a || b) ≡ false → (a ≡ false) × (b ≡ false)
neither true b e = absurd (let no : true ≡ false = e in cc)
neither false b e = (refl, e)

has_one : (name value : List ℕ) → has_equals (name ++ 61 ∷ value) ≡ true
has_one [] value = refl
has_one (c ∷ cs) value = or_true (is_equals c) (has_equals (cs ++ 61 ∷ value)) (has_one cs value)

place : (name value : List ℕ) → has_equals name ≡ false → position_or_len is_equals (name ++ 61 ∷ value) ≡ length name
place [] value e = refl
place (c ∷ cs) value e =
    let parts = neither (is_equals c) (has_equals cs) e in
    let more = place cs value parts.1 in
    rw parts.0 (omega (arith, more))

name_is : (name value : List ℕ) → has_equals name ≡ false → name_in (name ++ 61 ∷ value) ≡ name
name_is name value e = ap (λ n. take n (name ++ 61 ∷ value)) (place name value e) ∙ take-append_seam name (61 ∷ value)

value_is : (name value : List ℕ) → has_equals name ≡ false → value_in (name ++ 61 ∷ value) ≡ value
value_is name value e =
    ap (λ n. drop (n + 1) (name ++ 61 ∷ value)) (place name value e)
    ∙ sym (drop-drop 1 (length name) (name ++ 61 ∷ value)) ∙ ap (drop 1) (drop-append_seam name (61 ∷ value))

one_word : (b : Bool) (n v name value : List ℕ) (others held : Option (List Spelling)) → b ≡ true → n ≡ name → v ≡ value
    → (if b then before (n, v) others else held) ≡ before (name, value) others
one_word true n v name value others held e p q = ap (λ k. before (k, v) others) p ∙ ap (λ k. before (name, k) others) q
one_word false n v name value others held e p q = absurd (let no : false ≡ true = e in cc)

two_words : (b : Bool) (first later : Option (List Spelling)) → b ≡ false → (if b then first else later) ≡ later
two_words true first later e = absurd (let no : true ≡ false = e in cc)
two_words false first later e = refl

pub spelt_alike : (name value : List ℕ) (words : List (List ℕ)) → has_equals name ≡ false → spelt ((name ++ 61 ∷ value) ∷ words) None ≡ spelt (name ∷ value ∷ words) None
spelt_alike name value words e =
    one_word (has_equals (name ++ 61 ∷ value)) (name_in (name ++ 61 ∷ value)) (value_in (name ++ 61 ∷ value)) name value (spelt words None) (spelt words (Some (name ++ 61 ∷ value)))
    (has_one name value) (name_is name value e) (value_is name value e)
    ∙ sym (two_words (has_equals name) (before (name_in name, value_in name) (spelt (value ∷ words) None)) (before (name, value) (spelt words None)) e)
