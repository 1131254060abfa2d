-- What stands behind a tag of a table in one of several layouts is read back, and what is read by a table stands there in one.
use Rattle.std.proofs.Common.{◌≡◌, ℕ, ◌+◌, Bool, true, false, cond, eqb, Option, Some, None, List, [], ◌∷◌, ◌++◌, length, Ok, Err, refl, sym, ap, subst, ◌∙◌, arith}
use Rattle.std.specs.Int.{w8}
use Rattle.std.proofs.lemmas.Bool.{eqb-true, ne_eqb}
use Rattle.std.proofs.lemmas.Bool.Decides.{nat_tests}
use Rattle.std.proofs.lemmas.List.{append-nil, length-append, nil_from_length}
use Rattle.byte_fields.specs.declared.errors.FieldError.{FieldError}
use Rattle.byte_fields.specs.Reading.{Position, Reader, Read, number_at}
use Rattle.byte_fields.specs.Exactness.{AreBytes, Stands}
use Rattle.byte_fields.proofs.Chains.{step_ok, Stands-then, AreBytes-after, ReadsParts}
use Rattle.byte_fields.proofs.Numbers.{byte_back, byte_only}
use Rattle.byte_fields.specs.Tags.{look_up, chosen, tagged}
use Rattle.byte_fields.specs.Entire.{ReadsLayouts, at_end, entire, IsOfLayouts}

-- what the reader of an entry gives has the entry's tag in some layout, fits it and stands there
abbrev pub IsLaid : {X H : Type 0} → (H → X → ℕ) → (H → X → List ℕ) → (H → X → Type 0) → ℕ → Reader X → Type 0
IsLaid {X} {H} tag bytes Fits n reader = (x : X) (place after : Position) → AreBytes place.rest → reader place ≡ Ok (x, after) →
    (how : H) × Fits how x × (tag how x ≡ n) × Stands place (bytes how x) after

abbrev pub AreLaid : {X H : Type 0} → (H → X → ℕ) → (H → X → List ℕ) → (H → X → Type 0) → List (ℕ × Reader X) → Type 0
AreLaid tag bytes Fits [] = Unit {0}
AreLaid tag bytes Fits (entry ∷ table) = IsLaid tag bytes Fits entry.0 entry.1 × AreLaid tag bytes Fits table

pub laid : {X H T : Type 0} (tag : H → X → ℕ) (bytes : H → X → List ℕ) (Fits : H → X → Type 0) (how : H) (n : ℕ) {reader : Reader X} {made : T → X} {parts : T → List ℕ} {FitsParts : T → Type 0} →
    ReadsParts reader made parts FitsParts → ((t : T) → FitsParts t → Fits how (made t)) → ((t : T) → tag how (made t) ≡ n) → ((t : T) → bytes how (made t) ≡ parts t) → IsLaid tag bytes Fits n reader
laid {X = X} {H = H} tag bytes Fits how n {made = made} {parts = parts} law fits tagged_so laid_out =
    λ x place after all e.
    let found = law.only x place after all e in
    let so : (h : H) × Fits h (made found.0) × (tag h (made found.0) ≡ n) × Stands place (bytes h (made found.0)) after =
    (how, fits found.0 found.2, tagged_so found.0, rw (laid_out found.0) found.3) in
    subst (λ (y : X). (h : H) × Fits h y × (tag h y ≡ n) × Stands place (bytes h y) after) (sym found.1) so

table_step : {X H : Type 0} (tag : H → X → ℕ) (bytes : H → X → List ℕ) (Fits : H → X → Type 0) (n m place : ℕ) (reader : Reader X) (others : Option (Reader X)) (b : Bool) → eqb n m ≡ b →
    IsLaid tag bytes Fits m reader → IsLaid tag bytes Fits n (chosen place others) → IsLaid tag bytes Fits n (chosen place (cond b (Some reader) others))
table_step tag bytes Fits n m place reader others true same here there = λ x from after all e.
    let found = here x from after all e in
    (found.0, found.1, found.2 ∙ sym (eqb-true n m same), found.3)
table_step tag bytes Fits n m place reader others false same here there = there

pub table_laid : {X H : Type 0} (tag : H → X → ℕ) (bytes : H → X → List ℕ) (Fits : H → X → Type 0) (table : List (ℕ × Reader X)) → AreLaid tag bytes Fits table →
    (n place : ℕ) → IsLaid tag bytes Fits n (chosen place (look_up n table))
table_laid tag bytes Fits [] all n place = λ x from after fits e. absurd cc
table_laid tag bytes Fits (entry ∷ table) all n place =
    table_step tag bytes Fits n entry.0 place entry.1 (look_up n table) (eqb n entry.0) refl all.0 (table_laid tag bytes Fits table all.1 n place)

-- a table reads back what fits a layout
abbrev pub HasEach : {X H : Type 0} → (H → X → ℕ) → (H → X → List ℕ) → (H → X → Type 0) → List (ℕ × Reader X) → Type 0
HasEach {X} {H} tag bytes Fits table = (how : H) (x : X) → Fits how x →
    (reader : Reader X) × (look_up (tag how x) table ≡ Some reader) ×
    ((at : ℕ) (rest : List ℕ) → reader (record { at = at; rest = bytes how x ++ rest }) ≡ Ok (x, record { at = at + length (bytes how x); rest = rest }))

pub tagged_layouts : {X H : Type 0} (tag : H → X → ℕ) (bytes : H → X → List ℕ) (Fits : H → X → Type 0) (table : List (ℕ × Reader X)) →
    HasEach tag bytes Fits table → AreLaid tag bytes Fits table → ReadsLayouts (tagged table) (λ how x. tag how x ∷ bytes how x) Fits
unfolding tagged
tagged_layouts {X = X} {H = H} tag bytes Fits table complete all = record {
  back = λ how x at rest fits.
      let one = byte_back (tag how x) at (bytes how x ++ rest) in
      let entry = complete how x fits in
      let two = entry.2 (at + 1) rest in
      let place : at + 1 + length (bytes how x) ≡ at + length (tag how x ∷ bytes how x) = omega arith in
      rw (one, entry.1, two, place) refl;
  only = λ x place after fits e.
      let a = step_ok (number_at w8 place) (λ n. chosen place.at (look_up n table)) (x, after) e in
      let stands = byte_only a.0.0 place a.0.1 a.1 in
      let found = table_laid tag bytes Fits table all a.0.0 place.at x a.0.1 after (AreBytes-after (a.0.0 ∷ []) place a.0.1 fits stands) a.2 in
      let both = Stands-then place a.0.1 after (a.0.0 ∷ []) (bytes found.0 x) stands found.3 in
      (found.0, found.1, rw found.2 both);
}

-- ---- the whole of the bytes

ends : {X : Type 0} (found : X) (at size : ℕ) (x : X) (b : Bool) → eqb at size ≡ b → cond b (Some found) None ≡ Some x → (found ≡ x) × (at ≡ size)
ends found at size x true same e = (cc, eqb-true at size same)
ends found at size x false same e = absurd cc

abbrev done : {X : Type 0} → X → Position → Read X
done x after = Ok (x, after)

at_end-some : {X : Type 0} (size : ℕ) (read : Read X) (x : X) → at_end size read ≡ Some x → (after : Position) × (read ≡ Ok (x, after)) × (after.at ≡ size)
at_end-some {X = X} size (Ok found) x e =
    let here = ends found.0 found.1.at size x (eqb found.1.at size) refl e in
    (found.1, ap (λ (y : X). done y found.1) here.0, here.1)
at_end-some size (Err fault) x e = absurd cc

ends_there : (n : ℕ) → eqb (0 + n) n ≡ true
ends_there n = grind (arith, nat_tests)

pub entire_layouts : {X H : Type 0} (reader : Reader X) (bytes : H → X → List ℕ) (Fits : H → X → Type 0) → ReadsLayouts reader bytes Fits → IsOfLayouts (λ all. entire reader all) bytes Fits
entire_layouts {X = X} {H = H} reader bytes Fits law = record {
  back = λ how x fits.
      let one : reader (record { at = 0; rest = bytes how x ++ [] }) ≡ Ok (x, record { at = 0 + length (bytes how x); rest = [] }) = law.back how x 0 [] fits in
      let two : reader (record { at = 0; rest = bytes how x }) ≡ Ok (x, record { at = 0 + length (bytes how x); rest = [] }) = rw (append-nil (bytes how x)) at one in
      rw (two, ends_there (length (bytes how x))) refl;
  only = λ all x are e.
      let found = at_end-some (length all) (reader (record { at = 0; rest = all })) x e in
      let read = law.only x (record { at = 0; rest = all }) found.0 are found.1 in
      let bytes_are : all ≡ bytes read.0 x ++ found.0.rest = read.2.rest in
      let none_left : length found.0.rest ≡ 0 = omega (arith, read.2.at, found.2, ap length bytes_are, length-append (bytes read.0 x) found.0.rest) in
      let nil : found.0.rest ≡ [] = nil_from_length found.0.rest none_left in
      (read.0, read.1, bytes_are ∙ ap (λ (r : List ℕ). bytes read.0 x ++ r) nil ∙ append-nil (bytes read.0 x));
}

-- ---- what was read, and where it ended

pub entire_some : {X : Type 0} (reader : Reader X) (bytes : List ℕ) (start : Position) (x : X) (after : Position) → start ≡ record { at = 0; rest = bytes } → reader start ≡ Ok (x, after) → after.at ≡ length bytes → entire reader bytes ≡ Some x
entire_some reader bytes start x after is read ends_so =
    let here : reader (record { at = 0; rest = bytes }) ≡ Ok (x, after) = rw is at read in
    let last : eqb after.at (length bytes) ≡ true = grind (arith, nat_tests, ends_so) in
    rw (here, last) refl

pub entire_longer : {X : Type 0} (reader : Reader X) (bytes : List ℕ) (start : Position) (x : X) (after : Position) → start ≡ record { at = 0; rest = bytes } → reader start ≡ Ok (x, after) → (after.at ≡ length bytes → ⊥) → entire reader bytes ≡ None
entire_longer reader bytes start x after is read other =
    let here : reader (record { at = 0; rest = bytes }) ≡ Ok (x, after) = rw is at read in
    let more : eqb after.at (length bytes) ≡ false = ne_eqb after.at (length bytes) other in
    rw (here, more) refl

pub entire_none : {X : Type 0} (reader : Reader X) (bytes : List ℕ) (start : Position) (fault : FieldError) → start ≡ record { at = 0; rest = bytes } → reader start ≡ Err fault → entire reader bytes ≡ None
entire_none reader bytes start fault is read =
    let here : reader (record { at = 0; rest = bytes }) ≡ Err fault = rw is at read in
    rw here refl
