-- What stands behind a tag or a code of a table is read back, and what is read by a table stands there.
use Rattle.std.proofs.Common.{◌≡◌, ℕ, ◌+◌, Bool, true, false, cond, eqb, Option, Some, List, [], ◌∷◌, ◌++◌, length, Ok, refl, sym, ap, subst, ◌∙◌, arith}
use Rattle.std.specs.Int.{w8}
use Rattle.std.proofs.lemmas.Bool.{eqb-true}
use Rattle.byte_fields.specs.Reading.{Position, Reader, gives, number_at}
use Rattle.byte_fields.specs.Exactness.{AreBytes, Stands, ReadsExactly}
use Rattle.byte_fields.proofs.Chains.{step_ok, ok_is, Stands-then, AreBytes-after, ReadsParts}
use Rattle.byte_fields.proofs.Numbers.{byte_back, byte_only}
use Rattle.byte_fields.specs.Tags.{look_up, chosen, tagged, coded}
use Rattle.byte_fields.proofs.StatusCodes.{by_code}

-- what the reader of an entry gives has the entry's tag, fits and stands there
abbrev pub IsSound : {X : Type 0} → (X → ℕ) → (X → List ℕ) → (X → Type 0) → ℕ → Reader X → Type 0
IsSound {X} tag bytes Fits n reader = (x : X) (place after : Position) → AreBytes place.rest → reader place ≡ Ok (x, after) → Fits x × (tag x ≡ n) × Stands place (bytes x) after

abbrev pub AreSound : {X : Type 0} → (X → ℕ) → (X → List ℕ) → (X → Type 0) → List (ℕ × Reader X) → Type 0
AreSound tag bytes Fits [] = Unit {0}
AreSound tag bytes Fits (entry ∷ table) = IsSound tag bytes Fits entry.0 entry.1 × AreSound tag bytes Fits table

pub sound : {X T : Type 0} (tag : X → ℕ) (bytes : X → List ℕ) (Fits : X → Type 0) (n : ℕ) {reader : Reader X} {made : T → X} {parts : T → List ℕ} {FitsParts : T → Type 0} →
    ReadsParts reader made parts FitsParts → ((t : T) → FitsParts t → Fits (made t)) → ((t : T) → tag (made t) ≡ n) → ((t : T) → bytes (made t) ≡ parts t) → IsSound tag bytes Fits n reader
sound {X = X} tag bytes Fits n {made = made} {parts = parts} law fits tagged_so laid =
    λ x place after all e.
    let found = law.only x place after all e in
    let so : Fits (made found.0) × (tag (made found.0) ≡ n) × Stands place (bytes (made found.0)) after = (fits found.0 found.2, tagged_so found.0, rw (laid found.0) found.3) in
    subst (λ (y : X). Fits y × (tag y ≡ n) × Stands place (bytes y) after) (sym found.1) so

table_step : {X : Type 0} (tag : X → ℕ) (bytes : X → List ℕ) (Fits : X → Type 0) (n m place : ℕ) (reader : Reader X) (others : Option (Reader X)) (b : Bool) → eqb n m ≡ b →
    IsSound tag bytes Fits m reader → IsSound tag bytes Fits n (chosen place others) → IsSound tag bytes Fits n (chosen place (cond b (Some reader) others))
table_step tag bytes Fits n m place reader others true same here there = λ x from after all e.
    let found = here x from after all e in
    (found.0, found.1 ∙ sym (eqb-true n m same), found.2)
table_step tag bytes Fits n m place reader others false same here there = there

pub table_sound : {X : Type 0} (tag : X → ℕ) (bytes : X → List ℕ) (Fits : X → Type 0) (table : List (ℕ × Reader X)) → AreSound tag bytes Fits table →
    (n place : ℕ) → IsSound tag bytes Fits n (chosen place (look_up n table))
table_sound tag bytes Fits [] all n place = λ x from after fits e. absurd cc
table_sound tag bytes Fits (entry ∷ table) all n place =
    table_step tag bytes Fits n entry.0 place entry.1 (look_up n table) (eqb n entry.0) refl all.0 (table_sound tag bytes Fits table all.1 n place)

-- a table reads what fits back: it has a reader for its tag, which does
abbrev pub IsComplete : {X : Type 0} → (X → ℕ) → (X → List ℕ) → (X → Type 0) → List (ℕ × Reader X) → Type 0
IsComplete {X} tag bytes Fits table = (x : X) → Fits x →
    (reader : Reader X) × (look_up (tag x) table ≡ Some reader) × ((at : ℕ) (rest : List ℕ) → reader (record { at = at; rest = bytes x ++ rest }) ≡ Ok (x, record { at = at + length (bytes x); rest = rest }))

pub tagged_exact : {X : Type 0} (tag : X → ℕ) (bytes : X → List ℕ) (Fits : X → Type 0) (table : List (ℕ × Reader X)) →
    IsComplete tag bytes Fits table → AreSound tag bytes Fits table → ReadsExactly (tagged table) (λ x. tag x ∷ bytes x) Fits
unfolding tagged
tagged_exact {X = X} tag bytes Fits table complete all = record {
  back = λ x at rest fits.
      let one = byte_back (tag x) at (bytes x ++ rest) in
      let entry = complete x fits in
      let two = entry.2 (at + 1) rest in
      let place : at + 1 + length (bytes x) ≡ at + length (tag x ∷ bytes x) = omega arith in
      rw (one, entry.1, two, place) refl;
  only = λ x place after fits e.
      let a = step_ok (number_at w8 place) (λ n. chosen place.at (look_up n table)) (x, after) e in
      let stands = byte_only a.0.0 place a.0.1 a.1 in
      let found = table_sound tag bytes Fits table all a.0.0 place.at x a.0.1 after (AreBytes-after (a.0.0 ∷ []) place a.0.1 fits stands) a.2 in
      let both = Stands-then place a.0.1 after (a.0.0 ∷ []) (bytes x) stands found.2 in
      (found.0, rw found.1 both);
}

-- a code without anything behind it
alone_sound : {X : Type 0} (code : X → ℕ) (y : X) → IsSound code (λ x. []) (λ x. Unit {0}) (code y) (gives y)
alone_sound {X = X} code y = λ x place after all e.
    let same = ok_is (y, place) (x, after) e in
    subst (λ (r : X × Position). Unit {0} × (code r.0 ≡ code y) × Stands place [] r.1) same (tt, refl, record { rest = refl; at = omega arith })

codes_sound : {X : Type 0} (code : X → ℕ) (all : List X) → AreSound code (λ x. []) (λ x. Unit {0}) (by_code code all)
codes_sound code [] = tt
codes_sound code (x ∷ all) = (alone_sound code x, codes_sound code all)

pub coded_exact : {X : Type 0} (code : X → ℕ) (all : List X) → ((x : X) → look_up (code x) (by_code code all) ≡ Some (gives x)) → ReadsExactly (coded code all) (λ x. code x ∷ []) (λ x. Unit {0})
coded_exact {X = X} code all found =
    tagged_exact code (λ x. []) (λ x. Unit {0}) (by_code code all)
    (λ x fits. (gives x, found x, λ at rest. ap (λ (n : ℕ). Ok (x, record { at = n; rest = rest })) (omega arith)))
    (codes_sound code all)
