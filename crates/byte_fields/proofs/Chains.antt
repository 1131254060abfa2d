-- Readers one after the other, and the value that is made of what they read.
use Rattle.std.proofs.Common.{◌≡◌, ℕ, ◌+◌, ◌<◌, get_or, List, [], ◌++◌, length, Result, Ok, Err, refl, sym, ap, subst, ◌∙◌, append_assoc, arith}
use Rattle.std.proofs.lemmas.List.{length-append, get_or-append-add}
use Rattle.byte_fields.specs.declared.errors.FieldError.{FieldError}
use Rattle.byte_fields.specs.Reading.{Position, Reader, Read, and_then, gives}
use Rattle.byte_fields.specs.Exactness.{AreBytes, Stands, ReadsExactly}

-- the reader gives what is made of parts that fit, and the bytes of the parts stand there
pub record ReadsParts {T Y : Type 0} (reader : Reader Y) (made : T → Y) (bytes : T → List ℕ) (Fits : T → Type 0) : Type 0 where
  pub back : (t : T) (at : ℕ) (rest : List ℕ) → Fits t → reader (record { at = at; rest = bytes t ++ rest }) ≡ Ok (made t, record { at = at + length (bytes t); rest = rest })
  pub only : (y : Y) (place after : Position) → AreBytes place.rest → reader place ≡ Ok (y, after) → (t : T) × (y ≡ made t) × Fits t × Stands place (bytes t) after

-- the value of a step that did not fail
pub step_ok : {X Y : Type 0} (read : Read X) (next : X → Reader Y) (y : Y × Position) → and_then read next ≡ Ok y → (x : X × Position) × (read ≡ Ok x) × (next x.0 x.1 ≡ Ok y)
step_ok (Ok x) next y e = (x, refl, e)
step_ok (Err d) next y e = absurd cc

abbrev done : {X : Type 0} → X → Result X FieldError
done x = Ok x

pub ok_is : {X : Type 0} (x y : X) → done x ≡ done y → x ≡ y
ok_is x y e = cc

pub Stands-then : (a b c : Position) (x y : List ℕ) → Stands a x b → Stands b y c → Stands a (x ++ y) c
Stands-then a b c x y p q = record {
  rest = p.rest ∙ ap (λ (t : List ℕ). x ++ t) q.rest ∙ sym (append_assoc x y c.rest);
  at = omega (arith, p.at, q.at, length-append x y);
}

pub AreBytes-after : (bytes : List ℕ) (place after : Position) → AreBytes place.rest → Stands place bytes after → AreBytes after.rest
AreBytes-after bytes place after all s = λ k d lt.
    let within : length bytes + k < length place.rest = omega (arith, ap length s.rest, length-append bytes after.rest) in
    let at_k : get_or place.rest (length bytes + k) d ≡ get_or after.rest k d = ap (λ (t : List ℕ). get_or t (length bytes + k) d) s.rest ∙ get_or-append-add bytes after.rest k d in
    rw (← at_k) (all (length bytes + k) d within)

-- one reader more in front
pub part : {X T Y : Type 0} {reader : Reader X} {next : X → Reader Y} {bytes : X → List ℕ} {Fits : X → Type 0} {made : X × T → Y} {more : T → List ℕ} {FitsMore : T → Type 0} →
    ReadsExactly reader bytes Fits → ((x : X) → ReadsParts (next x) (λ t. made (x, t)) more FitsMore) →
    ReadsParts (λ p. and_then (reader p) next) made (λ t. bytes t.0 ++ more t.1) (λ t. Fits t.0 × FitsMore t.1)
part {X = X} {T = T} {Y = Y} {reader = reader} {next = next} {bytes = bytes} {Fits = Fits} {made = made} {more = more} {FitsMore = FitsMore} first others = record {
  back = λ t at rest fits.
      let one : reader (record { at = at; rest = bytes t.0 ++ (more t.1 ++ rest) }) ≡ Ok (t.0, record { at = at + length (bytes t.0); rest = more t.1 ++ rest }) = first.back t.0 at (more t.1 ++ rest) fits.0 in
      let two = (others t.0).back t.1 (at + length (bytes t.0)) rest fits.1 in
      let place : at + length (bytes t.0) + length (more t.1) ≡ at + length (bytes t.0 ++ more t.1) = omega (arith, length-append (bytes t.0) (more t.1)) in
      rw (append_assoc (bytes t.0) (more t.1) rest, one, two, place) refl;
  only = λ y place after all e.
      let a = step_ok (reader place) next (y, after) e in
      let one = first.only a.0.0 place a.0.1 all a.1 in
      let two = (others a.0.0).only y a.0.1 after (AreBytes-after (bytes a.0.0) place a.0.1 all one.1) a.2 in
      ((a.0.0, two.0), two.1, (one.0, two.2), Stands-then place a.0.1 after (bytes a.0.0) (more two.0) one.1 two.3);
}

-- the last reader
pub last_part : {X Y : Type 0} {reader : Reader X} {bytes : X → List ℕ} {Fits : X → Type 0} (made : X → Y) →
    ReadsExactly reader bytes Fits → ReadsParts (λ p. and_then (reader p) (λ x. gives (made x))) made bytes Fits
last_part {X = X} {Y = Y} {reader = reader} {bytes = bytes} {Fits = Fits} made first = record {
  back = λ t at rest fits. rw (first.back t at rest fits) refl;
  only = λ y place after all e.
      let a = step_ok (reader place) (λ x. gives (made x)) (y, after) e in
      let one = first.only a.0.0 place a.0.1 all a.1 in
      let same = ok_is (made a.0.0, a.0.1) (y, after) a.2 in
      (a.0.0, ap (λ (r : Y × Position). r.0) (sym same), one.0, subst (λ (q : Position). Stands place (bytes a.0.0) q) (ap (λ (r : Y × Position). r.1) same) one.1);
}

-- a value of no parts
pub no_part : {Y : Type 0} (y : Y) → ReadsParts (gives y) (λ (u : Unit {0}). y) (λ u. []) (λ u. Unit {0})
no_part {Y = Y} y = record {
  back = λ u at rest fits. ap (λ (n : ℕ). Ok (y, record { at = n; rest = rest })) (omega arith);
  only = λ z place after all e.
      let same = ok_is (y, place) (z, after) e in
      subst (λ (r : Y × Position). Unit {0} × (r.0 ≡ y) × Unit {0} × Stands place [] r.1) same (tt, refl, tt, record { rest = refl; at = omega arith });
}

-- a value that comes apart into its parts
pub whole : {T Y : Type 0} {reader : Reader Y} {made : T → Y} {bytes : T → List ℕ} {FitsParts : T → Type 0} (layout : Y → List ℕ) (Fits : Y → Type 0) (parts : Y → T) →
    ReadsParts reader made bytes FitsParts →
    ((y : Y) → made (parts y) ≡ y) → ((y : Y) → layout y ≡ bytes (parts y)) → ((t : T) → layout (made t) ≡ bytes t) →
    ((y : Y) → Fits y → FitsParts (parts y)) → ((t : T) → FitsParts t → Fits (made t)) → ReadsExactly reader layout Fits
whole {T = T} {Y = Y} {reader = reader} {made = made} {bytes = bytes} {FitsParts = FitsParts} layout Fits parts law again laid laid_made fits_parts fits_made = record {
  back = λ y at rest fits.
      let read = law.back (parts y) at rest (fits_parts y fits) in
      rw (laid y, read, again y) refl;
  only = λ y place after all e.
      let found = law.only y place after all e in
      let made_so : y ≡ made found.0 = found.1 in
      subst (λ (z : Y). Fits z × Stands place (layout z) after) (sym made_so) (fits_made found.0 found.2, rw (laid_made found.0) found.3);
}
