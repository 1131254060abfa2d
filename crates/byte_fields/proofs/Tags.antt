-- What stands behind a tag is read back, and what is read behind a tag stands there.
use Rattle.std.proofs.Common.{◌≡◌, ℕ, ◌+◌, List, [], ◌∷◌, ◌++◌, length, Ok, refl, arith}
use Rattle.std.specs.Int.{w8}
use Rattle.byte_fields.specs.Reading.{Position, Reader, and_then, number_at}
use Rattle.byte_fields.specs.Exactness.{AreBytes, Stands}
use Rattle.byte_fields.proofs.Chains.{step_ok, AreBytes-after, ReadsParts}
use Rattle.byte_fields.proofs.Numbers.{byte_back, byte_only}

pub tag_back : {T Y : Type 0} (choice : ℕ → ℕ → Reader Y) (tag : ℕ) (made : T → Y) (bytes : T → List ℕ) (Fits : T → Type 0) →
    ((place : ℕ) → ReadsParts (choice place tag) made bytes Fits) →
    (t : T) (at : ℕ) (rest : List ℕ) → Fits t →
    and_then (number_at w8 (record { at = at; rest = (tag ∷ bytes t) ++ rest })) (choice at) ≡ Ok (made t, record { at = at + length (tag ∷ bytes t); rest = rest })
tag_back choice tag made bytes Fits arm t at rest fits =
    let one = byte_back tag at (bytes t ++ rest) in
    let two = (arm at).back t (at + 1) rest fits in
    let place : at + 1 + length (bytes t) ≡ at + length (tag ∷ bytes t) = omega arith in
    rw (one, two, place) refl

-- the tag, and where the rest begins
pub record Tagged {Y : Type 0} (choice : ℕ → ℕ → Reader Y) (y : Y) (place after : Position) : Type 0 where
  pub tag : ℕ
  pub body : Position
  pub stands : Stands place (tag ∷ []) body
  pub fits : AreBytes body.rest
  pub gave : choice place.at tag body ≡ Ok (y, after)

pub tag_only : {Y : Type 0} (choice : ℕ → ℕ → Reader Y) (y : Y) (place after : Position) → AreBytes place.rest → and_then (number_at w8 place) (choice place.at) ≡ Ok (y, after) → Tagged choice y place after
tag_only choice y place after all e =
    let a = step_ok (number_at w8 place) (choice place.at) (y, after) e in
    let stands = byte_only a.0.0 place a.0.1 a.1 in
    record { tag = a.0.0; body = a.0.1; stands = stands; fits = AreBytes-after (a.0.0 ∷ []) place a.0.1 all stands; gave = a.2 }
