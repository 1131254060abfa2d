-- When a reader reads a layout, and nothing else.
use Rattle.std.specs.Prelude.{◌≡◌, ℕ, ◌+◌, ◌<◌, All, List, ◌++◌, length, Ok}
use Rattle.byte_fields.specs.Reading.{Position, Reader}

-- numbers that are bytes
abbrev pub AreBytes : List ℕ → Type 0
AreBytes bytes = All (λ b. b < 256) bytes

-- these bytes stand at a place, and end at the other
pub record Stands (place : Position) (bytes : List ℕ) (after : Position) : Type 0 where
  pub rest : place.rest ≡ bytes ++ after.rest
  pub at : after.at ≡ place.at + length bytes

-- a reader reads this layout, and nothing else
pub record ReadsExactly {X : Type 0} (reader : Reader X) (bytes : X → List ℕ) (Fits : X → Type 0) : Type 0 where
  -- what fits is read back, whatever follows it
  pub back : (x : X) (at : ℕ) (rest : List ℕ) → Fits x →
      reader (record { at = at; rest = bytes x ++ rest }) ≡ Ok (x, record { at = at + length (bytes x); rest = rest })
  -- what is read fits, and stands there
  pub only : (x : X) (place after : Position) → AreBytes place.rest → reader place ≡ Ok (x, after) →
      Fits x × Stands place (bytes x) after
