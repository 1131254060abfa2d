-- Values that stand in bytes in several layouts, and bytes that are one value and nothing else.
use Rattle.std.specs.Prelude.{◌≡◌, ℕ, ◌+◌, ◌==◌, if◌then◌else◌, List, ◌++◌, length, Option, Some, None, Ok, Err}
use Rattle.byte_fields.specs.Reading.{Position, Reader, Read}
use Rattle.byte_fields.specs.Exactness.{AreBytes, Stands}

-- for the proofs alone: a reader reads these layouts, and nothing else
pub record ReadsLayouts {X H : Type 0} (reader : Reader X) (bytes : H → X → List ℕ) (Fits : H → X → Type 0) : Type 0 where
  -- what fits a layout is read back, whatever follows it
  pub back : (how : H) (x : X) (at : ℕ) (rest : List ℕ) → Fits how x →
      reader (record { at = at; rest = bytes how x ++ rest }) ≡ Ok (x, record { at = at + length (bytes how x); rest = rest })
  -- what is read fits a layout, and stands there in it
  pub only : (x : X) (place after : Position) → AreBytes place.rest → reader place ≡ Ok (x, after) →
      (how : H) × Fits how x × Stands place (bytes how x) after

-- the value that was read, if it ends at this place
abbrev pub at_end : {X : Type 0} → ℕ → Read X → Option X
at_end size (Ok found) = if found.1.at == size then Some found.0 else None
at_end size (Err fault) = None

-- the value that the bytes are: it is read, and ends where they do
abbrev pub entire : {X : Type 0} → Reader X → List ℕ → Option X
entire reader bytes = at_end (length bytes) (reader (record { at = 0; rest = bytes }))

-- the bytes that are a value are those of a layout that it fits, and all such bytes are one
pub record IsOfLayouts {X H : Type 0} (found : List ℕ → Option X) (bytes : H → X → List ℕ) (Fits : H → X → Type 0) : Type 0 where
  pub back : (how : H) (x : X) → Fits how x → found (bytes how x) ≡ Some x
  pub only : (all : List ℕ) (x : X) → AreBytes all → found all ≡ Some x → (how : H) × Fits how x × (all ≡ bytes how x)
