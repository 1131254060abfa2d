-- The text that records keep.
use Rattle.std.specs.Prelude.{◌≡◌, ◌-◌, ℕ, Bool, true, false, List, [], ◌∷◌, length, slice_get, Option, Some, None}
use Rattle.base_records.specs.Pieces.{IsWhole, joined}

-- it is the records one after the other, where the last one is an empty one, and else there is none
abbrev pub IsKeptIn : List (List ℕ) → Option (List ℕ) → Type 0
IsKeptIn records None = IsWhole records → ⊥
IsKeptIn records (Some text) = IsWhole records × (text ≡ joined records)

-- ---- for the proofs alone

-- a last record that is an empty one
abbrev pub is_end : Option (List ℕ) → Bool
is_end None = false
is_end (Some []) = true
is_end (Some (c ∷ cs)) = false

-- that of these records is
abbrev pub is_whole : List (List ℕ) → Bool
is_whole records = is_end (slice_get records (length records - 1))
