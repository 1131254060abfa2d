-- Fields whose first byte says what follows it.
use Rattle.std.specs.Prelude.{ℕ, Option, Some, None, List, [], ◌∷◌, map, ◌==◌, if◌then◌else◌}
use Rattle.std.specs.Int.{w8}
use Rattle.byte_fields.specs.declared.errors.FieldError.TheVariants as errors
use Rattle.byte_fields.specs.Reading.{Reader, and_then, gives, fails, number_at}

-- what a table has for a code
abbrev pub look_up : {X : Type 0} → ℕ → List (ℕ × X) → Option X
look_up code [] = None
look_up code (entry ∷ table) = if code == entry.0 then Some entry.1 else look_up code table

-- the reader that a table has for a tag; where it has none, a bad tag at this place
abbrev pub chosen : {X : Type 0} → ℕ → Option (Reader X) → Reader X
chosen place (Some reader) = reader
chosen place None = fails (errors.BadTag place)

-- a byte, and what the table has behind it
unfoldable pub tagged : {X : Type 0} → List (ℕ × Reader X) → Reader X
tagged table start = and_then (number_at w8 start) (λ tag. chosen start.at (look_up tag table))

-- a byte that is the code of one of these
abbrev pub coded : {X : Type 0} → (X → ℕ) → List X → Reader X
coded code all = tagged (map (λ x. (code x, gives x)) all)
