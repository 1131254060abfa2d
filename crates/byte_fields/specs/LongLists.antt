-- Lists of items in rising order. A long list has a count of four bytes.
use Rattle.std.specs.Prelude.{ℕ, ◌<◌, ◌^◌, Bool, All, Option, None, List, ◌++◌, length, if◌then◌else◌}
use Rattle.std.specs.List.{flat_map}
use Rattle.std.specs.Int.{w32, to_be_bytes}
use Rattle.byte_fields.specs.declared.errors.FieldError.TheVariants as errors
use Rattle.byte_fields.specs.Layout.{may_come, IsInOrder}
use Rattle.byte_fields.specs.Reading.{Reader, ◌>>=◌, and_then, gives, fails, number_at, items_at}

-- an item that may come after the one before it, and else is refused at its place
unfoldable pub next_item : {X : Type 0} → (X → X → Bool) → Reader X → Option X → Reader X
next_item follows item last start = and_then (item start) (λ x.
    if may_come follows last x then gives x else fails (errors.BadTag start.at))

-- a count of four bytes, and the items
abbrev pub long_list_bytes : {X : Type 0} → (X → List ℕ) → List X → List ℕ
long_list_bytes item xs = to_be_bytes w32 (length xs) ++ flat_map item xs

-- items that fit, each of which may come after the one before it, no more than four bytes can count
pub record FitsLongList {X : Type 0} (follows : X → X → Bool) (Fits : X → Type 0) (xs : List X) : Type 0 where
  pub count : length xs < 2 ^ 32
  pub each : All Fits xs
  pub order : IsInOrder follows None xs

-- a count of four bytes, and as many items, of which each is read with the one before it in sight
unfoldable pub long_list_at : {X : Type 0} → (Option X → Reader X) → Reader (List X)
long_list_at item = do
  n ← number_at w32
  items_at item None n
