-- What bytes keep while a field is appended.
use Rattle.std.specs.Prelude.{◌≡◌, ℕ, List, length, take}

-- the old bytes stand at the front
pub record Keeps (old new : List ℕ) : Type 0 where
  pub front : take (length old) new ≡ old
