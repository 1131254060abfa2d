-- How `LazyRow` keeps its values.
use Rattle.std.specs.Prelude.{ℕ, ◌-◌, ◌≤◌, List, ◌++◌, length, replicate}

-- these values, and blank ones up to so many
abbrev pub padded : {T : Type 0} → ℕ → T → List T → List T
padded size blank there = there ++ replicate (size - length there) blank

-- what holds of its room
pub record IsReserved (size count capacity : ℕ) : Type 0 where
  pub fits : count ≤ size
  pub room : size ≤ capacity
