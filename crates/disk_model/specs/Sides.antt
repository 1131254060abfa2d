-- How `SavedBytes` keeps its bytes.
use Rattle.std.specs.Prelude.{ℕ, ◌+◌, ◌≤◌, List}
use Rattle.disk_model.specs.Disk.{put}

-- the bytes of a disk, as they are stable and as they are present
pub record Sides : Type 0 where
  pub stable : List ℕ
  pub present : List ℕ

-- These are saved from a place on. All other stable bytes are as the present ones.
abbrev pub sides_of : ℕ → List ℕ → List ℕ → Sides
sides_of from saved present = record { stable = put from saved present; present = present }

-- what holds of its room
pub record IsSaved (from count size capacity : ℕ) : Type 0 where
  pub inside : from + count ≤ size
  pub room : size ≤ capacity
