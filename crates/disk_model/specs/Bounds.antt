-- How `PendingBytes` keeps what is pending: as one range, or by marks within it.
use Rattle.std.specs.Prelude.{◌≡◌, ℕ, ◌-◌, ◌≤◌, Bool, true, false, List, length, replicate}
use Rattle.disk_model.specs.Disk.{put}
use Rattle.disk_model.specs.Memory.{MarksWithin}

-- the marks, with all from low to below high set where that is pending as a whole
abbrev pub marks_with : Bool → ℕ → ℕ → List Bool → List Bool
marks_with true low high marks = put low (replicate (high - low) true) marks
marks_with false low high marks = marks

-- what holds of the bounds and the marks that it keeps
pub record IsBounded (whole : Bool) (low high : ℕ) (marks : List Bool) : Type 0 where
  pub order : low ≤ high
  pub end : high ≤ length marks
  pub clear : whole ≡ true → marks ≡ replicate (length marks) false
  pub within : whole ≡ false → MarksWithin low high marks
