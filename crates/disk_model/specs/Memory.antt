-- A disk in memory: its bytes as they are stable and present, and which of them are pending.
use Rattle.std.specs.Prelude.{◌≡◌, ℕ, zero, suc, ◌<◌, ◌≤◌, Bool, true, false, if◌then◌else◌, Option, Some, None, List, [], ◌∷◌, length, replicate, slice_index, slice_index_or}
use Rattle.std.proofs.Common.{refl, subst, arith}
use Rattle.std.proofs.lemmas.Bool.{false≢true}
use Rattle.std.proofs.lemmas.Option.{same_Some}
use Rattle.disk_model.specs.Disk.{DiskState, IsLawful, put}

-- its stable bytes, its present ones, which of these are pending, and the pick of the last restart
pub record Memory : Type 0 where
  pub stable : List ℕ
  pub present : List ℕ
  pub pending : List Bool
  pub last_pick : Option ℕ

-- the bytes that a crash may leave: each pending one may be anything, and all others stay
pub record IsImage (disk : Memory) (c : List ℕ) : Type 0 where
  pub size : length c ≡ length disk.present
  pub kept : (k : ℕ) → slice_index_or disk.pending k false ≡ false → slice_index c k ≡ slice_index disk.present k

-- what holds of each disk in memory: the stable bytes are an image too
pub record IsSound (disk : Memory) : Type 0 where
  pub marks : length disk.pending ≡ length disk.present
  pub stable : IsImage disk disk.stable

-- all marks lie from low to below high
pub record MarksWithin (low high : ℕ) (marks : List Bool) : Type 0 where
  pub from : (k : ℕ) → slice_index_or marks k false ≡ true → low ≤ k
  pub to : (k : ℕ) → slice_index_or marks k false ≡ true → k < high

-- zero bytes, and nothing pending
abbrev pub new_memory : ℕ → Memory
new_memory size = record { stable = replicate size 0; present = replicate size 0; pending = replicate size false; last_pick = None }

-- with these bytes present from an offset on, and pending
abbrev pub written : ℕ → List ℕ → Memory → Memory
written at bytes disk = record disk {
  present = put at bytes disk.present;
  pending = put at (replicate (length bytes) true) disk.pending;
}

-- with its present bytes stable, and none of them pending
abbrev pub settled : Memory → Memory
settled disk = record disk { stable = disk.present; pending = replicate (length disk.present) false }

-- what a crash makes of a pending byte: pick 0 is its stable value, 1 its present one, and 2 + b is b
abbrev pub picked_byte : ℕ → ℕ → ℕ → ℕ
picked_byte zero stable present = stable
picked_byte (suc zero) stable present = present
picked_byte (suc (suc byte)) stable present = byte

-- what a crash makes of all bytes; those that aren't pending stay
abbrev pub picked : ℕ → List Bool → List ℕ → List ℕ → List ℕ
picked pick (pending ∷ marks) (stable ∷ old) (present ∷ new) = (if pending then picked_byte pick stable present else present) ∷ picked pick marks old new
picked pick _ _ _ = []

-- the disk after a crash that picks by this number
abbrev pub crashed : ℕ → Memory → Memory
crashed pick disk = settled (record disk {
  present = picked pick disk.pending disk.stable disk.present;
  last_pick = Some pick;
})

-- It tells its images, and not its moments.
abbrev pub memory_state : Memory → DiskState
memory_state disk = record {
  size = length disk.present;
  content = Some (record { present = disk.present; last_pick = disk.last_pick });
  may_leave = IsImage disk;
  comes_back = λ pick c. c ≡ (crashed pick disk).present;
  moment = 0;
  left_since = λ _ _. ⊥;
  tells_moments = false;
  counts = record { faults = 0; own = 0; left = None; stopped = false };
}

-- what holds of every disk holds of one in memory
pub memory_lawful : (disk : Memory) → IsLawful (memory_state disk)
memory_lawful disk = record {
  present_may_stay = λ c told. subst (IsImage disk) (same_Some _ _ told) (record { size = refl; kept = λ k clear. refl });
  told = λ c image. refl;
  moments_told = λ t c never. absurd never;
  full_size = λ c image. image.size;
  counts_now = λ told. absurd (false≢true told);
  only_now = λ c never. absurd never;
  own_among_faults = omega arith;
  stopped_lets_none = λ never. absurd (false≢true never);
}
