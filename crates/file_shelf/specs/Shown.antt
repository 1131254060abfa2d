-- What contracts see of disks in files, and of a shelf over a folder.
use Rattle.std.specs.Prelude.{◌≡◌, ℕ, false, List, Some, None}
use Rattle.std.proofs.Common.{arith}
use Rattle.std.proofs.lemmas.Bool.{false≢true}
use Rattle.disk_model.specs.Disk.{DiskState, IsLawful}
use Rattle.disk_model.specs.Shelf.{OnlyTellersHave, ShelfState}
use Rattle.file_shelf.specs.declared.disks.FileDisk.{FileDisk}
use Rattle.file_shelf.specs.declared.shelves.FileShelf.{FileShelf}

-- ---- a disk

abbrev pub size_of : {F : Type 0} → FileDisk F → ℕ
size_of disk = disk.size

abbrev pub faults_of : {F : Type 0} → FileDisk F → ℕ
faults_of disk = disk.faults

-- a disk of so many bytes that tells none of them; each of its faults is its own, and no stop is armed
abbrev pub untold : (size faults : ℕ) → DiskState
untold size faults = record {
  size = size;
  content = None;
  may_leave = λ c. ⊥;
  comes_back = λ pick c. ⊥;
  moment = 0;
  left_since = λ t c. ⊥;
  tells_moments = false;
  counts = record { faults = faults; own = faults; left = None; stopped = false };
}

abbrev pub disk_state : {F : Type 0} → FileDisk F → DiskState
disk_state disk = untold disk.size disk.faults

-- nothing is told
none_some : (c : List ℕ) → None ≡ Some c → ⊥
none_some c e = absurd cc

-- what always holds of such a disk
pub untold_is_lawful : (size faults : ℕ) → IsLawful (untold size faults)
untold_is_lawful size faults = record {
  present_may_stay = λ c told. absurd (none_some c told);
  told = λ c left. absurd left;
  moments_told = λ t c left. absurd left;
  full_size = λ c left. absurd left;
  counts_now = λ tells t c now left. absurd left;
  only_now = λ c left. absurd left;
  own_among_faults = omega arith;
  stopped_lets_none = λ stopped. absurd (false≢true stopped);
}

-- ---- a shelf

abbrev pub shelf_faults : {R : Type 0} → FileShelf R → ℕ
shelf_faults shelf = shelf.faults

-- each name has a place in a folder; which disks were given back isn't told
abbrev pub shelf_state : {R D : Type 0} → FileShelf R → ShelfState D
shelf_state shelf = record {
  faults = shelf.faults;
  tells = false;
  has_place = λ name. Unit {0};
  given_back = λ name disk. ⊥;
  gives = λ name. 0;
}

pub shelf_lawful : {R D : Type 0} (shelf : FileShelf R) → OnlyTellersHave {D = D} (shelf_state shelf)
shelf_lawful shelf name disk given = absurd given
