-- The two disks of a node on a shelf.
use Rattle.std.specs.Prelude.{◌≡◌, ◌⊎◌, ◌++◌, ℕ, IsTrue, IsSome, List, codes}
use Rattle.disk_model.specs.Disk.{DiskState, Rose}
use Rattle.disk_model.specs.Shelf.{IsBlank, IsGivenBack, IsTaken, ShelfState, TakenAs}
use Rattle.disk_model.specs.Stop.{with_stop}
use Rattle.disk_model.specs.declared.stoppable.Stop.TheVariants.{Off}
use Rattle.journal_checkpoint.specs.Images.{Pair}

-- ---- names

-- the coordinator's name, which its first disk has; a resource's first disk has the resource's name
abbrev pub coordinator_name : List ℕ
coordinator_name = codes "tc"

-- the name of a node's second disk
abbrev pub second_name : List ℕ → List ℕ
second_name name = name ++ codes ".2"

-- the name of one of the two disks of a node
abbrev pub IsDiskName : (node name : List ℕ) → Type 0
IsDiskName node name = (name ≡ node) ⊎ (name ≡ second_name node)

-- ---- disks

-- a disk without a stop: each of its faults is its own
abbrev pub unstopped : DiskState → DiskState
unstopped disk = with_stop Off 0 disk

-- what the two disks of a node show, without a stop
abbrev pub pair_of : {D : Type 0} → (D → DiskState) → D × D → Pair
pair_of state disks = record { first = unstopped (state disks.0); second = unstopped (state disks.1) }

-- each blank disk of so many bytes tells them
abbrev pub BlanksTell : {D : Type 0} → (D → DiskState) → (size : ℕ) → Type 0
BlanksTell {D} state size = (disk : D) → IsBlank size (state disk) → IsSome (state disk).content

-- ---- on a shelf

-- both disks of a node were taken
pub record HasBoth {D : Type 0} (shelf : ShelfState D) (name : List ℕ) : Type 0 where
  pub first : shelf.has_place name
  pub second : shelf.has_place (second_name name)

-- a disk was given back under a name in a call, where the shelf tells it, and no other one is there
pub record IsGivenIn {D : Type 0} (old new : ShelfState D) (name : List ℕ) (disk : D) : Type 0 where
  pub back : IsGivenBack new name disk
  pub counted : IsTrue old.tells → Rose (old.gives name) (new.gives name)

-- each disk that was given back in a call tells its bytes
abbrev pub BackTell : {D : Type 0} → (D → DiskState) → (old new : ShelfState D) → Type 0
BackTell {D} state old new = (name : List ℕ) (disk : D) → IsGivenIn old new name disk → IsSome (state disk).content

-- both disks of a node were given back in a call, and no other ones
pub record AreGivenBack {D : Type 0} (old new : ShelfState D) (name : List ℕ) (disks : D × D) : Type 0 where
  pub first : IsGivenIn old new name disks.0
  pub second : IsGivenIn old new (second_name name) disks.1

-- these are the two disks of a node that a shelf gives next: those of so many bytes that were last given back, or blank ones
pub record AreTaken {D : Type 0} (state : D → DiskState) (shelf : ShelfState D) (bytes : ℕ) (name : List ℕ) (disks : D × D) : Type 0 where
  pub first : IsTaken state (shelf.given_back name) bytes (state disks.0)
  pub second : IsTaken state (shelf.given_back (second_name name)) bytes (state disks.1)

-- The disk that a shelf gives next under a name has these bytes, and tells them, whichever it is. One that was given back there does so by
-- itself; a blank one is any.
pub record IsNext {D : Type 0} (state : D → DiskState) (shelf : ShelfState D) (size : ℕ) (name bytes : List ℕ) : Type 0 where
  pub has : TakenAs state (shelf.given_back name) size bytes
  pub tells : (disk : D) → IsTaken state (shelf.given_back name) size (state disk) → IsSome (state disk).content

-- the two disks of a node that a shelf gives next have these bytes, and tell them
pub record AreNext {D : Type 0} (state : D → DiskState) (shelf : ShelfState D) (size : ℕ) (name a b : List ℕ) : Type 0 where
  pub first : IsNext state shelf size name a
  pub second : IsNext state shelf size (second_name name) b

-- ---- each disk that was taken is given back

-- some disk was given back under a name
abbrev pub HasDisk : {D : Type 0} → (shelf : ShelfState D) → (name : List ℕ) → Type 0
HasDisk {D} shelf name = (disk : D) × shelf.given_back name disk

-- Where the shelf tells: each place that a call made has a disk, which was given back to it, and each name that had one still has one.
pub record ReturnsAll {D : Type 0} (old new : ShelfState D) : Type 0 where
  pub made : IsTrue old.tells → (n : List ℕ) → new.has_place n → old.has_place n ⊎ HasDisk new n
  pub kept : IsTrue old.tells → (n : List ℕ) → HasDisk old n → HasDisk new n

-- the same but for these names, whose disks may be out
pub record ReturnsBut {D : Type 0} (out : List ℕ → Type 0) (old new : ShelfState D) : Type 0 where
  pub made : IsTrue old.tells → (n : List ℕ) → new.has_place n → (old.has_place n ⊎ HasDisk new n) ⊎ out n
  pub kept : IsTrue old.tells → (n : List ℕ) → HasDisk old n → HasDisk new n ⊎ out n
