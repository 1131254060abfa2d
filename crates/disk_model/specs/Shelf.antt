-- What a shelf gives and keeps.
use Rattle.std.specs.Prelude.{◌≡◌, ◌⊎◌, ◌≤◌, ℕ, ◌↔◌, Bool, IsTrue, Some, List, replicate}
use Rattle.std.proofs.Common.{inl, inr, sym, ◌∙◌}
use Rattle.std.proofs.lemmas.Option.{same_Some}
use Rattle.disk_model.specs.Disk.{DiskState, IsSettled, present}

-- a disk of n bytes: all are zero, none is pending, and no call of it failed
pub record IsBlank (n : ℕ) (disk : DiskState) : Type 0 where
  pub size : disk.size ≡ n
  pub zero : (c : List ℕ) → present disk ≡ Some c → c ≡ replicate n 0
  pub settled : IsSettled disk
  pub no_fault : disk.counts.faults ≡ 0

-- The disk of n bytes that was last given back under a name, with the bytes that it had, or else a blank one; it has never another
-- size. None of its bytes is pending, and no call of it failed.
pub record IsTaken {D : Type 0} (state : D → DiskState) (before : D → Type 0) (n : ℕ) (disk : DiskState) : Type 0 where
  pub size : disk.size ≡ n
  pub sized : (d : D) → before d → (state d).size ≡ n
  pub resumed : (d : D) → before d → present disk ≡ present (state d)
  pub zero : ((d : D) → ¬ before d) → (c : List ℕ) → present disk ≡ Some c → c ≡ replicate n 0
  pub settled : IsSettled disk
  pub no_fault : disk.counts.faults ≡ 0

-- where none was given back it is a blank one
pub taken_blank : {D : Type 0} (state : D → DiskState) (before : D → Type 0) (n : ℕ) (disk : DiskState) → ((d : D) → ¬ before d) → IsTaken state before n disk → IsBlank n disk
taken_blank state before n disk none taken = record {
  size = taken.size;
  zero = taken.zero none;
  settled = taken.settled;
  no_fault = taken.no_fault;
}

-- the bytes of the disk that a shelf gives next under a name, if it gives one of n bytes, by what was given back there
abbrev pub TakenAs : {D : Type 0} → (state : D → DiskState) → (before : D → Type 0) → (n : ℕ) → List ℕ → Type 0
TakenAs {D} state before n bytes =
    ((d : D) × before d × (present (state d) ≡ Some bytes)) ⊎ (((d : D) → ¬ before d) × (bytes ≡ replicate n 0))

-- a disk that is taken has these bytes
pub taken_tells : {D : Type 0} (state : D → DiskState) (before : D → Type 0) (n : ℕ) (disk : DiskState) (bytes c : List ℕ)
    → IsTaken state before n disk → TakenAs state before n bytes → present disk ≡ Some c → c ≡ bytes
taken_tells state before n disk bytes c taken (inl (d, given, is)) there = same_Some _ _ (sym there ∙ taken.resumed d given ∙ is)
taken_tells state before n disk bytes c taken (inr (none, zero)) there = taken.zero none c there ∙ sym zero

-- what contracts see of a shelf
pub record ShelfState (D : Type 0) : Type 1 where
  -- how often a `take` failed by a fault
  pub faults : ℕ
  -- it tells which disks were given back; where it doesn't, none is one of them
  pub tells : Bool
  -- a disk was taken under this name
  pub has_place : List ℕ → Type 0
  -- this disk is the one last given back under this name
  pub given_back : List ℕ → D → Type 0
  -- how often one was given back under this name, where it tells that; at its type's end it stands still
  pub gives : List ℕ → ℕ

-- a shelf that doesn't tell which disks were given back has none of them
abbrev pub OnlyTellersHave : {D : Type 0} → ShelfState D → Type 0
OnlyTellersHave {D} shelf = (name : List ℕ) (disk : D) → shelf.given_back name disk → IsTrue shelf.tells

-- the disks under a name are the same
abbrev pub SameUnder : {D : Type 0} → List ℕ → (old new : ShelfState D) → Type 0
SameUnder {D} name old new = (disk : D) → new.given_back name disk ↔ old.given_back name disk

-- no place was made, and none is gone
abbrev pub SamePlaces : {D : Type 0} → (old new : ShelfState D) → Type 0
SamePlaces old new = (n : List ℕ) → new.has_place n ↔ old.has_place n

-- the disk of a name is out: the name has a place, and no disk is there
pub record IsOut {D : Type 0} (name : List ℕ) (shelf : ShelfState D) : Type 0 where
  pub place : shelf.has_place name
  pub none : (disk : D) → ¬ shelf.given_back name disk

-- a call for some names made no place but under these, and left what is under others as it was
pub record KeepsOthers {D : Type 0} (IsItsName : List ℕ → Type 0) (old new : ShelfState D) : Type 0 where
  pub places : (n : List ℕ) → old.has_place n → new.has_place n
  pub made : (n : List ℕ) → new.has_place n → old.has_place n ⊎ IsItsName n
  pub others : (n : List ℕ) → ¬ IsItsName n → SameUnder n old new
  pub unmoved : (n : List ℕ) → ¬ IsItsName n → new.gives n ≡ old.gives n
  pub gives : (n : List ℕ) → old.gives n ≤ new.gives n
  pub faults : old.faults ≤ new.faults
  pub tells : new.tells ≡ old.tells

-- this disk was given back under a name, where the shelf tells it, and no other one
pub record IsGivenBack {D : Type 0} (shelf : ShelfState D) (name : List ℕ) (disk : D) : Type 0 where
  pub given : IsTrue shelf.tells → shelf.given_back name disk
  pub only : (d : D) → shelf.given_back name d → d ≡ disk
