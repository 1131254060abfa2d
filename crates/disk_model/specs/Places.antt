-- What `MemShelf` keeps under a name: no place, or one with the disk that was given back, unless it is out.
use Rattle.std.specs.Prelude.{◌≡◌, ℕ, true, Option, Some, None, IsSome, List}
use Rattle.std.proofs.Common.{refl}
use Rattle.std.specs.BTreeMap.{get_by_text}
use Rattle.disk_model.specs.Memory.{Memory}
use Rattle.disk_model.specs.Shelf.{OnlyTellersHave, ShelfState}
use Rattle.disk_model.specs.declared.shelf.Place.{Place}
use Rattle.disk_model.specs.declared.shelf.MemShelf.{MemShelf}

abbrev pub place : List ℕ → MemShelf → Option Place
place name shelf = get_by_text shelf.places name

-- the disk in a place
abbrev pub disk_in : Option Place → Option Memory
disk_in (Some place) = place.disk
disk_in None = None

-- how often one was given back there
abbrev pub gives_in : Option Place → ℕ
gives_in (Some place) = place.gives
gives_in None = 0

-- a place that its disk was taken out of; a new one is such a place
abbrev pub emptied : Option Place → Place
emptied place = record { disk = None; gives = gives_in place }

-- what contracts see of it
abbrev pub shelf_state : MemShelf → ShelfState Memory
shelf_state shelf = record {
  faults = shelf.faults;
  tells = true;
  has_place = λ name. IsSome (place name shelf);
  given_back = λ name disk. disk_in (place name shelf) ≡ Some disk;
  gives = λ name. gives_in (place name shelf);
}

-- it tells which disks were given back
pub shelf_lawful : (shelf : MemShelf) → OnlyTellersHave (shelf_state shelf)
shelf_lawful shelf name disk given = refl
