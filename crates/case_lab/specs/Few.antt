-- What contracts see of a shelf of few disks.
use Rattle.std.specs.Prelude.{false}
use Rattle.disk_model.specs.Memory.{Memory}
use Rattle.disk_model.specs.Shelf.{OnlyTellersHave, ShelfState}
use Rattle.case_lab.specs.declared.devices.FewDisks.{FewDisks}

-- it counts its faults, and tells nothing else
abbrev pub few_state : FewDisks → ShelfState Memory
few_state shelf = record {
  faults = shelf.faults;
  tells = false;
  has_place = λ name. Unit {0};
  given_back = λ name disk. ⊥;
  gives = λ name. 0;
}

pub few_lawful : (shelf : FewDisks) → OnlyTellersHave (few_state shelf)
few_lawful shelf name disk given = absurd given
