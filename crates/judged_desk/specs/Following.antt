-- What a desk is of its own entries.
use Rattle.std.specs.Prelude.{false, List}
use Rattle.history_rules.specs.Own.{Own}
use Rattle.history_rules.specs.CoordinatorMemory.{Times}
use Rattle.judged_devices.specs.Noting.{IsDevice}
use Rattle.judged_desk.specs.Standing.{Stands}
use Rattle.judged_desk.specs.declared.desks.Desk.{Desk}

-- a desk is the coordinator with these settings, over disks without records, after these own entries
pub record Follows (t : Times) (os : List Own) (d : Desk) : Type 0 where
  pub device : IsDevice false os d.device
  pub stands : Stands t os d.coordinator

-- it is one after some own entries
abbrev pub CanTake : Desk → Type 0
CanTake d = (t : Times) × (os : List Own) × Follows t os d
