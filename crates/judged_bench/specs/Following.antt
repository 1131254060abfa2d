-- What a bench is of its own entries.
use Rattle.std.specs.Prelude.{true, List, []}
use Rattle.history_rules.specs.Own.{Own}
use Rattle.history_rules.specs.Devices.{is_down}
use Rattle.history_rules.specs.ResourceMemory.{Setup, memory}
use Rattle.judged_devices.specs.Noting.{IsDevice}
use Rattle.judged_bench.specs.Standing.{Stands}
use Rattle.judged_bench.specs.declared.benches.Bench.{Bench}

-- a bench is a resource with this setup, over disks without records, after these own entries
pub record Follows (s : Setup) (os : List Own) (b : Bench) : Type 0 where
  pub device : IsDevice true os b.device
  pub stands : Stands s (memory s [] os) (is_down os) b.resource

-- it is one after some own entries
abbrev pub CanTake : Bench → Type 0
CanTake b = (s : Setup) × (os : List Own) × Follows s os b
