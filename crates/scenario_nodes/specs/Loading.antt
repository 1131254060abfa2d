-- The resources of a scenario, loaded one by one and then started one by one.
use Rattle.std.specs.Prelude.{◌≡◌, ◌++◌, List, ◌∷◌, ℕ, Result, Ok, Err}
use Rattle.disk_model.specs.Disk.{DiskState}
use Rattle.disk_model.specs.Shelf.{ShelfState}
use Rattle.seata_types.specs.declared.errors.OpenError.{OpenError}
use Rattle.scenario_form.specs.declared.scenarios.ResourceDef.{ResourceDef}
use Rattle.scenario_form.specs.declared.scenarios.Scenario.{Scenario}
use Rattle.resource_core.specs.declared.nodes.Resource.{Resource}
use Rattle.resource_core.specs.declared.opening.Loaded.{Loaded}
use Rattle.resource_core.specs.NodeOpening.{FailsStart, Starts, StaysUnwritten, loaded_at}
use Rattle.resource_core.specs.Shown.{stands_at}
use Rattle.scenario_nodes.specs.Nodes.{IsLoadedResource}
use Rattle.scenario_nodes.specs.Together.{AreEach}

-- these are the resources of these numbers, whose disks were taken of a shelf and read
abbrev pub AreLoaded : {D : Type 0} → (D → DiskState) → ShelfState D → Scenario → List (ℕ × ResourceDef) → List (Loaded D) → Type 0
AreLoaded state shelf s defs loaded = AreEach (λ one l. IsLoadedResource state shelf s one.0 one.1 l) defs loaded

-- a resource that was loaded wrote its boot, and stands where it stood
pub record WritesBoot {D : Type 0} (state : D → DiskState) (l : Loaded D) (r : Resource D) : Type 0 where
  pub starts : Starts state l r
  pub at : stands_at r ≡ loaded_at l

-- the first ones did so, and the next one didn't
pub record WriteFirst {D : Type 0} (state : D → DiskState) (loaded left : List (Loaded D)) (started : List (Resource D)) (failed : OpenError × D × D) : Type 0 where
  pub before : List (Loaded D)
  pub next : Loaded D
  pub all : loaded ≡ before ++ next ∷ left
  pub each : AreEach (WritesBoot state) before started
  pub fails : FailsStart state next failed
  pub unwritten : StaysUnwritten next failed

-- what starting resources one by one does
abbrev pub WriteBoots : {D : Type 0} → (D → DiskState) → (loaded left : List (Loaded D)) → List (Resource D) → Result (Unit {0}) (OpenError × D × D) → Type 0
WriteBoots state loaded left started (Ok done) = AreEach (WritesBoot state) loaded started
WriteBoots state loaded left started (Err failed) = WriteFirst state loaded left started failed
