-- A resource that is up, as one of the rules of all nodes: which own entries it stands for, and what its answers are by them.
use Rattle.std.specs.Prelude.{◌≡◌, ℕ, false, true, List, ◌∷◌, Some, None, Ok, Err}
use Rattle.disk_model.specs.Disk.{DiskState}
use Rattle.seata_types.specs.declared.acts.Act.TheVariants as act
use Rattle.seata_types.specs.declared.acts.Durable.{Durable}
use Rattle.seata_types.specs.declared.errors.NodeError.TheVariants as error
use Rattle.seata_types.specs.declared.messages.Input.{Input}
use Rattle.seata_types.specs.declared.messages.Step.{Step}
use Rattle.durable_records.specs.declared.resources.ResourceRecord.{ResourceRecord}
use Rattle.history_rules.specs.Devices.{is_down, is_short}
use Rattle.history_rules.specs.Nodes.{Resource, happens, left_at}
use Rattle.history_rules.specs.Own.{Given, Own, still}
use Rattle.history_rules.specs.ResourceMemory.{memory}
use Rattle.node_steps.specs.Promises.{own_step}
use Rattle.resource_core.specs.Holding.{Holds, setup_of}
use Rattle.resource_core.specs.Stepping.{Answers}
use Rattle.resource_core.specs.declared.branches.Branches.{Branches}

-- it is up after these own entries, over the records that its disks had before, and holds what they leave
pub record StandsUp {D : Type 0} (state : D → DiskState) (b : Branches D) (past : List ResourceRecord) (os : List Own) : Type 0 where
  pub up : is_down os ≡ false
  pub holds : Holds state b (memory (setup_of b) past os)

-- its step is what happens at its input, where no stop is to cut it, and then it stands for its entries with this one
pub record StepsByRules {D : Type 0} (state : D → DiskState) (old new : Branches D) (past : List ResourceRecord) (os : List Own) (given : Input) (now : ℕ) (step : Step) : Type 0 where
  pub is : is_short (left_at (Resource (setup_of old) past) os) ≡ false → step ≡ happens (Resource (setup_of old) past) os now false false (Given given)
  pub stands : StandsUp state new past (own_step given now step ∷ os)

abbrev pub AnswersAreSteps : {D : Type 0} → (D → DiskState) → Type 0
AnswersAreSteps {D} state = (old new : Branches D) (given : Input) (step : Step) (past : List ResourceRecord) (os : List Own) (now : ℕ) →
    Answers state old new given (Ok step) → StandsUp state old past os → StepsByRules state old new past os given now step

-- where its disks failed, that is what happens at a fault, with the act in flight that it tells
abbrev pub FailuresAreSteps : {D : Type 0} → (D → DiskState) → Type 0
FailuresAreSteps {D} state = (old new : Branches D) (given : Input) (flight : Durable) (past : List ResourceRecord) (os : List Own) (now : ℕ) →
    Answers state old new given (Err (error.Failed flight)) → StandsUp state old past os →
    still (act.Down None (Some flight)) ≡ happens (Resource (setup_of old) past) os now true false (Given given)
