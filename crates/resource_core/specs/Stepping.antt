-- What an answer of a resource promises: said of each memory that it holds, it is the rule's, with the record that the rule asks
-- for on its disks.
use Rattle.std.specs.Prelude.{◌≡◌, ℕ, ◌+◌, ◌≤◌, Option, Some, None, Result, Ok, Err, IfOk, IfErr}
use Rattle.disk_model.specs.Disk.{DiskState}
use Rattle.seata_types.specs.declared.acts.Act.TheVariants as act
use Rattle.seata_types.specs.declared.acts.Durable.{Durable}
use Rattle.seata_types.specs.declared.errors.NodeError.{NodeError}
use Rattle.seata_types.specs.declared.errors.NodeError.TheVariants as error
use Rattle.seata_types.specs.declared.errors.StoreError.{StoreError}
use Rattle.seata_types.specs.declared.errors.StoreError.TheVariants as store_error
use Rattle.seata_types.specs.declared.messages.Input.{Input}
use Rattle.seata_types.specs.declared.messages.Step.{Step}
use Rattle.durable_records.specs.declared.resources.ResourceRecord.{ResourceRecord}
use Rattle.history_rules.specs.ResourceMemory.{Setup, Memory, resource_asked, memory_after}
use Rattle.history_rules.specs.ResourceRules.{resource_answer}
use Rattle.node_steps.specs.Framing.{SendsFramable}
use Rattle.node_steps.specs.Promises.{own_step}
use Rattle.resource_store.specs.Answers.{Does, Leaves}
use Rattle.resource_store.specs.Keeping.{known}
use Rattle.resource_core.specs.Holding.{setup_of, Holds}
use Rattle.resource_core.specs.Ready.{AreTicketsWithin, IsReady, Serves}
use Rattle.resource_core.specs.declared.branches.Branches.{Branches}

-- ---- errors

-- what a store's error is at an act: where that is durable, it is in flight after a failure. A store fails only at a record, whose act
-- is durable, so no step meets a failure without an act
abbrev pub node_error : StoreError → Option Durable → NodeError
node_error store_error.Failed (Some at) = error.Failed at
node_error store_error.Failed None = error.NoMemory
node_error (store_error.Full full) at = error.Full full
node_error store_error.NoMemory at = error.NoMemory

-- ---- a step

-- what became of the record of a step
abbrev pub made_as : Result Step NodeError → Result (Unit {0}) StoreError
made_as (Ok step) = Ok tt
made_as (Err (error.Failed flight)) = Err store_error.Failed
made_as (Err (error.Full full)) = Err (store_error.Full full)
made_as (Err error.NoMemory) = Err store_error.NoMemory

-- the record that the rule's answer asks for, if it asks for one
abbrev pub asked_record : Setup → Memory → Input → Option ResourceRecord
asked_record s m given = resource_asked s m (own_step given 0 (resource_answer s m given))

-- the step is the rule's, and the memory is then the one with the step's own entry
pub record Takes {D : Type 0} (state : D → DiskState) (old new : Branches D) (given : Input) (step : Step) (m : Memory) : Type 0 where
  pub is : step ≡ resource_answer (setup_of old) m given
  pub holds : (now : ℕ) → Holds state new (memory_after (setup_of old) (own_step given now step) m)

-- the act at which the disks failed is the rule's
abbrev pub Tells : {D : Type 0} → (D → DiskState) → Branches D → Branches D → Input → Result Step NodeError → Memory → Type 0
Tells state old new given (Ok step) m = Takes state old new given step m
Tells state old new given (Err (error.Failed flight)) m = (resource_answer (setup_of old) m given).act ≡ act.Durable flight
Tells state old new given (Err (error.Full full)) m = Unit {0}
Tells state old new given (Err error.NoMemory) m = Unit {0}

-- at this memory: the step is told, and the disks do as it says
pub record StepsAt {D : Type 0} (state : D → DiskState) (old new : Branches D) (given : Input) (result : Result Step NodeError) (m : Memory) : Type 0 where
  pub tells : Tells state old new given result m
  pub does : Does state (asked_record (setup_of old) m given) (made_as result) old.store new.store

-- A resource answered an input: at each memory that it holds, and whatever its disks keep. After an error the open tickets are as
-- before. A ticket that is open then has rows of the tables that were known, with places, and what is sent can be framed.
pub record Answers {D : Type 0} (state : D → DiskState) (old new : Branches D) (given : Input) (result : Result Step NodeError) : Type 0 where
  pub steps : (m : Memory) → Holds state old m → StepsAt state old new given result m
  pub leaves : Leaves state (made_as result) old.store new.store
  pub tickets : IfErr result (λ e. new.txns ≡ old.txns)
  pub opened : new.txns.opened ≤ old.txns.opened + 1
  pub within : IsReady old → Serves given → AreTicketsWithin (known old.store).tables new.txns.opens
  pub frames : IsReady old → Serves given → IfOk result SendsFramable
  pub same : new.setup ≡ old.setup
