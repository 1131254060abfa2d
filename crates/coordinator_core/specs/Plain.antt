-- A node's errors, and inputs that are no turn.
use Rattle.std.specs.Prelude.{Bool, true, false}
use Rattle.seata_types.specs.declared.acts.Act.{Act}
use Rattle.seata_types.specs.declared.acts.Act.TheVariants as act
use Rattle.seata_types.specs.declared.acts.Durable.{Durable}
use Rattle.seata_types.specs.declared.errors.NodeError.{NodeError}
use Rattle.seata_types.specs.declared.errors.NodeError.TheVariants as error
use Rattle.seata_types.specs.declared.errors.StoreError.{StoreError}
use Rattle.seata_types.specs.declared.errors.StoreError.TheVariants as store_error
use Rattle.seata_types.specs.declared.messages.Input.{Input}
use Rattle.seata_types.specs.declared.messages.Input.TheVariants as input

-- the disks failed
abbrev pub is_failure : StoreError → Bool
is_failure store_error.Failed = true
is_failure (store_error.Full full) = false
is_failure store_error.NoMemory = false

-- a node's error at an act
abbrev pub node_error : StoreError → Durable → NodeError
node_error store_error.Failed done = error.Failed done
node_error (store_error.Full full) done = error.Full full
node_error store_error.NoMemory done = error.NoMemory

-- the error where a step with this act isn't taken; without a record only memory can be missing
abbrev pub error_at : StoreError → Act → NodeError
error_at cause (act.Durable done) = node_error cause done
error_at cause _ = error.NoMemory

-- an input that is no turn
abbrev pub IsNoTurn : Input → Type 0
IsNoTurn input.Turn = ⊥
IsNoTurn _ = Unit {0}
