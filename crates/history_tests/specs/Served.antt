-- What the coordinator of these tests serves.
use Rattle.disk_model.specs.Memory.{Memory}
use Rattle.seata_types.specs.declared.messages.Input.{Input}
use Rattle.coordinator_core.specs.declared.nodes.Coordinator.{Coordinator}
use Rattle.coordinator_core.specs.Serving.{ServesInput}
use Rattle.coordinator_core.specs.Standing.{serves}

-- all that can be framed with the numbers of two managers and one resource
abbrev pub Serves : Coordinator Memory → Type 0
Serves c = (given : Input) → ServesInput 2 1 given → serves c given
