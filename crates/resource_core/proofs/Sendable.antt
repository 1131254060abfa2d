-- A resource may go to another thread where its disks may.
use denote.RattleType.{RattleType}
use denote.Param.Send.{IsSend, sendable, struct_send, recorded_send}
use denote.Struct.Declared.{shape}
use Rattle.disk_model.proofs.stoppable.Stoppable.TheSendSync.{the_send as stoppable_send}
use Rattle.seata_types.proofs.acts.Durable.TheSendSync.{the_send as durable_send}
use Rattle.seata_types.proofs.Sendable.{words}
use Rattle.resource_core.proofs.OpenSendable.{local_txns_send}
use Rattle.resource_store.proofs.store.Store.TheSendSync.{the_field_send as store_send}
use Rattle.disk_model.specs.contracts.stoppable.Stoppable as stoppable
use Rattle.resource_rules.specs.contracts.setups.Setup as setups
use Rattle.resource_core.specs.contracts.branches.Branches as branches
use Rattle.resource_core.specs.contracts.nodes.Resource as resource

-- field by field, since a `search` of the whole ends at its limits: the number, the tries, the actions and the local transactions
setup_field_send : IsSend setups.the_field.row
setup_field_send = struct_send (shape setups.the_type) (search sendable, (search sendable, (search (sendable, words) depth 12, (search (sendable, words) depth 12, tt))))

-- the setup, the store and the open tickets
branches_send : (D : RattleType) → IsSend D → IsSend (branches.the_field D).row
branches_send D s = struct_send (shape (branches.the_type D)) (setup_field_send, (store_send D s, (local_txns_send, tt)))

-- the branches, whether it is down, the act in flight, the records before it, and the steps left
resource_field_send : (D : RattleType) → IsSend D → IsSend (resource.the_field D).row
resource_field_send D s =
    struct_send
    (shape (resource.the_type D)) (
      branches_send (stoppable.the_row D) (stoppable_send D s),
      (search sendable, (search (sendable, durable_send) depth 12, (search sendable, (search sendable, tt)))),
    )

pub resource_send : (D : RattleType) → IsSend D → IsSend (resource.the_row D)
resource_send D s = recorded_send (resource.the_field D).row _ _ (resource.the_type D).to_one (resource_field_send D s)
