-- A resource's open local transactions may go to another thread.
use denote.Param.Send.{IsSend, sendable}
use Rattle.std.proofs.Crossing.{crosses}
use Rattle.std.proofs.MapsCrossing as maps
use Rattle.seata_types.proofs.Sendable.{words}
use Rattle.seata_types.proofs.ids.Ticket.TheSendSync.{the_send as ticket_send}
use Rattle.seata_types.proofs.rows.Image.TheSendSync.{the_send as image_send}
use Rattle.seata_types.proofs.rows.ReadRow.TheSendSync.{the_send as read_row_send}
use Rattle.seata_types.proofs.rows.RowKey.TheSendSync.{the_send as row_key_send}
use Rattle.local_txn.specs.contracts.local_txns.LocalTxns as txns
use Rattle.local_txn.specs.contracts.transactions.OpenTxn as txn

-- one of them
pub open_txn_send : IsSend txn.the_row
open_txn_send = search (sendable, crosses, words, image_send, read_row_send) depth 20 fits 20000

-- all of them
pub local_txns_send : IsSend txns.the_row
local_txns_send = search (sendable, crosses, maps.crosses, open_txn_send, ticket_send, row_key_send) depth 20 fits 20000
