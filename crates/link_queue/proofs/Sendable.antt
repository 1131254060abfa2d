-- The ends of a link may go to another thread, since its packets may.
use denote.RattleType.{RattleType}
use denote.Param.Send.{IsSend, IsSync, sendable, struct_send, recorded_send, view_send}
use denote.Struct.Declared.{shape}
use Rattle.std.specs.contracts.alloc.Global as heap
use Rattle.std.specs.contracts.impls.GlobalAllocator.TheImpl as allocator
use Rattle.std.specs.contracts.option.Option as option
use Rattle.std.proofs.Crossing.{Arc-send, frees, send as heap_send, sync as heap_sync}
use Rattle.atomic_table.specs.declared.shared.TableRule as TableRule
use Rattle.atomic_table.proofs.shared.Seat.TheSendSync.{the_send as pass_send}
use Rattle.crossbeam_queue.specs.contracts.array_queue.Doing as doing
use Rattle.crossbeam_queue.specs.contracts.array_queue.Slotted as slotted
use Rattle.crossbeam_queue.specs.contracts.array_queue.Turns as turns
use Rattle.crossbeam_queue.specs.contracts.array_queue.TurnsTableRuleOptionDoingUnit.TheImpl as by_turns
use Rattle.crossbeam_queue.proofs.array_queue.Slotted.TheSendSync.{the_send as slotted_send, the_sync as slotted_sync}
use Rattle.seata_types.proofs.ids.Place.TheSendSync.{the_field_send as place_send}
use Rattle.frame_codec.specs.contracts.packet.Packet as packet
use Rattle.frame_codec.proofs.Sendable.{packet_send}
use Rattle.link_queue.specs.contracts.known.Known as known
use Rattle.link_queue.specs.contracts.rule.InOrder as in_order
use Rattle.link_queue.specs.contracts.rule.InOrderProtocolPacketKnown.TheImpl as by_order
use Rattle.link_queue.specs.contracts.seats.SendSeat as sender
use Rattle.link_queue.specs.contracts.seats.SendSeat.TheInside as sending
use Rattle.link_queue.specs.contracts.seats.TakeSeat as taker
use Rattle.link_queue.specs.contracts.seats.TakeSeat.TheInside as taking

abbrev slot : RattleType
slot = option.the_row packet.the_row

abbrev pass : RattleType
pass = doing.the_row packet.the_row known.the_row

abbrev rule : RattleType
rule = turns.the_row in_order.the_row

abbrev by_rule : TableRule.Ghosts rule.Denot slot.Denot pass.Denot (Unit {0})
by_rule = by_turns.ghosts packet.the_row known.the_row in_order.the_row by_order.ghosts by_turns.no_dict

-- the queue of a link
abbrev queue : RattleType
queue = slotted.the_row slot pass rule heap.the_row by_rule allocator.ghosts

slot_send : IsSend slot
slot_send = search (sendable, packet_send) depth 12

queue_send : IsSend queue
queue_send = slotted_send slot pass rule heap.the_row by_rule allocator.ghosts slot_send heap_send frees

queue_sync : IsSync queue
queue_sync = slotted_sync slot pass rule heap.the_row by_rule allocator.ghosts slot_send heap_send heap_sync frees

-- each end by the queue, the right to use it, the two places and a count
pub send_seat_send : IsSend sender.the_row
send_seat_send =
    view_send sending.the_row _ _ _ _
    (recorded_send sending.the_field.row _ _ sending.the_type.to_one
    (struct_send (shape sending.the_type)
    (Arc-send queue queue_send queue_sync, (pass_send slot pass slot_send, (place_send, (place_send, (search sendable, tt)))))))

pub take_seat_send : IsSend taker.the_row
take_seat_send =
    view_send taking.the_row _ _ _ _
    (recorded_send taking.the_field.row _ _ taking.the_type.to_one
    (struct_send (shape taking.the_type)
    (Arc-send queue queue_send queue_sync, (pass_send slot pass slot_send, (place_send, (place_send, (search sendable, tt)))))))
