-- A packet may go to another thread.
use denote.Param.Send.{IsSend, sendable, struct_send, recorded_send, view_send}
use denote.Struct.Declared.{shape}
use Rattle.std.proofs.Crossing.{crosses, Box-send}
use Rattle.seata_types.proofs.Sendable.{message_field_send}
use Rattle.frame_codec.specs.contracts.packet.Kept as kept
use Rattle.frame_codec.specs.contracts.packet.Packet as packet
use Rattle.frame_codec.specs.contracts.packet.Packet.TheInside as inside

-- the message, the stamp and the frame
kept_send : IsSend kept.the_row
kept_send =
    recorded_send kept.the_field.row _ _ kept.the_type.to_one
    (struct_send (shape kept.the_type) (message_field_send, (search sendable, (search (sendable, crosses) depth 12, tt))))

pub packet_send : IsSend packet.the_row
packet_send =
    view_send inside.the_row _ _ _ _
    (recorded_send inside.the_field.row _ _ inside.the_type.to_one (struct_send (shape inside.the_type) (Box-send kept.the_row kept_send, tt)))
