-- A seat may go to another thread where its node and what names its run may.
use denote.RattleType.{RattleType}
use denote.Param.Send.{IsSend, sendable, struct_send, recorded_send, view_send}
use denote.Struct.Declared.{shape}
use Rattle.std.proofs.Crossing.{crosses}
use Rattle.history_text.proofs.entries.Entry.TheSendSync.{the_send as entry_send}
use Rattle.history_text.proofs.notes.Note.TheSendSync.{the_send as note_send}
use Rattle.seata_types.proofs.boxes.Boxed.TheSendSync.{the_send as boxed_send}
use Rattle.link_queue.proofs.Sendable.{send_seat_send, take_seat_send}
use Rattle.node_steps.specs.declared.nodes.Node.{Ghosts as OfNode}
use Rattle.node_seat.specs.declared.names.RunName.{Ghosts as OfRun}
use Rattle.node_seat.proofs.faults.RunFault.TheSendSync.{the_send as fault_send}
use Rattle.node_seat.proofs.plans.Plan.TheSendSync.{the_field_send as plan_send}
use Rattle.node_seat.specs.contracts.seats.Seat as seat
use Rattle.node_seat.specs.contracts.seats.Seat.TheInside as inside
use Rattle.node_seat.specs.contracts.stations.Station as station

-- the node, its trace, room for a note, whether it runs, its plan, three counts, the ends of its links, the one that is next, and its fault
station_send : (N : RattleType) → IsSend N → IsSend (station.the_field N).row
station_send N s =
    struct_send
    (shape (station.the_type N)) (
      s,
      (
        search (crosses, entry_send) depth 12,
        (
          search (sendable, crosses, boxed_send, note_send) depth 12,
          (
            search sendable,
            (
              plan_send,
              (
                search sendable,
                (
                  search sendable,
                  (
                    search sendable,
                    (
                      search (crosses, take_seat_send) depth 12,
                      (search (crosses, send_seat_send) depth 12, (search sendable, (search (sendable, fault_send) depth 12, tt))),
                    ),
                  ),
                ),
              ),
            ),
          ),
        ),
      ),
    )

pub seat_send : (N K : RattleType) (n : OfNode N.Denot) (k : OfRun K.Denot) → IsSend N → IsSend K → IsSend (seat.the_row N K n k)
seat_send N K n k s r =
    view_send (inside.the_row N K n k) _ _ _ _
    (recorded_send (inside.the_field N K n k).row _ _ (inside.the_type N K n k).to_one
    (struct_send (shape (inside.the_type N K n k)) (station_send N s, (search sendable depth 12, tt))))
