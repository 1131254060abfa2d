-- The locks of a run may be looked at by several threads where its nodes and what names it may go to another.
use denote.RattleType.{RattleType}
use denote.Param.Send.{IsSend, IsSync, sendable, struct_send, struct_sync, recorded_send, recorded_sync, view_send}
use denote.Struct.Declared.{shape}
use Rattle.std.proofs.Crossing.{crosses}
use Rattle.seata_types.proofs.ids.Place.TheSendSync.{the_sync as place_sync}
use Rattle.node_steps.specs.declared.nodes.Node.{Ghosts as OfNode}
use Rattle.node_seat.specs.declared.names.RunName.{Ghosts as OfRun}
use Rattle.node_seat.proofs.Sendable.{seat_send}
use Rattle.run_rounds.specs.contracts.begun.Begun as begun
use Rattle.run_rounds.specs.contracts.begun.Begun.TheInside as inside
use Rattle.run_rounds.specs.contracts.seats.Locks as locks
use Rattle.run_rounds.specs.contracts.seats.Shared as shared

begun_send : (N K : RattleType) (n : OfNode N.Denot) (k : OfRun K.Denot) → IsSend N → IsSend K → IsSend (begun.the_row N K n k)
begun_send N K n k s r =
    view_send (inside.the_row N K n k) _ _ _ _
    (recorded_send (inside.the_field N K n k).row _ _ (inside.the_type N K n k).to_one (struct_send (shape (inside.the_type N K n k)) (seat_send N K n k s r, tt)))

-- the place of a seat, and the lock before it
shared_field_sync : (N K : RattleType) (n : OfNode N.Denot) (k : OfRun K.Denot) → IsSend N → IsSend K → IsSync (shared.the_field N K n k).row
shared_field_sync N K n k s r =
    struct_sync
    (shape (shared.the_type N K n k))
    (search (sendable, place_sync) depth 12, (search (sendable, crosses, begun_send) depth 12, tt))

shared_sync : (N K : RattleType) (n : OfNode N.Denot) (k : OfRun K.Denot) → IsSend N → IsSend K → IsSync (shared.the_row N K n k)
shared_sync N K n k s r = recorded_sync (shared.the_field N K n k).row _ _ (shared.the_type N K n k).to_one (shared_field_sync N K n k s r)

module _ (C S M K : RattleType) (c : OfNode C.Denot) (s : OfNode S.Denot) (m : OfNode M.Denot) (k : OfRun K.Denot) where
  pub locks_sync : IsSend C → IsSend S → IsSend M → IsSend K → IsSync (locks.the_row C S M K c s m k)
  locks_sync cs ss ms ks =
      recorded_sync (locks.the_field C S M K c s m k).row _ _ (locks.the_type C S M K c s m k).to_one
      (struct_sync (shape (locks.the_type C S M K c s m k)) (
        shared_field_sync C K c k cs ks,
        (search (crosses, shared_sync) depth 12, (search (crosses, shared_sync) depth 12, tt)),
      ))
