use Rattle.disk_model.proofs.Kept.{new_kept}
use Rattle.disk_model.proofs.traced.TracedDisk.new.Goals as goal

pub invariant_of-result : goal.invariant_of-result
invariant_of-result c =
    new_kept _ c.args.size c.in_ok-new.ensures c.in_ok-with_room.ensures.empty c.in_ok-with_room-2.ensures.empty c.in_ok-with_room.ensures.room c.in_ok-with_room-2.ensures.room
