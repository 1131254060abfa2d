use Rattle.frame_codec.proofs.LaterBytes.{nothing_yet}
use Rattle.frame_codec.proofs.feed.FrameFeed.new.Goals as goal

pub invariant_of-result : goal.invariant_of-result
invariant_of-result c = rw c.new.ensures.items nothing_yet
