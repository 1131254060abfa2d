use Rattle.frame_codec.proofs.FeedLaws.{frames_join, frames_more}
use Rattle.frame_codec.proofs.LaterBytes.{bad_more}
use Rattle.frame_codec.proofs.laws.frames_of_pieces_join.Goals as goal

pub returns-clause-more : goal.returns-clause-more
returns-clause-more c = frames_more

pub returns-clause-join : goal.returns-clause-join
returns-clause-join c = frames_join

pub returns-clause-bad : goal.returns-clause-bad
returns-clause-bad c = bad_more
