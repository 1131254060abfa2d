use Rattle.history_law.proofs.ShownMoments.{entries_tell_moments}
use Rattle.history_law.proofs.laws.entries_tell_moments.Goals as goal

pub returns : goal.returns
returns c = entries_tell_moments
