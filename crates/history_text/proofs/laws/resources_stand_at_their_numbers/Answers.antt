use Rattle.history_text.proofs.Worlds.{world_of-numbered}
use Rattle.history_text.proofs.laws.resources_stand_at_their_numbers.Goals as goal

pub returns : goal.returns
returns c = world_of-numbered
