use Rattle.row_images.proofs.Sequels.{joins_effects}
use Rattle.row_images.proofs.laws.joined_images_are_those_of_both.Goals as goal

pub returns : goal.returns
returns c = joins_effects
