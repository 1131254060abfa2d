use Rattle.row_images.proofs.Restored.{undoing_restores, exchanging_undoes}
use Rattle.row_images.proofs.Sequels.{undoing_an_effect_restores}
use Rattle.row_images.proofs.laws.undoing_gives_the_tables_back.Goals as goal

pub returns-clause-restores : goal.returns-clause-restores
returns-clause-restores c = undoing_restores

pub returns-clause-exchanging : goal.returns-clause-exchanging
returns-clause-exchanging c = exchanging_undoes

pub returns-clause-effects : goal.returns-clause-effects
returns-clause-effects c = undoing_an_effect_restores
