use Rattle.history_tests.proofs.Setups.{setup_within}
use Rattle.history_tests.proofs.resource.setup.Goals as goal

pub returns : goal.returns
returns c = setup_within _ c.none.ensures c.none-2.ensures c.none-3.ensures c.none-4.ensures
