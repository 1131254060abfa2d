use Rattle.branch_tests.proofs.AccountRows.{opens, rows_fit}
use Rattle.branch_tests.proofs.OpenedStores.{tables_within}
use Rattle.branch_tests.proofs.stores.open.Goals as goal

pub open-requires-clause-opens : goal.open-requires-clause-opens
open-requires-clause-opens c = opens _ _ c.requires.schema c.requires.opening

pub open-requires-clause-fits : goal.open-requires-clause-fits
open-requires-clause-fits c = rows_fit _ c.requires.opening

pub returns-in-Ok-clause-within : goal.returns-in-Ok-clause-within
returns-in-Ok-clause-within c = tables_within c.args.schema c.args.opening _ c.requires.schema c.requires.opening c.in-Ok.ensures.sound
