use Rattle.branch_tests.proofs.AccountRows.{opens, rows_fit}
use Rattle.branch_tests.proofs.stores.read.Goals as goal

pub read-requires-clause-opens : goal.read-requires-clause-opens
read-requires-clause-opens c = opens _ _ c.requires.schema c.requires.opening

pub read-requires-clause-fits : goal.read-requires-clause-fits
read-requires-clause-fits c = rows_fit _ c.requires.opening
