use Rattle.std.proofs.Common.{refl}
use Rattle.coordinator_core.proofs.table.Table.take.Goals as goal

pub returns-in-Ok-clause-taken : goal.returns-in-Ok-clause-taken
returns-in-Ok-clause-taken g c = (refl, c.in-Ok.ensures.kept)

pub returns-in-Err-clause-taken : goal.returns-in-Err-clause-taken
returns-in-Err-clause-taken g c = (c.in-Err.error, c.not_taken.ensures, c.in-Err.ensures.kept)
