use Rattle.local_tables.specs.Calls.{effect}
use Rattle.resource_rules.proofs.MeaningLaws.{unmeant}
use Rattle.resource_rules.proofs.meanings.meaning.Goals as goal

pub returns-in-Err : goal.returns-in-Err
returns-in-Err c = unmeant (effect c.args.tables.now c.args.stmts.now) c.in-Err.error c.unmeant.result c.in-Err.ensures.means c.unmeant.ensures
