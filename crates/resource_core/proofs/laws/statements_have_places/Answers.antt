use Rattle.resource_rules.proofs.StatementLaws.{stmts_within}
use Rattle.resource_core.proofs.laws.statements_have_places.Goals as goal

pub returns : goal.returns
returns c = stmts_within
