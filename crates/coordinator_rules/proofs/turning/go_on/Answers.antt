use Rattle.coordinator_rules.proofs.AskedLaws.{finished_sent}
use Rattle.coordinator_rules.proofs.turning.go_on.Goals as goal

pub returns-then-allows-clause-sent : goal.returns-then-allows-clause-sent
returns-then-allows-clause-sent c = finished_sent c.args.xid c.finished-status.result c.rests.result c.rests.ensures
