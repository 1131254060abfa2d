use Rattle.coordinator_rules.proofs.AskedLaws.{asked_sent, nothing_sent}
use Rattle.coordinator_rules.proofs.turning.ask.Goals as goal

pub returns-in-Some-clause-sent : goal.returns-in-Some-clause-sent
returns-in-Some-clause-sent c = asked_sent c.args.xid c.in-Some.question c.asked.result c.asked.ensures.value c.asked.ensures.framable c.asked.ensures.named

pub returns-in-None-clause-sent : goal.returns-in-None-clause-sent
returns-in-None-clause-sent c = nothing_sent c.rests.result c.rests.ensures
