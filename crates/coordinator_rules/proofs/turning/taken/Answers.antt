use Rattle.coordinator_rules.proofs.AskedLaws.{forgotten_sent, nothing_sent, timed_out_sent}
use Rattle.coordinator_rules.proofs.turning.taken.Goals as goal

pub returns-in-Some-clause-sent : goal.returns-in-Some-clause-sent
returns-in-Some-clause-sent c = timed_out_sent c.args.memory.now c.in-Some.xid c.timed_out.result c.timed_out.ensures

pub returns-in-Some-old-clause-sent : goal.returns-in-Some-old-clause-sent
returns-in-Some-old-clause-sent c = forgotten_sent c.args.memory.now c.in-Some-old.xid c.forgotten.result c.forgotten.ensures

pub returns-in-None-clause-sent : goal.returns-in-None-clause-sent
returns-in-None-clause-sent c = nothing_sent c.rests.result c.rests.ensures
