use Rattle.coordinator_rules.specs.Knowledge.{knows}
use Rattle.coordinator_rules.proofs.Takes.{tells}
use Rattle.coordinator_rules.proofs.deciding.tell.Goals as goal

pub returns : goal.returns
returns c = λ times m. tells (knows times c.args.memory.now m) c.args.now c.args.from c.args.xid c.status-status.result c.status-status.ensures c.sends.result c.sends.ensures.value
