use Rattle.judged_devices.proofs.SameActs.{durables_are_same}
use Rattle.judged_devices.proofs.looks.same_durable.Goals as goal

pub returns : goal.returns
returns c = durables_are_same c.args.a c.args.b c.eq.result c.eq.ensures
