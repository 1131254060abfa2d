use Rattle.judged_devices.proofs.SameActs.{acts_are_same}
use Rattle.judged_devices.proofs.looks.same_act.Goals as goal

pub returns : goal.returns
returns c = acts_are_same c.args.a.now c.args.b.now c.eq.result c.eq.ensures
