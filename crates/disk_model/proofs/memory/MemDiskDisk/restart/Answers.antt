use Rattle.disk_model.proofs.Images.{crashed_settled, crashed_leaves, crashed_kind}
use Rattle.disk_model.proofs.memory.MemDiskDisk.restart.Goals as goal

pub returns-clause-settled : goal.returns-clause-settled
returns-clause-settled c = rw c.crash.ensures.crashed (crashed_settled c.args.pick c.args.self.now c.crash.ensures.sound)

pub returns-clause-images : goal.returns-clause-images
returns-clause-images c = rw c.crash.ensures.crashed (crashed_leaves c.args.pick c.args.self.now c.crash.ensures.sound)

pub returns-clause-kind : goal.returns-clause-kind
returns-clause-kind c = rw c.crash.ensures.crashed (crashed_kind c.args.pick c.args.self.now c.crash.ensures.sound)
