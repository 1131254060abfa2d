use Rattle.disk_model.proofs.Images.{memory_synced}
use Rattle.disk_model.proofs.memory.MemDiskDisk.sync.Goals as goal

pub returns-clause-synced : goal.returns-clause-synced
returns-clause-synced c = rw c.flush.ensures.settled (memory_synced c.args.self.now)
