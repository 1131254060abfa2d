use Rattle.std.proofs.Common.{rules}
use Rattle.disk_model.proofs.Images.{memory_written, written_leaves}
use Rattle.disk_model.proofs.memory.MemDiskDisk.write_at.Goals as goal

pub returns-clause-written : goal.returns-clause-written
returns-clause-written c = memory_written c.args.at c.args.bytes.now c.args.self.now c.requires c.write.ensures.sound _ (search rules) (search rules)

pub returns-clause-images : goal.returns-clause-images
returns-clause-images c = written_leaves c.args.at c.args.bytes.now c.args.self.now c.requires c.write.ensures.sound _ (search rules) (search rules)
