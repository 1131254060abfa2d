use Rattle.std.proofs.Common.{ap}
use Rattle.disk_model.specs.Bytes.{memory_of}
use Rattle.disk_model.specs.Memory.{settled}
use Rattle.disk_model.proofs.Stored.{settled_stored}
use Rattle.disk_model.proofs.memory.MemDisk.flush.Goals as goal

pub invariant_of-self : goal.invariant_of-self
invariant_of-self c = rw (c.settle.ensures, c.clear.ensures, c.self.invariant.sound.marks) (settled_stored (memory_of c.self.inside) c.self.invariant)

pub returns-clause-settled : goal.returns-clause-settled
returns-clause-settled c = rw (c.settle.ensures, c.clear.ensures, c.self.invariant.sound.marks) (ap settled c.self.view_is)
