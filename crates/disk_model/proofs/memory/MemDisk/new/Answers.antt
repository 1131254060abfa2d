use Rattle.disk_model.proofs.Stored.{new_stored}
use Rattle.disk_model.proofs.memory.MemDisk.new.Goals as goal

pub invariant_of-result : goal.invariant_of-result
invariant_of-result c = rw (c.in_ok-new.ensures, c.in_ok-new-2.ensures) (new_stored c.args.size c.requires)
