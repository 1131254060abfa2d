use Rattle.std.proofs.Common.{Some, ◌∙◌, ap}
use Rattle.disk_model.specs.Bytes.{memory_of}
use Rattle.disk_model.specs.Memory.{Memory, crashed}
use Rattle.disk_model.proofs.Stored.{picked_stored}
use Rattle.disk_model.proofs.memory.MemDisk.crash.Goals as goal

pub invariant_of-self : goal.invariant_of-self
invariant_of-self c = rw c.pick_pending.ensures (picked_stored (memory_of c.self.inside) c.self.invariant c.args.pick)

pub returns-clause-crashed : goal.returns-clause-crashed
returns-clause-crashed c =
    ap (λ (m : Memory). record m { last_pick = Some c.args.pick }) (c.self-2.view_is ∙ c.flush.ensures.settled) ∙ rw c.pick_pending.ensures (ap (crashed c.args.pick) c.self.view_is)
