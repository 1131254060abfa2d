use Rattle.std.proofs.Common.{◌≡◌, length, ◌+◌, ◌-◌, ap, arith}
use Rattle.disk_model.specs.Bytes.{memory_of}
use Rattle.disk_model.specs.Memory.{Memory}
use Rattle.disk_model.proofs.Stored.{written_stored}
use Rattle.disk_model.proofs.memory.MemDisk.write.Goals as goal

pub invariant_of-self : goal.invariant_of-self
invariant_of-self c =
    let size = ap (λ (m : Memory). length m.present) c.self.view_is in
    let count : c.args.at + length c.args.bytes.now - c.args.at ≡ length c.args.bytes.now = omega arith in
    rw (c.write.ensures, c.add.ensures, count) (written_stored (memory_of c.self.inside) c.self.invariant c.args.at c.args.bytes.now (omega (arith, c.requires)))
