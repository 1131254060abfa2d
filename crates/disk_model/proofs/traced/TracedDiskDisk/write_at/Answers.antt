use Rattle.std.proofs.Common.{refl}
use Rattle.disk_model.specs.Trace.{Wrote, after_call, disk_of}
use Rattle.disk_model.proofs.Images.{memory_written, image_written}
use Rattle.disk_model.proofs.Moments.{trace_written, call_leaves}
use Rattle.disk_model.proofs.traced.TracedDiskDisk.write_at.Goals as goal

pub returns-clause-written : goal.returns-clause-written
returns-clause-written c =
    let old = c.args.self.now in
    let noted = c.in_ok-write.ensures.noted in
    rw noted.trace (trace_written old (Wrote c.args.at c.args.bytes.now) c.args.at c.args.bytes.now (memory_written c.args.at c.args.bytes.now (disk_of old) c.requires noted.sound (after_call (disk_of old) (Wrote c.args.at c.args.bytes.now)) refl refl))

pub returns-clause-images : goal.returns-clause-images
returns-clause-images c =
    let old = c.args.self.now in
    let noted = c.in_ok-write.ensures.noted in
    rw noted.trace (call_leaves old (Wrote c.args.at c.args.bytes.now) _ (image_written c.args.at c.args.bytes.now (disk_of old) c.requires noted.sound))
