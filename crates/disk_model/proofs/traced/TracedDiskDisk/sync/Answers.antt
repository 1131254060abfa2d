use Rattle.disk_model.specs.Trace.{Synced, disk_of}
use Rattle.disk_model.proofs.Images.{memory_synced}
use Rattle.disk_model.proofs.Moments.{trace_synced}
use Rattle.disk_model.proofs.traced.TracedDiskDisk.sync.Goals as goal

pub returns-clause-synced : goal.returns-clause-synced
returns-clause-synced c =
    let old = c.args.self.now in
    rw c.in_ok-flush.ensures.noted.trace (trace_synced old Synced (memory_synced (disk_of old)))
