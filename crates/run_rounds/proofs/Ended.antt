-- How the rounds end, as their caller is told.
use Rattle.std.proofs.Common.{inl, Result, Ok, Err, IfErr}
use Rattle.disk_model.specs.Disk.{DiskState}
use Rattle.coordinator_core.specs.declared.nodes.Coordinator.{Coordinator}
use Rattle.resource_core.specs.declared.nodes.Resource.{Resource}
use Rattle.manager_core.specs.declared.nodes.Manager.{Manager}
use Rattle.node_seat.specs.declared.faults.RunFault.{RunFault}
use Rattle.run_rounds.specs.Ending.{EndBy, HaveStopped}
use Rattle.run_rounds.specs.declared.seats.Seats.{Seats}

pub ends_err : {D K : Type 0} (state : D → DiskState) (old new : Seats (Coordinator D) (Resource D) Manager K) (result : Result (Unit {0}) RunFault)
    → EndBy state new result → IfErr result (HaveStopped old new)
ends_err state old new (Ok done) ended = tt
ends_err state old new (Err missed) ended = inl ended
