-- How the rounds of a run end.
use Rattle.std.specs.Prelude.{◌≡◌, ◌⊎◌, ℕ, true, false, List, [], ◌∷◌, slice_get, Option, Some, None, IfSome, Result, Ok, Err}
use Rattle.disk_model.specs.Disk.{DiskState}
use Rattle.durable_records.specs.declared.coordinators.SessionRecord.{SessionRecord}
use Rattle.history_rules.specs.Own.{Own}
use Rattle.coordinator_core.specs.declared.nodes.Coordinator.{Coordinator}
use Rattle.coordinator_core.specs.Standing.{StandsOver, course, is_down, unended_sessions}
use Rattle.coordinator_core.specs.Tracks.{records}
use Rattle.resource_core.specs.declared.nodes.Resource.{Resource}
use Rattle.manager_core.specs.declared.nodes.Manager.{Manager}
use Rattle.manager_core.specs.Standing.{StandsFor, is_finished, settings}
use Rattle.node_seat.specs.Seating.{Seated}
use Rattle.node_seat.specs.declared.faults.RunFault.{RunFault}
use Rattle.node_seat.specs.declared.faults.RunFault.TheVariants as fault
use Rattle.run_rounds.specs.declared.seats.Seats.{Seats}

-- ---- faults

-- the fault that a seat answered, if it is there and did
abbrev pub fault_in : {N : Type 0} → Option (Seated N) → Option RunFault
fault_in None = None
fault_in (Some s) = s.fault

-- the first of two faults
abbrev pub or_fault : Option RunFault → Option RunFault → Option RunFault
or_fault None second = second
or_fault (Some missed) second = Some missed

-- the fault of the first of these seats that answered one
abbrev pub first_fault : {N : Type 0} → List (Option (Seated N)) → Option RunFault
first_fault [] = None
first_fault (seat ∷ seats) = or_fault (fault_in seat) (first_fault seats)

-- the fault of the seat of the least place that answered one
abbrev pub least_fault : {C S M K : Type 0} → Seats C S M K → Option RunFault
least_fault seats = or_fault (fault_in seats.coordinator) (or_fault (first_fault seats.resources.items) (first_fault seats.managers.items))

-- ---- the end

-- the coordinator is up, and by its own entries each transaction that began is over
pub record IsOver {D : Type 0} (state : D → DiskState) (c : Coordinator D) : Type 0 where
  pub up : is_down c ≡ false
  pub sessions : (past : List SessionRecord) (owns : List Own) → StandsOver state c past owns → unended_sessions (records (course past owns)) ≡ 0

-- by its own entries, the end of the manager's transaction was answered, or it sent all that it may
abbrev pub IsDone : Manager → Type 0
IsDone m = (owns : List Own) → StandsFor m owns → is_finished (settings m) owns ≡ true

-- the same of their seats
abbrev pub IsOverIn : {D : Type 0} → (D → DiskState) → Seated (Coordinator D) → Type 0
IsOverIn state s = IsOver state s.node

abbrev pub IsDoneIn : Option (Seated Manager) → Type 0
IsDoneIn None = Unit {0}
IsDoneIn (Some s) = IsDone s.node

abbrev pub AreDone : List (Option (Seated Manager)) → Type 0
AreDone managers = (k : ℕ) (manager : Option (Seated Manager)) → slice_get managers k ≡ Some manager → IsDoneIn manager

-- the run has ended, and no seat answered a fault
pub record HaveEnded {D K : Type 0} (state : D → DiskState) (seats : Seats (Coordinator D) (Resource D) Manager K) : Type 0 where
  pub calm : least_fault seats ≡ None
  pub over : IfSome seats.coordinator (IsOverIn state)
  pub done : AreDone seats.managers.items

-- how the rounds end: the run has ended, or a seat answered a fault
abbrev pub EndBy : {D K : Type 0} → (D → DiskState) → Seats (Coordinator D) (Resource D) Manager K → Result (Unit {0}) RunFault → Type 0
EndBy state seats (Ok done) = HaveEnded state seats
EndBy state seats (Err missed) = least_fault seats ≡ Some missed

-- so they do, or memory was refused before the first of them, with all as before
abbrev pub HaveStopped : {C S M K : Type 0} → (old new : Seats C S M K) → RunFault → Type 0
HaveStopped old new missed = (least_fault new ≡ Some missed) ⊎ ((missed ≡ fault.NoMemory) × (new ≡ old))
