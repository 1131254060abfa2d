-- What the calls of a coordinator do, apart from its steps.
use Rattle.std.specs.Prelude.{◌≡◌, ◌+◌, ℕ, nat_lt, true, if◌then◌else◌, List, Option, Some, None, Result, Ok, Err}
use Rattle.std.specs.Borrow.{Lends, Fml, RattleType, MutBor}
use Rattle.disk_model.specs.Disk.{DiskState}
use Rattle.disk_model.specs.Stop.{state_of}
use Rattle.journal_checkpoint.specs.Images.{Pair}
use Rattle.journal_checkpoint.specs.Keeping.{twin_extent}
use Rattle.seata_types.specs.declared.acts.Durable.{Durable}
use Rattle.seata_types.specs.declared.copies.NoMemory.{NoMemory}
use Rattle.seata_types.specs.declared.errors.NodeError.{NodeError}
use Rattle.seata_types.specs.declared.errors.NodeError.TheVariants as error
use Rattle.durable_records.specs.declared.coordinators.SessionRecord.{SessionRecord}
use Rattle.session_store.specs.declared.sessions.Sessions.{Sessions}
use Rattle.disk_model.specs.declared.stoppable.Stoppable.{Stoppable}
use Rattle.disk_model.specs.contracts.stoppable.Stoppable.{the_row as stoppable_row}
use Rattle.session_store.specs.Keeping.{BringsBack, KeepsRecords, SameOpening, SameDisks, known, twin, is_down as sessions_down, with_disk as sessions_with}
use Rattle.node_steps.specs.Durable.{own_faults}
use Rattle.coordinator_core.specs.declared.nodes.Coordinator.{Coordinator}
use Rattle.coordinator_core.specs.contracts.nodes.Coordinator.{the_row}
use Rattle.coordinator_core.specs.Knowledge.{memory}
use Rattle.coordinator_core.specs.Standing.{sessions_of, pair_of, active_of, start_of, is_down}
use Rattle.coordinator_rules.specs.Starting.{started_on, no_moments}

-- the act in flight, where its record is on the disks
abbrev pub kept_of : {D : Type 0} → Coordinator D → Option Durable
kept_of c = if nat_lt c.records (memory c.table).acts then c.flight else None

-- ---- after a step without an answer

-- the disks failed at an act, which is in flight over so many records; or all is as before
abbrev pub Misses : {D : Type 0} → (records : ℕ) → NodeError → Coordinator D → Coordinator D → Type 0
Misses records (error.Failed at) old new =
    (new.table ≡ old.table) × (start_of new ≡ start_of old) × (new.flight ≡ Some at) × (new.records ≡ records) × (new.left + 1 ≡ old.left)
Misses records (error.Full full) old new = new ≡ old
Misses records error.NoMemory old new = new ≡ old

-- ---- a stop

-- of two disks nothing changed but what a stop lets pass
pub record ArmsPair (old new : Pair) : Type 0 where
  pub own : own_faults new ≡ own_faults old
  pub first_content : new.first.content ≡ old.first.content
  pub second_content : new.second.content ≡ old.second.content
  pub first_size : new.first.size ≡ old.first.size
  pub second_size : new.second.size ≡ old.second.size
  pub first_moments : new.first.tells_moments ≡ old.first.tells_moments
  pub second_moments : new.second.tells_moments ≡ old.second.tells_moments

-- a stop was armed on the active disk, and all else stays
pub record ArmsSessions {D : Type 0} (state : D → DiskState) (calls : ℕ) (old new : Sessions (Stoppable D)) : Type 0 where
  pub keeps : (rs : List SessionRecord) → KeepsRecords (state_of state) rs old → KeepsRecords (state_of state) rs new
  -- what a restart brought back it keeps
  pub back : (pick : ℕ) (before : Sessions (Stoppable D)) → BringsBack (state_of state) pick before old → BringsBack (state_of state) pick before new
  pub left : (active_of state new).counts.left ≡ Some calls
  pub pair : ArmsPair (pair_of state old) (pair_of state new)
  -- its journal stands where it stood
  pub extent : twin_extent (twin new) ≡ twin_extent (twin old)
  pub known : known new ≡ known old
  pub opening : SameOpening old new
  pub down : sessions_down new ≡ sessions_down old

-- all that it keeps beside its transactions and their moments stays
pub record SameRest {D : Type 0} (old new : Coordinator D) : Type 0 where
  pub start : start_of new ≡ start_of old
  pub retry : new.table.retry ≡ old.table.retry
  pub forget : new.table.forget ≡ old.table.forget
  pub flight : new.flight ≡ old.flight
  pub records : new.records ≡ old.records
  pub left : new.left ≡ old.left

-- the same of a coordinator, which is otherwise as before
pub record Arms {D : Type 0} (state : D → DiskState) (calls : ℕ) (old new : Coordinator D) : Type 0 where
  pub sessions : ArmsSessions state calls (sessions_of old) (sessions_of new)
  pub moments : new.table.moments ≡ old.table.moments
  pub rest : SameRest old new

-- the same where calls are given; without them nothing changes
abbrev pub ArmsWith : {D : Type 0} → (D → DiskState) → Option ℕ → Coordinator D → Coordinator D → Type 0
ArmsWith state None old new = new ≡ old
ArmsWith state (Some calls) old new = Arms state calls old new

-- ---- after a restart of the disks

-- it starts at this moment with what its disks hold
pub record StartsAgain {D : Type 0} (now : ℕ) (old new : Coordinator D) : Type 0 where
  pub sessions : sessions_of new ≡ sessions_of old
  pub moments : new.table.moments ≡ started_on now (memory old.table).sessions no_moments
  pub rest : SameRest old new

-- it is down again, as it was
pub record FallsAgain {D : Type 0} (old new : Coordinator D) : Type 0 where
  pub disks : SameDisks (sessions_of old) (sessions_of new)
  pub opening : SameOpening (sessions_of old) (sessions_of new)
  pub down : is_down new ≡ true
  pub rest : SameRest old new

abbrev pub ComesBack : {D : Type 0} → ℕ → Result (Unit {0}) NoMemory → Coordinator D → Coordinator D → Type 0
ComesBack now (Ok done) old new = StartsAgain now old new
ComesBack now (Err refused) old new = FallsAgain old new

-- ---- a disk that is lent

module _ (D : RattleType) where
  abbrev pub with_disk : Coordinator D.Denot → Stoppable D.Denot → Coordinator D.Denot
  with_disk c disk = record c { table = record c.table { sessions = sessions_with (stoppable_row D) (sessions_of c) disk } }

  -- it ends with the last disk behind r as the active one
  abbrev pub LendsActive : MutBor (Coordinator D.Denot) → MutBor (Stoppable D.Denot) → Fml
  LendsActive c r = Lends (the_row D) (stoppable_row D) c r (with_disk c.now)
