-- What the calls of the coordinator as a node promise: all that `Node` promises of them, and that its scenario and what its
-- opening found stay.
use Rattle.std.specs.Prelude.{◌≡◌, ◌+◌, ◌<◌, ◌≤◌, ℕ, true, false, List, length, Option, Some, None, Result, Ok, Err, IfOk, IfErr, OnOk, OnErr}
use Rattle.disk_model.specs.Disk.{DiskState}
use Rattle.disk_model.specs.Stop.{state_of}
use Rattle.disk_journal.specs.Keeping.{IsFull}
use Rattle.seata_types.specs.declared.acts.Act.{Act}
use Rattle.seata_types.specs.declared.acts.Act.TheVariants as act
use Rattle.seata_types.specs.declared.errors.Full.{Full}
use Rattle.seata_types.specs.declared.errors.NodeError.{NodeError}
use Rattle.seata_types.specs.declared.errors.NodeError.TheVariants as error
use Rattle.seata_types.specs.declared.errors.OpenError.{OpenError}
use Rattle.seata_types.specs.declared.errors.OpenError.TheVariants as open_error
use Rattle.seata_types.specs.declared.limits.TheConstants.{LATEST_MOMENT}
use Rattle.seata_types.specs.declared.messages.Input.{Input}
use Rattle.seata_types.specs.declared.messages.Step.{Step}
use Rattle.memory_store.specs.Keeping.{IsNotFull, StaysWhereShort}
use Rattle.durable_records.specs.declared.coordinators.SessionRecord.{SessionRecord}
use Rattle.session_log.specs.Records.{record_bytes}
use Rattle.session_store.specs.Keeping.{BringsBack, SameOpening, known, twin}
use Rattle.history_rules.specs.Own.{Own, Stopped, Crashed, still}
use Rattle.history_rules.specs.CoordinatorMemory.{session_asked}
use Rattle.history_rules.specs.Nodes.{Role, answer}
use Rattle.node_steps.specs.Durable.{SamePicks, HavePick}
use Rattle.node_steps.specs.Framing.{ComesFramable, SendsFramable}
use Rattle.node_steps.specs.Promises.{Does, TakesStep, AfterError, DisksFail, StaysItself, goes_down, own_step, steps_of, AreTold, Restarts, FailsRestart, Brings, stays_down}
use Rattle.coordinator_core.specs.declared.nodes.Coordinator.{Coordinator}
use Rattle.coordinator_rules.specs.Costs.{InputCosts}
use Rattle.coordinator_rules.specs.Naming.{ComesNamed, IsNamed}
use Rattle.coordinator_core.specs.Standing.{StandsAs, node_state, serves, sessions_of, disks_of, managers, resources, needs, size_of, start_of, steps_left, is_down}

-- the record that the rule's answer asks for, if it asks for one
abbrev pub asked : Role → List Own → ℕ → Input → Option SessionRecord
asked role owns now given = session_asked (own_step given now (answer role owns now given))

-- it ends within the active disk
abbrev pub HasRoom : {D : Type 0} → (D → DiskState) → Coordinator D → Input → ℕ → Type 0
HasRoom state c given now =
    (role : Role) (owns : List Own) → StandsAs state c role owns → (r : SessionRecord) → asked role owns now given ≡ Some r → needs c (length (record_bytes r)) ≤ size_of state c

-- there is one, which would end behind the active disk's last byte
abbrev pub HasNoRoom : {D : Type 0} → (D → DiskState) → Coordinator D → Input → ℕ → Full → Type 0
HasNoRoom state c given now full =
    (role : Role) (owns : List Own) → StandsAs state c role owns →
    (r : SessionRecord) × (asked role owns now given ≡ Some r) × IsFull (needs c (length (record_bytes r))) (size_of state c) full

-- it had room for the record of a step that was answered, or at which the disks failed, and none where it is full
abbrev pub HadRoom : {D : Type 0} → (D → DiskState) → Coordinator D → Input → ℕ → Result Step NodeError → Type 0
HadRoom state c given now (Ok step) = HasRoom state c given now
HadRoom state c given now (Err (error.Failed flight)) = HasRoom state c given now
HadRoom state c given now (Err (error.Full full)) = HasNoRoom state c given now full
HadRoom state c given now (Err error.NoMemory) = Unit {0}

-- what a step asks: the coordinator is up, has steps left and serves the input, at a moment that a clock shows
pub record MayStep {D : Type 0} (c : Coordinator D) (given : Input) (now : ℕ) : Type 0 where
  pub up : is_down c ≡ false
  pub able : 0 < steps_left c
  pub moment : now ≤ LATEST_MOMENT
  pub served : serves c given

-- a step
pub record StepsBy {D : Type 0} (state : D → DiskState) (old new : Coordinator D) (given : Input) (now : ℕ) (result : Result Step NodeError) : Type 0 where
  pub answers : IfOk result (TakesStep (node_state state old) (node_state state new) given now)
  pub framable : ComesFramable given → IfOk result SendsFramable
  -- where the input's numbers name nodes of the scenario, whatever the disks hold, so do those of the step, and its message has a receiver
  pub named : ComesNamed (managers old) (resources old) given → IfOk result (IsNamed (managers old) (resources old))
  pub after : IfErr result (AfterError (node_state state old) (node_state state new) given now)
  pub room : HadRoom state old given now result
  pub same : StaysItself (node_state state old) (node_state state new)
  pub picks : SamePicks (disks_of state old) (disks_of state new)
  pub counted : steps_left new + steps_of result ≡ steps_left old
  pub down : is_down new ≡ goes_down result
  pub opening : SameOpening (sessions_of old) (sessions_of new)

-- a step, at which the clock's start stays, and what it costs by a count that went from before to after
pub record CountsStep {D : Type 0} (state : D → DiskState) (old new : Coordinator D) (given : Input) (now : ℕ) (result : Result Step NodeError) (before after : ℕ) : Type 0 where
  pub steps : StepsBy state old new given now result
  pub start : start_of new ≡ start_of old
  pub cost : InputCosts given (known (sessions_of old)) before after

-- a stop
pub record ArmsBy {D : Type 0} (state : D → DiskState) (old new : Coordinator D) (calls : ℕ) : Type 0 where
  pub does : (now : ℕ) → Does (node_state state old) (node_state state new) (Stopped calls) now (still act.Armed)
  pub same : StaysItself (node_state state old) (node_state state new)
  pub picks : SamePicks (disks_of state old) (disks_of state new)
  pub counted : steps_left new ≡ steps_left old
  pub up : is_down new ≡ false
  pub opening : SameOpening (sessions_of old) (sessions_of new)

-- a crash
pub record CrashesBy {D : Type 0} (state : D → DiskState) (old new : Coordinator D) : Type 0 where
  pub does : (now : ℕ) → Does (node_state state old) (node_state state new) Crashed now (still (act.Down None None))
  pub same : StaysItself (node_state state old) (node_state state new)
  pub picks : SamePicks (disks_of state old) (disks_of state new)
  pub counted : steps_left new ≡ steps_left old
  pub down : is_down new ≡ true
  pub opening : SameOpening (sessions_of old) (sessions_of new)

-- a restart
pub record RestartsBy {D : Type 0} (state : D → DiskState) (old new : Coordinator D) (pick : ℕ) (calls : Option ℕ) (now : ℕ) (result : Result Act OpenError) : Type 0 where
  pub restarts : AreTold (disks_of state old) → IfOk result (Restarts (node_state state old) (node_state state new) pick calls now)
  pub after : AreTold (disks_of state old) → IfErr result (FailsRestart (node_state state old) (node_state state new) pick calls now)
  pub brings : AreTold (disks_of state old) → IfOk result (Brings (node_state state old) pick)
  pub not_full : IfErr result IsNotFull
  -- one that fails changes no byte where the records are short
  pub not_due : OnErr result (StaysWhereShort (state_of state) (twin (sessions_of old)) (twin (sessions_of new)))
  -- its disks came back as this pick may bring them, with a snapshot in place of the records where one was due
  pub settles : AreTold (disks_of state old) → OnOk result (BringsBack (state_of state) pick (sessions_of old) (sessions_of new))
  pub picked : OnOk result (HavePick pick (disks_of state new))
  pub failed : result ≡ Err open_error.Failed → DisksFail (disks_of state old) (disks_of state new)
  pub same : StaysItself (node_state state old) (node_state state new)
  pub counted : steps_left new ≡ steps_left old
  pub down : is_down new ≡ stays_down result
  pub opening : SameOpening (sessions_of old) (sessions_of new)
