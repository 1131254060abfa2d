-- What the trait `Node` promises, in the words of the rules of all nodes.
use Rattle.std.specs.Prelude.{◌≡◌, ◌⊎◌, ℕ, Bool, true, false, IsSome, List, ◌∷◌, length, Option, Some, None, Result, Ok, Err}
use Rattle.disk_model.specs.Disk.{DiskState, SameKind, Rose}
use Rattle.journal_checkpoint.specs.Extents.{Extent}
use Rattle.journal_checkpoint.specs.Images.{Pair}
use Rattle.journal_checkpoint.specs.Ends.{HasNoPlace}
use Rattle.seata_types.specs.declared.acts.Act.{Act}
use Rattle.seata_types.specs.declared.acts.Act.TheVariants as act
use Rattle.seata_types.specs.declared.acts.Durable.{Durable}
use Rattle.seata_types.specs.declared.acts.Durable.TheVariants as durable
use Rattle.seata_types.specs.declared.errors.Full.{Full}
use Rattle.seata_types.specs.declared.errors.NodeError.{NodeError}
use Rattle.seata_types.specs.declared.errors.NodeError.TheVariants as error
use Rattle.seata_types.specs.declared.errors.OpenError.{OpenError}
use Rattle.seata_types.specs.declared.errors.OpenError.TheVariants as open_error
use Rattle.seata_types.specs.declared.messages.Input.{Input}
use Rattle.seata_types.specs.declared.messages.Step.{Step}
use Rattle.resource_log.specs.Records.{record_bytes}
use Rattle.history_rules.specs.Own.{Event, Given, Restarted, Own, Left, still, kept_records}
use Rattle.history_rules.specs.Devices.{is_short, kept_act}
use Rattle.history_rules.specs.CoordinatorMemory.{sessions_left}
use Rattle.history_rules.specs.ResourceMemory.{boot_over, memory, opening_tables}
use Rattle.history_rules.specs.Nodes.{Role, Coordinator, Resource, Manager, MayStand, answer, happens, left_at}
use Rattle.node_steps.specs.Durable.{Reading, StandsForRecords, of_coordinator, of_resource, own_faults}
use Rattle.node_steps.specs.Ends.{EntryFits, EntryOver}
pub use Rattle.node_steps.specs.Nodes.{NodeState, place_of, has_disks, own_entry}

-- the own entry of a step
abbrev pub own_step : Input → ℕ → Step → Own
own_step given now step = own_entry (Given given) now step

-- ---- its disks

-- a disk that tells nothing and never fails
abbrev pub no_disk : DiskState
no_disk = record {
  size = 0;
  content = None;
  may_leave = λ c. ⊥;
  comes_back = λ pick c. ⊥;
  moment = 0;
  left_since = λ t c. ⊥;
  tells_moments = false;
  counts = record { faults = 0; own = 0; left = None; stopped = false };
}

-- the disks of a node that has none
abbrev pub no_disks : Pair
no_disks = record { first = no_disk; second = no_disk }

-- both tell their bytes
pub record AreTold (disks : Pair) : Type 0 where
  pub first : IsSome disks.first.content
  pub second : IsSome disks.second.content

-- a fault of the two disks together was counted
abbrev pub DisksFail : Pair → Pair → Type 0
DisksFail old new = Rose (own_faults old) (own_faults new)

-- What no call of a node changes: where it stands, the inputs that it serves, and what its disks are.
pub record StaysItself (old new : NodeState) : Type 0 where
  pub same_place : new.place ≡ old.place
  pub same_inputs : (given : Input) → old.serves given → new.serves given
  pub first : SameKind old.disks.first new.disks.first
  pub second : SameKind old.disks.second new.disks.second

-- ---- what happens at a node. Each word is said of each role, and each list of own entries, that the node stands for; and of where its
-- journal stood at the first opening, on disks of a size, if it lies by that.

-- the node stands for all that it stood for
abbrev pub StandsAsBefore : (old new : NodeState) → Type 0
StandsAsBefore old new = (role : Role) (owns : List Own) → old.stands_for role owns → new.stands_for role owns

-- its journal stands where it stood
abbrev pub LiesAsBefore : (old new : NodeState) → Type 0
LiesAsBefore old new = (role : Role) (start : Extent) (size : ℕ) (owns : List Own) → old.lies role start size owns → new.lies role start size owns

-- the record of one more own entry, if it has one, had a place, and the journal stands where the entries leave it
abbrev pub LiesWith : (old new : NodeState) → Role → List Own → Own → Type 0
LiesWith old new role owns o =
    (start : Extent) (size : ℕ) → old.lies role start size owns → EntryFits role start size owns o × new.lies role start size (o ∷ owns)

-- the step is what happens by the rules, and the node then stands for the list with the step's own entry
abbrev pub Does : (old new : NodeState) → Event → ℕ → Step → Type 0
Does old new event now step =
    (role : Role) (owns : List Own) → old.stands_for role owns →
    (step ≡ happens role owns now false false event) × new.stands_for role (own_entry event now step ∷ owns)
    × LiesWith old new role owns (own_entry event now step)

-- the same of a turn, a message or a local transaction
abbrev pub TakesStep : (old new : NodeState) → Input → ℕ → Step → Type 0
TakesStep old new given now step = Does old new (Given given) now step

-- the node went down at a durable act
abbrev pub cut : Durable → Step
cut flight = still (act.Down None (Some flight))

-- the step's device failed, since a stop lets fewer calls pass than a record takes or by a fault of the disks: the node is
-- down with the act in flight, which is what happens by the rules at a fault
abbrev pub FailsAt : (old new : NodeState) → Input → ℕ → Durable → Type 0
FailsAt old new given now flight =
    (role : Role) (owns : List Own) → old.stands_for role owns →
    (cut flight ≡ happens role owns now true false (Given given)) × new.stands_for role (own_step given now (cut flight) ∷ owns)
    × ((is_short (left_at role owns) ≡ true) ⊎ DisksFail old.disks new.disks) × LiesWith old new role owns (own_step given now (cut flight))

-- ---- a step without an answer

-- the record of the rule's answer would end behind the disk's last byte, with both numbers
abbrev pub Overflows : NodeState → Input → ℕ → Full → Type 0
Overflows node given now full =
    (role : Role) (start : Extent) (size : ℕ) (owns : List Own) → node.stands_for role owns → node.lies role start size owns →
    EntryOver role start size owns (own_step given now (answer role owns now given)) full

-- the disks failed; or the record doesn't fit, or memory was refused, and the node stands for all that it stood for
abbrev pub AfterError : (old new : NodeState) → Input → ℕ → NodeError → Type 0
AfterError old new given now (error.Failed flight) = FailsAt old new given now flight
AfterError old new given now (error.Full full) = StandsAsBefore old new × LiesAsBefore old new × Overflows old given now full
AfterError old new given now error.NoMemory = StandsAsBefore old new × LiesAsBefore old new

-- whether the step made an own entry, and whether it took the node down
abbrev pub steps_of : Result Step NodeError → ℕ
steps_of (Ok step) = 1
steps_of (Err (error.Failed flight)) = 1
steps_of (Err _) = 0

abbrev pub goes_down : Result Step NodeError → Bool
goes_down (Err (error.Failed flight)) = true
goes_down _ = false

-- ---- restarts

-- a restart ended with this act, which is what happens by the rules, whatever was kept of what was in flight; where its boot
-- failed, a stop that came with it lets fewer calls pass than a record takes, or a fault of the disks was counted
abbrev pub Restarts : (old new : NodeState) → (pick : ℕ) → (calls : Option ℕ) → ℕ → Act → Type 0
Restarts old new pick calls now done =
    (role : Role) (owns : List Own) → old.stands_for role owns →
    (fault : Bool) × (keeps : Bool) × (still done ≡ happens role owns now fault keeps (Restarted pick calls))
    × new.stands_for role (own_entry (Restarted pick calls) now (still done) ∷ owns) × (fault ≡ true → DisksFail old.disks new.disks)
    × LiesWith old new role owns (own_entry (Restarted pick calls) now (still done))

-- There are two images of the old disks which this pick may bring back, and these stand for the records of the node with what is
-- kept, and for no others that may stand.
pub record BringsKept {R S : Type 0} (reading : Reading R S) (left : Left R) (disks : Pair) (pick : ℕ) (done : Act) : Type 0 where
  pub a : List ℕ
  pub b : List ℕ
  pub first : disks.first.may_leave a × disks.first.comes_back pick a
  pub second : disks.second.may_leave b × disks.second.comes_back pick b
  pub stand : StandsForRecords reading (kept_records done left) a b
  pub alone : (rs : List R) → MayStand left rs → StandsForRecords reading rs a b → rs ≡ kept_records done left

-- the same by the role of the node; a manager has no disks
abbrev pub RoleBrings : Role → List Own → Pair → (pick : ℕ) → Act → Type 0
RoleBrings (Coordinator times past) owns disks pick done = BringsKept of_coordinator (sessions_left past owns) disks pick done
RoleBrings (Resource setup past) owns disks pick done = BringsKept (of_resource (opening_tables setup)) (memory setup past owns).left disks pick done
RoleBrings (Manager settings) owns disks pick done = Unit {0}

-- what a restart keeps is what its pick brought back
abbrev pub Brings : NodeState → (pick : ℕ) → Act → Type 0
Brings old pick done = (role : Role) (owns : List Own) → old.stands_for role owns → RoleBrings role owns old.disks pick done

-- the node is down after a restart
abbrev pub stays_down : Result Act OpenError → Bool
stays_down (Ok (act.Restarted kept)) = false
stays_down _ = true

-- the entry of a restart whose boot fails, with what it keeps
abbrev pub boot_failed : Role → List Own → ℕ → (pick : ℕ) → (calls : Option ℕ) → (keeps : Bool) → Own
boot_failed role owns now pick calls keeps = own_entry (Restarted pick calls) now (still (act.Down (kept_act keeps owns (left_at role owns)) (Some durable.Boot)))

-- the boot of a restart would end behind the disk's last byte, by what it keeps
abbrev pub BootOverflows : NodeState → Role → List Own → ℕ → (pick : ℕ) → (calls : Option ℕ) → Full → Type 0
BootOverflows node role owns now pick calls full =
    (start : Extent) (size : ℕ) → node.lies role start size owns → (keeps : Bool) × EntryOver role start size owns (boot_failed role owns now pick calls keeps) full

-- a boot, whose bytes are as many for each number, has no place behind the records that the disks hold, on a disk of this size
abbrev pub BootHasNoPlace : Role → (disks : Pair) → (size : ℕ) → Full → Type 0
BootHasNoPlace (Resource setup past) disks size full = HasNoPlace disks size (length (record_bytes (boot_over past))) full
BootHasNoPlace _ disks size full = ⊥

-- on one of these two
abbrev pub HasNoBootPlace : Role → (disks : Pair) → Full → Type 0
HasNoBootPlace role disks full = BootHasNoPlace role disks disks.first.size full ⊎ BootHasNoPlace role disks disks.second.size full

module _ (old new : NodeState) (pick : ℕ) (calls : Option ℕ) (now : ℕ) where
  -- why a restart ended in an error: a fault of its disks, a boot that doesn't fit, or want of memory, which is free; bytes that the node
  -- stands for are never damaged
  abbrev pub IsRestartError : Role → List Own → OpenError → Type 0
  IsRestartError role owns open_error.Failed = DisksFail old.disks new.disks
  IsRestartError role owns (open_error.Damaged second at) = ⊥
  IsRestartError role owns (open_error.Full full) = BootOverflows old role owns now pick calls full × HasNoBootPlace role new.disks full
  IsRestartError role owns open_error.NoMemory = Unit {0}

  -- it gave no node that is up, and the node stands for all that it stood for; of where its journal stands nothing is said
  abbrev pub FailsRestart : OpenError → Type 0
  FailsRestart error = (role : Role) (owns : List Own) → old.stands_for role owns → new.stands_for role owns × IsRestartError role owns error
