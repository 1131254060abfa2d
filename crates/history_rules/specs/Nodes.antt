-- What a node is, and what happens at it: its rule's answer, as far as its disk and its stops let it.
use Rattle.std.specs.Prelude.{◌≡◌, ◌⊎◌, ℕ, zero, suc, Bool, true, false, if◌then◌else◌, List, [], ◌∷◌, slice_get, Option, Some, None, option_map}
use Rattle.seata_types.specs.declared.acts.Act.TheVariants as act
use Rattle.seata_types.specs.declared.ids.Place.{Place}
use Rattle.seata_types.specs.declared.ids.Place.TheVariants as place
use Rattle.seata_types.specs.declared.messages.Input.{Input}
use Rattle.seata_types.specs.declared.messages.Step.{Step}
use Rattle.durable_records.specs.declared.coordinators.SessionRecord.{SessionRecord}
use Rattle.durable_records.specs.declared.resources.ResourceRecord.{ResourceRecord}
use Rattle.history_rules.specs.Own.{Event, Given, Stopped, Crashed, Restarted, Own, Left, still}
use Rattle.history_rules.specs.Devices.{is_down, calls_left, fails, kept_act, written, restarted}
use Rattle.history_rules.specs.CoordinatorMemory.{Times, sessions_left}
use Rattle.history_rules.specs.CoordinatorRules.{coordinator_answer}
use Rattle.history_rules.specs.ResourceMemory.{Setup, memory}
use Rattle.history_rules.specs.ResourceRules.{resource_answer}
use Rattle.history_rules.specs.ManagerRules.{Settings, manager_answer}

-- a node: its settings, and the records that its disks had at its first opening
pub data Role : Type 0 where
  Coordinator : Times → List SessionRecord → Role
  Resource : Setup → List ResourceRecord → Role
  Manager : Settings → Role

-- the settings of all nodes; resources and managers are counted from 1 in these lists
pub record World : Type 0 where
  pub times : Times
  pub resources : List Setup
  pub managers : List Settings

-- the records that the disks of the coordinator, and of each resource, had before
pub record Past : Type 0 where
  pub sessions : List SessionRecord
  pub resource : ℕ → List ResourceRecord

-- disks without records
abbrev pub no_past : Past
no_past = record { sessions = []; resource = λ n. [] }

-- the one at a number that is counted from 1
abbrev pub counted_at : {A : Type 0} → List A → ℕ → Option A
counted_at list zero = None
counted_at list (suc n) = slice_get list n

-- each resource stands at its number
abbrev pub AreNumbered : World → Type 0
AreNumbered w = (n : ℕ) (setup : Setup) → counted_at w.resources n ≡ Some setup → setup.number ≡ n

-- what stands at a place: a node, or none
abbrev pub role_at : World → Past → Place → Option Role
role_at w past place.Net = None
role_at w past place.Tc = Some (Coordinator w.times past.sessions)
role_at w past (place.Res n) = option_map (λ s. Resource s (past.resource n)) (counted_at w.resources n)
role_at w past (place.Man n) = option_map (λ m. Manager m) (counted_at w.managers n)

-- a resource's restart writes a boot
abbrev pub writes_boot : Role → Bool
writes_boot (Resource setup past) = true
writes_boot _ = false

-- the rule's one answer to an input
abbrev pub answer : Role → List Own → ℕ → Input → Step
answer (Coordinator times past) os now given = coordinator_answer times past os (sessions_left past os).records now given
answer (Resource setup past) os now given = resource_answer setup (memory setup past os) given
answer (Manager settings) os now given = manager_answer settings os given

-- how many calls of its disk a stop still lets a node make
abbrev pub left_at : Role → List Own → Option ℕ
left_at role os = calls_left (writes_boot role) os

module _ (role : Role) (os : List Own) (now : ℕ) (fault keeps : Bool) where
  -- a rule's answer, as far as the disk and a stop let it
  abbrev pub given_answer : Step → Step
  given_answer step = written (fails fault (left_at role os)) step step.act

  -- at a node that is up: the rule's answer; a stop arms it, a crash takes it down, and a restart does nothing
  abbrev pub up_answer : Event → Step
  up_answer (Given given) = given_answer (answer role os now given)
  up_answer (Stopped calls) = still act.Armed
  up_answer Crashed = still (act.Down None None)
  up_answer (Restarted pick calls) = still act.Nothing

  -- at a node that is down: a restart opens it again, and all else is lost
  abbrev pub down_answer : Event → Step
  down_answer (Restarted pick calls) = restarted (writes_boot role) (fails fault calls) (kept_act keeps os (left_at role os))
  down_answer _ = still act.Lost

  -- what happens at a node, by two free choices: whether its disk fails, and whether what was in flight is kept
  abbrev pub happens : Event → Step
  happens event = if is_down os then down_answer event else up_answer event

-- stops, crashes and restarts come at the coordinator and at resources alone
abbrev pub ComesTo : Role → Event → Type 0
ComesTo role (Given given) = Unit {0}
ComesTo (Manager settings) event = ⊥
ComesTo role event = Unit {0}

-- a step is what may happen at a node after these entries
pub record Happens (role : Role) (os : List Own) (now : ℕ) (event : Event) (step : Step) : Type 0 where
  pub fault : Bool
  pub keeps : Bool
  pub comes : ComesTo role event
  pub done : step ≡ happens role os now fault keeps event

-- for the proofs alone: own entries of a node, each of which may happen after those before it
abbrev pub Ran : Role → List Own → Type 0
Ran role [] = Unit {0}
Ran role (o ∷ os) = Ran role os × Happens role os o.now o.event o.step

-- ---- durable

-- a list is what may stand on the disks: the records that stand, or, while the node is down, these and the one in flight
abbrev pub MayStand : {R : Type 0} → Left R → List R → Type 0
MayStand {R} left rs = (rs ≡ left.records) ⊎ ((r : R) × (left.flight ≡ Some r) × (rs ≡ r ∷ left.records))
