-- What a replay on its way keeps whatever its disks tell: its next entry can be made.
use Rattle.std.specs.Prelude.{◌≡◌, ◌+◌, ◌*◌, ◌≤◌, ◌<◌, ◌&&◌, ℕ, Bool, true, false, List, All, length, slice_get, Option, Some, None, Result, IfErr, OnOk}
use Rattle.std.specs.List.{list_all}
use Rattle.disk_model.specs.Disk.{DiskState}
use Rattle.seata_types.specs.declared.ids.Place.{Place}
use Rattle.seata_types.specs.declared.ids.Place.TheVariants as place
use Rattle.seata_types.specs.declared.limits.TheConstants.{LOCALS, STEPS, TICKS}
use Rattle.seata_types.specs.declared.messages.Input.{Input}
use Rattle.seata_types.specs.declared.messages.Message.{Message}
use Rattle.seata_types.specs.declared.messages.Message.TheVariants as message
use Rattle.seata_types.specs.declared.rows.RowKey.{RowKey}
use Rattle.seata_types.specs.declared.statements.Stmt.{Stmt}
use Rattle.seata_types.specs.declared.limits.TheConstants.{LATEST_MOMENT, LATEST_START}
use Rattle.scenario_form.specs.Contents.{IsBetween}
use Rattle.scenario_form.specs.Runnable.{IsPlaceAmong, IsServerAmong}
use Rattle.durable_records.specs.SessionOrder.{has_resource, is_counted}
use Rattle.history_text.specs.declared.entries.Cause.{Cause}
use Rattle.node_steps.specs.Framing.{ComesFramable}
use Rattle.seata_types.specs.declared.limits.TheConstants.{NODE_STEPS}
use Rattle.coordinator_core.specs.Standing as coordinator
use Rattle.resource_core.specs.declared.nodes.Resource.{Resource}
use Rattle.resource_core.specs.NodeStanding as resource
use Rattle.resource_core.specs.Ready.{Serves}
use Rattle.resource_core.specs.Shown as shown
use Rattle.manager_core.specs.declared.nodes.Manager.{Manager}
use Rattle.manager_core.specs.Standing as manager
use Rattle.node_seat.specs.Entering.{IsOfDisks}
use Rattle.node_seat.specs.Keeping.{IsBehind, IsInputOf}
use Rattle.node_seat.specs.declared.faults.RunFault.{RunFault}
use Rattle.scenario_nodes.specs.Nodes.{MayHear, ServesAll}
use Rattle.replay_runner.specs.declared.members.Member.{Member}
use Rattle.replay_runner.specs.declared.nodes.Nodes.{Nodes}
use Rattle.replay_runner.specs.declared.runs.Run.{Run}
use Rattle.replay_runner.specs.Ends.{HaveCountedAt}
use Rattle.replay_runner.specs.Standing.{disks_at}

-- ---- the nodes

-- before the entry with this stamp, at this moment, each entry of the node stands behind it, and the node has steps left
pub record CanGoOn {N K : Type 0} (left : N → ℕ) (steps stamp now : ℕ) (m : Member N K) : Type 0 where
  pub behind : All (IsBehind stamp now) m.seat.trace
  pub able : steps < left m.seat.node + stamp

-- the k-th resource, counted from 0, which serves each input that can be framed
pub record IsKthResource {D K : Type 0} (stamp now k : ℕ) (m : Member (Resource D) K) : Type 0 where
  pub goes : CanGoOn shown.steps_left NODE_STEPS stamp now m
  pub at : shown.stands_at m.seat.node ≡ place.Res (k + 1)
  pub serving : (given : Input) → Serves given → resource.serves m.seat.node given

-- the k-th manager
pub record IsKthManager {K : Type 0} (stamp now k : ℕ) (m : Member Manager K) : Type 0 where
  pub goes : CanGoOn manager.steps_of NODE_STEPS stamp now m
  pub number : (manager.settings m.seat.node).number ≡ k + 1

-- all nodes, so many managers and resources among them
pub record NodesGo {D K : Type 0} (managers resources stamp now : ℕ) (n : Nodes D K) : Type 0 where
  pub coordinator : CanGoOn coordinator.steps_left NODE_STEPS stamp now n.coordinator
  pub serving : ServesAll managers resources n.coordinator.seat.node
  pub resource_count : length n.resources.items ≡ resources
  pub each_resource : (k : ℕ) (m : Member (Resource D) K) → slice_get n.resources.items k ≡ Some m → IsKthResource stamp now k m
  pub manager_count : length n.managers.items ≡ managers
  pub each_manager : (k : ℕ) (m : Member Manager K) → slice_get n.managers.items k ≡ Some m → IsKthManager stamp now k m

-- ---- one entry

-- what the node at a place can be given: the coordinator what names nodes, and a resource what it serves
abbrev pub MayBeGiven : (managers resources : ℕ) → Place → Input → Type 0
MayBeGiven managers resources place.Tc given = MayHear managers resources given
MayBeGiven managers resources (place.Res n) given = Serves given
MayBeGiven managers resources _ given = Unit {0}

-- an input that can be framed; what happens to disks comes to the coordinator and to resources alone
abbrev pub CanTake : (managers resources : ℕ) → Place → Cause → Option Input → Type 0
CanTake managers resources at why (Some given) = ComesFramable given × MayBeGiven managers resources at given
CanTake managers resources at why None = IsServerAmong resources at × IsOfDisks why

-- the entry with this stamp can be made at a place, by a cause with what it gives
pub record CanEnter {D K : Type 0} (n : Nodes D K) (stamp now : ℕ) (at : Place) (why : Cause) (given : Option Input) : Type 0 where
  pub goes : NodesGo (length n.managers.items) (length n.resources.items) stamp now n
  pub counted : 1 ≤ stamp
  pub short : stamp ≤ STEPS
  pub slow : now ≤ LATEST_MOMENT
  pub there : IsPlaceAmong (length n.resources.items) (length n.managers.items) at
  pub comes : IsInputOf stamp why given
  pub takes : CanTake (length n.managers.items) (length n.resources.items) at why given

-- local transactions, each of one of so many resources, of which there are no more than numbers
pub record AreLocals (resources : ℕ) (locals : List (ℕ × List Stmt)) : Type 0 where
  pub few : length locals ≤ LOCALS
  pub each : (k : ℕ) (local : ℕ × List Stmt) → slice_get locals k ≡ Some local → IsBetween 1 resources local.0

-- ---- deliveries

abbrev pub have_resources : (resources : ℕ) → List RowKey → Bool
have_resources resources rows = list_all (has_resource resources) rows

-- A message that the coordinator of so many managers and resources may hear: the numbers that it names are counted. It serves no other, and
-- where disks don't tell their bytes only this test shows that none comes.
abbrev pub may_hear : (managers resources : ℕ) → Message → Bool
may_hear managers resources (message.Begin manager timeout) = is_counted managers manager
may_hear managers resources (message.Register xid resource call ticket kind hold check) = is_counted resources resource && have_resources resources hold
may_hear managers resources _ = true

-- a delivery fits: its receiver is a node, and the coordinator may hear its message
abbrev pub fits_delivery : (managers resources : ℕ) → Place → Message → Bool
fits_delivery managers resources place.Tc heard = may_hear managers resources heard
fits_delivery managers resources (place.Res n) heard = is_counted resources n
fits_delivery managers resources (place.Man n) heard = is_counted managers n
fits_delivery managers resources place.Net heard = false

-- ---- the replay

-- with so many managers and resources, and after so many entries
pub record Goes {D K : Type 0} (managers resources entries : ℕ) (r : Run D K) : Type 0 where
  pub nodes : NodesGo managers resources (entries + 1) r.clock r.nodes
  pub places : length r.places.items ≡ entries
  pub letters : length r.messages.letters.items ≡ entries
  pub marks : length r.messages.taken.items ≡ entries
  pub within : r.messages.waiting ≤ entries
  pub slow : r.clock ≤ LATEST_START + entries * TICKS

-- so many entries more can be made
pub record CanGo {D K : Type 0} (r : Run D K) (steps : ℕ) : Type 0 where
  pub goes : Goes (length r.nodes.managers.items) (length r.nodes.resources.items) (length r.places.items) r
  pub room : length r.places.items + steps ≤ STEPS

-- they were made
abbrev pub Went : {D K : Type 0} → (old new : Run D K) → (steps : ℕ) → Type 0
Went old new steps = Goes (length old.nodes.managers.items) (length old.nodes.resources.items) (length old.places.items + steps) new

-- What came of a call that was to make so many entries: at Ok they were made, and after a fault by disks these counted it. There are as
-- many resources as before.
pub record HasGone {D K : Type 0} (state : D → DiskState) (old new : Run D K) (steps : ℕ) (result : Result (Unit {0}) RunFault) : Type 0 where
  pub failed : IfErr result (HaveCountedAt (disks_at state new.nodes))
  pub went : OnOk result (Went old new steps)
  pub count : length new.nodes.resources.items ≡ length old.nodes.resources.items

-- the next entry can be made at a place, by a cause with what it gives
pub record CanMake {D K : Type 0} (r : Run D K) (at : Place) (why : Cause) (given : Option Input) : Type 0 where
  pub can : CanGo r 1
  pub there : IsPlaceAmong (length r.nodes.resources.items) (length r.nodes.managers.items) at
  pub comes : IsInputOf (length r.places.items + 1) why given
  pub takes : CanTake (length r.nodes.managers.items) (length r.nodes.resources.items) at why given
