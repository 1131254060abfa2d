-- What is safe about messages: each one that is sent goes from a node to a node, and what the coordinator is told names nodes.
use Rattle.std.specs.Prelude.{◌≡◌, ℕ, true, List, length, slice_get, Some}
use Rattle.std.specs.List.{list_all}
use Rattle.seata_types.specs.declared.ids.Place.{Place}
use Rattle.seata_types.specs.declared.messages.Message.{Message}
use Rattle.seata_types.specs.declared.messages.Message.TheVariants as message
use Rattle.seata_types.specs.declared.messages.Outgoing.{Outgoing}
use Rattle.seata_types.specs.declared.statements.Work.{Work}
use Rattle.durable_records.specs.declared.coordinators.SessionRecord.{SessionRecord}
use Rattle.durable_records.specs.Branches.{Grant, grants}
use Rattle.durable_records.specs.SessionOrder.{is_counted, has_resource, is_within}
use Rattle.history_rules.specs.ResourceMemory.{Setup}
use Rattle.history_rules.specs.ManagerRules.{Settings}
use Rattle.history_rules.specs.Nodes.{World, Past, Role, role_at, counted_at}
use Rattle.history_rules.specs.Histories.{Moment, Legal}
use Rattle.history_rules.specs.Chains.{IsBlankPast}
use Rattle.history_law.specs.Points.{In}
use Rattle.history_law.specs.Network.{EachSent}
use Rattle.history_law.specs.TicketSafety.{AreNumbered}

-- a node stands at a place
abbrev pub IsNode : World → Past → Place → Type 0
IsNode w past p = (role : Role) × (role_at w past p ≡ Some role)

-- what a message to the coordinator names: a Begin a manager, a Register a resource, with rows of resources
abbrev pub NamesNodes : World → Message → Type 0
NamesNodes w (message.Begin manager timeout) = is_counted (length w.managers) manager ≡ true
NamesNodes w (message.Register xid resource call ticket kind hold check) =
    (is_counted (length w.resources) resource ≡ true) × (list_all (has_resource (length w.resources)) hold ≡ true)
NamesNodes w _ = Unit {0}

-- a message goes from a node to a node, and names nodes
pub record ReachesNode (w : World) (past : Past) (from : Place) (out : Outgoing) : Type 0 where
  pub sender : IsNode w past from
  pub receiver : IsNode w past out.to
  pub named : NamesNodes w out.message

-- resources and managers stand at their numbers, and each call is one of a resource
pub record NamesItsNodes (w : World) : Type 0 where
  pub numbered : AreNumbered w
  pub managed : (n : ℕ) (s : Settings) → counted_at w.managers n ≡ Some s → s.number ≡ n
  pub called : (n : ℕ) (s : Settings) → counted_at w.managers n ≡ Some s → (c r : ℕ) (work : Work) → slice_get s.calls c ≡ Some (r, work)
      → (setup : Setup) × (counted_at w.resources r ≡ Some setup)

-- each branch of these records is of a resource
abbrev pub AreOfResources : World → List SessionRecord → Type 0
AreOfResources w rs = (g : Grant) → In g (grants rs) → is_counted (length w.resources) g.resource ≡ true

-- in a legal history over records whose branches are of resources
abbrev pub MessagesOverAnyRecords : Type 0
MessagesOverAnyRecords = (w : World) (past : Past) (ms : List Moment) → NamesItsNodes w → AreOfResources w past.sessions → Legal w past ms → EachSent (ReachesNode w past) ms

-- the branches of records that a coordinator of so many managers and resources can have made are of its resources
abbrev pub RecordsNameResources : Type 0
RecordsNameResources = (w : World) (managers : ℕ) (rs : List SessionRecord) → list_all (is_within managers (length w.resources)) rs ≡ true → AreOfResources w rs

-- so in a legal history over disks without records
abbrev pub MessagesLaw : Type 0
MessagesLaw = (w : World) (past : Past) (ms : List Moment) → NamesItsNodes w → IsBlankPast past → Legal w past ms → EachSent (ReachesNode w past) ms
