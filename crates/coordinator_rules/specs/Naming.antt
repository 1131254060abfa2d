-- The nodes that the coordinator's inputs and steps name: those of its scenario, so that each number has a name and each message
-- a receiver.
use Rattle.std.specs.Prelude.{◌≡◌, ℕ, true, IfSome, List, Some}
use Rattle.std.specs.List.{list_all}
use Rattle.seata_types.specs.declared.acts.Act.{Act}
use Rattle.seata_types.specs.declared.acts.Act.TheVariants as act
use Rattle.seata_types.specs.declared.ids.Place.{Place}
use Rattle.seata_types.specs.declared.ids.Place.TheVariants as place
use Rattle.seata_types.specs.declared.messages.Input.{Input}
use Rattle.seata_types.specs.declared.messages.Input.TheVariants as input
use Rattle.seata_types.specs.declared.messages.Message.{Message}
use Rattle.seata_types.specs.declared.messages.Message.TheVariants as message
use Rattle.seata_types.specs.declared.messages.Outgoing.{Outgoing}
use Rattle.seata_types.specs.declared.messages.Registered.TheVariants as registered
use Rattle.seata_types.specs.declared.messages.Step.{Step}
use Rattle.seata_types.specs.declared.rows.RowKey.{RowKey}
use Rattle.durable_records.specs.SessionOrder.{is_counted, has_resource}

-- a place in a scenario with so many managers and resources
abbrev pub IsNode : (managers resources : ℕ) → Place → Type 0
IsNode managers resources place.Net = ⊥
IsNode managers resources place.Tc = Unit {0}
IsNode managers resources (place.Res n) = is_counted resources n ≡ true
IsNode managers resources (place.Man n) = is_counted managers n ≡ true

-- each row is one of a resource
abbrev pub AreRows : (resources : ℕ) → List RowKey → Type 0
AreRows resources rows = list_all (has_resource resources) rows ≡ true

-- the numbers that a message of or to the coordinator has
abbrev pub NamesNodes : (managers resources : ℕ) → Message → Type 0
NamesNodes managers resources (message.Begin manager timeout) = is_counted managers manager ≡ true
NamesNodes managers resources (message.Register xid resource call ticket kind hold check) =
    (is_counted resources resource ≡ true) × AreRows resources hold × AreRows resources check
NamesNodes managers resources (message.LockQuery resource ticket check) = (is_counted resources resource ≡ true) × AreRows resources check
NamesNodes managers resources (message.RegisterAnswer ticket xid (registered.Conflict key holder rolling)) = has_resource resources key ≡ true
NamesNodes managers resources (message.LockAnswer ticket (Some held)) = has_resource resources held.0 ≡ true
NamesNodes managers resources (message.BranchCommit xid branch kind manager call) = is_counted managers manager ≡ true
NamesNodes managers resources (message.BranchRollback xid branch kind manager call) = is_counted managers manager ≡ true
NamesNodes managers resources _ = Unit {0}

-- a message that comes from a node, with the numbers of nodes, or no message
abbrev pub ComesNamed : (managers resources : ℕ) → Input → Type 0
ComesNamed managers resources (input.Message from heard) = IsNode managers resources from × NamesNodes managers resources heard
ComesNamed managers resources _ = Unit {0}

-- the rows that an act names
abbrev pub ActNames : (resources : ℕ) → Act → Type 0
ActNames resources (act.Conflict xid key holder rolling) = has_resource resources key ≡ true
ActNames resources (act.Held key holder) = has_resource resources key ≡ true
ActNames resources _ = Unit {0}

-- a message that goes to a node, with the numbers of nodes
abbrev pub GoesNamed : (managers resources : ℕ) → Outgoing → Type 0
GoesNamed managers resources out = IsNode managers resources out.to × NamesNodes managers resources out.message

pub record IsNamed (managers resources : ℕ) (step : Step) : Type 0 where
  pub act : ActNames resources step.act
  pub sent : IfSome step.sent (GoesNamed managers resources)

-- a step that names one resource at most, this one
abbrev pub NamesResource : ℕ → Step → Type 0
NamesResource resource step = (managers resources : ℕ) → is_counted resources resource ≡ true → IsNamed managers resources step
