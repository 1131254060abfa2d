-- A node as contracts see it, and what always holds of it.
use Rattle.std.specs.Prelude.{◌≡◌, ℕ, Bool, true, false, List, ◌∷◌, Option}
use Rattle.journal_checkpoint.specs.Extents.{Extent}
use Rattle.journal_checkpoint.specs.Images.{Pair}
use Rattle.seata_types.specs.declared.acts.Act.TheVariants as act
use Rattle.seata_types.specs.declared.ids.Place.{Place}
use Rattle.seata_types.specs.declared.ids.Place.TheVariants as place
use Rattle.seata_types.specs.declared.messages.Input.{Input}
use Rattle.seata_types.specs.declared.messages.Step.{Step}
use Rattle.history_rules.specs.Own.{Event, Given, Stopped, Crashed, Restarted, Own, still}
use Rattle.history_rules.specs.Devices.{is_down}
use Rattle.history_rules.specs.Nodes.{Role, Coordinator, Resource, Manager}
use Rattle.node_steps.specs.Durable.{AreNodeDisks}
use Rattle.node_steps.specs.Ends.{AreLaid}

-- what contracts see of a node
pub record NodeState : Type 1 where
  -- the relation to a role, with the records that its disks had before, and to own entries, newest first
  pub stands_for : Role → List Own → Type 0
  -- the relation of its journal to where it stood at the first opening, to the size of both disks, and to own entries of a role
  pub lies : Role → (start : Extent) → (size : ℕ) → List Own → Type 0
  -- where it stands
  pub place : Place
  -- the inputs that it answers by the rules: those of its scenario
  pub serves : Input → Type 0
  -- how many steps it can still make
  pub left : ℕ
  -- whether it has disks, and is down
  pub stops : Bool
  pub down : Bool
  -- its two disks; without disks a pair that tells nothing and never fails
  pub disks : Pair

-- where a node stands
abbrev pub place_of : Role → Place
place_of (Coordinator times past) = place.Tc
place_of (Resource setup past) = place.Res setup.number
place_of (Manager settings) = place.Man settings.number

-- it has disks, so that it can be stopped, crash and be restarted
abbrev pub has_disks : Role → Bool
has_disks (Manager settings) = false
has_disks _ = true

-- the own entry of an event
abbrev pub own_entry : Event → ℕ → Step → Own
own_entry event now step = record { event = event; now = now; step = step }

-- the own entry of an event that is lost on a node
abbrev pub lost : Event → ℕ → Own
lost event now = own_entry event now (still act.Lost)

-- What it stands for says where it stands, whether it has disks, and whether it is down.
pub record Tells (node : NodeState) : Type 0 where
  pub places : (role : Role) (owns : List Own) → node.stands_for role owns → node.place ≡ place_of role
  pub with_disks : (role : Role) (owns : List Own) → node.stands_for role owns → node.stops ≡ has_disks role
  pub downs : (role : Role) (owns : List Own) → node.stands_for role owns → node.down ≡ is_down owns

-- What holds of own entries of a node that is down, holds with what was lost on it; and of one that is up, with a restart.
pub record KeepsStill (node : NodeState) (holds : Role → List Own → Type 0) : Type 0 where
  pub given : node.down ≡ true → (input : Input) (now : ℕ) (role : Role) (owns : List Own) → holds role owns → holds role (lost (Given input) now ∷ owns)
  pub stopped : node.down ≡ true → (calls now : ℕ) (role : Role) (owns : List Own) → holds role owns → holds role (lost (Stopped calls) now ∷ owns)
  pub crashed : node.down ≡ true → (now : ℕ) (role : Role) (owns : List Own) → holds role owns → holds role (lost Crashed now ∷ owns)
  pub restarted : node.stops ≡ true → node.down ≡ false → (pick : ℕ) (calls : Option ℕ) (now : ℕ) (role : Role) (owns : List Own) → holds role owns
      → holds role (own_entry (Restarted pick calls) now (still act.Nothing) ∷ owns)

-- what holds of every node
pub record IsLawful (node : NodeState) : Type 0 where
  pub tells : Tells node
  pub keeps : KeepsStill node node.stands_for
  pub lies : (start : Extent) (size : ℕ) → KeepsStill node (λ role owns. node.lies role start size owns)
  -- one that is down has disks
  pub falls : node.down ≡ true → node.stops ≡ true
  -- its disks stand for its records
  pub device : (role : Role) (owns : List Own) → node.stands_for role owns → AreNodeDisks role owns node.disks
  -- and lie as its entries leave them
  pub laid : (role : Role) (start : Extent) (size : ℕ) (owns : List Own) → node.stands_for role owns → node.lies role start size owns → AreLaid role start size owns node.disks
