-- Which inputs a coordinator serves: those that can be framed, with numbers of its scenario.
use Rattle.std.specs.Prelude.{◌≡◌, ℕ, true}
use Rattle.std.specs.List.{list_all}
use Rattle.seata_types.specs.declared.messages.Input.{Input}
use Rattle.seata_types.specs.declared.messages.Input.TheVariants as input
use Rattle.seata_types.specs.declared.messages.Message.{Message}
use Rattle.seata_types.specs.declared.messages.Message.TheVariants as message
use Rattle.durable_records.specs.SessionOrder.{is_counted, has_resource}
use Rattle.frame_codec.specs.Limits.{IsFramable}

-- the numbers of managers and resources in what it makes a record of
abbrev pub HasNumbers : (managers resources : ℕ) → Message → Type 0
HasNumbers managers resources (message.Begin manager timeout) = is_counted managers manager ≡ true
HasNumbers managers resources (message.Register xid resource call ticket kind hold check) =
    (is_counted resources resource ≡ true) × (list_all (has_resource resources) hold ≡ true)
HasNumbers managers resources _ = Unit {0}

pub record ServesMessage (managers resources : ℕ) (heard : Message) : Type 0 where
  pub framable : IsFramable heard
  pub numbers : HasNumbers managers resources heard

abbrev pub ServesInput : (managers resources : ℕ) → Input → Type 0
ServesInput managers resources (input.Message from heard) = ServesMessage managers resources heard
ServesInput managers resources _ = Unit {0}
