-- What is asked of an input: a call is counted from 1, and has no more statements than are counted.
use Rattle.std.specs.Prelude.{◌≤◌}
use Rattle.seata_types.specs.declared.messages.Input.{Input}
use Rattle.seata_types.specs.declared.messages.Input.TheVariants as input
use Rattle.seata_types.specs.declared.messages.Message.{Message}
use Rattle.seata_types.specs.declared.messages.Message.TheVariants as message
use Rattle.resource_rules.specs.Calls.{HasFewStatements}

abbrev pub ServesMessage : Message → Type 0
ServesMessage (message.Call xid manager resource call w) = (1 ≤ call) × HasFewStatements w
ServesMessage _ = Unit {0}

abbrev pub Serves : Input → Type 0
Serves (input.Message from heard) = ServesMessage heard
Serves _ = Unit {0}
