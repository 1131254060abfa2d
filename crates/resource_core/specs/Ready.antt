-- What a resource needs to answer, whatever its disks keep: it is up, and what it is, knows and has open has places in its journal and
-- in frames.
use Rattle.std.specs.Prelude.{◌≡◌, false}
use Rattle.seata_types.specs.declared.messages.Input.{Input}
use Rattle.resource_store.specs.Keeping.{setting_of, known, is_down}
pub use Rattle.resource_rules.specs.Ready.{AreStmtsWithin, AreTicketsWithin, HasActionWithin, HasRows, HasStmtsWithin, IsActionWithin, IsCallWithin, IsKnownWithin, IsOwnedWithin, IsTicketWithin, ServesWithin, ServesWork}
use Rattle.resource_rules.specs.Ready as rules
use Rattle.resource_core.specs.declared.branches.Branches.{Branches}

pub record IsReady {D : Type 0} (b : Branches D) : Type 0 where
  pub up : is_down b.store ≡ false
  pub numbered : b.setup.number ≡ (setting_of b.store).resource
  pub within : rules.IsReady b.setup (known b.store) b.txns

-- a message that can be framed, and a local transaction with a number of a scenario's
abbrev pub Serves : Input → Type 0
Serves given = ServesWithin given
