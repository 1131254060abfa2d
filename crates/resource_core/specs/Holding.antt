-- What a resource keeps of what its entries leave: its store keeps the records, and its open local transactions are the open
-- tickets.
use Rattle.std.specs.Prelude.{◌≡◌}
use Rattle.disk_model.specs.Disk.{DiskState}
use Rattle.history_rules.specs.ResourceMemory.{Setup, Memory}
use Rattle.resource_store.specs.Keeping.{setting_of, KeepsRecords}
use Rattle.resource_rules.specs.Answers.{tickets_in}
use Rattle.resource_rules.specs.Setups.{actions_of}
use Rattle.resource_core.specs.declared.branches.Branches.{Branches}

-- what it is
abbrev pub setup_of : {D : Type 0} → Branches D → Setup
setup_of b = record {
  number = (setting_of b.store).resource;
  schema = (setting_of b.store).schema;
  opening = (setting_of b.store).opening;
  tries = b.setup.tries;
  actions = actions_of b.setup.actions;
  locals = b.setup.locals;
}

pub record Holds {D : Type 0} (state : D → DiskState) (b : Branches D) (m : Memory) : Type 0 where
  pub keeps : KeepsRecords state (setting_of b.store) m.left.records b.store
  pub tickets : b.txns ≡ tickets_in m
