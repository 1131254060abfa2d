-- A resource at its first opening.
use Rattle.std.specs.Prelude.{ℕ, List, [], ◌∷◌}
use Rattle.seata_types.specs.declared.rows.Row.{Row}
use Rattle.local_tables.specs.declared.schemas.Schema.{Schema}
use Rattle.durable_records.specs.declared.resources.ResourceRecord.{ResourceRecord}
use Rattle.durable_records.specs.declared.resources.ResourceRecord.TheVariants as log
use Rattle.history_rules.specs.ResourceMemory.{Setup}
use Rattle.resource_rules.specs.Setups.{actions_of}
use Rattle.resource_rules.specs.declared.setups.Setup.{Setup as TheSetup}

-- the setup of the rules, with these tables and the rows of their opening
abbrev pub setup_with : TheSetup → Schema → List (List ℕ × Row) → Setup
setup_with is schema opening = record {
  number = is.number;
  schema = schema;
  opening = opening;
  tries = is.tries;
  actions = actions_of is.actions;
  locals = is.locals;
}

-- over disks without records it writes its first boot
abbrev pub first_boot : List ResourceRecord
first_boot = log.Boot 1 ∷ []
