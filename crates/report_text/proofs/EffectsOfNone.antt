-- No statements have no effect.
use Rattle.std.proofs.Common.{◌≡◌, [], refl}
use Rattle.local_tables.specs.Calls.{effect}
use Rattle.local_tables.specs.Rows.{Database}
use Rattle.history_rules.specs.ResourceMemory.{effect_on, no_effect}

pub no_statements : (db : Database) → effect_on db [] ≡ no_effect
unfolding effect
no_statements db = refl
