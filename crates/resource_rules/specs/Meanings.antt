-- For the proofs alone: what is answered where statements have no effect.
use Rattle.std.specs.Prelude.{◌≡◌, ℕ, Result, Ok, Err}
use Rattle.seata_types.specs.declared.copies.NoMemory.{NoMemory}
use Rattle.seata_types.specs.declared.errors.StmtError.{StmtError}
use Rattle.local_tables.specs.declared.schemas.Effect.{Effect}
use Rattle.local_tables.specs.declared.schemas.EffectError.{EffectError}
use Rattle.local_tables.specs.declared.schemas.EffectError.TheVariants as fault

-- the statement without a meaning is told; memory alone can be wanting
abbrev pub Tells : EffectError → Result (Result Effect (ℕ × StmtError)) NoMemory → Type 0
Tells (fault.At index why) (Ok found) = found ≡ Err (index, why)
Tells (fault.At index why) (Err e) = ⊥
Tells fault.NoMemory (Ok found) = ⊥
Tells fault.NoMemory (Err e) = Unit {0}
