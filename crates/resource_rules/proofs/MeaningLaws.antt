-- What statements mean, by the call that computes it.
use Rattle.std.proofs.Common.{◌≡◌, ◌∙◌, ℕ, Result, Ok, Err, sym}
use Rattle.std.specs.Prelude.{IfOk}
use Rattle.seata_types.specs.declared.copies.NoMemory.{NoMemory}
use Rattle.seata_types.specs.declared.errors.StmtError.{StmtError}
use Rattle.local_tables.specs.Calls.{Means}
use Rattle.local_tables.specs.declared.schemas.Effect.{Effect}
use Rattle.local_tables.specs.declared.schemas.EffectError.{EffectError}
use Rattle.local_tables.specs.declared.schemas.EffectError.TheVariants as fault
use Rattle.resource_rules.specs.Meanings.{Tells}

pub unmeant : (meaning : Result Effect (ℕ × StmtError)) (error : EffectError) (result : Result (Result Effect (ℕ × StmtError)) NoMemory) → Means {X = Effect} meaning (Err error) → Tells error result
    → IfOk result (λ found. found ≡ meaning)
unmeant meaning (fault.At index why) (Ok found) means is = is ∙ sym means
unmeant meaning (fault.At index why) (Err e) means is = tt
unmeant meaning fault.NoMemory (Ok found) means is = absurd is
unmeant meaning fault.NoMemory (Err e) means is = tt
