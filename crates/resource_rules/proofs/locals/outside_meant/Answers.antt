use Rattle.std.proofs.Common.{◌≡◌, ◌∙◌, ℕ, Result, Err, ap, sym, arith}
use Rattle.std.proofs.lemmas.Grind.{common_steps}
use Rattle.seata_types.specs.declared.errors.StmtError.{StmtError}
use Rattle.local_tables.specs.Calls.{effect}
use Rattle.local_tables.specs.declared.schemas.Effect.{Effect}
use Rattle.resource_rules.specs.Locals.{outside_meant}
use Rattle.resource_rules.proofs.locals.outside_meant.Goals as goal

pub returns-in-Err : goal.returns-in-Err
returns-in-Err c =
    let means : ◌≡◌ {A = Result Effect (ℕ × StmtError)} (effect c.args.tables.now c.args.stmts.now) (Err (c.in-Err.index, c.in-Err.why)) = grind (arith, common_steps) in
    c.refused.ensures c.args.txns.now.opens ∙ ap (outside_meant c.args.txns.now.opens c.args.number) (sym means)
