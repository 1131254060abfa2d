use Rattle.std.proofs.Common.{◌∙◌, ap, arith}
use Rattle.resource_memory.specs.Known.{Known}
use Rattle.resource_rules.proofs.LocalAnswers.{outside_known, outside_ok}
use Rattle.resource_rules.proofs.locals.outside_for.Goals as goal

pub returns-clause-rules : goal.returns-clause-rules
returns-clause-rules c =
    outside_ok c.args.memory.now c.args.txns.now.opens c.args.number c.args.stmts.now c.tables.result.now c.kept-known.ensures.kept.rows (omega (arith, c.ranges.number.fits))
    (c.tables.ensures ∙ ap (λ (k : Known). k.tables) c.kept-known.ensures.same) c.outside_meant.result c.outside_meant.ensures

pub returns-clause-known : goal.returns-clause-known
returns-clause-known c =
    outside_known c.args.memory.now c.args.txns.now.opens c.args.number c.args.stmts.now c.tables.result.now
    (c.tables.ensures ∙ ap (λ (k : Known). k.tables) c.kept-known.ensures.same) c.outside_meant.result c.outside_meant.ensures
