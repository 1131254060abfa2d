use Rattle.std.proofs.Common.{sym}
use Rattle.resource_rules.proofs.LocalAnswers.{outside_busy}
use Rattle.resource_rules.proofs.locals.outside_free.Goals as goal

pub returns-in-Some : goal.returns-in-Some
returns-in-Some c =
    outside_busy c.args.txns.now.opens c.args.number c.args.effect c.in-Some.key.now c.in-Some.by c.busy-in-Some.result (sym c.in-Some.ensures) c.busy-in-Some.ensures
