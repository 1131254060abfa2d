use Rattle.std.proofs.lemmas.Bool.Decides.{nat_tests}
use Rattle.std.proofs.Common.{◌≡◌, ◌-◌, ◌<◌, subst, arith}
use Rattle.retry_turns.specs.Plans.{IsNoneDue, TellsDue}
use Rattle.coordinator_rules.proofs.Firsts.{never_old, none_old}
use Rattle.coordinator_rules.proofs.choosing.least_old.Goals as goal

pub returns-then-forget-eq0 : goal.returns-then-forget-eq0
returns-then-forget-eq0 c = let none : c.args.forget ≡ 0 = grind (arith, nat_tests) in never_old c.args.rests.now c.args.forget c.args.now c.args.sessions.now none

pub returns-then-now-forget : goal.returns-then-now-forget
returns-then-now-forget c =
    let early : c.args.now < c.args.forget = grind (arith, nat_tests) in
    none_old c.args.rests.now c.args.forget c.args.now c.args.sessions.now (λ x n planned. omega (arith, early))

pub returns-in_default : goal.returns-in_default
returns-in_default c =
    let due : IsNoneDue c.args.rests.now (c.args.now - c.args.forget) = subst (TellsDue c.args.rests.now (c.args.now - c.args.forget)) c.in_default.is c.next_due.ensures in
    none_old c.args.rests.now c.args.forget c.args.now c.args.sessions.now
    (λ x n planned. let late : c.args.now - c.args.forget < n = due x n planned in omega (arith, late, c.if-now-forget.false))
