use Rattle.std.proofs.Common.{◌-◌, ℕ, drop, subst, arith}
use Rattle.session_memory.specs.Ends.{IsEnded}
use Rattle.session_memory.specs.Order.{Each}
use Rattle.session_memory.proofs.EndsLaws.{last_found, none_open}
use Rattle.session_memory.proofs.ends.last_open.Goals as goal

pub returns-then-last-eq0 : goal.returns-then-last-eq0
returns-then-last-eq0 c =
    none_open c.args.branches.now (subst (λ (n : ℕ). Each IsEnded (drop n c.args.branches.now)) c.if-last-eq0.true c.last_before-last.ensures.behind)

pub returns : goal.returns
returns c =
    last_found (c.last_before-last.result - 1) c.last_before-last.result c.args.branches.now c.index-branches-last.result (omega (arith, c.if-last-eq0.false))
    c.last_before-last.ensures c.index-branches-last.is
