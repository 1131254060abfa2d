use Rattle.std.proofs.Common.{◌≡◌, ◌∙◌, sym, ap, Some, None, arith}
use Rattle.std.proofs.lemmas.Grind.{common_steps}
use Rattle.lock_table.specs.Locks.{Holds, leg_of, without_xid}
use Rattle.lock_table.proofs.Released.{fewer, released, none_left}
use Rattle.lock_table.proofs.holding.give_all.Goals as goal

pub loop-leg-smaller : goal.loop-leg-smaller
loop-leg-smaller c =
    let found : leg_of c.loop-leg.legs.entries c.args.xid ≡ Some c.in-Some.leg = sym c.leg_of.ensures ∙ c.in-Some.is in
    rw c.give_leg.ensures.legs (fewer c.loop-leg.legs.entries c.args.xid c.in-Some.leg found)

pub loop-leg-preserved : goal.loop-leg-preserved
loop-leg-preserved c =
    let found : leg_of c.loop-leg.legs.entries c.args.xid ≡ Some c.in-Some.leg = sym c.leg_of.ensures ∙ c.in-Some.is in
    record {
      index = c.give_leg.ensures.index;
      left = ap (λ (hs : Holds). without_xid hs c.args.xid) c.give_leg.ensures.legs ∙ released c.loop-leg.legs.entries c.args.xid c.in-Some.leg found ∙ c.loop-leg.invariant.left;
    }

pub returns-clause-legs : goal.returns-clause-legs
returns-clause-legs c =
    let none : c.leg_of.result ≡ None = grind (arith, common_steps) in
    sym (none_left c.loop-leg.legs.entries c.args.xid (sym c.leg_of.ensures ∙ none)) ∙ c.loop-leg.invariant.left
