use Rattle.std.proofs.Common.{sym, subst}
use Rattle.manager_core.specs.Within.{IsWithin}
use Rattle.manager_core.proofs.Framed.{framed_by, stays}
use Rattle.manager_core.proofs.speakers.Speaker.answer.Goals as goal

pub invariant_of-self : goal.invariant_of-self
invariant_of-self c = subst IsWithin (sym (stays _ _ c.args.given.now c.answer.result c.answer.ensures)) c.self.invariant

pub returns-clause-framable : goal.returns-clause-framable
returns-clause-framable c = framed_by _ _ c.args.given.now c.answer.result c.self.invariant c.answer.ensures
