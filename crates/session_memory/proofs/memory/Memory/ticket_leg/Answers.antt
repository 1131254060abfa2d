use Rattle.std.proofs.Common.{◌∙◌, sym, subst}
use Rattle.session_log.specs.declared.sessions.Snapshot.{Snapshot}
use Rattle.session_log.specs.Soundness.{entry_xid}
use Rattle.session_memory.specs.Order.{AreRising}
use Rattle.session_memory.proofs.OwnerLaws.{owned_as, none_owned, leg_owned}
use Rattle.session_memory.proofs.memory.Memory.ticket_leg.Goals as goal

pub returns-in-Some-clause-leg : goal.returns-in-Some-clause-leg
returns-in-Some-clause-leg g c =
    c.if_known.ensures.leg
    ∙ sym (leg_owned c.self.inside.owners c.args.resource c.args.ticket c.in-Some.leg (sym c.find.ensures ∙ c.in-Some.is) c.args.self.now
    (owned_as c.self.inside.owners c.self.inside.snapshot c.args.self.now (sym c.self.view_is) c.self.invariant.1)
    (subst (λ (s : Snapshot). AreRising entry_xid s.sessions) c.self.view_is c.self.invariant.0.counted.rising))

pub returns-in-None-clause-leg : goal.returns-in-None-clause-leg
returns-in-None-clause-leg g c =
    sym (none_owned c.self.inside.owners c.args.resource c.args.ticket c.args.self.now.sessions
    (owned_as c.self.inside.owners c.self.inside.snapshot c.args.self.now (sym c.self.view_is) c.self.invariant.1) (sym c.find.ensures ∙ c.in-None.is))
