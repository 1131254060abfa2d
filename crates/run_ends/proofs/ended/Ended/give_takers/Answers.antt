use Rattle.std.proofs.Common.{◌∙◌, ap, subst, vec_items}
use Rattle.durable_records.specs.Members.{In}
use Rattle.run_ends.proofs.Giving.{taken_links}
use Rattle.run_ends.proofs.ended.Ended.give_takers.Goals as goal

pub invariant_of-self : goal.invariant_of-self
invariant_of-self g c = record { takes = λ t h. absurd (subst (In t) (ap vec_items c.replace.ensures.after ∙ c.new.ensures.items) h); sends = c.self.invariant.sends }

pub returns-clause-links : goal.returns-clause-links
returns-clause-links g c = taken_links g.K.RunName.run _ c.args.self.now c.self.invariant c.self.view_is c.replace.result.items (ap vec_items c.replace.ensures.value)
