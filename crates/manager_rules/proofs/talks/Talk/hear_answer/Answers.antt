use Rattle.std.proofs.Common.{sym, subst, ◌∙◌}
use Rattle.manager_rules.specs.Answers.{Hears}
use Rattle.manager_rules.proofs.Facts.{present_is}
use Rattle.manager_rules.proofs.talks.Talk.hear_answer.Goals as goal

pub returns-then-is_present : goal.returns-then-is_present
returns-then-is_present c =
    subst (λ h. Hears c.args.self.now c.take_answer.new.self h c.take_answer.result)
    (present_is c.args.xid c.in-Answer.told c.args.done c.in-Answer.call c.in-Answer.answer (sym c.is_present.ensures ∙ c.if-is_present.true) ∙ sym c.in-Answer.is)
    c.take_answer.ensures
