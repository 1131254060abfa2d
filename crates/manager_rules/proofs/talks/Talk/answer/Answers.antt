use Rattle.std.proofs.Common.{◌∙◌, ap, sym, subst}
use Rattle.seata_types.specs.declared.messages.Input.TheVariants as input
use Rattle.manager_rules.specs.Answers.{Answers}
use Rattle.manager_rules.proofs.talks.Talk.answer.Goals as goal

pub returns-in-Message : goal.returns-in-Message
returns-in-Message c =
    subst (λ g. Answers c.args.self.now c.hear.new.self g c.hear.result)
    (ap (input.Message c.in-Message.from) c.get.ensures ∙ sym c.in-Message.is) (c.hear.ensures c.in-Message.from)
