use Rattle.std.proofs.Common.{◌∙◌, ap, subst, sym}
use Rattle.seata_types.specs.declared.messages.Input.{Input}
use Rattle.seata_types.specs.declared.messages.Input.TheVariants as input
use Rattle.seata_types.specs.declared.messages.Message.{Message}
use Rattle.resource_rules.specs.Answers.{Answers}
use Rattle.resource_rules.specs.Serving.{Serves, ServesMessage}
use Rattle.resource_rules.proofs.RulingLaws.{of_like, ok_as}
use Rattle.resource_rules.proofs.ruling.answer.Goals as goal

pub hear-requires-clause-served : goal.hear-requires-clause-served
hear-requires-clause-served c = subst (λ (m : Message). ServesMessage m) (sym c.get.ensures) (subst (λ (i : Input). Serves i) c.in-Message.is c.requires.served)

pub returns-in-Turn : goal.returns-in-Turn
returns-in-Turn c =
    of_like (Answers c.args.setup.now c.args.memory.now c.args.txns.now) c.args.given.now _ c.turn.result c.in-Turn.is (ok_as c.turn.result (λ a all. all c.args.memory.now) c.turn.ensures)

pub returns-in-Message : goal.returns-in-Message
returns-in-Message c =
    of_like (Answers c.args.setup.now c.args.memory.now c.args.txns.now) c.args.given.now (input.Message c.in-Message.from c.get.result.now) c.hear.result
    (c.in-Message.is ∙ ap (input.Message c.in-Message.from) (sym c.get.ensures)) (ok_as c.hear.result (λ a all. all _) c.hear.ensures)

pub returns-in-Local : goal.returns-in-Local
returns-in-Local c = of_like (Answers c.args.setup.now c.args.memory.now c.args.txns.now) c.args.given.now _ c.local.result c.in-Local.is c.local.ensures

pub returns-in-Outside : goal.returns-in-Outside
returns-in-Outside c = of_like (Answers c.args.setup.now c.args.memory.now c.args.txns.now) c.args.given.now _ c.outside.result c.in-Outside.is c.outside.ensures
