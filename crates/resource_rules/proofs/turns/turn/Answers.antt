use Rattle.std.proofs.Common.{◌∙◌, Option, option_map, sym, ap}
use Rattle.std.specs.Option.{option_copied}
use Rattle.local_txn.specs.Answers.{open_of}
use Rattle.resource_rules.proofs.TurnAnswers.{nothing, turns_ok}
use Rattle.resource_rules.proofs.turns.turn.Goals as goal

pub returns-in-Some : goal.returns-in-Some
returns-in-Some c =
    turns_ok c.args.setup.now c.args.txns.now c.in-Some.txn.now (sym c.oldest.ensures ∙ ap (λ (o : Option _). option_map open_of (option_copied o)) c.in-Some.is) c.resent.result c.resent.ensures

pub returns-in-None : goal.returns-in-None
returns-in-None c = λ k.
    nothing c.args.setup.now k c.args.txns.now (sym c.oldest.ensures ∙ ap (λ (o : Option _). option_map open_of (option_copied o)) c.in-None.is) _ c.rests.ensures
