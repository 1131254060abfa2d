use Rattle.std.proofs.Common.{◌∙◌, refl, sym}
use Rattle.local_txn.specs.OpenTickets.{last_of}
use Rattle.resource_rules.proofs.TurnAnswers.{last_found, none_last}
use Rattle.resource_rules.proofs.turns.oldest.Goals as goal

pub returns-in-Some : goal.returns-in-Some
returns-in-Some c =
    c.find.ensures ∙ last_found c.args.txns.now.opens c.in-Some.ticket (last_of c.args.txns.now.opens) refl (sym c.next_to_send.ensures.last ∙ c.in-Some.is) c.next_to_send.ensures.found

pub returns-in-None : goal.returns-in-None
returns-in-None c = none_last (last_of c.args.txns.now.opens) (sym c.next_to_send.ensures.last ∙ c.in-None.is)
