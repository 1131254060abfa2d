use Rattle.std.proofs.Common.{◌∙◌, Ok, is_some, sym, ap, subst}
use Rattle.seata_types.specs.declared.messages.Input.{Input}
use Rattle.local_txn.specs.OpenTickets.{last_of}
use Rattle.resource_core.specs.Stepping.{Answers}
use Rattle.resource_core.proofs.Making.{none_open, rests}
use Rattle.resource_core.proofs.branches.Branches.answer.Goals as goal

pub returns-in-Turn : goal.returns-in-Turn
returns-in-Turn g c =
    subst (λ (i : Input). Answers g.D.Disk.state c.args.self.now c.args.self.now i (Ok c.still.result)) (sym c.in-Turn.is)
    (rests g.D.Disk.state c.args.self.now c.requires.ready
    (none_open (last_of c.args.self.now.txns.opens) (ap is_some (sym c.next_to_send.ensures.last) ∙ c.if-is_none.ensures)) c.still.result c.still.ensures.value)
