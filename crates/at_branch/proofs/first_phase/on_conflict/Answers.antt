use Rattle.std.proofs.Common.{◌≡◌, ◌∙◌, Option, Some, option_map, sym, ap, arith}
use Rattle.std.specs.Option.{option_copied}
use Rattle.local_txn.specs.OpenTickets.{open_at}
use Rattle.local_txn.specs.Answers.{open_of}
use Rattle.resource_rules.specs.Grants.{cause_of}
use Rattle.resource_rules.specs.Owned.{of_call}
use Rattle.at_branch.specs.Conflicts.{Conflict, tickets_with}
use Rattle.at_branch.proofs.ConflictLaws.{called_at, gave_up, none_found, not_open, waits}
use Rattle.at_branch.proofs.first_phase.on_conflict.Goals as goal

pub returns-in_default-clause-answer : goal.returns-in_default-clause-answer
returns-in_default-clause-answer c =
    not_open c.args.tries c.args.holder c.args.rolling c.args.txns.now.opens c.args.ticket
    (sym c.call_at.ensures ∙ ap (λ (o : Option _). option_map open_of (option_copied o)) (none_found c.call_at.result c.in_default.not-Some))

pub returns-in-Some-cause_of-clause-answer : goal.returns-in-Some-cause_of-clause-answer
returns-in-Some-cause_of-clause-answer c =
    let is : Some (open_of c.in-Some.txn.now) ≡ of_call (open_at c.args.txns.now.opens c.args.ticket) =
    sym (ap (λ (o : Option _). option_map open_of (option_copied o)) c.in-Some.is) ∙ c.call_at.ensures in
    let found = called_at (open_of c.in-Some.txn.now) (open_at c.args.txns.now.opens c.args.ticket) is in
    gave_up c.args.tries c.args.holder c.args.rolling c.args.txns.now.opens c.args.ticket (open_of c.in-Some.txn.now) c.in-Some.txn.now.manager c.in-Some.txn.now.xid.0 c.in-Some.txn.now.call found.0 found.1 c.give_up.result c.in-Some-cause_of.why
    (ap cause_of (sym c.conflict_act.ensures) ∙ sym c.cause_of.ensures ∙ c.in-Some-cause_of.is) (c.give_up.ensures.answer (open_of c.in-Some.txn.now) found.0)

pub returns-in-Some-cause_of-clause-tickets : goal.returns-in-Some-cause_of-clause-tickets
returns-in-Some-cause_of-clause-tickets c =
    let is : Some (open_of c.in-Some.txn.now) ≡ of_call (open_at c.args.txns.now.opens c.args.ticket) =
    sym (ap (λ (o : Option _). option_map open_of (option_copied o)) c.in-Some.is) ∙ c.call_at.ensures in
    let found = called_at (open_of c.in-Some.txn.now) (open_at c.args.txns.now.opens c.args.ticket) is in
    c.give_up.ensures.tickets ∙ ap (λ (k : Conflict). tickets_with c.args.ticket k c.args.txns.now) (sym (c.give_up.ensures.answer (open_of c.in-Some.txn.now) found.0))

pub returns-in-None-clause-answer : goal.returns-in-None-clause-answer
returns-in-None-clause-answer c =
    let is : Some (open_of c.in-Some.txn.now) ≡ of_call (open_at c.args.txns.now.opens c.args.ticket) =
    sym (ap (λ (o : Option _). option_map open_of (option_copied o)) c.in-Some.is) ∙ c.call_at.ensures in
    let found = called_at (open_of c.in-Some.txn.now) (open_at c.args.txns.now.opens c.args.ticket) is in
    waits c.args.tries c.args.holder c.args.rolling c.args.txns.now.opens c.args.ticket (open_of c.in-Some.txn.now) c.in-Some.txn.now.manager c.in-Some.txn.now.xid.0 c.in-Some.txn.now.call found.0 found.1 c.count.result
    (omega (arith, c.ranges.tries.fits)) (ap cause_of (sym c.conflict_act.ensures) ∙ sym c.cause_of.ensures ∙ c.in-None.is) (c.count.ensures.answer (open_of c.in-Some.txn.now) found.0)

pub returns-in-None-clause-tickets : goal.returns-in-None-clause-tickets
returns-in-None-clause-tickets c =
    let is : Some (open_of c.in-Some.txn.now) ≡ of_call (open_at c.args.txns.now.opens c.args.ticket) =
    sym (ap (λ (o : Option _). option_map open_of (option_copied o)) c.in-Some.is) ∙ c.call_at.ensures in
    let found = called_at (open_of c.in-Some.txn.now) (open_at c.args.txns.now.opens c.args.ticket) is in
    c.count.ensures.tickets (open_of c.in-Some.txn.now) found.0
    ∙ ap (λ (k : Conflict). tickets_with c.args.ticket k c.args.txns.now) (sym (c.count.ensures.answer (open_of c.in-Some.txn.now) found.0))
