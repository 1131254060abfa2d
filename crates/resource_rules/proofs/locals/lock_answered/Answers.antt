use Rattle.std.proofs.Common.{◌≡◌, ◌∙◌, Option, Some, option_map, sym, ap}
use Rattle.std.specs.Option.{option_copied}
use Rattle.local_txn.specs.OpenTickets.{open_at}
use Rattle.local_txn.specs.Answers.{open_of}
use Rattle.resource_rules.specs.Owned.{of_local}
use Rattle.resource_rules.proofs.LocalAnswers.{lock_ok, lock_unopened}
use Rattle.resource_rules.proofs.Owners.{local_found}
use Rattle.resource_rules.proofs.locals.lock_answered.Goals as goal

pub returns-in-Some : goal.returns-in-Some
returns-in-Some c =
    let is : Some (open_of c.in-Some.txn.now) ≡ of_local (open_at c.args.txns.now.opens c.args.ticket) =
    sym (ap (λ (o : Option _). option_map open_of (option_copied o)) c.in-Some.is) ∙ c.local_at.ensures in
    let found = local_found c.in-Some.txn.now (open_at c.args.txns.now.opens c.args.ticket) is in
    lock_ok c.args.memory.now c.args.txns.now c.args.ticket c.in-Some.txn.now c.args.held.now found.0 found.1
    (c.requires c.args.ticket (open_of c.in-Some.txn.now) found.0) c.local_answered.result c.local_answered.ensures

pub returns-in-None : goal.returns-in-None
returns-in-None c = λ is from.
    lock_unopened is c.args.memory.now c.args.txns.now c.args.ticket from c.args.held.now
    (sym c.local_at.ensures ∙ ap (λ (o : Option _). option_map open_of (option_copied o)) c.in-None.is) _ c.ignored.ensures
