use Rattle.std.proofs.Common.{◌≡◌, ◌∙◌, Option, Some, option_map, sym, ap}
use Rattle.std.specs.Option.{option_copied}
use Rattle.local_txn.specs.OpenTickets.{open_at}
use Rattle.local_txn.specs.Answers.{open_of}
use Rattle.resource_rules.specs.Owned.{of_local}
use Rattle.resource_rules.proofs.Owners.{local_found}
use Rattle.local_guard.proofs.LocalLaws.{drops, drops_none, none_found}
use Rattle.local_guard.proofs.guarded.on_held.Goals as goal

pub returns-clause-number : goal.returns-clause-number
returns-clause-number c =
    let is : Some (open_of c.in-Some.txn.now) ≡ of_local (open_at c.args.txns.now.opens c.args.ticket) =
    sym (ap (λ (o : Option _). option_map open_of (option_copied o)) c.in-Some.is) ∙ c.local_at.ensures in
    let found = local_found c.in-Some.txn.now (open_at c.args.txns.now.opens c.args.ticket) is in
    drops c.args.txns.now.opens c.args.ticket c.in-Some.txn.now found.0 found.1

pub returns-in_default-clause-number : goal.returns-in_default-clause-number
returns-in_default-clause-number c =
    drops_none c.args.txns.now.opens c.args.ticket
    (sym c.local_at.ensures ∙ ap (λ (o : Option _). option_map open_of (option_copied o)) (none_found c.local_at.result c.in_default.not-Some))
