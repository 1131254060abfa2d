use Rattle.std.proofs.Common.{◌≡◌, ◌∙◌, Option, Some, option_map, ap, refl, sym}
use Rattle.std.specs.Option.{option_copied}
use Rattle.local_txn.specs.Answers.{open_of}
use Rattle.local_txn.specs.OpenTickets.{open_at}
use Rattle.resource_store.specs.Keeping.{known}
use Rattle.resource_store.proofs.LeftLaws.{leaves_all}
use Rattle.at_branch.specs.Grants.{MayCommit}
use Rattle.at_branch.proofs.ConflictLaws.{none_found}
use Rattle.at_branch.proofs.GrantLaws.{grants, grants_none, of_some}
use Rattle.at_branch.proofs.first_phase.on_grant.Goals as goal

pub returns-in_default-clause-answer : goal.returns-in_default-clause-answer
returns-in_default-clause-answer g c =
    grants_none g.D.Disk.state c.args.store.now c.args.leg c.args.ticket c.args.txns.now.opens
    (sym c.find.ensures ∙ ap (λ (o : Option _). option_map open_of (option_copied o)) (none_found c.find.result c.in_default.not-Some))

pub returns-in_default-clause-leaves : goal.returns-in_default-clause-leaves
returns-in_default-clause-leaves g c = leaves_all g.D.Disk.state c.args.store.now _ c.requires.up refl

pub grant-requires-clause-may : goal.grant-requires-clause-may
grant-requires-clause-may g c =
    of_some (MayCommit (known c.args.store.now).tables c.args.leg) (open_at c.args.txns.now.opens c.args.ticket) (open_of c.in-Some.txn.now) c.requires.may
    (sym c.find.ensures ∙ ap (λ (o : Option _). option_map open_of (option_copied o)) c.in-Some.is)

pub returns-in-Ok-clause-answer : goal.returns-in-Ok-clause-answer
returns-in-Ok-clause-answer g c =
    let here : open_at c.args.txns.now.opens c.args.ticket ≡ Some (open_of c.in-Some.txn.now) = sym c.find.ensures ∙ ap (λ (o : Option _). option_map open_of (option_copied o)) c.in-Some.is in
    let may = of_some (MayCommit (known c.args.store.now).tables c.args.leg) (open_at c.args.txns.now.opens c.args.ticket) (open_of c.in-Some.txn.now) c.requires.may here in
    grants c.in-Some.txn.now may.of_kind g.D.Disk.state c.args.store.now c.grant.new.store c.args.leg c.args.ticket c.args.txns.now.opens _ here c.in-Ok.ensures.gives

pub returns-in-Err-clause-answer : goal.returns-in-Err-clause-answer
returns-in-Err-clause-answer g c =
    let here : open_at c.args.txns.now.opens c.args.ticket ≡ Some (open_of c.in-Some.txn.now) = sym c.find.ensures ∙ ap (λ (o : Option _). option_map open_of (option_copied o)) c.in-Some.is in
    let may = of_some (MayCommit (known c.args.store.now).tables c.args.leg) (open_at c.args.txns.now.opens c.args.ticket) (open_of c.in-Some.txn.now) c.requires.may here in
    grants c.in-Some.txn.now may.of_kind g.D.Disk.state c.args.store.now c.grant.new.store c.args.leg c.args.ticket c.args.txns.now.opens _ here c.in-Err.ensures.gives
