use Rattle.std.proofs.Common.{◌≡◌, ◌∙◌, Option, Some, option_map, ap, refl, subst, sym}
use Rattle.std.specs.Option.{option_copied}
use Rattle.local_txn.specs.Answers.{open_of}
use Rattle.local_txn.specs.OpenTickets.{Open, open_at}
use Rattle.resource_store.specs.Keeping.{known}
use Rattle.resource_store.proofs.LeftLaws.{leaves_all}
use Rattle.tcc_branch.specs.Tries.{MayTry, TellsOn}
use Rattle.tcc_branch.specs.declared.answers.TryAnswer.TheVariants as tries
use Rattle.tcc_branch.proofs.GrantLaws.{grants, grants_none}
use Rattle.tcc_branch.proofs.TryLaws.{none_found, of_some, tells}
use Rattle.tcc_branch.proofs.first_phase.on_grant.Goals as goal

pub returns-in_default-clause-answer : goal.returns-in_default-clause-answer
returns-in_default-clause-answer g c =
    grants_none g.D.Disk.state c.args.store.now c.args.leg c.args.ticket c.args.txns.now.opens
    (sym c.find.ensures ∙ ap (λ (o : Option _). option_map open_of (option_copied o)) (none_found c.find.result c.in_default.not-Some))

pub returns-in_default-clause-told : goal.returns-in_default-clause-told
returns-in_default-clause-told g c =
    subst (λ (o : Option Open). TellsOn (known c.args.store.now) c.args.leg o tries.NotOpen)
    (sym (sym c.find.ensures ∙ ap (λ (o : Option _). option_map open_of (option_copied o)) (none_found c.find.result c.in_default.not-Some))) refl

pub returns-in_default-clause-leaves : goal.returns-in_default-clause-leaves
returns-in_default-clause-leaves g c = leaves_all g.D.Disk.state c.args.store.now _ c.requires.up refl

pub grant-requires-clause-may : goal.grant-requires-clause-may
grant-requires-clause-may g c =
    of_some (MayTry (known c.args.store.now).tables c.args.leg) (open_at c.args.txns.now.opens c.args.ticket) (open_of c.in-Some.txn.now) c.requires.may
    (sym c.find.ensures ∙ ap (λ (o : Option _). option_map open_of (option_copied o)) c.in-Some.is)

pub returns-in-Ok-clause-answer : goal.returns-in-Ok-clause-answer
returns-in-Ok-clause-answer g c =
    let here : open_at c.args.txns.now.opens c.args.ticket ≡ Some (open_of c.in-Some.txn.now) = sym c.find.ensures ∙ ap (λ (o : Option _). option_map open_of (option_copied o)) c.in-Some.is in
    let may = of_some (MayTry (known c.args.store.now).tables c.args.leg) (open_at c.args.txns.now.opens c.args.ticket) (open_of c.in-Some.txn.now) c.requires.may here in
    grants c.in-Some.txn.now may.of_kind g.D.Disk.state c.args.store.now c.grant.new.store c.args.leg c.args.ticket c.args.txns.now.opens _ here c.in-Ok.ensures.gives

pub returns-in-Ok-clause-told : goal.returns-in-Ok-clause-told
returns-in-Ok-clause-told g c =
    let here : open_at c.args.txns.now.opens c.args.ticket ≡ Some (open_of c.in-Some.txn.now) = sym c.find.ensures ∙ ap (λ (o : Option _). option_map open_of (option_copied o)) c.in-Some.is in
    let may = of_some (MayTry (known c.args.store.now).tables c.args.leg) (open_at c.args.txns.now.opens c.args.ticket) (open_of c.in-Some.txn.now) c.requires.may here in
    tells c.in-Some.txn.now may.of_kind (known c.args.store.now) c.args.leg (open_at c.args.txns.now.opens c.args.ticket) _ here c.in-Ok.ensures.gives.told

pub returns-in-Err-clause-answer : goal.returns-in-Err-clause-answer
returns-in-Err-clause-answer g c =
    let here : open_at c.args.txns.now.opens c.args.ticket ≡ Some (open_of c.in-Some.txn.now) = sym c.find.ensures ∙ ap (λ (o : Option _). option_map open_of (option_copied o)) c.in-Some.is in
    let may = of_some (MayTry (known c.args.store.now).tables c.args.leg) (open_at c.args.txns.now.opens c.args.ticket) (open_of c.in-Some.txn.now) c.requires.may here in
    grants c.in-Some.txn.now may.of_kind g.D.Disk.state c.args.store.now c.grant.new.store c.args.leg c.args.ticket c.args.txns.now.opens _ here c.in-Err.ensures.gives
