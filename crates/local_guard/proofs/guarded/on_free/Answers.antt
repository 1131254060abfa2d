use Rattle.std.proofs.Common.{◌≡◌, ◌∙◌, Option, Some, option_map, refl, sym, ap}
use Rattle.std.specs.Option.{option_copied}
use Rattle.local_txn.specs.OpenTickets.{open_at}
use Rattle.local_txn.specs.Answers.{open_of}
use Rattle.resource_rules.specs.Owned.{of_local}
use Rattle.resource_rules.proofs.Owners.{local_found}
use Rattle.resource_store.specs.Keeping.{known}
use Rattle.resource_store.proofs.LeftLaws.{leaves_all}
use Rattle.local_guard.specs.Locals.{MayCommit}
use Rattle.local_guard.proofs.LocalLaws.{frees, frees_none, none_found, of_some, takes_rows}
use Rattle.local_guard.proofs.guarded.on_free.Goals as goal

pub returns-in_default-clause-answer : goal.returns-in_default-clause-answer
returns-in_default-clause-answer g c =
    frees_none c.args.txns.now.opens c.args.ticket
    (sym c.local_at.ensures ∙ ap (λ (o : Option _). option_map open_of (option_copied o)) (none_found c.local_at.result c.in_default.not-Some)) g.D.Disk.state c.args.store.now

pub returns-in_default-clause-leaves : goal.returns-in_default-clause-leaves
returns-in_default-clause-leaves g c = leaves_all g.D.Disk.state c.args.store.now _ c.requires.up refl

pub free-requires-clause-may : goal.free-requires-clause-may
free-requires-clause-may g c =
    let is : Some (open_of c.in-Some.txn.now) ≡ of_local (open_at c.args.txns.now.opens c.args.ticket) =
    sym (ap (λ (o : Option _). option_map open_of (option_copied o)) c.in-Some.is) ∙ c.local_at.ensures in
    let found = local_found c.in-Some.txn.now (open_at c.args.txns.now.opens c.args.ticket) is in
    takes_rows c.args.txns.now.opens c.args.ticket c.in-Some.txn.now found.0 found.1 c.args.store.now
    (of_some (MayCommit (known c.args.store.now).tables) (open_at c.args.txns.now.opens c.args.ticket) (open_of c.in-Some.txn.now) c.requires.may found.0)

pub returns-in-Ok-clause-answer : goal.returns-in-Ok-clause-answer
returns-in-Ok-clause-answer g c =
    let is : Some (open_of c.in-Some.txn.now) ≡ of_local (open_at c.args.txns.now.opens c.args.ticket) =
    sym (ap (λ (o : Option _). option_map open_of (option_copied o)) c.in-Some.is) ∙ c.local_at.ensures in
    let found = local_found c.in-Some.txn.now (open_at c.args.txns.now.opens c.args.ticket) is in
    frees c.args.txns.now.opens c.args.ticket c.in-Some.txn.now found.0 found.1 g.D.Disk.state c.args.store.now c.free.new.store _ c.in-Ok.ensures.gives

pub returns-in-Err-clause-answer : goal.returns-in-Err-clause-answer
returns-in-Err-clause-answer g c =
    let is : Some (open_of c.in-Some.txn.now) ≡ of_local (open_at c.args.txns.now.opens c.args.ticket) =
    sym (ap (λ (o : Option _). option_map open_of (option_copied o)) c.in-Some.is) ∙ c.local_at.ensures in
    let found = local_found c.in-Some.txn.now (open_at c.args.txns.now.opens c.args.ticket) is in
    frees c.args.txns.now.opens c.args.ticket c.in-Some.txn.now found.0 found.1 g.D.Disk.state c.args.store.now c.free.new.store _ c.in-Err.ensures.gives
