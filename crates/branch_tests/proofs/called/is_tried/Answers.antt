use Rattle.resource_store.specs.Keeping.{known}
use Rattle.tcc_branch.specs.Tries.{MayTry}
use Rattle.branch_tests.proofs.Deletions.{may_try, prepared_has}
use Rattle.branch_tests.proofs.called.is_tried.Goals as goal

pub on_grant-requires-clause-may : goal.on_grant-requires-clause-may
on_grant-requires-clause-may c =
    prepared_has c.args.txns.now c.prepare.new.txns _ c.in_ok-ticket.ticket (MayTry (known c.args.store.now).tables _) c.in_ok-ticket.ensures.opens
    (may_try (known c.args.store.now).tables c.requires.within _ c.in_ok-action.ensures c.in_ok-ticket.ticket)
