use Rattle.resource_store.specs.Keeping.{known}
use Rattle.local_guard.specs.Locals.{MayCommit}
use Rattle.branch_tests.proofs.Deletions.{counted, executed_has, may_commit_local}
use Rattle.branch_tests.proofs.called.is_freed.Goals as goal

pub open_local-requires-clause-statements : goal.open_local-requires-clause-statements
open_local-requires-clause-statements c = counted _ c.in_ok-stmts.ensures

pub on_free-requires-clause-may : goal.on_free-requires-clause-may
on_free-requires-clause-may c =
    executed_has c.args.txns.now c.open_local.new.txns _ _ c.in-Ok.ticket (MayCommit (known c.args.store.now).tables) c.in-Ok.ensures.opens
    (may_commit_local (known c.args.store.now).tables c.requires.within _ c.in_ok-stmts.ensures c.in-Ok.ticket)
