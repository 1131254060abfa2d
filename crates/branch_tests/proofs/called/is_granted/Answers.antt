use Rattle.resource_store.specs.Keeping.{known}
use Rattle.at_branch.specs.Grants.{MayCommit}
use Rattle.branch_tests.proofs.Deletions.{counted, executed_has, may_commit}
use Rattle.branch_tests.proofs.called.is_granted.Goals as goal

pub phase_one-requires-clause-statements : goal.phase_one-requires-clause-statements
phase_one-requires-clause-statements c = counted _ c.in_ok-stmts.ensures

pub on_grant-requires-clause-may : goal.on_grant-requires-clause-may
on_grant-requires-clause-may c =
    executed_has c.args.txns.now c.phase_one.new.txns _ _ c.in-Ok.ticket (MayCommit (known c.args.store.now).tables _) c.in-Ok.ensures.opens
    (may_commit (known c.args.store.now).tables c.requires.within _ c.in_ok-stmts.ensures c.in-Ok.ticket)
