use Rattle.std.proofs.Common.{sym, subst}
use Rattle.resource_store.specs.Keeping.{known}
use Rattle.branch_tests.specs.Deletions.{IsDeletion}
use Rattle.branch_tests.proofs.Deletions.{counted, outside_placed}
use Rattle.branch_tests.proofs.called.is_written.Goals as goal

pub outside-requires-clause-statements : goal.outside-requires-clause-statements
outside-requires-clause-statements c = counted _ (subst IsDeletion (sym c.as_slice.ensures) c.in_ok-stmts.ensures)

pub outside-requires-clause-places : goal.outside-requires-clause-places
outside-requires-clause-places c =
    outside_placed (known c.args.store.now).tables c.requires.within _ (subst IsDeletion (sym c.as_slice.ensures) c.in_ok-stmts.ensures)
