use Rattle.std.proofs.Common.{sym, subst}
use Rattle.resource_store.specs.Keeping.{known}
use Rattle.branch_tests.specs.Deletions.{AreDeletions}
use Rattle.branch_tests.proofs.Deletions.{counted, cancels_placed}
use Rattle.branch_tests.proofs.called.is_cancelled.Goals as goal

pub cancel-requires-clause-statements : goal.cancel-requires-clause-statements
cancel-requires-clause-statements c = counted _ (subst AreDeletions (sym c.get.ensures) c.in_ok-action.ensures).cancels

pub cancel-requires-clause-places : goal.cancel-requires-clause-places
cancel-requires-clause-places c =
    cancels_placed (known c.args.store.now).tables c.requires.within _ (subst AreDeletions (sym c.get.ensures) c.in_ok-action.ensures).cancels
