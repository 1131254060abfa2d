use Rattle.std.proofs.Common.{sym, subst}
use Rattle.resource_store.specs.Keeping.{known}
use Rattle.branch_tests.specs.Deletions.{AreDeletions}
use Rattle.branch_tests.proofs.Deletions.{counted, confirms_placed}
use Rattle.branch_tests.proofs.called.is_confirmed.Goals as goal

pub confirm-requires-clause-statements : goal.confirm-requires-clause-statements
confirm-requires-clause-statements c = counted _ (subst AreDeletions (sym c.get.ensures) c.in_ok-action.ensures).confirms

pub confirm-requires-clause-places : goal.confirm-requires-clause-places
confirm-requires-clause-places c =
    confirms_placed (known c.args.store.now).tables c.requires.within _ (subst AreDeletions (sym c.get.ensures) c.in_ok-action.ensures).confirms
