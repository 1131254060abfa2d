use Rattle.std.proofs.Common.{refl}
use Rattle.local_tables.specs.Calls.{effect, step}
use Rattle.history_rules.proofs.examples.branches_are_undone_from_the_last.Goals as goal

pub returns : goal.returns
unfolding effect step
returns c = refl
