use Rattle.std.proofs.Common.{refl}
use Rattle.local_tables.specs.Calls.{effect, step}
use Rattle.history_rules.proofs.examples.a_crash_closes_open_tickets.Goals as goal

pub returns : goal.returns
unfolding effect step
returns c = refl
