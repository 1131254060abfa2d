use Rattle.std.proofs.Common.{refl}
use Rattle.local_tables.specs.Calls.{effect, step}
use Rattle.history_rules.proofs.examples.a_waiting_call_gives_way_to_a_rollback.Goals as goal

pub returns : goal.returns
unfolding effect step
returns c = refl
