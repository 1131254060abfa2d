use Rattle.std.proofs.Common.{refl}
use Rattle.trace_rules.proofs.examples.restarts_are_by_the_stops.Goals as goal

pub returns : goal.returns
returns c = refl
