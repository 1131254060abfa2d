use Rattle.trace_rules.proofs.Ends.{settles_broken}
use Rattle.trace_rules.proofs.laws.ended_nodes_make_a_history.Goals as goal

pub returns : goal.returns
returns c = settles_broken
