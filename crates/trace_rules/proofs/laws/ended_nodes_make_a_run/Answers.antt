use Rattle.trace_rules.proofs.Ends.{settles_all}
use Rattle.trace_rules.proofs.laws.ended_nodes_make_a_run.Goals as goal

pub returns : goal.returns
returns c = settles_all
