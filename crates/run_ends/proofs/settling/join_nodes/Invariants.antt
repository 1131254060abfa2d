use Rattle.run_ends.specs.Joining.{AreLeft}
use Rattle.run_ends.proofs.settling.join_nodes.Given as goal

abbrev pub invariant-loop-k : goal.invariant-loop-k
invariant-loop-k g l = AreLeft l.k l.initial.nodes l.nodes
