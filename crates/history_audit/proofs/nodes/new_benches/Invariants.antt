use Rattle.history_text.specs.Worlds.{resources_from}
use Rattle.judged_bench.specs.Following.{Follows}
use Rattle.history_audit.proofs.SoFar.{AreSoFar}
use Rattle.history_audit.proofs.nodes.new_benches.Given as goal

abbrev pub invariant-loop-k : goal.invariant-loop-k
invariant-loop-k l = AreSoFar Follows (resources_from l.scenario 1 l.scenario.resources) l.benches.items l.k
