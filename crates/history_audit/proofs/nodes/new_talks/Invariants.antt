use Rattle.history_text.specs.Worlds.{managers_from}
use Rattle.judged_talk.specs.Following.{Follows}
use Rattle.history_audit.proofs.SoFar.{AreSoFar}
use Rattle.history_audit.proofs.nodes.new_talks.Given as goal

abbrev pub invariant-loop-k : goal.invariant-loop-k
invariant-loop-k l = AreSoFar Follows (managers_from l.scenario.lock_tries 1 l.scenario.managers) l.talks.items l.k
