use Rattle.run_rounds.specs.Ending.{IsDoneIn}
use Rattle.run_rounds.proofs.Passes.{AllBefore}
use Rattle.run_rounds.proofs.ends.are_done.Given as goal

abbrev pub invariant-loop-manager : goal.invariant-loop-manager
invariant-loop-manager g l = AllBefore (λ i s. IsDoneIn s) l.managers l.manager-index
