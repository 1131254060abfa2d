use Rattle.scenario_nodes.specs.Calls.{IsFramableLocal}
use Rattle.scenario_nodes.proofs.Passes.{AllBefore}
use Rattle.scenario_nodes.proofs.setups.tell_locals.Given as goal

abbrev pub invariant-loop-stmts : goal.invariant-loop-stmts
invariant-loop-stmts l = AllBefore IsFramableLocal l.locals l.stmts-index
