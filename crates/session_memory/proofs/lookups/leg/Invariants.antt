use Rattle.std.proofs.Common.{◌≡◌, ◌+◌, drop}
use Rattle.std.specs.Prelude.{find}
use Rattle.session_memory.specs.Lookups.{has_call}
use Rattle.session_memory.proofs.lookups.leg.Given as goal

abbrev pub invariant-loop-branch : goal.invariant-loop-branch
invariant-loop-branch g l = record {
  rest : find (has_call l.resource l.call) (drop l.branch-index l.branches) ≡ find (has_call l.resource l.call) l.branches;
  cost : l.steps ≡ l.initial.steps + l.branch-index;
}
