use Rattle.std.proofs.Common.{◌≡◌}
use Rattle.resource_memory.specs.Lookups.{tried_leg}
use Rattle.resource_memory.proofs.tried.TriedCalls.find.Given as goal

abbrev pub invariant-loop-leg : goal.invariant-loop-leg
invariant-loop-leg l = tried_leg l.xid.0 l.call l.leg-iterator ≡ tried_leg l.xid.0 l.call l.fn.self
