use Rattle.std.proofs.Common.{subst}
use Rattle.resource_memory.specs.Keeping.{IsKept}
use Rattle.resource_memory.specs.Known.{Known}
use Rattle.resource_memory.proofs.memory.Memory.kept.Goals as goal

pub returns-clause-kept : goal.returns-clause-kept
returns-clause-kept c = subst (λ (k : Known). IsKept k) c.self.view_is c.self.invariant
