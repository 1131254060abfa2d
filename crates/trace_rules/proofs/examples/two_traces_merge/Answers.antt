use Rattle.std.proofs.Common.{refl}
use Rattle.trace_rules.proofs.examples.two_traces_merge.Goals as goal

pub returns : goal.returns
returns c = λ first second. refl
