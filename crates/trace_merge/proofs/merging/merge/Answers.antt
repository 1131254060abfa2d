use Rattle.std.proofs.Common.{rules}
use Rattle.trace_merge.proofs.merging.merge.Goals as goal

pub returns : goal.returns
returns c = record { same = search rules; sorted = search rules }
