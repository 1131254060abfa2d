use Rattle.trace_rules.proofs.Legality.{merges_to_run}
use Rattle.trace_rules.proofs.laws.traces_merge_to_a_run.Goals as goal

pub returns : goal.returns
returns c = merges_to_run
