use Rattle.trace_rules.proofs.Legality.{merges_legally}
use Rattle.trace_rules.proofs.laws.traces_merge_to_a_legal_history.Goals as goal

pub returns : goal.returns
returns c = merges_legally
