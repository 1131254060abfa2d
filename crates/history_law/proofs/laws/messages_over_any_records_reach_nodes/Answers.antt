use Rattle.history_law.proofs.MessageHistory.{messages_over_any}
use Rattle.history_law.proofs.laws.messages_over_any_records_reach_nodes.Goals as goal

pub returns : goal.returns
returns c = messages_over_any
