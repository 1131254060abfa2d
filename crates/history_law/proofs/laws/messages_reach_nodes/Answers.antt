use Rattle.history_law.proofs.MessageHistory.{messages_law}
use Rattle.history_law.proofs.laws.messages_reach_nodes.Goals as goal

pub returns : goal.returns
returns c = messages_law
