use Rattle.trace_rules.proofs.LinkOrder.{loses_behind_full}
use Rattle.trace_rules.proofs.examples.a_lost_message_follows_a_full_link.Goals as goal

pub returns : goal.returns
returns c = loses_behind_full
