use Rattle.std.proofs.Common.{refl}
use Rattle.trace_rules.proofs.examples.a_message_is_received.Goals as goal

pub returns : goal.returns
returns c = λ first second. record { sent = refl; heard = refl }
