use Rattle.session_memory.proofs.EndsLaws.{spans_none}
use Rattle.session_memory.proofs.ends.Ends.of.Goals as goal

pub loop-entry-init : goal.loop-entry-init
loop-entry-init c = spans_none c.new-ends.result c.new-ends.ensures c.args.sessions.now
