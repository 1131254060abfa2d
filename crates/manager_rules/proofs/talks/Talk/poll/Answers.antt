use Rattle.std.proofs.Common.{sym, ◌∙◌}
use Rattle.manager_rules.proofs.Facts.{polls}
use Rattle.manager_rules.proofs.talks.Talk.poll.Goals as goal

pub returns : goal.returns
returns c = polls c.args.self.now c.say.new.self c.say.result c.args.xid c.requires.closed (sym c.polls.ensures ∙ c.if-not-polls.false) c.say.ensures
