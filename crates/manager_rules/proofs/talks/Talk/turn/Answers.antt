use Rattle.manager_rules.proofs.Facts.{begins_again, call_repeated, ends_again, starts}
use Rattle.manager_rules.proofs.talks.Talk.turn.Goals as goal

pub returns-in-Unstarted : goal.returns-in-Unstarted
returns-in-Unstarted c = starts c.args.self.now c.begin.new.self c.begin.result c.in-Unstarted.is c.begin.ensures

pub returns-in-Beginning : goal.returns-in-Beginning
returns-in-Beginning c = begins_again c.args.self.now c.begin-in-Beginning.new.self c.begin-in-Beginning.result c.in-Beginning.is c.begin-in-Beginning.ensures

pub returns-in-Calling : goal.returns-in-Calling
returns-in-Calling c =
    call_repeated c.args.self.now c.say_next.new.self c.in-Calling.xid c.in-Calling.done c.in-Calling.busy c.say_next.result c.in-Calling.is c.say_next.ensures

pub returns-in-Closing : goal.returns-in-Closing
returns-in-Closing c =
    ends_again c.args.self.now c.say.new.self c.say.result c.in-Closing.xid c.in-Closing.how c.end_message.result c.in-Closing.is c.end_message.ensures.end c.say.ensures
