use Rattle.std.proofs.Common.{◌+◌, Ok, sym, subst}
use Rattle.seata_types.specs.declared.messages.Message.TheVariants as message
use Rattle.manager_rules.specs.Answers.{Hears}
use Rattle.manager_rules.proofs.Facts.{done_heard, failed_heard}
use Rattle.manager_rules.proofs.talks.Talk.take_answer.Goals as goal

pub returns-in-Done : goal.returns-in-Done
returns-in-Done c =
    subst (λ a. Hears c.args.self.now c.go_on.new.self (message.Answer c.args.xid (c.args.done + 1) a) c.go_on.result) (sym c.in-Done.is)
    (done_heard c.args.self.now c.go_on.new.self c.args.xid c.args.done c.args.busy c.in-Done.branch c.go_on.result c.requires.calling c.go_on.ensures)

pub returns-in-Busy : goal.returns-in-Busy
returns-in-Busy c =
    subst (λ a. Hears c.args.self.now c.count_busy.new.self (message.Answer c.args.xid (c.args.done + 1) a) (Ok c.count_busy.result)) (sym c.in-Busy.is)
    (c.count_busy.ensures c.in-Busy.key c.in-Busy.by)

pub returns-in-Failed : goal.returns-in-Failed
returns-in-Failed c =
    subst (λ a. Hears c.args.self.now c.give_up.new.self (message.Answer c.args.xid (c.args.done + 1) a) (Ok c.give_up.result)) (sym c.in-Failed.is)
    (failed_heard c.args.self.now c.give_up.new.self c.args.xid c.args.done c.args.busy c.in-Failed.why c.give_up.result c.requires.calling c.give_up.ensures)
