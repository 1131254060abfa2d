use Rattle.std.proofs.Common.{subst}
use Rattle.std.proofs.lemmas.Bool.Decides.{not_from_Decides}
use Rattle.history_audit.specs.Judging.{HasFound}
use Rattle.history_audit.specs.declared.kept.Found.{Found}
use Rattle.history_audit.proofs.JudgeLaws.{breaks, does_all}
use Rattle.history_audit.proofs.kept.Judge.judge.Goals as goal

pub returns-then-not-is_in_order : goal.returns-then-not-is_in_order
returns-then-not-is_in_order c = λ w ms legal f. not_from_Decides c.is_in_order.result (c.is_in_order.ensures ms f.newest) c.if-not-is_in_order.true

pub returns-then-not-is_timely : goal.returns-then-not-is_timely
returns-then-not-is_timely c = λ w ms legal f.
    ((c.is_in_order.ensures ms f.newest).0 c.if-not-is_in_order.false, not_from_Decides c.is_timely.result (c.is_timely.ensures ms f.clock) c.if-not-is_timely.true)

pub returns-in-Breaks : goal.returns-in-Breaks
returns-in-Breaks c =
    breaks c.args.self.now c.args.next.now (λ w ms f. (c.is_in_order.ensures ms f.newest).0 c.if-not-is_in_order.false) (λ w ms f. (c.is_timely.ensures ms f.clock).0 c.if-not-is_timely.false)
    c.find.new.self c.in-Breaks.rule (subst (λ (f : Found). HasFound c.args.self.now c.find.new.self c.args.next.now f) c.in-Breaks.is c.in_ok-rule.ensures)

pub returns-in-Does : goal.returns-in-Does
returns-in-Does c =
    does_all c.args.self.now c.args.next.now (λ w ms f. (c.is_in_order.ensures ms f.newest).0 c.if-not-is_in_order.false) (λ w ms f. (c.is_timely.ensures ms f.clock).0 c.if-not-is_timely.false)
    c.find.new.self c.in-Does.step c.send.new.self (subst (λ (f : Found). HasFound c.args.self.now c.find.new.self c.args.next.now f) c.in-Does.is c.in_ok-rule.ensures) c.send.result c.send.ensures
