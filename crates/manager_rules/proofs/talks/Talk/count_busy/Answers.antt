use Rattle.std.proofs.Common.{sym, ◌∙◌}
use Rattle.manager_rules.proofs.Facts.{last_busy_heard}
use Rattle.manager_rules.proofs.talks.Talk.count_busy.Goals as goal

pub returns-then-is_last_try : goal.returns-then-is_last_try
returns-then-is_last_try c =
    λ key by. last_busy_heard c.args.self.now c.give_up.new.self c.args.xid c.args.done c.args.busy key by c.give_up.result c.requires.calling
    (sym c.is_last_try.ensures.last ∙ c.if-is_last_try.true) c.give_up.ensures
