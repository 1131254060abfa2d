use Rattle.std.proofs.Common.{sym, subst}
use Rattle.manager_rules.specs.Answers.{Hears}
use Rattle.manager_rules.proofs.Facts.{begun_heard}
use Rattle.manager_rules.proofs.talks.Talk.hear_begun.Goals as goal

pub returns-in-Begun : goal.returns-in-Begun
returns-in-Begun c =
    subst (λ h. Hears c.args.self.now c.go_on.new.self h c.go_on.result) (sym c.in-Begun.is)
    (begun_heard c.args.self.now c.go_on.new.self c.in-Begun.xid c.go_on.result c.requires.beginning c.go_on.ensures)
