use Rattle.std.proofs.Common.{◌∙◌}
use Rattle.scenario_maker.proofs.DrawLemmas.{plan_of_draws}
use Rattle.scenario_maker.proofs.draws.Draws.plan.Goals as goal

pub returns : goal.returns
returns c = λ number k is.
    let made = plan_of_draws number k c.args.self.now.last c.next.result c.next-2.result c.next-3.result c.next-4.result c.next-5.result c.next-6.result c.next-7.result is c.next.ensures.value (cc) (cc) (cc) (cc) (cc) (cc) in
    (made.0, c.next-7.ensures.last ∙ made.1)
