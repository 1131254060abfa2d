use Rattle.std.proofs.Common.{refl}
use Rattle.std.specs.Fmt.{digits}
use Rattle.scenario_maker.specs.Draws.{draw, plan}
use Rattle.scenario_maker.specs.Made.{calls, end, listed, made, manager, manager_at, managers, payment, reservation, schedule, third_call}
use Rattle.scenario_maker.proofs.laws.the_first_text.Goals as goal

pub returns-clause-draws : goal.returns-clause-draws
unfolding draw
returns-clause-draws c = refl

pub returns-clause-text : goal.returns-clause-text
unfolding calls digits draw end listed made manager manager_at managers payment plan reservation schedule third_call
returns-clause-text c = refl
