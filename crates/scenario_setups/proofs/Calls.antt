-- A manager of a scenario that can run has no more calls than are counted.
use Rattle.std.proofs.Common.{All}
use Rattle.scenario_form.specs.declared.scenarios.Scenario.{Scenario}
use Rattle.scenario_form.specs.Runnable.{IsRunnable}
use Rattle.scenario_setups.specs.Setups.{HasFewCalls}

pub few_calls : (s : Scenario) → IsRunnable s → All HasFewCalls s.managers
few_calls s runs = λ k d below. (runs.managers k d below).few
