-- What a run leaves is never damage, nor of another scenario.
use Rattle.scenario_form.specs.declared.scenarios.Scenario.{Scenario}
use Rattle.scenario_nodes.specs.Nodes.{Held}
use Rattle.replay_runner.proofs.Calm.{NeverDamaged}
use Rattle.thread_runner.specs.Running.{Leaves}

pub never_damaged : (s : Scenario) (held : Held) → NeverDamaged (Leaves s held)
never_damaged s held = record { damaged = λ disks q second offset b. b.cause.blames; other = λ disks b. b.cause.blames }
