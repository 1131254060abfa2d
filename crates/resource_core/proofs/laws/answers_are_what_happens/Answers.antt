use Rattle.resource_core.proofs.HappensLaws.{answers_are_steps, failures_are_steps}
use Rattle.resource_core.proofs.laws.answers_are_what_happens.Goals as goal

pub returns-clause-steps : goal.returns-clause-steps
returns-clause-steps g c = answers_are_steps g.D.Disk.state

pub returns-clause-failures : goal.returns-clause-failures
returns-clause-failures g c = failures_are_steps g.D.Disk.state
