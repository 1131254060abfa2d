use Rattle.coordinator_core.proofs.nodes.Coordinator.step_counted.Given as goal

abbrev pub ghosts-step_with_passes : goal.ghosts-step_with_passes
ghosts-step_with_passes g a = record { name = a.blank.name; parts = a.blank.parts }
