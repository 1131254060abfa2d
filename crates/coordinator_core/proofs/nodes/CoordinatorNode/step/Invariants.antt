use Rattle.coordinator_core.proofs.nodes.CoordinatorNode.step.Given as goal

abbrev pub ghosts-step_with : goal.ghosts-step_with
ghosts-step_with g a = record { name = a.blank.name; parts = a.blank.parts }
