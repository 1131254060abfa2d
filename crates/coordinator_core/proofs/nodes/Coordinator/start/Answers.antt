use Rattle.coordinator_core.proofs.nodes.Coordinator.start.Goals as goal

pub returns-clause-told : goal.returns-clause-told
returns-clause-told g c = λ past owns t. t.starts
