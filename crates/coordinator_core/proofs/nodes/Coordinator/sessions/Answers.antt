use Rattle.std.proofs.Common.{sym, ◌∙◌}
use Rattle.coordinator_core.proofs.nodes.Coordinator.sessions.Goals as goal

pub returns-clause-known : goal.returns-clause-known
returns-clause-known g c = λ past owns t. (t.follows (sym t.disks.down ∙ c.requires.up)).tracks.known
