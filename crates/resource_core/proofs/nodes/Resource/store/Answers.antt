use Rattle.std.proofs.Common.{sym, ◌∙◌}
use Rattle.resource_core.proofs.nodes.Resource.store.Goals as goal

pub returns-clause-keeps : goal.returns-clause-keeps
returns-clause-keeps g c = λ setup past owns s. (s.holds (sym s.down ∙ c.requires.up)).keeps
