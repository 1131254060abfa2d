use Rattle.session_memory.proofs.GrantLaws.{new_alike}
use Rattle.session_memory.proofs.laws.snapshots_find_what_is_registered.Goals as goal

pub returns : goal.returns
returns c = new_alike
