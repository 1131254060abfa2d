use Rattle.session_memory.proofs.WritingLaws.{places_kept}
use Rattle.session_memory.proofs.laws.places_are_kept.Goals as goal

pub returns : goal.returns
returns c = places_kept
