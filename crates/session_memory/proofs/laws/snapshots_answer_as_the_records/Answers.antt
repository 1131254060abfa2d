use Rattle.session_memory.proofs.LookupLaws.{answers_alike}
use Rattle.session_memory.proofs.laws.snapshots_answer_as_the_records.Goals as goal

pub returns : goal.returns
returns c = answers_alike
