use Rattle.session_memory.proofs.LookupLaws.{may_alike}
use Rattle.session_memory.proofs.laws.snapshots_allow_what_records_allow.Goals as goal

pub returns : goal.returns
returns c = may_alike
