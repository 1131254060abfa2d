use Rattle.memory_store.proofs.Lists.{holds_records}
use Rattle.session_store.specs.Standing.{lists_of}
use Rattle.session_store.proofs.ListLaws.{lists_lawful}
use Rattle.session_store.proofs.laws.disks_hold_their_records.Goals as goal

pub returns : goal.returns
returns c = λ managers resources. holds_records (lists_of managers resources) (lists_lawful managers resources)
