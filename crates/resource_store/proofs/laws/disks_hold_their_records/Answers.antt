use Rattle.resource_store.proofs.ListLaws.{hold_records}
use Rattle.resource_store.proofs.laws.disks_hold_their_records.Goals as goal

pub returns : goal.returns
returns c = hold_records
