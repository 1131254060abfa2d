-- A store that takes a record.
use Rattle.std.specs.Prelude.{◌≡◌, false}
use Rattle.durable_records.specs.declared.resources.ResourceRecord.{ResourceRecord}
use Rattle.resource_store.specs.declared.store.Store.{Store}
use Rattle.resource_store.specs.Keeping.{IsTaken, is_down}

-- it is up, and the record may come and has a place in a journal
pub record Takes {D : Type 0} (r : ResourceRecord) (s : Store D) : Type 0 where
  pub up : is_down s ≡ false
  pub taken : IsTaken r s
