-- Bytes of worked examples, computed over the definitions.
use Rattle.std.specs.Prelude.{◌≡◌, ℕ, pos, [], ◌∷◌, Some, refl, codes}
use Rattle.seata_types.specs.declared.rows.Row.{Row}
use Rattle.seata_types.specs.declared.rows.RowKey.{RowKey}
use Rattle.seata_types.specs.declared.rows.Value.TheVariants as value
use Rattle.seata_types.specs.declared.statuses.BranchKind.TheVariants as kind
use Rattle.byte_fields.specs.Layout.{key_bytes_in, parts_bytes, value_bytes, option_row_bytes, row_bytes, image_bytes_in}
use Rattle.local_tables.specs.Rows.{Database}
use Rattle.local_tables.specs.declared.schemas.ColType.TheVariants as type
use Rattle.durable_records.specs.declared.resources.ResourceRecord.{ResourceRecord}
use Rattle.durable_records.specs.declared.resources.ResourceRecord.TheVariants as log
use Rattle.byte_fields.specs.declared.layouts.KeyLayout.TheVariants as layout
use Rattle.resource_log.specs.Records.{fields_bytes, record_bytes, record_bytes_in}
use Rattle.resource_log.specs.Snapshots.{kept_bytes, undo_fields, fence_fields, snapshot_fields, snapshot_bytes}
use Rattle.resource_log.specs.SnapshotOf.{snapshot_of}

abbrev row : ℕ → ℕ → Row
row n m = record { 0 = value.Int (pos n) ∷ value.Int (pos m) ∷ [] }

abbrev key : RowKey
key = record { resource = 1; table = codes "acc"; pk = value.Int (pos 1) ∷ [] }

-- resource 1 with the table acc, the columns id and m, the key id, and one row (1, 1000)
abbrev db : Database
db = record {
  resource = 1;
  schema = record { tables = record { name = codes "acc"; mode = kind.At; columns = (codes "id", type.Int) ∷ (codes "m", type.Int) ∷ []; key = 0 ∷ [] } ∷ [] };
  rows = (key, row 1 1000) ∷ [];
}

-- UPDATE acc SET m = 900, call 1 of transaction 1, committed as branch 1
abbrev committed : ResourceRecord
committed = log.Committed (record { 0 = 1 }) (record { 0 = 1 }) 1 (record { key = key; before = Some (row 1 1000); after = Some (row 1 900) } ∷ []) []

a_first_boot : record_bytes (log.Boot 1) ≡ 1 ∷ 0 ∷ 0 ∷ 0 ∷ 1 ∷ []
unfolding fields_bytes
a_first_boot = refl

a_commit : record_bytes committed ≡
    18 ∷ 0 ∷ 0 ∷ 0 ∷ 0 ∷ 0 ∷ 0 ∷ 0 ∷ 1 ∷ 0 ∷ 0 ∷ 0 ∷ 0 ∷ 0 ∷ 0 ∷ 0 ∷ 1 ∷ 0 ∷ 1 ∷ 0 ∷ 1 ∷ 0 ∷ 1 ∷ 0 ∷ 3 ∷ 97 ∷ 99 ∷
    99 ∷ 1 ∷ 0 ∷ 0 ∷ 0 ∷ 0 ∷ 0 ∷ 0 ∷ 0 ∷ 0 ∷ 1 ∷ 1 ∷ 0 ∷ 2 ∷ 0 ∷ 0 ∷ 0 ∷ 0 ∷ 0 ∷ 0 ∷ 0 ∷ 0 ∷ 1 ∷ 0 ∷ 0 ∷ 0 ∷ 0 ∷
    0 ∷ 0 ∷ 0 ∷ 3 ∷ 232 ∷ 1 ∷ 0 ∷ 2 ∷ 0 ∷ 0 ∷ 0 ∷ 0 ∷ 0 ∷ 0 ∷ 0 ∷ 0 ∷ 1 ∷ 0 ∷ 0 ∷ 0 ∷ 0 ∷ 0 ∷ 0 ∷ 0 ∷ 3 ∷ 132 ∷
    0 ∷ 0 ∷ []
unfolding fields_bytes key_bytes_in parts_bytes value_bytes option_row_bytes row_bytes image_bytes_in
a_commit = refl

a_commit_of_old : record_bytes_in layout.Single committed ≡
    2 ∷ 0 ∷ 0 ∷ 0 ∷ 0 ∷ 0 ∷ 0 ∷ 0 ∷ 1 ∷ 0 ∷ 0 ∷ 0 ∷ 0 ∷ 0 ∷ 0 ∷ 0 ∷ 1 ∷ 0 ∷ 1 ∷ 0 ∷ 1 ∷ 0 ∷ 1 ∷ 0 ∷ 3 ∷ 97 ∷ 99 ∷
    99 ∷ 0 ∷ 0 ∷ 0 ∷ 0 ∷ 0 ∷ 0 ∷ 0 ∷ 0 ∷ 1 ∷ 1 ∷ 0 ∷ 2 ∷ 0 ∷ 0 ∷ 0 ∷ 0 ∷ 0 ∷ 0 ∷ 0 ∷ 0 ∷ 1 ∷ 0 ∷ 0 ∷ 0 ∷ 0 ∷ 0 ∷
    0 ∷ 0 ∷ 3 ∷ 232 ∷ 1 ∷ 0 ∷ 2 ∷ 0 ∷ 0 ∷ 0 ∷ 0 ∷ 0 ∷ 0 ∷ 0 ∷ 0 ∷ 1 ∷ 0 ∷ 0 ∷ 0 ∷ 0 ∷ 0 ∷ 0 ∷ 0 ∷ 3 ∷ 132 ∷ 0 ∷
    0 ∷ []
unfolding fields_bytes key_bytes_in parts_bytes value_bytes option_row_bytes row_bytes image_bytes_in
a_commit_of_old = refl

a_snapshot : snapshot_bytes (snapshot_of db (committed ∷ log.Boot 1 ∷ [])) ≡
    2 ∷ 0 ∷ 0 ∷ 0 ∷ 2 ∷ 0 ∷ 0 ∷ 0 ∷ 1 ∷ 0 ∷ 0 ∷ 0 ∷ 1 ∷ 0 ∷ 3 ∷ 97 ∷ 99 ∷ 99 ∷ 0 ∷ 2 ∷ 0 ∷ 0 ∷ 0 ∷ 0 ∷ 0 ∷ 0 ∷
    0 ∷ 0 ∷ 1 ∷ 0 ∷ 0 ∷ 0 ∷ 0 ∷ 0 ∷ 0 ∷ 0 ∷ 3 ∷ 132 ∷ 0 ∷ 0 ∷ 0 ∷ 1 ∷ 0 ∷ 0 ∷ 0 ∷ 0 ∷ 0 ∷ 0 ∷ 0 ∷ 1 ∷ 0 ∷ 0 ∷ 0 ∷
    0 ∷ 0 ∷ 0 ∷ 0 ∷ 1 ∷ 0 ∷ 0 ∷ 1 ∷ 0 ∷ 1 ∷ 0 ∷ 1 ∷ 0 ∷ 3 ∷ 97 ∷ 99 ∷ 99 ∷ 1 ∷ 0 ∷ 0 ∷ 0 ∷ 0 ∷ 0 ∷ 0 ∷ 0 ∷ 0 ∷
    1 ∷ 1 ∷ 0 ∷ 2 ∷ 0 ∷ 0 ∷ 0 ∷ 0 ∷ 0 ∷ 0 ∷ 0 ∷ 0 ∷ 1 ∷ 0 ∷ 0 ∷ 0 ∷ 0 ∷ 0 ∷ 0 ∷ 0 ∷ 3 ∷ 232 ∷ 1 ∷ 0 ∷ 2 ∷ 0 ∷ 0 ∷
    0 ∷ 0 ∷ 0 ∷ 0 ∷ 0 ∷ 0 ∷ 1 ∷ 0 ∷ 0 ∷ 0 ∷ 0 ∷ 0 ∷ 0 ∷ 0 ∷ 3 ∷ 132 ∷ 0 ∷ 0 ∷ 0 ∷ 0 ∷ 0 ∷ 0 ∷ []
unfolding snapshot_fields undo_fields kept_bytes fence_fields key_bytes_in parts_bytes value_bytes option_row_bytes row_bytes image_bytes_in
a_snapshot = refl
