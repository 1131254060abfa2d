-- What is reported of a history, over what its disks had before: the sections of the report after its entries.
use Rattle.std.specs.Prelude.{ℕ, if◌then◌else◌, List, [], ◌∷◌, ◌++◌, map, filter, Option, Some, None}
use Rattle.seata_types.specs.declared.acts.Act.{Act}
use Rattle.seata_types.specs.declared.ids.Place.{Place}
use Rattle.seata_types.specs.declared.ids.Place.TheVariants as place
use Rattle.seata_types.specs.declared.rows.ReadRow.{ReadRow}
use Rattle.seata_types.specs.declared.rows.Row.{Row}
use Rattle.seata_types.specs.declared.rows.RowKey.{RowKey}
use Rattle.seata_types.specs.declared.statuses.GlobalStatus.{GlobalStatus}
use Rattle.local_tables.specs.Rows.{Database, Rows, is_in}
use Rattle.local_tables.specs.declared.schemas.TableDef.{TableDef}
use Rattle.durable_records.specs.declared.coordinators.SessionRecord.{SessionRecord}
use Rattle.durable_records.specs.declared.resources.ResourceRecord.{ResourceRecord}
use Rattle.durable_records.specs.declared.resources.ResourceRecord.TheVariants as log
use Rattle.durable_records.specs.Transactions.{Session, sessions, is_forgotten, failed}
use Rattle.durable_records.specs.Progress.{status_of}
use Rattle.durable_records.specs.Locks.{locks}
use Rattle.durable_records.specs.RowsKept.{tables}
use Rattle.durable_records.specs.Fences.{Fence, fences}
use Rattle.history_rules.specs.Own.{Own, stood}
use Rattle.history_rules.specs.ResourceMemory.{Setup, opening_tables, memory, resource_asked}
use Rattle.history_rules.specs.Nodes.{World, Past, counted_at}
use Rattle.history_rules.specs.Histories.{Moment, own, coordinator_left, memory_at}

-- ---- sessions

-- a transaction that isn't forgotten: its manager, its status, and the branch and statement at which it failed
pub record SessionLine : Type 0 where
  pub xid : ℕ
  pub manager : ℕ
  pub status : GlobalStatus
  pub failed : Option (ℕ × ℕ)

-- the line of a transaction, and those of all that aren't forgotten, the last of the list first
abbrev pub line_of : List SessionRecord → Session → SessionLine
line_of rs s = record { xid = s.xid; manager = s.manager; status = status_of rs s.xid; failed = failed rs s.xid }

abbrev pub lines_of : List SessionRecord → List Session → List SessionLine
lines_of rs [] = []
lines_of rs (s ∷ ss) = lines_of rs ss ++ (if is_forgotten rs s.xid then [] else line_of rs s ∷ [])

-- in the order in which they began, which is that of their numbers
abbrev pub session_lines : List SessionRecord → List SessionLine
session_lines rs = lines_of rs (sessions rs)

-- ---- tables

-- the rows of a table, and those of several, one table after the other
abbrev pub table_rows : Database → TableDef → Rows
table_rows db def = filter (λ e. is_in db.resource def e.0) db.rows

abbrev pub rows_of : Database → List TableDef → Rows
rows_of db [] = []
rows_of db (def ∷ defs) = table_rows db def ++ rows_of db defs

-- the rows of a resource now, table by table in the order of the scenario, each in rising order of keys
abbrev pub resource_rows : Setup → List ResourceRecord → Rows
resource_rows s rs = rows_of (tables (opening_tables s) rs) s.schema.tables

-- ---- reads

-- a row that the local commit of a branch read
pub record ReadLine : Type 0 where
  pub xid : ℕ
  pub branch : ℕ
  pub key : RowKey
  pub row : Row

-- a row that branch b of x read, and all that the local commit of a record read
abbrev pub read_line : ℕ → ℕ → ReadRow → ReadLine
read_line x b r = record { xid = x; branch = b; key = r.key; row = r.row }

abbrev pub reads_in : Option ResourceRecord → List ReadLine
reads_in (Some (log.Committed xid branch call images reads)) = map (read_line xid.0 branch.0) reads
reads_in _ = []

-- the reads of the local commit that comes to stand with the newest own entry
abbrev pub newest_reads : Setup → List ResourceRecord → List Own → List ReadLine
newest_reads s past [] = []
newest_reads s past (o ∷ os) = let m = memory s past os in reads_in (stood o.step.act (resource_asked s m o) m.left)

-- the same at the newest entry of resource n, and of the node at a place; nothing where there is no resource
abbrev pub resource_reads : Past → ℕ → List Moment → Option Setup → List ReadLine
resource_reads past n ms None = []
resource_reads past n ms (Some s) = newest_reads s (past.resource n) (own (place.Res n) ms)

abbrev pub reads_at : World → Past → Place → List Moment → List ReadLine
reads_at w past (place.Res n) ms = resource_reads past n ms (counted_at w.resources n)
reads_at w past _ ms = []

-- the reads of the local commits of a history, in the order of its entries
abbrev pub read_lines : World → Past → List Moment → List ReadLine
read_lines w past [] = []
read_lines w past (m ∷ ms) = read_lines w past ms ++ reads_at w past m.place (m ∷ ms)

-- ---- the report

-- the lists that all members give, one after the other
abbrev pub each : {A B : Type 0} → (A → List B) → List A → List B
each f [] = []
each f (a ∷ rest) = f a ++ each f rest

-- the acts of a history in the order of its entries, and what stands after it
pub record Report : Type 0 where
  pub acts : List Act
  pub sessions : List SessionLine
  pub locks : List (RowKey × ℕ)
  pub tables : Rows
  pub fences : List (ℕ × ((ℕ × ℕ) × Fence))
  pub reads : List ReadLine

-- the acts of a history, oldest first
abbrev pub acts : List Moment → List Act
acts [] = []
acts (m ∷ ms) = acts ms ++ m.step.act ∷ []

-- the records that stand at a resource after a history
abbrev pub records_at : Past → List Moment → Setup → List ResourceRecord
records_at past ms s = (memory_at past s ms).left.records

-- the fences of a resource, each behind its number
abbrev pub fence_lines : ℕ → List ResourceRecord → List (ℕ × ((ℕ × ℕ) × Fence))
fence_lines n rs = map (λ f. (n, f)) (fences rs)

-- the report of a history, over what the disks had before it
abbrev pub report : World → Past → List Moment → Report
report w past ms = let rs = (coordinator_left past ms).records in record {
  acts = acts ms;
  sessions = session_lines rs;
  locks = locks rs;
  tables = each (λ s. resource_rows s (records_at past ms s)) w.resources;
  fences = each (λ s. fence_lines s.number (records_at past ms s)) w.resources;
  reads = read_lines w past ms;
}
