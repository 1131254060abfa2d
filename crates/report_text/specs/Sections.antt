-- The sections of a report, by what was kept: their lines are those of the report's definitions.
use Rattle.std.specs.Prelude.{◌≡◌, ℕ, List, [], ◌∷◌, ◌++◌, codes, filter, map, Option, option_map}
use Rattle.seata_types.specs.declared.ids.BranchId.{BranchId}
use Rattle.seata_types.specs.declared.ids.Xid.{Xid}
use Rattle.seata_types.specs.declared.rows.RowKey.{RowKey}
use Rattle.local_tables.specs.Rows.{Rows, is_in}
use Rattle.local_tables.specs.declared.schemas.TableDef.{TableDef}
use Rattle.durable_records.specs.declared.coordinators.SessionRecord.{SessionRecord}
use Rattle.durable_records.specs.declared.resources.ResourceRecord.{ResourceRecord}
use Rattle.durable_records.specs.Fences.{Fence}
use Rattle.durable_records.specs.Locks.{locks as records_held}
use Rattle.durable_records.specs.SessionOrder.{Allowed}
use Rattle.lock_table.specs.Locks.{locks}
use Rattle.session_log.specs.SnapshotOf.{snapshot_of}
use Rattle.session_log.specs.declared.sessions.SessionEntry.{SessionEntry}
use Rattle.session_memory.specs.Holding.{held_in}
use Rattle.scenario_form.specs.declared.scenarios.Scenario.{Scenario}
use Rattle.history_rules.specs.Nodes.{Past}
use Rattle.history_rules.specs.Reports.{SessionLine, each, reads_in}
use Rattle.history_rules.specs.Reports.{report as report_of}
use Rattle.history_text.specs.declared.entries.Entry.{Entry}
use Rattle.history_text.specs.declared.entries.Names.{Names}
use Rattle.history_text.specs.Lines.{entry_text}
use Rattle.history_text.specs.Report.{line, lines, names_of, read_text, state_text}
use Rattle.history_text.specs.Worlds.{world_of}
use Rattle.report_text.specs.Keeping.{CoordinatorKept, ResourceKept}

-- ---- sessions and locks

abbrev pub failed_at : BranchId × ℕ → ℕ × ℕ
failed_at failure = (failure.0.0, failure.1)

-- the line of a transaction that is known
abbrev pub line_in : SessionEntry → SessionLine
line_in e = record { xid = e.xid.0; manager = e.session.manager; status = e.session.status; failed = option_map failed_at e.session.failed }

abbrev pub holder_in : RowKey × Xid → RowKey × ℕ
holder_in held = (held.0, held.1.0)

-- the rows that are held, each with its holder
abbrev pub locks_in : CoordinatorKept → List (RowKey × ℕ)
locks_in k = map holder_in (locks (held_in k.known))

-- the rows that a table of locks lists over the snapshot of records that may come after one another are those that the records hold
abbrev pub ListsLocks : Type 0
ListsLocks = (rs : List SessionRecord) → Allowed rs → map holder_in (locks (held_in (snapshot_of rs))) ≡ records_held rs

-- ---- tables and fences

-- the rows of a resource, table by table
abbrev pub rows_of_tables : ℕ → Rows → List TableDef → Rows
rows_of_tables resource rows [] = []
rows_of_tables resource rows (def ∷ defs) = filter (λ e. is_in resource def e.0) rows ++ rows_of_tables resource rows defs

abbrev pub rows_in : ResourceKept → Rows
rows_in k = rows_of_tables k.known.tables.resource k.known.tables.rows k.known.tables.schema.tables

abbrev pub rows_kept : List ResourceKept → Rows
rows_kept ks = each rows_in ks

-- each branch that has a fence, behind the number of its resource
abbrev pub fences_in : ResourceKept → List (ℕ × ((ℕ × ℕ) × Fence))
fences_in k = map (λ f. (k.known.tables.resource, f)) k.known.fences

abbrev pub fences_kept : List ResourceKept → List (ℕ × ((ℕ × ℕ) × Fence))
fences_kept ks = each fences_in ks

-- ---- reads

-- the lines of the rows that a local commit read
abbrev pub reads_text : Names → Option ResourceRecord → List ℕ
reads_text names r = lines (read_text names) (reads_in r)

-- ---- the text

-- the sections of what stands of a scenario whose disks hold these records: what the report has of them before the first entry
unfoldable pub shown_text : Scenario → Past → List ℕ
shown_text s past = let r = report_of (world_of s) past [] in state_text (names_of s) r.sessions r.locks r.tables r.fences []

-- for the proofs alone: those of what was kept, and with the lines of the reads
abbrev pub state_kept : Names → CoordinatorKept → List ResourceKept → (rest : List ℕ) → List ℕ
state_kept names k ks rest = state_text names (map line_in k.known.sessions) (locks_in k) (rows_kept ks) (fences_kept ks) rest

abbrev pub sections_kept : Names → CoordinatorKept → List ResourceKept → (reads : List ℕ) → List ℕ
sections_kept names k ks reads = state_kept names k ks (line (codes "reads") ++ reads)

-- the report of what was kept of a history with these entries
unfoldable pub text_kept : Names → List Entry → CoordinatorKept → List ResourceKept → (reads : List ℕ) → List ℕ
text_kept names es k ks reads = line (codes "entries") ++ (lines (entry_text names) es ++ sections_kept names k ks reads)
