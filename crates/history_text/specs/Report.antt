-- The report of a history: its entries, and what they say of the sessions, the locks, the rows and the fences.
use Rattle.std.specs.Prelude.{ℕ, List, [], ◌∷◌, ◌++◌, map, Option, Some, None, codes}
use Rattle.std.specs.Fmt.{decimal}
use Rattle.seata_types.specs.Statuses.{code_of}
use Rattle.seata_types.specs.declared.ids.Place.TheVariants as place
use Rattle.seata_types.specs.declared.rows.Row.{Row}
use Rattle.seata_types.specs.declared.rows.RowKey.{RowKey}
use Rattle.seata_types.specs.declared.statuses.GlobalStatus.{GlobalStatus}
use Rattle.seata_types.specs.declared.statuses.GlobalStatus.TheVariants as status
use Rattle.durable_records.specs.Fences.{Fence, IsTried, IsCommitted, IsRollbacked, IsSuspended}
use Rattle.scenario_form.specs.declared.scenarios.ManagerDef.{ManagerDef}
use Rattle.scenario_form.specs.declared.scenarios.ResourceDef.{ResourceDef}
use Rattle.scenario_form.specs.declared.scenarios.Scenario.{Scenario}
use Rattle.history_rules.specs.CoordinatorRules.{xid_of, branch_of}
use Rattle.history_rules.specs.Nodes.{Past}
use Rattle.history_rules.specs.Histories.{Moment}
use Rattle.history_rules.specs.Reports.{Report, SessionLine, ReadLine}
use Rattle.history_rules.specs.Reports.{report as report_of}
use Rattle.history_text.specs.declared.entries.Entry.{Entry}
use Rattle.history_text.specs.declared.entries.Names.{Names}
use Rattle.history_text.specs.History.{entries}
use Rattle.history_text.specs.Lines.{entry_text, place_text, name_text, xid_text, branch_text, leg_text, lock_text, row_text}
use Rattle.history_text.specs.Worlds.{world_of}

-- a text with its line feed, and a line for each of a list
abbrev pub line : List ℕ → List ℕ
line text = text ++ 10 ∷ []

abbrev pub lines : {A : Type 0} → (A → List ℕ) → List A → List ℕ
lines text [] = []
lines text (a ∷ rest) = line (text a) ++ lines text rest

-- the names of a scenario's nodes
abbrev pub manager_name : ManagerDef → List ℕ
manager_name def = def.name

abbrev pub resource_name : ResourceDef → List ℕ
resource_name def = def.name

abbrev pub names_of : Scenario → Names
names_of s = record { resources = map resource_name s.resources; managers = map manager_name s.managers }

-- ---- sessions

-- Seata's name of a session's status
abbrev pub status_name : GlobalStatus → List ℕ
status_name status.UnKnown = codes "UnKnown"
status_name status.Begin = codes "Begin"
status_name status.Committing = codes "Committing"
status_name status.CommitRetrying = codes "CommitRetrying"
status_name status.Rollbacking = codes "Rollbacking"
status_name status.RollbackRetrying = codes "RollbackRetrying"
status_name status.TimeoutRollbacking = codes "TimeoutRollbacking"
status_name status.TimeoutRollbackRetrying = codes "TimeoutRollbackRetrying"
status_name status.AsyncCommitting = codes "AsyncCommitting"
status_name status.Committed = codes "Committed"
status_name status.CommitFailed = codes "CommitFailed"
status_name status.Rollbacked = codes "Rollbacked"
status_name status.RollbackFailed = codes "RollbackFailed"
status_name status.TimeoutRollbacked = codes "TimeoutRollbacked"
status_name status.TimeoutRollbackFailed = codes "TimeoutRollbackFailed"
status_name status.Finished = codes "Finished"

-- the branch and the statement at which a session failed
abbrev pub failed_text : Option (ℕ × ℕ) → List ℕ
failed_text None = []
failed_text (Some (b, stmt)) = codes " " ++ (branch_text (branch_of b) ++ (codes " stmt " ++ decimal stmt))

-- a transaction, its manager, its status with the name, and where it failed
abbrev pub session_text : Names → SessionLine → List ℕ
session_text names l =
    xid_text (xid_of l.xid) ++ (codes " " ++ (place_text names (place.Man l.manager) ++ (codes " " ++ (decimal (code_of l.status) ++
    (codes " " ++ (status_name l.status ++ failed_text l.failed))))))

-- ---- rows and fences

-- a row that is held, and its holder
abbrev pub holder_text : Names → RowKey × ℕ → List ℕ
holder_text names (key, x) = lock_text names key (xid_of x)

-- a row, as `A.acc (1, 900)`
abbrev pub table_row_text : Names → RowKey × Row → List ℕ
table_row_text names (key, row) =
    name_text (codes "r") names.resources key.resource ++ (codes "." ++ (key.table ++ (codes " " ++ row_text row)))

-- a fence's status, as in Seata's `tcc_fence_log`
abbrev pub fence_name : Fence → List ℕ
fence_name IsTried = codes "tried"
fence_name IsCommitted = codes "committed"
fence_name IsRollbacked = codes "rollbacked"
fence_name IsSuspended = codes "suspended"

-- a resource, a branch that has a fence there, and the fence's status
abbrev pub fence_text : Names → ℕ × ((ℕ × ℕ) × Fence) → List ℕ
fence_text names (n, ((x, b), fence)) =
    name_text (codes "r") names.resources n ++ (codes " " ++ (leg_text (xid_of x) (branch_of b) ++ (codes " " ++ fence_name fence)))

-- a branch, and a row that its local commit read
abbrev pub read_text : Names → ReadLine → List ℕ
read_text names l = leg_text (xid_of l.xid) (branch_of l.branch) ++ (codes " " ++ table_row_text names (l.key, l.row))

-- ---- the report

-- the sections of what stands: transactions, held rows, tables and fences, and behind them the rest of a text
abbrev pub state_text : Names → List SessionLine → List (RowKey × ℕ) → List (RowKey × Row)
    → List (ℕ × ((ℕ × ℕ) × Fence)) → (rest : List ℕ) → List ℕ
state_text names sessions held rows fences rest =
    line (codes "sessions") ++ (lines (session_text names) sessions ++ (line (codes "locks") ++ (lines (holder_text names) held ++
    (line (codes "tables") ++ (lines (table_row_text names) rows ++ (line (codes "fences") ++ (lines (fence_text names) fences ++ rest)))))))

-- the sections after the entries
abbrev pub sections_text : Names → Report → List ℕ
sections_text names r =
    state_text names r.sessions r.locks r.tables r.fences (line (codes "reads") ++ lines (read_text names) r.reads)

-- the text of a report, with these entries
unfoldable pub report_text : Names → List Entry → Report → List ℕ
report_text names es r = line (codes "entries") ++ (lines (entry_text names) es ++ sections_text names r)

-- the report of a history of a scenario, over the records that the disks of its nodes had before
unfoldable pub report : Scenario → Past → List Moment → List ℕ
report s past ms = report_text (names_of s) (entries ms) (report_of (world_of s) past ms)
