-- The numbers of what stands after a history.
use Rattle.std.specs.Prelude.{◌≡◌, ℕ, ℤ, pos, ◌+ℤ◌, Bool, true, false, if◌then◌else◌, List, [], ◌∷◌, length, count_by, fold, slice_get, Option, Some, None, codes}
use Rattle.seata_types.specs.Orders.{same_text}
use Rattle.seata_types.specs.declared.rows.Row.{Row}
use Rattle.seata_types.specs.declared.rows.RowKey.{RowKey}
use Rattle.seata_types.specs.declared.rows.Value.{Value}
use Rattle.seata_types.specs.declared.rows.Value.TheVariants as value
use Rattle.seata_types.specs.declared.statuses.GlobalStatus.{GlobalStatus}
use Rattle.seata_types.specs.declared.statuses.GlobalStatus.TheVariants as status
use Rattle.local_tables.specs.Rows.{Rows}
use Rattle.session_log.specs.declared.sessions.SessionEntry.{SessionEntry}
use Rattle.scenario_form.specs.declared.scenarios.Scenario.{Scenario}
use Rattle.history_rules.specs.Nodes.{Past}
use Rattle.history_rules.specs.Histories.{Moment, Legal}
use Rattle.history_rules.specs.Reports.{Report, SessionLine, each}
use Rattle.history_rules.specs.Reports.{report as report_of}
use Rattle.history_text.specs.declared.entries.Entry.{Entry}
use Rattle.history_text.specs.History.{entries}
use Rattle.history_text.specs.Worlds.{world_of}
use Rattle.report_text.specs.declared.before.Before.{Before}
use Rattle.report_text.specs.Following.{AreCounted, IsRead}
use Rattle.report_text.specs.Keeping.{CoordinatorKept, ResourceKept}
use Rattle.report_text.specs.Sections.{locks_in, rows_kept}
use Rattle.report_text.specs.declared.kept.Totals.{Totals}

-- ---- sessions

-- a transaction with this status is finished or failed
abbrev pub is_over : GlobalStatus → Bool
is_over status.Committed = true
is_over status.CommitFailed = true
is_over status.Rollbacked = true
is_over status.RollbackFailed = true
is_over status.TimeoutRollbacked = true
is_over status.TimeoutRollbackFailed = true
is_over _ = false

-- that of a line is, and that of a transaction that is known
abbrev pub is_over_line : SessionLine → Bool
is_over_line l = is_over l.status

abbrev pub is_over_entry : SessionEntry → Bool
is_over_entry e = is_over e.session.status

-- ---- columns

-- the number in a cell, if there is one
abbrev pub number_at : Option Value → Option ℤ
number_at (Some (value.Int n)) = Some n
number_at _ = None

abbrev pub listed : Option ℤ → List ℤ
listed (Some n) = n ∷ []
listed None = []

abbrev pub number_in : Option Value → List ℤ
number_in cell = listed (number_at cell)

-- that in a column, counted from 0, of a row of a table of this name
abbrev pub number_of : (table : List ℕ) → (column : ℕ) → RowKey × Row → List ℤ
number_of table column e = if same_text e.0.table table then number_in (slice_get e.1.0 column) else []

-- those of several rows
abbrev pub numbers_in : (table : List ℕ) → (column : ℕ) → Rows → List ℤ
numbers_in table column rows = each (number_of table column) rows

abbrev pub column_sum : (table : List ℕ) → (column : ℕ) → Rows → ℤ
column_sum table column rows = fold ◌+ℤ◌ (pos 0) (numbers_in table column rows)

-- ---- the numbers

-- of a report
abbrev pub totals_of : Report → Totals
totals_of r = record {
  begun = length r.sessions;
  ended = count_by is_over_line r.sessions;
  money = column_sum (codes "acc") 1 r.tables;
  held = column_sum (codes "stock") 2 r.tables;
  locks = length r.locks;
}

-- of a history of a scenario, over the records that its disks had before
unfoldable pub history_totals : Scenario → Past → List Moment → Totals
history_totals s past ms = totals_of (report_of (world_of s) past ms)

-- for the proofs alone: of what was kept of one
abbrev pub totals_kept : CoordinatorKept → List ResourceKept → Totals
totals_kept k ks = record {
  begun = length k.known.sessions;
  ended = count_by is_over_entry k.known.sessions;
  money = column_sum (codes "acc") 1 (rows_kept ks);
  held = column_sum (codes "stock") 2 (rows_kept ks);
  locks = length (locks_in k);
}

-- these are the numbers of each legal history of a scenario that has these entries, over these records
abbrev pub Counts : Scenario → Past → List Entry → Totals → Type 0
Counts s past es t = (ms : List Moment) → Legal (world_of s) past ms → entries ms ≡ es → AreCounted s past es → t ≡ history_totals s past ms

-- said of whatever the disks held that was read
abbrev pub CountsOver : Scenario → Before → List Entry → Totals → Type 0
CountsOver s before es t = (past : Past) → IsRead s before past → Counts s past es t
