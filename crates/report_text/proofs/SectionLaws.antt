-- The sections of what is kept of a history are those of its report.
use Rattle.std.proofs.Common.{◌≡◌, ℕ, suc, Bool, true, false, not, if◌then◌else◌, List, [], ◌∷◌, ◌++◌, length, map, codes, slice_get, Option, Some, None, option_map, refl, sym, ap, ◌∙◌, arith, append-nil}
use Rattle.std.specs.Prelude.{filter}
use Rattle.std.proofs.lemmas.Option.{same_Some}
use Rattle.seata_types.specs.declared.rows.RowKey.{RowKey}
use Rattle.durable_records.specs.declared.coordinators.SessionRecord.{SessionRecord}
use Rattle.durable_records.specs.declared.resources.ResourceRecord.{ResourceRecord}
use Rattle.durable_records.specs.Fences.{Fence, fences}
use Rattle.durable_records.specs.Locks.{locks}
use Rattle.durable_records.specs.RowsKept.{tables}
use Rattle.durable_records.specs.SessionOrder.{Allowed}
use Rattle.durable_records.specs.Transactions.{Session as Began, sessions, is_forgotten, failed}
use Rattle.local_tables.specs.Rows.{Database, Rows}
use Rattle.local_tables.specs.declared.schemas.TableDef.{TableDef}
use Rattle.lock_table.specs.Locks.{locks as rows_held}
use Rattle.scenario_form.specs.declared.scenarios.Scenario.{Scenario}
use Rattle.session_log.specs.SnapshotOf.{in_order, entry_now, failure_of, is_kept_session, snapshot_of}
use Rattle.session_log.specs.declared.sessions.Snapshot.{Snapshot}
use Rattle.session_memory.specs.Holding.{held_in}
use Rattle.session_memory.proofs.Lists.{map_both}
use Rattle.resource_memory.specs.Known.{Known}
use Rattle.resource_memory.proofs.RecordLaws.{tables_of}
use Rattle.history_rules.specs.Histories.{Moment, Legal, coordinator_left}
use Rattle.history_rules.specs.Nodes.{Past}
use Rattle.history_rules.specs.Reports.{SessionLine, line_of, lines_of, session_lines, table_rows, rows_of, resource_rows, fence_lines, records_at, each, read_lines}
use Rattle.history_rules.specs.Reports.{report as report_of}
use Rattle.history_rules.specs.ResourceMemory.{Setup, opening_tables}
use Rattle.history_law.proofs.SessionHistory.{both_allowed}
use Rattle.history_text.specs.History.{entries}
use Rattle.history_text.specs.Lines.{entry_text}
use Rattle.history_text.specs.Report.{line, lines, read_text, names_of, sections_text, state_text, report_text, report}
use Rattle.history_text.specs.Worlds.{resources_of, world_of}
use Rattle.report_text.specs.Folds.{FoldedKept}
use Rattle.report_text.specs.Following.{Follows}
use Rattle.report_text.specs.Keeping.{ResourceKept}
use Rattle.report_text.specs.Sections.{failed_at, line_in, holder_in, locks_in, rows_of_tables, rows_in, rows_kept, fences_in, fences_kept, sections_kept, text_kept}
use Rattle.report_text.proofs.LockLaws.{locks_alike}

-- ---- sessions

failed_alike : (o : Option (ℕ × ℕ)) → option_map failed_at (failure_of o) ≡ o
failed_alike None = refl
failed_alike (Some failure) = refl

module _ (rs : List SessionRecord) where
  line_alike : (s : Began) → line_in (entry_now rs s) ≡ line_of rs s
  line_alike s = ap (λ (o : Option (ℕ × ℕ)). record (line_of rs s) { failed = o }) (failed_alike (failed rs s.xid))

  abbrev told : List Began → List SessionLine
  told ss = map line_in (map (entry_now rs) (in_order (filter (is_kept_session rs) ss)))

  abbrev kept_if : Bool → Began → List Began → List Began
  kept_if gone s ss = if not gone then s ∷ ss else ss

  told_more : (s : Began) (ss : List Began) → map line_in (map (entry_now rs) (in_order ss ++ s ∷ [])) ≡ map line_in (map (entry_now rs) (in_order ss)) ++ line_of rs s ∷ []
  told_more s ss =
      ap (map line_in) (map_both (entry_now rs) (in_order ss) (s ∷ [])) ∙ map_both line_in (map (entry_now rs) (in_order ss)) (entry_now rs s ∷ [])
      ∙ ap (λ l. map line_in (map (entry_now rs) (in_order ss)) ++ l ∷ []) (line_alike s)

  told_by : (gone : Bool) (s : Began) (ss : List Began) (ls : List SessionLine) → map line_in (map (entry_now rs) (in_order ss)) ≡ ls
      → map line_in (map (entry_now rs) (in_order (kept_if gone s ss))) ≡ ls ++ (if gone then [] else line_of rs s ∷ [])
  told_by true s ss ls same = same ∙ sym (append-nil ls)
  told_by false s ss ls same = told_more s ss ∙ ap (λ k. k ++ line_of rs s ∷ []) same

  told_alike : (ss : List Began) → told ss ≡ lines_of rs ss
  told_alike [] = refl
  told_alike (s ∷ ss) = told_by (is_forgotten rs s.xid) s (filter (is_kept_session rs) ss) (lines_of rs ss) (told_alike ss)

  -- the transactions that are known
  pub sessions_alike : map line_in (snapshot_of rs).sessions ≡ session_lines rs
  sessions_alike = told_alike (sessions rs)

-- ---- tables and fences

tables_alike : (db : Database) (defs : List TableDef) → rows_of_tables db.resource db.rows defs ≡ rows_of db defs
tables_alike db [] = refl
tables_alike db (def ∷ defs) = ap (λ rest. table_rows db def ++ rest) (tables_alike db defs)

abbrev rows_now : Database → Rows
rows_now db = rows_of_tables db.resource db.rows db.schema.tables

module _ (s : Setup) (k : ResourceKept) (rs : List ResourceRecord) (is : k.known.tables ≡ tables (opening_tables s) rs) where
  pub rows_alike : rows_in k ≡ resource_rows s rs
  rows_alike =
      ap rows_now is ∙ tables_alike (tables (opening_tables s) rs) (tables (opening_tables s) rs).schema.tables
      ∙ ap (λ schema. rows_of (tables (opening_tables s) rs) schema.tables) (tables_of (opening_tables s) rs).schema

  pub fences_alike : k.known.fences ≡ fences rs → fences_in k ≡ fence_lines s.number rs
  fences_alike same =
      ap (λ (db : Database). map (λ f. (db.resource, f)) k.known.fences) is
      ∙ ap (λ fs. map (λ f. ((tables (opening_tables s) rs).resource, f)) fs) same
      ∙ ap (λ n. map (λ f. (n, f)) (fences rs)) (tables_of (opening_tables s) rs).resource

-- ---- of each resource

-- each of one list has one of the other at its place, that says the same
module _ {A B C : Type 0} (f : A → List C) (g : B → List C) where
  unfoldable pub SaysSame : (xs : List A) (ys : List B) → ℕ → Type 0
  SaysSame xs ys k = (y : B) → slice_get ys k ≡ Some y → (x : A) × (slice_get xs k ≡ Some x) × (f x ≡ g y)

  first_same : (x : A) (xs : List A) (y : B) (ys : List B) → SaysSame (x ∷ xs) (y ∷ ys) 0 → f x ≡ g y
  unfolding SaysSame
  first_same x xs y ys same =
      let there = same y refl in
      ap f (same_Some x there.0 there.1) ∙ there.2

  rest_same : (x : A) (xs : List A) (y : B) (ys : List B) (k : ℕ) → SaysSame (x ∷ xs) (y ∷ ys) (suc k) → SaysSame xs ys k
  unfolding SaysSame
  rest_same x xs y ys k same = same

  pub each_same : (xs : List A) (ys : List B) → length xs ≡ length ys → ((k : ℕ) → SaysSame xs ys k) → each f xs ≡ each g ys
  each_same [] [] count same = refl
  each_same [] (y ∷ ys) count same = absurd cc
  each_same (x ∷ xs) [] count same = absurd cc
  each_same (x ∷ xs) (y ∷ ys) count same =
      ap (λ l. l ++ each f xs) (first_same x xs y ys (same 0))
      ∙ ap (λ l. g y ++ l) (each_same xs ys (let counts : suc (length xs) ≡ suc (length ys) = count in omega (arith, counts)) (λ k. rest_same x xs y ys k (same (suc k))))

module _ (s : Scenario) (past : Past) (f : FoldedKept) (ms : List Moment) (follows : Follows s past f ms) where
  rows_say : (k : ℕ) → SaysSame rows_in (λ u. resource_rows u (records_at past ms u)) f.resources (resources_of s) k
  unfolding SaysSame
  rows_say k u there =
      let kept = follows.resources k u there in
      (kept.0, kept.1, rows_alike u kept.0 (records_at past ms u) (ap (λ (known : Known). known.tables) kept.2.known))

  fences_say : (k : ℕ) → SaysSame fences_in (λ u. fence_lines u.number (records_at past ms u)) f.resources (resources_of s) k
  unfolding SaysSame
  fences_say k u there =
      let kept = follows.resources k u there in
      let tabled = ap (λ (known : Known). known.tables) kept.2.known in
      (kept.0, kept.1, fences_alike u kept.0 (records_at past ms u) tabled (ap (λ (known : Known). known.fences) kept.2.known))

  pub all_rows : rows_kept f.resources ≡ each (λ u. resource_rows u (records_at past ms u)) (resources_of s)
  all_rows = each_same rows_in (λ u. resource_rows u (records_at past ms u)) f.resources (resources_of s) follows.count rows_say

  all_fences : fences_kept f.resources ≡ each (λ u. fence_lines u.number (records_at past ms u)) (resources_of s)
  all_fences = each_same fences_in (λ u. fence_lines u.number (records_at past ms u)) f.resources (resources_of s) follows.count fences_say

  pub all_sessions : map line_in f.coordinator.known.sessions ≡ session_lines (coordinator_left past ms).records
  all_sessions = ap (λ (k : Snapshot). map line_in k.sessions) follows.coordinator.known ∙ sessions_alike (coordinator_left past ms).records

  pub all_locks : Allowed (coordinator_left past ms).records → locks_in f.coordinator ≡ locks (coordinator_left past ms).records
  all_locks a =
      ap (λ (k : Snapshot). map holder_in (rows_held (held_in k))) follows.coordinator.known
      ∙ locks_alike (coordinator_left past ms).records a

  -- the sections are those of the report
  sections_alike : Allowed (coordinator_left past ms).records → sections_kept (names_of s) f.coordinator f.resources f.reads ≡ sections_text (names_of s) (report_of (world_of s) past ms)
  sections_alike a =
      let names = names_of s in
      ap (λ reads. sections_kept names f.coordinator f.resources reads) follows.reads
      ∙ ap
      (λ (t : List SessionLine × (List (RowKey × ℕ) × (Rows × List (ℕ × ((ℕ × ℕ) × Fence))))).
      state_text names t.0 t.1.0 t.1.1.0 t.1.1.1 (line (codes "reads") ++ lines (read_text names) (read_lines (world_of s) past ms)))
      (λ i. (all_sessions i, (all_locks a i, (all_rows i, all_fences i))))

-- the text of what is kept of a legal history is its report
pub text_alike : (s : Scenario) (past : Past) (f : FoldedKept) (ms : List Moment) → Allowed past.sessions → Legal (world_of s) past ms → Follows s past f ms
    → text_kept (names_of s) (entries ms) f.coordinator f.resources f.reads ≡ report s past ms
unfolding text_kept report_text report
text_alike s past f ms allowed legal follows =
    ap (λ rest. line (codes "entries") ++ (lines (entry_text (names_of s)) (entries ms) ++ rest))
    (sections_alike s past f ms follows (both_allowed (world_of s) past ms allowed legal).stand)
