-- What is shown of disks is what the report has of them before the first entry.
use Rattle.std.proofs.Common.{◌≡◌, ℕ, Bool, true, false, if◌then◌else◌, List, [], ◌++◌, length, map, slice_get, Some, option_map, refl, ap, ◌∙◌}
use Rattle.std.proofs.lemmas.List.{length-map}
use Rattle.std.proofs.lemmas.Option.{slice_get-map}
use Rattle.seata_types.specs.declared.rows.RowKey.{RowKey}
use Rattle.durable_records.specs.Fences.{Fence}
use Rattle.durable_records.specs.Locks.{locks}
use Rattle.local_tables.specs.Rows.{Rows}
use Rattle.lock_table.specs.Locks.{locks as rows_held}
use Rattle.scenario_form.specs.declared.scenarios.Scenario.{Scenario}
use Rattle.session_log.specs.declared.sessions.Snapshot.{Snapshot}
use Rattle.session_memory.specs.Holding.{held_in}
use Rattle.resource_memory.specs.Changes.{after}
use Rattle.resource_memory.specs.Known.{Known, known_of}
use Rattle.history_rules.specs.Nodes.{Past}
use Rattle.history_rules.specs.Reports.{SessionLine, each, fence_lines, records_at, resource_rows, session_lines}
use Rattle.history_rules.specs.ResourceMemory.{Setup, opening_tables}
use Rattle.history_text.specs.declared.entries.Names.{Names}
use Rattle.history_text.specs.Report.{names_of, state_text}
use Rattle.history_text.specs.Worlds.{resources_of}
use Rattle.report_text.specs.declared.before.Before.{Before}
use Rattle.report_text.specs.Folds.{FoldedKept, first_folded}
use Rattle.report_text.specs.Following.{IsRead}
use Rattle.report_text.specs.Keeping.{ResourceKept, may_add, resource_over}
use Rattle.report_text.specs.Made.{next_boot}
use Rattle.report_text.specs.Sections.{fences_in, fences_kept, holder_in, line_in, rows_in, rows_kept, shown_text, state_kept}
use Rattle.report_text.proofs.LockLaws.{locks_alike}
use Rattle.report_text.proofs.SectionLaws.{SaysSame, each_same, fences_alike, rows_alike, sessions_alike}

-- a boot changes neither tables nor fences, whether it is counted or not
boot_tables : (counted : Bool) (k : Known) → (if counted then after (next_boot k) k else k).tables ≡ k.tables
boot_tables true k = refl
boot_tables false k = refl

boot_fences : (counted : Bool) (k : Known) → (if counted then after (next_boot k) k else k).fences ≡ k.fences
boot_fences true k = refl
boot_fences false k = refl

over_tables : (k : Known) → (resource_over k).known.tables ≡ k.tables
over_tables k = boot_tables (may_add k (next_boot k)) k

over_fences : (k : Known) → (resource_over k).known.fences ≡ k.fences
over_fences k = boot_fences (may_add k (next_boot k)) k

module _ (s : Scenario) (before : Before) (past : Past) (read : IsRead s before past) where
  abbrev kept : List ResourceKept
  kept = map resource_over before.resources.items

  -- this is known of a resource
  abbrev known : Setup → Known
  known u = known_of (opening_tables u) (past.resource u.number)

  there : (k : ℕ) (u : Setup) → slice_get (resources_of s) k ≡ Some u → slice_get kept k ≡ Some (resource_over (known u))
  there k u at = slice_get-map resource_over before.resources.items k ∙ ap (option_map resource_over) (read.resources k u at).0

  rows_say : (k : ℕ) → SaysSame rows_in (λ u. resource_rows u (records_at past [] u)) kept (resources_of s) k
  unfolding SaysSame
  rows_say k u at = (resource_over (known u), there k u at, rows_alike u (resource_over (known u)) (records_at past [] u) (over_tables (known u)))

  fences_say : (k : ℕ) → SaysSame fences_in (λ u. fence_lines u.number (records_at past [] u)) kept (resources_of s) k
  unfolding SaysSame
  fences_say k u at =
      (resource_over (known u), there k u at, fences_alike u (resource_over (known u)) (records_at past [] u) (over_tables (known u)) (over_fences (known u)))

  count : length kept ≡ length (resources_of s)
  count = length-map before.resources.items resource_over ∙ read.count

  all_rows : rows_kept kept ≡ each (λ u. resource_rows u (records_at past [] u)) (resources_of s)
  all_rows = each_same rows_in (λ u. resource_rows u (records_at past [] u)) kept (resources_of s) count rows_say

  all_fences : fences_kept kept ≡ each (λ u. fence_lines u.number (records_at past [] u)) (resources_of s)
  all_fences = each_same fences_in (λ u. fence_lines u.number (records_at past [] u)) kept (resources_of s) count fences_say

  all_sessions : map line_in before.sessions.sessions ≡ session_lines past.sessions
  all_sessions = ap (λ (k : Snapshot). map line_in k.sessions) read.sessions ∙ sessions_alike past.sessions

  all_locks : map holder_in (rows_held (held_in before.sessions)) ≡ locks past.sessions
  all_locks = ap (λ (k : Snapshot). map holder_in (rows_held (held_in k))) read.sessions ∙ locks_alike past.sessions read.allowed

  state_alike : state_kept (names_of s) (first_folded before).coordinator kept [] ≡ shown_text s past
  unfolding shown_text
  state_alike =
      ap
      (λ (t : List SessionLine × (List (RowKey × ℕ) × (Rows × List (ℕ × ((ℕ × ℕ) × Fence))))).
      state_text (names_of s) t.0 t.1.0 t.1.1.0 t.1.1.1 [])
      (λ i. (all_sessions i, (all_locks i, (all_rows i, all_fences i))))

-- a text of what is kept before the first entry, with nothing in front, is what is shown
pub text_shown : (s : Scenario) (before : Before) (f : FoldedKept) (names : Names) (front text : List ℕ) → f ≡ first_folded before → names ≡ names_of s → front ≡ []
    → text ≡ front ++ state_kept names f.coordinator f.resources [] → (past : Past) → IsRead s before past → text ≡ shown_text s past
text_shown s before f names front text folded named empty is past read =
    is ∙ ap (λ head. head ++ state_kept names f.coordinator f.resources []) empty ∙ ap (λ n. state_kept n f.coordinator f.resources []) named
    ∙ ap (λ (g : FoldedKept). state_kept (names_of s) g.coordinator g.resources []) folded ∙ state_alike s before past read
