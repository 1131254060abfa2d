-- What is kept of the entries of a legal history, from the first to the last, and the report that is printed of it.
use Rattle.std.proofs.Common.{◌≡◌, ◌+◌, ◌<◌, ◌^◌, ℕ, zero, suc, List, [], ◌∷◌, ◌++◌, length, slice_get, Some, None, option_map, refl, sym, ap, ◌∙◌, subst, arith}
use Rattle.std.proofs.lemmas.List.{length-map}
use Rattle.std.proofs.lemmas.Option.{slice_get-map}
use Rattle.seata_types.specs.declared.ids.Place.TheVariants as place
use Rattle.local_tables.specs.Rows.{Database, opened}
use Rattle.durable_records.specs.declared.resources.ResourceRecord.{ResourceRecord}
use Rattle.durable_records.specs.SessionOrder.{Allowed}
use Rattle.scenario_form.specs.declared.scenarios.ResourceDef.{ResourceDef}
use Rattle.scenario_form.specs.declared.scenarios.Scenario.{Scenario}
use Rattle.session_log.specs.SnapshotOf.{snapshot_of}
use Rattle.session_log.specs.declared.sessions.Snapshot.{Snapshot}
use Rattle.resource_memory.specs.Known.{Known, known_of}
use Rattle.history_rules.specs.Histories.{Moment, Legal}
use Rattle.history_rules.specs.Nodes.{Past, no_past}
use Rattle.history_rules.specs.ResourceMemory.{Setup, opening_tables, boot_over}
use Rattle.history_text.specs.declared.entries.Entry.{Entry}
use Rattle.history_text.specs.History.{entries, entry_of}
use Rattle.history_text.specs.Report.{names_of}
use Rattle.history_text.specs.Worlds.{resources_of, world_of}
use Rattle.history_text.proofs.Worlds.{world_of-numbered}
use Rattle.report_text.specs.declared.before.Before.{Before}
use Rattle.report_text.specs.Folds.{FoldedKept, first_folded, entry_step}
use Rattle.report_text.specs.Following.{AreCounted, Come, Follows, FollowsAll, HasResource, IsOfCoordinator, IsRead, IsReadAt, Reports, unused_from, unused_kept}
use Rattle.report_text.specs.Keeping.{coordinator_over, known_with, resource_over}
use Rattle.report_text.specs.Sections.{text_kept}
use Rattle.report_text.proofs.ComingLaws.{boot_comes}
use Rattle.report_text.proofs.Counts.{AreFew, acts_at, counted_front, few_below, few_of}
use Rattle.report_text.proofs.FoldLaws.{NodesMay, ActsHere, HasRoomHere, next_follows}
use Rattle.report_text.proofs.HeardLaws.{heard}
use Rattle.report_text.proofs.Lists.{same_ends, snoc_not_nil}
use Rattle.report_text.proofs.NumberedLaws.{setup_at, length-resources}
use Rattle.report_text.proofs.ResourceLaws.{known_now, boot_is, none_sorted, none_open}
use Rattle.report_text.proofs.SectionLaws.{text_alike}
use Rattle.report_text.proofs.SentLaws.{none_sent}
use Rattle.report_text.proofs.SessionLaws.{over_is}

-- ---- before the first entry

-- a resource that was opened over these records
over_kept : (u : Setup) (rs : List ResourceRecord) → Come (opening_tables u) rs → length rs + 1 < 2 ^ 32 → (resource_over (known_of (opening_tables u) rs)).known ≡ known_of (opening_tables u) (boot_over rs ∷ rs)
over_kept u rs come few =
    let opening : Database = opening_tables u in
    ap (λ r. known_with r (known_of opening rs)) (boot_is opening (known_of opening rs) rs refl (omega (arith, few)))
    ∙ known_now opening (known_of opening rs) (boot_over rs) rs refl (boot_comes opening rs come) (omega (arith, few))

module _ (s : Scenario) (before : Before) (past : Past) (read : IsRead s before past) (counted : AreCounted s past []) where
  first_has : (k : ℕ) → HasResource s past [] (first_folded before).resources k
  first_has k u there =
      let held = read.resources k u there in
      let few = counted (place.Res u.number) in
      let acts = acts_at s past k u there in (
        resource_over (known_of (opening_tables u) (past.resource u.number)),
        slice_get-map resource_over before.resources.items k ∙ ap (option_map resource_over) held.0,
        record {
          known = over_kept u (past.resource u.number) held.1 (omega (arith, few, acts));
          flight = refl;
          in_order = none_sorted;
          works = none_open;
        },
      )

  pub first_follows : Follows s past (first_folded before) []
  first_follows = record {
    coordinator = subst (λ (known : Snapshot). IsOfCoordinator past.sessions (coordinator_over known) (record { records = past.sessions; flight = None }))
        (sym read.sessions) (over_is past.sessions read.allowed);
    count = length-map before.resources.items resource_over ∙ read.count;
    resources = first_has;
    sent = none_sent;
    reads = refl;
  }

pub none_folded : (s : Scenario) (before : Before) → FollowsAll s before [] (first_folded before)
none_folded s before past [] read legal same counted = first_follows s before past read counted
none_folded s before past (m ∷ ms) read legal same counted = absurd (snoc_not_nil (entries ms) (entry_of m) same)

-- ---- disks without records

length-unused : (n : ℕ) (defs : List ResourceDef) → length (unused_from n defs) ≡ length defs
length-unused n [] = refl
length-unused n (def ∷ defs) = ap suc (length-unused (suc n) defs)

unused_at : (n : ℕ) (defs : List ResourceDef) (k : ℕ) → slice_get (unused_from n defs) k ≡ option_map (unused_kept (n + k)) (slice_get defs k)
unused_at n [] k = refl
unused_at n (def ∷ defs) zero = ap (λ j. Some (unused_kept j def)) (omega arith)
unused_at n (def ∷ defs) (suc k) = unused_at (suc n) defs k ∙ ap (λ j. option_map (unused_kept j) (slice_get defs k)) (omega arith)

unused_read : (s : Scenario) (k : ℕ) → IsReadAt s (unused_from 1 s.resources) no_past k
unused_read s k u there =
    let is = setup_at s k u there in (
      unused_at 1 s.resources k ∙ ap (option_map (unused_kept (1 + k))) is.there
          ∙ ap (λ (db : Database). Some (known_of db [])) (sym (ap opening_tables is.is ∙ ap (λ n. opened n is.def.schema is.def.opening) (omega arith))),
      tt,
    )

pub none_read : (s : Scenario) (before : Before) → before.sessions ≡ snapshot_of [] → before.resources.items ≡ unused_from 1 s.resources → IsRead s before no_past
none_read s before sessions resources = record {
  sessions = sessions;
  allowed = tt;
  count = ap length resources ∙ length-unused 1 s.resources ∙ sym (length-resources s);
  resources = λ k. subst (λ (ks : List Known). IsReadAt s ks no_past k) (sym resources) (unused_read s k);
}

-- ---- one more entry

-- the records of before may come one after the other
pub record ComeBefore (s : Scenario) (past : Past) : Type 0 where
  pub allowed : Allowed past.sessions
  pub resources : (k : ℕ) (u : Setup) → slice_get (resources_of s) k ≡ Some u → Come (opening_tables u) (past.resource u.number)

come_before : (s : Scenario) (before : Before) (past : Past) → IsRead s before past → ComeBefore s past
come_before s before past read = record { allowed = read.allowed; resources = λ k u there. (read.resources k u there).1 }

-- what is shown of each legal history: its records may come one after the other
unfoldable pub RecordsMay : Scenario → Type 0
RecordsMay s = (past : Past) → ComeBefore s past → (ms : List Moment) → Legal (world_of s) past ms → AreFew s past ms → NodesMay s past ms

-- an entry of a resource has room for its record
unfoldable pub RecordsFit : Scenario → Type 0
RecordsFit s = (past : Past) (ms : List Moment) (m : Moment) → AreFew s past (m ∷ ms) → HasRoomHere s past ms m.place m.event

-- and the statements of its entries are those that the rules take
unfoldable pub StatementsAre : Scenario → Type 0
StatementsAre s =
    (past : Past) (ms : List Moment) (m : Moment) (f : FoldedKept) (follows : Follows s past f ms) → Allowed past.sessions → Legal (world_of s) past (m ∷ ms)
    → ActsHere s past f ms follows m.stamp m.now m.cause m.step m.place m.event

module _ (s : Scenario) (before : Before) (records : RecordsMay s) (fit : RecordsFit s) (statements : StatementsAre s) (es : List Entry) (e : Entry) (f : FoldedKept) (kept : FollowsAll s before es f) where
  more_by : (past : Past) (m : Moment) (ms : List Moment) → IsRead s before past → Legal (world_of s) past (m ∷ ms) → entries ms ≡ es → entry_of m ≡ e → AreCounted s past (entries (m ∷ ms))
      → Follows s past (entry_step s (names_of s) es e f) (m ∷ ms)
  unfolding RecordsMay RecordsFit StatementsAre
  more_by past m ms read legal front end counted =
      let few = few_of s past (m ∷ ms) counted in
      let come = come_before s before past read in
      let follows = kept past ms read legal.0 front (subst (AreCounted s past) front (counted_front s past (entries ms) (entry_of m) counted)) in
      let told = heard (world_of s) past (world_of-numbered s) read.allowed ms legal.0 in
      subst (λ (d : Entry). Follows s past (entry_step s (names_of s) es d f) (m ∷ ms)) end
      (subst (λ (ds : List Entry). Follows s past (entry_step s (names_of s) ds (entry_of m) f) (m ∷ ms)) front
      (next_follows s past f ms follows m.stamp m.now m.cause m.step m.place m.event legal.1 told.resources (fit past ms m few) (records past come ms legal.0 (few_below s past m ms few))
      (records past come (m ∷ ms) legal few) (statements past ms m f follows read.allowed legal)))

  pub next_folded : FollowsAll s before (es ++ e ∷ []) (entry_step s (names_of s) es e f)
  next_folded past [] read legal same counted = absurd (snoc_not_nil es e (sym same))
  next_folded past (m ∷ ms) read legal same counted =
      let ends = same_ends (entries ms) es (entry_of m) e same in
      more_by past m ms read legal ends.front ends.end (subst (AreCounted s past) (sym same) counted)

-- ---- the report

pub reports : (s : Scenario) (before : Before) (es : List Entry) (f : FoldedKept) (text : List ℕ) → FollowsAll s before es f → text ≡ text_kept (names_of s) es f.coordinator f.resources f.reads
    → (past : Past) → IsRead s before past → Reports s past es text
reports s before es f text follows is past read ms legal same counted =
    is ∙ ap (λ ds. text_kept (names_of s) ds f.coordinator f.resources f.reads) (sym same) ∙ text_alike s past f ms read.allowed legal (follows past ms read legal same counted)
