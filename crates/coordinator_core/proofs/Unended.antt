-- How many transactions of a memory are neither finished nor failed.
use Rattle.std.proofs.Common.{◌≡◌, ◌&&◌, ◌||◌, ◌+◌, not, ℕ, Bool, true, false, cond, if◌then◌else◌, List, [], ◌∷◌, map, is_some, is_none, refl, sym, ap, ◌∙◌, arith}
use Rattle.std.specs.Prelude.{count_by, filter}
use Rattle.std.proofs.lemmas.List.{map-append}
use Rattle.std.proofs.lemmas.List.Sums.{sum_by-cons, sum_by_push}
use Rattle.disk_model.specs.Disk.{DiskState}
use Rattle.durable_records.specs.declared.coordinators.SessionRecord.{SessionRecord}
use Rattle.durable_records.specs.Transactions.{Session as Began, sessions, session, decided, is_forgotten}
use Rattle.durable_records.specs.Progress.{status_of, progress, is_on, may_decide}
use Rattle.durable_records.specs.SessionOrder.{Allowed}
use Rattle.history_rules.specs.Own.{Own}
use Rattle.session_log.specs.declared.sessions.SessionEntry.{SessionEntry}
use Rattle.session_log.specs.declared.sessions.Snapshot.{Snapshot}
use Rattle.session_log.specs.SnapshotOf.{in_order, entry_now, is_kept_session, snapshot_of}
use Rattle.session_memory.specs.Changes.{is_begin, is_going}
use Rattle.coordinator_core.specs.declared.nodes.Coordinator.{Coordinator}
use Rattle.coordinator_core.specs.Counting.{is_unended_entry}
use Rattle.coordinator_core.specs.Knowledge.{memory}
use Rattle.coordinator_core.specs.Standing.{StandsOver, course, is_down, is_unended_session, unended_sessions}
use Rattle.coordinator_rules.specs.Tracks.{records}
use Rattle.coordinator_rules.proofs.Laws.{answers_alike}

abbrev counted : Bool → ℕ
counted b = cond b 1 0

none_more : (n : ℕ) → n ≡ counted false + n
none_more n = omega arith

swapped : (m n : ℕ) → m + n ≡ n + m
swapped m n = omega arith

-- one that isn't known is neither undecided nor going on
unknown : (forgotten begun undecided decides goes_on : Bool) → forgotten ≡ true → (((begun && not forgotten) && undecided) || ((begun && not forgotten) && (decides && goes_on))) ≡ false
unknown true true undecided decides goes_on e = refl
unknown true false undecided decides goes_on e = refl
unknown false begun undecided decides goes_on e = absurd (let no : false ≡ true = e in cc)

module _ (rs : List SessionRecord) (a : Allowed rs) where
  -- an entry passes as its transaction does
  same_test : (s : Began) → is_unended_entry (entry_now rs s) ≡ is_unended_session rs s
  unfolding is_unended_entry
  same_test s =
      let t = (answers_alike rs a).transaction s.xid in
      ap (λ b. b || is_going (status_of rs s.xid)) (ap is_begin (sym t.status) ∙ t.undecided)
      ∙ ap (λ b. may_decide rs s.xid || b) (ap is_going (sym t.status) ∙ t.going)

  gone : (s : Began) → is_forgotten rs s.xid ≡ true → is_unended_session rs s ≡ false
  gone s = unknown (is_forgotten rs s.xid) (is_some (session rs s.xid)) (is_none (decided rs s.xid)) (is_some (decided rs s.xid)) (is_on (progress rs s.xid))

  one_more : (forgotten : Bool) (s : Began) (kept : List Began) (n : ℕ) → is_forgotten rs s.xid ≡ forgotten
      → count_by is_unended_entry (map (entry_now rs) (in_order kept)) ≡ n
      → count_by is_unended_entry (map (entry_now rs) (in_order (if not forgotten then s ∷ kept else kept))) ≡ counted (is_unended_session rs s) + n
  one_more true s kept n e is = is ∙ none_more n ∙ ap (λ b. counted b + n) (sym (gone s e))
  one_more false s kept n e is =
      ap (count_by is_unended_entry) (map-append (entry_now rs) (in_order kept) (s ∷ []))
      ∙ sum_by_push (λ t. cond (is_unended_entry t) 1 0) (map (entry_now rs) (in_order kept)) (entry_now rs s)
      ∙ ap (λ m. m + counted (is_unended_entry (entry_now rs s))) is
      ∙ ap (λ b. n + counted b) (same_test s)
      ∙ swapped n (counted (is_unended_session rs s))

  counted_alike : (ss : List Began) → count_by is_unended_entry (map (entry_now rs) (in_order (filter (is_kept_session rs) ss))) ≡ count_by (is_unended_session rs) ss
  counted_alike [] = refl
  counted_alike (s ∷ ss) =
      one_more (is_forgotten rs s.xid) s (filter (is_kept_session rs) ss) (count_by (is_unended_session rs) ss) refl (counted_alike ss)
      ∙ sym (sum_by-cons (λ t. cond (is_unended_session rs t) 1 0) s ss)

  pub unended_alike : count_by is_unended_entry (snapshot_of rs).sessions ≡ unended_sessions rs
  unended_alike = counted_alike (sessions rs)

pub unended_told : {D : Type 0} (state : D → DiskState) (c : Coordinator D) (n : ℕ) (es : List SessionEntry) → n ≡ count_by is_unended_entry es → es ≡ (memory c.table).sessions → is_down c ≡ false
    → (past : List SessionRecord) (owns : List Own) → StandsOver state c past owns → n ≡ unended_sessions (records (course past owns))
unended_told state c n es told known up past owns t =
    let tracks = (t.follows (sym t.disks.down ∙ up)).tracks in
    told ∙ ap (count_by is_unended_entry) (known ∙ ap (λ (m : Snapshot). m.sessions) tracks.known) ∙ unended_alike (records (course past owns)) tracks.allowed
