-- What is kept of a history, with one more of its entries.
use Rattle.std.proofs.Common.{◌≡◌, ◌==◌, ◌<◌, ◌^◌, ℕ, zero, suc, Bool, true, false, List, [], ◌∷◌, ◌++◌, length, slice_get, set, Option, Some, None, option_map, refl, sym, ap, ◌∙◌, subst, arith, append-nil, append_assoc}
use Rattle.seata_types.specs.declared.ids.Place.{Place}
use Rattle.seata_types.specs.declared.ids.Place.TheVariants as place
use Rattle.seata_types.specs.declared.messages.Step.{Step}
use Rattle.seata_types.specs.declared.statements.Stmt.{Stmt}
use Rattle.durable_records.specs.RowsKept.{tables}
use Rattle.scenario_form.specs.declared.scenarios.Scenario.{Scenario}
use Rattle.history_rules.specs.Own.{Event, added}
use Rattle.history_rules.specs.CoordinatorMemory.{session_record}
use Rattle.history_rules.specs.Histories.{Moment, Cause, own, own_if, brings, HappensAt, IsDone, Stands, coordinator_left, memory_at}
use Rattle.history_rules.specs.Nodes.{Past, Resource}
use Rattle.history_rules.specs.Reports.{ReadLine, newest_reads, resource_reads, reads_at, read_lines, reads_in}
use Rattle.history_rules.specs.ResourceMemory.{Setup, Memory, memory, opening_tables}
use Rattle.history_law.specs.Network.{EachSent}
use Rattle.history_law.proofs.Tests.{false_true, nat_same, nat_differs, same_nat}
use Rattle.history_text.specs.declared.entries.Entry.{Entry}
use Rattle.history_text.specs.History.{entries, entry_of, cause_of}
use Rattle.history_text.specs.Report.{line, lines, names_of, read_text}
use Rattle.history_text.specs.Worlds.{resources_of, world_of}
use Rattle.report_text.specs.Folds.{FoldedKept, session_step, run_now, with_resource, node_step, sent_step, entry_step}
use Rattle.report_text.specs.Following.{IsOfCoordinator, IsOfResource, HasResource, Follows}
use Rattle.report_text.specs.Keeping.{CoordinatorKept, ResourceKept, resource_taken, standing}
use Rattle.report_text.specs.Made.{session_made, tries_for}
use Rattle.report_text.specs.Sections.{reads_text}
use Rattle.report_text.specs.SentIndex.{Index, IsIndexOf, with_entry, delivered_note}
use Rattle.report_text.proofs.MadeLaws.{TellResources, made_is}
use Rattle.report_text.proofs.NumberedLaws.{setup_at}
use Rattle.report_text.proofs.ResourceLaws.{MayStandAt, ActIs, IsTaken, memory_now, stands_now, taken}
use Rattle.report_text.proofs.SentLaws.{next_sent}
use Rattle.report_text.proofs.SessionLaws.{MayStand, taken_is, taken_alike}

-- ---- lists

lines_both : {A : Type 0} (text : A → List ℕ) (xs ys : List A) → lines text (xs ++ ys) ≡ lines text xs ++ lines text ys
lines_both text [] ys = refl
lines_both text (x ∷ xs) ys = ap (λ l. line (text x) ++ l) (lines_both text xs ys) ∙ sym (append_assoc (line (text x)) (lines text xs) (lines text ys))

count_set : {A : Type 0} (xs : List A) (k : ℕ) (x : A) → length (set xs k x) ≡ length xs
count_set [] k x = refl
count_set (y ∷ ys) zero x = refl
count_set (y ∷ ys) (suc k) x = ap suc (count_set ys k x)

set_here : {A : Type 0} (xs : List A) (k : ℕ) (x y : A) → slice_get xs k ≡ Some y → slice_get (set xs k x) k ≡ Some x
set_here [] k x y there = absurd (let no : None ≡ Some y = there in cc)
set_here (z ∷ zs) zero x y there = refl
set_here (z ∷ zs) (suc k) x y there = set_here zs k x y there

set_other : {A : Type 0} (xs : List A) (k j : ℕ) (x : A) → (j ≡ k → ⊥) → slice_get (set xs k x) j ≡ slice_get xs j
set_other [] k j x other = refl
set_other (y ∷ ys) zero zero x other = absurd (other refl)
set_other (y ∷ ys) zero (suc j) x other = refl
set_other (y ∷ ys) (suc k) zero x other = refl
set_other (y ∷ ys) (suc k) (suc j) x other = set_other ys k j x (λ same. other (ap suc same))

-- ---- what must be known of the nodes

-- the records of all nodes may stand
pub record NodesMay (s : Scenario) (past : Past) (ms : List Moment) : Type 0 where
  pub sessions : MayStand (coordinator_left past ms)
  pub resources : (k : ℕ) (u : Setup) → slice_get (resources_of s) k ≡ Some u → MayStandAt (opening_tables u) (memory_at past u ms)

-- the records of the k-th resource, counted from 0, are so few that one more is counted in 32 bits
unfoldable pub HasRoomFor : Scenario → Past → List Moment → (k : ℕ) → Type 0
HasRoomFor s past ms k =
    (u : Setup) → slice_get (resources_of s) k ≡ Some u → suc (length (added (memory_at past u ms).left.flight (memory_at past u ms).left.records)) < 2 ^ 32

-- so are those of the resource where an entry is
abbrev pub HasRoomHere : Scenario → Past → List Moment → Place → Option Event → Type 0
HasRoomHere s past ms (place.Res (suc k)) (Some event) = HasRoomFor s past ms k
HasRoomHere s past ms _ _ = Unit {0}

-- the statements of an entry of the k-th resource, counted from 0, are those that the rules take
unfoldable pub ActsFor : Scenario → Past → List Moment → FoldedKept → (k : ℕ) → Event → (now : ℕ) → Cause → Step → Type 0
ActsFor s past ms f k event now why step =
    (u : Setup) (e : Entry) → slice_get (resources_of s) k ≡ Some u → e.cause ≡ cause_of why → e.act ≡ step.act
    → ActIs u (tables (opening_tables u) (memory_at past u ms).left.records) event (run_now s (suc k) e f) (tries_for s e.cause e.act) step.act

-- ---- one more entry

module _ (s : Scenario) (past : Past) (f : FoldedKept) (ms : List Moment) (follows : Follows s past f ms) (stamp now : ℕ) (why : Cause) (step : Step) where
  -- the moment at a place
  abbrev moment : Place → Option Event → Moment
  moment p event = record { stamp = stamp; place = p; now = now; cause = why; event = event; step = step }

  abbrev entry : Place → Option Event → Entry
  entry p event = entry_of (moment p event)

  abbrev text_of : List ReadLine → List ℕ
  text_of reads = lines (read_text (names_of s)) reads

  -- what is kept of the nodes, with all that an entry leaves, and what it sent
  pub record FollowsNodes (p : Place) (event : Option Event) (g : FoldedKept) : Type 0 where
    pub coordinator : IsOfCoordinator past.sessions g.coordinator (coordinator_left past (moment p event ∷ ms))
    pub count : length g.resources ≡ length (resources_of s)
    pub resources : (k : ℕ) → HasResource s past (moment p event ∷ ms) g.resources k
    pub same_sent : g.sent ≡ f.sent
    pub reads : g.reads ≡ text_of (read_lines (world_of s) past (moment p event ∷ ms))

  whole : (p : Place) (event : Option Event) (g : FoldedKept) → node_step s (names_of s) (entries ms) (entry p event) p f ≡ g → FollowsNodes p event g
      → Follows s past (entry_step s (names_of s) (entries ms) (entry p event) f) (moment p event ∷ ms)
  whole p event g is nodes =
      subst (λ (h : FoldedKept). Follows s past (sent_step (length (entries ms)) (entry p event) h) (moment p event ∷ ms)) (sym is)
      (record {
        coordinator = nodes.coordinator;
        count = nodes.count;
        resources = nodes.resources;
        sent =
            subst (λ (index : Index). IsIndexOf (with_entry index (length (entries ms)) (entry p event)) (moment p event ∷ ms)) (sym nodes.same_sent)
            (next_sent f.sent ms (moment p event) follows.sent);
        reads = nodes.reads;
      })

  -- no read is told of
  no_reads : (rest : List ReadLine) → rest ≡ [] → f.reads ≡ text_of (read_lines (world_of s) past ms ++ rest)
  no_reads rest none = follows.reads ∙ sym (ap text_of (ap (λ l. read_lines (world_of s) past ms ++ l) none ∙ append-nil (read_lines (world_of s) past ms)))

  -- ---- the coordinator

  session_follows : (event : Event) → EachSent TellResources ms → Some event ≡ brings ms place.Tc why → MayStand (coordinator_left past ms)
      → MayStand (coordinator_left past (moment place.Tc (Some event) ∷ ms)) → FollowsNodes place.Tc (Some event) (session_step (entries ms) (entry place.Tc (Some event)) f)
  session_follows event each brought before after = record {
    coordinator =
        subst (λ (k : CoordinatorKept). IsOfCoordinator past.sessions k (coordinator_left past (moment place.Tc (Some event) ∷ ms)))
        (sym
        (taken_alike (session_made (entry place.Tc (Some event)) (delivered_note f.sent (entries ms) (cause_of why))) (session_record now event)
        (made_is f.sent ms follows.sent each (moment place.Tc (Some event)) event brought) step.act f.coordinator))
        (taken_is past.sessions f.coordinator (coordinator_left past ms) follows.coordinator (session_record now event) step.act before after);
    count = follows.count;
    resources = follows.resources;
    same_sent = refl;
    reads = no_reads [] refl;
  }

  -- ---- a resource

  module _ (k : ℕ) (event : Event) (u : Setup) (there : slice_get (resources_of s) k ≡ Some u) where
    abbrev at : Place
    at = place.Res (suc k)

    abbrev mem : Memory
    mem = memory_at past u ms

    abbrev more : List Moment
    more = moment at (Some event) ∷ ms

    number : u.number ≡ suc k
    number = let is = setup_at s k u there in ap (λ (v : Setup). v.number) is.is ∙ omega arith

    own_here : own (place.Res u.number) more ≡ (record { event = event; now = now; step = step }) ∷ own (place.Res u.number) ms
    own_here = ap (λ b. own_if b (Some event) (moment at (Some event)) (own (place.Res u.number) ms)) (nat_same u.number (suc k) number)

    -- its memory takes the entry in
    memory_here : memory_at past u more ≡ memory_now u event step.act mem
    memory_here = ap (memory u (past.resource u.number)) own_here

    -- that of another resource is as it was
    memory_other : (j : ℕ) (v : Setup) → slice_get (resources_of s) j ≡ Some v → (j ≡ k → ⊥) → memory_at past v more ≡ memory_at past v ms
    memory_other j v is other =
        let at_j = setup_at s j v is in
        let number_j : v.number ≡ suc j = ap (λ (w : Setup). w.number) at_j.is ∙ omega arith in
        ap (λ b. memory v (past.resource v.number) (own_if b (Some event) (moment at (Some event)) (own (place.Res v.number) ms)))
        (nat_differs v.number (suc k) (λ same. other (let sucs : suc j ≡ suc k = sym number_j ∙ same in omega (arith, sucs))))

    -- the reads of the record that comes to stand
    reads_here : reads_at (world_of s) past at more ≡ reads_in (stands_now u event step.act mem)
    reads_here =
        ap (λ o. resource_reads past (suc k) more o) there
        ∙ subst (λ n. newest_reads u (past.resource n) (own (place.Res n) more) ≡ reads_in (stands_now u event step.act mem)) number
        (ap (newest_reads u (past.resource u.number)) own_here)

    module _ (r : ResourceKept) (kept : slice_get f.resources k ≡ Some r) (is : IsOfResource r (opening_tables u) mem) (run tries : Option (List Stmt)) (t : IsTaken u r mem is event run tries step.act) where
      abbrev r_now : ResourceKept
      r_now = resource_taken run tries step.act r

      abbrev folded_now : FoldedKept
      folded_now = record f { resources = set f.resources k r_now; reads = f.reads ++ reads_text (names_of s) (standing run step.act r) }

      here : (v : Setup) → slice_get (resources_of s) k ≡ Some v → IsOfResource r_now (opening_tables v) (memory_at past v more)
      here v is =
          let same : u ≡ v = let both : Some u ≡ Some v = sym there ∙ is in cc in
          subst (λ (w : Setup). IsOfResource r_now (opening_tables w) (memory_at past w more)) same
          (subst (λ (m : Memory). IsOfResource r_now (opening_tables u) m) (sym memory_here) t.kept)

      has_by : (j : ℕ) → (b : Bool) → (j == k) ≡ b → HasResource s past more (set f.resources k r_now) j
      has_by j true same v is =
          let at_k : j ≡ k = same_nat j k same in
          (r_now, ap (slice_get (set f.resources k r_now)) at_k ∙ set_here f.resources k r_now r kept, here v (ap (slice_get (resources_of s)) (sym at_k) ∙ is))
      has_by j false differs v is =
          let other : j ≡ k → ⊥ = λ e. false_true (sym differs ∙ nat_same j k e) in
          let before = follows.resources j v is in (
            before.0,
            set_other f.resources k j r_now other ∙ before.1,
            subst (λ (m : Memory). IsOfResource before.0 (opening_tables v) m) (sym (memory_other j v is other)) before.2,
          )

      reads_now : f.reads ++ reads_text (names_of s) (standing run step.act r) ≡ text_of (read_lines (world_of s) past more)
      reads_now =
          ap (λ l. l ++ reads_text (names_of s) (standing run step.act r)) follows.reads
          ∙ ap (λ o. text_of (read_lines (world_of s) past ms) ++ reads_text (names_of s) o) t.stands
          ∙ sym (lines_both (read_text (names_of s)) (read_lines (world_of s) past ms) (reads_in (stands_now u event step.act mem)))
          ∙ ap (λ l. text_of (read_lines (world_of s) past ms ++ l)) (sym reads_here)

      resource_nodes : FollowsNodes at (Some event) folded_now
      resource_nodes = record {
        coordinator = follows.coordinator;
        count = count_set f.resources k r_now ∙ follows.count;
        resources = λ j. has_by j (j == k) refl;
        same_sent = refl;
        reads = reads_now;
      }

    resource_follows : HasRoomFor s past ms k → NodesMay s past ms → NodesMay s past more → ActsFor s past ms f k event now why step
        → Follows s past (entry_step s (names_of s) (entries ms) (entry at (Some event)) f) (moment at (Some event) ∷ ms)
    unfolding ActsFor HasRoomFor
    resource_follows room before after acts =
        let e = entry at (Some event) in
        let has = follows.resources k u there in
        let run = run_now s (suc k) e f in
        let tries = tries_for s e.cause e.act in
        let t =
        taken u has.0 mem has.2 event run tries (before.resources k u there) (room u there) step.act (acts u e there refl refl)
        (subst (λ (m : Memory). MayStandAt (opening_tables u) m) memory_here (after.resources k u there)) in
        whole at (Some event) (folded_now has.0 has.1 has.2 run tries t) (ap (with_resource (names_of s) k run tries e f) has.1) (resource_nodes has.0 has.1 has.2 run tries t)

  -- ---- all places

  -- an entry at which nothing changes
  quiet_net : FollowsNodes place.Net None f
  quiet_net = record { coordinator = follows.coordinator; count = follows.count; resources = follows.resources; same_sent = refl; reads = no_reads [] refl }

  quiet_manager : (n : ℕ) (event : Event) → FollowsNodes (place.Man n) (Some event) f
  quiet_manager n event = record { coordinator = follows.coordinator; count = follows.count; resources = follows.resources; same_sent = refl; reads = no_reads [] refl }

  resource_there : (k : ℕ) (event : Event) (o : Option Setup) → slice_get (resources_of s) k ≡ o → IsDone (world_of s) past ms (moment (place.Res (suc k)) (Some event)) (Some event)
      → HasRoomFor s past ms k → NodesMay s past ms → NodesMay s past (moment (place.Res (suc k)) (Some event) ∷ ms) → ActsFor s past ms f k event now why step
      → Follows s past (entry_step s (names_of s) (entries ms) (entry (place.Res (suc k)) (Some event)) f) (moment (place.Res (suc k)) (Some event) ∷ ms)
  resource_there k event None there done room before after acts =
      absurd (subst (λ o. HappensAt (option_map (λ u. Resource u (past.resource (suc k))) o) (own (place.Res (suc k)) ms) now event step) there done)
  resource_there k event (Some u) there done room before after acts = resource_follows k event u there room before after acts

  -- after the next moment of a legal history this is kept of it, where the records of all nodes may stand and the statements are
  -- those that the rules take
  abbrev pub ActsHere : Place → Option Event → Type 0
  ActsHere (place.Res (suc k)) (Some event) = ActsFor s past ms f k event now why step
  ActsHere _ _ = Unit {0}

  pub next_follows : (p : Place) (event : Option Event) → Stands (world_of s) past ms (moment p event) → EachSent TellResources ms → HasRoomHere s past ms p event → NodesMay s past ms → NodesMay s past (moment p event ∷ ms)
      → ActsHere p event → Follows s past (entry_step s (names_of s) (entries ms) (entry p event) f) (moment p event ∷ ms)
  next_follows place.Tc (Some event) stands each room before after acts =
      whole place.Tc (Some event) (session_step (entries ms) (entry place.Tc (Some event)) f) refl (session_follows event each stands.brought before.sessions after.sessions)
  next_follows place.Tc None stands each room before after acts = absurd stands.done.0
  next_follows (place.Res zero) (Some event) stands each room before after acts = absurd stands.done
  next_follows (place.Res (suc k)) (Some event) stands each room before after acts =
      resource_there k event (slice_get (resources_of s) k) refl stands.done room before after acts
  next_follows (place.Res n) None stands each room before after acts = absurd stands.done.0
  next_follows (place.Man n) (Some event) stands each room before after acts = whole (place.Man n) (Some event) f refl (quiet_manager n event)
  next_follows (place.Man n) None stands each room before after acts = absurd stands.done.0
  next_follows place.Net (Some event) stands each room before after acts = absurd stands.done
  next_follows place.Net None stands each room before after acts = whole place.Net None f refl quiet_net
