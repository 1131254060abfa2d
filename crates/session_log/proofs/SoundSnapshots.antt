-- The snapshot of records that may come after one another is sound: an opening reads what a checkpoint wrote.
use Rattle.std.proofs.Common.{◌≡◌, inl, inr, ℕ, ◌<◌, ◌==◌, ◌&&◌, not, Bool, true, false, if◌then◌else◌, List, [], ◌∷◌, map, length, Option, Some, None, is_some, refl, ap, sym, ◌∙◌}
use Rattle.std.specs.Prelude.{nat_eq, nat_le, nat_lt}
use Rattle.std.specs.List.{list_all, list_any}
use Rattle.std.proofs.lemmas.Bool.{and_from, eqb-true, eq-eqb, lt-ltb, le-leb}
use Rattle.seata_types.specs.declared.limits.TheConstants.{CALLS, CALL_ROWS}
use Rattle.seata_types.specs.declared.statuses.Decision.{Decision}
use Rattle.seata_types.specs.declared.statuses.Decision.TheVariants as how
use Rattle.durable_records.specs.declared.coordinators.SessionRecord.{SessionRecord}
use Rattle.durable_records.specs.declared.coordinators.SessionRecord.TheVariants as log
use Rattle.durable_records.specs.Transactions.{Session as Began, sessions, session, has_xid, decided, is_forgotten, failed}
use Rattle.durable_records.specs.Branches.{Grant, grants, branches, is_at, all_at, is_ended}
use Rattle.durable_records.specs.Progress.{Progress, Goes, Retries, IsFailed, IsDone, progress, status_by, status_of, is_known}
use Rattle.durable_records.specs.SessionOrder.{Allowed, is_counted, has_resource, is_within}
use Rattle.session_log.specs.declared.sessions.Branch.{Branch}
use Rattle.seata_types.specs.declared.limits.TheConstants.{ACTS}
use Rattle.session_log.specs.SnapshotOf.{in_order, branch_now, failure_of, entry_now, forgotten_now, snapshot_of}
use Rattle.session_log.specs.Soundness.{has_counts, is_open_branch, is_ended_branch, is_at_branch, is_tcc_branch, is_numbered_branch, status_fits, is_failed_status, is_open_with, failure_fits, is_entry, all_differ, xids, managers_of, same_ticket_key, tickets, same_call_key, calls, is_forgotten_entry, has_sound_parts, is_sound}
use Rattle.durable_records.proofs.RecordFacts.{known}
use Rattle.durable_records.proofs.Tests.{and_left, and_right, false_not}
use Rattle.session_log.proofs.Members.{false_true, In, of_order, in_order_too, of_filter, in_filter, is_found, all_of_map, any_of_map}
use Rattle.session_log.proofs.RecordFacts.{few_sessions, few_grants, sessions_low, grants_low, done_ended, not_failed, fails}
use Rattle.session_log.proofs.SnapshotKeys.{kept_sessions, gone_sessions, kept_member, gone_member, tickets_differ, calls_differ, xids_differ, managers_differ}

-- ---- numbers of a scenario

-- the numbers of these records are those of a scenario with this many managers and resources
abbrev pub AreWithin : (managers resources : ℕ) → List SessionRecord → Type 0
AreWithin managers resources rs = list_all (is_within managers resources) rs ≡ true

sessions_within : (managers resources : ℕ) (rs : List SessionRecord) → AreWithin managers resources rs → (s : Began) → In s (sessions rs) → is_counted managers s.manager ≡ true
sessions_within managers resources [] w s i = absurd i
sessions_within managers resources (log.Begun xid manager begun timeout ∷ rs) w s (inl e) =
    ap (λ (z : Began). is_counted managers z.manager) e ∙ and_left (is_counted managers manager) (list_all (is_within managers resources) rs) w
sessions_within managers resources (log.Begun xid manager begun timeout ∷ rs) w s (inr i) = sessions_within managers resources rs (and_right (is_counted managers manager) (list_all (is_within managers resources) rs) w) s i
sessions_within managers resources (r ∷ rs) w s i = sessions_within managers resources rs (and_right (is_within managers resources r) (list_all (is_within managers resources) rs) w) s i

-- of a branch: its resource, its call and the resources of its rows
abbrev has_numbers : ℕ → Grant → Bool
has_numbers resources g = is_counted resources g.resource && (is_counted CALLS g.call && list_all (has_resource resources) g.hold)

without_size : (a b c d : Bool) → (a && (b && (c && d))) ≡ true → (a && (b && c)) ≡ true
without_size a b c d e =
    let rest = and_right a (b && (c && d)) e in
    let last = and_right b (c && d) rest in
    and_from a (b && c) (and_left a (b && (c && d)) e) (and_from b c (and_left b (c && d) rest) (and_left c d last))

grants_within : (managers resources : ℕ) (rs : List SessionRecord) → AreWithin managers resources rs → (g : Grant) → In g (grants rs) → has_numbers resources g ≡ true
grants_within managers resources [] w g i = absurd i
grants_within managers resources (log.Granted xid branch resource call ticket k hold ∷ rs) w g (inl e) =
    let here = and_left (is_counted resources resource && (is_counted CALLS call && (list_all (has_resource resources) hold && nat_le (length hold) CALL_ROWS))) (list_all (is_within managers resources) rs) w in
    ap (has_numbers resources) e ∙ without_size (is_counted resources resource) (is_counted CALLS call) (list_all (has_resource resources) hold) (nat_le (length hold) CALL_ROWS) here
grants_within managers resources (log.Granted xid branch resource call ticket k hold ∷ rs) w g (inr i) =
    grants_within managers resources rs (and_right (is_counted resources resource && (is_counted CALLS call && (list_all (has_resource resources) hold && nat_le (length hold) CALL_ROWS))) (list_all (is_within managers resources) rs) w) g i
grants_within managers resources (r ∷ rs) w g i = grants_within managers resources rs (and_right (is_within managers resources r) (list_all (is_within managers resources) rs) w) g i

-- ---- statuses

all_at_each : (gs : List Grant) → all_at gs ≡ true → (g : Grant) → In g gs → is_at g.kind ≡ true
all_at_each [] e g i = absurd i
all_at_each (h ∷ hs) e g (inl is) = ap (λ (z : Grant). is_at z.kind) is ∙ and_left (is_at h.kind) (all_at hs) e
all_at_each (h ∷ hs) e g (inr i) = all_at_each hs (and_right (is_at h.kind) (all_at hs) e) g i

tcc_by : (h : Grant) (hs : List Grant) (b : Bool) → is_at h.kind ≡ b → (b && all_at hs) ≡ false → (all_at hs ≡ false → (g : Grant) × In g hs × (is_at g.kind ≡ false)) → (g : Grant) × In g (h ∷ hs) × (is_at g.kind ≡ false)
tcc_by h hs true t e below = let k = below e in (k.0, inr k.1, k.2)
tcc_by h hs false t e below = (h, inl refl, t)

one_tcc : (gs : List Grant) → all_at gs ≡ false → (g : Grant) × In g gs × (is_at g.kind ≡ false)
one_tcc [] e = false_true (sym e)
one_tcc (h ∷ hs) e = tcc_by h hs (is_at h.kind) refl e (one_tcc hs)

module _ (bs : List Branch) where
  fits : (at : Bool) (d : Option Decision) (far : Progress) → (d ≡ None → list_all is_open_branch bs ≡ true) → (at ≡ true → list_all is_at_branch bs ≡ true) → (at ≡ false → list_any is_tcc_branch bs ≡ true) →
      (far ≡ IsDone → list_all is_ended_branch bs ≡ true) → status_fits (status_by at d far) bs ≡ true
  fits at None far none all some done = none refl
  fits true (Some how.Commit) Goes none all some done = all refl
  fits true (Some how.Commit) Retries none all some done = all refl
  fits false (Some how.Commit) Goes none all some done = some refl
  fits false (Some how.Commit) Retries none all some done = some refl
  fits at (Some how.Commit) IsFailed none all some done = refl
  fits at (Some how.Commit) IsDone none all some done = done refl
  fits at (Some how.Rollback) Goes none all some done = refl
  fits at (Some how.Rollback) Retries none all some done = refl
  fits at (Some how.Rollback) IsFailed none all some done = refl
  fits at (Some how.Rollback) IsDone none all some done = done refl
  fits at (Some how.Timeout) Goes none all some done = refl
  fits at (Some how.Timeout) Retries none all some done = refl
  fits at (Some how.Timeout) IsFailed none all some done = refl
  fits at (Some how.Timeout) IsDone none all some done = done refl

unfailed : (at : Bool) (d : Option Decision) (far : Progress) → (far ≡ IsFailed → ⊥) → is_failed_status (status_by at d far) ≡ false
unfailed at None far not = refl
unfailed at (Some d) IsFailed not = absurd (not refl)
unfailed true (Some how.Commit) Goes not = refl
unfailed true (Some how.Commit) Retries not = refl
unfailed false (Some how.Commit) Goes not = refl
unfailed false (Some how.Commit) Retries not = refl
unfailed at (Some how.Commit) IsDone not = refl
unfailed at (Some how.Rollback) Goes not = refl
unfailed at (Some how.Rollback) Retries not = refl
unfailed at (Some how.Rollback) IsDone not = refl
unfailed at (Some how.Timeout) Goes not = refl
unfailed at (Some how.Timeout) Retries not = refl
unfailed at (Some how.Timeout) IsDone not = refl

failed_status : (at : Bool) (d : Option Decision) → is_some d ≡ true → is_failed_status (status_by at d IsFailed) ≡ true
failed_status at None e = false_true e
failed_status at (Some how.Commit) e = refl
failed_status at (Some how.Rollback) e = refl
failed_status at (Some how.Timeout) e = refl

-- ---- a transaction

module _ (managers resources : ℕ) (rs : List SessionRecord) (a : Allowed rs) (w : AreWithin managers resources rs) where
  module _ (x : ℕ) where
    each_branch : (test : Branch → Bool) → ((g : Grant) → In g (grants rs) → g.xid ≡ x → test (branch_now rs g) ≡ true) → list_all test (map (branch_now rs) (in_order (branches rs x))) ≡ true
    each_branch test each =
        all_of_map test (branch_now rs) (in_order (branches rs x))
        (λ g i. let there = of_filter (λ (h : Grant). h.xid == x) (grants rs) g (of_order (branches rs x) g i) in each g there.0 (eqb-true g.xid x there.1))

    some_branch : (test : Branch → Bool) (g : Grant) → In g (branches rs x) → test (branch_now rs g) ≡ true → list_any test (map (branch_now rs) (in_order (branches rs x))) ≡ true
    some_branch test g i passes = any_of_map test (branch_now rs) (in_order (branches rs x)) g (in_order_too (branches rs x) g i) passes

    numbered_branches : list_all (is_numbered_branch resources (length (grants rs))) (map (branch_now rs) (in_order (branches rs x))) ≡ true
    numbered_branches =
        each_branch (is_numbered_branch resources (length (grants rs)))
        (λ g i of. and_from (nat_le g.branch (length (grants rs))) (has_numbers resources g) (le-leb g.branch (length (grants rs)) (grants_low rs a g i)) (grants_within managers resources rs w g i))

    branch_statuses : status_fits (status_by (all_at (branches rs x)) (decided rs x) (progress rs x)) (map (branch_now rs) (in_order (branches rs x))) ≡ true
    branch_statuses =
        fits (map (branch_now rs) (in_order (branches rs x))) (all_at (branches rs x)) (decided rs x) (progress rs x)
        (λ none. each_branch is_open_branch
        (λ g i of. false_not (is_ended rs g.xid g.branch) (ap (λ (y : ℕ). is_ended rs y g.branch) of ∙ (((known rs a x).undecided none).2) g.branch)))
        (λ all. all_of_map is_at_branch (branch_now rs) (in_order (branches rs x)) (λ g i. all_at_each (branches rs x) all g (of_order (branches rs x) g i)))
        (λ some. let g = one_tcc (branches rs x) some in some_branch is_tcc_branch g.0 g.1 (false_not (is_at g.0.kind) g.2))
        (λ done. each_branch is_ended_branch (λ g i of. ap (λ (y : ℕ). is_ended rs y g.branch) of ∙ done_ended rs a x g done i of))

    failure_by : (o : Option (ℕ × ℕ)) → failed rs x ≡ o → failure_fits (status_by (all_at (branches rs x)) (decided rs x) (progress rs x)) (failure_of o) (map (branch_now rs) (in_order (branches rs x))) ≡ true
    failure_by None e = false_not (is_failed_status (status_by (all_at (branches rs x)) (decided rs x) (progress rs x))) (unfailed (all_at (branches rs x)) (decided rs x) (progress rs x) (not_failed rs a x e))
    failure_by (Some f) e =
        let k = fails rs a x f e in
        and_from (is_failed_status (status_by (all_at (branches rs x)) (decided rs x) (progress rs x))) (list_any (is_open_with f.0) (map (branch_now rs) (in_order (branches rs x))))
        (ap (λ (p : Progress). is_failed_status (status_by (all_at (branches rs x)) (decided rs x) p)) k.is_far ∙ failed_status (all_at (branches rs x)) (decided rs x) k.is_decided)
        (some_branch (is_open_with f.0) k.branch (in_filter (λ (h : Grant). h.xid == x) (grants rs) k.branch k.there (eq-eqb k.branch.xid x k.of))
        (and_from (k.branch.branch == f.0) (not (is_ended rs k.branch.xid k.branch.branch)) (eq-eqb k.branch.branch f.0 k.number)
        (false_not (is_ended rs k.branch.xid k.branch.branch)
        (ap (λ (y : ℕ). is_ended rs y k.branch.branch) k.of ∙ ap (λ (c : ℕ). is_ended rs x c) k.number ∙ k.unended_now))))

  known_status : (s : Began) → In s (sessions rs) → is_forgotten rs s.xid ≡ false → status_of rs s.xid ≡ status_by (all_at (branches rs s.xid)) (decided rs s.xid) (progress rs s.xid)
  known_status s i kept =
      let began : is_some (session rs s.xid) ≡ true = is_found (has_xid s.xid) (sessions rs) s i (eq-eqb s.xid s.xid refl) in
      let known : is_known rs s.xid ≡ true = and_from (is_some (session rs s.xid)) (not (is_forgotten rs s.xid)) began (false_not (is_forgotten rs s.xid) kept) in
      ap (λ (b : Bool). if b then status_by (all_at (branches rs s.xid)) (decided rs s.xid) (progress rs s.xid) else Rattle.seata_types.specs.declared.statuses.GlobalStatus.TheVariants.Finished) known

  sound_entry : (s : Began) → In s (kept_sessions rs) → is_entry managers resources (length (sessions rs)) (length (grants rs)) (entry_now rs s) ≡ true
  sound_entry s i =
      let k = kept_member rs s i in
      let is = known_status s k.0 k.1 in
      let bs = map (branch_now rs) (in_order (branches rs s.xid)) in
      let status : status_fits (status_of rs s.xid) bs ≡ true = ap (λ q. status_fits q bs) is ∙ branch_statuses s.xid in
      let failure : failure_fits (status_of rs s.xid) (failure_of (failed rs s.xid)) bs ≡ true = ap (λ q. failure_fits q (failure_of (failed rs s.xid)) bs) is ∙ failure_by s.xid (failed rs s.xid) refl in
      and_from (nat_le s.xid (length (sessions rs)))
      (is_counted managers s.manager && (status_fits (status_of rs s.xid) bs && (failure_fits (status_of rs s.xid) (failure_of (failed rs s.xid)) bs && list_all (is_numbered_branch resources (length (grants rs))) bs)))
      (le-leb s.xid (length (sessions rs)) (sessions_low rs a s k.0))
      (and_from (is_counted managers s.manager) (status_fits (status_of rs s.xid) bs && (failure_fits (status_of rs s.xid) (failure_of (failed rs s.xid)) bs && list_all (is_numbered_branch resources (length (grants rs))) bs))
      (sessions_within managers resources rs w s k.0)
      (and_from (status_fits (status_of rs s.xid) bs) (failure_fits (status_of rs s.xid) (failure_of (failed rs s.xid)) bs && list_all (is_numbered_branch resources (length (grants rs))) bs) status
      (and_from (failure_fits (status_of rs s.xid) (failure_of (failed rs s.xid)) bs) (list_all (is_numbered_branch resources (length (grants rs))) bs) failure (numbered_branches s.xid))))

  sound_forgotten : (s : Began) → In s (gone_sessions rs) → is_forgotten_entry managers (length (sessions rs)) (forgotten_now s) ≡ true
  sound_forgotten s i =
      let k = gone_member rs s i in
      and_from (nat_le s.xid (length (sessions rs))) (is_counted managers s.manager) (le-leb s.xid (length (sessions rs)) (sessions_low rs a s k.0)) (sessions_within managers resources rs w s k.0)

  sound_parts : length rs < ACTS → has_sound_parts managers resources (snapshot_of rs) ≡ true
  sound_parts few =
      let all = snapshot_of rs in
      and_from (has_counts all) (list_all (is_entry managers resources all.begun all.granted) all.sessions && list_all (is_forgotten_entry managers all.begun) all.forgotten)
      (and_from (nat_lt all.acts ACTS) (nat_le all.begun all.acts && nat_le all.granted all.acts) (lt-ltb (length rs) ACTS few)
      (and_from (nat_le all.begun all.acts) (nat_le all.granted all.acts) (le-leb (length (sessions rs)) (length rs) (few_sessions rs)) (le-leb (length (grants rs)) (length rs) (few_grants rs))))
      (and_from (list_all (is_entry managers resources all.begun all.granted) all.sessions) (list_all (is_forgotten_entry managers all.begun) all.forgotten)
      (all_of_map (is_entry managers resources (length (sessions rs)) (length (grants rs))) (entry_now rs) (kept_sessions rs) sound_entry)
      (all_of_map (is_forgotten_entry managers (length (sessions rs))) forgotten_now (gone_sessions rs) sound_forgotten))

-- of records that may come after one another, with the numbers of a scenario and fewer than 2^31, the snapshot is sound
pub snapshots_are_sound : (managers resources : ℕ) (rs : List SessionRecord) → Allowed rs → AreWithin managers resources rs → length rs < ACTS → is_sound managers resources (snapshot_of rs) ≡ true
unfolding is_sound
snapshots_are_sound managers resources rs a w few =
    let all = snapshot_of rs in
    and_from (has_sound_parts managers resources all) (all_differ nat_eq (xids all) && (all_differ nat_eq (managers_of all) && (all_differ same_ticket_key (tickets all) && all_differ same_call_key (calls all))))
    (sound_parts managers resources rs a w few)
    (and_from (all_differ nat_eq (xids all)) (all_differ nat_eq (managers_of all) && (all_differ same_ticket_key (tickets all) && all_differ same_call_key (calls all))) (xids_differ rs a)
    (and_from (all_differ nat_eq (managers_of all)) (all_differ same_ticket_key (tickets all) && all_differ same_call_key (calls all)) (managers_differ rs a)
    (and_from (all_differ same_ticket_key (tickets all)) (all_differ same_call_key (calls all)) (tickets_differ rs a) (calls_differ rs a))))
