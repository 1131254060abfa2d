-- The snapshot of one more record.
use Rattle.std.proofs.Common.{◌≡◌, ◌==◌, ◌&&◌, ◌<◌, ◌≤◌, ◌+◌, not, ℕ, Bool, true, false, cond, if◌then◌else◌, List, [], ◌∷◌, ◌++◌, length, map, Option, Some, None, is_some, is_none, refl, sym, ap, ◌∙◌, arith}
use Rattle.std.specs.Prelude.{find, filter, option_map, nat_lt}
use Rattle.std.specs.List.{list_all}
use Rattle.std.proofs.lemmas.Bool.{lt-ltb}
use Rattle.std.proofs.lemmas.Bool.Decides.{nat_tests}
use Rattle.seata_types.specs.declared.ids.Xid.{Xid}
use Rattle.seata_types.specs.declared.ids.BranchId.{BranchId}
use Rattle.seata_types.specs.declared.ids.Ticket.{Ticket}
use Rattle.seata_types.specs.declared.rows.RowKey.{RowKey}
use Rattle.seata_types.specs.declared.statuses.BranchKind.{BranchKind}
use Rattle.seata_types.specs.declared.statuses.Decision.{Decision}
use Rattle.seata_types.specs.declared.statuses.Decision.TheVariants as how
use Rattle.seata_types.specs.declared.statuses.GlobalStatus.{GlobalStatus}
use Rattle.seata_types.specs.declared.statuses.GlobalStatus.TheVariants as status
use Rattle.durable_records.specs.declared.coordinators.SessionRecord.{SessionRecord}
use Rattle.durable_records.specs.declared.coordinators.SessionRecord.TheVariants as log
use Rattle.durable_records.specs.Transactions.{Session as Began, sessions, session, has_xid as began_as, decided, is_forgotten, failed, next_xid, session_for}
use Rattle.durable_records.specs.Branches.{Grant, grants, branches, all_at, is_at, is_ended, unended, unended_branch, granted}
use Rattle.durable_records.specs.Progress.{Progress, Goes, Retries, IsFailed, IsDone, progress, status_by, is_known, status_of, is_on, may_decide, is_going, is_finished, has_retrying, may_retry}
use Rattle.durable_records.specs.SessionOrder.{May, Allowed, is_empty}
use Rattle.session_log.specs.declared.sessions.Branch.{Branch}
use Rattle.session_log.specs.declared.sessions.Session.{Session}
use Rattle.session_log.specs.declared.sessions.SessionEntry.{SessionEntry}
use Rattle.session_log.specs.declared.sessions.Forgotten.{Forgotten}
use Rattle.session_log.specs.declared.sessions.Snapshot.{Snapshot}
use Rattle.session_log.specs.SnapshotOf.{in_order, branch_now, failure_of, session_now, entry_now, is_forgotten_session, is_kept_session, forgotten_now, snapshot_of}
use Rattle.session_log.specs.Soundness.{is_at_branch}
use Rattle.session_memory.specs.Lookups.{session_of, session_in, has_xid}
use Rattle.session_memory.specs.Changes.{decided_status, retrying_status, failed_status, finished_status, with_branch, with_ended, turned, changed, without, with_forgotten, forgotten_as, begun_entry, granted_branch, after}
use Rattle.session_memory.specs.Order.{Each, AreAbove, AreRising}
use Rattle.session_memory.proofs.Small.{false_true, none_some, and_left, and_right, and_both, not_true, same_nat, nat_same, nat_differs, differ, moved}
use Rattle.session_memory.proofs.Lists.{AreCounted, each_all, each_same, each_in_order, each_filtered, map_both, map_same, filter_same, all_behind, up_to, up_to_in_order, rising_in_order, find_in_order, find_missing, find_mapped, keep, and_false}
use Rattle.durable_records.proofs.RecordFacts.{Known, known, Numbered, numbered, began_xid, grant_branch, decide_none, going_decided, going_on, finished_known, grant_decides}

same_snapshot : (a b : Snapshot) → a.acts ≡ b.acts → a.begun ≡ b.begun → a.granted ≡ b.granted → a.sessions ≡ b.sessions → a.forgotten ≡ b.forgotten → a ≡ b
same_snapshot a b p q r s t = λ i. record { acts = p i; begun = q i; granted = r i; sessions = s i; forgotten = t i }

same_xid : (x y : Xid) → x.0 ≡ y.0 → x ≡ y
same_xid x y e = λ i. record { 0 = e i }

swapped : (m n : ℕ) (b : Bool) → (m == n) ≡ b → (n == m) ≡ b
swapped m n true e = nat_same n m (sym (same_nat m n e))
swapped m n false e = nat_differs n m (λ is. differ m n e (sym is))

same_forgotten : (a b : Forgotten) → a.xid.0 ≡ b.xid.0 → a.manager ≡ b.manager → a ≡ b
same_forgotten a b p q = λ i. record { xid = record { 0 = p i }; manager = q i }

not_less : (m n : ℕ) → n ≤ m → nat_lt m n ≡ false
not_less m n le = grind (arith, nat_tests, le)

-- what is found has its number
pub began_found : (x : ℕ) (ss : List Began) (s : Began) → find (began_as x) ss ≡ Some s → s.xid ≡ x
began_found x [] s e = none_some e
began_found x (t ∷ ss) s e = began_found_by (t.xid == x) refl e (began_found x ss s)
  where
    began_found_by : (b : Bool) → (t.xid == x) ≡ b → cond b (Some t) (find (began_as x) ss) ≡ Some s → (find (began_as x) ss ≡ Some s → s.xid ≡ x) → s.xid ≡ x
    began_found_by true is e below = let one : t ≡ s = cc in ap (λ (u : Began). u.xid) (sym one) ∙ same_nat t.xid x is
    began_found_by false is e below = below e

-- ---- the transactions that are known

abbrev kept : List SessionRecord → List Began
kept rs = in_order (filter (is_kept_session rs) (sessions rs))

-- each that began is found
began_by : (s t : Began) (ss : List Began) (b : Bool) → is_some (find (began_as t.xid) ss) ≡ true → is_some (cond b (Some s) (find (began_as t.xid) ss)) ≡ true
began_by s t ss true e = refl
began_by s t ss false e = e

began_all : (ss : List Began) → Each (λ s. is_some (find (began_as s.xid) ss) ≡ true) ss
began_all [] = tt
began_all (s ∷ ss) = (
  rw (nat_same s.xid s.xid refl) refl,
  each_same (λ t. is_some (find (began_as t.xid) ss) ≡ true) (λ t. is_some (find (began_as t.xid) (s ∷ ss)) ≡ true)
      (λ t e. began_by s t ss (s.xid == t.xid) e) ss (began_all ss),
)

all_known : (rs : List SessionRecord) → Each (λ s. is_known rs s.xid ≡ true) (kept rs)
all_known rs =
    each_in_order (λ s. is_known rs s.xid ≡ true) (filter (is_kept_session rs) (sessions rs))
    (each_same (λ s. (is_some (session rs s.xid) ≡ true) × (is_kept_session rs s ≡ true)) (λ s. is_known rs s.xid ≡ true)
    (λ s both. and_both (is_some (session rs s.xid)) (not (is_forgotten rs s.xid)) both.0 both.1) (filter (is_kept_session rs) (sessions rs))
    (each_filtered (is_kept_session rs) (λ s. is_some (session rs s.xid) ≡ true) (sessions rs) (began_all (sessions rs))))

kept_rising : (rs : List SessionRecord) → Numbered rs → AreRising began_xid (kept rs)
kept_rising rs n = rising_in_order began_xid (is_kept_session rs) (sessions rs) n.began

-- ---- a record that changes one transaction

module _ (rs : List SessionRecord) (x : ℕ) (f : Session → Session) (new : Began → SessionEntry) where
  abbrev IsChanged : Began → Type 0
  IsChanged s = ((s.xid == x) ≡ false → new s ≡ entry_now rs s) × ((s.xid == x) ≡ true → new s ≡ record (entry_now rs s) { session = f (session_now rs s) })

  others_same : (n : ℕ) → n ≡ x → (l : List Began) → AreAbove began_xid n l → Each IsChanged l → map new l ≡ map (entry_now rs) l
  others_same n is [] a e = refl
  others_same n is (s ∷ l) a e =
      ap (λ t. t ∷ map new l) (e.0.0 (nat_differs s.xid x (λ same. omega (arith, same, is, a.0)))) ∙ ap (λ r. entry_now rs s ∷ r) (others_same n is l a.1 e.1)

  change_by : (b : Bool) (s : Began) (l : List Began) → (s.xid == x) ≡ b → AreAbove began_xid s.xid l → Each IsChanged (s ∷ l) → map new l ≡ changed x f (map (entry_now rs) l) →
      map new (s ∷ l) ≡ (if b then record (entry_now rs s) { session = f (session_now rs s) } ∷ map (entry_now rs) l else entry_now rs s ∷ changed x f (map (entry_now rs) l))
  change_by true s l is a e below = ap (λ t. t ∷ map new l) (e.0.1 is) ∙ ap (λ r. record (entry_now rs s) { session = f (session_now rs s) } ∷ r) (others_same s.xid (same_nat s.xid x is) l a e.1)
  change_by false s l is a e below = ap (λ t. t ∷ map new l) (e.0.0 is) ∙ ap (λ r. entry_now rs s ∷ r) below

  changes_one : (l : List Began) → AreRising began_xid l → Each IsChanged l → map new l ≡ changed x f (map (entry_now rs) l)
  changes_one [] a e = refl
  changes_one (s ∷ l) a e = change_by (s.xid == x) s l refl a.0 e (changes_one l a.1 e.1)

-- ---- statuses

retries : (at : Bool) (d : Option Decision) (far : Progress) → has_retrying (status_by at d far) ≡ true → status_by at d Retries ≡ retrying_status (status_by at d far)
retries at None far e = false_true e
retries false (Some how.Commit) Goes e = refl
retries true (Some how.Commit) Goes e = false_true e
retries true (Some how.Commit) Retries e = false_true e
retries false (Some how.Commit) Retries e = false_true e
retries at (Some how.Commit) IsFailed e = false_true e
retries at (Some how.Commit) IsDone e = false_true e
retries at (Some how.Rollback) Goes e = refl
retries at (Some how.Rollback) Retries e = false_true e
retries at (Some how.Rollback) IsFailed e = false_true e
retries at (Some how.Rollback) IsDone e = false_true e
retries at (Some how.Timeout) Goes e = refl
retries at (Some how.Timeout) Retries e = false_true e
retries at (Some how.Timeout) IsFailed e = false_true e
retries at (Some how.Timeout) IsDone e = false_true e

fails : (at : Bool) (d : Option Decision) (far : Progress) → is_some d ≡ true → is_on far ≡ true → status_by at d IsFailed ≡ failed_status (status_by at d far)
fails at None far s on = false_true s
fails at (Some d) IsFailed s on = false_true on
fails at (Some d) IsDone s on = false_true on
fails true (Some how.Commit) Goes s on = refl
fails true (Some how.Commit) Retries s on = refl
fails false (Some how.Commit) Goes s on = refl
fails false (Some how.Commit) Retries s on = refl
fails at (Some how.Rollback) Goes s on = refl
fails at (Some how.Rollback) Retries s on = refl
fails at (Some how.Timeout) Goes s on = refl
fails at (Some how.Timeout) Retries s on = refl

finishes : (at : Bool) (d : Option Decision) (far : Progress) → is_some d ≡ true → is_on far ≡ true → status_by at d IsDone ≡ finished_status (status_by at d far)
finishes at None far s on = false_true s
finishes at (Some d) IsFailed s on = false_true on
finishes at (Some d) IsDone s on = false_true on
finishes true (Some how.Commit) Goes s on = refl
finishes true (Some how.Commit) Retries s on = refl
finishes false (Some how.Commit) Goes s on = refl
finishes false (Some how.Commit) Retries s on = refl
finishes at (Some how.Rollback) Goes s on = refl
finishes at (Some how.Rollback) Retries s on = refl
finishes at (Some how.Timeout) Goes s on = refl
finishes at (Some how.Timeout) Retries s on = refl

decides : (at : Bool) (d : Decision) → status_by at (Some d) Goes ≡ decided_status d at
decides true how.Commit = refl
decides false how.Commit = refl
decides at how.Rollback = refl
decides at how.Timeout = refl

pub all_at_now : (rs : List SessionRecord) (gs : List Grant) → list_all is_at_branch (map (branch_now rs) (in_order gs)) ≡ all_at gs
all_at_now rs [] = refl
all_at_now rs (g ∷ gs) =
    ap (list_all is_at_branch) (map_both (branch_now rs) (in_order gs) (g ∷ []))
    ∙ all_behind is_at_branch (map (branch_now rs) (in_order gs)) (branch_now rs g)
    ∙ ap (λ b. is_at g.kind && b) (all_at_now rs gs)

-- ---- entries

abbrev entry_of : Began → GlobalStatus → List Branch → Option (BranchId × ℕ) → SessionEntry
entry_of s status branches failure = record {
  xid = record { 0 = s.xid };
  session = record { manager = s.manager; begun = s.begun; timeout = s.timeout; status = status; branches = branches; failed = failure };
}

abbrev branches_now : List SessionRecord → ℕ → List Branch
branches_now rs x = map (branch_now rs) (in_order (branches rs x))

abbrev state : (known at : Bool) → Option Decision → Progress → GlobalStatus
state known at d far = if known then status_by at d far else status.Finished

module _ (rs : List SessionRecord) (s : Began) (here : is_known rs s.xid ≡ true) (k : Known rs s.xid) where
  abbrev at_now : Bool
  at_now = all_at (branches rs s.xid)

  abbrev failure_now : Option (BranchId × ℕ)
  failure_now = failure_of (failed rs s.xid)

  -- a decision
  decided_status_now : (d : Decision) → decided rs s.xid ≡ None → state (is_known rs s.xid) at_now (Some d) (progress rs s.xid) ≡ decided_status d (list_all is_at_branch (branches_now rs s.xid))
  decided_status_now d none =
      ap (λ b. state b at_now (Some d) (progress rs s.xid)) here
      ∙ ap (λ far. status_by at_now (Some d) far) (k.undecided none).0
      ∙ decides at_now d ∙ ap (decided_status d) (sym (all_at_now rs (branches rs s.xid)))

  abbrev with_decision : Decision → Bool → SessionEntry
  with_decision d b = entry_of s (state (is_known rs s.xid) at_now (if b then Some d else decided rs s.xid) (progress rs s.xid)) (branches_now rs s.xid) failure_now

  decided_entry : (xid : Xid) (d : Decision) → may_decide rs xid.0 ≡ true → IsChanged rs xid.0 (turned (log.Decided xid d)) (entry_now (log.Decided xid d ∷ rs)) s
  decided_entry xid d may = (
    λ is. ap (with_decision d) (swapped s.xid xid.0 false is),
    λ is. ap (with_decision d) (swapped s.xid xid.0 true is)
        ∙ ap (λ st. entry_of s st (branches_now rs s.xid) failure_now)
        (decided_status_now d (decide_none rs s.xid (moved (λ n. may_decide rs n ≡ true) xid.0 s.xid may (swapped s.xid xid.0 true is)))),
  )

  -- how far it is
  abbrev with_far : Progress → Option (BranchId × ℕ) → Bool → SessionEntry
  with_far far failure b = entry_of s (state (is_known rs s.xid) at_now (decided rs s.xid) (if b then far else progress rs s.xid)) (branches_now rs s.xid) (if b then failure else failure_now)

  abbrev goes_to : Progress → (GlobalStatus → GlobalStatus) → Type 0
  goes_to far next = status_by at_now (decided rs s.xid) far ≡ next (status_by at_now (decided rs s.xid) (progress rs s.xid))

  far_status : (far : Progress) (next : GlobalStatus → GlobalStatus) → goes_to far next → state (is_known rs s.xid) at_now (decided rs s.xid) far ≡ next (status_of rs s.xid)
  far_status far next to =
      ap (λ b. state b at_now (decided rs s.xid) far) here ∙ to ∙ ap (λ b. next (state b at_now (decided rs s.xid) (progress rs s.xid))) (sym here)

  retrying_entry : (xid : Xid) → may_retry rs xid.0 ≡ true → IsChanged rs xid.0 (turned (log.Retrying xid)) (entry_now (log.Retrying xid ∷ rs)) s
  retrying_entry xid may = (
    λ is. ap (λ b. entry_of s (state (is_known rs s.xid) at_now (decided rs s.xid) (if b then Retries else progress rs s.xid)) (branches_now rs s.xid) failure_now) (swapped s.xid xid.0 false is),
    λ is. ap (λ b. entry_of s (state (is_known rs s.xid) at_now (decided rs s.xid) (if b then Retries else progress rs s.xid)) (branches_now rs s.xid) failure_now) (swapped s.xid xid.0 true is)
        ∙ ap (λ st. entry_of s st (branches_now rs s.xid) failure_now) (far_status Retries retrying_status
        (retries at_now (decided rs s.xid) (progress rs s.xid)
        (ap (λ b. has_retrying (state b at_now (decided rs s.xid) (progress rs s.xid))) (sym here) ∙ moved (λ n. may_retry rs n ≡ true) xid.0 s.xid may (swapped s.xid xid.0 true is)))),
  )

  failed_entry : (xid : Xid) (branch : BranchId) (stmt : ℕ) → is_going rs xid.0 ≡ true →
      IsChanged rs xid.0 (turned (log.Failed xid branch stmt)) (entry_now (log.Failed xid branch stmt ∷ rs)) s
  failed_entry xid branch stmt may = (
    λ is. ap (λ b. entry_of s (state (is_known rs s.xid) at_now (decided rs s.xid) (if b then IsFailed else progress rs s.xid)) (branches_now rs s.xid) (failure_of (if b then Some (branch.0, stmt) else failed rs s.xid))) (swapped s.xid xid.0 false is),
    λ is. ap (λ b. entry_of s (state (is_known rs s.xid) at_now (decided rs s.xid) (if b then IsFailed else progress rs s.xid)) (branches_now rs s.xid) (failure_of (if b then Some (branch.0, stmt) else failed rs s.xid))) (swapped s.xid xid.0 true is)
        ∙ ap (λ st. entry_of s st (branches_now rs s.xid) (Some (branch, stmt)))
        (let going = moved (λ n. is_going rs n ≡ true) xid.0 s.xid may (swapped s.xid xid.0 true is) in
        far_status IsFailed failed_status (fails at_now (decided rs s.xid) (progress rs s.xid) (going_decided rs s.xid going) (going_on rs s.xid going))),
  )

  finished_entry : (xid : Xid) → is_going rs xid.0 ≡ true → IsChanged rs xid.0 (turned (log.Finished xid)) (entry_now (log.Finished xid ∷ rs)) s
  finished_entry xid may = (
    λ is. ap (λ b. entry_of s (state (is_known rs s.xid) at_now (decided rs s.xid) (if b then IsDone else progress rs s.xid)) (branches_now rs s.xid) failure_now) (swapped s.xid xid.0 false is),
    λ is. ap (λ b. entry_of s (state (is_known rs s.xid) at_now (decided rs s.xid) (if b then IsDone else progress rs s.xid)) (branches_now rs s.xid) failure_now) (swapped s.xid xid.0 true is)
        ∙ ap (λ st. entry_of s st (branches_now rs s.xid) failure_now)
        (let going = moved (λ n. is_going rs n ≡ true) xid.0 s.xid may (swapped s.xid xid.0 true is) in
        far_status IsDone finished_status (finishes at_now (decided rs s.xid) (progress rs s.xid) (going_decided rs s.xid going) (going_on rs s.xid going))),
  )

  -- a branch more
  abbrev with_grant : Grant → Bool → SessionEntry
  with_grant g b = entry_of s (state (is_known rs s.xid) (all_at (cond b (g ∷ branches rs s.xid) (branches rs s.xid))) (decided rs s.xid) (progress rs s.xid))
      (map (branch_now rs) (in_order (cond b (g ∷ branches rs s.xid) (branches rs s.xid)))) failure_now

  granted_state : (at : Bool) → decided rs s.xid ≡ None → state (is_known rs s.xid) at (decided rs s.xid) (progress rs s.xid) ≡ state (is_known rs s.xid) at_now (decided rs s.xid) (progress rs s.xid)
  granted_state at none =
      ap (λ d. state (is_known rs s.xid) at d (progress rs s.xid)) none ∙ sym (ap (λ d. state (is_known rs s.xid) at_now d (progress rs s.xid)) none)

  granted_entry : (xid : Xid) (branch : BranchId) (resource call : ℕ) (ticket : Ticket) (kind : BranchKind) (hold : List RowKey) → may_decide rs xid.0 ≡ true →
      IsChanged rs xid.0 (with_branch (granted_branch branch resource call ticket kind hold)) (entry_now (log.Granted xid branch resource call ticket kind hold ∷ rs)) s
  granted_entry xid branch resource call ticket kind hold may =
      let g : Grant = record { xid = xid.0; branch = branch.0; resource = resource; call = call; ticket = ticket; kind = kind; hold = hold } in (
        λ is. ap (with_grant g) (swapped s.xid xid.0 false is),
        λ is.
            let same = swapped s.xid xid.0 true is in
            let none : decided rs s.xid ≡ None = decide_none rs s.xid (moved (λ n. may_decide rs n ≡ true) xid.0 s.xid may same) in
            let still_open : is_ended rs xid.0 branch.0 ≡ false = ap (λ n. is_ended rs n branch.0) (same_nat xid.0 s.xid same) ∙ (k.undecided none).2 branch.0 in
            ap (with_grant g) same
            ∙ ap (λ st. entry_of s st (map (branch_now rs) (in_order (g ∷ branches rs s.xid))) failure_now) (granted_state (all_at (g ∷ branches rs s.xid)) none)
            ∙ ap (λ bs. entry_of s (status_of rs s.xid) bs failure_now) (map_both (branch_now rs) (in_order (branches rs s.xid)) (g ∷ []))
            ∙ ap (λ e. entry_of s (status_of rs s.xid) (branches_now rs s.xid ++ record { id = branch; place = record { resource = resource; call = call; ticket = ticket; kind = kind }; hold = hold; ended = e } ∷ []) failure_now) still_open,
      )

-- ---- an ended branch

module _ (rs : List SessionRecord) (xid : Xid) (branch : BranchId) where
  abbrev ended_now : Grant → Branch
  ended_now g = branch_now (log.Ended xid branch ∷ rs) g

  abbrev branch_by : Grant → Bool → Branch
  branch_by g b = record (branch_now rs g) { ended = if b then true else is_ended rs g.xid g.branch }

  ended_others : (n : ℕ) → n ≡ branch.0 → (l : List Grant) → AreAbove grant_branch n l → map ended_now l ≡ map (branch_now rs) l
  ended_others n is [] a = refl
  ended_others n is (g ∷ l) a =
      ap (λ b. b ∷ map ended_now l) (ap (branch_by g) (and_false (xid.0 == g.xid) (branch.0 == g.branch) (nat_differs branch.0 g.branch (λ same. omega (arith, same, is, a.0)))))
      ∙ ap (λ r. branch_now rs g ∷ r) (ended_others n is l a.1)

  ended_by : (b : Bool) (g : Grant) (l : List Grant) → (g.branch == branch.0) ≡ b → g.xid ≡ xid.0 → AreAbove grant_branch g.branch l →
      map ended_now l ≡ with_ended branch.0 (map (branch_now rs) l) →
      ended_now g ∷ map ended_now l ≡ (if b then record (branch_now rs g) { ended = true } ∷ map (branch_now rs) l else branch_now rs g ∷ with_ended branch.0 (map (branch_now rs) l))
  ended_by true g l is of a below =
      ap (λ b. b ∷ map ended_now l) (ap (branch_by g) (and_both (xid.0 == g.xid) (branch.0 == g.branch) (nat_same xid.0 g.xid (sym of)) (swapped g.branch branch.0 true is)))
      ∙ ap (λ r. record (branch_now rs g) { ended = true } ∷ r) (ended_others g.branch (same_nat g.branch branch.0 is) l a)
  ended_by false g l is of a below =
      ap (λ b. b ∷ map ended_now l) (ap (branch_by g) (and_false (xid.0 == g.xid) (branch.0 == g.branch) (swapped g.branch branch.0 false is)))
      ∙ ap (λ r. branch_now rs g ∷ r) below

  ends_one : (l : List Grant) → Each (λ g. g.xid ≡ xid.0) l → AreRising grant_branch l → map ended_now l ≡ with_ended branch.0 (map (branch_now rs) l)
  ends_one [] of a = refl
  ends_one (g ∷ l) of a = ended_by (g.branch == branch.0) g l refl of.0 a.0 (ends_one l of.1 a.1)

  ends_none : (l : List Grant) → Each (λ g. (xid.0 == g.xid) ≡ false) l → map ended_now l ≡ map (branch_now rs) l
  ends_none l of = map_same ended_now (branch_now rs) l (each_same (λ g. (xid.0 == g.xid) ≡ false) (λ g. ended_now g ≡ branch_now rs g) (λ g is. ap (λ b. branch_by g (b && (branch.0 == g.branch))) is) l of)

-- the branches of x are of x
of_x : (rs : List SessionRecord) (x : ℕ) → Each (λ g. g.xid ≡ x) (in_order (branches rs x))
of_x rs x =
    each_in_order (λ g. g.xid ≡ x) (branches rs x)
    (each_same (λ g. Unit {0} × ((g.xid == x) ≡ true)) (λ g. g.xid ≡ x) (λ g both. same_nat g.xid x both.1) (branches rs x)
    (each_filtered (λ g. g.xid == x) (λ g. Unit {0}) (grants rs) (each_all (λ g. Unit {0}) (λ g. tt) (grants rs))))

ended_entry : (rs : List SessionRecord) → Numbered rs → (xid : Xid) (branch : BranchId) (s : Began) → IsChanged rs xid.0 (turned (log.Ended xid branch)) (entry_now (log.Ended xid branch ∷ rs)) s
ended_entry rs n xid branch s = (
  λ is. ap (λ bs. entry_of s (status_of rs s.xid) bs (failure_of (failed rs s.xid)))
      (ends_none rs xid branch (in_order (branches rs s.xid)) (each_same (λ g. g.xid ≡ s.xid) (λ g. (xid.0 == g.xid) ≡ false)
      (λ g of. ap (λ m. xid.0 == m) of ∙ swapped s.xid xid.0 false is) (in_order (branches rs s.xid)) (of_x rs s.xid))),
  λ is. ap (λ bs. entry_of s (status_of rs s.xid) bs (failure_of (failed rs s.xid)))
      (ends_one rs xid branch (in_order (branches rs s.xid)) (each_same (λ g. g.xid ≡ s.xid) (λ g. g.xid ≡ xid.0)
      (λ g of. of ∙ same_nat s.xid xid.0 is) (in_order (branches rs s.xid)) (of_x rs s.xid))
      (rising_in_order grant_branch (λ g. g.xid == s.xid) (grants rs) n.branched)),
)

-- ---- a transaction that begins

module _ (rs : List SessionRecord) (a : Allowed rs) (xid : Xid) (manager moment timeout : ℕ) (next : xid.0 ≡ next_xid rs) where
  abbrev new_one : Began
  new_one = record { xid = xid.0; manager = manager; begun = moment; timeout = timeout }

  abbrev begin : SessionRecord
  begin = log.Begun xid manager moment timeout

  n_now : Numbered rs
  n_now = numbered rs a

  not_begun : session rs xid.0 ≡ None
  not_begun =
      find_missing (began_as xid.0) (sessions rs) (each_same (λ s. s.xid ≤ length (sessions rs)) (λ s. (s.xid == xid.0) ≡ false)
      (λ s le. nat_differs s.xid xid.0 (λ e. omega (arith, e, le, next))) (sessions rs) (up_to began_xid (sessions rs) n_now.began))

  not_decided : decided rs xid.0 ≡ None
  not_decided = (known rs a xid.0).fresh (ap is_some not_begun)

  old_entries : Each (λ s. entry_now (begin ∷ rs) s ≡ entry_now rs s) (kept rs)
  old_entries =
      each_same (λ s. s.xid ≤ length (sessions rs)) (λ s. entry_now (begin ∷ rs) s ≡ entry_now rs s)
      (λ s le. ap (λ b. entry_of s (state (is_some (cond b (Some new_one) (session rs s.xid)) && not (is_forgotten rs s.xid)) (all_at (branches rs s.xid)) (decided rs s.xid) (progress rs s.xid)) (branches_now rs s.xid) (failure_of (failed rs s.xid)))
      (nat_differs xid.0 s.xid (λ e. omega (arith, e, le, next)))) (kept rs) (up_to_in_order began_xid (is_kept_session rs) (sessions rs) n_now.began)

  not_forgotten : is_forgotten rs xid.0 ≡ false
  not_forgotten = ((known rs a xid.0).undecided not_decided).1

  new_entry : entry_now (begin ∷ rs) new_one ≡ begun_entry xid manager moment timeout
  new_entry =
      rw (nat_same xid.0 xid.0 refl, not_forgotten, not_decided, (known rs a xid.0).empty (ap is_some not_begun), ((known rs a xid.0).undecided not_decided).3) refl

  sessions_begun : map (entry_now (begin ∷ rs)) (in_order (filter (is_kept_session rs) (new_one ∷ sessions rs))) ≡ map (entry_now rs) (kept rs) ++ begun_entry xid manager moment timeout ∷ []
  sessions_begun =
      ap (λ b. map (entry_now (begin ∷ rs)) (in_order (cond (not b) (new_one ∷ filter (is_kept_session rs) (sessions rs)) (filter (is_kept_session rs) (sessions rs))))) not_forgotten
      ∙ map_both (entry_now (begin ∷ rs)) (kept rs) (new_one ∷ [])
      ∙ ap (λ l. l ++ entry_now (begin ∷ rs) new_one ∷ []) (map_same (entry_now (begin ∷ rs)) (entry_now rs) (kept rs) old_entries)
      ∙ ap (λ e. map (entry_now rs) (kept rs) ++ e ∷ []) new_entry

  forgotten_begun : map forgotten_now (in_order (filter (is_forgotten_session rs) (new_one ∷ sessions rs))) ≡ map forgotten_now (in_order (filter (is_forgotten_session rs) (sessions rs)))
  forgotten_begun = ap (λ b. map forgotten_now (in_order (cond b (new_one ∷ filter (is_forgotten_session rs) (sessions rs)) (filter (is_forgotten_session rs) (sessions rs))))) not_forgotten

-- ---- what is known is found

to_session : (rs : List SessionRecord) (o : Option Began) → option_map session_of (option_map (entry_now rs) o) ≡ option_map (session_now rs) o
to_session rs None = refl
to_session rs (Some s) = refl

pub session_found : (rs : List SessionRecord) → Numbered rs → (x : ℕ) → session_in (snapshot_of rs) x ≡ option_map (session_now rs) (keep (is_kept_session rs) (session rs x))
session_found rs n x =
    ap (option_map session_of) (find_mapped (entry_now rs) (has_xid x) (kept rs))
    ∙ to_session rs (find (λ s. s.xid == x) (kept rs))
    ∙ ap (option_map (session_now rs)) (find_in_order began_xid (is_kept_session rs) x (sessions rs) n.began)

-- ---- a transaction that is forgotten

module _ (x : ℕ) where
  without_none : (l : List SessionEntry) → Each (λ e. (e.xid.0 == x) ≡ false) l → without x l ≡ l
  without_none [] n = refl
  without_none (e ∷ l) n = rw n.0 (ap (λ r. e ∷ r) (without_none l n.1))

  without_last : (l : List SessionEntry) (d : SessionEntry) → (d.xid.0 == x) ≡ true → Each (λ e. (e.xid.0 == x) ≡ false) l → without x (l ++ d ∷ []) ≡ l
  without_last [] d is n = rw is refl
  without_last (e ∷ l) d is n = rw n.0 (ap (λ r. e ∷ r) (without_last l d is n.1))

  without_by : (b : Bool) (e : SessionEntry) (l : List SessionEntry) (d : SessionEntry) → without x (l ++ d ∷ []) ≡ without x l ++ d ∷ [] →
      (if b then (l ++ d ∷ []) else e ∷ without x (l ++ d ∷ [])) ≡ (if b then l else e ∷ without x l) ++ d ∷ []
  without_by true e l d below = refl
  without_by false e l d below = ap (λ r. e ∷ r) below

  without_behind : (l : List SessionEntry) (d : SessionEntry) → (d.xid.0 == x) ≡ false → without x (l ++ d ∷ []) ≡ without x l ++ d ∷ []
  without_behind [] d is = rw is refl
  without_behind (e ∷ l) d is = without_by (e.xid.0 == x) e l d (without_behind l d is)

module _ (f : Forgotten) where
  put_last : (l : List Forgotten) → Each (λ g. nat_lt f.xid.0 g.xid.0 ≡ false) l → with_forgotten f l ≡ l ++ f ∷ []
  put_last [] n = refl
  put_last (g ∷ l) n = rw n.0 (ap (λ r. g ∷ r) (put_last l n.1))

  put_by : (b : Bool) (g : Forgotten) (l : List Forgotten) (h : Forgotten) → with_forgotten f (l ++ h ∷ []) ≡ with_forgotten f l ++ h ∷ [] →
      (if b then f ∷ g ∷ (l ++ h ∷ []) else g ∷ with_forgotten f (l ++ h ∷ [])) ≡ (if b then f ∷ g ∷ l else g ∷ with_forgotten f l) ++ h ∷ []
  put_by true g l h below = refl
  put_by false g l h below = ap (λ r. g ∷ r) below

  put_inside : (l : List Forgotten) (h : Forgotten) → nat_lt f.xid.0 h.xid.0 ≡ true → with_forgotten f (l ++ h ∷ []) ≡ with_forgotten f l ++ h ∷ []
  put_inside [] h lt = rw lt refl
  put_inside (g ∷ l) h lt = put_by (nat_lt f.xid.0 g.xid.0) g l h (put_inside l h lt)

each_mapped : {X Y : Type 0} (g : X → Y) (P : Y → Type 0) (xs : List X) → Each (λ x. P (g x)) xs → Each P (map g xs)
each_mapped g P [] e = tt
each_mapped g P (x ∷ xs) e = (e.0, each_mapped g P xs e.1)

module _ (rs : List SessionRecord) (xid : Xid) (here : is_forgotten rs xid.0 ≡ false) where
  abbrev forgot : SessionRecord
  forgot = log.Forgot xid

  abbrev is_other : Began → Type 0
  is_other s = (s.xid == xid.0) ≡ false

  -- the others are as they were
  other_entry : (s : Began) → is_other s → entry_now (forgot ∷ rs) s ≡ entry_now rs s
  other_entry s is =
      ap (λ b. entry_of s (state (is_some (session rs s.xid) && not (if b then true else is_forgotten rs s.xid)) (all_at (branches rs s.xid)) (decided rs s.xid) (progress rs s.xid)) (branches_now rs s.xid) (failure_of (failed rs s.xid)))
      (swapped s.xid xid.0 false is)

  other_forgotten : (s : Began) → is_other s → is_forgotten_session (forgot ∷ rs) s ≡ is_forgotten_session rs s
  other_forgotten s is = ap (λ b. if b then true else is_forgotten rs s.xid) (swapped s.xid xid.0 false is)

  other_kept : (s : Began) → is_other s → is_kept_session (forgot ∷ rs) s ≡ is_kept_session rs s
  other_kept s is = ap not (other_forgotten s is)

  abbrev in_both : (Began → Bool) → List Began → List Began
  in_both p ss = in_order (filter p ss)

  others_below : (s : Began) (ss : List Began) → (s.xid == xid.0) ≡ true → s.xid ≡ length ss + 1 → AreCounted began_xid ss → Each is_other ss
  others_below s ss is at c =
      each_same (λ t. t.xid ≤ length ss) is_other (λ t le. nat_differs t.xid xid.0 (λ e. let m = same_nat s.xid xid.0 is in omega (arith, e, le, at, m))) ss (up_to began_xid ss c)

  others_listed : (p : Began → Bool) (ss : List Began) → Each is_other ss → Each is_other (in_both p ss)
  others_listed p ss n =
      each_in_order is_other (filter p ss) (each_same (λ t. is_other t × (p t ≡ true)) is_other (λ t both. both.0) (filter p ss) (each_filtered p is_other ss n))

  kept_below : (ss : List Began) → Each is_other ss → map (entry_now (forgot ∷ rs)) (in_both (is_kept_session (forgot ∷ rs)) ss) ≡ map (entry_now rs) (in_both (is_kept_session rs) ss)
  kept_below ss n =
      ap (λ l. map (entry_now (forgot ∷ rs)) (in_order l)) (filter_same (is_kept_session (forgot ∷ rs)) (is_kept_session rs) ss (each_same is_other (λ s. is_kept_session (forgot ∷ rs) s ≡ is_kept_session rs s) other_kept ss n))
      ∙ map_same (entry_now (forgot ∷ rs)) (entry_now rs) (in_both (is_kept_session rs) ss)
      (each_same is_other (λ s. entry_now (forgot ∷ rs) s ≡ entry_now rs s) other_entry (in_both (is_kept_session rs) ss) (others_listed (is_kept_session rs) ss n))

  abbrev Left : List Began → Type 0
  Left ss = map (entry_now (forgot ∷ rs)) (in_both (is_kept_session (forgot ∷ rs)) ss) ≡ without xid.0 (map (entry_now rs) (in_both (is_kept_session rs) ss))

  left_here : (s : Began) (ss : List Began) → (s.xid == xid.0) ≡ true → s.xid ≡ length ss + 1 → AreCounted began_xid ss → Left (s ∷ ss)
  left_here s ss is at c =
      let n = others_below s ss is at c in
      let not_kept : is_kept_session (forgot ∷ rs) s ≡ false = ap (λ b. not (if b then true else is_forgotten rs s.xid)) (swapped s.xid xid.0 true is) in
      let was_kept : is_kept_session rs s ≡ true = ap (λ m. not (is_forgotten rs m)) (same_nat s.xid xid.0 is) ∙ ap not here in
      ap (λ b. map (entry_now (forgot ∷ rs)) (in_order (cond b (s ∷ filter (is_kept_session (forgot ∷ rs)) ss) (filter (is_kept_session (forgot ∷ rs)) ss)))) not_kept
      ∙ kept_below ss n
      ∙ sym (without_last xid.0 (map (entry_now rs) (in_both (is_kept_session rs) ss)) (entry_now rs s) is
      (each_mapped (entry_now rs) (λ e. (e.xid.0 == xid.0) ≡ false) (in_both (is_kept_session rs) ss) (others_listed (is_kept_session rs) ss n)))
      ∙ ap (without xid.0) (sym (map_both (entry_now rs) (in_both (is_kept_session rs) ss) (s ∷ [])))
      ∙ ap (λ b. without xid.0 (map (entry_now rs) (in_order (cond b (s ∷ filter (is_kept_session rs) ss) (filter (is_kept_session rs) ss))))) (sym was_kept)

  left_other : (b : Bool) (s : Began) (ss : List Began) → is_other s → Left ss →
      map (entry_now (forgot ∷ rs)) (in_order (cond b (s ∷ filter (is_kept_session (forgot ∷ rs)) ss) (filter (is_kept_session (forgot ∷ rs)) ss)))
      ≡ without xid.0 (map (entry_now rs) (in_order (cond b (s ∷ filter (is_kept_session rs) ss) (filter (is_kept_session rs) ss))))
  left_other true s ss is below =
      map_both (entry_now (forgot ∷ rs)) (in_both (is_kept_session (forgot ∷ rs)) ss) (s ∷ [])
      ∙ ap (λ l. l ++ entry_now (forgot ∷ rs) s ∷ []) below
      ∙ ap (λ e. without xid.0 (map (entry_now rs) (in_both (is_kept_session rs) ss)) ++ e ∷ []) (other_entry s is)
      ∙ sym (without_behind xid.0 (map (entry_now rs) (in_both (is_kept_session rs) ss)) (entry_now rs s) is)
      ∙ ap (without xid.0) (sym (map_both (entry_now rs) (in_both (is_kept_session rs) ss) (s ∷ [])))
  left_other false s ss is below = below

  left_by : (b : Bool) (s : Began) (ss : List Began) → (s.xid == xid.0) ≡ b → s.xid ≡ length ss + 1 → AreCounted began_xid ss → Left ss → Left (s ∷ ss)
  left_by true s ss is at c below = left_here s ss is at c
  left_by false s ss is at c below =
      ap (λ b. map (entry_now (forgot ∷ rs)) (in_order (cond b (s ∷ filter (is_kept_session (forgot ∷ rs)) ss) (filter (is_kept_session (forgot ∷ rs)) ss)))) (other_kept s is)
      ∙ left_other (is_kept_session rs s) s ss is below

  left : (ss : List Began) → AreCounted began_xid ss → Left ss
  left [] c = refl
  left (s ∷ ss) c = left_by (s.xid == xid.0) s ss refl c.0 c.1 (left ss c.1)

  -- the forgotten ones
  module _ (s0 : Began) where
    abbrev new_forgotten : Forgotten
    new_forgotten = record { xid = xid; manager = s0.manager }

    abbrev Gone : List Began → Type 0
    Gone ss = map forgotten_now (in_both (is_forgotten_session (forgot ∷ rs)) ss) ≡ with_forgotten new_forgotten (map forgotten_now (in_both (is_forgotten_session rs) ss))

    gone_here : (s : Began) (ss : List Began) → s ≡ s0 → (s.xid == xid.0) ≡ true → s.xid ≡ length ss + 1 → AreCounted began_xid ss → Gone (s ∷ ss)
    gone_here s ss one is at c =
        let n = others_below s ss is at c in
        let now : is_forgotten_session (forgot ∷ rs) s ≡ true = ap (λ b. if b then true else is_forgotten rs s.xid) (swapped s.xid xid.0 true is) in
        let was : is_forgotten_session rs s ≡ false = ap (is_forgotten rs) (same_nat s.xid xid.0 is) ∙ here in
        ap (λ b. map forgotten_now (in_order (cond b (s ∷ filter (is_forgotten_session (forgot ∷ rs)) ss) (filter (is_forgotten_session (forgot ∷ rs)) ss)))) now
        ∙ map_both forgotten_now (in_both (is_forgotten_session (forgot ∷ rs)) ss) (s ∷ [])
        ∙ ap (λ l. map forgotten_now (in_order l) ++ forgotten_now s ∷ []) (filter_same (is_forgotten_session (forgot ∷ rs)) (is_forgotten_session rs) ss (each_same is_other (λ t. is_forgotten_session (forgot ∷ rs) t ≡ is_forgotten_session rs t) other_forgotten ss n))
        ∙ ap (λ (g : Forgotten). map forgotten_now (in_both (is_forgotten_session rs) ss) ++ g ∷ []) (same_forgotten (forgotten_now s) new_forgotten (same_nat s.xid xid.0 is) (ap (λ (t : Began). t.manager) one))
        ∙ sym (put_last new_forgotten (map forgotten_now (in_both (is_forgotten_session rs) ss))
        (each_mapped forgotten_now (λ g. nat_lt xid.0 g.xid.0 ≡ false) (in_both (is_forgotten_session rs) ss)
        (each_same (λ t. t.xid ≤ length ss) (λ t. nat_lt xid.0 t.xid ≡ false) (λ t le. let m = same_nat s.xid xid.0 is in not_less xid.0 t.xid (omega (arith, le, at, m))) (in_both (is_forgotten_session rs) ss) (up_to_in_order began_xid (is_forgotten_session rs) ss c))))
        ∙ ap (λ b. with_forgotten new_forgotten (map forgotten_now (in_order (cond b (s ∷ filter (is_forgotten_session rs) ss) (filter (is_forgotten_session rs) ss))))) (sym was)

    gone_other : (b : Bool) (s : Began) (ss : List Began) → xid.0 < s.xid → Gone ss →
        map forgotten_now (in_order (cond b (s ∷ filter (is_forgotten_session (forgot ∷ rs)) ss) (filter (is_forgotten_session (forgot ∷ rs)) ss)))
        ≡ with_forgotten new_forgotten (map forgotten_now (in_order (cond b (s ∷ filter (is_forgotten_session rs) ss) (filter (is_forgotten_session rs) ss))))
    gone_other true s ss lt below =
        map_both forgotten_now (in_both (is_forgotten_session (forgot ∷ rs)) ss) (s ∷ [])
        ∙ ap (λ l. l ++ forgotten_now s ∷ []) below
        ∙ sym (put_inside new_forgotten (map forgotten_now (in_both (is_forgotten_session rs) ss)) (forgotten_now s) (lt-ltb xid.0 s.xid lt))
        ∙ ap (with_forgotten new_forgotten) (sym (map_both forgotten_now (in_both (is_forgotten_session rs) ss) (s ∷ [])))
    gone_other false s ss lt below = below

    found_below : (ss : List Began) → AreCounted began_xid ss → (o : Option Began) → find (began_as xid.0) ss ≡ o → o ≡ Some s0 → xid.0 ≤ length ss
    found_below [] c o e f = none_some (e ∙ f)
    found_below (t ∷ ss) c o e f = found_below_by (t.xid == xid.0) t ss refl c (e ∙ f) (λ g. found_below ss c.1 (find (began_as xid.0) ss) refl g)
      where
        found_below_by : (b : Bool) (t : Began) (ss : List Began) → (t.xid == xid.0) ≡ b → AreCounted began_xid (t ∷ ss) → cond b (Some t) (find (began_as xid.0) ss) ≡ Some s0 → (find (began_as xid.0) ss ≡ Some s0 → xid.0 ≤ length ss) → xid.0 ≤ length (t ∷ ss)
        found_below_by true t ss is c e below = let m = same_nat t.xid xid.0 is in omega (arith, c.0, m)
        found_below_by false t ss is c e below = omega (arith, below e)

    gone_by : (b : Bool) (s : Began) (ss : List Began) → (s.xid == xid.0) ≡ b → AreCounted began_xid (s ∷ ss) → cond b (Some s) (find (began_as xid.0) ss) ≡ Some s0 → (find (began_as xid.0) ss ≡ Some s0 → Gone ss) → Gone (s ∷ ss)
    gone_by true s ss is c found below = let one : s ≡ s0 = cc in gone_here s ss one is c.0 c.1
    gone_by false s ss is c found below =
        ap (λ b. map forgotten_now (in_order (cond b (s ∷ filter (is_forgotten_session (forgot ∷ rs)) ss) (filter (is_forgotten_session (forgot ∷ rs)) ss)))) (other_forgotten s is)
        ∙ gone_other (is_forgotten_session rs s) s ss (let m = found_below ss c.1 (find (began_as xid.0) ss) refl found in omega (arith, c.0, m)) (below found)

    gone : (ss : List Began) → AreCounted began_xid ss → find (began_as xid.0) ss ≡ Some s0 → Gone ss
    gone [] c found = none_some found
    gone (s ∷ ss) c found = gone_by (s.xid == xid.0) s ss refl c found (gone ss c.1)

-- ---- one more record

turned_acts : {X : Type 0} (r : X) (rs : List X) → length (r ∷ rs) ≡ length rs + 1
turned_acts r rs = omega arith

module _ (rs : List SessionRecord) (a : Allowed rs) where
  n_of : Numbered rs
  n_of = numbered rs a

  changed_by : (x : ℕ) (f : Session → Session) (new : Began → SessionEntry) → ((s : Began) → is_known rs s.xid ≡ true → Known rs s.xid → IsChanged rs x f new s) →
      map new (kept rs) ≡ changed x f (map (entry_now rs) (kept rs))
  changed_by x f new each =
      changes_one rs x f new (kept rs) (kept_rising rs n_of)
      (each_same (λ s. is_known rs s.xid ≡ true) (IsChanged rs x f new) (λ s here. each s here (known rs a s.xid)) (kept rs) (all_known rs))

  forgot_known : (xid : Xid) → is_finished rs xid.0 ≡ true → (o : Option Began) → session rs xid.0 ≡ o → snapshot_of (log.Forgot xid ∷ rs) ≡ after (log.Forgot xid) (snapshot_of rs)
  forgot_known xid may None e = false_true (ap is_some (sym e) ∙ and_left (is_some (session rs xid.0)) (not (is_forgotten rs xid.0)) (finished_known rs xid.0 may))
  forgot_known xid may (Some s0) e =
      let here : is_forgotten rs xid.0 ≡ false = not_true (is_forgotten rs xid.0) (and_right (is_some (session rs xid.0)) (not (is_forgotten rs xid.0)) (finished_known rs xid.0 may)) in
      let kept_one : is_kept_session rs s0 ≡ true = ap (λ m. not (is_forgotten rs m)) (began_found xid.0 (sessions rs) s0 e) ∙ ap not here in
      let found : session_in (snapshot_of rs) xid.0 ≡ Some (session_now rs s0) =
      session_found rs n_of xid.0 ∙ ap (λ o. option_map (session_now rs) (keep (is_kept_session rs) o)) e ∙ ap (λ b. option_map (session_now rs) (cond b (Some s0) None)) kept_one in
      same_snapshot (snapshot_of (log.Forgot xid ∷ rs)) (after (log.Forgot xid) (snapshot_of rs)) (turned_acts (log.Forgot xid) rs) refl refl
      (left rs xid here (sessions rs) n_of.began)
      (gone rs xid here s0 (sessions rs) n_of.began e ∙ ap (λ o. forgotten_as xid o (snapshot_of rs).forgotten) (sym found))

-- the snapshot of one more record, where it may come, is the snapshot after this record
pub snapshot_after : (rs : List SessionRecord) → Allowed rs → (r : SessionRecord) → May rs r → snapshot_of (r ∷ rs) ≡ after r (snapshot_of rs)
snapshot_after rs a (log.Begun xid manager moment timeout) may =
    let next : xid.0 ≡ next_xid rs = same_nat xid.0 (next_xid rs) (and_left (xid.0 == next_xid rs) (is_none (session_for rs manager)) may) in
    same_snapshot (snapshot_of (log.Begun xid manager moment timeout ∷ rs)) (after (log.Begun xid manager moment timeout) (snapshot_of rs))
    (turned_acts (log.Begun xid manager moment timeout) rs) (turned_acts {X = Began} (record { xid = xid.0; manager = manager; begun = moment; timeout = timeout }) (sessions rs)) refl
    (sessions_begun rs a xid manager moment timeout next) (forgotten_begun rs a xid manager moment timeout next)
snapshot_after rs a (log.Granted xid branch resource call ticket kind hold) may =
    let decides_now = grant_decides rs xid.0 branch.0 hold (is_none (granted rs xid.0 resource call ticket kind)) may in
    same_snapshot (snapshot_of (log.Granted xid branch resource call ticket kind hold ∷ rs)) (after (log.Granted xid branch resource call ticket kind hold) (snapshot_of rs))
    (turned_acts (log.Granted xid branch resource call ticket kind hold) rs) refl
    (turned_acts {X = Grant} (record { xid = xid.0; branch = branch.0; resource = resource; call = call; ticket = ticket; kind = kind; hold = hold }) (grants rs))
    (changed_by rs a xid.0 (with_branch (granted_branch branch resource call ticket kind hold)) (entry_now (log.Granted xid branch resource call ticket kind hold ∷ rs))
    (λ s here k. granted_entry rs s here k xid branch resource call ticket kind hold decides_now)) refl
snapshot_after rs a (log.Decided xid d) may =
    same_snapshot (snapshot_of (log.Decided xid d ∷ rs)) (after (log.Decided xid d) (snapshot_of rs)) (turned_acts (log.Decided xid d) rs) refl refl
    (changed_by rs a xid.0 (turned (log.Decided xid d)) (entry_now (log.Decided xid d ∷ rs)) (λ s here k. decided_entry rs s here k xid d may)) refl
snapshot_after rs a (log.Retrying xid) may =
    same_snapshot (snapshot_of (log.Retrying xid ∷ rs)) (after (log.Retrying xid) (snapshot_of rs)) (turned_acts (log.Retrying xid) rs) refl refl
    (changed_by rs a xid.0 (turned (log.Retrying xid)) (entry_now (log.Retrying xid ∷ rs)) (λ s here k. retrying_entry rs s here k xid may)) refl
snapshot_after rs a (log.Ended xid branch) may =
    same_snapshot (snapshot_of (log.Ended xid branch ∷ rs)) (after (log.Ended xid branch) (snapshot_of rs)) (turned_acts (log.Ended xid branch) rs) refl refl
    (changed_by rs a xid.0 (turned (log.Ended xid branch)) (entry_now (log.Ended xid branch ∷ rs)) (λ s here k. ended_entry rs (numbered rs a) xid branch s)) refl
snapshot_after rs a (log.Failed xid branch stmt) may =
    same_snapshot (snapshot_of (log.Failed xid branch stmt ∷ rs)) (after (log.Failed xid branch stmt) (snapshot_of rs)) (turned_acts (log.Failed xid branch stmt) rs) refl refl
    (changed_by rs a xid.0 (turned (log.Failed xid branch stmt)) (entry_now (log.Failed xid branch stmt ∷ rs))
    (λ s here k. failed_entry rs s here k xid branch stmt (and_left (is_going rs xid.0) (is_some (unended_branch rs xid.0 branch.0)) may))) refl
snapshot_after rs a (log.Finished xid) may =
    same_snapshot (snapshot_of (log.Finished xid ∷ rs)) (after (log.Finished xid) (snapshot_of rs)) (turned_acts (log.Finished xid) rs) refl refl
    (changed_by rs a xid.0 (turned (log.Finished xid)) (entry_now (log.Finished xid ∷ rs)) (λ s here k. finished_entry rs s here k xid (and_left (is_going rs xid.0) (is_empty (unended rs xid.0)) may))) refl
snapshot_after rs a (log.Forgot xid) may = forgot_known rs a xid may (session rs xid.0) refl
