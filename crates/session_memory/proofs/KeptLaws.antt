-- A record keeps the order of a snapshot, and the table of locks beside it.
use Rattle.std.proofs.Common.{◌≡◌, ◌==◌, ◌<◌, ◌≤◌, ◌+◌, ℕ, Bool, true, false, if◌then◌else◌, List, [], ◌∷◌, Option, Some, None, refl, sym, ap, subst, ◌∙◌, arith}
use Rattle.std.specs.Prelude.{find, option_map, Result, Ok, Err, OnOk, OnErr, is_err}
use Rattle.std.specs.List.{list_all}
use Rattle.seata_types.specs.declared.ids.Xid.{Xid}
use Rattle.seata_types.specs.declared.statuses.Decision.{Decision}
use Rattle.seata_types.specs.declared.statuses.Decision.TheVariants as how
use Rattle.seata_types.specs.declared.statuses.GlobalStatus.{GlobalStatus}
use Rattle.seata_types.specs.declared.statuses.GlobalStatus.TheVariants as status
use Rattle.durable_records.specs.declared.coordinators.SessionRecord.{SessionRecord}
use Rattle.durable_records.specs.declared.coordinators.SessionRecord.TheVariants as log
use Rattle.lock_table.specs.Locks.{Holds, with_rows, without_xid, without_leg}
use Rattle.session_log.specs.declared.sessions.Branch.{Branch}
use Rattle.session_log.specs.declared.sessions.Session.{Session}
use Rattle.session_log.specs.declared.sessions.SessionEntry.{SessionEntry}
use Rattle.session_log.specs.declared.sessions.Snapshot.{Snapshot}
use Rattle.session_log.specs.Soundness.{entry_xid, is_at_branch}
use Rattle.session_memory.specs.Lookups.{has_xid, session_of, status_or_finished, status_in, leg_of}
use Rattle.session_memory.specs.Holding.{keeps_rows, held_by_branches, held, held_in}
use Rattle.session_memory.specs.Changes.{decided_status, retrying_status, failed_status, finished_status, is_begin, with_branch, with_ended, turned, changed, without, begun_entry, xid_in, with_turned, with_registered, after, turns, locks_after, may_come}
use Rattle.session_memory.specs.Order.{Each, AreAbove, AreRising, branch_number, IsGranted, IsNumbered, IsCounted, IsKept}
use Rattle.session_memory.proofs.Small.{false_true, true_false}
use Rattle.session_memory.proofs.Lists.{each_same, each_both, rising_behind}
use Rattle.session_memory.proofs.HeldLaws.{held_same, held_given_back, held_without, held_ended, held_behind, held_granted, is_new_leg, leg_itself}
use Rattle.session_memory.proofs.EntryLaws.{found_none, taken_again}
use Rattle.seata_types.specs.declared.rows.RowKey.{RowKey}

-- ---- lists with one that changes

module _ (x : ℕ) (f : Session → Session) where
  above_changed_by : (b : Bool) (m : ℕ) (e : SessionEntry) (es rest : List SessionEntry) → m < e.xid.0 → AreAbove entry_xid m es → AreAbove entry_xid m rest →
      AreAbove entry_xid m (if b then record e { session = f e.session } ∷ es else e ∷ rest)
  above_changed_by true m e es rest lt a below = (lt, a)
  above_changed_by false m e es rest lt a below = (lt, below)

  above_changed : (m : ℕ) (es : List SessionEntry) → AreAbove entry_xid m es → AreAbove entry_xid m (changed x f es)
  above_changed m [] a = tt
  above_changed m (e ∷ es) a = above_changed_by (e.xid.0 == x) m e es (changed x f es) a.0 a.1 (above_changed m es a.1)

  rising_changed_by : (b : Bool) (e : SessionEntry) (es rest : List SessionEntry) → AreAbove entry_xid e.xid.0 es → AreRising entry_xid es → AreAbove entry_xid e.xid.0 rest → AreRising entry_xid rest →
      AreRising entry_xid (if b then record e { session = f e.session } ∷ es else e ∷ rest)
  rising_changed_by true e es rest a r below rises = (a, r)
  rising_changed_by false e es rest a r below rises = (below, rises)

  rising_changed : (es : List SessionEntry) → AreRising entry_xid es → AreRising entry_xid (changed x f es)
  rising_changed [] r = tt
  rising_changed (e ∷ es) r = rising_changed_by (e.xid.0 == x) e es (changed x f es) r.0 r.1 (above_changed e.xid.0 es r.0) (rising_changed es r.1)

  module _ (P Q : SessionEntry → Type 0) (still : (e : SessionEntry) → P e → Q e) (here : (e : SessionEntry) → P e → Q (record e { session = f e.session })) where
    each_changed_by : (b : Bool) (e : SessionEntry) (es rest : List SessionEntry) → P e → Each P es → Each Q rest → Each Q (if b then record e { session = f e.session } ∷ es else e ∷ rest)
    each_changed_by true e es rest p each below = (here e p, each_same P Q still es each)
    each_changed_by false e es rest p each below = (still e p, below)

    pub each_changed : (es : List SessionEntry) → Each P es → Each Q (changed x f es)
    each_changed [] each = tt
    each_changed (e ∷ es) each = each_changed_by (e.xid.0 == x) e es (changed x f es) each.0 each.1 (each_changed es each.1)

module _ (x : ℕ) where
  above_without_by : (b : Bool) (m : ℕ) (e : SessionEntry) (es rest : List SessionEntry) → m < e.xid.0 → AreAbove entry_xid m es → AreAbove entry_xid m rest → AreAbove entry_xid m (if b then es else e ∷ rest)
  above_without_by true m e es rest lt a below = a
  above_without_by false m e es rest lt a below = (lt, below)

  above_without : (m : ℕ) (es : List SessionEntry) → AreAbove entry_xid m es → AreAbove entry_xid m (without x es)
  above_without m [] a = tt
  above_without m (e ∷ es) a = above_without_by (e.xid.0 == x) m e es (without x es) a.0 a.1 (above_without m es a.1)

  rising_without_by : (b : Bool) (e : SessionEntry) (es rest : List SessionEntry) → AreRising entry_xid es → AreAbove entry_xid e.xid.0 rest → AreRising entry_xid rest → AreRising entry_xid (if b then es else e ∷ rest)
  rising_without_by true e es rest r below rises = r
  rising_without_by false e es rest r below rises = (below, rises)

  rising_without : (es : List SessionEntry) → AreRising entry_xid es → AreRising entry_xid (without x es)
  rising_without [] r = tt
  rising_without (e ∷ es) r = rising_without_by (e.xid.0 == x) e es (without x es) r.1 (above_without e.xid.0 es r.0) (rising_without es r.1)

  each_without_by : (P : SessionEntry → Type 0) (b : Bool) (e : SessionEntry) (es rest : List SessionEntry) → P e → Each P es → Each P rest → Each P (if b then es else e ∷ rest)
  each_without_by P true e es rest p each below = each
  each_without_by P false e es rest p each below = (p, below)

  pub each_without : (P : SessionEntry → Type 0) (es : List SessionEntry) → Each P es → Each P (without x es)
  each_without P [] each = tt
  each_without P (e ∷ es) each = each_without_by P (e.xid.0 == x) e es (without x es) each.0 each.1 (each_without P es each.1)

-- ---- branches

module _ (b : ℕ) where
  above_ended_by : (t : Bool) (m : ℕ) (c : Branch) (cs rest : List Branch) → m < c.id.0 → AreAbove branch_number m cs → AreAbove branch_number m rest → AreAbove branch_number m (if t then record c { ended = true } ∷ cs else c ∷ rest)
  above_ended_by true m c cs rest lt a below = (lt, a)
  above_ended_by false m c cs rest lt a below = (lt, below)

  above_ended : (m : ℕ) (bs : List Branch) → AreAbove branch_number m bs → AreAbove branch_number m (with_ended b bs)
  above_ended m [] a = tt
  above_ended m (c ∷ cs) a = above_ended_by (c.id.0 == b) m c cs (with_ended b cs) a.0 a.1 (above_ended m cs a.1)

  rising_ended_by : (t : Bool) (c : Branch) (cs rest : List Branch) → AreAbove branch_number c.id.0 cs → AreRising branch_number cs → AreAbove branch_number c.id.0 rest → AreRising branch_number rest →
      AreRising branch_number (if t then record c { ended = true } ∷ cs else c ∷ rest)
  rising_ended_by true c cs rest a r below rises = (a, r)
  rising_ended_by false c cs rest a r below rises = (below, rises)

  rising_ended : (bs : List Branch) → AreRising branch_number bs → AreRising branch_number (with_ended b bs)
  rising_ended [] r = tt
  rising_ended (c ∷ cs) r = rising_ended_by (c.id.0 == b) c cs (with_ended b cs) r.0 r.1 (above_ended c.id.0 cs r.0) (rising_ended cs r.1)

  each_ended_by : (granted : ℕ) (t : Bool) (c : Branch) (cs rest : List Branch) → IsGranted granted c → Each (IsGranted granted) cs → Each (IsGranted granted) rest → Each (IsGranted granted) (if t then record c { ended = true } ∷ cs else c ∷ rest)
  each_ended_by granted true c cs rest p each below = (p, each)
  each_ended_by granted false c cs rest p each below = (p, below)

  each_ended : (granted : ℕ) (bs : List Branch) → Each (IsGranted granted) bs → Each (IsGranted granted) (with_ended b bs)
  each_ended granted [] each = tt
  each_ended granted (c ∷ cs) each = each_ended_by granted (c.id.0 == b) c cs (with_ended b cs) each.0 each.1 (each_ended granted cs each.1)

-- ---- a transaction after a record

module _ (begun granted : ℕ) where
  numbered_turned : (r : SessionRecord) (e : SessionEntry) → IsNumbered begun granted e → IsNumbered begun granted (record e { session = turned r e.session })
  numbered_turned (log.Begun xid manager moment timeout) e n = record { xid = n.xid; branches = n.branches; rising = n.rising }
  numbered_turned (log.Granted xid branch resource call ticket kind hold) e n = record { xid = n.xid; branches = n.branches; rising = n.rising }
  numbered_turned (log.Decided xid d) e n = record { xid = n.xid; branches = n.branches; rising = n.rising }
  numbered_turned (log.Retrying xid) e n = record { xid = n.xid; branches = n.branches; rising = n.rising }
  numbered_turned (log.Ended xid branch) e n = record { xid = n.xid; branches = each_ended branch.0 granted e.session.branches n.branches; rising = rising_ended branch.0 e.session.branches n.rising }
  numbered_turned (log.Failed xid branch stmt) e n = record { xid = n.xid; branches = n.branches; rising = n.rising }
  numbered_turned (log.Finished xid) e n = record { xid = n.xid; branches = n.branches; rising = n.rising }
  numbered_turned (log.Forgot xid) e n = record { xid = n.xid; branches = n.branches; rising = n.rising }

counted_turned : (r : SessionRecord) (s : Snapshot) → IsCounted s → IsCounted (with_turned r s)
counted_turned r s c = record {
  begun = omega (arith, c.begun);
  granted = omega (arith, c.granted);
  each = each_changed (xid_in r) (turned r) (IsNumbered s.begun s.granted) (IsNumbered s.begun s.granted) (λ e n. n) (numbered_turned s.begun s.granted r) s.sessions c.each;
  rising = rising_changed (xid_in r) (turned r) s.sessions c.rising;
}

-- ---- the rows that are held

retrying_keeps : (st : GlobalStatus) → keeps_rows (retrying_status st) ≡ keeps_rows st
retrying_keeps status.UnKnown = refl
retrying_keeps status.Begin = refl
retrying_keeps status.Committing = refl
retrying_keeps status.CommitRetrying = refl
retrying_keeps status.Rollbacking = refl
retrying_keeps status.RollbackRetrying = refl
retrying_keeps status.TimeoutRollbacking = refl
retrying_keeps status.TimeoutRollbackRetrying = refl
retrying_keeps status.AsyncCommitting = refl
retrying_keeps status.Committed = refl
retrying_keeps status.CommitFailed = refl
retrying_keeps status.Rollbacked = refl
retrying_keeps status.RollbackFailed = refl
retrying_keeps status.TimeoutRollbacked = refl
retrying_keeps status.TimeoutRollbackFailed = refl
retrying_keeps status.Finished = refl

failed_keeps : (st : GlobalStatus) → keeps_rows (failed_status st) ≡ keeps_rows st
failed_keeps status.UnKnown = refl
failed_keeps status.Begin = refl
failed_keeps status.Committing = refl
failed_keeps status.CommitRetrying = refl
failed_keeps status.Rollbacking = refl
failed_keeps status.RollbackRetrying = refl
failed_keeps status.TimeoutRollbacking = refl
failed_keeps status.TimeoutRollbackRetrying = refl
failed_keeps status.AsyncCommitting = refl
failed_keeps status.Committed = refl
failed_keeps status.CommitFailed = refl
failed_keeps status.Rollbacked = refl
failed_keeps status.RollbackFailed = refl
failed_keeps status.TimeoutRollbacked = refl
failed_keeps status.TimeoutRollbackFailed = refl
failed_keeps status.Finished = refl

finished_keeps : (st : GlobalStatus) → keeps_rows (finished_status st) ≡ keeps_rows st
finished_keeps status.UnKnown = refl
finished_keeps status.Begin = refl
finished_keeps status.Committing = refl
finished_keeps status.CommitRetrying = refl
finished_keeps status.Rollbacking = refl
finished_keeps status.RollbackRetrying = refl
finished_keeps status.TimeoutRollbacking = refl
finished_keeps status.TimeoutRollbackRetrying = refl
finished_keeps status.AsyncCommitting = refl
finished_keeps status.Committed = refl
finished_keeps status.CommitFailed = refl
finished_keeps status.Rollbacked = refl
finished_keeps status.RollbackFailed = refl
finished_keeps status.TimeoutRollbacked = refl
finished_keeps status.TimeoutRollbackFailed = refl
finished_keeps status.Finished = refl

commit_frees : (at : Bool) → keeps_rows (decided_status how.Commit at) ≡ false
commit_frees true = refl
commit_frees false = refl

begin_keeps : (st : GlobalStatus) → is_begin st ≡ true → keeps_rows st ≡ true
begin_keeps status.Begin e = refl
begin_keeps status.UnKnown e = refl
begin_keeps status.Committing e = false_true e
begin_keeps status.CommitRetrying e = false_true e
begin_keeps status.Rollbacking e = refl
begin_keeps status.RollbackRetrying e = refl
begin_keeps status.TimeoutRollbacking e = refl
begin_keeps status.TimeoutRollbackRetrying e = refl
begin_keeps status.AsyncCommitting e = false_true e
begin_keeps status.Committed e = false_true e
begin_keeps status.CommitFailed e = false_true e
begin_keeps status.Rollbacked e = refl
begin_keeps status.RollbackFailed e = refl
begin_keeps status.TimeoutRollbacked e = refl
begin_keeps status.TimeoutRollbackFailed e = refl
begin_keeps status.Finished e = refl

-- an entry whose status keeps rows alike, with the same branches
held_alike : (e : SessionEntry) (one two : Bool) → one ≡ two → (if one then held_by_branches e.xid e.session.branches else []) ≡ (if two then held_by_branches e.xid e.session.branches else [])
held_alike e one two is = ap (λ (b : Bool). if b then held_by_branches e.xid e.session.branches else []) is

-- a transaction that hasn't ended is known, and its status is that of its entry
pub record IsFound (es : List SessionEntry) (x : ℕ) : Type 0 where
  pub entry : SessionEntry
  pub there : find (has_xid x) es ≡ Some entry
  pub begin : is_begin entry.session.status ≡ true

begin_found_by : (es : List SessionEntry) (x : ℕ) (o : Option SessionEntry) → find (has_xid x) es ≡ o → is_begin (status_or_finished (option_map session_of o)) ≡ true → IsFound es x
begin_found_by es x None e is = false_true is
begin_found_by es x (Some entry) e is = record { entry = entry; there = e; begin = is }

pub begin_found : (s : Snapshot) (x : ℕ) → is_begin (status_in s x) ≡ true → IsFound s.sessions x
begin_found s x is = begin_found_by s.sessions x (find (has_xid x) s.sessions) refl is

-- a decision for a rollback keeps all
rolling_held : (s : Snapshot) (xid : Xid) (d : Decision) → ((at : Bool) → keeps_rows (decided_status d at) ≡ true) → is_begin (status_in s xid.0) ≡ true →
    held (changed xid.0 (turned (log.Decided xid d)) s.sessions) ≡ held_in s
rolling_held s xid d keeps is =
    let found = begin_found s xid.0 is in
    held_same xid.0 (turned (log.Decided xid d)) s.sessions
    (λ e at. let same : found.entry ≡ e = cc in
    held_alike e (keeps_rows (decided_status d (list_all is_at_branch e.session.branches))) (keeps_rows e.session.status)
    (keeps (list_all is_at_branch e.session.branches) ∙ sym (begin_keeps e.session.status (ap (λ (g : SessionEntry). is_begin g.session.status) (sym same) ∙ found.begin))))

locks_turned : (r : SessionRecord) (s : Snapshot) → IsCounted s → turns r ≡ true → may_come s r ≡ true → locks_after r (held_in s) ≡ held_in (with_turned r s)
locks_turned (log.Begun xid manager moment timeout) s c t may = false_true t
locks_turned (log.Granted xid branch resource call ticket kind hold) s c t may = false_true t
locks_turned (log.Forgot xid) s c t may = false_true t
locks_turned (log.Decided xid how.Commit) s c t may = held_given_back xid (turned (log.Decided xid how.Commit)) (λ q. commit_frees (list_all is_at_branch q.branches)) s.sessions c.rising
locks_turned (log.Decided xid how.Rollback) s c t may = sym (rolling_held s xid how.Rollback (λ at. refl) may)
locks_turned (log.Decided xid how.Timeout) s c t may = sym (rolling_held s xid how.Timeout (λ at. refl) may)
locks_turned (log.Retrying xid) s c t may =
    sym (held_same xid.0 (turned (log.Retrying xid)) s.sessions (λ e at. held_alike e (keeps_rows (retrying_status e.session.status)) (keeps_rows e.session.status) (retrying_keeps e.session.status)))
locks_turned (log.Ended xid branch) s c t may = held_ended (record { xid = xid; branch = branch }) s.begun s.granted s.sessions c.rising c.each
locks_turned (log.Failed xid branch stmt) s c t may =
    sym (held_same xid.0 (turned (log.Failed xid branch stmt)) s.sessions (λ e at. held_alike e (keeps_rows (failed_status e.session.status)) (keeps_rows e.session.status) (failed_keeps e.session.status)))
locks_turned (log.Finished xid) s c t may =
    sym (held_same xid.0 (turned (log.Finished xid)) s.sessions (λ e at. held_alike e (keeps_rows (finished_status e.session.status)) (keeps_rows e.session.status) (finished_keeps e.session.status)))

-- ---- one more record

pub kept_turned : (r : SessionRecord) (s : Snapshot) (hs : Holds) → IsKept s hs → turns r ≡ true → may_come s r ≡ true → IsKept (with_turned r s) (locks_after r hs)
kept_turned r s hs k t may = record { counted = counted_turned r s k.counted; locks = ap (locks_after r) k.locks ∙ locks_turned r s k.counted t may }

pub after_turned : (r : SessionRecord) (s : Snapshot) → turns r ≡ true → with_turned r s ≡ after r s
after_turned (log.Begun xid manager moment timeout) s t = false_true t
after_turned (log.Granted xid branch resource call ticket kind hold) s t = false_true t
after_turned (log.Forgot xid) s t = false_true t
after_turned (log.Decided xid d) s t = refl
after_turned (log.Retrying xid) s t = refl
after_turned (log.Ended xid branch) s t = refl
after_turned (log.Failed xid branch stmt) s t = refl
after_turned (log.Finished xid) s t = refl

more_begun : (begun granted : ℕ) (e : SessionEntry) → IsNumbered begun granted e → IsNumbered (begun + 1) granted e
more_begun begun granted e n = record { xid = omega (arith, n.xid); branches = n.branches; rising = n.rising }

more_granted : (begun granted : ℕ) (e : SessionEntry) → IsNumbered begun granted e → IsNumbered begun (granted + 1) e
more_granted begun granted e n = record { xid = n.xid; branches = each_same (IsGranted granted) (IsGranted (granted + 1)) (λ b le. omega (arith, le)) e.session.branches n.branches; rising = n.rising }

pub kept_begun : (s : Snapshot) (hs : Holds) (xid : Xid) (manager moment timeout : ℕ) → IsKept s hs → xid.0 ≡ s.begun + 1 → IsKept (after (log.Begun xid manager moment timeout) s) hs
kept_begun s hs xid manager moment timeout k is = record {
  counted = record {
    begun = omega (arith, k.counted.begun);
    granted = omega (arith, k.counted.granted);
    each = each_both (IsNumbered (s.begun + 1) s.granted) s.sessions (begun_entry xid manager moment timeout ∷ [])
        (each_same (IsNumbered s.begun s.granted) (IsNumbered (s.begun + 1) s.granted) (more_begun s.begun s.granted) s.sessions k.counted.each)
        (record { xid = omega (arith, is); branches = tt; rising = tt }, tt);
    rising = rising_behind entry_xid s.begun s.sessions (begun_entry xid manager moment timeout) k.counted.rising
        (each_same (IsNumbered s.begun s.granted) (λ e. entry_xid e ≤ s.begun) (λ e n. n.xid) s.sessions k.counted.each) (omega (arith, is));
  };
  locks = k.locks ∙ sym (held_behind s.sessions (begun_entry xid manager moment timeout) refl);
}

pub kept_forgot : (s : Snapshot) (hs : Holds) (xid : Xid) → IsKept s hs → IsKept (after (log.Forgot xid) s) (without_xid hs xid)
kept_forgot s hs xid k = record {
  counted = record {
    begun = omega (arith, k.counted.begun);
    granted = omega (arith, k.counted.granted);
    each = each_without xid.0 (IsNumbered s.begun s.granted) s.sessions k.counted.each;
    rising = rising_without xid.0 s.sessions k.counted.rising;
  };
  locks = ap (λ (r : Holds). without_xid r xid) k.locks ∙ held_without xid s.sessions k.counted.rising;
}

with_one : (begun granted : ℕ) (nb : Branch) → nb.id.0 ≡ granted + 1 → (e : SessionEntry) → IsNumbered begun granted e → IsNumbered begun (granted + 1) (record e { session = with_branch nb e.session })
with_one begun granted nb is e n = record {
  xid = n.xid;
  branches = each_both (IsGranted (granted + 1)) e.session.branches (nb ∷ [])
      (each_same (IsGranted granted) (IsGranted (granted + 1)) (λ b le. omega (arith, le)) e.session.branches n.branches) (omega (arith, is), tt);
  rising = rising_behind branch_number granted e.session.branches nb n.rising n.branches (omega (arith, is));
}

pub kept_granted : (s : Snapshot) (hs : Holds) (x : Xid) (nb : Branch) → IsKept s hs → is_begin (status_in s x.0) ≡ true → nb.ended ≡ false → nb.id.0 ≡ s.granted + 1 →
    IsKept (with_registered s x.0 nb) (with_rows hs (leg_of x nb) nb.hold)
kept_granted s hs x nb k is unended next =
    let found = begin_found s x.0 is in record {
      counted = record {
        begun = omega (arith, k.counted.begun);
        granted = omega (arith, k.counted.granted);
        each = each_changed x.0 (with_branch nb) (IsNumbered s.begun s.granted) (IsNumbered s.begun (s.granted + 1)) (more_granted s.begun s.granted) (with_one s.begun s.granted nb next) s.sessions k.counted.each;
        rising = rising_changed x.0 (with_branch nb) s.sessions k.counted.rising;
      };
      locks = ap (λ (r : Holds). with_rows r (leg_of x nb) nb.hold) k.locks
          ∙ held_granted x nb unended s.granted (omega (arith, next)) s.begun found.entry s.sessions found.there (begin_keeps found.entry.session.status found.begin) k.counted.rising k.counted.each;
    }

-- rows that were taken for the next branch, and given back
pub given_back_again : (s : Snapshot) (hs : Holds) (x : Xid) (nb : Branch) → IsKept s hs → nb.ended ≡ false → nb.id.0 ≡ s.granted + 1 → (rows : List RowKey) →
    without_leg (with_rows hs (leg_of x nb) rows) (leg_of x nb) ≡ hs
given_back_again s hs x nb k on next rows =
    let others = is_new_leg x nb on s.granted (omega (arith, next)) s.begun s.sessions k.counted.each in
    rw (k.locks, found_none (leg_of x nb) (held_in s) others) (taken_again (leg_of x nb) rows (leg_itself (leg_of x nb)) (held_in s) others)

-- ---- the code's own words

pub kept_as : (s t : Snapshot) (hs ks : Holds) → t ≡ s → ks ≡ hs → IsKept s hs → IsKept t ks
kept_as s t hs ks is same k = subst (λ (u : Snapshot). IsKept u ks) (sym is) (subst (λ (l : Holds). IsKept s l) (sym same) k)

pub begun_either : {E : Type 0} (r : Result (Unit {0}) E) (s t : Snapshot) (hs : Holds) (xid : Xid) (manager moment timeout : ℕ) → IsKept s hs → xid.0 ≡ s.begun + 1 →
    OnOk r (t ≡ after (log.Begun xid manager moment timeout) s) → OnErr r (t ≡ s) → IsKept t hs
begun_either (Ok u) s t hs xid manager moment timeout k is ok err =
    kept_as (after (log.Begun xid manager moment timeout) s) t hs hs ok refl (kept_begun s hs xid manager moment timeout k is)
begun_either (Err e) s t hs xid manager moment timeout k is ok err = kept_as s t hs hs err refl k

pub where_err : {T E : Type 0} (r : Result T E) (P : Type 0) → is_err r ≡ true → OnErr r P → P
where_err (Ok u) P is p = false_true is
where_err (Err e) P is p = p

pub where_ok : {T E : Type 0} (r : Result T E) (P : Type 0) → is_err r ≡ false → OnOk r P → P
where_ok (Ok u) P is p = p
where_ok (Err e) P is p = true_false is
