-- Of records that may come after one another: how often a transaction is decided, its numbers, and how its status changes.
use Rattle.std.proofs.Common.{◌≡◌, inl, inr, ◌+◌, ◌≤◌, ◌==◌, ◌&&◌, not, ℕ, Bool, true, false, cond, if◌then◌else◌, List, [], ◌∷◌, length, Option, Some, None, is_some, is_none, refl, ap, sym, ◌∙◌, arith}
use Rattle.seata_types.specs.Statuses.{code_of, follows}
use Rattle.seata_types.specs.declared.ids.Xid.{Xid}
use Rattle.seata_types.specs.declared.rows.RowKey.{RowKey}
use Rattle.seata_types.specs.declared.statuses.Decision.{Decision}
use Rattle.seata_types.specs.declared.statuses.Decision.TheVariants as how
use Rattle.seata_types.specs.declared.statuses.GlobalStatus.{GlobalStatus}
use Rattle.seata_types.specs.declared.statuses.GlobalStatus.TheVariants as status
use Rattle.durable_records.specs.declared.coordinators.SessionRecord.{SessionRecord}
use Rattle.durable_records.specs.declared.coordinators.SessionRecord.TheVariants as log
use Rattle.durable_records.specs.Transactions.{Session, sessions, session, has_xid, decided, is_forgotten, next_xid, session_for}
use Rattle.durable_records.specs.Branches.{Grant, grants, branches, all_at, unended, next_branch, granted}
use Rattle.durable_records.specs.Progress.{Progress, Goes, Retries, IsFailed, IsDone, progress, status_by, status_of, is_on, is_done, may_decide, is_going, is_finished, has_retrying, may_retry}
use Rattle.durable_records.specs.Locks.{first_held}
use Rattle.durable_records.specs.SessionOrder.{May, Allowed, is_empty}
use Rattle.durable_records.proofs.MemberFacts.{counted_in}
pub use Rattle.durable_records.proofs.RecordFacts.{Known, known, decide_begun, decide_none, going_decided}
use Rattle.durable_records.proofs.RecordFacts.{numbered as counted, began_xid, grant_branch, going_on, end_going, finished_decided, finished_done, grant_undecided}
use Rattle.history_law.specs.Points.{In}
use Rattle.history_law.specs.SessionSafety.{decisions, IsGoing, Finds, AreInOrder, is_end, IsChange, ChangesByTable}
use Rattle.history_law.proofs.Tests.{false_true, true_false, none_some, and_left, and_right, same_nat, moved, nat_differs, none_found}

-- ---- how often a transaction is decided

-- it isn't before its decision, and at most once
record TimesAre (decision : Option Decision) (times : ℕ) : Type 0 where
  none : decision ≡ None → times ≡ 0
  most : times ≤ 1

times_more : (b : Bool) (how : Decision) (decision : Option Decision) (times : ℕ) → (b ≡ true → decision ≡ None) → TimesAre decision times
    → TimesAre (if b then Some how else decision) (if b then times + 1 else times)
times_more true how decision times may t = record { none = λ n. none_some (sym n); most = let none = t.none (may refl) in omega arith }
times_more false how decision times may t = t

times_are : (rs : List SessionRecord) → Allowed rs → (x : ℕ) → TimesAre (decided rs x) (decisions rs x)
times_are [] a x = record { none = λ n. refl; most = omega arith }
times_are (log.Begun xid manager moment timeout ∷ rs) a x = times_are rs a.0 x
times_are (log.Granted xid branch resource call ticket kind hold ∷ rs) a x = times_are rs a.0 x
times_are (log.Decided xid d ∷ rs) a x =
    times_more (xid.0 == x) d (decided rs x) (decisions rs x) (λ e. decide_none rs x (moved (λ n. may_decide rs n ≡ true) xid.0 x a.1 e)) (times_are rs a.0 x)
times_are (log.Retrying xid ∷ rs) a x = times_are rs a.0 x
times_are (log.Ended xid branch ∷ rs) a x = times_are rs a.0 x
times_are (log.Failed xid branch stmt ∷ rs) a x = times_are rs a.0 x
times_are (log.Finished xid ∷ rs) a x = times_are rs a.0 x
times_are (log.Forgot xid ∷ rs) a x = times_are rs a.0 x

pub decided_once : (rs : List SessionRecord) → Allowed rs → (x : ℕ) → decisions rs x ≤ 1
decided_once rs a x = (times_are rs a x).most

-- ---- numbers

-- transactions are counted from 1, and so are branches
pub record Numbered (rs : List SessionRecord) : Type 0 where
  pub sessions_in : (s : Session) → In s (sessions rs) → (1 ≤ s.xid) × (s.xid ≤ length (sessions rs))
  pub grants_in : (g : Grant) → In g (grants rs) → (1 ≤ g.branch) × (g.branch ≤ length (grants rs))

pub next_number : (xid x : ℕ) (b : Bool) → ((xid == x) && b) ≡ true → xid ≡ x
next_number xid x b e = same_nat xid x (and_left (xid == x) b e)

pub numbered : (rs : List SessionRecord) → Allowed rs → Numbered rs
numbered rs a =
    let n = counted rs a in
    record { sessions_in = counted_in began_xid (sessions rs) n.began; grants_in = counted_in grant_branch (grants rs) n.branched }

-- the next transaction hasn't begun
pub next_is_fresh : (rs : List SessionRecord) (x : ℕ) → Numbered rs → x ≡ next_xid rs → session rs x ≡ None
next_is_fresh rs x n is = none_found (has_xid x) (sessions rs) (λ s i. nat_differs s.xid x (λ same. let k = n.sessions_in s i in omega (arith, k.1)))

-- ---- order

empty_is : {A : Type 0} (list : List A) → is_empty list ≡ true → list ≡ []
empty_is [] e = refl
empty_is (a ∷ rest) e = false_true e

going_far : (rs : List SessionRecord) (x : ℕ) → is_going rs x ≡ true → IsGoing rs x
going_far rs x e = (going_decided rs x e, going_on rs x e)

finds : (rs : List SessionRecord) (r : SessionRecord) → May rs r → Finds rs r
finds rs (log.Begun xid manager moment timeout) may = tt
finds rs (log.Granted xid branch resource call ticket kind hold) may = grant_undecided rs xid.0 branch.0 hold (is_none (granted rs xid.0 resource call ticket kind)) may
finds rs (log.Decided xid d) may = decide_none rs xid.0 may
finds rs (log.Retrying xid) may = tt
finds rs (log.Ended xid branch) may = going_far rs xid.0 (end_going rs xid.0 branch.0 may)
finds rs (log.Failed xid branch stmt) may = going_far rs xid.0 (end_going rs xid.0 branch.0 may)
finds rs (log.Finished xid) may =
    (going_far rs xid.0 (and_left (is_going rs xid.0) (is_empty (unended rs xid.0)) may), empty_is (unended rs xid.0) (and_right (is_going rs xid.0) (is_empty (unended rs xid.0)) may))
finds rs (log.Forgot xid) may = (finished_decided rs xid.0 may, finished_done rs xid.0 may)

pub in_order : (rs : List SessionRecord) → Allowed rs → AreInOrder rs
in_order [] a = tt
in_order (r ∷ rs) a = (in_order rs a.0, finds rs r a.1)

-- ---- statuses

-- the status of a transaction that began or not and is forgotten or not, by whether its branches are AT, its decision and how
-- far it is
abbrev state : (begun forgotten at : Bool) → Option Decision → Progress → GlobalStatus
state begun forgotten at d far = if begun && not forgotten then status_by at d far else status.Finished

-- the table allows a decision, the first retry and an end
decision_follows : (at : Bool) (d : Decision) → follows 1 (code_of (status_by at (Some d) Goes)) ≡ true
decision_follows true how.Commit = refl
decision_follows false how.Commit = refl
decision_follows at how.Rollback = refl
decision_follows at how.Timeout = refl

retrying_follows : (at : Bool) (d : Option Decision) (far : Progress) → has_retrying (status_by at d far) ≡ true
    → follows (code_of (status_by at d far)) (code_of (status_by at d Retries)) ≡ true
retrying_follows at None far e = false_true e
retrying_follows false (Some how.Commit) Goes e = refl
retrying_follows true (Some how.Commit) Goes e = false_true e
retrying_follows true (Some how.Commit) Retries e = false_true e
retrying_follows false (Some how.Commit) Retries e = false_true e
retrying_follows at (Some how.Commit) IsFailed e = false_true e
retrying_follows at (Some how.Commit) IsDone e = false_true e
retrying_follows at (Some how.Rollback) Goes e = refl
retrying_follows at (Some how.Rollback) Retries e = false_true e
retrying_follows at (Some how.Rollback) IsFailed e = false_true e
retrying_follows at (Some how.Rollback) IsDone e = false_true e
retrying_follows at (Some how.Timeout) Goes e = refl
retrying_follows at (Some how.Timeout) Retries e = false_true e
retrying_follows at (Some how.Timeout) IsFailed e = false_true e
retrying_follows at (Some how.Timeout) IsDone e = false_true e

end_follows : (at : Bool) (d : Option Decision) (far last : Progress) → is_some d ≡ true → is_on far ≡ true → is_on last ≡ false
    → follows (code_of (status_by at d far)) (code_of (status_by at d last)) ≡ true
end_follows at None far last s on over = false_true s
end_follows at (Some d) IsFailed last s on over = false_true on
end_follows at (Some d) IsDone last s on over = false_true on
end_follows at (Some d) far Goes s on over = true_false over
end_follows at (Some d) far Retries s on over = true_false over
end_follows true (Some how.Commit) Goes IsFailed s on over = refl
end_follows true (Some how.Commit) Goes IsDone s on over = refl
end_follows true (Some how.Commit) Retries IsFailed s on over = refl
end_follows true (Some how.Commit) Retries IsDone s on over = refl
end_follows false (Some how.Commit) Goes IsFailed s on over = refl
end_follows false (Some how.Commit) Goes IsDone s on over = refl
end_follows false (Some how.Commit) Retries IsFailed s on over = refl
end_follows false (Some how.Commit) Retries IsDone s on over = refl
end_follows at (Some how.Rollback) Goes IsFailed s on over = refl
end_follows at (Some how.Rollback) Goes IsDone s on over = refl
end_follows at (Some how.Rollback) Retries IsFailed s on over = refl
end_follows at (Some how.Rollback) Retries IsDone s on over = refl
end_follows at (Some how.Timeout) Goes IsFailed s on over = refl
end_follows at (Some how.Timeout) Goes IsDone s on over = refl
end_follows at (Some how.Timeout) Retries IsFailed s on over = refl
end_follows at (Some how.Timeout) Retries IsDone s on over = refl

done_is_end : (at : Bool) (d : Option Decision) (far : Progress) → is_some d ≡ true → is_done far ≡ true → is_end (status_by at d far) ≡ true
done_is_end at None far s e = false_true s
done_is_end at (Some d) Goes s e = false_true e
done_is_end at (Some d) Retries s e = false_true e
done_is_end at (Some d) IsFailed s e = false_true e
done_is_end at (Some how.Commit) IsDone s e = refl
done_is_end at (Some how.Rollback) IsDone s e = refl
done_is_end at (Some how.Timeout) IsDone s e = refl

module _ (at : Bool) (d : Option Decision) (far : Progress) where
  begin_changes : (forgotten b : Bool) (s : Session) (o : Option Session) → (b ≡ true → (o ≡ None) × (d ≡ None) × (forgotten ≡ false))
      → IsChange (is_some o) (state (is_some o) forgotten at d far) (state (is_some (cond b (Some s) o)) forgotten at d far)
  begin_changes forgotten true s o is =
      let here = is refl in
      inr (inr (inl (
        ap (λ q. is_some q) here.0,
        ap (λ f. state true f at d far) here.2 ∙ ap (λ q. status_by at q far) here.1,
      )))
  begin_changes forgotten false s o is = inl refl

  grant_changes : (begun forgotten b : Bool) (g : Grant) (gs : List Grant) → (b ≡ true → d ≡ None)
      → IsChange begun (state begun forgotten (all_at gs) d far) (state begun forgotten (all_at (cond b (g ∷ gs) gs)) d far)
  grant_changes begun forgotten true g gs is =
      inl (ap (λ o. state begun forgotten (all_at (g ∷ gs)) o far) (is refl) ∙ sym (ap (λ o. state begun forgotten (all_at gs) o far) (is refl)))
  grant_changes begun forgotten false g gs is = inl refl

  decision_changes : (begun forgotten b : Bool) (how : Decision) → (b ≡ true → (begun ≡ true) × (forgotten ≡ false) × (d ≡ None) × (far ≡ Goes))
      → IsChange begun (state begun forgotten at d far) (state begun forgotten at (if b then Some how else d) far)
  decision_changes false forgotten true how is = false_true (is refl).0
  decision_changes true true true how is = true_false (is refl).1
  decision_changes true false true how is =
      let here = is refl in
      inr (inl (ap (λ o. follows (code_of (status_by at o far)) (code_of (status_by at (Some how) far))) here.2
      ∙ ap (λ f. follows 1 (code_of (status_by at (Some how) f))) here.3 ∙ decision_follows at how))
  decision_changes begun forgotten false how is = inl refl

  retrying_changes : (begun forgotten b : Bool) → (b ≡ true → has_retrying (state begun forgotten at d far) ≡ true)
      → IsChange begun (state begun forgotten at d far) (state begun forgotten at d (if b then Retries else far))
  retrying_changes true false true is = inr (inl (retrying_follows at d far (is refl)))
  retrying_changes begun forgotten false is = inl refl
  retrying_changes begun forgotten true is = false_true (is refl)

  end_changes : (last : Progress) → is_on last ≡ false → (begun forgotten b : Bool) → (b ≡ true → ((begun && not forgotten) && (is_some d && is_on far)) ≡ true)
      → IsChange begun (state begun forgotten at d far) (state begun forgotten at d (if b then last else far))
  end_changes last over true false true is = inr (inl (end_follows at d far last (and_left (is_some d) (is_on far) (is refl)) (and_right (is_some d) (is_on far) (is refl)) over))
  end_changes last over begun forgotten false is = inl refl
  end_changes last over begun forgotten true is = false_true (is refl)

  forget_changes : (begun forgotten b : Bool) → (b ≡ true → ((begun && not forgotten) && (is_some d && is_done far)) ≡ true)
      → IsChange begun (state begun forgotten at d far) (state begun (if b then true else forgotten) at d far)
  forget_changes true false true is = inr (inr (inr (done_is_end at d far (and_left (is_some d) (is_done far) (is refl)) (and_right (is_some d) (is_done far) (is refl)), refl)))
  forget_changes begun forgotten false is = inl refl
  forget_changes begun forgotten true is = false_true (is refl)

module _ (rs : List SessionRecord) (x : ℕ) (k : Known rs x) (n : Numbered rs) where
  abbrev at_now : Bool
  at_now = all_at (branches rs x)

  abbrev began : Bool
  began = is_some (session rs x)

  undecided_then : (xid : Xid) (b : ℕ) (hold : List RowKey) (free : Bool) → ((may_decide rs xid.0 && ((b == next_branch rs) && is_none (first_held rs xid.0 hold))) && free) ≡ true
      → (xid.0 == x) ≡ true → decided rs x ≡ None
  undecided_then xid b hold free may e = moved (λ n. decided rs n ≡ None) xid.0 x (grant_undecided rs xid.0 b hold free may) e

  status_change : (r : SessionRecord) → May rs r → IsChange (is_some (session rs x)) (status_of rs x) (status_of (r ∷ rs) x)
  status_change (log.Begun xid manager moment timeout) may =
      begin_changes at_now (decided rs x) (progress rs x) (is_forgotten rs x) (xid.0 == x) (record { xid = xid.0; manager = manager; begun = moment; timeout = timeout }) (session rs x)
      (λ e. let fresh = next_is_fresh rs x n (sym (same_nat xid.0 x e) ∙ next_number xid.0 (next_xid rs) (is_none (session_for rs manager)) may) in
      let none = k.fresh (ap (λ q. is_some q) fresh) in (fresh, none, (k.undecided none).1))
  status_change (log.Granted xid branch resource call ticket kind hold) may =
      grant_changes at_now (decided rs x) (progress rs x) began (is_forgotten rs x) (xid.0 == x)
      (record { xid = xid.0; branch = branch.0; resource = resource; call = call; ticket = ticket; kind = kind; hold = hold }) (branches rs x)
      (undecided_then xid branch.0 hold (is_none (granted rs xid.0 resource call ticket kind)) may)
  status_change (log.Decided xid d) may =
      decision_changes at_now (decided rs x) (progress rs x) began (is_forgotten rs x) (xid.0 == x) d
      (λ e. let here = moved (λ n. may_decide rs n ≡ true) xid.0 x may e in
      let none = decide_none rs x here in (decide_begun rs x here, (k.undecided none).1, none, (k.undecided none).0))
  status_change (log.Retrying xid) may =
      retrying_changes at_now (decided rs x) (progress rs x) began (is_forgotten rs x) (xid.0 == x) (moved (λ n. may_retry rs n ≡ true) xid.0 x may)
  status_change (log.Ended xid branch) may = inl refl
  status_change (log.Failed xid branch stmt) may =
      end_changes at_now (decided rs x) (progress rs x) IsFailed refl began (is_forgotten rs x) (xid.0 == x)
      (moved (λ n. is_going rs n ≡ true) xid.0 x (end_going rs xid.0 branch.0 may))
  status_change (log.Finished xid) may =
      end_changes at_now (decided rs x) (progress rs x) IsDone refl began (is_forgotten rs x) (xid.0 == x)
      (moved (λ n. is_going rs n ≡ true) xid.0 x (and_left (is_going rs xid.0) (is_empty (unended rs xid.0)) may))
  status_change (log.Forgot xid) may =
      forget_changes at_now (decided rs x) (progress rs x) began (is_forgotten rs x) (xid.0 == x) (moved (λ n. is_finished rs n ≡ true) xid.0 x may)

pub by_table : (rs : List SessionRecord) → Allowed rs → (x : ℕ) → ChangesByTable rs x
by_table [] a x = tt
by_table (r ∷ rs) a x = (by_table rs a.0 x, status_change rs x (known rs a.0 x) (numbered rs a.0) r a.1)
