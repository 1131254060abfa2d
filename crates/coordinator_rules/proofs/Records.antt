-- Which transactions are in their second phase, and which are finished, after one more record.
use Rattle.std.proofs.Common.{◌≡◌, ◌==◌, ◌&&◌, ◌≤◌, ◌+◌, not, ℕ, Bool, true, false, cond, if◌then◌else◌, List, ◌∷◌, length, Option, Some, None, is_some, is_none, refl, sym, ap, ◌∙◌, arith}
use Rattle.std.specs.Prelude.{find}
use Rattle.seata_types.specs.declared.ids.Xid.{Xid}
use Rattle.seata_types.specs.declared.statuses.Decision.{Decision}
use Rattle.durable_records.specs.declared.coordinators.SessionRecord.{SessionRecord}
use Rattle.durable_records.specs.declared.coordinators.SessionRecord.TheVariants as log
use Rattle.durable_records.specs.Transactions.{Session as Began, sessions, session, session_for, has_xid, decided, is_forgotten, next_xid}
use Rattle.durable_records.specs.Branches.{unended, unended_branch}
use Rattle.durable_records.specs.Progress.{Progress, Goes, Retries, IsFailed, IsDone, progress, is_known, is_on, is_done, may_decide, is_going, is_finished}
use Rattle.durable_records.specs.SessionOrder.{May, Allowed, is_empty}
use Rattle.session_memory.proofs.Small.{false_true, and_left, and_right, same_nat, nat_differs, moved}
use Rattle.session_memory.proofs.Lists.{AreCounted, each_same, up_to, find_missing, and_false}
use Rattle.durable_records.proofs.RecordFacts.{known, numbered, began_xid, decide_none, going_decided, going_on}
use Rattle.coordinator_rules.proofs.Laws.{retry_going}

-- the next transaction isn't there yet
none_next : (ss : List Began) (x : ℕ) → AreCounted began_xid ss → x ≡ length ss + 1 → find (has_xid x) ss ≡ None
none_next ss x c is =
    find_missing (has_xid x) ss (each_same (λ s. s.xid ≤ length ss) (λ s. (s.xid == x) ≡ false) (λ s le. nat_differs s.xid x (λ e. omega (arith, le, is, e))) ss (up_to began_xid ss c))

-- ---- over whether it is known, how it is decided and how far it is

-- a test that holds of a transaction that is decided
abbrev passes : (Progress → Bool) → (known : Bool) → Option Decision → Progress → Bool
passes f known d far = known && (is_some d && f far)

never : (f : Progress → Bool) (known : Bool) (d : Option Decision) (far : Progress) → d ≡ None → passes f known d far ≡ false
never f known d far e = and_false known (is_some d && f far) (ap (λ o. is_some o && f far) e)

always : (f : Progress → Bool) (known : Bool) (d : Option Decision) (far : Progress) → known ≡ true → is_some d ≡ true → passes f known d far ≡ f far
always f known d far k s = ap (λ b. b && (is_some d && f far)) k ∙ ap (λ b. b && f far) s

-- the last tests of progress exclude each other
not_both : (far : Progress) → is_on far ≡ true → is_done far ≡ false
not_both Goes e = refl
not_both Retries e = refl
not_both IsFailed e = false_true e
not_both IsDone e = false_true e

not_on : (far : Progress) → is_done far ≡ true → is_on far ≡ false
not_on Goes e = false_true e
not_on Retries e = false_true e
not_on IsFailed e = false_true e
not_on IsDone e = refl

begun_by : (f : Progress → Bool) (b begun forgotten : Bool) (s : Began) (o : Option Began) (d : Option Decision) (far : Progress) → (b ≡ true → d ≡ None)
    → passes f (is_some (cond b (Some s) o) && not forgotten) d far ≡ passes f (is_some o && not forgotten) d far
begun_by f true begun forgotten s o d far none =
    never f (is_some (Some s) && not forgotten) d far (none refl) ∙ sym (never f (is_some o && not forgotten) d far (none refl))
begun_by f false begun forgotten s o d far none = refl

decided_going : (b known : Bool) (how : Decision) (d : Option Decision) (far : Progress) → (b ≡ true → (known ≡ true) × (far ≡ Goes))
    → passes is_on known (if b then Some how else d) far ≡ (if b then true else passes is_on known d far)
decided_going true known how d far is = always is_on known (Some how) far (is refl).0 refl ∙ ap is_on (is refl).1
decided_going false known how d far is = refl

decided_finished : (b known : Bool) (how : Decision) (d : Option Decision) (far : Progress) → (b ≡ true → (d ≡ None) × (far ≡ Goes))
    → passes is_done known (if b then Some how else d) far ≡ passes is_done known d far
decided_finished true known how d far is =
    and_false known (is_done far) (ap is_done (is refl).1) ∙ sym (never is_done known d far (is refl).0)
decided_finished false known how d far is = refl

far_by : (f : Progress → Bool) (b known : Bool) (d : Option Decision) (to far : Progress) → (b ≡ true → (known ≡ true) × (is_some d ≡ true))
    → passes f known d (if b then to else far) ≡ (if b then f to else passes f known d far)
far_by f true known d to far is = always f known d to (is refl).0 (is refl).1
far_by f false known d to far is = refl

forgot_by : (f : Progress → Bool) (b begun forgotten : Bool) (d : Option Decision) (far : Progress)
    → passes f (begun && not (if b then true else forgotten)) d far ≡ (if b then false else passes f (begun && not forgotten) d far)
forgot_by f true begun forgotten d far = ap (λ k. k && (is_some d && f far)) (and_false begun false refl)
forgot_by f false begun forgotten d far = refl

-- where a test was false at the transaction, nothing changes
unchanged : (b before : Bool) → (b ≡ true → before ≡ false) → (if b then false else before) ≡ before
unchanged true before e = sym (e refl)
unchanged false before e = refl

unchanged_true : (b before : Bool) → (b ≡ true → before ≡ true) → (if b then true else before) ≡ before
unchanged_true true before e = sym (e refl)
unchanged_true false before e = refl

-- ---- after a record

-- whether x is in its second phase after a record
abbrev pub going_by : SessionRecord → ℕ → Bool → Bool
going_by (log.Decided xid how) x before = if xid.0 == x then true else before
going_by (log.Failed xid branch stmt) x before = if xid.0 == x then false else before
going_by (log.Finished xid) x before = if xid.0 == x then false else before
going_by _ x before = before

-- whether x is finished after a record
abbrev pub finished_by : SessionRecord → ℕ → Bool → Bool
finished_by (log.Finished xid) x before = if xid.0 == x then true else before
finished_by (log.Forgot xid) x before = if xid.0 == x then false else before
finished_by _ x before = before

module _ (rs : List SessionRecord) (a : Allowed rs) (x : ℕ) where
  fresh_begun : (xid : Xid) (manager : ℕ) → ((xid.0 == next_xid rs) && is_none (session_for rs manager)) ≡ true → (xid.0 == x) ≡ true → decided rs x ≡ None
  fresh_begun xid manager may e =
      let next : xid.0 ≡ next_xid rs = same_nat xid.0 (next_xid rs) (and_left (xid.0 == next_xid rs) (is_none (session_for rs manager)) may) in
      (known rs a x).fresh (ap is_some (none_next (sessions rs) x (numbered rs a).began (sym (same_nat xid.0 x e) ∙ next)))

  fresh_far : may_decide rs x ≡ true → progress rs x ≡ Goes
  fresh_far may = ((known rs a x).undecided (decide_none rs x may)).0

  known_here : is_going rs x ≡ true → is_known rs x ≡ true
  known_here g = and_left (is_known rs x) (is_some (decided rs x) && is_on (progress rs x)) g

  over_decided : is_finished rs x ≡ true → is_some (decided rs x) ≡ true
  over_decided e = and_left (is_some (decided rs x)) (is_done (progress rs x)) (and_right (is_known rs x) (is_some (decided rs x) && is_done (progress rs x)) e)

  over_far : is_finished rs x ≡ true → is_done (progress rs x) ≡ true
  over_far e = and_right (is_some (decided rs x)) (is_done (progress rs x)) (and_right (is_known rs x) (is_some (decided rs x) && is_done (progress rs x)) e)

  -- one in its second phase isn't finished, and the other way round
  pub going_not_finished : is_going rs x ≡ true → is_finished rs x ≡ false
  going_not_finished g =
      and_false (is_known rs x) (is_some (decided rs x) && is_done (progress rs x))
      (and_false (is_some (decided rs x)) (is_done (progress rs x)) (not_both (progress rs x) (going_on rs x g)))

  pub finished_not_going : is_finished rs x ≡ true → is_going rs x ≡ false
  finished_not_going e =
      and_false (is_known rs x) (is_some (decided rs x) && is_on (progress rs x))
      (and_false (is_some (decided rs x)) (is_on (progress rs x)) (not_on (progress rs x) (over_far e)))

  -- one that isn't decided isn't in its second phase
  pub undecided_not_going : may_decide rs x ≡ true → is_going rs x ≡ false
  undecided_not_going m = never is_on (is_known rs x) (decided rs x) (progress rs x) (decide_none rs x m)

  at_going : (xid : Xid) → is_going rs xid.0 ≡ true → (xid.0 == x) ≡ true → is_going rs x ≡ true
  at_going xid g e = moved (λ n. is_going rs n ≡ true) xid.0 x g e

  goes_decided : (xid : Xid) → is_going rs xid.0 ≡ true → (xid.0 == x) ≡ true → (is_known rs x ≡ true) × (is_some (decided rs x) ≡ true)
  goes_decided xid g e = let here = at_going xid g e in (known_here here, going_decided rs x here)

  pub going_after : (r : SessionRecord) → May rs r → is_going (r ∷ rs) x ≡ going_by r x (is_going rs x)
  going_after (log.Begun xid manager moment timeout) may =
      begun_by is_on (xid.0 == x) true (is_forgotten rs x) (record { xid = xid.0; manager = manager; begun = moment; timeout = timeout }) (session rs x) (decided rs x) (progress rs x) (fresh_begun xid manager may)
  going_after (log.Granted xid branch resource call ticket kind hold) may = refl
  going_after (log.Decided xid how) may =
      decided_going (xid.0 == x) (is_known rs x) how (decided rs x) (progress rs x)
      (λ e. let here = moved (λ n. may_decide rs n ≡ true) xid.0 x may e in (and_left (is_known rs x) (is_none (decided rs x)) here, fresh_far here))
  going_after (log.Retrying xid) may =
      far_by is_on (xid.0 == x) (is_known rs x) (decided rs x) Retries (progress rs x) (goes_decided xid (retry_going rs xid.0 may))
      ∙ unchanged_true (xid.0 == x) (is_going rs x) (at_going xid (retry_going rs xid.0 may))
  going_after (log.Ended xid branch) may = refl
  going_after (log.Failed xid branch stmt) may =
      far_by is_on (xid.0 == x) (is_known rs x) (decided rs x) IsFailed (progress rs x) (goes_decided xid (and_left (is_going rs xid.0) (is_some (unended_branch rs xid.0 branch.0)) may))
  going_after (log.Finished xid) may =
      far_by is_on (xid.0 == x) (is_known rs x) (decided rs x) IsDone (progress rs x) (goes_decided xid (and_left (is_going rs xid.0) (is_empty (unended rs xid.0)) may))
  going_after (log.Forgot xid) may =
      forgot_by is_on (xid.0 == x) (is_some (session rs x)) (is_forgotten rs x) (decided rs x) (progress rs x)
      ∙ unchanged (xid.0 == x) (is_going rs x) (λ e. finished_not_going (moved (λ n. is_finished rs n ≡ true) xid.0 x may e))

  pub finished_after : (r : SessionRecord) → May rs r → is_finished (r ∷ rs) x ≡ finished_by r x (is_finished rs x)
  finished_after (log.Begun xid manager moment timeout) may =
      begun_by is_done (xid.0 == x) true (is_forgotten rs x) (record { xid = xid.0; manager = manager; begun = moment; timeout = timeout }) (session rs x) (decided rs x) (progress rs x) (fresh_begun xid manager may)
  finished_after (log.Granted xid branch resource call ticket kind hold) may = refl
  finished_after (log.Decided xid how) may =
      decided_finished (xid.0 == x) (is_known rs x) how (decided rs x) (progress rs x)
      (λ e. let here = moved (λ n. may_decide rs n ≡ true) xid.0 x may e in (decide_none rs x here, fresh_far here))
  finished_after (log.Retrying xid) may =
      far_by is_done (xid.0 == x) (is_known rs x) (decided rs x) Retries (progress rs x) (goes_decided xid (retry_going rs xid.0 may))
      ∙ unchanged (xid.0 == x) (is_finished rs x) (λ e. going_not_finished (at_going xid (retry_going rs xid.0 may) e))
  finished_after (log.Ended xid branch) may = refl
  finished_after (log.Failed xid branch stmt) may =
      far_by is_done (xid.0 == x) (is_known rs x) (decided rs x) IsFailed (progress rs x) (goes_decided xid (and_left (is_going rs xid.0) (is_some (unended_branch rs xid.0 branch.0)) may))
      ∙ unchanged (xid.0 == x) (is_finished rs x) (λ e. going_not_finished (at_going xid (and_left (is_going rs xid.0) (is_some (unended_branch rs xid.0 branch.0)) may) e))
  finished_after (log.Finished xid) may =
      far_by is_done (xid.0 == x) (is_known rs x) (decided rs x) IsDone (progress rs x) (goes_decided xid (and_left (is_going rs xid.0) (is_empty (unended rs xid.0)) may))
  finished_after (log.Forgot xid) may =
      forgot_by is_done (xid.0 == x) (is_some (session rs x)) (is_forgotten rs x) (decided rs x) (progress rs x)
