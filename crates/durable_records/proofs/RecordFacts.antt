-- What is known of one transaction, in records that may come after one another.
use Rattle.std.proofs.Common.{◌≡◌, ◌==◌, ◌&&◌, not, ℕ, Bool, true, false, cond, if◌then◌else◌, List, [], ◌∷◌, Option, Some, None, is_some, is_none, refl, sym, ◌∙◌}
use Rattle.seata_types.specs.declared.ids.Xid.{Xid}
use Rattle.seata_types.specs.declared.rows.RowKey.{RowKey}
use Rattle.seata_types.specs.declared.statuses.Decision.{Decision}
use Rattle.seata_types.specs.declared.statuses.GlobalStatus.TheVariants as status
use Rattle.durable_records.specs.declared.coordinators.SessionRecord.{SessionRecord}
use Rattle.durable_records.specs.declared.coordinators.SessionRecord.TheVariants as log
use Rattle.durable_records.specs.Transactions.{Session as Began, sessions, session, decided, is_forgotten, failed, next_xid, session_for}
use Rattle.durable_records.specs.Branches.{Grant, grants, branches, all_at, is_ended, unended, unended_branch, next_branch, granted}
use Rattle.durable_records.specs.Progress.{Progress, Goes, Retries, IsFailed, IsDone, progress, status_by, is_known, is_on, is_done, may_decide, is_going, is_finished, has_retrying, may_retry}
use Rattle.durable_records.specs.Locks.{first_held}
use Rattle.durable_records.specs.SessionOrder.{May, Allowed, is_empty}
use Rattle.durable_records.proofs.Tests.{false_true, true_false, none_some, and_left, and_right, is_none_none, some_not_none, same_nat, moved}
use Rattle.durable_records.proofs.MemberFacts.{AreCounted}

-- ---- what is known of a transaction

-- of whether it began, its branches, its decision, how far it is, whether it is forgotten, which branches are ended, and
-- where it failed: one that didn't begin has nothing, and one that isn't decided has no branch ended and no failure
pub record KnownBy (begun : Bool) (gs : List Grant) (decision : Option Decision) (far : Progress) (forgotten : Bool) (ended : ℕ → Bool) (failure : Option (ℕ × ℕ)) : Type 0 where
  pub empty : begun ≡ false → gs ≡ []
  pub fresh : begun ≡ false → decision ≡ None
  pub undecided : decision ≡ None → (far ≡ Goes) × (forgotten ≡ false) × ((b : ℕ) → ended b ≡ false) × (failure ≡ None)

abbrev pub Known : List SessionRecord → ℕ → Type 0
Known rs x = KnownBy (is_some (session rs x)) (branches rs x) (decided rs x) (progress rs x) (is_forgotten rs x) (is_ended rs x) (failed rs x)

module _ (begun : Bool) (gs : List Grant) (decision : Option Decision) (far : Progress) (forgotten : Bool) (ended : ℕ → Bool) (failure : Option (ℕ × ℕ)) (k : KnownBy begun gs decision far forgotten ended failure) where
  begins : (b : Bool) (s : Began) (o : Option Began) → is_some o ≡ begun → KnownBy (is_some (cond b (Some s) o)) gs decision far forgotten ended failure
  begins true s o e = record { empty = λ f. true_false f; fresh = λ f. true_false f; undecided = k.undecided }
  begins false s o e = record { empty = λ f. k.empty (sym e ∙ f); fresh = λ f. k.fresh (sym e ∙ f); undecided = k.undecided }

  grants_one : (b : Bool) (g : Grant) → (b ≡ true → begun ≡ true) → KnownBy begun (cond b (g ∷ gs) gs) decision far forgotten ended failure
  grants_one true g may = record { empty = λ f. true_false (sym (may refl) ∙ f); fresh = k.fresh; undecided = k.undecided }
  grants_one false g may = k

  decides : (b : Bool) (how : Decision) → (b ≡ true → begun ≡ true) → KnownBy begun gs (if b then Some how else decision) far forgotten ended failure
  decides true how may = record { empty = k.empty; fresh = λ f. true_false (sym (may refl) ∙ f); undecided = λ n. none_some (sym n) }
  decides false how may = k

-- a record of a decided transaction
module _ (begun : Bool) (gs : List Grant) (decision : Option Decision) (far : Bool → Progress) (forgotten : Bool → Bool) (ended : Bool → ℕ → Bool) (failure : Bool → Option (ℕ × ℕ)) where
  settled : KnownBy begun gs decision (far false) (forgotten false) (ended false) (failure false) → (b : Bool) → (b ≡ true → is_some decision ≡ true)
      → KnownBy begun gs decision (far b) (forgotten b) (ended b) (failure b)
  settled k true is = record { empty = k.empty; fresh = k.fresh; undecided = λ n. some_not_none decision (is refl) n }
  settled k false is = k

-- ---- what the tests of a record say

retrying_decided : (known at : Bool) (d : Option Decision) (far : Progress) → has_retrying (if known then status_by at d far else status.Finished) ≡ true → is_some d ≡ true
retrying_decided false at d far e = false_true e
retrying_decided true at None far e = false_true e
retrying_decided true at (Some d) far e = refl

module _ (rs : List SessionRecord) (x : ℕ) where
  pub retry_decided : may_retry rs x ≡ true → is_some (decided rs x) ≡ true
  retry_decided e = retrying_decided (is_known rs x) (all_at (branches rs x)) (decided rs x) (progress rs x) e

  pub known_begun : is_known rs x ≡ true → is_some (session rs x) ≡ true
  known_begun e = and_left (is_some (session rs x)) (not (is_forgotten rs x)) e

  pub decide_begun : may_decide rs x ≡ true → is_some (session rs x) ≡ true
  decide_begun e = known_begun (and_left (is_known rs x) (is_none (decided rs x)) e)

  pub decide_none : may_decide rs x ≡ true → decided rs x ≡ None
  decide_none e = is_none_none (decided rs x) (and_right (is_known rs x) (is_none (decided rs x)) e)

  pub going_decided : is_going rs x ≡ true → is_some (decided rs x) ≡ true
  going_decided e = and_left (is_some (decided rs x)) (is_on (progress rs x)) (and_right (is_known rs x) (is_some (decided rs x) && is_on (progress rs x)) e)

  pub going_on : is_going rs x ≡ true → is_on (progress rs x) ≡ true
  going_on e = and_right (is_some (decided rs x)) (is_on (progress rs x)) (and_right (is_known rs x) (is_some (decided rs x) && is_on (progress rs x)) e)

  pub finished_known : is_finished rs x ≡ true → is_known rs x ≡ true
  finished_known e = and_left (is_known rs x) (is_some (decided rs x) && is_done (progress rs x)) e

  pub finished_decided : is_finished rs x ≡ true → is_some (decided rs x) ≡ true
  finished_decided e = and_left (is_some (decided rs x)) (is_done (progress rs x)) (and_right (is_known rs x) (is_some (decided rs x) && is_done (progress rs x)) e)

  pub finished_done : is_finished rs x ≡ true → is_done (progress rs x) ≡ true
  finished_done e = and_right (is_some (decided rs x)) (is_done (progress rs x)) (and_right (is_known rs x) (is_some (decided rs x) && is_done (progress rs x)) e)

  -- a branch that may end is of a transaction in its second phase
  pub end_going : (b : ℕ) → (is_going rs x && is_some (unended_branch rs x b)) ≡ true → is_going rs x ≡ true
  end_going b e = and_left (is_going rs x) (is_some (unended_branch rs x b)) e

-- a grant: its transaction is undecided, it has the next number, and its rows are free
module _ (rs : List SessionRecord) (x b : ℕ) (hold : List RowKey) (new : Bool) (may : ((may_decide rs x && ((b == next_branch rs) && is_none (first_held rs x hold))) && new) ≡ true) where
  pub grant_decides : may_decide rs x ≡ true
  grant_decides =
      and_left (may_decide rs x) ((b == next_branch rs) && is_none (first_held rs x hold)) (and_left (may_decide rs x && ((b == next_branch rs) && is_none (first_held rs x hold))) new may)

  pub grant_next : b ≡ next_branch rs
  grant_next =
      let both = and_right (may_decide rs x) ((b == next_branch rs) && is_none (first_held rs x hold)) (and_left (may_decide rs x && ((b == next_branch rs) && is_none (first_held rs x hold))) new may) in
      same_nat b (next_branch rs) (and_left (b == next_branch rs) (is_none (first_held rs x hold)) both)

  pub grant_undecided : decided rs x ≡ None
  grant_undecided = decide_none rs x grant_decides

  pub grant_new : new ≡ true
  grant_new = and_right (may_decide rs x && ((b == next_branch rs) && is_none (first_held rs x hold))) new may

-- a transaction that begins: it has the next number, and its manager has none
module _ (rs : List SessionRecord) (x manager : ℕ) (may : ((x == next_xid rs) && is_none (session_for rs manager)) ≡ true) where
  pub begin_next : x ≡ next_xid rs
  begin_next = same_nat x (next_xid rs) (and_left (x == next_xid rs) (is_none (session_for rs manager)) may)

  pub begin_new : session_for rs manager ≡ None
  begin_new = is_none_none (session_for rs manager) (and_right (x == next_xid rs) (is_none (session_for rs manager)) may)

-- ---- a record keeps what is known

module _ (rs : List SessionRecord) (x : ℕ) (k : Known rs x) where
  abbrev begun_now : Bool
  begun_now = is_some (session rs x)

  decided_after : (xid : Xid) (b : ℕ) → is_going rs xid.0 ≡ true → (xid.0 == x) ≡ true → is_some (decided rs x) ≡ true
  decided_after xid b going e = going_decided rs x (moved (λ n. is_going rs n ≡ true) xid.0 x going e)

  pub known_after : (r : SessionRecord) → May rs r → Known (r ∷ rs) x
  known_after (log.Begun xid manager moment timeout) may =
      begins begun_now (branches rs x) (decided rs x) (progress rs x) (is_forgotten rs x) (is_ended rs x) (failed rs x) k (xid.0 == x)
      (record { xid = xid.0; manager = manager; begun = moment; timeout = timeout }) (session rs x) refl
  known_after (log.Granted xid branch resource call ticket kind hold) may =
      grants_one begun_now (branches rs x) (decided rs x) (progress rs x) (is_forgotten rs x) (is_ended rs x) (failed rs x) k (xid.0 == x)
      (record { xid = xid.0; branch = branch.0; resource = resource; call = call; ticket = ticket; kind = kind; hold = hold })
      (λ e. decide_begun rs x (moved (λ n. may_decide rs n ≡ true) xid.0 x (grant_decides rs xid.0 branch.0 hold (is_none (granted rs xid.0 resource call ticket kind)) may) e))
  known_after (log.Decided xid d) may =
      decides begun_now (branches rs x) (decided rs x) (progress rs x) (is_forgotten rs x) (is_ended rs x) (failed rs x) k (xid.0 == x) d
      (λ e. decide_begun rs x (moved (λ n. may_decide rs n ≡ true) xid.0 x may e))
  known_after (log.Retrying xid) may =
      settled begun_now (branches rs x) (decided rs x) (λ b. if b then Retries else progress rs x) (λ b. is_forgotten rs x) (λ b. is_ended rs x) (λ b. failed rs x) k (xid.0 == x)
      (λ e. retry_decided rs x (moved (λ n. may_retry rs n ≡ true) xid.0 x may e))
  known_after (log.Ended xid branch) may =
      settled begun_now (branches rs x) (decided rs x) (λ b. progress rs x) (λ b. is_forgotten rs x) (λ b c. if b && (branch.0 == c) then true else is_ended rs x c) (λ b. failed rs x) k (xid.0 == x)
      (decided_after xid branch.0 (end_going rs xid.0 branch.0 may))
  known_after (log.Failed xid branch stmt) may =
      settled begun_now (branches rs x) (decided rs x) (λ b. if b then IsFailed else progress rs x) (λ b. is_forgotten rs x) (λ b. is_ended rs x) (λ b. if b then Some (branch.0, stmt) else failed rs x) k (xid.0 == x)
      (decided_after xid branch.0 (end_going rs xid.0 branch.0 may))
  known_after (log.Finished xid) may =
      settled begun_now (branches rs x) (decided rs x) (λ b. if b then IsDone else progress rs x) (λ b. is_forgotten rs x) (λ b. is_ended rs x) (λ b. failed rs x) k (xid.0 == x)
      (decided_after xid 0 (and_left (is_going rs xid.0) (is_empty (unended rs xid.0)) may))
  known_after (log.Forgot xid) may =
      settled begun_now (branches rs x) (decided rs x) (λ b. progress rs x) (λ b. if b then true else is_forgotten rs x) (λ b. is_ended rs x) (λ b. failed rs x) k (xid.0 == x)
      (λ e. finished_decided rs x (moved (λ n. is_finished rs n ≡ true) xid.0 x may e))

known_first : (x : ℕ) → Known [] x
known_first x = record { empty = λ f. refl; fresh = λ f. refl; undecided = λ n. (refl, refl, λ b. refl, refl) }

pub known : (rs : List SessionRecord) → Allowed rs → (x : ℕ) → Known rs x
known [] a x = known_first x
known (r ∷ rs) a x = known_after rs x (known rs a.0 x) r a.1

-- ---- numbers

abbrev pub began_xid : Began → ℕ
began_xid s = s.xid

abbrev pub grant_branch : Grant → ℕ
grant_branch g = g.branch

-- transactions are counted from 1, and so are branches
pub record Numbered (rs : List SessionRecord) : Type 0 where
  pub began : AreCounted began_xid (sessions rs)
  pub branched : AreCounted grant_branch (grants rs)

numbered_after : (rs : List SessionRecord) (r : SessionRecord) → May rs r → Numbered rs → Numbered (r ∷ rs)
numbered_after rs (log.Begun xid manager moment timeout) may n =
    record { began = (begin_next rs xid.0 manager may, n.began); branched = n.branched }
numbered_after rs (log.Granted xid branch resource call ticket kind hold) may n =
    record { began = n.began; branched = (grant_next rs xid.0 branch.0 hold (is_none (granted rs xid.0 resource call ticket kind)) may, n.branched) }
numbered_after rs (log.Decided xid d) may n = record { began = n.began; branched = n.branched }
numbered_after rs (log.Retrying xid) may n = record { began = n.began; branched = n.branched }
numbered_after rs (log.Ended xid branch) may n = record { began = n.began; branched = n.branched }
numbered_after rs (log.Failed xid branch stmt) may n = record { began = n.began; branched = n.branched }
numbered_after rs (log.Finished xid) may n = record { began = n.began; branched = n.branched }
numbered_after rs (log.Forgot xid) may n = record { began = n.began; branched = n.branched }

pub numbered : (rs : List SessionRecord) → Allowed rs → Numbered rs
numbered [] a = record { began = tt; branched = tt }
numbered (r ∷ rs) a = numbered_after rs r a.1 (numbered rs a.0)
