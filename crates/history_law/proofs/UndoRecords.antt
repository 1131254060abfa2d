-- Undo records, markers and the changes of a row.
use Rattle.durable_records.specs.Fences.{tried_of_call}
use Rattle.history_law.specs.WorkSafety.{IsWork}
use Rattle.std.proofs.Common.{◌≡◌, ◌⊎◌, inl, inr, ◌==◌, ◌&&◌, ◌||◌, not, ℕ, Bool, true, false, cond, if◌then◌else◌, List, [], ◌∷◌, find, filter, Option, Some, None, refl, ap, sym, subst, ◌∙◌}
use Rattle.seata_types.specs.declared.ids.BranchId.{BranchId}
use Rattle.seata_types.specs.declared.ids.Xid.{Xid}
use Rattle.seata_types.specs.declared.rows.Image.{Image}
use Rattle.seata_types.specs.declared.rows.Row.{Row}
use Rattle.seata_types.specs.declared.rows.RowKey.{RowKey}
use Rattle.local_tables.specs.Rows.{is_key}
use Rattle.local_tables.proofs.KeyLaws.{same_key}
use Rattle.durable_records.specs.declared.resources.ResourceRecord.{ResourceRecord}
use Rattle.durable_records.specs.declared.resources.ResourceRecord.TheVariants as log
use Rattle.durable_records.specs.Locks.{has_key}
use Rattle.durable_records.specs.UndoRecords.{Undo, is_leg, is_other_leg, undos, undo_of, is_marked}
use Rattle.durable_records.specs.RowsKept.{Change, ByBranch, ByLocal, ByOutside, image_at, changed, by_branch, by_local, by_outside, is_by_other, changes}
use Rattle.durable_records.specs.ResourceOrder.{image_keys}
use Rattle.history_rules.specs.CoordinatorRules.{xid_of, branch_of}
use Rattle.history_law.specs.Points.{In}
use Rattle.history_law.proofs.Tests.{false_true, true_false, none_some, and_left, and_right, and_both, false_not, same_nat, nat_same, in_filter, of_filter}

-- an undo record as its local commit wrote it
abbrev pub commit_of : Undo → ResourceRecord
commit_of u = log.Committed (xid_of u.xid) (branch_of u.branch) u.call u.images u.reads

module _ (test kept : Undo → Bool) where
  none_kept_by : (u : Undo) (us : List Undo) (t : Bool) → test u ≡ t → (k : Bool) → cond t (Some u) (find test us) ≡ None → (find test us ≡ None → find test (filter kept us) ≡ None)
      → find test (cond k (u ∷ filter kept us) (filter kept us)) ≡ None
  none_kept_by u us true t k e below = none_some (sym e)
  none_kept_by u us false t true e below = ap (λ b. cond b (Some u) (find test (filter kept us))) t ∙ below e
  none_kept_by u us false t false e below = below e

  none_kept : (us : List Undo) → find test us ≡ None → find test (filter kept us) ≡ None
  none_kept [] e = refl
  none_kept (u ∷ us) e = none_kept_by u us (test u) refl (kept u) e (none_kept us)

none_left_by : (x b : ℕ) (u : Undo) (us : List Undo) (t : Bool) → is_leg x b u ≡ t → find (is_leg x b) (filter (is_other_leg x b) us) ≡ None
    → find (is_leg x b) (cond (not t) (u ∷ filter (is_other_leg x b) us) (filter (is_other_leg x b) us)) ≡ None
none_left_by x b u us true t below = below
none_left_by x b u us false t below = ap (λ q. cond q (Some u) (find (is_leg x b) (filter (is_other_leg x b) us))) t ∙ below

none_left : (x b : ℕ) (us : List Undo) → find (is_leg x b) (filter (is_other_leg x b) us) ≡ None
none_left x b [] = refl
none_left x b (u ∷ us) = none_left_by x b u us (is_leg x b u) refl (none_left x b us)

-- once a branch has no undo record, only its own local commit gives one
pub no_undo_after : (r : ResourceRecord) (rs : List ResourceRecord) (x b : ℕ) → undo_of rs x b ≡ None → ((u : Undo) → r ≡ commit_of u → is_leg x b u ≡ false) → undo_of (r ∷ rs) x b ≡ None
no_undo_after (log.Committed xid branch call images reads) rs x b none other =
    let u : Undo = record { xid = xid.0; branch = branch.0; call = call; images = images; reads = reads } in
    ap (λ t. cond t (Some u) (undo_of rs x b)) (other u refl) ∙ none
no_undo_after (log.Undone xid branch) rs x b none other = none_kept (is_leg x b) (is_other_leg xid.0 branch.0) (undos rs) none
no_undo_after (log.Cleared xid branch) rs x b none other = none_kept (is_leg x b) (is_other_leg xid.0 branch.0) (undos rs) none
no_undo_after _ rs x b none other = none

pub undone_has_none : (rs : List ResourceRecord) (xid : Xid) (branch : BranchId) → undo_of (log.Undone xid branch ∷ rs) xid.0 branch.0 ≡ None
undone_has_none rs xid branch = none_left xid.0 branch.0 (undos rs)

-- a marker stays
pub mark_stays : (r : ResourceRecord) (rs : List ResourceRecord) (x b : ℕ) → is_marked rs x b ≡ true → is_marked (r ∷ rs) x b ≡ true
mark_stays (log.Marked xid branch) rs x b e = by ((xid.0 == x) && (branch.0 == b))
  where
    by : (t : Bool) → (if t then true else is_marked rs x b) ≡ true
    by true = refl
    by false = e
mark_stays _ rs x b e = e

pub marked_now : (rs : List ResourceRecord) (xid : Xid) (branch : BranchId) → is_marked (log.Marked xid branch ∷ rs) xid.0 branch.0 ≡ true
marked_now rs xid branch =
    ap (λ t. if t then true else is_marked rs xid.0 branch.0) (and_both (xid.0 == xid.0) (branch.0 == branch.0) (nat_same xid.0 xid.0 refl) (nat_same branch.0 branch.0 refl))

-- an undo record is one of before, or this local commit's
pub undo_before : (r : ResourceRecord) (rs : List ResourceRecord) (u : Undo) → In u (undos (r ∷ rs)) → (r ≡ commit_of u) ⊎ In u (undos rs)
undo_before (log.Committed xid branch call images reads) rs u (inl is) = inl (ap commit_of (sym is))
undo_before (log.Committed xid branch call images reads) rs u (inr i) = inr i
undo_before (log.Undone xid branch) rs u i = inr (of_filter (is_other_leg xid.0 branch.0) (undos rs) u i).0
undo_before (log.Cleared xid branch) rs u i = inr (of_filter (is_other_leg xid.0 branch.0) (undos rs) u i).0
undo_before _ rs u i = inr i

pub leg_of : (u : Undo) (x b : ℕ) → u.xid ≡ x → u.branch ≡ b → is_leg x b u ≡ true
leg_of u x b e f = and_both (u.xid == x) (u.branch == b) (nat_same u.xid x e) (nat_same u.branch b f)

pub leg_parts : (x b : ℕ) (u : Undo) → is_leg x b u ≡ true → (u.xid ≡ x) × (u.branch ≡ b)
leg_parts x b u e = (same_nat u.xid x (and_left (u.xid == x) (u.branch == b) e), same_nat u.branch b (and_right (u.xid == x) (u.branch == b) e))

-- a marker is one of before, or this one
pub mark_before : (r : ResourceRecord) (rs : List ResourceRecord) (x b : ℕ) → is_marked (r ∷ rs) x b ≡ true → (r ≡ log.Marked (xid_of x) (branch_of b)) ⊎ (is_marked rs x b ≡ true)
mark_before (log.Marked xid branch) rs x b e = by ((xid.0 == x) && (branch.0 == b)) refl e
  where
    by : (t : Bool) → ((xid.0 == x) && (branch.0 == b)) ≡ t → (if t then true else is_marked rs x b) ≡ true → (log.Marked xid branch ≡ log.Marked (xid_of x) (branch_of b)) ⊎ (is_marked rs x b ≡ true)
    by true t e =
        let sx : xid.0 ≡ x = same_nat xid.0 x (and_left (xid.0 == x) (branch.0 == b) t) in
        let sb : branch.0 ≡ b = same_nat branch.0 b (and_right (xid.0 == x) (branch.0 == b) t) in
        inl (λ i. log.Marked (xid_of (sx i)) (branch_of (sb i)))
    by false t e = inr e
mark_before _ rs x b e = inr e

undo_committed_by : (r : ResourceRecord) (rs : List ResourceRecord) (u : Undo) → (r ≡ commit_of u) ⊎ In u (undos rs) → (In u (undos rs) → In (commit_of u) rs) → In (commit_of u) (r ∷ rs)
undo_committed_by r rs u (inl is) below = inl (sym is)
undo_committed_by r rs u (inr j) below = inr (below j)

-- an undo record was committed
pub undo_committed : (rs : List ResourceRecord) (u : Undo) → In u (undos rs) → In (commit_of u) rs
undo_committed [] u i = absurd i
undo_committed (r ∷ rs) u i = undo_committed_by r rs u (undo_before r rs u i) (undo_committed rs u)

-- a record of the work of call c of x as branch b
pub record WorkIn (rs : List ResourceRecord) (x c b : ℕ) : Type 0 where
  pub work : ResourceRecord
  pub there : In work rs
  pub is : IsWork x c b work

work_below : (r : ResourceRecord) (rs : List ResourceRecord) (x c b : ℕ) → WorkIn rs x c b → WorkIn (r ∷ rs) x c b
work_below r rs x c b w = record { work = w.work; there = inr w.there; is = w.is }

tried_by : (xid : Xid) (branch : BranchId) (call : ℕ) (images : List Image) (rs : List ResourceRecord) (x c b : ℕ) (t : Bool) → ((xid.0 == x) && (call == c)) ≡ t
    → In b (if t then branch.0 ∷ tried_of_call rs x c else tried_of_call rs x c) → (In b (tried_of_call rs x c) → WorkIn rs x c b) → WorkIn (log.Tried xid branch call images ∷ rs) x c b
tried_by xid branch call images rs x c b true t (inl is) below =
    record { work = log.Tried xid branch call images; there = inl refl; is = (same_nat xid.0 x (and_left (xid.0 == x) (call == c) t), same_nat call c (and_right (xid.0 == x) (call == c) t), sym is) }
tried_by xid branch call images rs x c b true t (inr j) below = work_below (log.Tried xid branch call images) rs x c b (below j)
tried_by xid branch call images rs x c b false t j below = work_below (log.Tried xid branch call images) rs x c b (below j)

-- a branch that was tried has its record
pub tried_stands : (rs : List ResourceRecord) (x c b : ℕ) → In b (tried_of_call rs x c) → WorkIn rs x c b
tried_stands [] x c b i = absurd i
tried_stands (log.Tried xid branch call images ∷ rs) x c b i = tried_by xid branch call images rs x c b ((xid.0 == x) && (call == c)) refl i (tried_stands rs x c b)
tried_stands (log.Boot number ∷ rs) x c b i = work_below (log.Boot number) rs x c b (tried_stands rs x c b i)
tried_stands (log.Committed xid branch call images reads ∷ rs) x c b i = work_below (log.Committed xid branch call images reads) rs x c b (tried_stands rs x c b i)
tried_stands (log.Undone xid branch ∷ rs) x c b i = work_below (log.Undone xid branch) rs x c b (tried_stands rs x c b i)
tried_stands (log.Marked xid branch ∷ rs) x c b i = work_below (log.Marked xid branch) rs x c b (tried_stands rs x c b i)
tried_stands (log.Cleared xid branch ∷ rs) x c b i = work_below (log.Cleared xid branch) rs x c b (tried_stands rs x c b i)
tried_stands (log.Confirmed xid branch images ∷ rs) x c b i = work_below (log.Confirmed xid branch images) rs x c b (tried_stands rs x c b i)
tried_stands (log.Cancelled xid branch images ∷ rs) x c b i = work_below (log.Cancelled xid branch images) rs x c b (tried_stands rs x c b i)
tried_stands (log.Suspended xid branch ∷ rs) x c b i = work_below (log.Suspended xid branch) rs x c b (tried_stands rs x c b i)
tried_stands (log.LocalCommitted number images ∷ rs) x c b i = work_below (log.LocalCommitted number images) rs x c b (tried_stands rs x c b i)
tried_stands (log.Outside number images ∷ rs) x c b i = work_below (log.Outside number images) rs x c b (tried_stands rs x c b i)

-- ---- the changes of a row

-- a commit of a branch that isn't undone has its undo record yet, or it is cleared
pub data HasCommit (rs : List ResourceRecord) (x b : ℕ) (key : RowKey) : Type 0 where
  WithUndo : (u : Undo) → In u (undos rs) → u.xid ≡ x → u.branch ≡ b → has_key (image_keys u.images) key ≡ true → HasCommit rs x b key
  IsCleared : In (log.Cleared (xid_of x) (branch_of b)) rs → HasCommit rs x b key

image_has_by : (k : RowKey) (i : Image) (images : List Image) (key : RowKey) (b : Bool) → is_key key k ≡ b → (c : Bool) → is_key k key ≡ c → (b ≡ true → c ≡ true) → (a : Image) → cond b (Some i) (image_at images key) ≡ Some a
    → ((d : Image) → image_at images key ≡ Some d → has_key (image_keys images) key ≡ true) → (c || has_key (image_keys images) key) ≡ true
image_has_by k i images key true e true f same a found below = refl
image_has_by k i images key true e false f same a found below = false_true (same refl)
image_has_by k i images key false e true f same a found below = refl
image_has_by k i images key false e false f same a found below = below a found

pub image_has : (images : List Image) (key : RowKey) (a : Image) → image_at images key ≡ Some a → has_key (image_keys images) key ≡ true
image_has [] key a e = none_some e
image_has (i ∷ images) key a e =
    image_has_by i.key i images key (is_key key i.key) refl (is_key i.key key) refl
    (λ t. subst (λ q. is_key q key ≡ true) (same_key key i.key t) (subst (λ q. is_key key q ≡ true) (sym (same_key key i.key t)) t)) a e (image_has images key)

still_has : (r : ResourceRecord) (rs : List ResourceRecord) (x b : ℕ) (key : RowKey) → ((u : Undo) → In u (undos rs) → In u (undos (r ∷ rs))) → HasCommit rs x b key → HasCommit (r ∷ rs) x b key
still_has r rs x b key sub (WithUndo u i ex eb h) = WithUndo u (sub u i) ex eb h
still_has r rs x b key sub (IsCleared i) = IsCleared (inr i)

-- the change that a record adds to a row is its own
pub changed_in : (by : Image → Change) (o : Option Image) (rest : List Change) (c : Change) → In c (changed by o rest) → ((i : Image) × (o ≡ Some i) × (c ≡ by i)) ⊎ In c rest
changed_in by None rest c i = inr i
changed_in by (Some image) rest c (inl is) = inl (image, refl, is)
changed_in by (Some image) rest c (inr i) = inr i

same_branch : (x b y d : ℕ) (before after p q : Option Row) → ByBranch x b before after ≡ ByBranch y d p q → (x ≡ y) × (b ≡ d)
same_branch x b y d before after p q e = (cc, cc)

not_local : (x b : ℕ) (before after q : Option Row) → ByBranch x b before after ≡ ByLocal q → ⊥
not_local x b before after q e = cc

not_outside : (x b : ℕ) (before after q : Option Row) → ByBranch x b before after ≡ ByOutside q → ⊥
not_outside x b before after q e = cc

other_undo : (xid : Xid) (branch : BranchId) (rs : List ResourceRecord) (x b : ℕ) (u : Undo) → In u (undos rs) → u.xid ≡ x → u.branch ≡ b → not ((xid.0 == x) && (branch.0 == b)) ≡ false ⊎ In u (filter (is_other_leg xid.0 branch.0) (undos rs))
other_undo xid branch rs x b u i ex eb = by (is_leg xid.0 branch.0 u) refl
  where
    by : (t : Bool) → is_leg xid.0 branch.0 u ≡ t → not ((xid.0 == x) && (branch.0 == b)) ≡ false ⊎ In u (filter (is_other_leg xid.0 branch.0) (undos rs))
    by true t =
        let p = leg_parts xid.0 branch.0 u t in
        inl (ap (λ q. not q) (and_both (xid.0 == x) (branch.0 == b) (nat_same xid.0 x (sym p.0 ∙ ex)) (nat_same branch.0 b (sym p.1 ∙ eb))))
    by false t = inr (in_filter (is_other_leg xid.0 branch.0) (undos rs) u i (false_not (is_leg xid.0 branch.0 u) t))

module _ (x b : ℕ) (before after : Option Row) (key : RowKey) where
  abbrev this : Change
  this = ByBranch x b before after

  undone_has : (xid : Xid) (branch : BranchId) (rs : List ResourceRecord) → HasCommit rs x b key → not ((xid.0 == x) && (branch.0 == b)) ≡ true → HasCommit (log.Undone xid branch ∷ rs) x b key
  undone_has xid branch rs (IsCleared i) other = IsCleared (inr i)
  undone_has xid branch rs (WithUndo u i ex eb h) other = by (other_undo xid branch rs x b u i ex eb)
    where
      by : not ((xid.0 == x) && (branch.0 == b)) ≡ false ⊎ In u (filter (is_other_leg xid.0 branch.0) (undos rs)) → HasCommit (log.Undone xid branch ∷ rs) x b key
      by (inl same) = true_false (sym other ∙ same)
      by (inr j) = WithUndo u j ex eb h

  cleared_has : (xid : Xid) (branch : BranchId) (rs : List ResourceRecord) → HasCommit rs x b key → HasCommit (log.Cleared xid branch ∷ rs) x b key
  cleared_has xid branch rs (IsCleared i) = IsCleared (inr i)
  cleared_has xid branch rs (WithUndo u i ex eb h) = by (is_leg xid.0 branch.0 u) refl
    where
      by : (t : Bool) → is_leg xid.0 branch.0 u ≡ t → HasCommit (log.Cleared xid branch ∷ rs) x b key
      by true t =
          let p = leg_parts xid.0 branch.0 u t in
          let sx : x ≡ xid.0 = sym ex ∙ p.0 in
          let sb : b ≡ branch.0 = sym eb ∙ p.1 in
          IsCleared (inl (λ i. log.Cleared (xid_of (sx i)) (branch_of (sb i))))
      by false t = WithUndo u (in_filter (is_other_leg xid.0 branch.0) (undos rs) u i (false_not (is_leg xid.0 branch.0 u) t)) ex eb h

  pub change_has : (rs : List ResourceRecord) → In this (changes rs key) → HasCommit rs x b key
  change_has [] i = absurd i
  change_has (log.Committed xid branch call images reads ∷ rs) i = by (changed_in (by_branch xid.0 branch.0) (image_at images key) (changes rs key) this i) (change_has rs)
    where
      by : ((image : Image) × (image_at images key ≡ Some image) × (this ≡ by_branch xid.0 branch.0 image)) ⊎ In this (changes rs key) → (In this (changes rs key) → HasCommit rs x b key)
          → HasCommit (log.Committed xid branch call images reads ∷ rs) x b key
      by (inl (image, found, is)) below =
          let same = same_branch x b xid.0 branch.0 before after image.before image.after is in
          WithUndo (record { xid = xid.0; branch = branch.0; call = call; images = images; reads = reads }) (inl refl) (sym same.0) (sym same.1) (image_has images key image found)
      by (inr old) below = still_has (log.Committed xid branch call images reads) rs x b key (λ u j. inr j) (below old)
  change_has (log.Undone xid branch ∷ rs) i =
      let p = of_filter (is_by_other xid.0 branch.0) (changes rs key) this i in
      undone_has xid branch rs (change_has rs p.0) (turned x b xid.0 branch.0 p.1)
    where
      turned : (x b y d : ℕ) → not ((x == y) && (b == d)) ≡ true → not ((y == x) && (d == b)) ≡ true
      turned x b y d e = by ((y == x) && (d == b)) refl
        where
          by : (t : Bool) → ((y == x) && (d == b)) ≡ t → not t ≡ true
          by true t = true_false (sym e ∙ ap (λ q. not q)
              (and_both (x == y) (b == d) (nat_same x y (sym (same_nat y x (and_left (y == x) (d == b) t)))) (nat_same b d (sym (same_nat d b (and_right (y == x) (d == b) t))))))
          by false t = refl
  change_has (log.Cleared xid branch ∷ rs) i = cleared_has xid branch rs (change_has rs i)
  change_has (log.LocalCommitted number images ∷ rs) i = by (changed_in by_local (image_at images key) (changes rs key) this i) (change_has rs)
    where
      by : ((image : Image) × (image_at images key ≡ Some image) × (this ≡ by_local image)) ⊎ In this (changes rs key) → (In this (changes rs key) → HasCommit rs x b key) → HasCommit (log.LocalCommitted number images ∷ rs) x b key
      by (inl (image, found, is)) below = absurd (not_local x b before after image.after is)
      by (inr old) below = still_has (log.LocalCommitted number images) rs x b key (λ u j. j) (below old)
  change_has (log.Outside number images ∷ rs) i = by (changed_in by_outside (image_at images key) (changes rs key) this i) (change_has rs)
    where
      by : ((image : Image) × (image_at images key ≡ Some image) × (this ≡ by_outside image)) ⊎ In this (changes rs key) → (In this (changes rs key) → HasCommit rs x b key) → HasCommit (log.Outside number images ∷ rs) x b key
      by (inl (image, found, is)) below = absurd (not_outside x b before after image.after is)
      by (inr old) below = still_has (log.Outside number images) rs x b key (λ u j. j) (below old)
  change_has (log.Boot number ∷ rs) i = still_has (log.Boot number) rs x b key (λ u j. j) (change_has rs i)
  change_has (log.Marked xid branch ∷ rs) i = still_has (log.Marked xid branch) rs x b key (λ u j. j) (change_has rs i)
  change_has (log.Tried xid branch call images ∷ rs) i = still_has (log.Tried xid branch call images) rs x b key (λ u j. j) (change_has rs i)
  change_has (log.Confirmed xid branch images ∷ rs) i = still_has (log.Confirmed xid branch images) rs x b key (λ u j. j) (change_has rs i)
  change_has (log.Cancelled xid branch images ∷ rs) i = still_has (log.Cancelled xid branch images) rs x b key (λ u j. j) (change_has rs i)
  change_has (log.Suspended xid branch ∷ rs) i = still_has (log.Suspended xid branch) rs x b key (λ u j. j) (change_has rs i)
