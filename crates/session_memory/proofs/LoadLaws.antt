-- Loading a snapshot takes the rows of its branches one after the other.
use Rattle.std.proofs.Common.{◌≡◌, ◌⊎◌, inl, inr, ◌==◌, ◌&&◌, ◌||◌, ◌<◌, ◌+◌, ℕ, zero, suc, length, drop, Bool, true, false, List, [], ◌∷◌, ◌++◌, Option, Some, None, Err, Greater, is_none, if◌then◌else◌, refl, sym, ap, subst, ◌∙◌, arith, append_assoc}
use Rattle.std.proofs.Math.ListN.{get_or}
use Rattle.std.specs.BTreeMap.{insert_entry}
use Rattle.seata_types.specs.declared.ids.Xid.{Xid}
use Rattle.seata_types.specs.declared.ids.Leg.{Leg}
use Rattle.seata_types.specs.declared.rows.RowKey.{RowKey}
use Rattle.local_tables.specs.Rows.{is_key}
use Rattle.local_tables.proofs.KeyLaws.{same_key}
use Rattle.local_tables.proofs.MapLaws.{is_key_itself}
use Rattle.durable_records.specs.declared.coordinators.SessionRecord.{SessionRecord}
use Rattle.durable_records.specs.declared.coordinators.SessionRecord.TheVariants as log
use Rattle.durable_records.specs.Locks.{has_key}
use Rattle.durable_records.specs.SessionOrder.{Allowed}
use Rattle.lock_table.specs.Locks.{Locks, Holds, HaveOneHolder, holds, locks, locked, leg_cmp, if_other, first_locked, first_held, with_rows}
use Rattle.lock_table.proofs.Puts.{same_xid, may_take, others_free}
use Rattle.lock_table.proofs.Changes.{holds_with}
use Rattle.lock_table.proofs.Holders.{holder_holds, nobody_holds}
use Rattle.session_log.specs.declared.sessions.Branch.{Branch}
use Rattle.session_log.specs.declared.sessions.SessionEntry.{SessionEntry}
use Rattle.session_log.specs.declared.sessions.Snapshot.{Snapshot}
use Rattle.session_log.specs.Soundness.{entry_xid}
use Rattle.session_log.specs.SnapshotOf.{snapshot_of}
use Rattle.session_log.proofs.SnapshotKeys.{tickets_differ}
use Rattle.session_memory.specs.Lookups.{status_in, leg_of, xid_for}
use Rattle.session_memory.specs.Holding.{keeps_rows, held_by_branches, held_by, held, held_in}
use Rattle.session_memory.specs.Changes.{is_begin, is_new, are_free, may_come, granted_branch, after}
use Rattle.session_memory.specs.Order.{Each, AreAbove, AreRising, branch_number, IsNumbered, IsCounted, IsKept}
use Rattle.session_memory.specs.Loading.{are_held_once, TellsHolders, LoadsSnapshot, taken, are_taken, TakesEach}
use Rattle.session_memory.specs.declared.errors.LoadError.{LoadError}
use Rattle.session_memory.specs.declared.errors.LoadError.TheVariants as errors
use Rattle.session_memory.specs.Laws.{MayLoad}
use Rattle.session_memory.proofs.Small.{false_true, none_some, and_left, and_right, and_both, same_nat, nat_same, differ}
use Rattle.session_memory.proofs.Lists.{each_same, each_both, and_assoc}
use Rattle.session_memory.proofs.EntryLaws.{Compare, others_compared, compared_both, found_none, put_behind}
use Rattle.session_memory.proofs.HeldLaws.{later_leg, entry_greater}
use Rattle.session_memory.proofs.KeptLaws.{kept_begun, kept_granted, kept_forgot, kept_turned}
use Rattle.session_memory.proofs.StepLaws.{snapshot_after}
use Rattle.session_memory.proofs.LookupLaws.{may_alike}
use Rattle.session_memory.proofs.HolderLaws.{held_apart}

-- ---- taking in two parts

both_taken : (old more rest : Holds) → are_taken old (more ++ rest) ≡ (are_taken old more && are_taken (taken old more) rest)
both_taken old [] rest = refl
both_taken old (e ∷ es) rest =
    ap (λ b. is_none (first_held old e.0.xid e.1) && b) (both_taken (with_rows old e.0 e.1) es rest)
    ∙ and_assoc (is_none (first_held old e.0.xid e.1)) (are_taken (with_rows old e.0 e.1) es) (are_taken (taken (with_rows old e.0 e.1) es) rest)

taken_both : (old more rest : Holds) → taken old (more ++ rest) ≡ taken (taken old more) rest
taken_both old [] rest = refl
taken_both old (e ∷ es) rest = taken_both (with_rows old e.0 e.1) es rest

module _ (old new more rest : Holds) where
  pub next_tests : are_taken old more ≡ true → new ≡ taken old more → are_taken new rest ≡ are_taken old (more ++ rest)
  next_tests free is = ap (λ (hs : Holds). are_taken hs rest) is ∙ sym (both_taken old more rest ∙ ap (λ b. b && are_taken (taken old more) rest) free)

  pub next_taken : new ≡ taken old more → taken new rest ≡ taken old (more ++ rest)
  next_taken is = ap (λ (hs : Holds). taken hs rest) is ∙ sym (taken_both old more rest)

  pub next_fails : are_taken old more ≡ false → are_taken old (more ++ rest) ≡ false
  next_fails held = both_taken old more rest ∙ ap (λ b. b && are_taken (taken old more) rest) held

pub branch_first : (x : Xid) (b : Branch) (bs : List Branch) → held_by_branches x (b ∷ bs) ≡ held_by_branches x (b ∷ []) ++ held_by_branches x bs
branch_first x b bs = by b.ended
  where
    by : (c : Bool) → (if c then held_by_branches x bs else ((leg_of x b, b.hold) ∷ held_by_branches x bs)) ≡ (if c then [] else ((leg_of x b, b.hold) ∷ [])) ++ held_by_branches x bs
    by true = refl
    by false = refl

-- the first of what is left
drop_first : {X : Type 0} (xs : List X) (i : ℕ) (x : X) → i < length xs → x ≡ get_or xs i x → drop i xs ≡ x ∷ drop (suc i) xs
drop_first [] i x lt e = absurd (omega (arith, lt))
drop_first (y ∷ ys) zero x lt e = ap (λ z. z ∷ ys) (sym e)
drop_first (y ∷ ys) (suc i) x lt e = drop_first ys i x (omega (arith, lt)) e

pub next_left : {X : Type 0} (xs : List X) (i j : ℕ) (x : X) → i < length xs → j ≡ suc i → x ≡ get_or xs i x → drop i xs ≡ x ∷ drop j xs
next_left xs i j x lt is e = drop_first xs i x lt e ∙ ap (λ k. x ∷ drop k xs) (sym is)

module _ (init old new : Holds) (all left rest : List SessionEntry) (e : SessionEntry) (is : left ≡ e ∷ rest) (tests : are_taken old (held left) ≡ are_taken init (held all)) where
  pub entry_tests : are_taken old (held_by e) ≡ true → new ≡ taken old (held_by e) → are_taken new (held rest) ≡ are_taken init (held all)
  entry_tests free took = next_tests old new (held_by e) (held rest) free took ∙ ap (λ (es : List SessionEntry). are_taken old (held es)) (sym is) ∙ tests

  pub entry_taken : new ≡ taken old (held_by e) → taken old (held left) ≡ taken init (held all) → taken new (held rest) ≡ taken init (held all)
  entry_taken took takes = next_taken old new (held_by e) (held rest) took ∙ ap (λ (es : List SessionEntry). taken old (held es)) (sym is) ∙ takes

  pub entry_fails : (why : LoadError) → TakesEach old (held_by e) (Err why) new → TakesEach init (held all) (Err why) new
  entry_fails errors.Damaged fails = sym tests ∙ ap (λ (es : List SessionEntry). are_taken old (held es)) is ∙ next_fails old new (held_by e) (held rest) fails
  entry_fails errors.NoMemory fails = tt

-- ---- one branch more

or_either : (a b : Bool) → (a || b) ≡ true → (a ≡ true) ⊎ (b ≡ true)
or_either true b e = inl refl
or_either false b e = inr e

or_left : (a b : Bool) → a ≡ true → (a || b) ≡ true
or_left true b e = refl
or_left false b e = false_true e

or_right : (a b : Bool) → b ≡ true → (a || b) ≡ true
or_right true b e = refl
or_right false b e = e

or_swap : (a b : Bool) → (a || b) ≡ (b || a)
or_swap true true = refl
or_swap true false = refl
or_swap false true = refl
or_swap false false = refl

-- a row that another transaction holds
pub record Conflict (ls : Locks) (x : Xid) (keys : List RowKey) : Type 0 where
  pub key : RowKey
  pub by : Xid
  pub member : has_key keys key ≡ true
  pub locked_by : locked ls key ≡ Some by
  pub other : (by.0 == x.0) ≡ false

module _ (ls : Locks) (x : Xid) where
  later_conflict : (k : RowKey) (ks : List RowKey) → Conflict ls x ks → Conflict ls x (k ∷ ks)
  later_conflict k ks c = record { key = c.key; by = c.by; member = or_right (is_key k c.key) (has_key ks c.key) c.member; locked_by = c.locked_by; other = c.other }

  conflict_at : (k : RowKey) (ks : List RowKey) (y : Xid) (b : Bool) (found : RowKey × Xid) → (y.0 == x.0) ≡ b → locked ls k ≡ Some y → (if b then first_locked ls x ks else Some (k, y)) ≡ Some found →
      (first_locked ls x ks ≡ Some found → Conflict ls x ks) → Conflict ls x (k ∷ ks)
  conflict_at k ks y true found is at e below = later_conflict k ks (below e)
  conflict_at k ks y false found is at e below = record { key = k; by = y; member = or_left (is_key k k) (has_key ks k) (is_key_itself k); locked_by = at; other = is }

  conflict_by : (k : RowKey) (ks : List RowKey) (o : Option Xid) (found : RowKey × Xid) → locked ls k ≡ o → if_other k x o (first_locked ls x ks) ≡ Some found →
      (first_locked ls x ks ≡ Some found → Conflict ls x ks) → Conflict ls x (k ∷ ks)
  conflict_by k ks None found at e below = later_conflict k ks (below e)
  conflict_by k ks (Some y) found at e below = conflict_at k ks y (y.0 == x.0) found refl at e below

  conflict : (ks : List RowKey) (found : RowKey × Xid) → first_locked ls x ks ≡ Some found → Conflict ls x ks
  conflict [] found e = none_some e
  conflict (k ∷ ks) found e = conflict_by k ks (locked ls k) found refl e (conflict ks found)

  free_by : (k : RowKey) (ks : List RowKey) (r : RowKey) (z : Xid) → first_locked ls x (k ∷ ks) ≡ None → locked ls r ≡ Some z → (is_key k r ≡ true) ⊎ (has_key ks r ≡ true) → (has_key ks r ≡ true → z ≡ x) → z ≡ x
  free_by k ks r z free is (inl same) below = may_take ls x k ks free z (ap (λ (q : RowKey). locked ls q) (same_key k r same) ∙ is)
  free_by k ks r z free is (inr rest) below = below rest

  free_at : (ks : List RowKey) (r : RowKey) (z : Xid) → first_locked ls x ks ≡ None → has_key ks r ≡ true → locked ls r ≡ Some z → z ≡ x
  free_at [] r z free has is = false_true has
  free_at (k ∷ ks) r z free has is = free_by k ks r z free is (or_either (is_key k r) (has_key ks r) has) (λ rest. free_at ks r z (others_free ls x k ks free) rest is)

-- the branch of x with these rows beside others
module _ (old new : Holds) (x : Xid) (ks : List RowKey) (both : (y : Xid) (r : RowKey) → holds new y r ≡ (holds old y r || ((x.0 == y.0) && has_key ks r))) where
  pub fewer_once : HaveOneHolder new → HaveOneHolder old
  fewer_once once y z r hy hz =
      once y z r (both y r ∙ or_left (holds old y r) ((x.0 == y.0) && has_key ks r) hy) (both z r ∙ or_left (holds old z r) ((x.0 == z.0) && has_key ks r) hz)

  holder_by : HaveOneHolder old → first_held old x ks ≡ None → (y : Xid) (r : RowKey) → has_key ks r ≡ true → holds old y r ≡ true → (o : Option Xid) → locked (locks old) r ≡ o → y ≡ x
  holder_by once free y r has h None is = false_true (sym (nobody_holds old r is y) ∙ h)
  holder_by once free y r has h (Some z) is = once y z r h (holder_holds old z r is) ∙ free_at (locks old) x ks r z free has is

  holder_is_x : HaveOneHolder old → first_held old x ks ≡ None → (y : Xid) (r : RowKey) → has_key ks r ≡ true → holds old y r ≡ true → y ≡ x
  holder_is_x once free y r has h = holder_by once free y r has h (locked (locks old) r) refl

  new_is_x : (y : Xid) (r : RowKey) → ((x.0 == y.0) && has_key ks r) ≡ true → y ≡ x
  new_is_x y r h = sym (same_xid x y (same_nat x.0 y.0 (and_left (x.0 == y.0) (has_key ks r) h)))

  one_by : HaveOneHolder old → first_held old x ks ≡ None → (y z : Xid) (r : RowKey) → (holds old y r ≡ true) ⊎ (((x.0 == y.0) && has_key ks r) ≡ true) → (holds old z r ≡ true) ⊎ (((x.0 == z.0) && has_key ks r) ≡ true) → y ≡ z
  one_by once free y z r (inl hy) (inl hz) = once y z r hy hz
  one_by once free y z r (inl hy) (inr hz) = holder_is_x once free y r (and_right (x.0 == z.0) (has_key ks r) hz) hy ∙ sym (new_is_x z r hz)
  one_by once free y z r (inr hy) (inl hz) = new_is_x y r hy ∙ sym (holder_is_x once free z r (and_right (x.0 == y.0) (has_key ks r) hy) hz)
  one_by once free y z r (inr hy) (inr hz) = new_is_x y r hy ∙ sym (new_is_x z r hz)

  pub more_once : HaveOneHolder old → first_held old x ks ≡ None → HaveOneHolder new
  more_once once free y z r hy hz =
      one_by once free y z r (or_either (holds old y r) ((x.0 == y.0) && has_key ks r) (sym (both y r) ∙ hy)) (or_either (holds old z r) ((x.0 == z.0) && has_key ks r) (sym (both z r) ∙ hz))

  pub not_once : (found : RowKey × Xid) → first_held old x ks ≡ Some found → HaveOneHolder new → ⊥
  not_once found e once =
      let c = conflict (locks old) x ks found e in
      let theirs = both c.by c.key ∙ or_left (holds old c.by c.key) ((x.0 == c.by.0) && has_key ks c.key) (holder_holds old c.by c.key c.locked_by) in
      let ours = both x c.key ∙ or_right (holds old x c.key) ((x.0 == x.0) && has_key ks c.key) (and_both (x.0 == x.0) (has_key ks c.key) (nat_same x.0 x.0 refl) c.member) in
      differ c.by.0 x.0 c.other (ap (λ (y : Xid). y.0) (once c.by x c.key theirs ours))

-- ---- branches one by one

once_taken_by : (old : Holds) (e : Leg × List RowKey) (es : Holds) (o : Option (RowKey × Xid)) → first_held old e.0.xid e.1 ≡ o → HaveOneHolder old → (is_none o && are_taken (with_rows old e.0 e.1) es) ≡ true →
    (HaveOneHolder (with_rows old e.0 e.1) → are_taken (with_rows old e.0 e.1) es ≡ true → HaveOneHolder (taken (with_rows old e.0 e.1) es)) → HaveOneHolder (taken (with_rows old e.0 e.1) es)
once_taken_by old e es None free once t below = below (more_once old (with_rows old e.0 e.1) e.0.xid e.1 (λ y r. holds_with old e.0 e.1 y r) once free) t
once_taken_by old e es (Some found) held once t below = false_true t

once_taken : (more old : Holds) → HaveOneHolder old → are_taken old more ≡ true → HaveOneHolder (taken old more)
once_taken [] old once t = once
once_taken (e ∷ es) old once t = once_taken_by old e es (first_held old e.0.xid e.1) refl once t (once_taken es (with_rows old e.0 e.1))

once_before : (more old : Holds) → HaveOneHolder (taken old more) → HaveOneHolder old
once_before [] old once = once
once_before (e ∷ es) old once = fewer_once old (with_rows old e.0 e.1) e.0.xid e.1 (λ y r. holds_with old e.0 e.1 y r) (once_before es (with_rows old e.0 e.1) once)

not_taken_by : (old : Holds) (e : Leg × List RowKey) (es : Holds) (o : Option (RowKey × Xid)) → first_held old e.0.xid e.1 ≡ o → (is_none o && are_taken (with_rows old e.0 e.1) es) ≡ false →
    (are_taken (with_rows old e.0 e.1) es ≡ false → HaveOneHolder (taken (with_rows old e.0 e.1) es) → ⊥) → HaveOneHolder (taken (with_rows old e.0 e.1) es) → ⊥
not_taken_by old e es None free t below once = below t once
not_taken_by old e es (Some found) held t below once =
    not_once old (with_rows old e.0 e.1) e.0.xid e.1 (λ y r. holds_with old e.0 e.1 y r) found held (once_before es (with_rows old e.0 e.1) once)

not_taken : (more old : Holds) → are_taken old more ≡ false → HaveOneHolder (taken old more) → ⊥
not_taken [] old t once = false_true (sym t)
not_taken (e ∷ es) old t once = not_taken_by old e es (first_held old e.0.xid e.1) refl t (not_taken es (with_rows old e.0 e.1)) once

-- ---- the test of all branches

with_first : (e : Leg × List RowKey) (es : Holds) (y : Xid) (r : RowKey) → holds (e ∷ es) y r ≡ (holds es y r || ((e.0.xid.0 == y.0) && has_key e.1 r))
with_first e es y r = or_swap ((e.0.xid.0 == y.0) && has_key e.1 r) (holds es y r)

once_by : (e : Leg × List RowKey) (es : Holds) (o : Option (RowKey × Xid)) → first_held es e.0.xid e.1 ≡ o → (is_none o && are_held_once es) ≡ true → (are_held_once es ≡ true → HaveOneHolder es) → HaveOneHolder (e ∷ es)
once_by e es None free t below = more_once es (e ∷ es) e.0.xid e.1 (with_first e es) (below t) free
once_by e es (Some found) held t below = false_true t

once_told : (hs : Holds) → are_held_once hs ≡ true → HaveOneHolder hs
once_told [] t = λ x y r hx hy. false_true hx
once_told (e ∷ es) t = once_by e es (first_held es e.0.xid e.1) refl t (once_told es)

passes_by : (e : Leg × List RowKey) (es : Holds) (o : Option (RowKey × Xid)) → first_held es e.0.xid e.1 ≡ o → HaveOneHolder (e ∷ es) → is_none o ≡ true
passes_by e es None free once = refl
passes_by e es (Some found) held once = absurd (not_once es (e ∷ es) e.0.xid e.1 (with_first e es) found held once)

passes : (hs : Holds) → HaveOneHolder hs → are_held_once hs ≡ true
passes [] once = refl
passes (e ∷ es) once =
    and_both (is_none (first_held es e.0.xid e.1)) (are_held_once es) (passes_by e es (first_held es e.0.xid e.1) refl once)
    (passes es (fewer_once es (e ∷ es) e.0.xid e.1 (with_first e es) once))

pub holders_told : (hs : Holds) → TellsHolders hs
holders_told hs = record { once = once_told hs; passes = passes hs }

-- ---- branches in order are taken one behind the other

-- each of these is behind those before it
abbrev pub AreInOrder : Holds → Type 0
AreInOrder [] = Unit {0}
AreInOrder (e ∷ es) = Each (λ (f : Leg × List RowKey). leg_cmp f.0 e.0 ≡ Greater) es × AreInOrder es

abbrev pub AreBehind : Holds → Holds → Type 0
AreBehind old more = Each (λ (f : Leg × List RowKey). Compare Greater f.0 old) more

put_last : (old : Holds) (e : Leg × List RowKey) → Compare Greater e.0 old → with_rows old e.0 e.1 ≡ old ++ e ∷ []
put_last old e behind =
    rw (found_none e.0 old (others_compared e.0 Greater refl old behind))
    (ap (λ (hs : Holds). insert_entry leg_cmp hs e.0 e.1) (sym (no_more old)) ∙ put_behind e.0 e.1 old [] behind)
  where
    no_more : (hs : Holds) → hs ++ [] ≡ hs
    no_more [] = refl
    no_more (h ∷ hs) = ap (λ (r : Holds). h ∷ r) (no_more hs)

taken_behind : (more old : Holds) → AreBehind old more → AreInOrder more → taken old more ≡ old ++ more
taken_behind [] old behind order = sym (no_more old)
  where
    no_more : (hs : Holds) → hs ++ [] ≡ hs
    no_more [] = refl
    no_more (h ∷ hs) = ap (λ (r : Holds). h ∷ r) (no_more hs)
taken_behind (e ∷ es) old behind order =
    ap (λ (hs : Holds). taken hs es) (put_last old e behind.0)
    ∙ taken_behind es (old ++ e ∷ []) (both_behind es behind.1 order.0) order.1
    ∙ append_assoc old (e ∷ []) es
  where
    both_behind : (fs : Holds) → AreBehind old fs → Each (λ (f : Leg × List RowKey). leg_cmp f.0 e.0 ≡ Greater) fs → AreBehind (old ++ e ∷ []) fs
    both_behind [] b g = tt
    both_behind (f ∷ fs) b g = (compared_both f.0 Greater old (e ∷ []) b.0 (g.0, tt), both_behind fs b.1 g.1)

order_both : (xs ys : Holds) → AreInOrder xs → AreInOrder ys → AreBehind xs ys → AreInOrder (xs ++ ys)
order_both [] ys first second behind = second
order_both (x ∷ xs) ys first second behind = (
  each_both (λ (f : Leg × List RowKey). leg_cmp f.0 x.0 ≡ Greater) xs ys first.0
      (each_same (λ (f : Leg × List RowKey). Compare Greater f.0 (x ∷ xs)) (λ f. leg_cmp f.0 x.0 ≡ Greater) (λ f b. b.0) ys behind),
  order_both xs ys first.1 second (each_same (λ (f : Leg × List RowKey). Compare Greater f.0 (x ∷ xs)) (λ f. Compare Greater f.0 xs) (λ f b. b.1) ys behind),
)

module _ (x : Xid) where
  branches_each_by : (P : Leg × List RowKey → Type 0) (b : Branch) (bs : List Branch) (c : Bool) → P (leg_of x b, b.hold) → Each P (held_by_branches x bs) →
      Each P (if c then held_by_branches x bs else ((leg_of x b, b.hold) ∷ held_by_branches x bs))
  branches_each_by P b bs true here below = below
  branches_each_by P b bs false here below = (here, below)

  branches_above : (n : ℕ) → n < x.0 → (bs : List Branch) → Each (λ (h : Leg × List RowKey). n < h.0.xid.0) (held_by_branches x bs)
  branches_above n lt [] = tt
  branches_above n lt (b ∷ bs) = branches_each_by (λ h. n < h.0.xid.0) b bs b.ended lt (branches_above n lt bs)

  branches_later : (b : Branch) (bs : List Branch) → AreAbove branch_number b.id.0 bs → Each (λ (h : Leg × List RowKey). leg_cmp h.0 (leg_of x b) ≡ Greater) (held_by_branches x bs)
  branches_later b [] above = tt
  branches_later b (c ∷ cs) above =
      branches_each_by (λ h. leg_cmp h.0 (leg_of x b) ≡ Greater) c cs c.ended (later_leg (leg_of x c) x b refl above.0) (branches_later b cs above.1)

  branches_order_by : (b : Branch) (bs : List Branch) (c : Bool) → Each (λ (h : Leg × List RowKey). leg_cmp h.0 (leg_of x b) ≡ Greater) (held_by_branches x bs) → AreInOrder (held_by_branches x bs) →
      AreInOrder (if c then held_by_branches x bs else ((leg_of x b, b.hold) ∷ held_by_branches x bs))
  branches_order_by b bs true later below = below
  branches_order_by b bs false later below = (later, below)

  branches_order : (bs : List Branch) → AreRising branch_number bs → AreInOrder (held_by_branches x bs)
  branches_order [] rising = tt
  branches_order (b ∷ bs) rising = branches_order_by b bs b.ended (branches_later b bs rising.0) (branches_order bs rising.1)

entry_each_by : (P : Leg × List RowKey → Type 0) (c : Bool) (hs : Holds) → Each P hs → Each P (if c then hs else [])
entry_each_by P true hs each = each
entry_each_by P false hs each = tt

held_above : (n : ℕ) (es : List SessionEntry) → AreAbove entry_xid n es → Each (λ (h : Leg × List RowKey). n < h.0.xid.0) (held es)
held_above n [] above = tt
held_above n (e ∷ es) above =
    each_both (λ (h : Leg × List RowKey). n < h.0.xid.0) (held_by e) (held es)
    (entry_each_by (λ h. n < h.0.xid.0) (keeps_rows e.session.status) (held_by_branches e.xid e.session.branches) (branches_above e.xid n above.0 e.session.branches))
    (held_above n es above.1)

entry_order_by : (c : Bool) (hs : Holds) → AreInOrder hs → AreInOrder (if c then hs else [])
entry_order_by true hs order = order
entry_order_by false hs order = tt

held_order : (begun granted : ℕ) (es : List SessionEntry) → AreRising entry_xid es → Each (IsNumbered begun granted) es → AreInOrder (held es)
held_order begun granted [] rising each = tt
held_order begun granted (e ∷ es) rising each =
    order_both (held_by e) (held es) (entry_order_by (keeps_rows e.session.status) (held_by_branches e.xid e.session.branches) (branches_order e.xid e.session.branches each.0.rising))
    (held_order begun granted es rising.1 each.1)
    (each_same (λ (h : Leg × List RowKey). e.xid.0 < h.0.xid.0) (λ h. Compare Greater h.0 (held_by e)) (λ h lt. entry_greater h.0 e lt) (held es) (held_above e.xid.0 es rising.0))

all_behind_none : (hs : Holds) → AreBehind [] hs
all_behind_none [] = tt
all_behind_none (h ∷ hs) = (tt, all_behind_none hs)

pub all_taken : (s : Snapshot) → IsCounted s → taken [] (held_in s) ≡ held_in s
all_taken s c = taken_behind (held_in s) [] (all_behind_none (held_in s)) (held_order s.begun s.granted s.sessions c.rising c.each)

-- ---- what loading answers

module _ (s : Snapshot) (c : IsCounted s) where
  pub loaded_once : are_taken [] (held_in s) ≡ true → are_held_once (held_in s) ≡ true
  loaded_once t =
      passes (held_in s) (subst HaveOneHolder (all_taken s c) (once_taken (held_in s) [] (λ x y r hx hy. false_true hx) t))

  refused_by : (b : Bool) → are_held_once (held_in s) ≡ b → are_taken [] (held_in s) ≡ false → are_held_once (held_in s) ≡ false
  refused_by true is t = absurd (not_taken (held_in s) [] t (subst HaveOneHolder (sym (all_taken s c)) (once_told (held_in s) is)))
  refused_by false is t = is

  pub refused_held : are_taken [] (held_in s) ≡ false → are_held_once (held_in s) ≡ false
  refused_held t = refused_by (are_held_once (held_in s)) refl t

module _ (s : Snapshot) (c : IsCounted s) (none new : Holds) (es : List SessionEntry) (empty : none ≡ []) (is : es ≡ s.sessions) where
  taken_is : taken none (held es) ≡ held_in s
  taken_is = ap (λ (hs : Holds). taken hs (held es)) empty ∙ ap (λ (ds : List SessionEntry). taken [] (held ds)) is ∙ all_taken s c

  tests_are : are_taken none (held es) ≡ are_taken [] (held_in s)
  tests_are = ap (λ (hs : Holds). are_taken hs (held es)) empty ∙ ap (λ (ds : List SessionEntry). are_taken [] (held ds)) is

  pub loads_kept : new ≡ taken none (held es) → IsKept s new
  loads_kept took = record { counted = c; locks = took ∙ taken_is }

  pub loads_once : are_taken none (held es) ≡ true → are_held_once (held_in s) ≡ true
  loads_once free = loaded_once s c (sym tests_are ∙ free)

  pub loads_not : (why : LoadError) → TakesEach none (held es) (Err why) new → LoadsSnapshot s (Err why)
  loads_not errors.Damaged fails = refused_held s c (sym tests_are ∙ fails)
  loads_not errors.NoMemory fails = tt

-- ---- the snapshot of records

pub counted_after : (s : Snapshot) (r : SessionRecord) → IsCounted s → may_come s r ≡ true → IsCounted (after r s)
counted_after s (log.Begun xid manager begun timeout) c may =
    (kept_begun s (held_in s) xid manager begun timeout (record { counted = c; locks = refl }) (same_nat xid.0 (s.begun + 1) (and_left (xid.0 == s.begun + 1) (is_none (xid_for s manager)) may))).counted
counted_after s (log.Granted xid branch resource call ticket kind hold) c may =
    let rest = and_right (is_begin (status_in s xid.0)) ((branch.0 == s.granted + 1) && (is_new s xid resource call ticket kind && are_free s xid hold)) may in
    (kept_granted s (held_in s) xid (granted_branch branch resource call ticket kind hold) (record { counted = c; locks = refl })
    (and_left (is_begin (status_in s xid.0)) ((branch.0 == s.granted + 1) && (is_new s xid resource call ticket kind && are_free s xid hold)) may) refl
    (same_nat branch.0 (s.granted + 1) (and_left (branch.0 == s.granted + 1) (is_new s xid resource call ticket kind && are_free s xid hold) rest))).counted
counted_after s (log.Decided xid d) c may = (kept_turned (log.Decided xid d) s (held_in s) (record { counted = c; locks = refl }) refl may).counted
counted_after s (log.Retrying xid) c may = (kept_turned (log.Retrying xid) s (held_in s) (record { counted = c; locks = refl }) refl may).counted
counted_after s (log.Ended xid branch) c may = (kept_turned (log.Ended xid branch) s (held_in s) (record { counted = c; locks = refl }) refl may).counted
counted_after s (log.Failed xid branch stmt) c may = (kept_turned (log.Failed xid branch stmt) s (held_in s) (record { counted = c; locks = refl }) refl may).counted
counted_after s (log.Finished xid) c may = (kept_turned (log.Finished xid) s (held_in s) (record { counted = c; locks = refl }) refl may).counted
counted_after s (log.Forgot xid) c may = (kept_forgot s (held_in s) xid (record { counted = c; locks = refl })).counted

pub counted_of : (rs : List SessionRecord) → Allowed rs → IsCounted (snapshot_of rs)
counted_of [] a = record { begun = omega arith; granted = omega arith; each = tt; rising = tt }
counted_of (r ∷ rs) a =
    subst IsCounted (sym (snapshot_after rs a.0 r a.1)) (counted_after (snapshot_of rs) r (counted_of rs a.0) (may_alike rs a.0 r ∙ a.1))

pub loads_allowed : (rs : List SessionRecord) → Allowed rs → MayLoad rs
loads_allowed rs a = record { counted = counted_of rs a; tickets = tickets_differ rs a; once = passes (held_in (snapshot_of rs)) (held_apart rs a) }
