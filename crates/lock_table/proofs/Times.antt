-- How often the branches hold a row: after one takes rows, after one gives its rows back, and at most.
use Rattle.std.proofs.Common.{◌≡◌, ℕ, ◌+◌, ◌*◌, ◌^◌, ◌<◌, ◌≤◌, ◌==◌, Bool, true, false, cond, List, [], ◌∷◌, ◌++◌, length, Some, None, Ordering, Less, Equal, Greater, refl, sym, ap, ◌∙◌, arith}
use Rattle.std.specs.Prelude.{unwrap_or}
use Rattle.std.specs.BTreeMap.{insert_entry}
use Rattle.std.specs.Cmp.{IsTotalOrder}
use Rattle.std.specs.List.{AllByRecursion}
use Rattle.std.specs.List.Sorted.{IsStrictlySortedBy}
use Rattle.std.specs.Map.{lookup, keys_of}
use Rattle.std.specs.Ordering.{match_ordering, is_eq}
use Rattle.std.proofs.lemmas.Cmp.{nat_cmp_total, on_total, then_total}
use Rattle.std.proofs.lemmas.Map.Entries.{lookup_at_gap}
use Rattle.seata_types.specs.declared.ids.Xid.{Xid}
use Rattle.seata_types.specs.declared.ids.Leg.{Leg}
use Rattle.seata_types.specs.declared.rows.RowKey.{RowKey}
use Rattle.local_tables.specs.Rows.{is_key}
use Rattle.lock_table.specs.Locks.{Holds, leg_cmp, is_leg, rows_of, with_rows, without_leg}
use Rattle.lock_table.specs.Counts.{count_key, times, AreShort}
use Rattle.lock_table.proofs.Puts.{suc_times}
use Rattle.lock_table.proofs.Changes.{same_leg_xid, equal_leg_xid}
use Rattle.lock_table.proofs.Own.{tail_sorted}

-- ---- numbers by a test

pub split : (b : Bool) (m n : ℕ) → cond b (m + n) 0 ≡ cond b m 0 + cond b n 0
split true m n = refl
split false m n = refl

pub at_most : (b : Bool) (n : ℕ) → cond b n 0 ≤ n
at_most true n = omega arith
at_most false n = omega arith

count_append : (a b : List RowKey) (r : RowKey) → count_key (a ++ b) r ≡ count_key a r + count_key b r
count_append [] b r = omega arith
count_append (k ∷ ks) b r = omega (arith, count_append ks b r)

-- ---- a branch takes rows

leg_total : IsTotalOrder leg_cmp
leg_total = then_total (on_total (λ (l : Leg). l.xid.0) nat_cmp_total) (on_total (λ (l : Leg). l.branch.0) nat_cmp_total)

-- a branch below the first one isn't there
none_above : (leg : Leg) (e : Leg × List RowKey) (es : Holds) → IsStrictlySortedBy leg_cmp (keys_of (e ∷ es)) → leg_cmp leg e.0 ≡ Less → lookup (is_leg leg) es ≡ None
none_above leg e es sorted less =
    sym (ap (λ (o : Ordering). cond (is_eq o) (Some e.1) (lookup (is_leg leg) es)) less) ∙
    lookup_at_gap leg_total leg (e ∷ es) 0 sorted (λ j f lt at. absurd (omega arith)) (λ f at. let same : e ≡ f = cc in ap (λ (g : Leg × List RowKey). leg_cmp leg g.0) (sym same) ∙ less)

module _ (leg : Leg) (ks : List RowKey) (x : Xid) (r : RowKey) where
  taken_at : (e : Leg × List RowKey) (es : Holds) (t : Ordering) → leg_cmp leg e.0 ≡ t → (t ≡ Less → lookup (is_leg leg) es ≡ None) →
      times (insert_entry leg_cmp es leg (rows_of es leg ++ ks)) x r ≡ times es x r + cond (leg.xid.0 == x.0) (count_key ks r) 0 →
      times (match_ordering t ((leg, unwrap_or (cond (is_eq t) (Some e.1) (lookup (is_leg leg) es)) [] ++ ks) ∷ e ∷ es) ((e.0, unwrap_or (cond (is_eq t) (Some e.1) (lookup (is_leg leg) es)) [] ++ ks) ∷ es) (e ∷ insert_entry leg_cmp es leg (unwrap_or (cond (is_eq t) (Some e.1) (lookup (is_leg leg) es)) [] ++ ks))) x r
      ≡ times (e ∷ es) x r + cond (leg.xid.0 == x.0) (count_key ks r) 0
  taken_at e es Less p none later = rw (none refl) (omega arith)
  taken_at e es Equal p none later =
      rw (count_append e.1 ks r, equal_leg_xid leg e.0 p) (omega (arith, split (e.0.xid.0 == x.0) (count_key e.1 r) (count_key ks r)))
  taken_at e es Greater p none later = omega (arith, later)

pub times_with : (hs : Holds) (leg : Leg) (ks : List RowKey) (x : Xid) (r : RowKey) → IsStrictlySortedBy leg_cmp (keys_of hs) → times (with_rows hs leg ks) x r ≡ times hs x r + cond (leg.xid.0 == x.0) (count_key ks r) 0
times_with [] leg ks x r sorted = omega arith
times_with (e ∷ es) leg ks x r sorted =
    taken_at leg ks x r e es (leg_cmp leg e.0) refl (λ less. none_above leg e es sorted less) (times_with es leg ks x r (tail_sorted e es sorted))

-- ---- a branch gives its rows back

given_at : (leg : Leg) (e : Leg × List RowKey) (es : Holds) (x : Xid) (r : RowKey) (b : Bool) → is_leg leg e.0 ≡ b →
    times (without_leg es leg) x r + cond (leg.xid.0 == x.0) (count_key (rows_of es leg) r) 0 ≡ times es x r →
    times (cond b es (e ∷ without_leg es leg)) x r + cond (leg.xid.0 == x.0) (count_key (unwrap_or (cond b (Some e.1) (lookup (is_leg leg) es)) []) r) 0 ≡ times (e ∷ es) x r
given_at leg e es x r true same later = rw (same_leg_xid leg e.0 same) (omega arith)
given_at leg e es x r false other later = omega (arith, later)

none_given : (b : Bool) → cond {A = ℕ} b 0 0 ≡ 0
none_given true = refl
none_given false = refl

pub times_without : (hs : Holds) (leg : Leg) (x : Xid) (r : RowKey) → times (without_leg hs leg) x r + cond (leg.xid.0 == x.0) (count_key (rows_of hs leg) r) 0 ≡ times hs x r
times_without [] leg x r = omega (arith, none_given (leg.xid.0 == x.0))
times_without (e ∷ es) leg x r = given_at leg e es x r (is_leg leg e.0) refl (times_without es leg x r)

-- ---- at most so often

count_most : (ks : List RowKey) (r : RowKey) → count_key ks r ≤ length ks
count_most [] r = omega arith
count_most (k ∷ ks) r = omega (arith, at_most (is_key k r) 1, count_most ks r)

most : (m : ℕ) (hs : Holds) (x : Xid) (r : RowKey) → AllByRecursion (λ (e : Leg × List RowKey). length e.1 < m) hs → times hs x r ≤ length hs * m
most m [] x r short = omega arith
most m (e ∷ es) x r short =
    omega (arith, at_most (e.0.xid.0 == x.0) (count_key e.1 r), count_most e.1 r, short.0, most m es x r short.1, suc_times (length es) m)

pub times_few : (hs : Holds) (x : Xid) (r : RowKey) → AreShort hs → length hs < 2 ^ 64 → times hs x r < 2 ^ 128
times_few hs x r short small =
    let bound : times hs x r ≤ length hs * 2 ^ 64 = most (2 ^ 64) hs x r short in
    omega (arith, bound, small)

-- ---- short lists stay short

short_at : (t : Ordering) (leg : Leg) (v : List RowKey) (e : Leg × List RowKey) (es rest : Holds) → length v < 2 ^ 64 → AreShort (e ∷ es) → AreShort rest → AreShort (match_ordering t ((leg, v) ∷ e ∷ es) ((e.0, v) ∷ es) (e ∷ rest))
short_at Less leg v e es rest small short later = (small, short)
short_at Equal leg v e es rest small short later = (small, short.1)
short_at Greater leg v e es rest small short later = (short.0, later)

pub short_with : (hs : Holds) (leg : Leg) (v : List RowKey) → length v < 2 ^ 64 → AreShort hs → AreShort (insert_entry leg_cmp hs leg v)
short_with [] leg v small short = (small, tt)
short_with (e ∷ es) leg v small short = short_at (leg_cmp leg e.0) leg v e es (insert_entry leg_cmp es leg v) small short (short_with es leg v small short.1)

short_by : (b : Bool) (e : Leg × List RowKey) (es rest : Holds) → AreShort (e ∷ es) → AreShort rest → AreShort (cond b es (e ∷ rest))
short_by true e es rest short later = short.1
short_by false e es rest short later = (short.0, later)

pub short_without : (hs : Holds) (leg : Leg) → AreShort hs → AreShort (without_leg hs leg)
short_without [] leg short = tt
short_without (e ∷ es) leg short = short_by (is_leg leg e.0) e es (without_leg es leg) short (short_without es leg short.1)
