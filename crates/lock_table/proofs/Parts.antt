-- What the parts of taking rows and of giving them back say together.
use Rattle.std.proofs.Common.{◌≡◌, ℕ, ◌+◌, ◌*◌, ◌^◌, ◌<◌, ◌≤◌, ◌==◌, Bool, cond, List, [], ◌++◌, length, Option, Some, None, sym, ap, ◌∙◌, arith}
use Rattle.std.specs.Prelude.{unwrap_or, option_map}
use Rattle.std.specs.List.Sorted.{IsStrictlySortedBy}
use Rattle.std.specs.Map.{keys_of}
use Rattle.std.proofs.lemmas.List.{length-map}
use Rattle.seata_types.specs.declared.ids.Xid.{Xid}
use Rattle.seata_types.specs.declared.ids.Leg.{Leg}
use Rattle.seata_types.specs.declared.rows.RowKey.{RowKey}
use Rattle.local_tables.specs.Lookups.{IsRising}
use Rattle.durable_records.specs.Locks.{has_key}
use Rattle.lock_table.specs.declared.holder.Holder.{Holder}
use Rattle.lock_table.specs.Locks.{Locks, Holds, leg_cmp, locked, locks, rows_at, rows_of, with_rows, without_leg, first_held}
use Rattle.lock_table.specs.Counts.{Index, locks_of, count_key, times, times_at, AreShort, IsIndex, AreFree}
use Rattle.lock_table.proofs.Puts.{xid_itself}
use Rattle.lock_table.proofs.Holders.{locked_is, rows_are}
use Rattle.lock_table.proofs.Changes.{free_at}
use Rattle.lock_table.proofs.Times.{times_with, times_without, times_few, short_with, short_without}
use Rattle.lock_table.proofs.Counted.{no_time}

-- ---- a branch takes rows

pub are_free : (rows : Index) (hs : Holds) (x : Xid) (ks keys : List RowKey) → IsIndex rows hs → keys ≡ ks → first_held hs x ks ≡ None → AreFree rows x keys
are_free rows hs x ks keys i same free r h has held =
    free_at (locks hs) x ks r free (ap (λ (q : List RowKey). has_key q r) (sym same) ∙ has) h.xid
    (ap (λ (ls : Locks). locked ls r) (sym (rows_are rows hs i)) ∙ locked_is rows r ∙ ap (option_map (λ (g : Holder). g.xid)) held)

module _ (old : Index) (hs after : Holds) (leg : Leg) (keys ks : List RowKey) (i : IsIndex old hs) (ordered : IsStrictlySortedBy leg_cmp (keys_of hs)) (same : keys ≡ ks) (made : after ≡ with_rows hs leg ks) where
  sum_is : (x : Xid) (q : RowKey) → times after x q ≡ times_at old x q + cond (leg.xid.0 == x.0) (count_key keys q) 0
  sum_is x q =
      ap (λ (l : Holds). times l x q) made ∙ times_with hs leg ks x q ordered ∙ ap (λ (n : ℕ). n + cond (leg.xid.0 == x.0) (count_key ks q) 0) (sym (i.agrees x q)) ∙
      ap (λ (rs : List RowKey). times_at old x q + cond (leg.xid.0 == x.0) (count_key rs q) 0) (sym same)

  short_after : length (rows_of hs leg ++ ks) < 2 ^ 64 → AreShort after
  short_after small = rw made (short_with hs leg (rows_of hs leg ++ ks) small i.short)

  pub few_after : length (rows_of hs leg ++ ks) < 2 ^ 64 → length after < 2 ^ 64 → (q : RowKey) → times_at old leg.xid q + count_key keys q < 2 ^ 128
  few_after small legs q =
      let sum = sum_is leg.xid q in
      let own : cond (leg.xid.0 == leg.xid.0) (count_key keys q) 0 ≡ count_key keys q = ap (λ (b : Bool). cond b (count_key keys q) 0) (xid_itself leg.xid) in
      omega (arith, sum, own, times_few after leg.xid q (short_after small) legs)

  pub took_rows : (new : Index) → length (rows_of hs leg ++ ks) < 2 ^ 64 → IsRising new → ((x : Xid) (q : RowKey) → times_at new x q ≡ times_at old x q + cond (leg.xid.0 == x.0) (count_key keys q) 0) → IsIndex new after
  took_rows new small rising there = record { order = rising; agrees = λ x q. there x q ∙ sym (sum_is x q); short = short_after small }

pub cost_of : (old new : ℕ) (rows : Index) (keys ks : List RowKey) (ls : Locks) → locks_of rows ≡ ls → keys ≡ ks → ((d : ℕ) → length rows + length keys < 2 ^ d → new ≤ old + length keys * d) →
    (d : ℕ) → length ls + length ks < 2 ^ d → new ≤ old + length ks * d
cost_of old new rows keys ks ls is same cost d small =
    let sizes : length rows ≡ length ls = sym (length-map rows (λ (e : RowKey × Holder). (e.0, e.1.xid))) ∙ ap length is in
    let lengths : length keys ≡ length ks = ap length same in
    let bound : new ≤ old + length keys * d = cost d (omega (arith, sizes, lengths, small)) in
    let product : length keys * d ≡ length ks * d = ap (λ (k : ℕ). k * d) lengths in
    omega (arith, bound, product)

-- ---- a branch gives its rows back

pub given_none : (rows : Index) (hs left : Holds) (leg : Leg) (keys : List RowKey) → IsIndex rows hs → left ≡ without_leg hs leg → rows_at hs leg ≡ Some keys →
    (y : Xid) (q : RowKey) → times_at rows y q ≡ times left y q + cond (leg.xid.0 == y.0) (count_key keys q) 0
given_none rows hs left leg keys i is had y q =
    let whole : rows_of hs leg ≡ keys = ap (λ (o : Option (List RowKey)). unwrap_or o []) had in
    i.agrees y q ∙ sym (times_without hs leg y q) ∙ ap (λ (l : Holds). times l y q + cond (leg.xid.0 == y.0) (count_key (rows_of hs leg) q) 0) (sym is) ∙
    ap (λ (ks : List RowKey). times left y q + cond (leg.xid.0 == y.0) (count_key ks q) 0) whole

pub given_all : (rows : Index) (hs left : Holds) (leg : Leg) (rest : List RowKey) → AreShort hs → left ≡ without_leg hs leg → IsRising rows → rest ≡ [] →
    ((y : Xid) (q : RowKey) → times_at rows y q ≡ times left y q + cond (leg.xid.0 == y.0) (count_key rest q) 0) → IsIndex rows left
given_all rows hs left leg rest short is rising none there = record {
  order = rising;
  agrees = λ y q. there y q ∙ ap (λ (ks : List RowKey). times left y q + cond (leg.xid.0 == y.0) (count_key ks q) 0) none ∙ sym (no_time (leg.xid.0 == y.0) (times left y q));
  short = rw is (short_without hs leg short);
}
