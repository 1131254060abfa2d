-- How often each transaction holds a row, after one is put once more and after one is given back once.
use Rattle.std.proofs.Common.{◌≡◌, ℕ, suc, ◌+◌, ◌-◌, ◌^◌, ◌<◌, ◌==◌, Bool, true, false, cond, ◌||◌, List, ◌∷◌, Option, Some, None, refl, sym, ap, subst, ◌∙◌, arith}
use Rattle.std.proofs.lemmas.Bool.{eqb-true}
use Rattle.std.proofs.lemmas.Bool.Decides.{nat_tests}
use Rattle.seata_types.specs.declared.ids.Xid.{Xid}
use Rattle.seata_types.specs.declared.rows.RowKey.{RowKey}
use Rattle.local_tables.specs.Rows.{is_key}
use Rattle.local_tables.proofs.KeyLaws.{same_key}
use Rattle.local_tables.proofs.MapLaws.{is_key_itself}
use Rattle.durable_records.specs.Locks.{has_key}
use Rattle.lock_table.specs.declared.holder.Holder.{Holder}
use Rattle.lock_table.specs.Locks.{Holds}
use Rattle.lock_table.specs.Counts.{Index, held_at, once, count_key, times, times_by, times_at, AreFree, once_more, once_less}
use Rattle.lock_table.proofs.Puts.{same_xid, xid_itself}
use Rattle.lock_table.proofs.Times.{split, at_most}

-- ---- one row

first_time : (b : Bool) → cond b 1 0 ≡ 0 + cond b 1 0
first_time true = refl
first_time false = refl

another_time : (b : Bool) (m : ℕ) → cond b (suc (m + 1)) 0 ≡ cond b (suc m) 0 + cond b 1 0
another_time true m = omega arith
another_time false m = omega arith

pub no_time : (b : Bool) (n : ℕ) → n ≡ n + cond b 0 0
no_time true n = omega arith
no_time false n = omega arith

more_by : (x y : Xid) (b : Bool) (o p : Option Holder) → (b ≡ true → o ≡ p) → ((h : Holder) → p ≡ Some h → h.xid ≡ x) → times_by (cond b (Some (once_more x p)) o) y ≡ times_by o y + cond (x.0 == y.0) (once b) 0
more_by x y true o None same free = rw (same refl) (first_time (x.0 == y.0))
more_by x y true o (Some h) same free = rw (same refl, free h refl) (another_time (x.0 == y.0) h.more)
more_by x y false o p same free = no_time (x.0 == y.0) (times_by o y)

owned : (b : Bool) (n : ℕ) → 0 < cond b n 0 → b ≡ true
owned true n some = refl
owned false n some = absurd (omega (arith, some))

own : (h : Holder) (x : Xid) → 0 < times_by (Some h) x → h.xid ≡ x
own h x some = same_xid h.xid x (eqb-true h.xid.0 x.0 (owned (h.xid.0 == x.0) (suc h.more) some))

last_time : (b : Bool) → 0 + cond b 1 0 ≡ cond b 1 0
last_time true = refl
last_time false = refl

less_time : (b : Bool) (m : ℕ) → 0 < m → cond b (suc (m - 1)) 0 + cond b 1 0 ≡ cond b (suc m) 0
less_time true m some = omega (arith, some)
less_time false m some = omega arith

left_by : (x y : Xid) (m : ℕ) (z : Bool) → (m == 0) ≡ z → times_by (cond z None (Some (record { xid = x; more = m - 1 }))) y + cond (x.0 == y.0) 1 0 ≡ cond (x.0 == y.0) (suc m) 0
left_by x y m true is = let none : m ≡ 0 = eqb-true m 0 is in rw none (last_time (x.0 == y.0))
left_by x y m false is = let some : 0 < m = grind (arith, nat_tests) in less_time (x.0 == y.0) m some

less_by : (x y : Xid) (b : Bool) (o p : Option Holder) → (b ≡ true → o ≡ p) → 0 < times_by p x → times_by (cond b (once_less p) o) y + cond (x.0 == y.0) (once b) 0 ≡ times_by o y
less_by x y true o None same some = absurd (omega (arith, some))
less_by x y true o (Some h) same some = rw (same refl, own h x some) (left_by x y h.more (h.more == 0) refl)
less_by x y false o p same some = sym (no_time (x.0 == y.0) (times_by o y))

same_at : (rows : Index) (k q : RowKey) → is_key k q ≡ true → held_at rows q ≡ held_at rows k
same_at rows k q same = ap (λ (r : RowKey). held_at rows r) (sym (same_key k q same))

put_times : (old new : Index) (x : Xid) (k : RowKey) → ((q : RowKey) → held_at new q ≡ cond (is_key k q) (Some (once_more x (held_at old k))) (held_at old q)) → ((h : Holder) → held_at old k ≡ Some h → h.xid ≡ x) →
    (y : Xid) (q : RowKey) → times_at new y q ≡ times_at old y q + cond (x.0 == y.0) (once (is_key k q)) 0
put_times old new x k there free y q =
    ap (λ (o : Option Holder). times_by o y) (there q) ∙ more_by x y (is_key k q) (held_at old q) (held_at old k) (same_at old k q) free

give_times : (old new : Index) (x : Xid) (k : RowKey) → ((q : RowKey) → held_at new q ≡ cond (is_key k q) (once_less (held_at old k)) (held_at old q)) → 0 < times_at old x k →
    (y : Xid) (q : RowKey) → times_at new y q + cond (x.0 == y.0) (once (is_key k q)) 0 ≡ times_at old y q
give_times old new x k there some y q =
    ap (λ (o : Option Holder). times_by o y + cond (x.0 == y.0) (once (is_key k q)) 0) (there q) ∙ less_by x y (is_key k q) (held_at old q) (held_at old k) (same_at old k q) some

-- ---- one turn of a loop that puts rows

more_xid : (x : Xid) (p : Option Holder) → ((h : Holder) → p ≡ Some h → h.xid ≡ x) → (once_more x p).xid ≡ x
more_xid x None free = refl
more_xid x (Some h) free = free h refl

first_has : (k : RowKey) (ks : List RowKey) → has_key (k ∷ ks) k ≡ true
first_has k ks = ap (λ (b : Bool). b || has_key ks k) (is_key_itself k)

or_true : (a : Bool) → (a || true) ≡ true
or_true true = refl
or_true false = refl

later_has : (k r : RowKey) (ks : List RowKey) → has_key ks r ≡ true → has_key (k ∷ ks) r ≡ true
later_has k r ks has = ap (λ (b : Bool). is_key k r || b) has ∙ or_true (is_key k r)

module _ (old new : Index) (x : Xid) (k : RowKey) (rest : List RowKey) (there : (q : RowKey) → held_at new q ≡ cond (is_key k q) (Some (once_more x (held_at old k))) (held_at old q)) (free : AreFree old x (k ∷ rest)) where
  own_first : (h : Holder) → held_at old k ≡ Some h → h.xid ≡ x
  own_first h held = free k h (first_has k rest) held

  free_by : (r : RowKey) (h : Holder) (b : Bool) → is_key k r ≡ b → has_key rest r ≡ true → cond b (Some (once_more x (held_at old k))) (held_at old r) ≡ Some h → h.xid ≡ x
  free_by r h true same has held =
      let is : once_more x (held_at old k) ≡ h = cc in
      ap (λ (g : Holder). g.xid) (sym is) ∙ more_xid x (held_at old k) own_first
  free_by r h false other has held = free r h (later_has k r rest has) held

  free_next : AreFree new x rest
  free_next r h has held = free_by r h (is_key k r) refl has (sym (there r) ∙ held)

pub next_free : (old new : Index) (x : Xid) (k : RowKey) (all rest : List RowKey) → all ≡ k ∷ rest → ((q : RowKey) → held_at new q ≡ cond (is_key k q) (Some (once_more x (held_at old k))) (held_at old q)) → AreFree old x all → AreFree new x rest
next_free old new x k all rest is there free = free_next old new x k rest there (subst (λ (ks : List RowKey). AreFree old x ks) is free)

pub next_times : (old new : Index) (x : Xid) (k : RowKey) (all rest : List RowKey) {first : Xid → RowKey → ℕ} → all ≡ k ∷ rest → ((q : RowKey) → held_at new q ≡ cond (is_key k q) (Some (once_more x (held_at old k))) (held_at old q)) → AreFree old x all →
    ((y : Xid) (q : RowKey) → times_at old y q + cond (x.0 == y.0) (count_key all q) 0 ≡ first y q) → (y : Xid) (q : RowKey) → times_at new y q + cond (x.0 == y.0) (count_key rest q) 0 ≡ first y q
next_times old new x k all rest is there free so_far y q =
    let step = put_times old new x k there (own_first old new x k rest there (subst (λ (ks : List RowKey). AreFree old x ks) is free)) y q in
    let whole : cond (x.0 == y.0) (count_key all q) 0 ≡ cond (x.0 == y.0) (once (is_key k q) + count_key rest q) 0 = ap (λ (ks : List RowKey). cond (x.0 == y.0) (count_key ks q) 0) is in
    omega (arith, step, whole, split (x.0 == y.0) (once (is_key k q)) (count_key rest q), so_far y q)

own_times : (h : Holder) (x : Xid) → h.xid ≡ x → times_by (Some h) x ≡ suc h.more
own_times h x is = rw is (ap (λ (b : Bool). cond b (suc h.more) 0) (xid_itself x))

-- one more fits
pub fits : (rows first : Index) (x : Xid) (k : RowKey) (left rest all : List RowKey) → left ≡ k ∷ rest → AreFree rows x left → ((y : Xid) (q : RowKey) → times_at rows y q + cond (x.0 == y.0) (count_key left q) 0 ≡ times_at first y q + cond (x.0 == y.0) (count_key all q) 0) →
    ((q : RowKey) → times_at first x q + count_key all q < 2 ^ 128) → (h : Holder) → held_at rows k ≡ Some h → h.more + 1 < 2 ^ 128
fits rows first x k left rest all is free there few h held =
    let mine : h.xid ≡ x = free k h (ap (λ (ks : List RowKey). has_key ks k) is ∙ first_has k rest) held in
    let here : times_at rows x k ≡ suc h.more = ap (λ (o : Option Holder). times_by o x) held ∙ own_times h x mine in
    omega (arith, here, there x k, at_most (x.0 == x.0) (count_key all k), few k)

-- ---- one turn of a loop that gives rows back

pub next_given : (old new : Index) (hs : Holds) (x : Xid) (k : RowKey) (all rest : List RowKey) → all ≡ k ∷ rest → ((q : RowKey) → held_at new q ≡ cond (is_key k q) (once_less (held_at old k)) (held_at old q)) →
    ((y : Xid) (q : RowKey) → times_at old y q ≡ times hs y q + cond (x.0 == y.0) (count_key all q) 0) → (y : Xid) (q : RowKey) → times_at new y q ≡ times hs y q + cond (x.0 == y.0) (count_key rest q) 0
next_given old new hs x k all rest is there so_far y q =
    let here : cond (x.0 == x.0) (count_key all k) 0 ≡ 1 + count_key rest k =
    ap (λ (ks : List RowKey). cond (x.0 == x.0) (count_key ks k) 0) is ∙ ap (λ (b : Bool). cond b (once (is_key k k) + count_key rest k) 0) (xid_itself x) ∙ ap (λ (b : Bool). once b + count_key rest k) (is_key_itself k) in
    let some : 0 < times_at old x k = omega (arith, so_far x k, here) in
    let step = give_times old new x k there some y q in
    let whole : cond (x.0 == y.0) (count_key all q) 0 ≡ cond (x.0 == y.0) (once (is_key k q) + count_key rest q) 0 = ap (λ (ks : List RowKey). cond (x.0 == y.0) (count_key ks q) 0) is in
    omega (arith, step, whole, split (x.0 == y.0) (once (is_key k q)) (count_key rest q), so_far y q)
