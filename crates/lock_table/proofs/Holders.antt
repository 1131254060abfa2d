-- The index of rows, by the branches that hold them.
use Rattle.std.proofs.Common.{◌≡◌, ℕ, zero, suc, ◌+◌, Bool, true, false, cond, ◌||◌, ◌&&◌, List, [], ◌∷◌, Option, Some, None, refl, sym, ap, ap₂, subst, ◌∙◌, true≢false, arith}
use Rattle.std.specs.Prelude.{◌==◌, option_map}
use Rattle.std.specs.List.Sorted.{IsStrictlySortedBy}
use Rattle.std.proofs.lemmas.Bool.{eqb-true}
use Rattle.std.proofs.lemmas.Map.Made.{lookup-map_values, keys_of-map_values}
use Rattle.seata_types.specs.Orders.{key_cmp}
use Rattle.seata_types.specs.declared.ids.Xid.{Xid}
use Rattle.seata_types.specs.declared.rows.RowKey.{RowKey}
use Rattle.local_tables.specs.Rows.{is_key}
use Rattle.local_tables.specs.Lookups.{IsRising}
use Rattle.local_tables.proofs.MapLaws.{at_insert, rising_insert, same_entries}
use Rattle.durable_records.specs.Locks.{has_key}
use Rattle.lock_table.specs.declared.holder.Holder.{Holder}
use Rattle.lock_table.specs.Locks.{Locks, Holds, locked, holds, is_holder, HaveOneHolder, locks_on, locks}
use Rattle.lock_table.specs.Counts.{Index, held_at, locks_of, once, count_key, times, times_by, IsIndex}
use Rattle.lock_table.proofs.Puts.{same_xid, xid_itself}

none_rise : (ls : Locks) → ls ≡ [] → IsRising ls
unfolding IsStrictlySortedBy
none_rise ls is = rw is tt

rising_on : (x : Xid) (ks : List RowKey) (ls : Locks) → IsRising ls → IsRising (locks_on x ks ls)
rising_on x [] ls rising = rising
rising_on x (k ∷ ks) ls rising = rising_insert (locks_on x ks ls) k x (rising_on x ks ls rising)

rising_locks : (hs : Holds) → IsRising (locks hs)
rising_locks [] = none_rise [] refl
rising_locks (e ∷ es) = rising_on e.0.xid e.1 (locks es) (rising_locks es)

either : (a b : Bool) (s o : Option Xid) → cond a s (cond b s o) ≡ cond (a || b) s o
either true b s o = refl
either false b s o = refl

at_on : (x : Xid) (ks : List RowKey) (ls : Locks) (q : RowKey) → locked (locks_on x ks ls) q ≡ cond (has_key ks q) (Some x) (locked ls q)
at_on x [] ls q = refl
at_on x (k ∷ ks) ls q =
    at_insert (locks_on x ks ls) k x q ∙ ap (λ (o : Option Xid). cond (is_key k q) (Some x) o) (at_on x ks ls q) ∙ either (is_key k q) (has_key ks q) (Some x) (locked ls q)

or_true : (a : Bool) → (a || true) ≡ true
or_true true = refl
or_true false = refl

some_of : (e x : Xid) (b rest : Bool) (o : Option Xid) → cond b (Some e) o ≡ Some x → (o ≡ Some x → rest ≡ true) → (((e.0 == x.0) && b) || rest) ≡ true
some_of e x true rest o is later = let same : e ≡ x = cc in rw (same, xid_itself x) refl
some_of e x false rest o is later = rw (later is) (or_true ((e.0 == x.0) && false))

pub holder_holds : (hs : Holds) (x : Xid) (q : RowKey) → locked (locks hs) q ≡ Some x → holds hs x q ≡ true
holder_holds [] x q is = absurd cc
holder_holds (e ∷ es) x q is =
    some_of e.0.xid x (has_key e.1 q) (holds es x q) (locked (locks es) q) (sym (at_on e.0.xid e.1 (locks es) q) ∙ is) (holder_holds es x q)

none_of : (e : Xid) (b a rest : Bool) (o : Option Xid) → cond b (Some e) o ≡ None → (o ≡ None → rest ≡ false) → ((a && b) || rest) ≡ false
none_of e true a rest o is later = absurd cc
none_of e false true rest o is later = later is
none_of e false false rest o is later = later is

pub nobody_holds : (hs : Holds) (q : RowKey) → locked (locks hs) q ≡ None → (x : Xid) → holds hs x q ≡ false
nobody_holds [] q is x = refl
nobody_holds (e ∷ es) q is x =
    none_of e.0.xid (has_key e.1 q) (e.0.xid.0 == x.0) (holds es x q) (locked (locks es) q) (sym (at_on e.0.xid e.1 (locks es) q) ∙ is) (λ none. nobody_holds es q none x)

-- ---- a transaction holds a row that it holds at least once

abbrev any : ℕ → Bool
any zero = false
any (suc n) = true

any_plus : (m n : ℕ) → any (m + n) ≡ (any m || any n)
any_plus zero n = let same : 0 + n ≡ n = omega arith in ap any same
any_plus (suc m) n = let same : suc m + n ≡ suc (m + n) = omega arith in ap any same

any_once : (b : Bool) → any (once b) ≡ b
any_once true = refl
any_once false = refl

any_key : (ks : List RowKey) (q : RowKey) → any (count_key ks q) ≡ has_key ks q
any_key [] q = refl
any_key (k ∷ ks) q = any_plus (once (is_key k q)) (count_key ks q) ∙ ap₂ (λ (a b : Bool). a || b) (any_once (is_key k q)) (any_key ks q)

any_by : (b : Bool) (n : ℕ) → any (cond b n 0) ≡ (b && any n)
any_by true n = refl
any_by false n = refl

any_times : (hs : Holds) (x : Xid) (q : RowKey) → any (times hs x q) ≡ holds hs x q
any_times [] x q = refl
any_times (e ∷ es) x q =
    any_plus (cond (e.0.xid.0 == x.0) (count_key e.1 q) 0) (times es x q) ∙
    ap₂ (λ (a b : Bool). a || b) (any_by (e.0.xid.0 == x.0) (count_key e.1 q) ∙ ap (λ (b : Bool). (e.0.xid.0 == x.0) && b) (any_key e.1 q)) (any_times es x q)

held_by : (b : Bool) (n : ℕ) → b ≡ any (cond b (suc n) 0)
held_by true n = refl
held_by false n = refl

any_held : (o : Option Holder) (x : Xid) → is_holder (option_map (λ (h : Holder). h.xid) o) x ≡ any (times_by o x)
any_held None x = refl
any_held (Some h) x = held_by (h.xid.0 == x.0) h.more

-- ---- the rows are those of the branches

pub locked_is : (rows : Index) (q : RowKey) → locked (locks_of rows) q ≡ option_map (λ (h : Holder). h.xid) (held_at rows q)
locked_is rows q = lookup-map_values (λ (h : Holder). h.xid) (is_key q) rows

agrees : (rows : Index) (hs : Holds) → IsIndex rows hs → (x : Xid) (q : RowKey) → is_holder (locked (locks_of rows) q) x ≡ holds hs x q
agrees rows hs i x q = ap (λ (o : Option Xid). is_holder o x) (locked_is rows q) ∙ any_held (held_at rows q) x ∙ ap any (i.agrees x q) ∙ any_times hs x q

rising_of : (rows : Index) → IsRising rows → IsRising (locks_of rows)
rising_of rows rising = subst (λ (ks : List RowKey). IsStrictlySortedBy key_cmp ks) (sym (keys_of-map_values (λ (h : Holder). h.xid) rows)) rising

pub holder_is : (o : Option Xid) (x : Xid) → is_holder o x ≡ true → o ≡ Some x
holder_is None x e = absurd cc
holder_is (Some y) x e = ap (λ (z : Xid). Some z) (same_xid y x (eqb-true y.0 x.0 e))

nobody_is : (o : Option Xid) → ((x : Xid) → is_holder o x ≡ false) → o ≡ None
nobody_is None none = refl
nobody_is (Some y) none = absurd (true≢false (sym (xid_itself y) ∙ none y))

same_holder : (rows : Index) (hs : Holds) (i : IsIndex rows hs) (q : RowKey) (o : Option Xid) → locked (locks hs) q ≡ o → locked (locks_of rows) q ≡ o
same_holder rows hs i q None is = nobody_is (locked (locks_of rows) q) (λ x. agrees rows hs i x q ∙ nobody_holds hs q is x)
same_holder rows hs i q (Some x) is = holder_is (locked (locks_of rows) q) x (agrees rows hs i x q ∙ holder_holds hs x q is)

pub rows_are : (rows : Index) (hs : Holds) → IsIndex rows hs → locks_of rows ≡ locks hs
rows_are rows hs i = same_entries (locks_of rows) (locks hs) (rising_of rows i.order) (rising_locks hs) (λ q. same_holder rows hs i q (locked (locks hs) q) refl)

pub one_holder : (rows : Index) (hs : Holds) → IsIndex rows hs → HaveOneHolder hs
one_holder rows hs i x y r held also =
    let first : locked (locks_of rows) r ≡ Some x = holder_is (locked (locks_of rows) r) x (agrees rows hs i x r ∙ held) in
    let second : locked (locks_of rows) r ≡ Some y = holder_is (locked (locks_of rows) r) y (agrees rows hs i y r ∙ also) in
    cc

pub no_rows : IsIndex [] []
no_rows = record { order = none_rise [] refl; agrees = λ x r. refl; short = tt }
