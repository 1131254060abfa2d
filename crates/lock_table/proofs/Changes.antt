-- What a branch's taking rows leaves to hold a row.
use Rattle.std.proofs.Common.{◌≡◌, ℕ, Bool, true, false, cond, ◌||◌, ◌&&◌, List, [], ◌∷◌, ◌++◌, Option, Some, None, Ordering, Less, Equal, Greater, refl, sym, ap, ◌∙◌, true≢false}
use Rattle.std.specs.Prelude.{◌==◌, unwrap_or}
use Rattle.std.specs.BTreeMap.{insert_entry}
use Rattle.std.specs.Map.{lookup}
use Rattle.std.specs.Ordering.{nat_cmp, ordering_then, match_ordering, is_eq}
use Rattle.std.proofs.lemmas.Map.Lookups.{exact_unsigned}
use Rattle.seata_types.specs.declared.ids.Xid.{Xid}
use Rattle.seata_types.specs.declared.ids.Leg.{Leg}
use Rattle.seata_types.specs.declared.rows.RowKey.{RowKey}
use Rattle.local_tables.specs.Rows.{is_key}
use Rattle.local_tables.proofs.KeyLaws.{same_key}
use Rattle.durable_records.specs.Locks.{has_key}
use Rattle.lock_table.specs.Locks.{Locks, Holds, locked, leg_cmp, is_leg, holds, rows_of, with_rows, first_locked}
use Rattle.lock_table.proofs.Puts.{may_take, others_free}

-- ---- tests

or_false : (a : Bool) → (a || false) ≡ a
or_false true = refl
or_false false = refl

or_assoc : (a b c : Bool) → (a || (b || c)) ≡ ((a || b) || c)
or_assoc true b c = refl
or_assoc false b c = refl

inserted_before : (x w k a : Bool) → ((x && w) ≡ true → a ≡ true) → ((x && (w || k)) || a) ≡ (a || (x && k))
inserted_before true true k true h = refl
inserted_before true true k false h = absurd (true≢false (sym (h refl)))
inserted_before true false true true h = refl
inserted_before true false true false h = refl
inserted_before true false false true h = refl
inserted_before true false false false h = refl
inserted_before false w k true h = refl
inserted_before false w k false h = refl

inserted_at : (x w k a : Bool) → ((x && (w || k)) || a) ≡ (((x && w) || a) || (x && k))
inserted_at true true k a = refl
inserted_at true false true true = refl
inserted_at true false true false = refl
inserted_at true false false true = refl
inserted_at true false false false = refl
inserted_at false w k true = refl
inserted_at false w k false = refl

or_left : (a b : Bool) → a ≡ true → (a || b) ≡ true
or_left a b e = rw e refl

or_right : (a b : Bool) → b ≡ true → (a || b) ≡ true
or_right true b e = refl
or_right false b e = e

-- ---- legs

first_equal : (p q : Ordering) → is_eq (ordering_then p q) ≡ true → p ≡ Equal
first_equal Less q e = absurd cc
first_equal Equal q e = refl
first_equal Greater q e = absurd cc

pub same_leg_xid : (a b : Leg) → is_leg a b ≡ true → a.xid.0 ≡ b.xid.0
same_leg_xid a b e = exact_unsigned a.xid.0 b.xid.0 (first_equal (nat_cmp a.xid.0 b.xid.0) (nat_cmp a.branch.0 b.branch.0) e)

pub equal_leg_xid : (a b : Leg) → leg_cmp a b ≡ Equal → a.xid.0 ≡ b.xid.0
equal_leg_xid a b e = same_leg_xid a b (ap is_eq e)

has_key-append : (a b : List RowKey) (r : RowKey) → has_key (a ++ b) r ≡ (has_key a r || has_key b r)
has_key-append [] b r = refl
has_key-append (k ∷ ks) b r = ap (λ (t : Bool). is_key k r || t) (has_key-append ks b r) ∙ or_assoc (is_key k r) (has_key ks r) (has_key b r)

-- ---- a branch takes rows

held_by : (leg : Leg) (e : Leg × List RowKey) (x : Xid) (r : RowKey) (rest : Bool) (others : List RowKey) (b : Bool) → is_leg leg e.0 ≡ b → (((leg.xid.0 == x.0) && has_key others r) ≡ true → rest ≡ true) →
    ((leg.xid.0 == x.0) && has_key (cond b e.1 others) r) ≡ true → (((e.0.xid.0 == x.0) && has_key e.1 r) || rest) ≡ true
held_by leg e x r rest others true same later is =
    or_left ((e.0.xid.0 == x.0) && has_key e.1 r) rest (ap (λ (n : ℕ). (n == x.0) && has_key e.1 r) (sym (same_leg_xid leg e.0 same)) ∙ is)
held_by leg e x r rest others false other later is = or_right ((e.0.xid.0 == x.0) && has_key e.1 r) rest (later is)

pick : (b : Bool) (v : List RowKey) (o : Option (List RowKey)) → unwrap_or (cond b (Some v) o) [] ≡ cond b v (unwrap_or o [])
pick true v o = refl
pick false v o = refl

and_false : (a : Bool) → (a && false) ≡ true → false ≡ true
and_false true e = e
and_false false e = e

held : (es : Holds) (leg : Leg) (x : Xid) (r : RowKey) → ((leg.xid.0 == x.0) && has_key (rows_of es leg) r) ≡ true → holds es x r ≡ true
held [] leg x r is = and_false (leg.xid.0 == x.0) is
held (e ∷ es) leg x r is =
    held_by leg e x r (holds es x r) (rows_of es leg) (is_leg leg e.0) refl (held es leg x r)
    (ap (λ (rows : List RowKey). (leg.xid.0 == x.0) && has_key rows r) (sym (pick (is_leg leg e.0) e.1 (lookup (is_leg leg) es))) ∙ is)

module _ (leg : Leg) (ks : List RowKey) (x : Xid) (r : RowKey) where
  taken_at : (e : Leg × List RowKey) (es : Holds) (t : Ordering) → leg_cmp leg e.0 ≡ t →
      holds (insert_entry leg_cmp es leg (rows_of es leg ++ ks)) x r ≡ (holds es x r || ((leg.xid.0 == x.0) && has_key ks r)) →
      holds (match_ordering t ((leg, unwrap_or (cond (is_eq t) (Some e.1) (lookup (is_leg leg) es)) [] ++ ks) ∷ e ∷ es) ((e.0, unwrap_or (cond (is_eq t) (Some e.1) (lookup (is_leg leg) es)) [] ++ ks) ∷ es) (e ∷ insert_entry leg_cmp es leg (unwrap_or (cond (is_eq t) (Some e.1) (lookup (is_leg leg) es)) [] ++ ks))) x r
      ≡ (holds (e ∷ es) x r || ((leg.xid.0 == x.0) && has_key ks r))
  taken_at e es Less p later =
      rw (has_key-append (rows_of es leg) ks r)
      (inserted_before (leg.xid.0 == x.0) (has_key (rows_of es leg) r) (has_key ks r) (holds (e ∷ es) x r) (λ is. or_right ((e.0.xid.0 == x.0) && has_key e.1 r) (holds es x r) (held es leg x r is)))
  taken_at e es Equal p later =
      rw (has_key-append e.1 ks r, equal_leg_xid leg e.0 p)
      (inserted_at (e.0.xid.0 == x.0) (has_key e.1 r) (has_key ks r) (holds es x r))
  taken_at e es Greater p later =
      ap (λ (t : Bool). ((e.0.xid.0 == x.0) && has_key e.1 r) || t) later ∙ or_assoc ((e.0.xid.0 == x.0) && has_key e.1 r) (holds es x r) ((leg.xid.0 == x.0) && has_key ks r)

pub holds_with : (hs : Holds) (leg : Leg) (ks : List RowKey) (x : Xid) (r : RowKey) → holds (with_rows hs leg ks) x r ≡ (holds hs x r || ((leg.xid.0 == x.0) && has_key ks r))
holds_with [] leg ks x r = or_false ((leg.xid.0 == x.0) && has_key ks r)
holds_with (e ∷ es) leg ks x r = taken_at leg ks x r e es (leg_cmp leg e.0) refl (holds_with es leg ks x r)

-- a row of these has no other holder
pub free_at : (ls : Locks) (x : Xid) (ks : List RowKey) (r : RowKey) → first_locked ls x ks ≡ None → has_key ks r ≡ true → (z : Xid) → locked ls r ≡ Some z → z ≡ x
free_at ls x [] r free has z is = absurd cc
free_at ls x (k ∷ ks) r free has z is = by (is_key k r) refl (λ later. free_at ls x ks r (others_free ls x k ks free) later z is)
  where
    by : (b : Bool) → is_key k r ≡ b → (has_key ks r ≡ true → z ≡ x) → z ≡ x
    by true same later = may_take ls x k ks free z (ap (λ (q : RowKey). locked ls q) (same_key k r same) ∙ is)
    by false other later = later (ap (λ (b : Bool). b || has_key ks r) (sym other) ∙ has)
