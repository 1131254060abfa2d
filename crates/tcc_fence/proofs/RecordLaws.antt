-- The fences of records: what stands at a branch among them is the branch's fence.
use Rattle.std.proofs.Common.{◌≡◌, ◌==◌, ◌&&◌, ℕ, Bool, true, false, cond, List, [], ◌∷◌, Option, Some, None, Ordering, Less, Equal, Greater, refl, ap, sym, ◌∙◌, arith, true≢false}
use Rattle.std.specs.BTreeMap.{insert_entry, is_at}
use Rattle.std.specs.Map.{lookup}
use Rattle.std.specs.Ordering.{nat_cmp, ordering_then, match_ordering, is_eq}
use Rattle.std.proofs.lemmas.Bool.Decides.{nat_tests}
use Rattle.std.proofs.lemmas.Cmp.{nat_cmp_total, tied_itself}
use Rattle.std.proofs.lemmas.Map.Lookups.{exact_unsigned}
use Rattle.seata_types.specs.declared.ids.Leg.{Leg}
use Rattle.durable_records.specs.declared.resources.ResourceRecord.{ResourceRecord}
use Rattle.durable_records.specs.declared.resources.ResourceRecord.TheVariants as log
use Rattle.durable_records.specs.Fences.{Fence, IsTried, IsCommitted, IsRollbacked, IsSuspended, fence, fenced, fences, with_fence, leg_cmp}
use Rattle.tcc_fence.specs.Meanings.{Fences, FencesStandAtBranches}

-- ---- the order of branches

first_equal : (p q : Ordering) → is_eq (ordering_then p q) ≡ true → p ≡ Equal
first_equal Less q e = absurd cc
first_equal Equal q e = refl
first_equal Greater q e = absurd cc

second_equal : (p q : Ordering) → is_eq (ordering_then p q) ≡ true → is_eq q ≡ true
second_equal Less q e = absurd cc
second_equal Equal q e = e
second_equal Greater q e = absurd cc

is_equal : (p : Ordering) → is_eq p ≡ true → p ≡ Equal
is_equal Less e = absurd cc
is_equal Equal e = refl
is_equal Greater e = absurd cc

same_pair : (a b : ℕ × ℕ) → is_eq (leg_cmp a b) ≡ true → a ≡ b
same_pair a b e =
    let x : a.0 ≡ b.0 = exact_unsigned a.0 b.0 (first_equal (nat_cmp a.0 b.0) (nat_cmp a.1 b.1) e) in
    let y : a.1 ≡ b.1 = exact_unsigned a.1 b.1 (is_equal (nat_cmp a.1 b.1) (second_equal (nat_cmp a.0 b.0) (nat_cmp a.1 b.1) e)) in
    λ i. (x i, y i)

both_equal : (p q : Ordering) → p ≡ Equal → q ≡ Equal → is_eq (ordering_then p q) ≡ true
both_equal Equal q e f = ap is_eq f
both_equal Less q e f = absurd cc
both_equal Greater q e f = absurd cc

pair_itself : (a : ℕ × ℕ) → is_eq (leg_cmp a a) ≡ true
pair_itself a = both_equal (nat_cmp a.0 a.0) (nat_cmp a.1 a.1) (tied_itself nat_cmp_total a.0) (tied_itself nat_cmp_total a.1)

-- ---- an insertion

module _ (q k : ℕ × ℕ) (v : Fence) where
  abbrev found : Fences → Option Fence
  found es = lookup (is_at (leg_cmp q)) es

  twice : (b : Bool) (w : Fence) (rest : Option Fence) → cond b (Some v) rest ≡ cond b (Some v) (cond b (Some w) rest)
  twice true w rest = refl
  twice false w rest = refl

  not_both : (e : ℕ × ℕ) → leg_cmp k e ≡ Greater → is_eq (leg_cmp q e) ≡ true → is_eq (leg_cmp q k) ≡ true → true ≡ false
  not_both e p x y = sym (ap (λ r. is_eq (leg_cmp r e)) (sym (same_pair q k y)) ∙ x) ∙ ap is_eq p

  behind : (e : (ℕ × ℕ) × Fence) (rest more : Option Fence) → leg_cmp k e.0 ≡ Greater → more ≡ cond (is_eq (leg_cmp q k)) (Some v) rest
      → (a : Bool) → is_eq (leg_cmp q e.0) ≡ a → (b : Bool) → is_eq (leg_cmp q k) ≡ b → cond a (Some e.1) more ≡ cond b (Some v) (cond a (Some e.1) rest)
  behind e rest more p later true x true y = absurd (true≢false (not_both e.0 p x y))
  behind e rest more p later true x false y = refl
  behind e rest more p later false x true y = later ∙ ap (λ b. cond b (Some v) rest) y
  behind e rest more p later false x false y = later ∙ ap (λ b. cond b (Some v) rest) y

  inserted : (e : (ℕ × ℕ) × Fence) (es : Fences) → found (insert_entry leg_cmp es k v) ≡ cond (is_eq (leg_cmp q k)) (Some v) (found es) → (r : Ordering) → leg_cmp k e.0 ≡ r
      → found (match_ordering r ((k, v) ∷ e ∷ es) ((e.0, v) ∷ es) (e ∷ insert_entry leg_cmp es k v)) ≡ cond (is_eq (leg_cmp q k)) (Some v) (found (e ∷ es))
  inserted e es later Less p = refl
  inserted e es later Equal p =
      let same : k ≡ e.0 = same_pair k e.0 (ap is_eq p) in
      twice (is_eq (leg_cmp q e.0)) e.1 (found es) ∙ ap (λ r. cond (is_eq (leg_cmp q r)) (Some v) (cond (is_eq (leg_cmp q e.0)) (Some e.1) (found es))) (sym same)
  inserted e es later Greater p = behind e (found es) (found (insert_entry leg_cmp es k v)) p later (is_eq (leg_cmp q e.0)) refl (is_eq (leg_cmp q k)) refl

  found_after : (es : Fences) → found (insert_entry leg_cmp es k v) ≡ cond (is_eq (leg_cmp q k)) (Some v) (found es)
  found_after [] = refl
  found_after (e ∷ es) = inserted e es (found_after es) (leg_cmp k e.0) refl

-- ---- the fences of records

and_parts : (a b : Bool) → (a && b) ≡ true → (a ≡ true) × (b ≡ true)
and_parts true true e = (refl, refl)
and_parts true false e = absurd (true≢false (sym e))
and_parts false b e = absurd (true≢false (sym e))

same_nat : (m n : ℕ) → (m == n) ≡ true → m ≡ n
same_nat m n e = grind (arith, nat_tests)

nat_itself : (n : ℕ) → (n == n) ≡ true
nat_itself n = grind (arith, nat_tests)

-- the order and the test of a fence agree
module _ (x b y c : ℕ) where
  agree : (s t : Bool) → is_eq (leg_cmp (x, b) (y, c)) ≡ s → ((y == x) && (c == b)) ≡ t → s ≡ t
  agree true true e f = refl
  agree false false e f = refl
  agree true false e f =
      let same : (x, b) ≡ (y, c) = same_pair (x, b) (y, c) e in
      let one : (y == x) ≡ true = ap (λ (p : ℕ × ℕ). y == p.0) same ∙ nat_itself y in
      let two : (c == b) ≡ true = ap (λ (p : ℕ × ℕ). c == p.1) same ∙ nat_itself c in
      sym (ap (λ t. t && (c == b)) one ∙ two) ∙ f
  agree false true e f =
      let both = and_parts (y == x) (c == b) f in
      let one : y ≡ x = same_nat y x both.0 in
      let two : c ≡ b = same_nat c b both.1 in
      sym e ∙ ap (λ n. is_eq (leg_cmp (x, b) (n, c))) one ∙ ap (λ n. is_eq (leg_cmp (x, b) (x, n))) two ∙ pair_itself (x, b)

  at_record : (v : Fence) (fs : Fences) (before : Option Fence) → lookup (is_at (leg_cmp (x, b))) fs ≡ before
      → lookup (is_at (leg_cmp (x, b))) (with_fence y c v fs) ≡ fenced y c x b v before
  at_record v fs before e =
      found_after (x, b) (y, c) v fs
      ∙ ap (λ t. cond t (Some v) (lookup (is_at (leg_cmp (x, b))) fs)) (agree (is_eq (leg_cmp (x, b) (y, c))) ((y == x) && (c == b)) refl refl)
      ∙ ap (cond ((y == x) && (c == b)) (Some v)) e

module _ (x b : ℕ) where
  stands : (rs : List ResourceRecord) → lookup (is_at (leg_cmp (x, b))) (fences rs) ≡ fence rs x b
  stands [] = refl
  stands (log.Tried xid branch call images ∷ rs) = at_record x b xid.0 branch.0 IsTried (fences rs) (fence rs x b) (stands rs)
  stands (log.Confirmed xid branch images ∷ rs) = at_record x b xid.0 branch.0 IsCommitted (fences rs) (fence rs x b) (stands rs)
  stands (log.Cancelled xid branch images ∷ rs) = at_record x b xid.0 branch.0 IsRollbacked (fences rs) (fence rs x b) (stands rs)
  stands (log.Suspended xid branch ∷ rs) = at_record x b xid.0 branch.0 IsSuspended (fences rs) (fence rs x b) (stands rs)
  stands (log.Boot number ∷ rs) = stands rs
  stands (log.Committed xid branch call images reads ∷ rs) = stands rs
  stands (log.Undone xid branch ∷ rs) = stands rs
  stands (log.Marked xid branch ∷ rs) = stands rs
  stands (log.Cleared xid branch ∷ rs) = stands rs
  stands (log.LocalCommitted number images ∷ rs) = stands rs
  stands (log.Outside number images ∷ rs) = stands rs

pub fences_stand : FencesStandAtBranches
fences_stand rs leg = stands leg.xid.0 leg.branch.0 rs
