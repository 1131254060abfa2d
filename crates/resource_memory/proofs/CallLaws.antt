-- The calls that branches were tried for, beside the fences.
use Rattle.std.proofs.Common.{◌≡◌, ◌≢◌, ◌==◌, ℕ, Bool, true, false, cond, Option, Some, None, refl, sym, ap, ◌∙◌, arith}
use Rattle.std.specs.BTreeMap.{insert_entry}
use Rattle.std.specs.List.Sorted.{IsStrictlySortedBy}
use Rattle.std.specs.Map.{lookup, keys_of}
use Rattle.std.proofs.lemmas.Bool.Decides.{nat_tests}
use Rattle.seata_types.specs.declared.ids.Leg.{Leg}
use Rattle.durable_records.specs.Fences.{Fence, leg_cmp, with_fence}
use Rattle.undo_log.specs.Entries.{order, is_leg}
use Rattle.tcc_fence.specs.Meanings.{Fences, fence_at, pair_of}
use Rattle.resource_memory.specs.Known.{Calls, with_call}
use Rattle.resource_memory.specs.Keeping.{AreCalls}
use Rattle.resource_memory.proofs.Legs.{pair_total, pair_exact, leg_total, leg_exact}
use Rattle.resource_memory.proofs.Maps.{rising_insert, all_insert, at_insert}

-- where one of two is none, both tests and the other are
pub record IsNone {V : Type 0} (b : Bool) (o : Option V) : Type 0 where
  pub other : b ≡ false
  pub none : o ≡ None

none_of : {V : Type 0} (b : Bool) (v : V) (o : Option V) → cond b (Some v) o ≡ None → IsNone b o
none_of true v o e = absurd (some_none v e)
  where
    some_none : {W : Type 0} (w : W) → Some w ≡ None → ⊥
    some_none w f = cc
none_of false v o e = record { other = refl; none = e }

-- a branch has no fence after another one was given one
pub no_fence : (fences : Fences) (leg q : Leg) (here : Fence) → fence_at (with_fence leg.xid.0 leg.branch.0 here fences) q ≡ None → IsNone (is_leg leg q) (fence_at fences q)
no_fence fences leg q here e =
    none_of (is_leg leg q) here (fence_at fences q) (sym (at_insert leg_cmp pair_total pair_exact fences (pair_of leg) here (pair_of q)) ∙ e)

pub fences_with : (fences : Fences) (leg : Leg) (here : Fence) → IsStrictlySortedBy leg_cmp (keys_of fences) → IsStrictlySortedBy leg_cmp (keys_of (with_fence leg.xid.0 leg.branch.0 here fences))
fences_with fences leg here s = rising_insert leg_cmp pair_total pair_exact fences (pair_of leg) here s

-- a branch is given another fence
pub calls_fenced : (fences : Fences) (calls : Calls) (leg : Leg) (here : Fence) → AreCalls fences calls → AreCalls (with_fence leg.xid.0 leg.branch.0 here fences) calls
calls_fenced fences calls leg here c = record {
  in_order = c.in_order;
  counted = c.counted;
  fenced = λ q e. c.fenced q (no_fence fences leg q here e).none;
}

not_zero : (n : ℕ) → (n == 0) ≡ false → n ≢ 0
not_zero n e is = grind (arith, nat_tests)

-- a branch is tried
pub calls_with : (fences : Fences) (calls : Calls) (leg : Leg) (call : ℕ) (here : Fence) → AreCalls fences calls → AreCalls (with_fence leg.xid.0 leg.branch.0 here fences) (with_call calls leg call)
calls_with fences calls leg call here c = by (call == 0) refl
  where
    by : (b : Bool) → (call == 0) ≡ b → AreCalls (with_fence leg.xid.0 leg.branch.0 here fences) (cond b calls (insert_entry order calls leg call))
    by true is = calls_fenced fences calls leg here c
    by false is = record {
      in_order = rising_insert order leg_total leg_exact calls leg call c.in_order;
      counted = all_insert order leg_total leg_exact (λ e. e.1 ≢ 0) calls leg call c.counted (not_zero call is);
      fenced = λ q e.
          let none = no_fence fences leg q here e in
          at_insert order leg_total leg_exact calls leg call q
          ∙ ap (λ b. cond b (Some call) (lookup (is_leg q) calls)) none.other ∙ c.fenced q none.none;
    }
