-- The TCC fences of a resource's records, and what a fence answers.
use Rattle.std.specs.Prelude.{ℕ, ◌==◌, ◌&&◌, if◌then◌else◌, List, [], ◌∷◌, Option, Some, None}
use Rattle.std.specs.BTreeMap.{insert_entry}
use Rattle.std.specs.Ordering.{nat_cmp, ordering_then}
use Rattle.std.specs.declared.cmp.Ordering.{Ordering}
use Rattle.durable_records.specs.declared.resources.ResourceRecord.{ResourceRecord}
use Rattle.durable_records.specs.declared.resources.ResourceRecord.TheVariants as log

-- the statuses of Seata's tcc_fence_log; a Suspended branch was cancelled and never tried
pub data Fence : Type 0 where
  IsTried : Fence
  IsCommitted : Fence
  IsRollbacked : Fence
  IsSuspended : Fence

-- the fence of b of x: this one where c of y is that branch, and else the one before
abbrev pub fenced : (y c x b : ℕ) → Fence → Option Fence → Option Fence
fenced y c x b here before = if (y == x) && (c == b) then Some here else before

-- the fence of branch b of x, by its last record
abbrev pub fence : List ResourceRecord → ℕ → ℕ → Option Fence
fence [] x b = None
fence (log.Tried xid branch call images ∷ rs) x b = fenced xid.0 branch.0 x b IsTried (fence rs x b)
fence (log.Confirmed xid branch images ∷ rs) x b = fenced xid.0 branch.0 x b IsCommitted (fence rs x b)
fence (log.Cancelled xid branch images ∷ rs) x b = fenced xid.0 branch.0 x b IsRollbacked (fence rs x b)
fence (log.Suspended xid branch ∷ rs) x b = fenced xid.0 branch.0 x b IsSuspended (fence rs x b)
fence (_ ∷ rs) x b = fence rs x b

-- the branches that were tried for call c of x
abbrev pub tried_of_call : List ResourceRecord → ℕ → ℕ → List ℕ
tried_of_call [] x c = []
tried_of_call (log.Tried xid branch call images ∷ rs) x c =
    if (xid.0 == x) && (call == c) then branch.0 ∷ tried_of_call rs x c else tried_of_call rs x c
tried_of_call (_ ∷ rs) x c = tried_of_call rs x c

-- ---- all fences

-- branches in order of transaction and number
abbrev pub leg_cmp : ℕ × ℕ → ℕ × ℕ → Ordering
leg_cmp a b = ordering_then (nat_cmp a.0 b.0) (nat_cmp a.1 b.1)

-- the fences with this one of branch b of x
abbrev pub with_fence : (x b : ℕ) → Fence → List ((ℕ × ℕ) × Fence) → List ((ℕ × ℕ) × Fence)
with_fence x b here before = insert_entry leg_cmp before (x, b) here

-- each branch that has a fence, in this order
abbrev pub fences : List ResourceRecord → List ((ℕ × ℕ) × Fence)
fences [] = []
fences (log.Tried xid branch call images ∷ rs) = with_fence xid.0 branch.0 IsTried (fences rs)
fences (log.Confirmed xid branch images ∷ rs) = with_fence xid.0 branch.0 IsCommitted (fences rs)
fences (log.Cancelled xid branch images ∷ rs) = with_fence xid.0 branch.0 IsRollbacked (fences rs)
fences (log.Suspended xid branch ∷ rs) = with_fence xid.0 branch.0 IsSuspended (fences rs)
fences (_ ∷ rs) = fences rs

-- ---- answers

-- an action runs, was done already, is never to run, or is refused
pub data FenceAnswer : Type 0 where
  Runs : FenceAnswer
  WasDone : FenceAnswer
  Suspends : FenceAnswer
  Refuses : FenceAnswer

-- whether a Try may run: on a branch without a fence alone
abbrev pub on_try : Option Fence → FenceAnswer
on_try None = Runs
on_try (Some _) = Refuses

-- a Confirm: of a tried branch alone
abbrev pub on_confirm : Option Fence → FenceAnswer
on_confirm None = Refuses
on_confirm (Some IsTried) = Runs
on_confirm (Some IsCommitted) = WasDone
on_confirm (Some IsRollbacked) = Refuses
on_confirm (Some IsSuspended) = Refuses

-- a Cancel: of a tried branch, and in place of the Try of one that has no fence
abbrev pub on_cancel : Option Fence → FenceAnswer
on_cancel None = Suspends
on_cancel (Some IsTried) = Runs
on_cancel (Some IsCommitted) = Refuses
on_cancel (Some IsRollbacked) = WasDone
on_cancel (Some IsSuspended) = WasDone
