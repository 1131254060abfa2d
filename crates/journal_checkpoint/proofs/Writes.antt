-- The images of the disk that is not active, from one call of a checkpoint to the next.
use Rattle.std.proofs.Common.{◌≡◌, ℕ, ◌+◌, ◌^◌, ◌<◌, ◌≤◌, true, List, [], ◌∷◌, length, inl, arith}
use Rattle.disk_model.specs.Disk.{DiskState, IsLawful, Leaves, Pending}
use Rattle.disk_model.proofs.Calls.{leaves_weaker, leaves_then}
use Rattle.disk_journal.specs.Keeping.{WrittenThrough}
use Rattle.journal_checkpoint.specs.declared.types.Head.TheVariants as head
use Rattle.journal_checkpoint.specs.Pairs.{head_of, checkpoint_bytes}
use Rattle.journal_checkpoint.specs.Images.{IsOtherHead, IsFresh, IsOldOrFresh}
use Rattle.journal_checkpoint.proofs.Fresh.{IsReady, ready_put, shut_stays, torn_switch, opened_switch, torn_old, closed_switch}

module _ (g : ℕ) (s : List ℕ) (small : g + 1 < 2 ^ 32) (short : length s < 2 ^ 32) (old : DiskState) (lawful : IsLawful old) (fits : length s + 10 ≤ old.size) where
  module _ (middle : DiskState) (written : WrittenThrough 1 (checkpoint_bytes (g + 1) s) old middle) where
    is_ready : (c : List ℕ) → middle.may_leave c → IsReady (g + 1) s c
    is_ready c left = let p = written c left in rw p.2 (ready_put (g + 1) s p.0 (omega (arith, lawful.full_size p.0 p.1)))

    switch_leaves : (new : DiskState) → Leaves middle new (Pending 0 1 middle.may_leave) → Leaves middle new (IsOldOrFresh g s)
    switch_leaves new leaves = leaves_weaker leaves (λ c (d, left, same). torn_switch g s small short d c (is_ready d left) same)

    pub are_fresh : (new : DiskState) → WrittenThrough 0 (1 ∷ []) middle new → (c : List ℕ) → new.may_leave c → IsFresh (g + 1) s c
    are_fresh new opened c left = let p = opened c left in rw p.2 (opened_switch g s small short p.0 (is_ready p.0 p.1))

  module _ (shut : (c : List ℕ) → old.may_leave c → head_of c ≡ head.Shut) where
    pub staged_leaves : (n : ℕ) (middle : DiskState) → Leaves old middle (Pending 1 n old.may_leave) → Leaves old middle (IsOldOrFresh g s)
    staged_leaves n middle leaves = leaves_weaker leaves (λ c (d, left, same). inl (inl (shut_stays n d c (omega (arith, lawful.full_size d left)) same (shut d left))))

    pub both_leave : (n : ℕ) (middle new : DiskState) → Leaves old middle (Pending 1 n old.may_leave) → WrittenThrough 1 (checkpoint_bytes (g + 1) s) old middle → Leaves middle new (Pending 0 1 middle.may_leave) → Leaves old new (IsOldOrFresh g s)
    both_leave n middle new first written second = leaves_then (staged_leaves n middle first) (switch_leaves middle written new second)

module _ (g : ℕ) (s : List ℕ) (old middle : DiskState) (lawful : IsLawful old) (some : 0 < old.size) where
  pub closing_leaves : ((c : List ℕ) → old.may_leave c → IsOtherHead g true (head_of c)) → Leaves old middle (Pending 0 1 old.may_leave) → Leaves old middle (IsOldOrFresh g s)
  closing_leaves older leaves = leaves_weaker leaves (λ c (d, left, same). inl (torn_old g d c (omega (arith, lawful.full_size d left)) (older d left) same))

  pub are_closed : WrittenThrough 0 (0 ∷ []) old middle → (c : List ℕ) → middle.may_leave c → head_of c ≡ head.Shut
  are_closed written c left = let p = written c left in rw p.2 (closed_switch p.0 (omega (arith, lawful.full_size p.0 p.1)))
