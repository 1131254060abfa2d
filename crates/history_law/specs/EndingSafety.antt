-- What is safe about fences and endings.
use Rattle.durable_records.specs.Fences.{Fence, IsCommitted, IsRollbacked, IsSuspended, fence}
use Rattle.seata_types.specs.declared.statuses.Decision.{Decision}
use Rattle.std.specs.Prelude.{◌≡◌, ◌+◌, ◌≤◌, ◌==◌, ◌&&◌, ℕ, Bool, true, false, if◌then◌else◌, List, [], ◌∷◌, Some, Option}
use Rattle.seata_types.specs.declared.statuses.BranchKind.{BranchKind}
use Rattle.seata_types.specs.declared.statuses.BranchKind.TheVariants as kind
use Rattle.durable_records.specs.declared.coordinators.SessionRecord.{SessionRecord}
use Rattle.durable_records.specs.declared.resources.ResourceRecord.{ResourceRecord}
use Rattle.durable_records.specs.declared.resources.ResourceRecord.TheVariants as log
use Rattle.durable_records.specs.Transactions.{decided, is_commit, is_rollback}
use Rattle.durable_records.specs.Branches.{Grant, grants}
use Rattle.durable_records.specs.Progress.{progress, is_done}
use Rattle.history_rules.specs.ResourceMemory.{Setup}
use Rattle.history_rules.specs.Nodes.{World, Past, counted_at}
use Rattle.history_rules.specs.Histories.{Moment, Legal}
use Rattle.history_rules.specs.Chains.{IsChain, IsBlankPast}
use Rattle.history_law.specs.Points.{In, AtEachPoint, InEachHistory}
use Rattle.history_law.specs.SessionSafety.{session_records}
use Rattle.history_law.specs.Cover.{memory_of}
use Rattle.history_law.specs.TicketSafety.{AreNumbered}

-- ---- how often

-- how many of these records pass a test
abbrev pub how_many : (ResourceRecord → Bool) → List ResourceRecord → ℕ
how_many test [] = 0
how_many test (r ∷ rs) = if test r then how_many test rs + 1 else how_many test rs

module _ (x b : ℕ) where
  -- the records of branch b of x: its local commit and undo, its Try, Confirm and Cancel, and its suspension
  abbrev pub is_committed : ResourceRecord → Bool
  is_committed (log.Committed xid branch call images reads) = (xid.0 == x) && (branch.0 == b)
  is_committed _ = false

  abbrev pub is_undone : ResourceRecord → Bool
  is_undone (log.Undone xid branch) = (xid.0 == x) && (branch.0 == b)
  is_undone _ = false

  abbrev pub is_tried : ResourceRecord → Bool
  is_tried (log.Tried xid branch call images) = (xid.0 == x) && (branch.0 == b)
  is_tried _ = false

  abbrev pub is_confirmed : ResourceRecord → Bool
  is_confirmed (log.Confirmed xid branch images) = (xid.0 == x) && (branch.0 == b)
  is_confirmed _ = false

  abbrev pub is_cancelled : ResourceRecord → Bool
  is_cancelled (log.Cancelled xid branch images) = (xid.0 == x) && (branch.0 == b)
  is_cancelled _ = false

  abbrev pub is_suspended : ResourceRecord → Bool
  is_suspended (log.Suspended xid branch) = (xid.0 == x) && (branch.0 == b)
  is_suspended _ = false

-- ---- endings

-- by the records of its resource, a branch of a transaction that is recorded committed: an AT branch isn't undone; a TCC branch is
-- confirmed once, and never cancelled or suspended
abbrev pub IsKeptBy : BranchKind → List ResourceRecord → ℕ → ℕ → Type 0
IsKeptBy kind.At rs x b = how_many (is_undone x b) rs ≡ 0
IsKeptBy kind.Tcc rs x b =
    (how_many (is_confirmed x b) rs ≡ 1) × (how_many (is_cancelled x b) rs ≡ 0) × (how_many (is_suspended x b) rs ≡ 0)

-- by the same, a branch of a transaction that is recorded rolled back: an AT branch committed at most once, and was undone as often;
-- a TCC branch is cancelled or suspended once, was never tried where it is suspended, and is never confirmed
abbrev pub IsStruckBy : BranchKind → List ResourceRecord → ℕ → ℕ → Type 0
IsStruckBy kind.At rs x b =
    (how_many (is_committed x b) rs ≤ 1) × (how_many (is_undone x b) rs ≡ how_many (is_committed x b) rs)
IsStruckBy kind.Tcc rs x b =
    (how_many (is_cancelled x b) rs + how_many (is_suspended x b) rs ≡ 1) × (how_many (is_confirmed x b) rs ≡ 0)
    × (how_many (is_suspended x b) rs ≡ 1 → how_many (is_tried x b) rs ≡ 0)

-- of a branch of a transaction that is finished, by the records of its resource
pub record EndsAs (rs : List SessionRecord) (g : Grant) (records : List ResourceRecord) : Type 0 where
  pub kept : is_commit (decided rs g.xid) ≡ true → IsKeptBy g.kind records g.xid g.branch
  pub struck : is_rollback (decided rs g.xid) ≡ true → IsStruckBy g.kind records g.xid g.branch

-- a branch is confirmed only after a commit, and cancelled or suspended only after a rollback or timeout
abbrev pub IsFencedAs : Option Decision → Option Fence → Type 0
IsFencedAs d (Some IsCommitted) = is_commit d ≡ true
IsFencedAs d (Some IsRollbacked) = is_rollback d ≡ true
IsFencedAs d (Some IsSuspended) = is_rollback d ≡ true
IsFencedAs d _ = Unit {0}

-- each branch of each finished transaction, also of those that are forgotten; and each fence
pub record EndingsAreSafe (w : World) (past : Past) (ms : List Moment) : Type 0 where
  pub ended : (g : Grant) → In g (grants (session_records past ms)) → is_done (progress (session_records past ms) g.xid) ≡ true
      → (s : Setup) → counted_at w.resources g.resource ≡ Some s → EndsAs (session_records past ms) g (memory_of past ms g.resource s).left.records
  pub fenced : (n : ℕ) (s : Setup) → counted_at w.resources n ≡ Some s
      → (x b : ℕ) → IsFencedAs (decided (session_records past ms) x) (fence (memory_of past ms n s).left.records x b)

-- at each point of a history
abbrev pub EndingsStaySafe : World → Past → List Moment → Type 0
EndingsStaySafe w past ms = AtEachPoint (EndingsAreSafe w past) ms

-- in a legal history over disks without records
abbrev pub EndingsLaw : Type 0
EndingsLaw = (w : World) (past : Past) (ms : List Moment) → AreNumbered w → IsBlankPast past → Legal w past ms → EndingsStaySafe w past ms

-- and in every chain
abbrev pub EndingsOfChains : Type 0
EndingsOfChains = (w : World) (histories : List (Past × List Moment)) → AreNumbered w → IsChain w histories → InEachHistory (EndingsStaySafe w) histories
