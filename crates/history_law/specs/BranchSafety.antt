-- What is safe about the records of branches: each is of a branch that was granted to its resource, and of its mode.
use Rattle.std.specs.Prelude.{◌≡◌, ℕ, List, Option, Some, None}
use Rattle.seata_types.specs.declared.statuses.BranchKind.{BranchKind}
use Rattle.seata_types.specs.declared.statuses.BranchKind.TheVariants as kind
use Rattle.durable_records.specs.declared.coordinators.SessionRecord.{SessionRecord}
use Rattle.durable_records.specs.declared.resources.ResourceRecord.{ResourceRecord}
use Rattle.durable_records.specs.declared.resources.ResourceRecord.TheVariants as log
use Rattle.durable_records.specs.Branches.{Grant, grants}
use Rattle.history_rules.specs.ResourceMemory.{Setup, Memory}
use Rattle.history_rules.specs.Nodes.{World, Past, counted_at}
use Rattle.history_rules.specs.Histories.{Moment, Legal}
use Rattle.history_rules.specs.Chains.{IsChain, IsBlankPast}
use Rattle.history_law.specs.Points.{In, AtEachPoint, InEachHistory}
use Rattle.history_law.specs.SessionSafety.{session_records}
use Rattle.history_law.specs.Cover.{all_of, memory_of}
use Rattle.history_law.specs.TicketSafety.{AreNumbered}

-- the transaction, the number and the mode of the branch that a record is of; none where it is of no branch
abbrev pub branch_in : ResourceRecord → Option (ℕ × ℕ × BranchKind)
branch_in (log.Committed xid branch call images reads) = Some (xid.0, branch.0, kind.At)
branch_in (log.Undone xid branch) = Some (xid.0, branch.0, kind.At)
branch_in (log.Marked xid branch) = Some (xid.0, branch.0, kind.At)
branch_in (log.Cleared xid branch) = Some (xid.0, branch.0, kind.At)
branch_in (log.Tried xid branch call images) = Some (xid.0, branch.0, kind.Tcc)
branch_in (log.Confirmed xid branch images) = Some (xid.0, branch.0, kind.Tcc)
branch_in (log.Cancelled xid branch images) = Some (xid.0, branch.0, kind.Tcc)
branch_in (log.Suspended xid branch) = Some (xid.0, branch.0, kind.Tcc)
branch_in _ = None

-- branch b of x was granted to resource n, in this mode
pub record IsBranchAt (rs : List SessionRecord) (n x b : ℕ) (mode : BranchKind) : Type 0 where
  pub branch : Grant
  pub granted : In branch (grants rs)
  pub xid : branch.xid ≡ x
  pub number : branch.branch ≡ b
  pub resource : branch.resource ≡ n
  pub of_mode : branch.kind ≡ mode

-- each record of a branch is of one that was granted to this resource, in the mode of the record
abbrev pub AreOfBranches : List SessionRecord → ℕ → List ResourceRecord → Type 0
AreOfBranches rs n records = (r : ResourceRecord) → In r records → (x b : ℕ) (mode : BranchKind) → branch_in r ≡ Some (x, b, mode) → IsBranchAt rs n x b mode

-- all records of a branch stand at its own resource, and are of its mode
abbrev pub StandsAlone : World → (ℕ → Setup → Memory) → Grant → Type 0
StandsAlone w mem g = (n : ℕ) (s : Setup) → counted_at w.resources n ≡ Some s → (r : ResourceRecord) → In r (mem n s).left.records
    → (mode : BranchKind) → branch_in r ≡ Some (g.xid, g.branch, mode) → (g.resource ≡ n) × (g.kind ≡ mode)

-- each record of each resource, the one in flight among them, is of a granted branch; and so those of a branch stand alone
pub record RecordsAreOfBranches (w : World) (past : Past) (ms : List Moment) : Type 0 where
  pub granted : (n : ℕ) (s : Setup) → counted_at w.resources n ≡ Some s
      → AreOfBranches (session_records past ms) n (memory_of past ms n s).left.records × AreOfBranches (session_records past ms) n (all_of (memory_of past ms n s).left)
  pub alone : (g : Grant) → In g (grants (session_records past ms)) → StandsAlone w (memory_of past ms) g

-- at each point of a history
abbrev pub RecordsStayOfBranches : World → Past → List Moment → Type 0
RecordsStayOfBranches w past ms = AtEachPoint (RecordsAreOfBranches w past) ms

-- in a legal history over disks without records
abbrev pub BranchesLaw : Type 0
BranchesLaw = (w : World) (past : Past) (ms : List Moment) → AreNumbered w → IsBlankPast past → Legal w past ms → RecordsStayOfBranches w past ms

-- and in every chain
abbrev pub BranchesOfChains : Type 0
BranchesOfChains = (w : World) (histories : List (Past × List Moment)) → AreNumbered w → IsChain w histories → InEachHistory (RecordsStayOfBranches w) histories
