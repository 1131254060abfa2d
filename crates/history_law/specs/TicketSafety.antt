-- What is safe about tickets, markers and the cover of local commits.
use Rattle.std.specs.Prelude.{◌≡◌, ◌⊎◌, ℕ, true, false, List, [], Some, None}
use Rattle.seata_types.specs.declared.rows.RowKey.{RowKey}
use Rattle.seata_types.specs.declared.statuses.BranchKind.TheVariants as kind
use Rattle.durable_records.specs.declared.coordinators.SessionRecord.{SessionRecord}
use Rattle.durable_records.specs.Transactions.{decided, is_commit}
use Rattle.durable_records.specs.Branches.{Grant, grants, is_ended}
use Rattle.durable_records.specs.Locks.{holds}
use Rattle.durable_records.specs.UndoRecords.{Undo, undos, undo_of}
use Rattle.durable_records.specs.ResourceOrder.{image_keys}
use Rattle.durable_records.specs.RowsKept.{Change, ByBranch, ByLocal, ByOutside, changes}
use Rattle.history_rules.specs.ResourceMemory.{Setup, Open, Memory, has_row}
use Rattle.history_rules.specs.Nodes.{World, Past, counted_at}
pub use Rattle.history_rules.specs.Nodes.{AreNumbered}
use Rattle.history_rules.specs.Histories.{Moment, Legal}
use Rattle.history_rules.specs.Chains.{IsChain}
use Rattle.history_law.specs.Points.{In, AtEachPoint, InEachHistory}
use Rattle.history_law.specs.SessionSafety.{session_records}
use Rattle.history_law.specs.Cover.{MarksHold, memory_of, Covers}

-- a change of a row by a branch is covered: its transaction is decided commit, or holds the row
abbrev pub IsCovered : List SessionRecord → RowKey → Change → Type 0
IsCovered rs key (ByBranch x b before after) = (is_commit (decided rs x) ≡ true) ⊎ (holds rs x key ≡ true)
IsCovered rs key (ByLocal after) = Unit {0}
IsCovered rs key (ByOutside after) = Unit {0}

-- a change of a branch whose transaction isn't decided commit, and the number of this transaction
abbrev pub IsOpen : List SessionRecord → Change → Type 0
IsOpen rs (ByBranch x b before after) = is_commit (decided rs x) ≡ false
IsOpen rs (ByLocal after) = ⊥
IsOpen rs (ByOutside after) = ⊥

abbrev pub xid_in : Change → ℕ
xid_in (ByBranch x b before after) = x
xid_in (ByLocal after) = 0
xid_in (ByOutside after) = 0

-- the undo record is of a branch that was granted to resource n, with the rows that it touched
pub record IsOfGrant (rs : List SessionRecord) (n : ℕ) (u : Undo) : Type 0 where
  pub branch : Grant
  pub granted : In branch (grants rs)
  pub xid : branch.xid ≡ u.xid
  pub number : branch.branch ≡ u.branch
  pub resource : branch.resource ≡ n
  pub hold : branch.hold ≡ image_keys u.images

-- of resource n, by the coordinator's records and what its own entries leave: each local commit that isn't undone is covered, and
-- those on a row that aren't decided commit are of one transaction; it was granted before; open tickets have different rows; a marked branch has no undo record; and a branch that is ended
-- without a commit has none
pub record TicketsAreSafe (rs : List SessionRecord) (n : ℕ) (m : Memory) : Type 0 where
  pub covered : (key : RowKey) (c : Change) → In c (changes m.left.records key) → IsCovered rs key c
  pub one_open : (key : RowKey) (c d : Change) → In c (changes m.left.records key) → In d (changes m.left.records key) → IsOpen rs c → IsOpen rs d → xid_in c ≡ xid_in d
  pub granted : (u : Undo) → In u (undos m.left.records) → IsOfGrant rs n u
  pub disjoint : (o p : Open) → In o m.opens → In p m.opens → (key : RowKey) → has_row key o ≡ true → has_row key p ≡ true → o ≡ p
  pub marked : MarksHold m.left.records
  pub ended : (g : Grant) → In g (grants rs) → g.kind ≡ kind.At → g.resource ≡ n → is_ended rs g.xid g.branch ≡ true
      → (is_commit (decided rs g.xid) ≡ true) ⊎ (undo_of m.left.records g.xid g.branch ≡ None)

-- ---- the law

-- of each resource, after a history
abbrev pub EachIsSafe : World → Past → List Moment → Type 0
EachIsSafe w past ms = (n : ℕ) (s : Setup) → counted_at w.resources n ≡ Some s → TicketsAreSafe (session_records past ms) n (memory_of past ms n s)

-- at each point of a history
abbrev pub TicketsStaySafe : World → Past → List Moment → Type 0
TicketsStaySafe w past ms = AtEachPoint (EachIsSafe w past) ms

-- in a legal history over records that are covered
abbrev pub TicketsLaw : Type 0
TicketsLaw = (w : World) (past : Past) (ms : List Moment) → AreNumbered w → Covers w past [] → Legal w past ms → TicketsStaySafe w past ms

-- and in every chain, whose first history had no records
abbrev pub TicketsOfChains : Type 0
TicketsOfChains = (w : World) (histories : List (Past × List Moment)) → AreNumbered w → IsChain w histories → InEachHistory (TicketsStaySafe w) histories
