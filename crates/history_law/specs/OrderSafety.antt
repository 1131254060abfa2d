-- What is safe about the order of the changes of a row.
use Rattle.std.specs.Prelude.{◌≡◌, ◌⊎◌, ◌<◌, ◌||◌, ℕ, true, List, [], ◌∷◌, ◌++◌, Some}
use Rattle.seata_types.specs.declared.ids.BranchId.{BranchId}
use Rattle.seata_types.specs.declared.ids.Xid.{Xid}
use Rattle.seata_types.specs.declared.rows.Image.{Image}
use Rattle.seata_types.specs.declared.rows.ReadRow.{ReadRow}
use Rattle.seata_types.specs.declared.rows.RowKey.{RowKey}
use Rattle.seata_types.specs.declared.statuses.BranchKind.TheVariants as kind
use Rattle.durable_records.specs.declared.coordinators.SessionRecord.{SessionRecord}
use Rattle.durable_records.specs.declared.resources.ResourceRecord.{ResourceRecord}
use Rattle.durable_records.specs.declared.resources.ResourceRecord.TheVariants as log
use Rattle.durable_records.specs.Transactions.{decided, is_commit}
use Rattle.durable_records.specs.Branches.{Grant, grants}
use Rattle.durable_records.specs.Locks.{has_key}
use Rattle.durable_records.specs.ResourceOrder.{image_keys, read_keys}
use Rattle.durable_records.specs.RowsKept.{Change, ByBranch, ByLocal, ByOutside, changes}
use Rattle.history_rules.specs.ResourceMemory.{Setup, Open, Memory, has_row}
use Rattle.history_rules.specs.Nodes.{World, Past, counted_at}
use Rattle.history_rules.specs.Histories.{Moment, Legal}
use Rattle.history_rules.specs.Chains.{IsChain, IsBlankPast}
use Rattle.history_law.specs.Points.{In, AtEachPoint, InEachHistory}
use Rattle.history_law.specs.SessionSafety.{session_records}
use Rattle.history_law.specs.Cover.{all_of, memory_of}
use Rattle.history_law.specs.TicketSafety.{AreNumbered}
use Rattle.history_law.specs.EndingSafety.{is_committed}

-- a change may lie under that of branch b of x: where it is of a branch, its transaction is decided commit, or it is of an
-- earlier branch of x
abbrev pub LiesUnder : List SessionRecord → (x b : ℕ) → Change → Type 0
LiesUnder rs x b (ByBranch y d before after) = (is_commit (decided rs y) ≡ true) ⊎ ((y ≡ x) × (d < b))
LiesUnder rs x b (ByLocal after) = Unit {0}
LiesUnder rs x b (ByOutside after) = Unit {0}

-- all these changes may lie under it
abbrev pub LieUnder : List SessionRecord → (x b : ℕ) → List Change → Type 0
LieUnder rs x b cs = (c : Change) → In c cs → LiesUnder rs x b c

-- a change is settled: where it is of a branch, its transaction is decided commit
abbrev pub IsSettled : List SessionRecord → Change → Type 0
IsSettled rs (ByBranch x b before after) = is_commit (decided rs x) ≡ true
IsSettled rs (ByLocal after) = Unit {0}
IsSettled rs (ByOutside after) = Unit {0}

-- all these changes are settled
abbrev pub AreSettled : List SessionRecord → List Change → Type 0
AreSettled rs cs = (c : Change) → In c cs → IsSettled rs c

-- only such changes lie under each change by a branch, and only settled ones under each change by a local transaction
abbrev pub ArePiled : List SessionRecord → List Change → Type 0
ArePiled rs [] = Unit {0}
ArePiled rs (ByBranch x b before after ∷ cs) = LieUnder rs x b cs × ArePiled rs cs
ArePiled rs (ByLocal after ∷ cs) = AreSettled rs cs × ArePiled rs cs
ArePiled rs (ByOutside after ∷ cs) = ArePiled rs cs

-- a row that these images or reads have
abbrev pub HasRow : List Image → List ReadRow → RowKey → Type 0
HasRow images reads key = (has_key (image_keys images) key || has_key (read_keys reads) key) ≡ true

-- under each local commit lie, on every row that it touched or only read, only changes that may lie under its branch
abbrev pub CommitsLie : List SessionRecord → List ResourceRecord → Type 0
CommitsLie rs [] = Unit {0}
CommitsLie rs (log.Committed xid branch call images reads ∷ records) = CommitsLie rs records
    × ((key : RowKey) → HasRow images reads key → LieUnder rs xid.0 branch.0 (changes records key))
CommitsLie rs (_ ∷ records) = CommitsLie rs records

-- branch b of x committed locally
abbrev pub HasCommitted : List ResourceRecord → (x b : ℕ) → Type 0
HasCommitted records x b = (r : ResourceRecord) × (In r records) × (is_committed x b r ≡ true)

-- each undo stands after the local commit of its branch
abbrev pub UndosFollow : List ResourceRecord → Type 0
UndosFollow [] = Unit {0}
UndosFollow (log.Undone xid branch ∷ records) = UndosFollow records × HasCommitted records xid.0 branch.0
UndosFollow (_ ∷ records) = UndosFollow records

-- of resource n: the changes of each row that aren't undone; what lies under each local commit; each undo after its commit; and while
-- the ticket of a branch is open after its grant, what lies on the rows of the ticket
pub record RowsAreInOrder (rs : List SessionRecord) (n : ℕ) (m : Memory) : Type 0 where
  pub piled : (key : RowKey) → ArePiled rs (changes m.left.records key)
  pub commits_lie : CommitsLie rs m.left.records
  pub undos_follow : UndosFollow m.left.records
  pub open_lie : (g : Grant) → In g (grants rs) → g.kind ≡ kind.At → g.resource ≡ n → (o : Open) → In o m.opens → o.ticket ≡ g.ticket
      → (key : RowKey) → has_row key o ≡ true → LieUnder rs g.xid g.branch (changes m.left.records key)

-- of each resource, after a history
abbrev pub RowsArePiled : World → Past → List Moment → Type 0
RowsArePiled w past ms = (n : ℕ) (s : Setup) → counted_at w.resources n ≡ Some s → RowsAreInOrder (session_records past ms) n (memory_of past ms n s)

-- at each point of a history
abbrev pub RowsStayPiled : World → Past → List Moment → Type 0
RowsStayPiled w past ms = AtEachPoint (RowsArePiled w past) ms

-- in a legal history over disks without records
abbrev pub RowsLaw : Type 0
RowsLaw = (w : World) (past : Past) (ms : List Moment) → AreNumbered w → IsBlankPast past → Legal w past ms → RowsStayPiled w past ms

-- and in every chain
abbrev pub RowsOfChains : Type 0
RowsOfChains = (w : World) (histories : List (Past × List Moment)) → AreNumbered w → IsChain w histories → InEachHistory (RowsStayPiled w) histories

-- ---- from a grant to the local commit

-- branch b of x commits locally in these records, with these images and reads
pub record CommitsIn (rs : List ResourceRecord) (x b : ℕ) (images : List Image) (reads : List ReadRow) : Type 0 where
  pub xid : Xid
  pub branch : BranchId
  pub call : ℕ
  pub there : In (log.Committed xid branch call images reads) rs
  pub of : xid.0 ≡ x
  pub number : branch.0 ≡ b

-- at a point at which branch g is granted and hasn't committed, also not in flight: on each row that its later local commit touches or
-- reads lie only changes that may lie under it
abbrev pub IsFreeBefore : Past → (later before : List Moment) → ℕ → Setup → Grant → Type 0
IsFreeBefore past later before n s g = In g (grants (session_records past before))
    → ((images : List Image) (reads : List ReadRow) → CommitsIn (all_of (memory_of past before n s).left) g.xid g.branch images reads → ⊥)
    → (images : List Image) (reads : List ReadRow) → CommitsIn (all_of (memory_of past (later ++ before) n s).left) g.xid g.branch images reads
    → (key : RowKey) → HasRow images reads key
    → LieUnder (session_records past before) g.xid g.branch (changes (memory_of past before n s).left.records key)

-- of each point of a history, from the grant of a branch to its local commit
abbrev pub AreFreeSinceGrants : World → Past → List Moment → Type 0
AreFreeSinceGrants w past ms = (later before : List Moment) → ms ≡ later ++ before → (n : ℕ) (s : Setup) → counted_at w.resources n ≡ Some s
    → (g : Grant) → g.kind ≡ kind.At → g.resource ≡ n → IsFreeBefore past later before n s g

-- in a legal history over disks without records
abbrev pub FreeLaw : Type 0
FreeLaw = (w : World) (past : Past) (ms : List Moment) → AreNumbered w → IsBlankPast past → Legal w past ms → AreFreeSinceGrants w past ms

-- and in every chain
abbrev pub FreeOfChains : Type 0
FreeOfChains = (w : World) (histories : List (Past × List Moment)) → AreNumbered w → IsChain w histories → InEachHistory (AreFreeSinceGrants w) histories
