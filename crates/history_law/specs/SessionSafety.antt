-- What is safe about transactions, their statuses and the global locks.
use Rattle.std.specs.Prelude.{◌≡◌, ◌⊎◌, ◌+◌, ◌≤◌, ◌==◌, ◌&&◌, ◌||◌, not, ℕ, Bool, true, false, if◌then◌else◌, List, [], ◌∷◌, find, Option, Some, None, is_some}
use Rattle.seata_types.specs.Statuses.{code_of, follows}
use Rattle.seata_types.specs.declared.ids.Place.TheVariants as place
use Rattle.seata_types.specs.declared.messages.Message.{Message}
use Rattle.seata_types.specs.declared.messages.Message.TheVariants as message
use Rattle.seata_types.specs.declared.messages.Outgoing.{Outgoing}
use Rattle.seata_types.specs.declared.rows.RowKey.{RowKey}
use Rattle.seata_types.specs.declared.statuses.Decision.TheVariants as how
use Rattle.seata_types.specs.declared.statuses.GlobalStatus.{GlobalStatus}
use Rattle.seata_types.specs.declared.statuses.GlobalStatus.TheVariants as status
use Rattle.durable_records.specs.declared.coordinators.SessionRecord.{SessionRecord}
use Rattle.durable_records.specs.declared.coordinators.SessionRecord.TheVariants as log
use Rattle.durable_records.specs.Transactions.{session, decided, is_commit, is_rollback}
use Rattle.durable_records.specs.Branches.{unended, unended_branch}
use Rattle.durable_records.specs.Progress.{progress, is_on, is_done, status_of}
use Rattle.durable_records.specs.Locks.{has_key, holding, holds}
use Rattle.durable_records.specs.SessionOrder.{Allowed}
use Rattle.history_rules.specs.Nodes.{World, Past}
use Rattle.history_rules.specs.Histories.{Moment, Legal, coordinator_left}
use Rattle.history_rules.specs.Chains.{IsChain}
use Rattle.history_law.specs.Points.{AtEachPoint, InEachHistory}

-- ---- transactions

-- how often x was decided
abbrev pub decisions : List SessionRecord → ℕ → ℕ
decisions [] x = 0
decisions (log.Decided xid how ∷ rs) x = if xid.0 == x then decisions rs x + 1 else decisions rs x
decisions (_ ∷ rs) x = decisions rs x

-- x is decided
abbrev pub IsDecided : List SessionRecord → ℕ → Type 0
IsDecided rs x = is_some (decided rs x) ≡ true

-- x is decided, and neither finished nor failed
abbrev pub IsGoing : List SessionRecord → ℕ → Type 0
IsGoing rs x = IsDecided rs x × (is_on (progress rs x) ≡ true)

-- what a record finds before it: a grant no decision, an end and a failure a decision, a finish that all branches are ended,
-- a forgetting that the transaction is finished
abbrev pub Finds : List SessionRecord → SessionRecord → Type 0
Finds rs (log.Granted xid branch resource call ticket kind hold) = decided rs xid.0 ≡ None
Finds rs (log.Decided xid how) = decided rs xid.0 ≡ None
Finds rs (log.Ended xid branch) = IsGoing rs xid.0
Finds rs (log.Failed xid branch stmt) = IsGoing rs xid.0
Finds rs (log.Finished xid) = IsGoing rs xid.0 × (unended rs xid.0 ≡ [])
Finds rs (log.Forgot xid) = IsDecided rs xid.0 × (is_done (progress rs xid.0) ≡ true)
Finds rs _ = Unit {0}

-- each record finds that before it
abbrev pub AreInOrder : List SessionRecord → Type 0
AreInOrder [] = Unit {0}
AreInOrder (r ∷ rs) = AreInOrder rs × Finds rs r

-- ---- statuses

-- the statuses of a finished transaction
abbrev pub is_end : GlobalStatus → Bool
is_end status.Committed = true
is_end status.Rollbacked = true
is_end status.TimeoutRollbacked = true
is_end _ = false

-- a status stays, follows by the table, is the first one of a transaction that had not begun, or is gone with a finished one
-- that is forgotten
abbrev pub IsChange : (begun : Bool) → GlobalStatus → GlobalStatus → Type 0
IsChange begun before now = (now ≡ before) ⊎ (follows (code_of before) (code_of now) ≡ true)
    ⊎ ((begun ≡ false) × (now ≡ status.Begin)) ⊎ ((is_end before ≡ true) × (now ≡ status.Finished))

-- the status of x changes so with each record
abbrev pub ChangesByTable : List SessionRecord → ℕ → Type 0
ChangesByTable [] x = Unit {0}
ChangesByTable (r ∷ rs) x = ChangesByTable rs x × IsChange (is_some (session rs x)) (status_of rs x) (status_of (r ∷ rs) x)

-- ---- holders

-- no two transactions hold a row
abbrev pub HasOneHolder : List SessionRecord → RowKey → Type 0
HasOneHolder rs key = (x y : ℕ) → holds rs x key ≡ true → holds rs y key ≡ true → x ≡ y

-- whether x holds a row by another branch than branch b of y
abbrev pub holds_besides : List SessionRecord → (y b x : ℕ) → RowKey → Bool
holds_besides rs y b x key = is_some (find (λ g. (g.xid == x) && not ((y == g.xid) && (b == g.branch))) (holding rs key))

-- whether x holds a row after a record, by who held it before: a grant gives its transaction the rows of the branch, an end
-- takes those of the branch, a commit all of its transaction, and nothing else changes a holder
abbrev pub holds_after : List SessionRecord → SessionRecord → ℕ → RowKey → Bool
holds_after rs (log.Granted xid branch resource call ticket kind hold) x key = ((xid.0 == x) && has_key hold key) || holds rs x key
holds_after rs (log.Ended xid branch) x key = holds_besides rs xid.0 branch.0 x key
holds_after rs (log.Decided xid how.Commit) x key = not (xid.0 == x) && holds rs x key
holds_after rs _ x key = holds rs x key

-- the holders of each row change so with each record
abbrev pub HoldersChange : List SessionRecord → Type 0
HoldersChange [] = Unit {0}
HoldersChange (r ∷ rs) = HoldersChange rs × ((x : ℕ) (key : RowKey) → holds (r ∷ rs) x key ≡ holds_after rs r x key)

-- ---- the law

-- what holds of the coordinator's records
pub record SessionsAreSafe (rs : List SessionRecord) : Type 0 where
  pub decided_once : (x : ℕ) → decisions rs x ≤ 1
  pub in_order : AreInOrder rs
  pub by_table : (x : ℕ) → ChangesByTable rs x
  pub one_holder : (key : RowKey) → HasOneHolder rs key
  pub holders_change : HoldersChange rs

-- the coordinator's records that stand after a history
abbrev pub session_records : Past → List Moment → List SessionRecord
session_records past ms = (coordinator_left past ms).records

-- at each point of a history
abbrev pub SessionsStaySafe : Past → List Moment → Type 0
SessionsStaySafe past ms = AtEachPoint (λ before. SessionsAreSafe (session_records past before)) ms

-- in a legal history over records each of which may come after those before it
abbrev pub SessionsLaw : Type 0
SessionsLaw = (w : World) (past : Past) (ms : List Moment) → Allowed past.sessions → Legal w past ms → SessionsStaySafe past ms

-- and in every chain
abbrev pub SessionsOfChains : Type 0
SessionsOfChains = (w : World) (histories : List (Past × List Moment)) → IsChain w histories → InEachHistory SessionsStaySafe histories

-- ---- questions

-- a branch is asked as its transaction is decided, and only while it isn't ended
abbrev pub IsAsked : List SessionRecord → Message → Type 0
IsAsked rs (message.BranchCommit xid branch kind manager call) =
    (is_commit (decided rs xid.0) ≡ true) × (is_some (unended_branch rs xid.0 branch.0) ≡ true)
IsAsked rs (message.BranchRollback xid branch kind manager call) =
    (is_rollback (decided rs xid.0) ≡ true) × (is_some (unended_branch rs xid.0 branch.0) ≡ true)
IsAsked rs _ = Unit {0}

-- the same of the message that was sent, if one was
abbrev pub Asks : List SessionRecord → Option Outgoing → Type 0
Asks rs None = Unit {0}
Asks rs (Some out) = IsAsked rs out.message

-- each message of the coordinator, by the records that stood before its entry
abbrev pub AsksAsDecided : Past → List Moment → Type 0
AsksAsDecided past [] = Unit {0}
AsksAsDecided past (m ∷ ms) = AsksAsDecided past ms × (m.place ≡ place.Tc → Asks (session_records past ms) m.step.sent)

-- in every legal history
abbrev pub QuestionsLaw : Type 0
QuestionsLaw = (w : World) (past : Past) (ms : List Moment) → Legal w past ms → AsksAsDecided past ms
