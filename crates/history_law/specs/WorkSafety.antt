-- What is safe about commits: every call has worked.
use Rattle.std.specs.Prelude.{◌≡◌, ◌<◌, ◌≤◌, ℕ, true, List, length, Some}
use Rattle.durable_records.specs.declared.resources.ResourceRecord.{ResourceRecord}
use Rattle.durable_records.specs.declared.resources.ResourceRecord.TheVariants as log
use Rattle.durable_records.specs.Transactions.{decided, is_commit}
use Rattle.history_rules.specs.ResourceMemory.{Setup, Memory}
use Rattle.history_rules.specs.ManagerRules.{Settings}
use Rattle.history_rules.specs.Nodes.{World, Past, counted_at}
use Rattle.history_rules.specs.Histories.{Moment, Legal}
use Rattle.history_rules.specs.Chains.{IsChain, IsBlankPast}
use Rattle.history_law.specs.Points.{In, AtEachPoint, InEachHistory}
use Rattle.history_law.specs.SessionSafety.{session_records}
use Rattle.history_law.specs.Cover.{memory_of}
use Rattle.history_law.specs.TicketSafety.{AreNumbered}

-- the record of the work of call c of x as branch b: its local commit, or its Try
abbrev pub IsWork : ℕ → ℕ → ℕ → ResourceRecord → Type 0
IsWork x c b (log.Committed xid branch call images reads) = (xid.0 ≡ x) × (call ≡ c) × (branch.0 ≡ b)
IsWork x c b (log.Tried xid branch call images) = (xid.0 ≡ x) × (call ≡ c) × (branch.0 ≡ b)
IsWork x c b _ = ⊥

-- it stands at a resource
pub record HasWorked (w : World) (mem : ℕ → Setup → Memory) (x c b : ℕ) : Type 0 where
  pub number : ℕ
  pub setup : Setup
  pub known : counted_at w.resources number ≡ Some setup
  pub work : ResourceRecord
  pub is : IsWork x c b work
  pub stands : In work (mem number setup).left.records

-- each of the first so many calls of x has worked
abbrev pub WorkedTo : World → (ℕ → Setup → Memory) → ℕ → ℕ → Type 0
WorkedTo w mem x last = (c : ℕ) → 0 < c → c ≤ last → (b : ℕ) × HasWorked w mem x c b

-- there is a manager each of whose calls has worked for x
pub record AllWorked (w : World) (mem : ℕ → Setup → Memory) (x : ℕ) : Type 0 where
  pub manager : ℕ
  pub settings : Settings
  pub known : counted_at w.managers manager ≡ Some settings
  pub worked : WorkedTo w mem x (length settings.calls)

-- a transaction is decided commit only where each call of a manager has worked for it
abbrev pub CommitsAreSafe : World → Past → List Moment → Type 0
CommitsAreSafe w past ms = (x : ℕ) → is_commit (decided (session_records past ms) x) ≡ true → AllWorked w (memory_of past ms) x

-- at each point of a history
abbrev pub CommitsStaySafe : World → Past → List Moment → Type 0
CommitsStaySafe w past ms = AtEachPoint (CommitsAreSafe w past) ms

-- in a legal history over disks without records
abbrev pub CommitsLaw : Type 0
CommitsLaw = (w : World) (past : Past) (ms : List Moment) → AreNumbered w → IsBlankPast past → Legal w past ms → CommitsStaySafe w past ms

-- and in every chain
abbrev pub CommitsOfChains : Type 0
CommitsOfChains = (w : World) (histories : List (Past × List Moment)) → AreNumbered w → IsChain w histories → InEachHistory (CommitsStaySafe w) histories
