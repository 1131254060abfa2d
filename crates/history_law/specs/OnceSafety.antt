-- What is safe about the work of calls: it stands once.
use Rattle.std.specs.Prelude.{◌≡◌, ◌+◌, ◌≤◌, ◌==◌, ◌&&◌, ℕ, Bool, true, false, if◌then◌else◌, List, slice_get, Some}
use Rattle.seata_types.specs.declared.statements.Work.{Work}
use Rattle.durable_records.specs.declared.coordinators.SessionRecord.{SessionRecord}
use Rattle.durable_records.specs.declared.resources.ResourceRecord.{ResourceRecord}
use Rattle.durable_records.specs.declared.resources.ResourceRecord.TheVariants as log
use Rattle.durable_records.specs.Transactions.{decided, is_commit}
use Rattle.history_rules.specs.ResourceMemory.{Setup, Memory}
use Rattle.history_rules.specs.ManagerRules.{Settings}
use Rattle.history_rules.specs.Nodes.{World, Past, counted_at}
use Rattle.history_rules.specs.Histories.{Moment, Legal}
use Rattle.history_rules.specs.Chains.{IsChain, IsBlankPast}
use Rattle.history_law.specs.Points.{AtEachPoint, InEachHistory}
use Rattle.history_law.specs.SessionSafety.{session_records}
use Rattle.history_law.specs.Cover.{memory_of}
use Rattle.history_law.specs.TicketSafety.{AreNumbered}
use Rattle.history_law.specs.EndingSafety.{how_many}
use Rattle.history_law.specs.CallSafety.{Owns}

-- the record of the work of call c of x: its local commit, or its Try
abbrev pub is_work : (x c : ℕ) → ResourceRecord → Bool
is_work x c (log.Committed xid branch call images reads) = (xid.0 == x) && (call == c)
is_work x c (log.Tried xid branch call images) = (xid.0 == x) && (call == c)
is_work x c _ = false

-- each call of the manager that began x has worked once, at its resource, and nowhere else
pub record WorkedOnce (w : World) (rs : List SessionRecord) (mem : ℕ → Setup → Memory) (x : ℕ) : Type 0 where
  pub manager : ℕ
  pub owns : Owns rs manager x
  pub settings : Settings
  pub known : counted_at w.managers manager ≡ Some settings
  pub once : (before r : ℕ) (wk : Work) → slice_get settings.calls before ≡ Some (r, wk) → (n : ℕ) (s : Setup) → counted_at w.resources n ≡ Some s
      → how_many (is_work x (before + 1)) (mem n s).left.records ≡ (if n == r then 1 else 0)
  pub stands : (before r : ℕ) (wk : Work) → slice_get settings.calls before ≡ Some (r, wk) → (s : Setup) × (counted_at w.resources r ≡ Some s)

-- at each resource the work of a call stands at most once; and where its transaction is decided commit, once at its resource
pub record WorksAreOnce (w : World) (past : Past) (ms : List Moment) : Type 0 where
  pub at_most : (n : ℕ) (s : Setup) → counted_at w.resources n ≡ Some s → (x c : ℕ) → how_many (is_work x c) (memory_of past ms n s).left.records ≤ 1
  pub committed : (x : ℕ) → is_commit (decided (session_records past ms) x) ≡ true → WorkedOnce w (session_records past ms) (memory_of past ms) x

-- at each point of a history
abbrev pub WorksStayOnce : World → Past → List Moment → Type 0
WorksStayOnce w past ms = AtEachPoint (WorksAreOnce w past) ms

-- in a legal history over disks without records
abbrev pub OnceLaw : Type 0
OnceLaw = (w : World) (past : Past) (ms : List Moment) → AreNumbered w → IsBlankPast past → Legal w past ms → WorksStayOnce w past ms

-- and in every chain
abbrev pub OnceOfChains : Type 0
OnceOfChains = (w : World) (histories : List (Past × List Moment)) → AreNumbered w → IsChain w histories → InEachHistory (WorksStayOnce w) histories
