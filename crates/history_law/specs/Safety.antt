-- What is safe, in six sentences, at each point of a history.
use Rattle.std.specs.Prelude.{◌≡◌, ℕ, true, List, Some}
use Rattle.seata_types.specs.declared.rows.RowKey.{RowKey}
use Rattle.durable_records.specs.declared.coordinators.SessionRecord.{SessionRecord}
use Rattle.durable_records.specs.Transactions.{decided, is_commit, is_rollback}
use Rattle.durable_records.specs.Branches.{Grant, grants}
use Rattle.durable_records.specs.Progress.{progress, is_done}
use Rattle.durable_records.specs.RowsKept.{Change, changes}
use Rattle.history_rules.specs.ResourceMemory.{Setup, Memory}
use Rattle.history_rules.specs.Nodes.{World, Past, counted_at}
use Rattle.history_rules.specs.Histories.{Moment, Legal}
use Rattle.history_rules.specs.Chains.{IsChain, IsBlankPast}
use Rattle.history_law.specs.Points.{In, AtEachPoint, InEachHistory}
use Rattle.history_law.specs.SessionSafety.{session_records, HasOneHolder}
use Rattle.history_law.specs.Cover.{all_of, memory_of}
use Rattle.history_law.specs.TicketSafety.{AreNumbered, IsCovered}
use Rattle.history_law.specs.BranchSafety.{AreOfBranches, StandsAlone}
use Rattle.history_law.specs.EndingSafety.{IsKeptBy, IsStruckBy}
use Rattle.history_law.specs.CallSafety.{NoneIsUnfenced}
use Rattle.history_law.specs.OnceSafety.{WorkedOnce}
use Rattle.history_law.specs.OrderSafety.{CommitsLie, UndosFollow, AreFreeSinceGrants}
use Rattle.history_law.specs.FinishSafety.{FinishesAsDecided}
use Rattle.history_law.specs.ValueSafety.{HasModes, AreKept, AreEffects, DirtyByOutside}

-- what is asked of a scenario: each resource stands at its number, the statements of AT calls name AT tables, and those of TCC
-- actions TCC tables
pub record IsScenario (w : World) : Type 0 where
  pub numbered : AreNumbered w
  pub modes : HasModes w

-- ---- one point

-- a branch of a transaction that is finished after a commit: all its records stand at its own resource and are of its mode; an AT
-- branch was not undone, and a TCC branch was confirmed once and never cancelled or suspended
pub record IsKept (w : World) (mem : ℕ → Setup → Memory) (g : Grant) : Type 0 where
  pub alone : StandsAlone w mem g
  pub by_records : (s : Setup) → counted_at w.resources g.resource ≡ Some s → IsKeptBy g.kind (mem g.resource s).left.records g.xid g.branch

-- one of a transaction that is finished after a rollback or timeout: the same of its records; an AT branch committed at most once and
-- was undone as often, a TCC branch was cancelled or suspended once, was not tried where it is suspended, and never confirmed
pub record IsStruck (w : World) (mem : ℕ → Setup → Memory) (g : Grant) : Type 0 where
  pub alone : StandsAlone w mem g
  pub by_records : (s : Setup) → counted_at w.resources g.resource ≡ Some s → IsStruckBy g.kind (mem g.resource s).left.records g.xid g.branch

-- all branches of x are kept, and all are struck
abbrev pub EndsCommitted : World → List SessionRecord → (ℕ → Setup → Memory) → ℕ → Type 0
EndsCommitted w rs mem x = (g : Grant) → In g (grants rs) → g.xid ≡ x → IsKept w mem g

abbrev pub EndsRolledBack : World → List SessionRecord → (ℕ → Setup → Memory) → ℕ → Type 0
EndsRolledBack w rs mem x = (g : Grant) → In g (grants rs) → g.xid ≡ x → IsStruck w mem g

-- the local commits of resource n: on the rows that one touched or read, only settled changes and those of earlier branches of its
-- own transaction lie under it; and it, or the one in flight, is the effect of its call on rows that were kept at the opening of its
-- ticket and that are the same at the commit
pub record HaveReadKept (w : World) (past : Past) (ms : List Moment) (n : ℕ) (s : Setup) (m : Memory) : Type 0 where
  pub lie : CommitsLie (session_records past ms) m.left.records
  pub effects : AreEffects w past ms (session_records past ms) n s m.left.records
  pub in_flight : AreEffects w past ms (session_records past ms) n s (all_of m.left)

-- of the coordinator's records and what the entries of each resource leave: no row has two holders; each change that isn't undone is
-- covered; each row of an AT table that no outside write touched is kept; of a transaction that is decided commit, so also at the point of
-- its decision, each call has worked once; each record of a branch is of one that was granted to its resource, in its mode; finished
-- ones have ended as they were decided, and each undo stands after its local commit; and local commits have read rows that were kept
pub record IsSafe (w : World) (past : Past) (ms : List Moment) : Type 0 where
  pub one_holder : (key : RowKey) → HasOneHolder (session_records past ms) key
  pub covered : (n : ℕ) (s : Setup) → counted_at w.resources n ≡ Some s → (key : RowKey) (c : Change) → In c (changes (memory_of past ms n s).left.records key) → IsCovered (session_records past ms) key c
  pub kept : (n : ℕ) (s : Setup) → counted_at w.resources n ≡ Some s → AreKept s (memory_of past ms n s).left.records
  pub worked : (x : ℕ) → is_commit (decided (session_records past ms) x) ≡ true → WorkedOnce w (session_records past ms) (memory_of past ms) x
  pub granted : (n : ℕ) (s : Setup) → counted_at w.resources n ≡ Some s → AreOfBranches (session_records past ms) n (memory_of past ms n s).left.records
  pub committed : (x : ℕ) → is_done (progress (session_records past ms) x) ≡ true → is_commit (decided (session_records past ms) x) ≡ true → EndsCommitted w (session_records past ms) (memory_of past ms) x
  pub rolled_back : (x : ℕ) → is_done (progress (session_records past ms) x) ≡ true → is_rollback (decided (session_records past ms) x) ≡ true → EndsRolledBack w (session_records past ms) (memory_of past ms) x
  pub undone : (n : ℕ) (s : Setup) → counted_at w.resources n ≡ Some s → UndosFollow (memory_of past ms n s).left.records
  pub reads : (n : ℕ) (s : Setup) → counted_at w.resources n ≡ Some s → HaveReadKept w past ms n s (memory_of past ms n s)

-- ---- a history

-- it is safe at each point; no fence refuses a second phase; a rollback finds a row dirty only where an outside write touched it after
-- the local commit; each finish tells the status of its decision; and from the grant of a branch to its local commit only settled
-- changes and those of earlier branches of its own transaction lie on the rows that it touches or reads
pub record IsSafeHistory (w : World) (past : Past) (ms : List Moment) : Type 0 where
  pub at_each_point : AtEachPoint (IsSafe w past) ms
  pub none_unfenced : NoneIsUnfenced ms
  pub dirty : DirtyByOutside w past ms
  pub finishes : FinishesAsDecided past ms
  pub since_grants : AreFreeSinceGrants w past ms

-- each legal history over disks without records
abbrev pub SafetyLaw : Type 0
SafetyLaw = (w : World) (past : Past) (ms : List Moment) → IsScenario w → IsBlankPast past → Legal w past ms → IsSafeHistory w past ms

-- and each history of a chain
abbrev pub SafetyOfChains : Type 0
SafetyOfChains = (w : World) (histories : List (Past × List Moment)) → IsScenario w → IsChain w histories → InEachHistory (IsSafeHistory w) histories
