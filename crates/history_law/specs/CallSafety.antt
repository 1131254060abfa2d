-- What is safe about calls: each branch is of a call of the manager that began its transaction, and no fence refuses a second
-- phase.
use Rattle.std.specs.Prelude.{◌≡◌, ◌+◌, ℕ, true, List, [], ◌∷◌, slice_get, Some}
use Rattle.seata_types.specs.declared.acts.Act.TheVariants as act
use Rattle.seata_types.specs.declared.ids.BranchId.{BranchId}
use Rattle.seata_types.specs.declared.ids.Place.TheVariants as place
use Rattle.seata_types.specs.declared.ids.Xid.{Xid}
use Rattle.seata_types.specs.declared.statements.Work.{Work}
use Rattle.seata_types.specs.declared.statuses.BranchKind.{BranchKind}
use Rattle.seata_types.specs.declared.statuses.BranchKind.TheVariants as kind
use Rattle.durable_records.specs.declared.coordinators.SessionRecord.{SessionRecord}
use Rattle.durable_records.specs.Transactions.{Session, sessions, decided, is_commit}
use Rattle.durable_records.specs.Branches.{Grant, grants}
use Rattle.history_rules.specs.ResourceMemory.{Setup, Memory}
use Rattle.history_rules.specs.ManagerRules.{Settings}
use Rattle.history_rules.specs.Nodes.{World, Past, counted_at}
use Rattle.history_rules.specs.Histories.{Moment, Legal}
use Rattle.history_rules.specs.Chains.{IsChain, IsBlankPast}
use Rattle.history_law.specs.Points.{In, AtEachPoint, InEachHistory}
use Rattle.history_law.specs.SessionSafety.{session_records}
use Rattle.history_law.specs.Tickets.{kind_of}
use Rattle.history_law.specs.Cover.{memory_of}
use Rattle.history_law.specs.TicketSafety.{AreNumbered}
use Rattle.history_law.specs.WorkSafety.{AllWorked}

-- ---- calls

-- manager k began x
pub record Owns (rs : List SessionRecord) (k x : ℕ) : Type 0 where
  pub began : Session
  pub there : In began (sessions rs)
  pub xid : began.xid ≡ x
  pub manager : began.manager ≡ k

-- call c of x goes to resource r and is of this kind, by the settings of the manager that began x
pub record IsCallOf (w : World) (rs : List SessionRecord) (x c r : ℕ) (k : BranchKind) : Type 0 where
  pub manager : ℕ
  pub owns : Owns rs manager x
  pub settings : Settings
  pub known : counted_at w.managers manager ≡ Some settings
  pub before : ℕ
  pub index : c ≡ before + 1
  pub work : Work
  pub is : slice_get settings.calls before ≡ Some (r, work)
  pub of_kind : kind_of work ≡ k

-- a call has one TCC branch at most
abbrev pub HasOneTcc : List SessionRecord → Type 0
HasOneTcc rs = (g h : Grant) → In g (grants rs) → In h (grants rs) → g.kind ≡ kind.Tcc → h.kind ≡ kind.Tcc
    → g.xid ≡ h.xid → g.resource ≡ h.resource → g.call ≡ h.call → g ≡ h

-- each call of the manager that began x has worked for it
pub record OwnWorked (w : World) (rs : List SessionRecord) (mem : ℕ → Setup → Memory) (x : ℕ) : Type 0 where
  pub all : AllWorked w mem x
  pub owns : Owns rs all.manager x

-- each branch is of a call; a call has one TCC branch at most; and a transaction is decided commit only where each call of its
-- own manager has worked for it
pub record CallsAreSafe (w : World) (past : Past) (ms : List Moment) : Type 0 where
  pub of_calls : (g : Grant) → In g (grants (session_records past ms)) → IsCallOf w (session_records past ms) g.xid g.call g.resource g.kind
  pub one_tcc : HasOneTcc (session_records past ms)
  pub worked : (x : ℕ) → is_commit (decided (session_records past ms) x) ≡ true → OwnWorked w (session_records past ms) (memory_of past ms) x

-- at each point of a history
abbrev pub CallsStaySafe : World → Past → List Moment → Type 0
CallsStaySafe w past ms = AtEachPoint (CallsAreSafe w past) ms

-- in a legal history over disks without records
abbrev pub CallsLaw : Type 0
CallsLaw = (w : World) (past : Past) (ms : List Moment) → AreNumbered w → IsBlankPast past → Legal w past ms → CallsStaySafe w past ms

-- and in every chain
abbrev pub CallsOfChains : Type 0
CallsOfChains = (w : World) (histories : List (Past × List Moment)) → AreNumbered w → IsChain w histories → InEachHistory (CallsStaySafe w) histories

-- ---- fences

-- no entry of a resource tells that a fence refused a confirm or a cancel
abbrev pub NoneIsUnfenced : List Moment → Type 0
NoneIsUnfenced [] = Unit {0}
NoneIsUnfenced (m ∷ ms) = NoneIsUnfenced ms × ((k : ℕ) (xid : Xid) (branch : BranchId) → m.place ≡ place.Res k → m.step.act ≡ act.Unfenced xid branch → ⊥)

-- in a legal history over disks without records
abbrev pub UnfencedLaw : Type 0
UnfencedLaw = (w : World) (past : Past) (ms : List Moment) → AreNumbered w → IsBlankPast past → Legal w past ms → NoneIsUnfenced ms

-- and in every chain
abbrev pub UnfencedOfChains : Type 0
UnfencedOfChains = (w : World) (histories : List (Past × List Moment)) → AreNumbered w → IsChain w histories → InEachHistory (λ past ms. NoneIsUnfenced ms) histories
