-- What is safe about asking for a commit: every call is done before.
use Rattle.std.specs.Prelude.{◌≡◌, ◌<◌, ◌≤◌, ℕ, List, [], ◌∷◌, length, Some}
use Rattle.seata_types.specs.declared.ids.BranchId.{BranchId}
use Rattle.seata_types.specs.declared.ids.Place.{Place}
use Rattle.seata_types.specs.declared.ids.Place.TheVariants as place
use Rattle.seata_types.specs.declared.ids.Xid.{Xid}
use Rattle.seata_types.specs.declared.messages.CallAnswer.TheVariants as called
use Rattle.seata_types.specs.declared.messages.Message.TheVariants as message
use Rattle.seata_types.specs.declared.messages.Outgoing.{Outgoing}
use Rattle.history_rules.specs.ManagerRules.{Settings}
use Rattle.history_rules.specs.Nodes.{World, Past, counted_at}
use Rattle.history_rules.specs.Histories.{Moment, Legal}
use Rattle.history_law.specs.Points.{In}
use Rattle.history_law.specs.TicketSafety.{AreNumbered}

-- one of these entries told manager k that call c of x is done
pub record IsToldDone (ms : List Moment) (k x c : ℕ) : Type 0 where
  pub entry : Moment
  pub there : In entry ms
  pub sent : Outgoing
  pub is : entry.step.sent ≡ Some sent
  pub to : sent.to ≡ place.Man k
  pub xid : Xid
  pub of : xid.0 ≡ x
  pub branch : BranchId
  pub tells : sent.message ≡ message.Answer xid c (called.Done branch)

-- it was told so of each of the first so many calls
abbrev pub AreToldDone : List Moment → (k x last : ℕ) → Type 0
AreToldDone ms k x last = (c : ℕ) → 0 < c → c ≤ last → IsToldDone ms k x c

-- the commit of x is asked for by a manager that was told by these entries that each of its calls is done
pub record IsAskedWhenDone (w : World) (ms : List Moment) (from : Place) (x : ℕ) : Type 0 where
  pub manager : ℕ
  pub settings : Settings
  pub known : counted_at w.managers manager ≡ Some settings
  pub at : from ≡ place.Man manager
  pub done : AreToldDone ms manager x (length settings.calls)

-- each GlobalCommit is sent so, by the entries before it
abbrev pub AskWhenDone : World → List Moment → Type 0
AskWhenDone w [] = Unit {0}
AskWhenDone w (m ∷ ms) = AskWhenDone w ms
    × ((out : Outgoing) (xid : Xid) → m.step.sent ≡ Some out → out.message ≡ message.GlobalCommit xid → IsAskedWhenDone w ms m.place xid.0)

-- in every legal history
abbrev pub AskingLaw : Type 0
AskingLaw = (w : World) (past : Past) (ms : List Moment) → AreNumbered w → Legal w past ms → AskWhenDone w ms
