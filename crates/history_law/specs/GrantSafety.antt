-- What is safe about grants: the ticket of a branch was opened before.
use Rattle.std.specs.Prelude.{◌≡◌, ◌⊎◌, ℕ, List}
use Rattle.seata_types.specs.declared.acts.Act.TheVariants as act
use Rattle.seata_types.specs.declared.ids.Place.TheVariants as place
use Rattle.seata_types.specs.declared.ids.Ticket.{Ticket}
use Rattle.seata_types.specs.declared.ids.Xid.{Xid}
use Rattle.durable_records.specs.declared.coordinators.SessionRecord.{SessionRecord}
use Rattle.durable_records.specs.Branches.{Grant, grants}
use Rattle.history_rules.specs.Nodes.{World, Past}
use Rattle.history_rules.specs.Histories.{Moment, Legal, coordinator_left}
use Rattle.history_law.specs.Points.{In, AtEachPoint}
use Rattle.history_law.specs.Cover.{all_of}
use Rattle.history_law.specs.TicketSafety.{AreNumbered}

-- one of these entries opened ticket t at resource n for call c of x
pub record WasOpened (ms : List Moment) (n : ℕ) (t : Ticket) (x c : ℕ) : Type 0 where
  pub entry : Moment
  pub there : In entry ms
  pub at : entry.place ≡ place.Res n
  pub xid : Xid
  pub of : xid.0 ≡ x
  pub opened : entry.step.act ≡ act.Opened xid c t

-- each branch of these records was granted before this history, or its ticket was opened at its resource, for its call
abbrev pub AreOpened : Past → List Moment → List SessionRecord → Type 0
AreOpened past ms rs = (g : Grant) → In g (grants rs) → In g (grants past.sessions) ⊎ WasOpened ms g.resource g.ticket g.xid g.call

-- at each point of a history, also of the branch whose grant is in flight
abbrev pub GrantsFollow : Past → List Moment → Type 0
GrantsFollow past ms = AtEachPoint (λ before. AreOpened past before (all_of (coordinator_left past before))) ms

-- in every legal history
abbrev pub GrantsLaw : Type 0
GrantsLaw = (w : World) (past : Past) (ms : List Moment) → AreNumbered w → Legal w past ms → GrantsFollow past ms
