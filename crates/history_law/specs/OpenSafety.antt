-- What the list of open tickets says in the words of entries: which tickets are open, and which is sent next.
use Rattle.std.specs.Prelude.{◌≡◌, ℕ, List, ◌∷◌, ◌++◌, Some}
use Rattle.seata_types.specs.declared.acts.Act.{Act}
use Rattle.seata_types.specs.declared.acts.Act.TheVariants as act
use Rattle.seata_types.specs.declared.acts.Durable.TheVariants as durable
use Rattle.seata_types.specs.declared.ids.Place.TheVariants as place
use Rattle.seata_types.specs.declared.ids.Ticket.{Ticket}
use Rattle.history_rules.specs.Own.{Own}
use Rattle.history_rules.specs.CoordinatorRules.{last_of}
use Rattle.history_rules.specs.ResourceMemory.{Setup, Open}
use Rattle.history_rules.specs.Nodes.{World, Past, counted_at}
use Rattle.history_rules.specs.Histories.{Moment, own, Legal}
use Rattle.history_law.specs.Points.{In}
use Rattle.history_law.specs.Cover.{memory_of}

-- ---- what an act is to a ticket

-- it opens the ticket, for a call or a local transaction
abbrev pub IsOpening : Ticket → Act → Type 0
IsOpening t (act.Opened xid call u) = u ≡ t
IsOpening t (act.OpenedLocal number u) = u ≡ t
IsOpening t _ = ⊥

-- it ends the ticket: by a local commit, a Try or a local transaction that is done, or since its call or local transaction is dropped
abbrev pub IsEnding : Ticket → Act → Type 0
IsEnding t (act.Durable (durable.Committed xid branch u)) = u ≡ t
IsEnding t (act.Durable (durable.Tried xid branch u)) = u ≡ t
IsEnding t (act.Durable (durable.LocalCommitted number u)) = u ≡ t
IsEnding t (act.Dropped xid call u cause) = u ≡ t
IsEnding t (act.DroppedLocal number u key holder) = u ≡ t
IsEnding t _ = ⊥

-- it asks the coordinator for the ticket: at its opening, or again
abbrev pub IsSending : Ticket → Act → Type 0
IsSending t (act.Opened xid call u) = u ≡ t
IsSending t (act.OpenedLocal number u) = u ≡ t
IsSending t (act.Resent u) = u ≡ t
IsSending t _ = ⊥

-- the node goes down
abbrev pub IsFall : Act → Type 0
IsFall (act.Down kept at) = Unit {0}
IsFall _ = ⊥

-- ---- what entries are to a ticket

-- an entry opened the ticket, and at none after it the node went down or the ticket ended
pub record IsOpenAfter (os : List Own) (t : Ticket) : Type 0 where
  pub later : List Own
  pub opening : Own
  pub before : List Own
  pub splits : os ≡ later ++ (opening ∷ before)
  pub opens : IsOpening t opening.step.act
  pub lasts : (o : Own) → In o later → (IsFall o.step.act → ⊥) × (IsEnding t o.step.act → ⊥)

-- an entry sent ticket t, and neither it nor one after it sent ticket u
pub record IsSentSince (os : List Own) (t u : Ticket) : Type 0 where
  pub later : List Own
  pub sending : Own
  pub before : List Own
  pub splits : os ≡ later ++ (sending ∷ before)
  pub sends : IsSending t sending.step.act
  pub other : IsSending u sending.step.act → ⊥
  pub none : (o : Own) → In o later → IsSending u o.step.act → ⊥

-- ---- the law

-- the open tickets are those; and the one that a turn sends again is the one that was sent longest ago: each other was sent since
pub record AreOpenTickets (os : List Own) (opens : List Open) : Type 0 where
  pub opened : (o : Open) → In o opens → IsOpenAfter os o.ticket
  pub still_open : (t : Ticket) → IsOpenAfter os t → (o : Open) × (In o opens) × (o.ticket ≡ t)
  pub next : (o : Open) → last_of opens ≡ Some o → (p : Open) → In p opens → (p.ticket ≡ o.ticket → ⊥) → IsSentSince os p.ticket o.ticket

-- of each resource, in every legal history
abbrev pub OpenTicketsLaw : Type 0
OpenTicketsLaw = (w : World) (past : Past) (ms : List Moment) → Legal w past ms → (n : ℕ) (s : Setup) → counted_at w.resources n ≡ Some s
    → AreOpenTickets (own (place.Res n) ms) (memory_of past ms n s).opens
