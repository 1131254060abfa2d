-- The act at which the ticket of a call is opened.
use Rattle.std.proofs.Common.{◌≡◌, inl, inr, ℕ, map, Option, Some, None, refl, ap, sym, subst, ◌∙◌}
use Rattle.seata_types.specs.declared.acts.Act.{Act}
use Rattle.seata_types.specs.declared.acts.Act.TheVariants as act
use Rattle.seata_types.specs.declared.acts.Durable.{Durable}
use Rattle.seata_types.specs.declared.acts.Durable.TheVariants as durable
use Rattle.seata_types.specs.declared.ids.Ticket.{Ticket}
use Rattle.seata_types.specs.declared.ids.Xid.{Xid}
use Rattle.seata_types.specs.declared.statements.Work.TheVariants as work
use Rattle.history_rules.specs.Own.{Event}
use Rattle.history_rules.specs.ResourceMemory.{Setup, Owner, OfCall, OfLocal, Open, Memory, next_ticket, open_at, with_first, counting, call_of, opened_for, opens_after}
use Rattle.history_law.specs.Points.{In}
use Rattle.history_law.specs.Tickets.{Tickets, IsAtOf}
use Rattle.history_law.proofs.ResourceFits.{tables_now, IsForCall, IsForLocal}
use Rattle.history_law.proofs.ResourceSteps.{ActFinds}
use Rattle.history_law.proofs.TicketSteps.{in_without, in_resent, in_counting, counting_ticket, next_not_given}

-- a ticket of transaction x
abbrev pub IsOf : ℕ → Owner → Type 0
IsOf x (OfCall manager y c wk) = y ≡ x
IsOf x (OfLocal k) = ⊥

pub at_of : (x : ℕ) (owner : Owner) → IsAtOf x owner → IsOf x owner
at_of x (OfCall manager y c (work.At stmts)) e = e
at_of x (OfCall manager y c (work.Tcc action)) e = absurd e
at_of x (OfLocal k) e = absurd e

-- the act opened this ticket, for its call of x
pub record OpenedBy (done : Act) (x : ℕ) (o : Open) : Type 0 where
  pub xid : Xid
  pub of : xid.0 ≡ x
  pub is : done ≡ act.Opened xid (call_of o.owner) o.ticket

-- the next ticket, which wasn't open before
module _ (s : Setup) (m : Memory) (ts : Tickets m) (event : Event) (o : Open) (next : o.ticket ≡ next_ticket m) where
  not_open : In o m.opens → ⊥
  not_open i = next_not_given m o.ticket (ts.given o i) next

  not_counted : (t : Ticket) (k : ℕ) → In o (map (counting t k) m.opens) → ⊥
  not_counted t k i =
      let f = in_counting t k m.opens o i in
      next_not_given m f.0.ticket (ts.given f.0 f.1) (sym (ap (λ q. q.ticket) f.2 ∙ counting_ticket t k f.0) ∙ next)

  for_call : (xid : Xid) (c : ℕ) (t : Ticket) → t ≡ next_ticket m → (f : Option Open) → IsForCall xid.0 c f → In o (with_first f m.opens) → (x : ℕ) → IsOf x o.owner → OpenedBy (act.Opened xid c t) x o
  for_call xid c t at None for i x is = absurd for
  for_call xid c t at (Some a) for (inr i) x is = absurd (not_open i)
  for_call xid c t at (Some a) for (inl e) x is =
      let owner : o.owner ≡ OfCall for.0 xid.0 c for.1 = ap (λ (q : Open). q.owner) e ∙ for.2 in
      let call : c ≡ call_of o.owner = sym (ap call_of owner) in
      let ticket : t ≡ o.ticket = at ∙ sym next in
      record {
        xid = xid;
        of = subst (IsOf x) owner is;
        is = ap (λ (z : ℕ). act.Opened xid z t) call ∙ ap (λ (z : Ticket). act.Opened xid (call_of o.owner) z) ticket;
      }

  not_local : (k : ℕ) (f : Option Open) → IsForLocal k f → In o (with_first f m.opens) → (x : ℕ) → IsOf x o.owner → ⊥
  not_local k None for i x is = for
  not_local k (Some a) for (inr i) x is = not_open i
  not_local k (Some a) for (inl e) x is = subst (IsOf x) (ap (λ (q : Open). q.owner) e ∙ for) is

  not_durable : (d : Durable) → In o (opens_after s (tables_now s m) event (act.Durable d) m.opens) → ⊥
  not_durable (durable.Committed xid b t) i = not_open (in_without m.opens t o i)
  not_durable (durable.Tried xid b t) i = not_open (in_without m.opens t o i)
  not_durable (durable.LocalCommitted n t) i = not_open (in_without m.opens t o i)
  not_durable _ i = not_open i

  pub opened_by : (done : Act) → ActFinds s m event done → In o (opens_after s (tables_now s m) event done m.opens) → (x : ℕ) → IsOf x o.owner → OpenedBy done x o
  opened_by (act.Opened xid c t) f i x is = for_call xid c t f.0 (opened_for s (tables_now s m) t event) f.1 i x is
  opened_by (act.OpenedLocal k t) f i x is = absurd (not_local k (opened_for s (tables_now s m) t event) f.1 i x is)
  opened_by (act.Resent t) f i x is = absurd (not_open (in_resent m.opens t (open_at m.opens t) refl o i))
  opened_by (act.Conflicted t k) f i x is = absurd (not_counted t k i)
  opened_by (act.Dropped xid c t cause) f i x is = absurd (not_open (in_without m.opens t o i))
  opened_by (act.DroppedLocal k t key holder) f i x is = absurd (not_open (in_without m.opens t o i))
  opened_by (act.Durable d) f i x is = absurd (not_durable d i)
  opened_by (act.Down kept at) f i x is = absurd i
  opened_by _ f i x is = absurd (not_open i)
