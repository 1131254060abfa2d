-- The tickets of branches in all legal histories: each was opened, for its call, before its branch was granted.
use Rattle.std.proofs.Common.{◌≡◌, ◌⊎◌, inl, inr, ℕ, List, [], ◌∷◌, Option, Some, None, refl, ap, sym, subst, ◌∙◌}
use Rattle.seata_types.specs.declared.acts.Act.TheVariants as act
use Rattle.seata_types.specs.declared.ids.Place.{Place}
use Rattle.seata_types.specs.declared.ids.Ticket.{Ticket}
use Rattle.seata_types.specs.declared.messages.Message.{Message}
use Rattle.seata_types.specs.declared.messages.Message.TheVariants as message
use Rattle.seata_types.specs.declared.messages.Outgoing.{Outgoing}
use Rattle.seata_types.specs.declared.messages.Step.{Step}
use Rattle.durable_records.specs.declared.coordinators.SessionRecord.{SessionRecord}
use Rattle.durable_records.specs.declared.coordinators.SessionRecord.TheVariants as log
use Rattle.durable_records.specs.Branches.{Grant, grants}
use Rattle.history_rules.specs.Own.{Left}
use Rattle.history_rules.specs.ResourceMemory.{Setup, Owner, OfCall, OfLocal, Open, Memory, call_of}
use Rattle.history_rules.specs.Nodes.{World, Past, counted_at}
use Rattle.history_rules.specs.Histories.{Moment, Legal, coordinator_left}
use Rattle.history_law.specs.Points.{In}
use Rattle.history_law.specs.Network.{OnSent, EachSent}
use Rattle.history_law.specs.Cover.{all_of, memory_of}
use Rattle.history_law.specs.TicketSafety.{AreNumbered}
use Rattle.history_law.specs.GrantSafety.{WasOpened, AreOpened, GrantsLaw}
use Rattle.history_law.proofs.Tests.{none_some}
use Rattle.history_law.proofs.Deliveries.{each_grows}
use Rattle.history_law.proofs.CoordinatorCauses.{Tells, TellsOf}
use Rattle.history_law.proofs.CoverCoordinator.{MayCaused}
use Rattle.history_law.proofs.ManagerSteps.{IsManagers, SendsManagers}
use Rattle.history_law.proofs.ResourceFits.{MessageFits, SentFits, Fits}
use Rattle.history_law.proofs.ResourceSteps.{OpenFrom}
use Rattle.history_law.proofs.TicketSteps.{memory_by}
use Rattle.history_law.proofs.ResourceRows.{each_memory}
use Rattle.history_law.proofs.Openings.{IsOf, opened_by}
use Rattle.history_law.proofs.Steps.{TcStep, ResStep, HaveTickets, KeepsOver, over_any}

-- ---- what is kept

was_on : (m : Moment) (ms : List Moment) (n : ℕ) (t : Ticket) (x c : ℕ) → WasOpened ms n t x c → WasOpened (m ∷ ms) n t x c
was_on m ms n t x c o = record { entry = o.entry; there = inr o.there; at = o.at; xid = o.xid; of = o.of; opened = o.opened }

-- an open ticket of a call was opened for it
abbrev OwnerOpened : List Moment → ℕ → Ticket → Owner → Type 0
OwnerOpened ms n t (OfCall manager x c wk) = WasOpened ms n t x c
OwnerOpened ms n t (OfLocal k) = Unit {0}

owner_on : (m : Moment) (ms : List Moment) (n : ℕ) (t : Ticket) (owner : Owner) → OwnerOpened ms n t owner → OwnerOpened (m ∷ ms) n t owner
owner_on m ms n t (OfCall manager x c wk) o = was_on m ms n t x c o
owner_on m ms n t (OfLocal k) o = tt

abbrev OpensOpened : List Moment → ℕ → Memory → Type 0
OpensOpened ms n mem = (o : Open) → In o mem.opens → OwnerOpened ms n o.ticket o.owner

-- and so was the ticket of a Register
abbrev SaysOpened : List Moment → Message → Type 0
SaysOpened ms (message.Register xid r c t k hold check) = WasOpened ms r t xid.0 c
SaysOpened ms _ = Unit {0}

abbrev Says : List Moment → Place → Outgoing → Type 0
Says ms from out = SaysOpened ms out.message

says_on : (m : Moment) (ms : List Moment) (msg : Message) → SaysOpened ms msg → SaysOpened (m ∷ ms) msg
says_on m ms (message.Register xid r c t k hold check) said = was_on m ms r t xid.0 c said
says_on m ms _ said = tt

record OpenedBefore (w : World) (past : Past) (tc : Left SessionRecord) (mem : ℕ → Setup → Memory) (ms : List Moment) : Type 0 where
  said : EachSent (Says ms) ms
  opens : (n : ℕ) (s : Setup) → counted_at w.resources n ≡ Some s → OpensOpened ms n (mem n s)
  granted : AreOpened past ms tc.records × AreOpened past ms (all_of tc)

module _ (w : World) (past : Past) (ms : List Moment) (m : Moment) where
  said_before : EachSent (Says ms) ms → EachSent (Says (m ∷ ms)) ms
  said_before each = each_grows (Says ms) (Says (m ∷ ms)) (λ p o. says_on m ms o.message) ms each

  opens_on : (n : ℕ) (mem : Memory) → OpensOpened ms n mem → OpensOpened (m ∷ ms) n mem
  opens_on n mem all o i = owner_on m ms n o.ticket o.owner (all o i)

  grants_on : (rs : List SessionRecord) → AreOpened past ms rs → AreOpened past (m ∷ ms) rs
  grants_on rs all g i = by (all g i)
    where
      by : In g (grants past.sessions) ⊎ WasOpened ms g.resource g.ticket g.xid g.call → In g (grants past.sessions) ⊎ WasOpened (m ∷ ms) g.resource g.ticket g.xid g.call
      by (inl old) = inl old
      by (inr o) = inr (was_on m ms g.resource g.ticket g.xid g.call o)

-- ---- at the coordinator

module _ (w : World) (past : Past) (ms : List Moment) (m : Moment) (i : OpenedBefore w past (coordinator_left past ms) (memory_of past ms) ms) (t : TcStep w past ms m) where
  abbrev rs : List SessionRecord
  rs = (coordinator_left past ms).records

  grant_step : (r : SessionRecord) → MayCaused rs t.event r → AreOpened past (m ∷ ms) rs → AreOpened past (m ∷ ms) (r ∷ rs)
  grant_step (log.Granted xid b resource call u k hold) f all g (inl is) =
      let cause = f.1 in
      let said : WasOpened ms resource u cause.xid.0 call = t.heard (Says ms) i.said cause.from (message.Register cause.xid resource call u k hold cause.check) cause.is in
      let mine : WasOpened (m ∷ ms) resource u xid.0 call = was_on m ms resource u xid.0 call (subst (λ x. WasOpened ms resource u x call) cause.same said) in
      inr (subst (λ (z : Grant). WasOpened (m ∷ ms) z.resource z.ticket z.xid z.call) (sym is) mine)
  grant_step (log.Granted xid b resource call u k hold) f all g (inr j) = all g j
  grant_step (log.Begun xid manager moment timeout) f all g j = all g j
  grant_step (log.Decided xid d) f all g j = all g j
  grant_step (log.Retrying xid) f all g j = all g j
  grant_step (log.Ended xid b) f all g j = all g j
  grant_step (log.Failed xid b stmt) f all g j = all g j
  grant_step (log.Finished xid) f all g j = all g j
  grant_step (log.Forgot xid) f all g j = all g j

  tc_says : (to : Place) (msg : Message) → Tells t.after.records t.event to msg → SaysOpened (m ∷ ms) msg
  tc_says to (message.Register xid r c k kind hold check) said = absurd said
  tc_says to _ said = tt

  tc_sends : (sent : Option Outgoing) → TellsOf t.after.records t.event sent → OnSent (Says (m ∷ ms)) m.place sent
  tc_sends None said = tt
  tc_sends (Some out) said = tc_says out.to out.message said

  opened_at_tc : OpenedBefore w past t.after (memory_of past ms) (m ∷ ms)
  opened_at_tc = record {
    said = (said_before w past ms m i.said, tc_sends m.step.sent t.tells);
    opens = λ n s is. opens_on w past ms m n (memory_of past ms n s) (i.opens n s is);
    granted = t.keeps (AreOpened past (m ∷ ms)) grant_step (grants_on w past ms m rs i.granted.0, grants_on w past ms m (all_of (coordinator_left past ms)) i.granted.1);
  }

-- ---- at a resource

module _ (w : World) (past : Past) (ms : List Moment) (m : Moment) (have : HaveTickets w past ms) (i : OpenedBefore w past (coordinator_left past ms) (memory_of past ms) ms) (r : ResStep w past ms m) where
  abbrev before : Memory
  before = memory_of past ms r.k r.s

  abbrev ne : Memory
  ne = memory_by r.s (memory_of past ms r.k r.s) r.event m.now m.step

  opened_now : (o : Open) → In o ne.opens → OpensOpened (m ∷ ms) r.k before → OpenFrom r.s before r.event ne o → OwnerOpened (m ∷ ms) r.k o.ticket o.owner
  opened_now o io old (inl (p, k, ip, eq)) = subst (λ (q : Open). OwnerOpened (m ∷ ms) r.k q.ticket q.owner) (sym eq) (old p ip)
  opened_now o io old (inr new) = by o.owner refl
    where
      by : (owner : Owner) → o.owner ≡ owner → OwnerOpened (m ∷ ms) r.k o.ticket owner
      by (OfLocal k) e = tt
      by (OfCall manager x c wk) e =
          let k = opened_by r.s (memory_of past ms r.k r.s) (have r.k r.s r.known) r.event o new.ticket m.step.act r.moves.finds io x
          (subst (λ q. IsOf x q) (sym e) refl) in
          record { entry = m; there = inl refl; at = r.at; xid = k.xid; of = k.of; opened = k.is ∙ ap (λ (q : Owner). act.Opened k.xid (call_of q) o.ticket) e }

  opens_now : OpensOpened (m ∷ ms) r.k before → OpensOpened (m ∷ ms) r.k ne
  opens_now old o io = opened_now o io old (r.moves.opens_from o io)

  here : OpensOpened (m ∷ ms) r.k ne
  here = opens_now (opens_on w past ms m r.k before (i.opens r.k r.s r.known))

  res_says : (msg : Message) → MessageFits r.s before r.event m.step.act msg → SaysOpened (m ∷ ms) msg
  res_says (message.Register xid d c t k hold check) f =
      let at : d ≡ r.k = f.number ∙ r.named in
      let mine : OwnerOpened (m ∷ ms) r.k f.open_ticket.ticket (OfCall f.asks.manager xid.0 c f.asks.work) =
      subst (OwnerOpened (m ∷ ms) r.k f.open_ticket.ticket) f.asks.owner (here f.open_ticket f.there) in
      subst (λ n. WasOpened (m ∷ ms) n t xid.0 c) (sym at) (subst (λ q. WasOpened (m ∷ ms) r.k q xid.0 c) f.ticket mine)
  res_says _ f = tt

  res_sends : (sent : Option Outgoing) → m.step.sent ≡ sent → Fits r.s before r.event m.step ⊎ (m.step.sent ≡ None) → OnSent (Says (m ∷ ms)) m.place sent
  res_sends None e f = tt
  res_sends (Some out) e (inr none) = none_some (sym none ∙ e)
  res_sends (Some out) e (inl f) = res_says out.message (subst (λ z. SentFits r.s (memory_of past ms r.k r.s) r.event m.step.act z) e f.1)

  opened_at_res : OpenedBefore w past (coordinator_left past ms) r.after (m ∷ ms)
  opened_at_res = record {
    said = (said_before w past ms m i.said, res_sends m.step.sent refl r.moves.fits);
    opens = λ n s is. each_memory w past ms m r (λ j q z. OpensOpened (m ∷ ms) j z) n s is opens_now (opens_on w past ms m n (memory_of past ms n s) (i.opens n s is));
    granted = (grants_on w past ms m (coordinator_left past ms).records i.granted.0, grants_on w past ms m (all_of (coordinator_left past ms)) i.granted.1);
  }

-- ---- at a manager, and at the network

man_says : (ms : List Moment) (msg : Message) → IsManagers msg → SaysOpened ms msg
man_says ms (message.Register xid r c t k hold check) is = absurd is
man_says ms _ is = tt

man_sends : (ms : List Moment) (from : Place) (sent : Option Outgoing) → SendsManagers sent → OnSent (Says ms) from sent
man_sends ms from None is = tt
man_sends ms from (Some out) is = man_says ms out.message is

module _ (w : World) (past : Past) where
  sends_only : (ms : List Moment) (m : Moment) → OpenedBefore w past (coordinator_left past ms) (memory_of past ms) ms → OnSent (Says (m ∷ ms)) m.place m.step.sent
      → OpenedBefore w past (coordinator_left past ms) (memory_of past ms) (m ∷ ms)
  sends_only ms m i said = record {
    said = (said_before w past ms m i.said, said);
    opens = λ n s is. opens_on w past ms m n (memory_of past ms n s) (i.opens n s is);
    granted = (grants_on w past ms m (coordinator_left past ms).records i.granted.0, grants_on w past ms m (all_of (coordinator_left past ms)) i.granted.1);
  }

  opened_keep : KeepsOver w past (HaveTickets w past) (OpenedBefore w past)
  opened_keep = record {
    at_tc = λ ms m c i t. opened_at_tc w past ms m i t;
    at_res = λ ms m c i r. opened_at_res w past ms m c i r;
    at_man = λ ms m c i t. sends_only ms m i (man_sends (m ∷ ms) m.place m.step.sent t.sends);
    quiet = λ ms m i is. sends_only ms m i (subst (λ (step : Step). OnSent (Says (m ∷ ms)) m.place step.sent) (sym is) tt);
  }

  opened_first : OpenedBefore w past (coordinator_left past []) (memory_of past []) []
  opened_first = record { said = tt; opens = λ n s is o i. absurd i; granted = (λ g i. inl i, λ g i. inl i) }

  opened : AreNumbered w → (ms : List Moment) → Legal w past ms → OpenedBefore w past (coordinator_left past ms) (memory_of past ms) ms
  opened numbered ms legal = over_any w past numbered (OpenedBefore w past) opened_keep opened_first ms legal

pub grants_law : GrantsLaw
grants_law w past [] numbered legal = (opened w past numbered [] legal).granted.1
grants_law w past (m ∷ ms) numbered legal = (grants_law w past ms numbered legal.0, (opened w past numbered (m ∷ ms) legal).granted.1)
