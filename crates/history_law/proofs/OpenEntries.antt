-- The open tickets of a resource are those that its entries opened and that haven't ended since, in the order of their last sending.
use Rattle.std.proofs.Common.{◌≡◌, inl, inr, not, ℕ, Bool, true, false, cond, if◌then◌else◌, List, [], ◌∷◌, ◌++◌, map, filter, Option, Some, None, option_map, refl, ap, sym, subst, ◌∙◌}
use Rattle.seata_types.specs.declared.acts.Act.{Act}
use Rattle.seata_types.specs.declared.acts.Act.TheVariants as act
use Rattle.seata_types.specs.declared.acts.Durable.{Durable}
use Rattle.seata_types.specs.declared.acts.Durable.TheVariants as durable
use Rattle.seata_types.specs.declared.ids.Place.TheVariants as place
use Rattle.seata_types.specs.declared.ids.Ticket.{Ticket}
use Rattle.seata_types.specs.declared.ids.Xid.{Xid}
use Rattle.seata_types.specs.declared.messages.Outgoing.{Outgoing}
use Rattle.durable_records.specs.declared.resources.ResourceRecord.{ResourceRecord}
use Rattle.durable_records.specs.Branches.{same_ticket}
use Rattle.history_rules.specs.Own.{Event, Own}
use Rattle.history_rules.specs.CoordinatorRules.{last_of}
use Rattle.history_rules.specs.ResourceMemory.{Setup, Open, Memory, next_ticket, open_at, without, with_first, counting, opened_for, opens_after, memory}
use Rattle.history_rules.specs.Nodes.{Resource, Ran, role_at}
use Rattle.history_rules.specs.Histories.{own}
use Rattle.history_law.specs.Points.{In}
use Rattle.history_law.specs.Tickets.{Tickets}
use Rattle.history_law.specs.Cover.{memory_of}
use Rattle.history_law.specs.OpenSafety.{IsOpening, IsEnding, IsSending, IsFall, IsOpenAfter, IsSentSince, OpenTicketsLaw}
use Rattle.history_law.proofs.Tests.{none_some, true_false, not_true, found_in, of_filter, in_filter, find_none}
use Rattle.history_law.proofs.Nodes.{ran}
use Rattle.history_law.proofs.CoordinatorCauses.{one_ticket}
use Rattle.history_law.proofs.ResourceFits.{tables_now, IsForCall, IsForLocal}
use Rattle.history_law.proofs.ResourceAnswers.{same_ticket_itself}
use Rattle.history_law.proofs.TicketSteps.{in_without, in_resent, in_counting, counting_ticket, opened_is, next_not_given}
use Rattle.history_law.proofs.ResourceSteps.{ActFinds, resource_moves}

-- ---- lists of open tickets

-- one that is left has another ticket, and one with another ticket is left
left_other : (opens : List Open) (t : Ticket) (o : Open) → In o (without opens t) → t ≡ o.ticket → ⊥
left_other opens t o i e =
    let k = of_filter (λ q. not (same_ticket q.ticket t)) opens o i in
    let same : same_ticket o.ticket t ≡ true = ap (λ q. same_ticket q t) (sym e) ∙ same_ticket_itself t in
    true_false (sym same ∙ not_true (same_ticket o.ticket t) k.1)

stays_left : (opens : List Open) (t : Ticket) (o : Open) → In o opens → (t ≡ o.ticket → ⊥) → In o (without opens t)
stays_left opens t o i other = in_filter (λ q. not (same_ticket q.ticket t)) opens o i (by (same_ticket o.ticket t) refl)
  where
    by : (b : Bool) → same_ticket o.ticket t ≡ b → not (same_ticket o.ticket t) ≡ true
    by true e = absurd (other (sym (one_ticket o.ticket t e)))
    by false e = ap not e

counted_in : (t : Ticket) (k : ℕ) (opens : List Open) (o : Open) → In o opens → In (counting t k o) (map (counting t k) opens)
counted_in t k [] o i = absurd i
counted_in t k (p ∷ ps) o (inl is) = inl (ap (counting t k) is)
counted_in t k (p ∷ ps) o (inr i) = inr (counted_in t k ps o i)

abbrev HasTicket : List Open → Ticket → Type 0
HasTicket opens t = (o : Open) × (In o opens) × (o.ticket ≡ t)

-- a ticket that is sent again stays open
resent_has : (opens : List Open) (u t : Ticket) (f : Option Open) → open_at opens u ≡ f → HasTicket opens t → HasTicket (with_first f (without opens u)) t
resent_has opens u t None found (o, i, is) = (o, stays_left opens u o i none, is)
  where
    none : u ≡ o.ticket → ⊥
    none e = true_false (sym (ap (λ q. same_ticket q u) (sym e) ∙ same_ticket_itself u) ∙ find_none (λ q. same_ticket q.ticket u) opens o found i)
resent_has opens u t (Some p) found (o, i, is) = by (same_ticket o.ticket u) refl
  where
    by : (b : Bool) → same_ticket o.ticket u ≡ b → HasTicket (p ∷ without opens u) t
    by true e = (p, inl refl, one_ticket p.ticket u (found_in (λ q. same_ticket q.ticket u) opens p found).1 ∙ sym (one_ticket o.ticket u e) ∙ is)
    by false e = (o, inr (stays_left opens u o i (λ same. true_false (sym (ap (λ q. same_ticket q u) (sym same) ∙ same_ticket_itself u) ∙ e))), is)

-- ---- entries

module _ (os : List Own) (e : Own) where
  open_on : (t : Ticket) → IsOpenAfter os t → (IsFall e.step.act → ⊥) → (IsEnding t e.step.act → ⊥) → IsOpenAfter (e ∷ os) t
  open_on t k stands goes_on = record {
    later = e ∷ k.later;
    opening = k.opening;
    before = k.before;
    splits = ap (λ zs. e ∷ zs) k.splits;
    opens = k.opens;
    lasts = λ o i. by o i;
  }
    where
      by : (o : Own) → In o (e ∷ k.later) → (IsFall o.step.act → ⊥) × (IsEnding t o.step.act → ⊥)
      by o (inl is) = subst (λ (z : Own). (IsFall z.step.act → ⊥) × (IsEnding t z.step.act → ⊥)) (sym is) (stands, goes_on)
      by o (inr i) = k.lasts o i

  since_on : (t u : Ticket) → IsSentSince os t u → (IsSending u e.step.act → ⊥) → IsSentSince (e ∷ os) t u
  since_on t u k other = record {
    later = e ∷ k.later;
    sending = k.sending;
    before = k.before;
    splits = ap (λ zs. e ∷ zs) k.splits;
    sends = k.sends;
    other = k.other;
    none = λ o i. by o i;
  }
    where
      by : (o : Own) → In o (e ∷ k.later) → IsSending u o.step.act → ⊥
      by o (inl is) = subst (λ (z : Own). IsSending u z.step.act → ⊥) (sym is) other
      by o (inr i) = k.none o i

  -- a ticket is open after one more entry: it was opened by that, or was open before and hasn't ended
  open_by : (t : Ticket) {A : Type 0} → (IsOpening t e.step.act → A) → (IsOpenAfter os t → (IsFall e.step.act → ⊥) → (IsEnding t e.step.act → ⊥) → A) → IsOpenAfter (e ∷ os) t → A
  open_by t {A} now old k = by k.later k.splits k.lasts
    where
      by : (later : List Own) → e ∷ os ≡ later ++ (k.opening ∷ k.before) → ((o : Own) → In o later → (IsFall o.step.act → ⊥) × (IsEnding t o.step.act → ⊥)) → A
      by [] splits lasts =
          let here : k.opening ≡ e = cc in
          now (subst (λ (z : Own). IsOpening t z.step.act) here k.opens)
      by (x ∷ later) splits lasts =
          let here : x ≡ e = cc in
          let rest : os ≡ later ++ (k.opening ∷ k.before) = cc in
          let last = subst (λ (z : Own). (IsFall z.step.act → ⊥) × (IsEnding t z.step.act → ⊥)) here (lasts x (inl refl)) in
          old (record { later = later; opening = k.opening; before = k.before; splits = rest; opens = k.opens; lasts = λ o i. lasts o (inr i) }) last.0 last.1

-- ---- one entry of a resource

-- each of these was sent since the ones behind it
abbrev AreInTurn : List Own → List Open → Type 0
AreInTurn os [] = Unit {0}
AreInTurn os (p ∷ rest) = ((o : Open) → In o rest → IsSentSince os p.ticket o.ticket) × AreInTurn os rest

turn_filter : (os : List Own) (test : Open → Bool) (opens : List Open) → AreInTurn os opens → AreInTurn os (filter test opens)
turn_filter os test [] all = tt
turn_filter os test (p ∷ rest) all = by (test p) (turn_filter os test rest all.1)
  where
    by : (b : Bool) → AreInTurn os (filter test rest) → AreInTurn os (cond b (p ∷ filter test rest) (filter test rest))
    by true below = (λ o i. all.0 o (of_filter test rest o i).0, below)
    by false below = below

turn_counting : (os : List Own) (t : Ticket) (k : ℕ) (opens : List Open) → AreInTurn os opens → AreInTurn os (map (counting t k) opens)
turn_counting os t k [] all = tt
turn_counting os t k (p ∷ rest) all = (
  λ o i.
      let f = in_counting t k rest o i in
      let mine : IsSentSince os p.ticket o.ticket = subst (IsSentSince os p.ticket) (sym (ap (λ (q : Open). q.ticket) f.2 ∙ counting_ticket t k f.0)) (all.0 f.0 f.1) in
      subst (λ q. IsSentSince os q o.ticket) (sym (counting_ticket t k p)) mine,
  turn_counting os t k rest all.1,
)

-- what is open after an entry of a resource, by what was
record OpenRight (os : List Own) (opens : List Open) : Type 0 where
  opened : (o : Open) → In o opens → IsOpenAfter os o.ticket
  still_open : (t : Ticket) → IsOpenAfter os t → HasTicket opens t
  turn : AreInTurn os opens

module _ (s : Setup) (m : Memory) (ts : Tickets m) (os : List Own) (i : OpenRight os m.opens) (event : Event) (now : ℕ) (sent : Option Outgoing) where
  abbrev entry : Act → Own
  entry done = record { event = event; now = now; step = record { act = done; sent = sent } }

  abbrev After : Act → List Open → Type 0
  After done opens = OpenRight (entry done ∷ os) opens

  -- an act that neither opens, sends nor ends a ticket
  turn_on : (done : Act) (opens : List Open) → ((o : Open) → In o opens → IsSending o.ticket done → ⊥) → AreInTurn os opens → AreInTurn (entry done ∷ os) opens
  turn_on done [] other all = tt
  turn_on done (p ∷ rest) other all = (
    λ o j. since_on os (entry done) p.ticket o.ticket (all.0 o j) (other o (inr j)),
    turn_on done rest (λ o j. other o (inr j)) all.1,
  )

  same : (done : Act) → (IsFall done → ⊥) → ((t : Ticket) → IsOpening t done → ⊥) → ((t : Ticket) → IsEnding t done → ⊥) → ((t : Ticket) → IsSending t done → ⊥) → After done m.opens
  same done stands opening ending sending = record {
    opened = λ o j. open_on os (entry done) o.ticket (i.opened o j) stands (ending o.ticket);
    still_open = λ t k. open_by os (entry done) t (λ is. absurd (opening t is)) (λ old stood lasted. i.still_open t old) k;
    turn = turn_on done m.opens (λ o j. sending o.ticket) i.turn;
  }

  -- a new ticket
  opens_one : (done : Act) (t : Ticket) → t ≡ next_ticket m → (o : Open) → o.ticket ≡ t → (IsFall done → ⊥) → ((u : Ticket) → IsEnding u done → ⊥)
      → IsOpening t done → ((u : Ticket) → IsOpening u done → t ≡ u) → IsSending t done → ((u : Ticket) → IsSending u done → t ≡ u) → After done (o ∷ m.opens)
  opens_one done t next o at stands ending opening only sending one = record {
    opened = λ p j. opened_by p j;
    still_open = λ u k. open_by os (entry done) u (λ is. (o, inl refl, at ∙ only u is)) (λ old stood lasted. let f = i.still_open u old in (f.0, inr f.1, f.2)) k;
    turn = (
      λ p j. record { later = []; sending = entry done; before = os; splits = refl; sends = subst (λ q. IsSending q done) (sym at) sending; other = λ is. fresh p j (one p.ticket is); none = λ q e. absurd e },
      turn_on done m.opens (λ p j is. fresh p j (one p.ticket is)) i.turn,
    );
  }
    where
      fresh : (p : Open) → In p m.opens → t ≡ p.ticket → ⊥
      fresh p j e = next_not_given m p.ticket (ts.given p j) (sym e ∙ next)

      opened_by : (p : Open) → In p (o ∷ m.opens) → IsOpenAfter (entry done ∷ os) p.ticket
      opened_by p (inl is) = record {
        later = [];
        opening = entry done;
        before = os;
        splits = refl;
        opens = subst (λ q. IsOpening q done) (sym (ap (λ (z : Open). z.ticket) is ∙ at)) opening;
        lasts = λ q e. absurd e;
      }
      opened_by p (inr j) = open_on os (entry done) p.ticket (i.opened p j) stands (ending p.ticket)

  opens_call : (xid : Xid) (c : ℕ) (t : Ticket) → t ≡ next_ticket m → (f : Option Open) → IsForCall xid.0 c f → ((n : Open) → f ≡ Some n → n.ticket ≡ t)
      → After (act.Opened xid c t) (with_first f m.opens)
  opens_call xid c t next None for is = absurd for
  opens_call xid c t next (Some o) for is = opens_one (act.Opened xid c t) t next o (is o refl) (λ z. z) (λ u z. z) refl (λ u z. z) refl (λ u z. z)

  opens_local : (k : ℕ) (t : Ticket) → t ≡ next_ticket m → (f : Option Open) → IsForLocal k f → ((n : Open) → f ≡ Some n → n.ticket ≡ t)
      → After (act.OpenedLocal k t) (with_first f m.opens)
  opens_local k t next None for is = absurd for
  opens_local k t next (Some o) for is = opens_one (act.OpenedLocal k t) t next o (is o refl) (λ z. z) (λ u z. z) refl (λ u z. z) refl (λ u z. z)

  -- a ticket that ends
  ends_one : (done : Act) (t : Ticket) → (IsFall done → ⊥) → ((u : Ticket) → IsOpening u done → ⊥) → ((u : Ticket) → IsSending u done → ⊥) → ((u : Ticket) → IsEnding u done → t ≡ u) → IsEnding t done
      → After done (without m.opens t)
  ends_one done t stands opening sending only ending = record {
    opened = λ o j. open_on os (entry done) o.ticket (i.opened o (in_without m.opens t o j)) stands (λ is. left_other m.opens t o j (only o.ticket is));
    still_open = λ u k. open_by os (entry done) u (λ is. absurd (opening u is)) (λ old stood lasted. let f = i.still_open u old in (f.0, stays_left m.opens t f.0 f.1 (λ e. lasted (subst (λ q. IsEnding q done) (e ∙ f.2) ending)), f.2)) k;
    turn = turn_on done (without m.opens t) (λ o j. sending o.ticket) (turn_filter os (λ q. not (same_ticket q.ticket t)) m.opens i.turn);
  }

  -- a ticket that is sent again
  resends : (t : Ticket) (f : Option Open) → open_at m.opens t ≡ f → After (act.Resent t) (with_first f (without m.opens t))
  resends t f found = record {
    opened = λ o j. open_on os (entry (act.Resent t)) o.ticket (i.opened o (in_resent m.opens t f found o j)) (λ z. z) (λ z. z);
    still_open = λ u k. open_by os (entry (act.Resent t)) u (λ z. absurd z) (λ old stood lasted. resent_has m.opens t u f found (i.still_open u old)) k;
    turn = by f found;
  }
    where
      rest : AreInTurn (entry (act.Resent t) ∷ os) (without m.opens t)
      rest = turn_on (act.Resent t) (without m.opens t) (λ o j is. left_other m.opens t o j is) (turn_filter os (λ q. not (same_ticket q.ticket t)) m.opens i.turn)

      by : (f : Option Open) → open_at m.opens t ≡ f → AreInTurn (entry (act.Resent t) ∷ os) (with_first f (without m.opens t))
      by None found = rest
      by (Some p) found = (
        λ o j. record {
          later = [];
          sending = entry (act.Resent t);
          before = os;
          splits = refl;
          sends = sym (one_ticket p.ticket t (found_in (λ q. same_ticket q.ticket t) m.opens p found).1);
          other = λ is. left_other m.opens t o j is;
          none = λ q e. absurd e;
        },
        rest,
      )

  counts : (t : Ticket) (k : ℕ) → After (act.Conflicted t k) (map (counting t k) m.opens)
  counts t k = record {
    opened = λ o j.
        let f = in_counting t k m.opens o j in
        subst (IsOpenAfter (entry (act.Conflicted t k) ∷ os)) (sym (ap (λ (q : Open). q.ticket) f.2 ∙ counting_ticket t k f.0)) (open_on os (entry (act.Conflicted t k)) f.0.ticket (i.opened f.0 f.1) (λ z. z) (λ z. z));
    still_open = λ u z. open_by os (entry (act.Conflicted t k)) u (λ y. absurd y) (λ old stood lasted. let f = i.still_open u old in (counting t k f.0, counted_in t k m.opens f.0 f.1, counting_ticket t k f.0 ∙ f.2)) z;
    turn = turn_on (act.Conflicted t k) (map (counting t k) m.opens) (λ o j z. z) (turn_counting os t k m.opens i.turn);
  }

  falls : (kept at : Option Durable) → After (act.Down kept at) []
  falls kept at = record { opened = λ o j. absurd j; still_open = λ t k. open_by os (entry (act.Down kept at)) t (λ z. absurd z) (λ old stood lasted. absurd (stood tt)) k; turn = tt }

  durable_right : (d : Durable) → After (act.Durable d) (opens_after s (tables_now s m) event (act.Durable d) m.opens)
  durable_right (durable.Committed xid b t) = ends_one (act.Durable (durable.Committed xid b t)) t (λ z. z) (λ u z. z) (λ u z. z) (λ u z. z) refl
  durable_right (durable.Tried xid b t) = ends_one (act.Durable (durable.Tried xid b t)) t (λ z. z) (λ u z. z) (λ u z. z) (λ u z. z) refl
  durable_right (durable.LocalCommitted n t) = ends_one (act.Durable (durable.LocalCommitted n t)) t (λ z. z) (λ u z. z) (λ u z. z) (λ u z. z) refl
  durable_right d = same (act.Durable d) (λ z. z) (λ u z. z) (λ u z. z) (λ u z. z)

  act_right : (done : Act) → ActFinds s m event done → After done (opens_after s (tables_now s m) event done m.opens)
  act_right (act.Opened xid c t) f = opens_call xid c t f.0 (opened_for s (tables_now s m) t event) f.1 (opened_is s (tables_now s m) t event)
  act_right (act.OpenedLocal k t) f = opens_local k t f.0 (opened_for s (tables_now s m) t event) f.1 (opened_is s (tables_now s m) t event)
  act_right (act.Resent t) f = resends t (open_at m.opens t) refl
  act_right (act.Conflicted t k) f = counts t k
  act_right (act.Dropped xid c t cause) f = ends_one (act.Dropped xid c t cause) t (λ z. z) (λ u z. z) (λ u z. z) (λ u z. z) refl
  act_right (act.DroppedLocal k t key holder) f = ends_one (act.DroppedLocal k t key holder) t (λ z. z) (λ u z. z) (λ u z. z) (λ u z. z) refl
  act_right (act.Durable d) f = durable_right d
  act_right (act.Down kept at) f = falls kept at
  act_right done f = same done (λ z. z) (λ u z. z) (λ u z. z) (λ u z. z)

-- ---- all entries

no_entry : (t : Ticket) {A : Type 0} → IsOpenAfter [] t → A
no_entry t {A} k = by k.later k.splits
  where
    by : (later : List Own) → [] ≡ later ++ (k.opening ∷ k.before) → A
    by [] e = absurd cc
    by (x ∷ later) e = absurd cc

-- the tickets, and what is open
all_right : (s : Setup) (past : List ResourceRecord) (os : List Own) → Ran (Resource s past) os → Tickets (memory s past os) × OpenRight os (memory s past os).opens
all_right s past [] r = (
  record { given = λ o j. absurd j; distinct = λ o p j. absurd j; disjoint = λ o p j. absurd j },
  record { opened = λ o j. absurd j; still_open = λ t k. no_entry t k; turn = tt },
)
all_right s past (o ∷ os) r =
    let below = all_right s past os r.0 in
    let moves = resource_moves s past os o.event o.now o.step below.0 r.1 in
    (moves.tickets, act_right s (memory s past os) below.0 os below.1 o.event o.now o.step.sent o.step.act moves.finds)

-- ---- what is claimed

-- the last one of a list in turn was sent longest ago
last_sent : (os : List Own) (opens : List Open) → AreInTurn os opens → (o : Open) → last_of opens ≡ Some o → (p : Open) → In p opens → (p.ticket ≡ o.ticket → ⊥) → IsSentSince os p.ticket o.ticket
last_sent os [] all o last p j other = absurd j
last_sent os (x ∷ []) all o last p (inl is) other = let same : x ≡ o = cc in absurd (other (ap (λ (z : Open). z.ticket) (is ∙ same)))
last_sent os (x ∷ []) all o last p (inr j) other = absurd j
last_sent os (x ∷ y ∷ ys) all o last p (inr j) other = last_sent os (y ∷ ys) all.1 o last p j other
last_sent os (x ∷ y ∷ ys) all o last p (inl is) other = subst (λ (z : Open). IsSentSince os z.ticket o.ticket) (sym is) (all.0 o (last_in (y ∷ ys) o last))
  where
    last_in : (zs : List Open) (z : Open) → last_of zs ≡ Some z → In z zs
    last_in [] z e = none_some e
    last_in (a ∷ []) z e = let same : a ≡ z = cc in inl (sym same)
    last_in (a ∷ b ∷ bs) z e = inr (last_in (b ∷ bs) z e)

pub open_tickets_law : OpenTicketsLaw
open_tickets_law w past ms legal n s known =
    let role : role_at w past (place.Res n) ≡ Some (Resource s (past.resource n)) = ap (option_map (λ q. Resource q (past.resource n))) known in
    let right = (all_right s (past.resource n) (own (place.Res n) ms) (ran w past (place.Res n) (Resource s (past.resource n)) role ms legal)).1 in
    record { opened = right.opened; still_open = right.still_open; next = last_sent (own (place.Res n) ms) (memory_of past ms n s).opens right.turn }
