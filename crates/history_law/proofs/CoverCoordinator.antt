-- Tickets, markers and cover at an entry of the coordinator.
use Rattle.std.proofs.Common.{◌≡◌, ◌⊎◌, inl, inr, ◌==◌, ◌&&◌, ℕ, Bool, true, false, if◌then◌else◌, List, ◌∷◌, Option, Some, None, refl, ap, sym, subst, ◌∙◌}
use Rattle.seata_types.specs.declared.ids.Place.{Place}
use Rattle.seata_types.specs.declared.ids.Place.TheVariants as place
use Rattle.seata_types.specs.declared.messages.Input.TheVariants as input
use Rattle.seata_types.specs.declared.messages.Message.{Message}
use Rattle.seata_types.specs.declared.messages.Message.TheVariants as message
use Rattle.seata_types.specs.declared.messages.Outgoing.{Outgoing}
use Rattle.seata_types.specs.declared.messages.Registered.TheVariants as registered
use Rattle.seata_types.specs.declared.rows.RowKey.{RowKey}
use Rattle.seata_types.specs.declared.statements.Work.{Work}
use Rattle.seata_types.specs.declared.statements.Work.TheVariants as work
use Rattle.seata_types.specs.declared.statuses.BranchKind.{BranchKind}
use Rattle.seata_types.specs.declared.statuses.BranchKind.TheVariants as kind
use Rattle.durable_records.specs.declared.coordinators.SessionRecord.{SessionRecord}
use Rattle.durable_records.specs.declared.coordinators.SessionRecord.TheVariants as log
use Rattle.durable_records.specs.Transactions.{decided, is_commit, is_rollback}
use Rattle.durable_records.specs.Branches.{Grant, grants, is_ended}
use Rattle.durable_records.specs.SessionOrder.{May, Allowed}
use Rattle.history_rules.specs.Own.{Event, Given, Left}
use Rattle.history_rules.specs.CoordinatorRules.{xid_of, branch_of}
use Rattle.history_rules.specs.Nodes.{World, counted_at}
use Rattle.history_rules.specs.Histories.{Moment}
use Rattle.history_law.specs.Points.{In}
use Rattle.history_law.specs.Network.{OnSent}
use Rattle.durable_records.specs.UndoRecords.{Undo}
use Rattle.history_rules.specs.ResourceMemory.{Setup, OfCall, Open, Memory}
use Rattle.history_law.specs.Tickets.{Names, IsAtOf, kind_of, Asks, IsOfRollback}
use Rattle.history_law.specs.Cover.{all_of, AskedFor, IsUndone, Backs, CoversAt, EndsWell, HasKind, RollbackSaid, SaysIn, Says, CoversBy}
use Rattle.history_law.proofs.Tests.{and_left, and_right, same_nat}
use Rattle.history_law.proofs.Branches.{grant_stays, stays_decided, in_all, decided_in_all}
use Rattle.history_law.proofs.Deliveries.{each_grows}
use Rattle.history_law.proofs.CoordinatorCauses.{IsRegistered, Ends, IsAnsweredRollbacked, EndedBy, CausedBy, Tells, TellsOf, tcc_not_at}
use Rattle.history_law.proofs.CoordinatorSteps.{KeepsRecords}
use Rattle.history_law.proofs.CoverGrowth.{Grows, says_grows, ends_grow}

-- an owner of an AT call of x
at_owner_by : (man x c : ℕ) (w : Work) (g : Grant) → g.xid ≡ x → kind_of w ≡ kind.At → IsAtOf g.xid (OfCall man x c w)
at_owner_by man x c (work.At stmts) g same e = sym same
at_owner_by man x c (work.Tcc a) g same e = tcc_not_at e

at_owner : (x c : ℕ) (k : BranchKind) (hold check : List RowKey) (g : Grant) (o : Open) → k ≡ kind.At → g.xid ≡ x → g.hold ≡ hold → Asks x c k hold check o → AskedFor g o
at_owner x c k hold check g o at same held a =
    (subst (λ q. IsAtOf g.xid q) (sym a.owner) (at_owner_by a.manager x c a.work g same (a.of_kind ∙ at)), a.touched at ∙ sym held)

kind_asked : (x c : ℕ) (k j : BranchKind) (hold check : List RowKey) (o : Open) → j ≡ k → Asks x c k hold check o → HasKind j o
kind_asked x c k j hold check o same a = (a.manager, x, c, a.work, a.owner, a.of_kind ∙ sym same)

-- a record that may be added, with what asked for it
abbrev pub MayCaused : List SessionRecord → Event → SessionRecord → Type 0
MayCaused rs event r = May rs r × CausedBy rs event r

module _ (w : World) (tc : Left SessionRecord) (mem : ℕ → Setup → Memory) (ms : List Moment) (c : CoversBy w tc mem ms)
    (event : Event) (heard : (from : Place) (m : Message) → event ≡ Given (input.Message from m) → SaysIn w tc mem from place.Tc m)
    (tc' : Left SessionRecord) (keeps : KeepsRecords (MayCaused tc.records event) tc tc') where
  grown : Grows w tc mem tc' mem
  grown = record {
    grants_stay = λ g i. (keeps (λ rs. In g (grants rs)) (λ r m j. grant_stays r tc.records g j) (i, in_all tc g i)).0;
    commits_stay = λ x e. (keeps (λ rs. is_commit (decided rs x) ≡ true) (λ r m j. stays_decided is_commit refl tc.records x r m.0 j) (e, decided_in_all is_commit refl tc c.allowed.1 x e)).0;
    rollbacks_stay = λ x e. (keeps (λ rs. is_rollback (decided rs x) ≡ true) (λ r m j. stays_decided is_rollback refl tc.records x r m.0 j) (e, decided_in_all is_rollback refl tc c.allowed.1 x e)).0;
    names_stay = λ n s is t P steady names. names;
    undone_stays = λ n s is g i u. u;
  }

  -- a new branch was asked for by its ticket
  abbrev AllAsked : ℕ → Setup → List SessionRecord → Type 0
  AllAsked n s rs = (g : Grant) → In g (grants rs) → g.kind ≡ kind.At → g.resource ≡ n → Names (mem n s) g.ticket (AskedFor g)

  registered_names : (n : ℕ) (s : Setup) → counted_at w.resources n ≡ Some s → (g : Grant) → IsRegistered tc.records event g → g.kind ≡ kind.At → g.resource ≡ n → Names (mem n s) g.ticket (AskedFor g)
  registered_names n s is g r at here =
      let said = heard r.from (message.Register r.xid g.resource g.call g.ticket g.kind g.hold r.check) r.is in
      let names : Names (mem n s) g.ticket (Asks r.xid.0 g.call g.kind g.hold r.check) =
      subst (λ q. Names (mem q s) g.ticket (Asks r.xid.0 g.call g.kind g.hold r.check)) here (said s (ap (counted_at w.resources) here ∙ is)) in
      record { given = names.given; named = λ o i e. at_owner r.xid.0 g.call g.kind g.hold r.check g o at (sym r.same) refl (names.named o i e) }

  asked_step : (n : ℕ) (s : Setup) → counted_at w.resources n ≡ Some s → (r : SessionRecord) → MayCaused tc.records event r → AllAsked n s tc.records → AllAsked n s (r ∷ tc.records)
  asked_step n s is (log.Granted xid b resource call ticket k hold) m all g (inl e) at here =
      registered_names n s is g (subst (λ q. IsRegistered tc.records event q) (sym e) m.1) at here
  asked_step n s is (log.Granted xid b resource call ticket k hold) m all g (inr i) at here = all g i at here
  asked_step n s is _ m all g i at here = all g i at here

  in_records : (n : ℕ) (s : Setup) → CoversAt tc n (mem n s) → AllAsked n s tc.records
  in_records n s a g i = a.asked g (in_all tc g i)

  backs_on : (n : ℕ) (s : Setup) (u : Undo) → Backs tc.records n (mem n s) u → Backs tc'.records n (mem n s) u
  backs_on n s u b = record {
    branch = b.branch;
    granted = grown.grants_stay b.branch b.granted;
    xid = b.xid;
    number = b.number;
    resource = b.resource;
    at = b.at;
    hold = b.hold;
    closed = b.closed;
  }

  at_each : (n : ℕ) (s : Setup) → counted_at w.resources n ≡ Some s → CoversAt tc' n (mem n s)
  at_each n s is =
      let a = c.at n s is in
      record {
        tickets = a.tickets;
        marks = a.marks;
        asked = (keeps (AllAsked n s) (asked_step n s is) (in_records n s a, a.asked)).1;
        backed = λ u i. backs_on n s u (a.backed u i);
        cleared = λ x b i. grown.commits_stay x (a.cleared x b i);
      }

  -- an end
  abbrev Ending : ℕ → ℕ → List SessionRecord → Type 0
  Ending x b rs = (is_commit (decided tc'.records x) ≡ true)
      ⊎ ((g : Grant) × (In g (grants rs)) × (g.xid ≡ x) × (g.branch ≡ b) × (g.kind ≡ kind.At → (s : Setup) → counted_at w.resources g.resource ≡ Some s → IsUndone (mem g.resource s) g))

  ending_on : (r : SessionRecord) (x b : ℕ) → Ending x b tc.records → Ending x b (r ∷ tc.records)
  ending_on r x b (inl k) = inl k
  ending_on r x b (inr f) = inr (f.0, grant_stays r tc.records f.0 f.1, f.2, f.3, f.4)

  answered : (y d : ℕ) → IsAnsweredRollbacked event y d → Ending y d tc.records
  answered y d a = by (heard a.from (message.BranchRollbacked (xid_of y) (branch_of d) a.status a.stmt) a.is) a.ends
    where
      by : RollbackSaid w tc mem a.from y d a.status → Ends a.status → Ending y d tc.records
      by said (inl e) = inr (said.said.branch, said.said.granted, said.said.xid, said.said.number, λ k s is. said.undone k e s is)
      by said (inr e) = absurd (subst (λ q. IsOfRollback q) e said.status)

  ended_by : (y d x b : ℕ) → EndedBy tc.records event y d → y ≡ x → d ≡ b → Ending x b tc.records
  ended_by y d x b (inl k) sx sb = inl (subst (λ q. is_commit (decided tc'.records q) ≡ true) sx (grown.commits_stay y k.0))
  ended_by y d x b (inr r) sx sb = subst (λ q. Ending q b tc.records) sx (subst (λ q. Ending y q tc.records) sb (answered y d r.1))

  ended_now : (y d x b : ℕ) → EndedBy tc.records event y d → (t : Bool) → ((y == x) && (d == b)) ≡ t
      → (is_ended tc.records x b ≡ true → Ending x b tc.records) → (if t then true else is_ended tc.records x b) ≡ true → Ending x b tc.records
  ended_now y d x b cause true t below e = ended_by y d x b cause (same_nat y x (and_left (y == x) (d == b) t)) (same_nat d b (and_right (y == x) (d == b) t))
  ended_now y d x b cause false t below e = below e

  ended_step : (r : SessionRecord) → MayCaused tc.records event r → EndsWell w tc' mem tc.records → EndsWell w tc' mem (r ∷ tc.records)
  ended_step (log.Ended xid br) m ends x b e = ending_on (log.Ended xid br) x b (ended_now xid.0 br.0 x b m.1 ((xid.0 == x) && (br.0 == b)) refl (ends x b) e)
  ended_step (log.Granted xid br resource call ticket k hold) m ends x b e = ending_on (log.Granted xid br resource call ticket k hold) x b (ends x b e)
  ended_step (log.Begun xid manager moment timeout) m ends x b e = ending_on (log.Begun xid manager moment timeout) x b (ends x b e)
  ended_step (log.Decided xid d) m ends x b e = ending_on (log.Decided xid d) x b (ends x b e)
  ended_step (log.Retrying xid) m ends x b e = ending_on (log.Retrying xid) x b (ends x b e)
  ended_step (log.Failed xid br stmt) m ends x b e = ending_on (log.Failed xid br stmt) x b (ends x b e)
  ended_step (log.Finished xid) m ends x b e = ending_on (log.Finished xid) x b (ends x b e)
  ended_step (log.Forgot xid) m ends x b e = ending_on (log.Forgot xid) x b (ends x b e)

  -- what it sends
  tells_said : (to : Place) (m : Message) → Tells tc'.records event to m → SaysIn w tc' mem place.Tc to m
  tells_said to (message.RegisterAnswer t xid (registered.Granted b)) said =
      let a = said.ask in
      let asks = heard said.from (message.Register (xid_of a.xid) a.resource a.call a.ticket a.kind a.hold a.check) said.is in
      record {
        branch = said.branch;
        granted = said.granted;
        number = said.number;
        receiver = said.to_resource ∙ ap place.Res (sym said.resource);
        ticket = λ k. said.at k ∙ sym said.ticket;
        asked = λ s is.
            let here : a.resource ≡ said.branch.resource = sym said.resource in
            let names : Names (mem said.branch.resource s) a.ticket (Asks a.xid a.call a.kind a.hold a.check) =
            subst (λ q. Names (mem q s) a.ticket (Asks a.xid a.call a.kind a.hold a.check)) here (asks s (ap (counted_at w.resources) here ∙ is)) in
            subst (λ q. Names (mem said.branch.resource s) q (HasKind said.branch.kind)) (sym said.ticket)
            (record { given = names.given; named = λ o i e. kind_asked a.xid a.call a.kind said.branch.kind a.hold a.check o said.kind_is (names.named o i e) });
      }
  tells_said to (message.RegisterAnswer t xid (registered.Conflict key holder rolling)) said = tt
  tells_said to (message.RegisterAnswer t xid (registered.Closed status)) said = tt
  tells_said to (message.RegisterAnswer t xid registered.Late) said = tt
  tells_said to (message.BranchCommit xid b k man d) said =
      (record { branch = said.0.branch; granted = said.0.granted; xid = said.0.xid; number = said.0.number; place = said.0.place }, said.0.of_kind, said.1)
  tells_said to (message.BranchRollback xid b k man d) said =
      (record { branch = said.0.branch; granted = said.0.granted; xid = said.0.xid; number = said.0.number; place = said.0.place }, said.0.of_kind, said.1)
  tells_said to (message.LockAnswer t None) said = tt
  tells_said to (message.LockAnswer t (Some held)) said = tt
  tells_said to (message.Begun xid) said = tt
  tells_said to (message.CommitStatus xid st) said = tt
  tells_said to (message.RollbackStatus xid st) said = tt
  tells_said to (message.StatusAnswer xid st) said = tt
  tells_said to _ said = absurd said

  tells_of : (sent : Option Outgoing) → TellsOf tc'.records event sent → OnSent (Says w tc' mem) place.Tc sent
  tells_of None t = tt
  tells_of (Some out) t = tells_said out.to out.message t

  pub covers_coordinator : (m : Moment) → m.place ≡ place.Tc → TellsOf tc'.records event m.step.sent → CoversBy w tc' mem (m ∷ ms)
  covers_coordinator m at tells = record {
    allowed = keeps Allowed (λ r may a. (a, may.0)) c.allowed;
    at = λ n s is. at_each n s is;
    ended = keeps (EndsWell w tc' mem) ended_step (ends_grow w tc mem tc' mem grown tc.records (λ h i. in_all tc h i) c.ended.0, ends_grow w tc mem tc' mem grown (all_of tc) (λ h i. i) c.ended.1);
    said = (
      each_grows (Says w tc mem) (Says w tc' mem) (λ p o. says_grows w tc mem tc' mem grown p o.to o.message) ms c.said,
      subst (λ q. OnSent (Says w tc' mem) q m.step.sent) (sym at) (tells_of m.step.sent tells),
    );
  }
