-- What messages say of rows: a question for locks asks for all rows of its ticket; a free answer finds their changes settled;
-- a branch is asked to roll back after all later ones.
use Rattle.std.proofs.Common.{◌≡◌, ◌⊎◌, inl, inr, ℕ, true, false, List, ◌∷◌, Option, Some, None, refl, ap, sym, subst, ◌∙◌}
use Rattle.seata_types.specs.declared.ids.Place.{Place}
use Rattle.seata_types.specs.declared.ids.Place.TheVariants as place
use Rattle.seata_types.specs.declared.ids.Ticket.{Ticket}
use Rattle.seata_types.specs.declared.messages.Message.{Message}
use Rattle.seata_types.specs.declared.messages.Message.TheVariants as message
use Rattle.seata_types.specs.declared.messages.Outgoing.{Outgoing}
use Rattle.seata_types.specs.declared.rows.RowKey.{RowKey}
use Rattle.seata_types.specs.declared.statuses.Decision.{Decision}
use Rattle.seata_types.specs.declared.statuses.Decision.TheVariants as how
use Rattle.durable_records.specs.declared.coordinators.SessionRecord.{SessionRecord}
use Rattle.durable_records.specs.declared.resources.ResourceRecord.{ResourceRecord}
use Rattle.durable_records.specs.declared.resources.ResourceRecord.TheVariants as resource_log
use Rattle.durable_records.specs.Transactions.{decided, is_commit, is_rollback}
use Rattle.durable_records.specs.RowsKept.{Change, ByBranch, ByLocal, ByOutside, image_at, by_branch, by_local, by_outside, is_by_other, changes}
use Rattle.history_rules.specs.Own.{Left}
use Rattle.history_rules.specs.CoordinatorRules.{xid_of, branch_of, next_asked}
use Rattle.history_rules.specs.ResourceMemory.{Setup, Open, Memory, has_row}
use Rattle.history_rules.specs.Nodes.{World, Past, counted_at}
use Rattle.history_rules.specs.Histories.{Moment, coordinator_left}
use Rattle.history_law.specs.Points.{In}
use Rattle.history_law.specs.Network.{OnSent, EachSent}
use Rattle.history_law.specs.Tickets.{WasGiven, Names, HasAll}
use Rattle.history_law.specs.Cover.{all_of, memory_of, Says, CoversBy, Covers}
use Rattle.history_law.specs.OrderSafety.{IsSettled, AreSettled}
use Rattle.history_law.proofs.Tests.{false_true, none_some}
use Rattle.history_law.proofs.Branches.{stays_decided, decided_in_all}
use Rattle.history_law.proofs.BranchOrder.{RollsTo, rolls_step, rolls_in_all, rolls_to_asked}
use Rattle.history_law.proofs.Deliveries.{each_grows}
use Rattle.history_law.proofs.ManagerSteps.{IsManagers, SendsManagers}
use Rattle.history_law.proofs.CoordinatorCauses.{Tells, TellsOf, TellsFree}
use Rattle.history_law.proofs.CoverCoordinator.{covers_coordinator}
use Rattle.history_law.proofs.CoverResource.{one_number, in_added}
use Rattle.history_law.proofs.ResourceFits.{MessageFits, SentFits, Fits}
use Rattle.history_law.proofs.ResourceSteps.{RecordFits, OpenFrom}
use Rattle.history_law.proofs.TicketSteps.{memory_by, given_later, next_not_given}
use Rattle.history_law.proofs.RowHolders.{row_settled}
use Rattle.history_law.proofs.RowChanges.{all_added, all_filter}
use Rattle.history_law.proofs.ResourceRows.{each_memory, names_on, images_apart}
use Rattle.history_law.proofs.Steps.{TcStep, ResStep}

-- ---- what is said

-- the changes of the rows of a ticket are settled, those of the records and with the one in flight
abbrev pub Frees : List SessionRecord → Memory → Open → Type 0
Frees rs m o = (key : RowKey) → has_row key o ≡ true → AreSettled rs (changes m.left.records key) × AreSettled rs (changes (all_of m.left) key)

-- a resource asks for all rows of its ticket
pub record QuerySaid (w : World) (mem : ℕ → Setup → Memory) (from : Place) (r : ℕ) (t : Ticket) (check : List RowKey) : Type 0 where
  pub at : from ≡ place.Res r
  pub names : (s : Setup) → counted_at w.resources r ≡ Some s → Names (mem r s) t (HasAll check)

abbrev pub SaysRow : World → Left SessionRecord → (ℕ → Setup → Memory) → Place → Place → Message → Type 0
SaysRow w tc mem from to (message.LockQuery r t check) = QuerySaid w mem from r t check
SaysRow w tc mem from to (message.LockAnswer t None) = (n : ℕ) → to ≡ place.Res n → (s : Setup) → counted_at w.resources n ≡ Some s → Names (mem n s) t (Frees tc.records (mem n s))
SaysRow w tc mem from to (message.BranchRollback xid b k manager c) = RollsTo tc.records xid.0 b.0 × RollsTo (all_of tc) xid.0 b.0
SaysRow w tc mem from to _ = Unit {0}

abbrev pub SaysRows : World → Left SessionRecord → (ℕ → Setup → Memory) → Place → Outgoing → Type 0
SaysRows w tc mem from out = SaysRow w tc mem from out.to out.message

pub rollback_no_commit : (d : Option Decision) → is_rollback d ≡ true → is_commit d ≡ false
rollback_no_commit None e = refl
rollback_no_commit (Some how.Commit) e = false_true e
rollback_no_commit (Some how.Rollback) e = refl
rollback_no_commit (Some how.Timeout) e = refl

-- what is settled stays so
module _ (rs rs' : List SessionRecord) (more : (x : ℕ) → is_commit (decided rs x) ≡ true → is_commit (decided rs' x) ≡ true) where
  settled_on : (c : Change) → IsSettled rs c → IsSettled rs' c
  settled_on (ByBranch x b before after) s = more x s
  settled_on (ByLocal after) s = tt
  settled_on (ByOutside after) s = tt

  pub all_settled_on : (cs : List Change) → AreSettled rs cs → AreSettled rs' cs
  all_settled_on cs all c j = settled_on c (all c j)

-- ---- at the coordinator

module _ (w : World) (past : Past) (ms : List Moment) (m : Moment) (c : Covers w past ms) (each : EachSent (SaysRows w (coordinator_left past ms) (memory_of past ms)) ms) (t : TcStep w past ms m) where
  abbrev tc : Left SessionRecord
  tc = coordinator_left past ms

  abbrev mem : ℕ → Setup → Memory
  mem = memory_of past ms

  after_covers : CoversBy w t.after mem (m ∷ ms)
  after_covers = covers_coordinator w tc mem ms c t.event (λ from msg is. t.heard (λ p out. Says w (coordinator_left past ms) (memory_of past ms) p out) c.said from msg is) t.after t.keeps m t.at t.tells

  commits_stay : (x : ℕ) → is_commit (decided tc.records x) ≡ true → is_commit (decided t.after.records x) ≡ true
  commits_stay x e = (t.keeps (λ z. is_commit (decided z x) ≡ true) (λ r f j. stays_decided is_commit refl tc.records x r f.0 j) (e, decided_in_all is_commit refl tc c.allowed.1 x e)).0

  row_grows : (from to : Place) (msg : Message) → SaysRow w tc mem from to msg → SaysRow w t.after mem from to msg
  row_grows from to (message.LockQuery r k check) said = said
  row_grows from to (message.LockAnswer k None) said = λ n at s is.
      let names = said n at s is in
      record {
        given = names.given;
        named = λ o i e key h.
            let f = names.named o i e key h in
            (all_settled_on tc.records t.after.records commits_stay (changes (mem n s).left.records key) f.0, all_settled_on tc.records t.after.records commits_stay (changes (all_of (mem n s).left) key) f.1);
      }
  row_grows from to (message.LockAnswer k (Some held)) said = tt
  row_grows from to (message.BranchRollback xid b kind man d) said = t.keeps (λ z. RollsTo z xid.0 b.0) (λ r f q. rolls_step tc.records xid.0 b.0 r f.0 q) said
  row_grows from to _ said = tt

  -- a free answer: nobody held a row of the ticket
  free_names : (to : Place) (k : Ticket) → TellsFree t.after.records t.event to k → (n : ℕ) → to ≡ place.Res n → (s : Setup) → counted_at w.resources n ≡ Some s → Names (mem n s) k (Frees t.after.records (mem n s))
  free_names to k said n at s is =
      let asked = t.heard (λ p out. SaysRows w (coordinator_left past ms) (memory_of past ms) p out) each to (message.LockQuery said.resource k said.check) said.is in
      let here : said.resource ≡ n = one_number said.resource n (sym asked.at ∙ at) in
      let names : Names (mem n s) k (HasAll said.check) = subst (λ z. Names (memory_of past ms z s) k (HasAll said.check)) here (asked.names s (ap (counted_at w.resources) here ∙ is)) in
      let cleared = λ (x b : ℕ) (j : In (resource_log.Cleared (xid_of x) (branch_of b)) (all_of (mem n s).left)). (after_covers.at n s is).cleared x b j in
      record {
        given = names.given;
        named = λ o i e key h.
            let row = names.named o i e key h in (
              row_settled w t.after mem (m ∷ ms) after_covers n s is said.check key said.free row (mem n s).left.records (λ v j. inl j) (λ x b j. cleared x b (in_added (mem n s).left.flight (mem n s).left.records _ j)),
              row_settled w t.after mem (m ∷ ms) after_covers n s is said.check key said.free row (all_of (mem n s).left) (λ v j. inr j) cleared,
            );
      }

  tells_row : (to : Place) (msg : Message) → Tells t.after.records t.event to msg → SaysRow w t.after mem place.Tc to msg
  tells_row to (message.LockQuery r k check) said = absurd said
  tells_row to (message.LockAnswer k None) said = free_names to k said
  tells_row to (message.LockAnswer k (Some held)) said = tt
  tells_row to (message.BranchRollback xid b kind man d) said =
      let rs = t.after.records in
      let next : next_asked rs xid.0 false ≡ Some said.0.branch = ap (next_asked rs xid.0) (sym (rollback_no_commit (decided rs xid.0) said.1)) ∙ said.0.next in
      let one : RollsTo rs xid.0 b.0 = subst (λ q. RollsTo t.after.records xid.0 q) said.0.number (rolls_to_asked rs after_covers.allowed.0 xid.0 said.0.branch said.1 next) in
      (one, rolls_in_all t.after after_covers.allowed.1 xid.0 b.0 one)
  tells_row to _ said = tt

  tells_rows : (sent : Option Outgoing) → TellsOf t.after.records t.event sent → OnSent (SaysRows w t.after mem) place.Tc sent
  tells_rows None said = tt
  tells_rows (Some out) said = tells_row out.to out.message said

  pub rows_said_tc : EachSent (SaysRows w t.after (memory_of past ms)) (m ∷ ms)
  rows_said_tc = (
    each_grows (SaysRows w tc mem) (SaysRows w t.after mem) (λ p o. row_grows p o.to o.message) ms each,
    subst (λ p. OnSent (SaysRows w t.after mem) p m.step.sent) (sym t.at) (tells_rows m.step.sent t.tells),
  )

-- ---- at a resource

module _ (w : World) (past : Past) (ms : List Moment) (m : Moment) (c : Covers w past ms) (each : EachSent (SaysRows w (coordinator_left past ms) (memory_of past ms)) ms) (r : ResStep w past ms m) where
  abbrev left : Left SessionRecord
  left = coordinator_left past ms

  abbrev before : Memory
  before = memory_of past ms r.k r.s

  abbrev ne : Memory
  ne = memory_by r.s (memory_of past ms r.k r.s) r.event m.now m.step

  -- a record leaves the changes of the rows of a ticket that stays open settled
  record_settled : (p o : Open) (key : RowKey) → In p before.opens → In o ne.opens → p.ticket ≡ o.ticket → has_row key p ≡ true → (q : ResourceRecord) → RecordFits r.s before ne.opens r.event q
      → AreSettled left.records (changes before.left.records key) → AreSettled left.records (changes (q ∷ before.left.records) key)
  record_settled p o key ip io same h (resource_log.Committed xid b call images reads) f all =
      all_added (IsSettled left.records) (by_branch xid.0 b.0) (image_at images key) (changes before.left.records key)
      (λ a e. none_some (sym (images_apart w past ms m r c p o key ip io same h f.open_ticket images f.there f.images f.ends) ∙ e)) all
  record_settled p o key ip io same h (resource_log.Undone xid b) f all = all_filter (IsSettled left.records) (is_by_other xid.0 b.0) (changes before.left.records key) all
  record_settled p o key ip io same h (resource_log.LocalCommitted k images) f all = all_added (IsSettled left.records) by_local (image_at images key) (changes before.left.records key) (λ a e. tt) all
  record_settled p o key ip io same h (resource_log.Outside k images) f all = all_added (IsSettled left.records) by_outside (image_at images key) (changes before.left.records key) (λ a e. tt) all
  record_settled p o key ip io same h _ f all = all

  frees_by : (k : Ticket) → Names before k (Frees left.records before) → (o : Open) → In o ne.opens → o.ticket ≡ k → OpenFrom r.s before r.event ne o → Frees left.records ne o
  frees_by k names o io e (inr next) = absurd (next_not_given before k names.given (sym e ∙ next.ticket))
  frees_by k names o io e (inl (p, j, ip, eq)) = λ key h.
      let same : p.ticket ≡ o.ticket = sym (ap (λ q. q.ticket) eq) in
      let row : has_row key p ≡ true = subst (λ q. has_row key q ≡ true) eq h in
      r.moves.keeps (λ z. AreSettled left.records (changes z key)) (λ z q. q) (λ q f all. record_settled p o key ip io same row q f all) (names.named p ip (same ∙ e) key row)

  frees_on : (k : Ticket) → Names before k (Frees left.records before) → Names ne k (Frees left.records ne)
  frees_on k names = record { given = given_later before ne k r.moves.later names.given; named = λ o io e. frees_by k names o io e (r.moves.opens_from o io) }

  row_goes_on : (from to : Place) (msg : Message) → SaysRow w left (memory_of past ms) from to msg → SaysRow w left r.after from to msg
  row_goes_on from to (message.LockQuery n k check) said = record {
    at = said.at;
    names = λ s is. each_memory w past ms m r (λ j q z. Names z k (HasAll check)) n s is (λ names. names_on w past ms m r k (HasAll check) (λ o i p. p) names) (said.names s is);
  }
  row_goes_on from to (message.LockAnswer k None) said = λ n at s is.
      each_memory w past ms m r (λ j q z. Names z k (Frees left.records z)) n s is (λ names. frees_on k names) (said n at s is)
  row_goes_on from to (message.LockAnswer k (Some held)) said = tt
  row_goes_on from to (message.BranchRollback xid b kind man d) said = said
  row_goes_on from to _ said = tt

  setup_by : (q : Setup) → Some q ≡ Some r.s → q ≡ r.s
  setup_by q e = cc

  sends_row : (to : Place) (msg : Message) → MessageFits r.s before r.event m.step.act msg → SaysRow w left r.after m.place to msg
  sends_row to (message.LockQuery n k check) f =
      let at : n ≡ r.k = f.number ∙ r.named in
      let new : Names ne k (HasAll check) = record {
        given = subst (λ q. WasGiven ne q) f.ticket (r.moves.tickets.given f.open_ticket f.there);
        named = λ o j e. subst (HasAll check) (r.moves.tickets.distinct f.open_ticket o f.there j (f.ticket ∙ sym e)) f.rows;
      } in
      record {
        at = r.at ∙ ap place.Res (sym at);
        names = λ s is.
            let setup : s ≡ r.s = setup_by s (sym is ∙ ap (counted_at w.resources) at ∙ r.known) in
            let here : r.after n s ≡ ne = ap (λ z. r.after z s) at ∙ ap (r.after r.k) setup ∙ r.here in
            subst (λ z. Names z k (HasAll check)) (sym here) new;
      }
  sends_row to (message.LockAnswer k None) f = absurd f
  sends_row to (message.LockAnswer k (Some held)) f = tt
  sends_row to (message.BranchRollback xid b kind man d) f = absurd f
  sends_row to _ f = tt

  sends_rows : (sent : Option Outgoing) → m.step.sent ≡ sent → Fits r.s before r.event m.step ⊎ (m.step.sent ≡ None) → OnSent (SaysRows w left r.after) m.place sent
  sends_rows None e f = tt
  sends_rows (Some out) e (inr none) = none_some (sym none ∙ e)
  sends_rows (Some out) e (inl f) = sends_row out.to out.message (subst (λ z. SentFits r.s (memory_of past ms r.k r.s) r.event m.step.act z) e f.1)

  pub rows_said_res : EachSent (SaysRows w (coordinator_left past ms) r.after) (m ∷ ms)
  rows_said_res = (
    each_grows (SaysRows w left (memory_of past ms)) (SaysRows w left r.after) (λ p o. row_goes_on p o.to o.message) ms each,
    sends_rows m.step.sent refl r.moves.fits,
  )

-- ---- at a manager

module _ (w : World) (tc : Left SessionRecord) (mem : ℕ → Setup → Memory) (from : Place) where
  manager_row : (to : Place) (msg : Message) → IsManagers msg → SaysRow w tc mem from to msg
  manager_row to (message.Begin k timeout) is = tt
  manager_row to (message.Call xid k r d work) is = tt
  manager_row to (message.GlobalCommit xid) is = tt
  manager_row to (message.GlobalRollback xid) is = tt
  manager_row to (message.GlobalStatus xid) is = tt
  manager_row to _ is = absurd is

  pub manager_rows : (sent : Option Outgoing) → SendsManagers sent → OnSent (SaysRows w tc mem) from sent
  manager_rows None s = tt
  manager_rows (Some out) s = manager_row out.to out.message s
