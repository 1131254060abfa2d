-- Calls in all legal histories: whose they are, and that no fence refuses a second phase.
use Rattle.std.proofs.Common.{◌≡◌, inl, inr, ◌==◌, ℕ, Bool, true, false, if◌then◌else◌, List, [], ◌∷◌, length, Option, Some, None, refl, ap, sym, subst, ◌∙◌}
use Rattle.seata_types.specs.declared.ids.Place.{Place}
use Rattle.seata_types.specs.declared.ids.Place.TheVariants as place
use Rattle.seata_types.specs.declared.ids.Ticket.{Ticket}
use Rattle.seata_types.specs.declared.messages.Input.TheVariants as input
use Rattle.seata_types.specs.declared.messages.Message.{Message}
use Rattle.seata_types.specs.declared.messages.Message.TheVariants as message
use Rattle.seata_types.specs.declared.messages.Outgoing.{Outgoing}
use Rattle.seata_types.specs.declared.messages.Registered.TheVariants as registered
use Rattle.seata_types.specs.declared.statements.Work.{Work}
use Rattle.seata_types.specs.declared.statuses.BranchKind.{BranchKind}
use Rattle.seata_types.specs.declared.statuses.BranchKind.TheVariants as kind
use Rattle.seata_types.specs.declared.statuses.Decision.{Decision}
use Rattle.seata_types.specs.declared.statuses.Decision.TheVariants as how
use Rattle.durable_records.specs.declared.coordinators.SessionRecord.{SessionRecord}
use Rattle.durable_records.specs.declared.coordinators.SessionRecord.TheVariants as log
use Rattle.durable_records.specs.declared.resources.ResourceRecord.{ResourceRecord}
use Rattle.durable_records.specs.declared.resources.ResourceRecord.TheVariants as resource_log
use Rattle.durable_records.specs.Transactions.{Session, sessions, decided, is_commit}
use Rattle.durable_records.specs.Branches.{Grant, grants}
use Rattle.history_rules.specs.Own.{Event, Given, Left}
use Rattle.history_rules.specs.CoordinatorRules.{xid_of}
use Rattle.history_rules.specs.ResourceMemory.{Setup, Owner, OfCall, OfLocal, Open, Memory}
use Rattle.history_rules.specs.ManagerRules.{Settings, last_sent, sent_after, receiver}
use Rattle.history_rules.specs.Nodes.{World, Past, counted_at}
use Rattle.history_rules.specs.Histories.{Moment, own, own_if, same_place, coordinator_left}
use Rattle.history_law.specs.Points.{In}
use Rattle.history_law.specs.Network.{OnSent, EachSent}
use Rattle.history_law.specs.Tickets.{Names, kind_of, Asks}
use Rattle.history_law.specs.Cover.{all_of, memory_of, HasKind, Covers}
use Rattle.history_law.specs.CallSafety.{Owns, IsCallOf, OwnWorked}
use Rattle.history_law.proofs.Tests.{false_true, same_nat}
use Rattle.history_law.proofs.Deliveries.{one_place, each_grows}
use Rattle.history_law.proofs.Branches.{grant_stays, in_all}
use Rattle.history_law.proofs.CoordinatorCauses.{Tells, TellsOf}
use Rattle.history_law.proofs.CoverCoordinator.{MayCaused}
use Rattle.history_law.proofs.CoverGrowth.{Steady}
use Rattle.history_law.proofs.ManagerSteps.{IsManagers, SendsManagers}
use Rattle.history_law.proofs.ManagerOwn.{SlotIs, ManagerIs, SentIs, LastIs, manager_is}
use Rattle.history_law.proofs.CallBranches.{session_stays, session_in_all}
use Rattle.history_law.proofs.Endings.{EndingsBy}
use Rattle.history_law.proofs.EndingHistory.{endings_keep}
use Rattle.history_law.proofs.Works.{CommitSaid, SaysWorks, WorksBy, to_stays, works_keep}
use Rattle.history_law.proofs.Steps.{TcStep, ManStep}

-- ---- what is kept of a resource

abbrev pub OwnerCalls : World → List SessionRecord → ℕ → Owner → Type 0
OwnerCalls w rs n (OfCall manager x c wk) = IsCallOf w rs x c n (kind_of wk)
OwnerCalls w rs n (OfLocal k) = Unit {0}

-- each open ticket is of a call
abbrev pub OpensCalls : World → List SessionRecord → ℕ → Memory → Type 0
OpensCalls w rs n m = (o : Open) → In o m.opens → OwnerCalls w rs n o.owner

-- the branch of a Try
pub record TriedOf (rs : List SessionRecord) (n x b c : ℕ) : Type 0 where
  pub branch : Grant
  pub granted : In branch (grants rs)
  pub xid : branch.xid ≡ x
  pub number : branch.branch ≡ b
  pub call : branch.call ≡ c
  pub resource : branch.resource ≡ n
  pub tcc : branch.kind ≡ kind.Tcc

-- a Try is of a branch, a local commit of an AT call
abbrev pub WorkIs : World → List SessionRecord → ℕ → ResourceRecord → Type 0
WorkIs w rs n (resource_log.Tried xid b c images) = TriedOf rs n xid.0 b.0 c
WorkIs w rs n (resource_log.Committed xid b c images reads) = IsCallOf w rs xid.0 c n kind.At
WorkIs w rs n _ = Unit {0}

abbrev pub WorksAre : World → List SessionRecord → ℕ → List ResourceRecord → Type 0
WorksAre w rs n records = (q : ResourceRecord) → In q records → WorkIs w rs n q

pub record CallsAt (w : World) (rs : List SessionRecord) (n : ℕ) (m : Memory) : Type 0 where
  pub opens : OpensCalls w rs n m
  pub works : WorksAre w rs n m.left.records × WorksAre w rs n (all_of m.left)

-- ---- what messages say

-- a Call of a manager's own transaction, with the slot of its settings, to its resource
pub record CallSaid (w : World) (rs : List SessionRecord) (from to : Place) (x r c : ℕ) (wk : Work) : Type 0 where
  pub manager : ℕ
  pub at : from ≡ place.Man manager
  pub owns : Owns rs manager x
  pub settings : Settings
  pub known : counted_at w.managers manager ≡ Some settings
  pub slot : SlotIs settings r c wk
  pub reaches : to ≡ place.Res r

-- an open ticket is of this branch's call
abbrev pub OwnedBy : Grant → Open → Type 0
OwnedBy g o = (manager x c : ℕ) (wk : Work) → o.owner ≡ OfCall manager x c wk → (g.xid ≡ x) × (g.call ≡ c)

pub record GrantOf (w : World) (rs : List SessionRecord) (mem : ℕ → Setup → Memory) (t : Ticket) (b : ℕ) : Type 0 where
  pub branch : Grant
  pub granted : In branch (grants rs)
  pub number : branch.branch ≡ b
  pub owned : branch.kind ≡ kind.Tcc → (s : Setup) → counted_at w.resources branch.resource ≡ Some s → Names (mem branch.resource s) t (OwnedBy branch)

abbrev pub SaysCall : World → List SessionRecord → (ℕ → Setup → Memory) → Place → Place → Message → Type 0
SaysCall w rs mem from to (message.Begun xid) = (k : ℕ) → to ≡ place.Man k → Owns rs k xid.0
SaysCall w rs mem from to (message.Call xid manager r c wk) = CallSaid w rs from to xid.0 r c wk
SaysCall w rs mem from to (message.GlobalCommit xid) = (k : ℕ) → from ≡ place.Man k → Owns rs k xid.0
SaysCall w rs mem from to (message.Register xid r c t k hold check) = IsCallOf w rs xid.0 c r k
SaysCall w rs mem from to (message.RegisterAnswer t xid (registered.Granted b)) = GrantOf w rs mem t b.0
SaysCall w rs mem from to _ = Unit {0}

abbrev pub SaysCalls : World → List SessionRecord → (ℕ → Setup → Memory) → Place → Outgoing → Type 0
SaysCalls w rs mem from out = SaysCall w rs mem from out.to out.message

-- ---- the whole

abbrev pub AreCalls : World → List SessionRecord → List SessionRecord → Type 0
AreCalls w rs all = (g : Grant) → In g (grants all) → IsCallOf w rs g.xid g.call g.resource g.kind

abbrev pub OwnCommits : World → List SessionRecord → (ℕ → Setup → Memory) → List SessionRecord → Type 0
OwnCommits w rs mem all = (x : ℕ) → is_commit (decided all x) ≡ true → OwnWorked w rs mem x

pub record CallsBy (w : World) (tc : Left SessionRecord) (mem : ℕ → Setup → Memory) (ms : List Moment) : Type 0 where
  pub ends : EndingsBy w tc mem ms
  pub works : WorksBy w tc mem ms
  pub said : EachSent (SaysCalls w tc.records mem) ms
  pub at : (n : ℕ) (s : Setup) → counted_at w.resources n ≡ Some s → CallsAt w tc.records n (mem n s)
  pub granted : AreCalls w tc.records tc.records × AreCalls w tc.records (all_of tc)
  pub committed : OwnCommits w tc.records mem tc.records × OwnCommits w tc.records mem (all_of tc)

-- ---- what goes on

pub record CallsGrow (w : World) (rs : List SessionRecord) (mem : ℕ → Setup → Memory) (rs' : List SessionRecord) (mem' : ℕ → Setup → Memory) : Type 1 where
  pub sessions_stay : (s : Session) → In s (sessions rs) → In s (sessions rs')
  pub grants_stay : (g : Grant) → In g (grants rs) → In g (grants rs')
  pub names_stay : (n : ℕ) (s : Setup) → counted_at w.resources n ≡ Some s → (t : Ticket) (P : Open → Type 0) → Steady P → Names (mem n s) t P → Names (mem' n s) t P
  pub records_stay : (n : ℕ) (s : Setup) → counted_at w.resources n ≡ Some s → (r : ResourceRecord) → In r (mem n s).left.records → In r (mem' n s).left.records

module _ (w : World) (rs : List SessionRecord) (mem : ℕ → Setup → Memory) (rs' : List SessionRecord) (mem' : ℕ → Setup → Memory) (g : CallsGrow w rs mem rs' mem') where
  owns_on : (k x : ℕ) → Owns rs k x → Owns rs' k x
  owns_on k x o = record { began = o.began; there = g.sessions_stay o.began o.there; xid = o.xid; manager = o.manager }

  call_on : (x c r : ℕ) (k : BranchKind) → IsCallOf w rs x c r k → IsCallOf w rs' x c r k
  call_on x c r k a = record {
    manager = a.manager;
    owns = owns_on a.manager x a.owns;
    settings = a.settings;
    known = a.known;
    before = a.before;
    index = a.index;
    work = a.work;
    is = a.is;
    of_kind = a.of_kind;
  }

  owner_on : (n : ℕ) (o : Owner) → OwnerCalls w rs n o → OwnerCalls w rs' n o
  owner_on n (OfCall manager x c wk) k = call_on x c n (kind_of wk) k
  owner_on n (OfLocal j) k = tt

  pub work_on : (n : ℕ) (q : ResourceRecord) → WorkIs w rs n q → WorkIs w rs' n q
  work_on n (resource_log.Tried xid b c images) f = record {
    branch = f.branch;
    granted = g.grants_stay f.branch f.granted;
    xid = f.xid;
    number = f.number;
    call = f.call;
    resource = f.resource;
    tcc = f.tcc;
  }
  work_on n (resource_log.Committed xid b c images reads) f = call_on xid.0 c n kind.At f
  work_on n _ f = tt

  pub at_on : (n : ℕ) (m : Memory) → CallsAt w rs n m → CallsAt w rs' n m
  at_on n m a = record {
    opens = λ o i. owner_on n o.owner (a.opens o i);
    works = (λ q i. work_on n q (a.works.0 q i), λ q i. work_on n q (a.works.1 q i));
  }

  pub said_on : (from to : Place) (msg : Message) → SaysCall w rs mem from to msg → SaysCall w rs' mem' from to msg
  said_on from to (message.Begun xid) said = λ k at. owns_on k xid.0 (said k at)
  said_on from to (message.Call xid manager r c wk) said = record {
    manager = said.manager;
    at = said.at;
    owns = owns_on said.manager xid.0 said.owns;
    settings = said.settings;
    known = said.known;
    slot = said.slot;
    reaches = said.reaches;
  }
  said_on from to (message.GlobalCommit xid) said = λ k at. owns_on k xid.0 (said k at)
  said_on from to (message.Register xid r c t k hold check) said = call_on xid.0 c r k said
  said_on from to (message.RegisterAnswer t xid (registered.Granted b)) said = record {
    branch = said.branch;
    granted = g.grants_stay said.branch said.granted;
    number = said.number;
    owned = λ k s is. g.names_stay said.branch.resource s is t (OwnedBy said.branch) (λ o n p. p) (said.owned k s is);
  }
  said_on from to (message.RegisterAnswer t xid (registered.Conflict key holder rolling)) said = tt
  said_on from to (message.RegisterAnswer t xid (registered.Closed status)) said = tt
  said_on from to (message.RegisterAnswer t xid registered.Late) said = tt
  said_on from to _ said = tt

  pub calls_on : (all : List SessionRecord) → AreCalls w rs all → AreCalls w rs' all
  calls_on all a q i = call_on q.xid q.call q.resource q.kind (a q i)

  pub commits_on : (all : List SessionRecord) → OwnCommits w rs mem all → OwnCommits w rs' mem' all
  commits_on all a x e =
      let o = a x e in
      record {
        all = record {
          manager = o.all.manager;
          settings = o.all.settings;
          known = o.all.known;
          worked = to_stays w mem mem' g.records_stay x (length o.all.settings.calls) o.all.worked;
        };
        owns = owns_on o.all.manager x o.owns;
      }

-- ---- at the coordinator

man_number : (n k : ℕ) → place.Man n ≡ place.Man k → n ≡ k
man_number n k e = cc

module _ (w : World) (past : Past) (ms : List Moment) (m : Moment) (c : Covers w past ms) (i : CallsBy w (coordinator_left past ms) (memory_of past ms) ms) (t : TcStep w past ms m) where
  abbrev tc : Left SessionRecord
  tc = coordinator_left past ms

  abbrev mem : ℕ → Setup → Memory
  mem = memory_of past ms

  heard_call : (from : Place) (msg : Message) → t.event ≡ Given (input.Message from msg) → SaysCall w tc.records mem from place.Tc msg
  heard_call from msg is = t.heard (SaysCalls w tc.records mem) i.said from msg is

  tc_grown : CallsGrow w tc.records mem t.after.records mem
  tc_grown = record {
    sessions_stay = λ s j. (t.keeps (λ rs. In s (sessions rs)) (λ r f k. session_stays r tc.records s k) (j, session_in_all tc s j)).0;
    grants_stay = λ g j. (t.keeps (λ rs. In g (grants rs)) (λ r f k. grant_stays r tc.records g k) (j, in_all tc g j)).0;
    names_stay = λ n s is u P steady names. names;
    records_stay = λ n s is r j. j;
  }

  grant_step : (r : SessionRecord) → MayCaused tc.records t.event r → AreCalls w t.after.records tc.records → AreCalls w t.after.records (r ∷ tc.records)
  grant_step (log.Granted xid b resource call u k hold) f all g (inl is) =
      let cause = f.1 in
      let said = heard_call cause.from (message.Register cause.xid resource call u k hold cause.check) cause.is in
      let mine = call_on w tc.records mem t.after.records mem tc_grown cause.xid.0 call resource k said in
      subst (λ (z : Grant). IsCallOf w t.after.records z.xid z.call z.resource z.kind) (sym is) (subst (λ z. IsCallOf w t.after.records z call resource k) cause.same mine)
  grant_step (log.Granted xid b resource call u k hold) f all g (inr j) = all g j
  grant_step (log.Begun xid manager moment timeout) f all g j = all g j
  grant_step (log.Decided xid d) f all g j = all g j
  grant_step (log.Retrying xid) f all g j = all g j
  grant_step (log.Ended xid b) f all g j = all g j
  grant_step (log.Failed xid b stmt) f all g j = all g j
  grant_step (log.Finished xid) f all g j = all g j
  grant_step (log.Forgot xid) f all g j = all g j

  -- a commit is asked for by the manager that began the transaction
  asked_own : (from : Place) (x : ℕ) → CommitSaid w mem from x → ((k : ℕ) → from ≡ place.Man k → Owns tc.records k x) → OwnWorked w t.after.records mem x
  asked_own from x said owns = record {
    all = record { manager = said.manager; settings = said.settings; known = said.known; worked = said.worked };
    owns = owns_on w tc.records mem t.after.records mem tc_grown said.manager x (owns said.manager said.at);
  }

  commit_by : (x : ℕ) (d before : Option Decision) (b : Bool) → (b ≡ true → is_commit d ≡ true → OwnWorked w t.after.records mem x) → (is_commit before ≡ true → OwnWorked w t.after.records mem x)
      → is_commit (if b then d else before) ≡ true → OwnWorked w t.after.records mem x
  commit_by x d before true now below e = now refl e
  commit_by x d before false now below e = below e

  commit_step : (r : SessionRecord) → MayCaused tc.records t.event r → OwnCommits w t.after.records mem tc.records → OwnCommits w t.after.records mem (r ∷ tc.records)
  commit_step (log.Decided xid how.Commit) f all x e =
      let msg = message.GlobalCommit (xid_of xid.0) in
      commit_by x (Some how.Commit) (decided tc.records x) (xid.0 == x)
      (λ b k. subst (λ q. OwnWorked w t.after.records mem q) (same_nat xid.0 x b)
      (asked_own f.1.from xid.0 (t.heard (SaysWorks w mem) i.works.said f.1.from (message.GlobalCommit (xid_of xid.0)) f.1.is) (heard_call f.1.from (message.GlobalCommit (xid_of xid.0)) f.1.is))) (all x) e
  commit_step (log.Decided xid how.Rollback) f all x e = commit_by x (Some how.Rollback) (decided tc.records x) (xid.0 == x) (λ b k. false_true k) (all x) e
  commit_step (log.Decided xid how.Timeout) f all x e = commit_by x (Some how.Timeout) (decided tc.records x) (xid.0 == x) (λ b k. false_true k) (all x) e
  commit_step (log.Begun xid manager moment timeout) f all x e = all x e
  commit_step (log.Granted xid b resource call u k hold) f all x e = all x e
  commit_step (log.Retrying xid) f all x e = all x e
  commit_step (log.Ended xid b) f all x e = all x e
  commit_step (log.Failed xid b stmt) f all x e = all x e
  commit_step (log.Finished xid) f all x e = all x e
  commit_step (log.Forgot xid) f all x e = all x e

  owner_one : (man x d man' y e : ℕ) (wk wk' : Work) → OfCall man x d wk ≡ OfCall man' y e wk' → (x ≡ y) × (d ≡ e)
  owner_one man x d man' y e wk wk' is = (first is, second is)
    where
      first : OfCall man x d wk ≡ OfCall man' y e wk' → x ≡ y
      first is = cc

      second : OfCall man x d wk ≡ OfCall man' y e wk' → d ≡ e
      second is = cc

  -- what the ticket of a TCC Register asks for is what its branch is of
  asks_owned : (g : Grant) (x d : ℕ) (k : BranchKind) (hold check : List Rattle.seata_types.specs.declared.rows.RowKey.RowKey) (o : Open) → g.xid ≡ x → g.call ≡ d → Asks x d k hold check o → OwnedBy g o
  asks_owned g x d k hold check o gx gd a manager y e wk is =
      let same = owner_one a.manager x d manager y e a.work wk (sym a.owner ∙ is) in
      (gx ∙ same.0, gd ∙ same.1)

  tells_call : (to : Place) (msg : Message) → Tells t.after.records t.event to msg → SaysCall w t.after.records mem place.Tc to msg
  tells_call to (message.Begun xid) said = λ k at. record { began = said.of; there = said.there; xid = said.xid; manager = man_number said.of.manager k (sym said.manager ∙ at) }
  tells_call to (message.Call xid manager r d wk) said = absurd said
  tells_call to (message.GlobalCommit xid) said = absurd said
  tells_call to (message.Register xid r d u k hold check) said = absurd said
  tells_call to (message.RegisterAnswer u xid (registered.Granted b)) said =
      let a = said.ask in
      let asks = t.heard (λ p out. Rattle.history_law.specs.Cover.Says w tc mem p out) c.said said.from (message.Register (xid_of a.xid) a.resource a.call a.ticket a.kind a.hold a.check) said.is in
      record {
        branch = said.branch;
        granted = said.granted;
        number = said.number;
        owned = λ k s is.
            let names = asks s (ap (counted_at w.resources) (sym said.resource) ∙ is) in
            let here = subst (λ z. Names (mem z s) a.ticket (Asks a.xid a.call a.kind a.hold a.check)) (sym said.resource) names in
            let same = said.tcc k in
            subst (λ z. Names (mem said.branch.resource s) z (OwnedBy said.branch)) (sym said.ticket)
            (record { given = here.given; named = λ o j e. asks_owned said.branch a.xid a.call a.kind a.hold a.check o same.0 same.1 (here.named o j e) });
      }
  tells_call to (message.RegisterAnswer u xid (registered.Conflict key holder rolling)) said = tt
  tells_call to (message.RegisterAnswer u xid (registered.Closed status)) said = tt
  tells_call to (message.RegisterAnswer u xid registered.Late) said = tt
  tells_call to _ said = tt

  tells_calls : (sent : Option Outgoing) → TellsOf t.after.records t.event sent → OnSent (SaysCalls w t.after.records mem) place.Tc sent
  tells_calls None said = tt
  tells_calls (Some out) said = tells_call out.to out.message said

  pub calls_at_tc : CallsBy w t.after mem (m ∷ ms)
  calls_at_tc = record {
    ends = (endings_keep w past).at_tc ms m c i.ends t;
    works = (works_keep w past).at_tc ms m c i.works t;
    said = (
      each_grows (SaysCalls w tc.records mem) (SaysCalls w t.after.records mem) (λ p o. said_on w tc.records mem t.after.records mem tc_grown p o.to o.message) ms i.said,
      subst (λ p. OnSent (SaysCalls w t.after.records mem) p m.step.sent) (sym t.at) (tells_calls m.step.sent t.tells),
    );
    at = λ n s is. at_on w tc.records mem t.after.records mem tc_grown n (mem n s) (i.at n s is);
    granted = t.keeps (AreCalls w t.after.records) grant_step
        (calls_on w tc.records mem t.after.records mem tc_grown tc.records i.granted.0, calls_on w tc.records mem t.after.records mem tc_grown (all_of tc) i.granted.1);
    committed = t.keeps (OwnCommits w t.after.records mem) commit_step
        (commits_on w tc.records mem t.after.records mem tc_grown tc.records i.committed.0, commits_on w tc.records mem t.after.records mem tc_grown (all_of tc) i.committed.1);
  }

-- ---- at a manager

module _ (w : World) (rs : List SessionRecord) (mem : ℕ → Setup → Memory) (k : ℕ) (settings : Settings) (known : counted_at w.managers k ≡ Some settings) where
  one_settings_by : (q : Settings) → Some q ≡ Some settings → q ≡ settings
  one_settings_by q e = cc

  abbrev Is : ℕ → Type 0
  Is x = Owns rs k x

  abbrev AnyNumber : ℕ → Type 0
  AnyNumber n = Unit {0}

  of_manager : (to : Place) (msg : Message) → SaysCall w rs mem (place.Man k) to msg → ManagerIs settings Is AnyNumber msg
  of_manager to (message.GlobalCommit xid) said = said k refl
  of_manager to (message.Call xid manager r d wk) said =
      let same : said.manager ≡ k = man_number said.manager k (sym said.at) in
      let one : said.settings ≡ settings = one_settings_by said.settings (sym said.known ∙ ap (counted_at w.managers) same ∙ known) in
      (subst (λ z. Owns rs z xid.0) same said.owns, tt, subst (λ z. SlotIs z r d wk) one said.slot)
  of_manager to _ said = tt

  newest : (sent : Option Outgoing) → OnSent (SaysCalls w rs mem) (place.Man k) sent → (before : Option Message) → LastIs settings Is AnyNumber before → LastIs settings Is AnyNumber (sent_after sent before)
  newest None said before last = last
  newest (Some out) said before last = of_manager out.to out.message said

  newest_by : (m : Moment) (event : Option Event) (b : Bool) → (b ≡ true → place.Man k ≡ m.place) → OnSent (SaysCalls w rs mem) m.place m.step.sent → (ms : List Moment)
      → LastIs settings Is AnyNumber (last_sent (own (place.Man k) ms)) → LastIs settings Is AnyNumber (last_sent (own_if b event m (own (place.Man k) ms)))
  newest_by m (Some event) true here said ms last = newest m.step.sent (subst (λ p. OnSent (SaysCalls w rs mem) p m.step.sent) (sym (here refl)) said) (last_sent (own (place.Man k) ms)) last
  newest_by m None true here said ms last = last
  newest_by m (Some event) false here said ms last = last
  newest_by m None false here said ms last = last

  last_said : (ms : List Moment) → EachSent (SaysCalls w rs mem) ms → LastIs settings Is AnyNumber (last_sent (own (place.Man k) ms))
  last_said [] each = tt
  last_said (m ∷ ms) each = newest_by m m.event (same_place (place.Man k) m.place) (one_place (place.Man k) m.place) each.1 ms (last_said ms each.0)

  as_said : (to : Place) (msg : Message) → IsManagers msg → ManagerIs settings Is AnyNumber msg → to ≡ receiver msg → SaysCall w rs mem (place.Man k) to msg
  as_said to (message.GlobalCommit xid) kind is at = λ j e. subst (λ z. Owns rs z xid.0) (man_number k j e) is
  as_said to (message.Call xid manager r d wk) kind is at = record { manager = k; at = refl; owns = is.0; settings = settings; known = known; slot = is.2; reaches = at }
  as_said to (message.Begin number timeout) kind is at = tt
  as_said to (message.GlobalRollback xid) kind is at = tt
  as_said to (message.GlobalStatus xid) kind is at = tt
  as_said to _ kind is at = absurd kind

  sent_said : (o : Option Outgoing) → SendsManagers o → SentIs settings Is AnyNumber o → OnSent (SaysCalls w rs mem) (place.Man k) o
  sent_said None kind is = tt
  sent_said (Some out) kind is = as_said out.to out.message kind is.0 is.1

module _ (w : World) (past : Past) (ms : List Moment) (m : Moment) (c : Covers w past ms) (i : CallsBy w (coordinator_left past ms) (memory_of past ms) ms) (t : ManStep w past ms m) where
  pub calls_at_man : CallsBy w (coordinator_left past ms) (memory_of past ms) (m ∷ ms)
  calls_at_man =
      let rs = (coordinator_left past ms).records in
      let is = manager_is t.settings (λ x. Owns (coordinator_left past ms).records t.k x) (λ n. Unit {0}) tt (own (place.Man t.k) ms) (last_said w (coordinator_left past ms).records (memory_of past ms) t.k t.settings t.known ms i.said)
      t.event m.now m.step (λ from xid e. t.heard (SaysCalls w (coordinator_left past ms).records (memory_of past ms)) i.said from (message.Begun xid) e t.k refl) t.happens in
      record {
        ends = (endings_keep w past).at_man ms m c i.ends t;
        works = (works_keep w past).at_man ms m c i.works t;
        said = (
          i.said,
          subst (λ p. OnSent (SaysCalls w (coordinator_left past ms).records (memory_of past ms)) p m.step.sent) (sym t.at)
              (sent_said w (coordinator_left past ms).records (memory_of past ms) t.k t.settings t.known m.step.sent t.sends is),
        );
        at = i.at;
        granted = i.granted;
        committed = i.committed;
      }
