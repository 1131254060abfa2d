-- The work of calls in all legal histories: a commit is asked for, and decided, only after it.
use Rattle.std.proofs.Common.{◌≡◌, ◌⊎◌, inl, inr, ◌+◌, ◌<◌, ◌≤◌, ◌==◌, ℕ, zero, suc, Bool, true, false, if◌then◌else◌, List, [], ◌∷◌, length, Option, Some, None, refl, ap, sym, subst, ◌∙◌, arith}
use Rattle.std.proofs.lemmas.Bool.{cases_lt}
use Rattle.seata_types.specs.declared.acts.Act.{Act}
use Rattle.seata_types.specs.declared.acts.Act.TheVariants as act
use Rattle.seata_types.specs.declared.acts.Durable.{Durable}
use Rattle.seata_types.specs.declared.ids.Place.{Place}
use Rattle.seata_types.specs.declared.ids.Place.TheVariants as place
use Rattle.seata_types.specs.declared.messages.CallAnswer.TheVariants as called
use Rattle.seata_types.specs.declared.messages.Input.TheVariants as input
use Rattle.seata_types.specs.declared.messages.Message.{Message}
use Rattle.seata_types.specs.declared.messages.Message.TheVariants as message
use Rattle.seata_types.specs.declared.messages.Outgoing.{Outgoing}
use Rattle.seata_types.specs.declared.messages.Step.{Step}
use Rattle.seata_types.specs.declared.statuses.Decision.{Decision}
use Rattle.seata_types.specs.declared.statuses.Decision.TheVariants as how
use Rattle.durable_records.specs.declared.coordinators.SessionRecord.{SessionRecord}
use Rattle.durable_records.specs.declared.coordinators.SessionRecord.TheVariants as log
use Rattle.durable_records.specs.declared.resources.ResourceRecord.{ResourceRecord}
use Rattle.durable_records.specs.Transactions.{decided, is_commit}
use Rattle.history_rules.specs.Own.{Event, Given, Left, added}
use Rattle.history_rules.specs.CoordinatorRules.{xid_of}
use Rattle.history_rules.specs.ResourceMemory.{Setup, Memory, resource_record}
use Rattle.history_rules.specs.ManagerRules.{Settings, last_sent, sent_after}
use Rattle.history_rules.specs.Nodes.{World, Past, counted_at}
use Rattle.history_rules.specs.Histories.{Moment, Legal, own, own_if, same_place, coordinator_left}
use Rattle.history_rules.specs.Chains.{IsChain, MayLeave, IsBlankPast}
use Rattle.history_law.specs.Points.{In}
use Rattle.history_law.specs.Network.{OnSent, EachSent}
use Rattle.history_law.specs.Cover.{all_of, memory_of, Covers}
use Rattle.history_law.specs.TicketSafety.{AreNumbered}
use Rattle.history_law.specs.WorkSafety.{HasWorked, WorkedTo, AllWorked, CommitsStaySafe, CommitsLaw, CommitsOfChains}
use Rattle.history_law.proofs.Tests.{false_true, none_some, same_nat}
use Rattle.history_law.proofs.Deliveries.{one_place, each_grows}
use Rattle.history_law.proofs.CoordinatorCauses.{Tells, TellsOf}
use Rattle.history_law.proofs.ResourceFits.{IsWorked, MessageFits, SentFits, Fits}
use Rattle.history_law.proofs.TicketSteps.{memory_by}
use Rattle.history_law.proofs.CoverCoordinator.{MayCaused}
use Rattle.history_law.proofs.CoverResource.{in_added}
use Rattle.history_law.proofs.CoverChains.{of_sessions, of_memory, covers_first, chain_covered, shorter_chain}
use Rattle.history_law.proofs.CoverHistory.{covers}
use Rattle.history_law.proofs.ManagerSteps.{IsManagers, SendsManagers}
use Rattle.history_law.proofs.ManagerCalls.{ManagerSays, SentSays, LastSays, manager_calls}
use Rattle.history_law.proofs.Steps.{ResStep, Keeps, by_entries}

-- ---- what the messages say

-- a commit comes from a manager each of whose calls has worked
pub record CommitSaid (w : World) (mem : ℕ → Setup → Memory) (from : Place) (x : ℕ) : Type 0 where
  pub manager : ℕ
  pub settings : Settings
  pub known : counted_at w.managers manager ≡ Some settings
  pub at : from ≡ place.Man manager
  pub worked : WorkedTo w mem x (length settings.calls)

abbrev pub SaysWork : World → (ℕ → Setup → Memory) → Place → Message → Type 0
SaysWork w mem from (message.Answer xid c (called.Done b)) = HasWorked w mem xid.0 c b.0
SaysWork w mem from (message.GlobalCommit xid) = CommitSaid w mem from xid.0
SaysWork w mem from (message.Call xid manager r c work) = (k : ℕ) → from ≡ place.Man k → (d : ℕ) → c ≡ d + 1 → WorkedTo w mem xid.0 d
SaysWork w mem from _ = Unit {0}

abbrev pub SaysWorks : World → (ℕ → Setup → Memory) → Place → Outgoing → Type 0
SaysWorks w mem from out = SaysWork w mem from out.message

abbrev pub CommitsWorked : World → (ℕ → Setup → Memory) → List SessionRecord → Type 0
CommitsWorked w mem rs = (x : ℕ) → is_commit (decided rs x) ≡ true → AllWorked w mem x

pub record WorksBy (w : World) (tc : Left SessionRecord) (mem : ℕ → Setup → Memory) (ms : List Moment) : Type 0 where
  pub said : EachSent (SaysWorks w mem) ms
  pub committed : CommitsWorked w mem tc.records × CommitsWorked w mem (all_of tc)

-- ---- records stay

module _ (w : World) (mem mem' : ℕ → Setup → Memory)
    (stays : (n : ℕ) (s : Setup) → counted_at w.resources n ≡ Some s → (r : ResourceRecord) → In r (mem n s).left.records → In r (mem' n s).left.records) where
  worked_stays : (x c b : ℕ) → HasWorked w mem x c b → HasWorked w mem' x c b
  worked_stays x c b k = record { number = k.number; setup = k.setup; known = k.known; work = k.work; is = k.is; stands = stays k.number k.setup k.known k.work k.stands }

  pub to_stays : (x d : ℕ) → WorkedTo w mem x d → WorkedTo w mem' x d
  to_stays x d to c low high = let k = to c low high in (k.0, worked_stays x c k.0 k.1)

  work_grows : (from : Place) (msg : Message) → SaysWork w mem from msg → SaysWork w mem' from msg
  work_grows from (message.Answer xid c (called.Done b)) said = worked_stays xid.0 c b.0 said
  work_grows from (message.Answer xid c (called.Busy key by)) said = tt
  work_grows from (message.Answer xid c (called.Failed why)) said = tt
  work_grows from (message.GlobalCommit xid) said =
      record { manager = said.manager; settings = said.settings; known = said.known; at = said.at; worked = to_stays xid.0 (length said.settings.calls) said.worked }
  work_grows from (message.Call xid manager r c work) said = λ k at d e. to_stays xid.0 d (said k at d e)
  work_grows from _ said = tt

  all_stay : (x : ℕ) → AllWorked w mem x → AllWorked w mem' x
  all_stay x a = record { manager = a.manager; settings = a.settings; known = a.known; worked = to_stays x (length a.settings.calls) a.worked }

to_none : (w : World) (mem : ℕ → Setup → Memory) (x : ℕ) → WorkedTo w mem x 0
to_none w mem x c low high = absurd (omega arith)

to_fewer : (w : World) (mem : ℕ → Setup → Memory) (x d e : ℕ) → WorkedTo w mem x d → e ≤ d → WorkedTo w mem x e
to_fewer w mem x d e to le c low high = to c low (omega arith)

one_more_by : (w : World) (mem : ℕ → Setup → Memory) (x d e b : ℕ) → WorkedTo w mem x d → HasWorked w mem x (suc d) b → 0 < e → e ≤ suc d → (e < suc d) ⊎ (suc d ≤ e) → (q : ℕ) × HasWorked w mem x e q
one_more_by w mem x d e b to here low high (inl less) = to e low (omega arith)
one_more_by w mem x d e b to here low high (inr more) = let is : suc d ≡ e = omega arith in (b, subst (λ q. HasWorked w mem x q b) is here)

-- one more call
to_more : (w : World) (mem : ℕ → Setup → Memory) (x c b : ℕ) → ((d : ℕ) → c ≡ d + 1 → WorkedTo w mem x d) → HasWorked w mem x c b → WorkedTo w mem x c
to_more w mem x zero b to here e low high = absurd (omega arith)
to_more w mem x (suc d) b to here e low high = one_more_by w mem x d e b (to d (omega arith)) here low high (cases_lt e (suc d))

-- ---- at the coordinator

module _ (w : World) (tc : Left SessionRecord) (mem : ℕ → Setup → Memory) (event : Event) (heard : (from : Place) (m : Message) → event ≡ Given (input.Message from m) → SaysWork w mem from m) where
  tc_says : (rs : List SessionRecord) (to : Place) (msg : Message) → Tells rs event to msg → SaysWork w mem place.Tc msg
  tc_says rs to (message.Answer xid c answer) t = absurd t
  tc_says rs to (message.GlobalCommit xid) t = absurd t
  tc_says rs to (message.Call xid manager r c work) t = absurd t
  tc_says rs to _ t = tt

  tc_sends : (rs : List SessionRecord) (sent : Option Outgoing) → TellsOf rs event sent → OnSent (SaysWorks w mem) place.Tc sent
  tc_sends rs None t = tt
  tc_sends rs (Some out) t = tc_says rs out.to out.message t

  -- a decision for commit was asked for
  commit_by : (x : ℕ) (d before : Option Decision) (t : Bool) → (t ≡ true → is_commit d ≡ true → AllWorked w mem x) → (is_commit before ≡ true → AllWorked w mem x) → is_commit (if t then d else before) ≡ true → AllWorked w mem x
  commit_by x d before true now below e = now refl e
  commit_by x d before false now below e = below e

  asked_commit : (from : Place) (x : ℕ) → CommitSaid w mem from x → AllWorked w mem x
  asked_commit from x said = record { manager = said.manager; settings = said.settings; known = said.known; worked = said.worked }

  committed_step : (r : SessionRecord) → MayCaused tc.records event r → CommitsWorked w mem tc.records → CommitsWorked w mem (r ∷ tc.records)
  committed_step (log.Decided xid how.Commit) m all x e =
      commit_by x (Some how.Commit) (decided tc.records x) (xid.0 == x)
      (λ t c. subst (λ q. AllWorked w mem q) (same_nat xid.0 x t) (asked_commit m.1.from xid.0 (heard m.1.from (message.GlobalCommit (xid_of xid.0)) m.1.is))) (all x) e
  committed_step (log.Decided xid how.Rollback) m all x e = commit_by x (Some how.Rollback) (decided tc.records x) (xid.0 == x) (λ t c. false_true c) (all x) e
  committed_step (log.Decided xid how.Timeout) m all x e = commit_by x (Some how.Timeout) (decided tc.records x) (xid.0 == x) (λ t c. false_true c) (all x) e
  committed_step (log.Begun xid manager moment timeout) m all x e = all x e
  committed_step (log.Granted xid b resource call ticket kind hold) m all x e = all x e
  committed_step (log.Retrying xid) m all x e = all x e
  committed_step (log.Ended xid b) m all x e = all x e
  committed_step (log.Failed xid b stmt) m all x e = all x e
  committed_step (log.Finished xid) m all x e = all x e
  committed_step (log.Forgot xid) m all x e = all x e

-- ---- at a manager

man_number : (n k : ℕ) → place.Man n ≡ place.Man k → n ≡ k
man_number n k e = cc

module _ (w : World) (mem : ℕ → Setup → Memory) (k : ℕ) (settings : Settings) (known : counted_at w.managers k ≡ Some settings) where
  one_manager_by : (q : Settings) → Some q ≡ Some settings → q ≡ settings
  one_manager_by q e = cc

  one_manager : (j : ℕ) (q : Settings) → place.Man k ≡ place.Man j → counted_at w.managers j ≡ Some q → q ≡ settings
  one_manager j q e f = one_manager_by q (sym f ∙ ap (counted_at w.managers) (sym (man_number k j e)) ∙ known)

  abbrev Says : Message → Type 0
  Says msg = ManagerSays settings (WorkedTo w mem) (to_none w mem) (to_fewer w mem) msg

  of_manager : (msg : Message) → SaysWork w mem (place.Man k) msg → Says msg
  of_manager (message.GlobalCommit xid) said = subst (λ (z : Settings). WorkedTo w mem xid.0 (length z.calls)) (one_manager said.manager said.settings said.at said.known) said.worked
  of_manager (message.Call xid man r c work) said = said k refl
  of_manager _ said = tt

  as_said : (msg : Message) → IsManagers msg → Says msg → SaysWork w mem (place.Man k) msg
  as_said (message.GlobalCommit xid) is says = record { manager = k; settings = settings; known = known; at = refl; worked = says }
  as_said (message.Call xid man r c work) is says = λ j e d f. says d f
  as_said (message.Begin number timeout) is says = tt
  as_said (message.GlobalRollback xid) is says = tt
  as_said (message.GlobalStatus xid) is says = tt
  as_said _ is says = absurd is

  sent_said : (o : Option Outgoing) → SendsManagers o → SentSays settings (WorkedTo w mem) (to_none w mem) (to_fewer w mem) o → OnSent (SaysWorks w mem) (place.Man k) o
  sent_said None is says = tt
  sent_said (Some out) is says = as_said out.message is says

  abbrev Last : Option Message → Type 0
  Last o = LastSays settings (WorkedTo w mem) (to_none w mem) (to_fewer w mem) o

  newest : (sent : Option Outgoing) → OnSent (SaysWorks w mem) (place.Man k) sent → (before : Option Message) → Last before → Last (sent_after sent before)
  newest None said before last = last
  newest (Some out) said before last = of_manager out.message said

  newest_by : (m : Moment) (event : Option Event) (b : Bool) → (b ≡ true → place.Man k ≡ m.place) → OnSent (SaysWorks w mem) m.place m.step.sent → (ms : List Moment) → Last (last_sent (own (place.Man k) ms))
      → Last (last_sent (own_if b event m (own (place.Man k) ms)))
  newest_by m (Some event) true here said ms last = newest m.step.sent (subst (λ p. OnSent (SaysWorks w mem) p m.step.sent) (sym (here refl)) said) (last_sent (own (place.Man k) ms)) last
  newest_by m None true here said ms last = last
  newest_by m (Some event) false here said ms last = last
  newest_by m None false here said ms last = last

  -- what the last message says that it sent
  last_said : (ms : List Moment) → EachSent (SaysWorks w mem) ms → Last (last_sent (own (place.Man k) ms))
  last_said [] each = tt
  last_said (m ∷ ms) each = newest_by m m.event (same_place (place.Man k) m.place) (one_place (place.Man k) m.place) each.1 ms (last_said ms each.0)

-- ---- at a resource

module _ (w : World) (past : Past) (ms : List Moment) (m : Moment) (r : ResStep w past ms m) where
  abbrev mem : ℕ → Setup → Memory
  mem = memory_of past ms

  abbrev now_memory : Memory
  now_memory = memory_by r.s (mem r.k r.s) r.event m.now m.step

  records_stay : (q : ResourceRecord) → In q (mem r.k r.s).left.records → In q now_memory.left.records
  records_stay q i = (r.moves.keeps (λ rs. In q rs) (λ rs i. inr i) (λ z f i. inr i) (i, in_added (mem r.k r.s).left.flight (mem r.k r.s).left.records q i)).0

  one_setup_by : (q : Setup) → Some q ≡ Some r.s → q ≡ r.s
  one_setup_by q e = cc

  all_stay_by : (j : ℕ) (q : Setup) → counted_at w.resources j ≡ Some q → (z : ResourceRecord) → In z (mem j q).left.records → (b : Bool) → (j == r.k) ≡ b → In z (r.after j q).left.records
  all_stay_by j q f z i true e =
      let at : j ≡ r.k = same_nat j r.k e in
      let same : q ≡ r.s = one_setup_by q (sym f ∙ ap (counted_at w.resources) at ∙ r.known) in
      let new : r.after j q ≡ now_memory = ap (λ y. r.after y q) at ∙ ap (r.after r.k) same ∙ r.here in
      let old : mem j q ≡ mem r.k r.s = ap (λ y. mem y q) at ∙ ap (mem r.k) same in
      subst (λ (y : Memory). In z y.left.records) (sym new) (records_stay z (subst (λ (y : Memory). In z y.left.records) old i))
  all_stay_by j q f z i false e = subst (λ (y : Memory). In z y.left.records) (sym (r.there j q e)) i

  pub all_stays : (j : ℕ) (q : Setup) → counted_at w.resources j ≡ Some q → (z : ResourceRecord) → In z (mem j q).left.records → In z (r.after j q).left.records
  all_stays j q f z i = all_stay_by j q f z i (j == r.k) refl

  -- what is done now stands
  done_stands : (done : Act) (sent : Option Outgoing) (q : ResourceRecord) (d : Durable) → done ≡ act.Durable d
      → resource_record r.s (mem r.k r.s).left.records (mem r.k r.s).opens r.event d ≡ Some q → In q (memory_by r.s (mem r.k r.s) r.event m.now (record { act = done; sent = sent })).left.records
  done_stands done sent q d is made =
      subst (λ (a : Act). In q (memory_by r.s (mem r.k r.s) r.event m.now (record { act = a; sent = sent })).left.records) (sym is)
      (subst (λ (o : Option ResourceRecord). In q (added o (mem r.k r.s).left.records)) (sym made) (inl refl))

  work_stands : (q : ResourceRecord) → In q (mem r.k r.s).left.records ⊎ ((d : Durable) × (m.step.act ≡ act.Durable d) × (resource_record r.s (mem r.k r.s).left.records (mem r.k r.s).opens r.event d ≡ Some q)) → In q now_memory.left.records
  work_stands q (inl i) = records_stay q i
  work_stands q (inr (d, is, made)) = done_stands m.step.act m.step.sent q d is made

  worked_now : (x c b : ℕ) → IsWorked r.s (mem r.k r.s) r.event m.step.act x c b → HasWorked w r.after x c b
  worked_now x c b f = record {
    number = r.k;
    setup = r.s;
    known = r.known;
    work = f.work;
    is = f.is;
    stands = subst (λ (y : Memory). In f.work y.left.records) (sym r.here) (work_stands f.work f.stands);
  }

  said_now : (msg : Message) → MessageFits r.s (mem r.k r.s) r.event m.step.act msg → SaysWork w r.after (place.Res r.k) msg
  said_now (message.Answer xid c (called.Done b)) f = worked_now xid.0 c b.0 f
  said_now (message.Answer xid c (called.Busy key by)) f = tt
  said_now (message.Answer xid c (called.Failed why)) f = tt
  said_now (message.GlobalCommit xid) f = absurd f
  said_now (message.Call xid man d c work) f = absurd f
  said_now _ f = tt

  sent_now : (sent : Option Outgoing) → m.step.sent ≡ sent → Fits r.s (mem r.k r.s) r.event m.step ⊎ (m.step.sent ≡ None) → OnSent (SaysWorks w r.after) (place.Res r.k) sent
  sent_now None e f = tt
  sent_now (Some out) e (inr none) = none_some (sym none ∙ e)
  sent_now (Some out) e (inl f) = said_now out.message (subst (λ z. SentFits r.s (mem r.k r.s) r.event m.step.act z) e f.1)

-- ---- the induction

module _ (w : World) (past : Past) where
  pub works_keep : Keeps w past (WorksBy w)
  works_keep = record {
    at_tc = λ ms m c i t.
        let mem = memory_of past ms in
        let heard : (from : Place) (msg : Message) → t.event ≡ Given (input.Message from msg) → SaysWork w (memory_of past ms) from msg = λ from msg is. t.heard (SaysWorks w (memory_of past ms)) i.said from msg is in
        record {
          said = (i.said, subst (λ p. OnSent (SaysWorks w mem) p m.step.sent) (sym t.at) (tc_sends w (coordinator_left past ms) mem t.event heard t.after.records m.step.sent t.tells));
          committed = t.keeps (CommitsWorked w mem) (committed_step w (coordinator_left past ms) mem t.event heard) i.committed;
        };
    at_res = λ ms m c i r.
        let stay = all_stays w past ms m r in
        record {
          said = (
            each_grows (SaysWorks w (memory_of past ms)) (SaysWorks w r.after) (λ p o. work_grows w (memory_of past ms) r.after stay p o.message) ms i.said,
            subst (λ p. OnSent (SaysWorks w r.after) p m.step.sent) (sym r.at) (sent_now w past ms m r m.step.sent refl r.moves.fits),
          );
          committed = (λ x e. all_stay w (memory_of past ms) r.after stay x (i.committed.0 x e), λ x e. all_stay w (memory_of past ms) r.after stay x (i.committed.1 x e));
        };
    at_man = λ ms m c i t.
        let mem = memory_of past ms in
        let says = manager_calls t.settings (WorkedTo w mem) (to_none w mem) (to_fewer w mem) (own (place.Man t.k) ms) (last_said w mem t.k t.settings t.known ms i.said) t.event m.now m.step
        (λ from xid d b is to. to_more w mem xid.0 d b.0 to (t.heard (SaysWorks w mem) i.said from (message.Answer xid d (called.Done b)) is)) t.happens in
        record {
          said = (i.said, subst (λ p. OnSent (SaysWorks w mem) p m.step.sent) (sym t.at) (sent_said w mem t.k t.settings t.known m.step.sent t.sends says));
          committed = i.committed;
        };
    quiet = λ ms m i is. record {
      said = (i.said, subst (λ (step : Step). OnSent (SaysWorks w (memory_of past ms)) m.place step.sent) (sym is) tt);
      committed = i.committed;
    };
  }

abbrev pub Works : World → Past → List Moment → Type 0
Works w past ms = WorksBy w (coordinator_left past ms) (memory_of past ms) ms

pub works : (w : World) (past : Past) → AreNumbered w → Covers w past [] → Works w past [] → (ms : List Moment) → Legal w past ms → Works w past ms
works w past numbered start first ms legal = by_entries w past numbered (WorksBy w) (works_keep w past) start first ms legal

pub works_first : (w : World) (past : Past) → IsBlankPast past → Works w past []
works_first w past bare = record {
  said = tt;
  committed = subst (λ (rs : List SessionRecord). CommitsWorked w (memory_of past []) rs × CommitsWorked w (memory_of past []) rs) (sym bare.sessions) (λ x e. false_true e, λ x e. false_true e);
}

commits_stay_safe : (w : World) (past : Past) → AreNumbered w → Covers w past [] → Works w past [] → (ms : List Moment) → Legal w past ms → CommitsStaySafe w past ms
commits_stay_safe w past numbered start first [] legal = first.committed.0
commits_stay_safe w past numbered start first (m ∷ ms) legal =
    (commits_stay_safe w past numbered start first ms legal.0, (works w past numbered start first (m ∷ ms) legal).committed.0)

pub commits_law : CommitsLaw
commits_law w past ms numbered bare legal = commits_stay_safe w past numbered (covers_first w past bare) (works_first w past bare) ms legal

-- ---- chains

module _ (w : World) (past : Past) (ms : List Moment) (next : Past) (numbered : AreNumbered w) (c : Covers w past ms) (i : Works w past ms) (leaves : MayLeave w past ms next) where
  pub disks_stay : (n : ℕ) (s : Setup) → counted_at w.resources n ≡ Some s → (r : ResourceRecord) → In r (memory_of past ms n s).left.records → In r (memory_of next [] n s).left.records
  disks_stay n s is r j =
      let m = memory_of past ms n s in
      of_memory w past ms next numbered c leaves n s is (λ rs. In r rs) (λ rs k. inr k) (j, in_added m.left.flight m.left.records r j)

  pub works_next : Works w next []
  works_next =
      let committed = of_sessions w past ms next numbered c leaves (CommitsWorked w (memory_of next []))
      (λ x e. all_stay w (memory_of past ms) (memory_of next []) disks_stay x (i.committed.0 x e), λ x e. all_stay w (memory_of past ms) (memory_of next []) disks_stay x (i.committed.1 x e)) in
      record { said = tt; committed = (committed, committed) }

chain_works : (w : World) (past : Past) (ms : List Moment) (rest : List (Past × List Moment)) → AreNumbered w → IsChain w ((past, ms) ∷ rest) → Works w past []
chain_works w past ms [] numbered chain = works_first w past chain.0
chain_works w past ms ((before, entries) ∷ rest) numbered chain =
    let earlier = chain_covered w before entries rest numbered chain.0 in
    works_next w before entries past numbered (covers w before numbered earlier.0 entries earlier.1)
    (works w before numbered earlier.0 (chain_works w before entries rest numbered chain.0) entries earlier.1) chain.1

pub commits_of_chains : CommitsOfChains
commits_of_chains w [] numbered chain = tt
commits_of_chains w ((past, ms) ∷ rest) numbered chain =
    let last = chain_covered w past ms rest numbered chain in
    (commits_of_chains w rest numbered (shorter_chain w past ms rest chain), commits_stay_safe w past numbered last.0 (chain_works w past ms rest numbered chain) ms last.1)
