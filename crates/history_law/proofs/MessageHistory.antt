-- Messages in all legal histories, over records whose branches are of resources: each goes from a node to a node, and names nodes.
use Rattle.std.proofs.Common.{◌≡◌, inl, inr, ◌<◌, ℕ, zero, suc, true, List, [], ◌∷◌, length, slice_get, Option, Some, None, option_map, refl, ap, sym, subst, ◌∙◌, arith}
use Rattle.std.proofs.lemmas.Bool.Decides.{nat_tests}
use Rattle.seata_types.specs.declared.ids.Place.{Place}
use Rattle.seata_types.specs.declared.ids.Place.TheVariants as place
use Rattle.seata_types.specs.declared.ids.Ticket.{Ticket}
use Rattle.seata_types.specs.declared.messages.Input.TheVariants as input
use Rattle.seata_types.specs.declared.messages.Message.{Message}
use Rattle.seata_types.specs.declared.messages.Message.TheVariants as message
use Rattle.seata_types.specs.declared.messages.Outgoing.{Outgoing}
use Rattle.seata_types.specs.declared.messages.Registered.TheVariants as registered
use Rattle.seata_types.specs.declared.messages.Step.{Step}
use Rattle.seata_types.specs.declared.statements.Stmt.{Stmt}
use Rattle.seata_types.specs.declared.statements.Work.TheVariants as work
use Rattle.durable_records.specs.declared.coordinators.SessionRecord.{SessionRecord}
use Rattle.durable_records.specs.declared.coordinators.SessionRecord.TheVariants as log
use Rattle.durable_records.specs.Branches.{Grant, grants}
use Rattle.durable_records.specs.ResourceOrder.{image_keys}
use Rattle.durable_records.specs.SessionOrder.{is_counted}
use Rattle.history_rules.specs.Own.{Event, Given, Own, Left}
use Rattle.history_rules.specs.CoordinatorRules.{xid_of}
use Rattle.history_rules.specs.ResourceMemory.{Setup, Open, Memory, local_of, or_empty, effect_on, next_ticket, opened_for}
use Rattle.history_rules.specs.ManagerRules.{Settings, last_sent, sent_after, receiver}
use Rattle.history_rules.specs.Nodes.{World, Past, Resource, Manager, Ran, counted_at}
use Rattle.history_rules.specs.Histories.{Moment, own, coordinator_left}
use Rattle.history_law.specs.Points.{In}
use Rattle.history_law.specs.Network.{OnSent, EachSent}
use Rattle.history_law.specs.Cover.{all_of, memory_of}
use Rattle.history_law.specs.MessageSafety.{IsNode, ReachesNode, NamesItsNodes, AreOfResources, MessagesLaw, MessagesOverAnyRecords}
use Rattle.history_law.proofs.Tests.{none_some}
use Rattle.history_law.proofs.Deliveries.{each_grows}
use Rattle.history_law.proofs.CallBranches.{slot_low}
use Rattle.history_law.proofs.CoordinatorCauses.{Tells, TellsOf, TellsResource, TellsSender}
use Rattle.history_law.proofs.CoverCoordinator.{MayCaused}
use Rattle.history_law.proofs.ManagerSteps.{IsManagers, SendsManagers}
use Rattle.history_law.proofs.ManagerOwn.{ManagerIs, SentIs, LastIs, manager_is}
use Rattle.history_law.proofs.ResourceFits.{tables_now}
use Rattle.history_law.proofs.ResourceRows.{each_memory}
use Rattle.history_law.proofs.ResourceSends.{CallIs, Goes, SentGoes, OpenIs, AreRowsOf, at_tc, effect_on_named, tables_counted, happens_sends, resource_goes}
use Rattle.history_law.proofs.ResourceSteps.{OpenFrom}
use Rattle.history_law.proofs.TicketSteps.{memory_by}
use Rattle.history_law.proofs.Steps.{TcStep, ResStep, ManStep, HaveTickets, KeepsOver, over_any}

-- ---- numbers

counted_is : {A : Type 0} (xs : List A) (n : ℕ) (a : A) → counted_at xs n ≡ Some a → is_counted (length xs) n ≡ true
counted_is xs zero a e = none_some e
counted_is xs (suc n) a e = let low = slot_low xs n a e in grind (arith, nat_tests)

slot_there : {A : Type 0} (xs : List A) (n : ℕ) → n < length xs → (a : A) × (slice_get xs n ≡ Some a)
slot_there [] n low = absurd (omega arith)
slot_there (x ∷ xs) zero low = (x, refl)
slot_there (x ∷ xs) (suc n) low = slot_there xs n (omega arith)

pub counted_there : {A : Type 0} (xs : List A) (n : ℕ) → is_counted (length xs) n ≡ true → (a : A) × (counted_at xs n ≡ Some a)
counted_there xs zero e = absurd (grind (arith, nat_tests))
counted_there xs (suc n) e = slot_there xs n (grind (arith, nat_tests))

-- ---- what is kept

-- a message that was sent; a Call names a manager
abbrev Posted : World → Past → Place → Outgoing → Type 0
Posted w past from out = ReachesNode w past from out × CallIs w past out.message

-- each branch is of a resource
abbrev GrantsReach : World → Past → List SessionRecord → Type 0
GrantsReach w past rs = (g : Grant) → In g (grants rs) → IsNode w past (place.Res g.resource)

abbrev AreOpen : World → Past → Memory → Type 0
AreOpen w past m = (o : Open) → In o m.opens → OpenIs w past o

record PostsBy (w : World) (past : Past) (tc : Left SessionRecord) (mem : ℕ → Setup → Memory) (ms : List Moment) : Type 0 where
  said : EachSent (Posted w past) ms
  granted : GrantsReach w past tc.records × GrantsReach w past (all_of tc)
  opens : (n : ℕ) (s : Setup) → counted_at w.resources n ≡ Some s → AreOpen w past (mem n s)

module _ (w : World) (past : Past) where
  manager_there : (n : ℕ) → is_counted (length w.managers) n ≡ true → IsNode w past (place.Man n)
  manager_there n e = let found = counted_there w.managers n e in (Manager found.0, ap (option_map (λ m. Manager m)) found.1)

  resource_at : (n : ℕ) (s : Setup) → counted_at w.resources n ≡ Some s → IsNode w past (place.Res n)
  resource_at n s known = (Resource s (past.resource n), ap (option_map (λ q. Resource q (past.resource n))) known)

  resource_there : (n : ℕ) → is_counted (length w.resources) n ≡ true → IsNode w past (place.Res n)
  resource_there n e = let found = counted_there w.resources n e in resource_at n found.0 found.1

  -- what a node sends to a node
  posted : (p from : Place) → p ≡ from → IsNode w past from → (sent : Option Outgoing) → SentGoes w past sent → OnSent (Posted w past) p sent
  posted p from at here None goes = tt
  posted p from at here (Some out) goes = (record { sender = subst (λ q. IsNode w past q) (sym at) here; receiver = goes.0; named = goes.1 }, goes.2)

-- ---- at the coordinator

module _ (w : World) (past : Past) (ms : List Moment) (m : Moment) (i : PostsBy w past (coordinator_left past ms) (memory_of past ms) ms) (t : TcStep w past ms m) where
  abbrev rs : List SessionRecord
  rs = (coordinator_left past ms).records

  heard_tc : (from : Place) (msg : Message) → t.event ≡ Given (input.Message from msg) → Posted w past from (record { to = place.Tc; message = msg })
  heard_tc from msg is = t.heard (Posted w past) i.said from msg is

  grant_step : (r : SessionRecord) → MayCaused rs t.event r → GrantsReach w past rs → GrantsReach w past (r ∷ rs)
  grant_step (log.Granted xid b resource call u k hold) f all g (inl is) =
      let cause = f.1 in
      let said = heard_tc cause.from (message.Register cause.xid resource call u k hold cause.check) cause.is in
      subst (λ (z : Grant). IsNode w past (place.Res z.resource)) (sym is) (resource_there w past resource said.0.named.0)
  grant_step (log.Granted xid b resource call u k hold) f all g (inr j) = all g j
  grant_step (log.Begun xid manager moment timeout) f all g j = all g j
  grant_step (log.Decided xid d) f all g j = all g j
  grant_step (log.Retrying xid) f all g j = all g j
  grant_step (log.Ended xid b) f all g j = all g j
  grant_step (log.Failed xid b stmt) f all g j = all g j
  grant_step (log.Finished xid) f all g j = all g j
  grant_step (log.Forgot xid) f all g j = all g j

  granted_after : GrantsReach w past t.after.records × GrantsReach w past (all_of t.after)
  granted_after = t.keeps (GrantsReach w past) grant_step i.granted

  to_sender : (to : Place) → TellsSender t.event to → IsNode w past to
  to_sender to said = (heard_tc to said.asked said.is).0.sender

  to_resource : (to : Place) → TellsResource t.event to → IsNode w past to
  to_resource to said =
      let a = said.ask in
      let heard = heard_tc said.from (message.Register (xid_of a.xid) a.resource a.call a.ticket a.kind a.hold a.check) said.is in
      subst (λ p. IsNode w past p) (sym said.to_resource) (resource_there w past a.resource heard.0.named.0)

  tells_goes : (to : Place) (msg : Message) → Tells t.after.records t.event to msg → Goes w past to msg
  tells_goes to (message.RegisterAnswer u xid (registered.Granted b)) said =
      (to_resource to (record { from = said.from; ask = said.ask; is = said.is; to_resource = said.to_resource }), tt, tt)
  tells_goes to (message.RegisterAnswer u xid (registered.Conflict key holder rolling)) said = (to_resource to said, tt, tt)
  tells_goes to (message.RegisterAnswer u xid (registered.Closed status)) said = (to_resource to said, tt, tt)
  tells_goes to (message.RegisterAnswer u xid registered.Late) said = (to_resource to said, tt, tt)
  tells_goes to (message.BranchCommit xid b k manager c) said = (subst (λ p. IsNode w past p) (sym said.0.place) (granted_after.0 said.0.branch said.0.granted), tt, tt)
  tells_goes to (message.BranchRollback xid b k manager c) said = (subst (λ p. IsNode w past p) (sym said.0.place) (granted_after.0 said.0.branch said.0.granted), tt, tt)
  tells_goes to (message.LockAnswer u None) said = ((heard_tc to (message.LockQuery said.resource u said.check) said.is).0.sender, tt, tt)
  tells_goes to (message.LockAnswer u (Some held)) said = (to_sender to said, tt, tt)
  tells_goes to (message.Begun xid) said =
      let heard = heard_tc said.from (message.Begin said.of.manager said.timeout) said.is in
      (subst (λ p. IsNode w past p) (sym said.manager) (manager_there w past said.of.manager heard.0.named), tt, tt)
  tells_goes to (message.CommitStatus xid st) said = (to_sender to said, tt, tt)
  tells_goes to (message.RollbackStatus xid st) said = (to_sender to said, tt, tt)
  tells_goes to (message.StatusAnswer xid st) said = (to_sender to said, tt, tt)
  tells_goes to _ said = absurd said

  tells_sent : (sent : Option Outgoing) → TellsOf t.after.records t.event sent → SentGoes w past sent
  tells_sent None said = tt
  tells_sent (Some out) said = tells_goes out.to out.message said

  posts_at_tc : PostsBy w past t.after (memory_of past ms) (m ∷ ms)
  posts_at_tc = record {
    said = (i.said, posted w past m.place place.Tc t.at (at_tc w past) m.step.sent (tells_sent m.step.sent t.tells));
    granted = granted_after;
    opens = i.opens;
  }

-- ---- at a resource

module _ (w : World) (past : Past) (ms : List Moment) (m : Moment) (i : PostsBy w past (coordinator_left past ms) (memory_of past ms) ms) (r : ResStep w past ms m) where
  abbrev me : Memory
  me = memory_of past ms r.k r.s

  abbrev ne : Memory
  ne = memory_by r.s (memory_of past ms r.k r.s) r.event m.now m.step

  counted : is_counted (length w.resources) r.s.number ≡ true
  counted = ap (is_counted (length w.resources)) r.named ∙ counted_is w.resources r.k r.s r.known

  called : (from : Place) (heard : Message) → r.event ≡ Given (input.Message from heard) → CallIs w past heard
  called from heard is = (r.heard (Posted w past) i.said from heard is).1

  abbrev before : AreOpen w past me
  before = i.opens r.k r.s r.known

  of_some : (a o : Open) → Some a ≡ Some o → a ≡ o
  of_some a o e = cc

  rows_now : (stmts : List Stmt) → AreRowsOf (length w.resources) (image_keys (effect_on (tables_now r.s me) stmts).images)
  rows_now stmts = effect_on_named (length w.resources) (tables_now r.s me) (tables_counted w past r.s me counted before) stmts

  opened : (o : Open) (t : Ticket) (event : Event) → r.event ≡ event → opened_for r.s (tables_now r.s me) t event ≡ Some o → OpenIs w past o
  opened o t (Given (input.Message from (message.Call xid man res c (work.At stmts)))) is e =
      subst (OpenIs w past) (of_some _ o e) (record { owner = called from (message.Call xid man res c (work.At stmts)) is; rows = rows_now stmts })
  opened o t (Given (input.Message from (message.Call xid man res c (work.Tcc action)))) is e =
      subst (OpenIs w past) (of_some _ o e) (record { owner = called from (message.Call xid man res c (work.Tcc action)) is; rows = refl })
  opened o t (Given (input.Local k)) is e = subst (OpenIs w past) (of_some _ o e) (record { owner = tt; rows = rows_now (or_empty (local_of r.s k)) })
  opened o t _ is e = none_some e

  open_by : (o : Open) → OpenFrom r.s me r.event ne o → OpenIs w past o
  open_by o (inl (p, k, j, is)) = let was = before p j in subst (OpenIs w past) (sym is) (record { owner = was.owner; rows = was.rows })
  open_by o (inr new) = opened o (next_ticket me) r.event refl new.opened

  opens_after : AreOpen w past ne
  opens_after o j = open_by o (r.moves.opens_from o j)

  sent_goes : SentGoes w past m.step.sent
  sent_goes =
      happens_sends (SentGoes w past) tt (Resource r.s (past.resource r.k)) (own (place.Res r.k) ms) m.now r.event m.step
      (λ given is. resource_goes w past r.s me counted before given (λ from heard e. called from heard (is ∙ ap (λ q. Given q) e))) r.happens

  posts_at_res : PostsBy w past (coordinator_left past ms) r.after (m ∷ ms)
  posts_at_res = record {
    said = (i.said, posted w past m.place (place.Res r.k) r.at (resource_at w past r.k r.s r.known) m.step.sent sent_goes);
    granted = i.granted;
    opens = λ n s known. each_memory w past ms m r (λ j q z. AreOpen w past z) n s known (λ was. opens_after) (i.opens n s known);
  }

-- ---- at a manager

module _ (w : World) (past : Past) (names : NamesItsNodes w) (k : ℕ) (settings : Settings) (known : counted_at w.managers k ≡ Some settings) where
  abbrev Free : ℕ → Type 0
  Free x = Unit {0}

  abbrev IsManager : ℕ → Type 0
  IsManager n = is_counted (length w.managers) n ≡ true

  mine : IsManager settings.number
  mine = ap (is_counted (length w.managers)) (names.managed k settings known) ∙ counted_is w.managers k settings known

  last_after : (sent : Option Outgoing) → SentIs settings Free IsManager sent → (before : Option Message) → LastIs settings Free IsManager before
      → LastIs settings Free IsManager (sent_after sent before)
  last_after None is _ last = last
  last_after (Some out) is _ last = is.0

  -- what it sent last
  last_is : (os : List Own) → Ran (Manager settings) os → LastIs settings Free IsManager (last_sent os)
  last_is [] ran = tt
  last_is (o ∷ os) ran =
      let last = last_is os ran.0 in
      last_after o.step.sent (manager_is settings Free IsManager mine os last o.event o.now o.step (λ from xid e. tt) ran.1) (last_sent os) last

  to_tc : (to : Place) → to ≡ place.Tc → IsNode w past to
  to_tc to at = subst (λ p. IsNode w past p) (sym at) (at_tc w past)

  manager_goes : (to : Place) (msg : Message) → IsManagers msg → ManagerIs settings Free IsManager msg → to ≡ receiver msg → Goes w past to msg
  manager_goes to (message.Begin number timeout) kind is at = (to_tc to at, is, tt)
  manager_goes to (message.Call xid manager r c wk) kind is at =
      let there = names.called k settings known is.2.0 r wk is.2.2 in
      (subst (λ p. IsNode w past p) (sym at) (resource_at w past r there.0 there.1), tt, manager_there w past manager is.1)
  manager_goes to (message.GlobalCommit xid) kind is at = (to_tc to at, tt, tt)
  manager_goes to (message.GlobalRollback xid) kind is at = (to_tc to at, tt, tt)
  manager_goes to (message.GlobalStatus xid) kind is at = (to_tc to at, tt, tt)
  manager_goes to _ kind is at = absurd kind

  manager_sends : (sent : Option Outgoing) → SendsManagers sent → SentIs settings Free IsManager sent → SentGoes w past sent
  manager_sends None kind is = tt
  manager_sends (Some out) kind is = manager_goes out.to out.message kind is.0 is.1

module _ (w : World) (past : Past) (names : NamesItsNodes w) (ms : List Moment) (m : Moment) (i : PostsBy w past (coordinator_left past ms) (memory_of past ms) ms) (t : ManStep w past ms m) where
  posts_at_man : PostsBy w past (coordinator_left past ms) (memory_of past ms) (m ∷ ms)
  posts_at_man =
      let number = mine w past names t.k t.settings t.known in
      let is = manager_is t.settings (λ x. Unit {0}) (λ n. is_counted (length w.managers) n ≡ true) number (own (place.Man t.k) ms) (last_is w past names t.k t.settings t.known (own (place.Man t.k) ms) t.ran)
      t.event m.now m.step (λ from xid e. tt) t.happens in
      let here : IsNode w past (place.Man t.k) = (Manager t.settings, ap (option_map (λ q. Manager q)) t.known) in
      record {
        said = (i.said, posted w past m.place (place.Man t.k) t.at here m.step.sent (manager_sends w past names t.k t.settings t.known m.step.sent t.sends is));
        granted = i.granted;
        opens = i.opens;
      }

-- ---- the induction

module _ (w : World) (past : Past) (names : NamesItsNodes w) where
  posts_keep : KeepsOver w past (HaveTickets w past) (PostsBy w past)
  posts_keep = record {
    at_tc = λ ms m c i t. posts_at_tc w past ms m i t;
    at_res = λ ms m c i r. posts_at_res w past ms m i r;
    at_man = λ ms m c i t. posts_at_man w past names ms m i t;
    quiet = λ ms m i is. record {
      said = (i.said, subst (λ (step : Step). OnSent (Posted w past) m.place step.sent) (sym is) tt);
      granted = i.granted;
      opens = i.opens;
    };
  }

posts_first : (w : World) (past : Past) → AreOfResources w past.sessions → PostsBy w past (coordinator_left past []) (memory_of past []) []
posts_first w past of = record {
  said = tt;
  granted = (λ g i. resource_there w past g.resource (of g i), λ g i. resource_there w past g.resource (of g i));
  opens = λ n s is o i. absurd i;
}

pub messages_over_any : MessagesOverAnyRecords
messages_over_any w past ms names of legal =
    let posts = over_any w past names.numbered (PostsBy w past) (posts_keep w past names) (posts_first w past of) ms legal in
    each_grows (Posted w past) (ReachesNode w past) (λ p out said. said.0) ms posts.said

-- disks without records name no branch
pub messages_law : MessagesLaw
messages_law w past ms names bare legal = messages_over_any w past ms names (subst (AreOfResources w) (sym bare.sessions) (λ g i. absurd i)) legal
