-- Calls at an entry of a resource.
use Rattle.std.proofs.Common.{◌≡◌, ◌⊎◌, inl, inr, ◌==◌, ℕ, Bool, true, false, List, ◌∷◌, Option, Some, None, is_some, refl, ap, sym, subst, ◌∙◌}
use Rattle.seata_types.specs.declared.acts.Act.{Act}
use Rattle.seata_types.specs.declared.acts.Act.TheVariants as act
use Rattle.seata_types.specs.declared.ids.BranchId.{BranchId}
use Rattle.seata_types.specs.declared.ids.Place.{Place}
use Rattle.seata_types.specs.declared.ids.Place.TheVariants as place
use Rattle.seata_types.specs.declared.ids.Ticket.{Ticket}
use Rattle.seata_types.specs.declared.ids.Xid.{Xid}
use Rattle.seata_types.specs.declared.messages.Input.TheVariants as input
use Rattle.seata_types.specs.declared.messages.Message.{Message}
use Rattle.seata_types.specs.declared.messages.Message.TheVariants as message
use Rattle.seata_types.specs.declared.messages.Outgoing.{Outgoing}
use Rattle.seata_types.specs.declared.messages.Registered.TheVariants as registered
use Rattle.seata_types.specs.declared.rows.Image.{Image}
use Rattle.seata_types.specs.declared.statements.Work.{Work}
use Rattle.seata_types.specs.declared.statements.Work.TheVariants as work
use Rattle.seata_types.specs.declared.statuses.BranchKind.{BranchKind}
use Rattle.seata_types.specs.declared.statuses.BranchKind.TheVariants as kind
use Rattle.durable_records.specs.declared.coordinators.SessionRecord.{SessionRecord}
use Rattle.durable_records.specs.declared.resources.ResourceRecord.{ResourceRecord}
use Rattle.durable_records.specs.declared.resources.ResourceRecord.TheVariants as resource_log
use Rattle.durable_records.specs.Transactions.{decided, is_commit}
use Rattle.durable_records.specs.Branches.{Grant, grants}
use Rattle.durable_records.specs.Fences.{fence}
use Rattle.history_rules.specs.Own.{Event, Given}
use Rattle.history_rules.specs.CoordinatorRules.{xid_of, branch_of}
use Rattle.history_rules.specs.ResourceMemory.{Setup, Owner, OfCall, OfLocal, Open, Memory, next_ticket, call_of, boot_over, opened_for}
use Rattle.history_rules.specs.Nodes.{World, Past, counted_at}
use Rattle.history_rules.specs.Histories.{Moment, coordinator_left}
use Rattle.history_law.specs.Points.{In}
use Rattle.history_law.specs.Network.{OnSent}
use Rattle.history_law.specs.Tickets.{Names, kind_of, IsAtOf}
use Rattle.history_law.specs.Cover.{all_of, memory_of, HasKind, SaysIn, Covers}
use Rattle.history_law.specs.WorkSafety.{IsWork}
use Rattle.history_law.specs.CallSafety.{IsCallOf}
use Rattle.history_law.proofs.Tests.{none_some, same_nat}
use Rattle.history_law.proofs.Deliveries.{each_grows}
use Rattle.history_law.proofs.Branches.{one_branch}
use Rattle.history_law.proofs.CoordinatorCauses.{tcc_not_at}
use Rattle.history_law.proofs.CoverResource.{one_number}
use Rattle.history_law.proofs.CoverGrowth.{Steady}
use Rattle.history_law.proofs.ResourceFits.{tables_now, IsUnfenced, MessageFits, SentFits, Fits}
use Rattle.history_law.proofs.ResourceSteps.{TryFits, RecordFits, ActFinds, OpenFrom}
use Rattle.history_law.proofs.TicketSteps.{memory_by, given_later, next_not_given}
use Rattle.history_law.proofs.CallBranches.{one_tcc, same_call, call_low, tried_fence, confirm_refused, cancel_refused}
use Rattle.history_law.proofs.EndingHistory.{endings_keep}
use Rattle.history_law.proofs.Works.{all_stays, works_keep}
use Rattle.history_law.proofs.Steps.{ResStep}
use Rattle.history_law.proofs.Calls.{OwnerCalls, OpensCalls, TriedOf, WorkIs, WorksAre, CallsAt, OwnedBy, SaysCall, SaysCalls, CallsBy, CallsGrow, said_on, commits_on}

abbrev pub owner_kind : Owner → BranchKind
owner_kind (OfCall manager x c wk) = kind_of wk
owner_kind (OfLocal k) = kind.At

module _ (w : World) (past : Past) (ms : List Moment) (m : Moment) (c : Covers w past ms) (i : CallsBy w (coordinator_left past ms) (memory_of past ms) ms) (r : ResStep w past ms m) where
  abbrev rs : List SessionRecord
  rs = (coordinator_left past ms).records

  abbrev mem : ℕ → Setup → Memory
  mem = memory_of past ms

  abbrev me : Memory
  me = memory_of past ms r.k r.s

  abbrev ne : Memory
  ne = memory_by r.s (memory_of past ms r.k r.s) r.event m.now m.step

  heard_cover : (from : Place) (msg : Message) → r.event ≡ Given (input.Message from msg) → SaysIn w (coordinator_left past ms) mem from (place.Res r.k) msg
  heard_cover from msg is = r.heard (λ p out. Rattle.history_law.specs.Cover.Says w (coordinator_left past ms) (memory_of past ms) p out) c.said from msg is

  heard_call : (from : Place) (msg : Message) → r.event ≡ Given (input.Message from msg) → SaysCall w rs mem from (place.Res r.k) msg
  heard_call from msg is = r.heard (SaysCalls w (coordinator_left past ms).records (memory_of past ms)) i.said from msg is

  -- ---- what goes on

  named_by : (t : Ticket) (P : Open → Type 0) → Steady P → Names me t P → (o : Open) → o.ticket ≡ t → OpenFrom r.s me r.event ne o → P o
  named_by t P steady names o e (inl (p, j, q, is)) = subst P (sym is) (steady p j (names.named p q (sym (ap (λ z. z.ticket) is) ∙ e)))
  named_by t P steady names o e (inr next) = absurd (next_not_given me t names.given (sym e ∙ next.ticket))

  names_new : (t : Ticket) (P : Open → Type 0) → Steady P → Names me t P → Names ne t P
  names_new t P steady names = record { given = given_later me ne t r.moves.later names.given; named = λ o q e. named_by t P steady names o e (r.moves.opens_from o q) }

  one_setup_by : (q : Setup) → Some q ≡ Some r.s → q ≡ r.s
  one_setup_by q e = cc

  one_setup : (j : ℕ) (q : Setup) → j ≡ r.k → counted_at w.resources j ≡ Some q → q ≡ r.s
  one_setup j q e known = one_setup_by q (sym known ∙ ap (counted_at w.resources) e ∙ r.known)

  new_at : (j : ℕ) (q : Setup) → j ≡ r.k → counted_at w.resources j ≡ Some q → r.after j q ≡ ne
  new_at j q e known = ap (λ z. r.after z q) e ∙ ap (r.after r.k) (one_setup j q e known) ∙ r.here

  old_at : (j : ℕ) (q : Setup) → j ≡ r.k → counted_at w.resources j ≡ Some q → mem j q ≡ me
  old_at j q e known = ap (λ z. mem z q) e ∙ ap (mem r.k) (one_setup j q e known)

  names_by : (j : ℕ) (q : Setup) → counted_at w.resources j ≡ Some q → (t : Ticket) (P : Open → Type 0) → Steady P → Names (mem j q) t P → (b : Bool) → (j == r.k) ≡ b → Names (r.after j q) t P
  names_by j q known t P steady names true e =
      let at : j ≡ r.k = same_nat j r.k e in
      subst (λ z. Names z t P) (sym (new_at j q at known)) (names_new t P steady (subst (λ z. Names z t P) (old_at j q at known) names))
  names_by j q known t P steady names false e = subst (λ z. Names z t P) (sym (r.there j q e)) names

  res_grown : CallsGrow w rs mem rs r.after
  res_grown = record {
    sessions_stay = λ s j. j;
    grants_stay = λ g j. j;
    names_stay = λ j q known t P steady names. names_by j q known t P steady names (j == r.k) refl;
    records_stay = λ j q known z there. all_stays w past ms m r j q known z there;
  }

  -- ---- open tickets

  of_some : (a o : Open) → Some a ≡ Some o → a ≡ o
  of_some a o e = cc

  called : (from : Place) (xid : Xid) (manager res d : ℕ) (wk : Work) → r.event ≡ Given (input.Message from (message.Call xid manager res d wk)) → IsCallOf w rs xid.0 d r.k (kind_of wk)
  called from xid manager res d wk is =
      let said = heard_call from (message.Call xid manager res d wk) is in
      record {
        manager = said.manager;
        owns = said.owns;
        settings = said.settings;
        known = said.known;
        before = said.slot.0;
        index = said.slot.1;
        work = wk;
        is = subst (λ z. Rattle.std.specs.Prelude.slice_get said.settings.calls said.slot.0 ≡ Some (z, wk)) (sym (one_number r.k res said.reaches)) said.slot.2;
        of_kind = refl;
      }

  new_calls : (o : Open) (t : Ticket) (event : Event) → r.event ≡ event → opened_for r.s (tables_now r.s me) t event ≡ Some o → OwnerCalls w rs r.k o.owner
  new_calls o t (Given (input.Message from (message.Call xid manager res d (work.At stmts)))) is e =
      subst (λ (z : Open). OwnerCalls w rs r.k z.owner) (of_some _ o e) (called from xid manager res d (work.At stmts) is)
  new_calls o t (Given (input.Message from (message.Call xid manager res d (work.Tcc action)))) is e =
      subst (λ (z : Open). OwnerCalls w rs r.k z.owner) (of_some _ o e) (called from xid manager res d (work.Tcc action) is)
  new_calls o t (Given (input.Local k)) is e = subst (λ (z : Open). OwnerCalls w rs r.k z.owner) (of_some _ o e) tt
  new_calls o t _ is e = none_some e

  abbrev here : CallsAt w rs r.k me
  here = i.at r.k r.s r.known

  opens_by : (o : Open) → OpenFrom r.s me r.event ne o → OwnerCalls w rs r.k o.owner
  opens_by o (inl (p, j, q, is)) = subst (λ (z : Open). OwnerCalls w rs r.k z.owner) (sym is) (here.opens p q)
  opens_by o (inr new) = new_calls o (next_ticket me) r.event refl new.opened

  opens_call : OpensCalls w rs r.k ne
  opens_call o q = opens_by o (r.moves.opens_from o q)

  -- ---- records

  at_call : (x : ℕ) (owner : Owner) → IsAtOf x owner → OwnerCalls w rs r.k owner → IsCallOf w rs x (call_of owner) r.k kind.At
  at_call x (OfCall manager y d (work.At stmts)) at k = subst (λ z. IsCallOf w rs z d r.k kind.At) at k
  at_call x (OfCall manager y d (work.Tcc action)) at k = absurd at
  at_call x (OfLocal n) at k = absurd at

  tried_of : (x b d : ℕ) (images : List Image) → TryFits r.s me ne.opens r.event x b d images → TriedOf rs r.k x b d
  tried_of x b d images f =
      let o = f.open_ticket in
      let msg = message.RegisterAnswer o.ticket f.granted.xid (registered.Granted (branch_of b)) in
      let said = heard_cover f.granted.from (message.RegisterAnswer f.open_ticket.ticket f.granted.xid (registered.Granted (branch_of b))) f.granted.is in
      let a = heard_call f.granted.from (message.RegisterAnswer f.open_ticket.ticket f.granted.xid (registered.Granted (branch_of b))) f.granted.is in
      let same : said.branch ≡ a.branch = one_branch rs c.allowed.0 said.branch a.branch said.granted a.granted (said.number ∙ sym a.number) in
      let at : r.k ≡ said.branch.resource = one_number r.k said.branch.resource said.receiver in
      let names : Names me o.ticket (HasKind said.branch.kind) =
      subst (λ z. Names (mem z r.s) f.open_ticket.ticket (HasKind said.branch.kind)) (sym at) (said.asked r.s (ap (counted_at w.resources) (sym at) ∙ r.known)) in
      let k = names.named o f.there refl in
      let tcc : said.branch.kind ≡ kind.Tcc = sym k.5 ∙ ap owner_kind (sym k.4 ∙ f.owner) in
      let tcc_a : a.branch.kind ≡ kind.Tcc = ap (λ z. z.kind) (sym same) ∙ tcc in
      let at_a : a.branch.resource ≡ r.k = ap (λ z. z.resource) (sym same) ∙ sym at in
      let owned : Names me o.ticket (OwnedBy a.branch) =
      subst (λ z. Names (mem z r.s) f.open_ticket.ticket (OwnedBy a.branch)) at_a (a.owned tcc_a r.s (ap (counted_at w.resources) at_a ∙ r.known)) in
      let is = owned.named o f.there refl f.manager x d (work.Tcc f.action) f.owner in
      record { branch = a.branch; granted = a.granted; xid = is.0; number = a.number; call = is.1; resource = at_a; tcc = tcc_a }

  pub work_of : (q : ResourceRecord) → RecordFits r.s me ne.opens r.event q → WorkIs w rs r.k q
  work_of (resource_log.Tried xid b d images) f = tried_of xid.0 b.0 d images f
  work_of (resource_log.Committed xid b d images reads) f =
      subst (λ z. IsCallOf w rs xid.0 z r.k kind.At) (sym f.call) (at_call xid.0 f.open_ticket.owner f.at (here.opens f.open_ticket f.there))
  work_of _ f = tt

  work_step : (q : ResourceRecord) → RecordFits r.s me ne.opens r.event q → WorksAre w rs r.k me.left.records → WorksAre w rs r.k (q ∷ me.left.records)
  work_step q f all p (inl is) = subst (λ z. WorkIs w rs r.k z) (sym is) (work_of q f)
  work_step q f all p (inr j) = all p j

  boot_step : (all : List ResourceRecord) → WorksAre w rs r.k all → WorksAre w rs r.k (boot_over all ∷ all)
  boot_step all works p (inl is) = subst (λ z. WorkIs w rs r.k z) (sym is) tt
  boot_step all works p (inr j) = works p j

  calls_here : CallsAt w rs r.k ne
  calls_here = record { opens = opens_call; works = r.moves.keeps (WorksAre w rs r.k) boot_step work_step here.works }

  calls_there : (j : ℕ) (q : Setup) → counted_at w.resources j ≡ Some q → (b : Bool) → (j == r.k) ≡ b → CallsAt w rs j (r.after j q)
  calls_there j q known true e =
      let at : j ≡ r.k = same_nat j r.k e in
      subst (λ z. CallsAt w rs j z) (sym (new_at j q at known)) (subst (λ z. CallsAt w rs z ne) (sym at) calls_here)
  calls_there j q known false e = subst (λ z. CallsAt w rs j z) (sym (r.there j q e)) (i.at j q known)

  -- ---- messages

  says_call : (to : Place) (msg : Message) → MessageFits r.s me r.event m.step.act msg → SaysCall w rs r.after (place.Res r.k) to msg
  says_call to (message.Register xid q d t k hold check) f =
      let at : r.k ≡ q = sym (f.number ∙ r.named) in
      let calls : OwnerCalls w rs r.k (OfCall f.asks.manager xid.0 d f.asks.work) = subst (λ z. OwnerCalls w rs r.k z) f.asks.owner (opens_call f.open_ticket f.there) in
      subst (λ z. IsCallOf w rs xid.0 d z k) at (subst (λ z. IsCallOf w rs xid.0 d r.k z) f.asks.of_kind calls)
  says_call to (message.Begun xid) f = absurd f
  says_call to (message.Call xid manager q d wk) f = absurd f
  says_call to (message.GlobalCommit xid) f = absurd f
  says_call to (message.RegisterAnswer t xid answer) f = absurd f
  says_call to _ f = tt

  sent_call : (sent : Option Outgoing) → m.step.sent ≡ sent → Fits r.s me r.event m.step ⊎ (m.step.sent ≡ None) → OnSent (SaysCalls w rs r.after) (place.Res r.k) sent
  sent_call None e f = tt
  sent_call (Some out) e (inr none) = none_some (sym none ∙ e)
  sent_call (Some out) e (inl f) = says_call out.to out.message (subst (λ z. SentFits r.s me r.event m.step.act z) e f.1)

  pub calls_at_res : CallsBy w (coordinator_left past ms) r.after (m ∷ ms)
  calls_at_res = record {
    ends = (endings_keep w past).at_res ms m c i.ends r;
    works = (works_keep w past).at_res ms m c i.works r;
    said = (
      each_grows (SaysCalls w rs mem) (SaysCalls w rs r.after) (λ p o. said_on w rs mem rs r.after res_grown p o.to o.message) ms i.said,
      subst (λ p. OnSent (SaysCalls w rs r.after) p m.step.sent) (sym r.at) (sent_call m.step.sent refl r.moves.fits),
    );
    at = λ j q known. calls_there j q known (j == r.k) refl;
    granted = i.granted;
    committed = (commits_on w rs mem rs r.after res_grown rs i.committed.0, commits_on w rs mem rs r.after res_grown (all_of (coordinator_left past ms)) i.committed.1);
  }

  -- ---- no fence refuses

  -- the branch of a commit has a fence: its call was tried
  module _ (g : Grant) (granted : In g (grants rs)) (tcc : g.kind ≡ kind.Tcc) (at : r.k ≡ g.resource) (mine : IsCallOf w rs g.xid g.call g.resource kind.Tcc) (n : ℕ) (s : Setup) (known : counted_at w.resources n ≡ Some s) (d : ℕ) where
    here_fence : (n ≡ r.k) → (xid : Xid) (b : BranchId) (e : ℕ) (images : List Image) → In (resource_log.Tried xid b e images) (mem n s).left.records → xid.0 ≡ g.xid → b.0 ≡ g.branch → is_some (fence me.left.records g.xid g.branch) ≡ true
    here_fence same xid b e images there sx sb =
        let one : In (resource_log.Tried xid b e images) me.left.records = subst (λ (z : Memory). In (resource_log.Tried xid b e images) z.left.records) (old_at n s same known) there in
        subst (λ z. is_some (fence me.left.records z g.branch) ≡ true) sx (subst (λ z. is_some (fence me.left.records xid.0 z) ≡ true) sb (tried_fence me.left.records xid b e images one))

    worked_fence : (q : ResourceRecord) → IsWork g.xid g.call d q → In q (mem n s).left.records → WorkIs w rs n q → is_some (fence me.left.records g.xid g.branch) ≡ true
    worked_fence (resource_log.Committed xid b e images reads) (sx, se, sb) there is =
        let theirs : IsCallOf w rs g.xid g.call n kind.At = subst (λ z. IsCallOf w rs g.xid z n kind.At) se (subst (λ z. IsCallOf w rs z e n kind.At) sx is) in
        tcc_not_at (sym (same_call w rs c.allowed.0 g.xid g.call n g.resource kind.At kind.Tcc theirs mine).1)
    worked_fence (resource_log.Tried xid b e images) (sx, se, sb) there f =
        let h = f.branch in
        let hx : h.xid ≡ g.xid = f.xid ∙ sx in
        let hc : h.call ≡ g.call = f.call ∙ se in
        let call = i.granted.0 f.branch f.granted in
        let theirs : IsCallOf w rs g.xid g.call n kind.Tcc =
        subst (λ z. IsCallOf w rs z g.call n kind.Tcc) hx (subst (λ z. IsCallOf w rs f.branch.xid z n kind.Tcc) hc
        (subst (λ z. IsCallOf w rs f.branch.xid f.branch.call z kind.Tcc) f.resource (subst (λ z. IsCallOf w rs f.branch.xid f.branch.call f.branch.resource z) f.tcc call))) in
        let place_is : n ≡ g.resource = (same_call w rs c.allowed.0 g.xid g.call n g.resource kind.Tcc kind.Tcc theirs mine).0 in
        let same : h ≡ g = one_tcc rs c.allowed.0 f.branch g f.granted granted f.tcc tcc hx (f.resource ∙ place_is) hc in
        here_fence (place_is ∙ sym at) xid b e images there sx (sym f.number ∙ ap (λ z. z.branch) same)
    worked_fence (resource_log.Boot number) is there f = absurd is
    worked_fence (resource_log.Undone xid b) is there f = absurd is
    worked_fence (resource_log.Marked xid b) is there f = absurd is
    worked_fence (resource_log.Cleared xid b) is there f = absurd is
    worked_fence (resource_log.Confirmed xid b images) is there f = absurd is
    worked_fence (resource_log.Cancelled xid b images) is there f = absurd is
    worked_fence (resource_log.Suspended xid b) is there f = absurd is
    worked_fence (resource_log.LocalCommitted k images) is there f = absurd is
    worked_fence (resource_log.Outside k images) is there f = absurd is

  commit_fence : (g : Grant) → In g (grants rs) → g.kind ≡ kind.Tcc → r.k ≡ g.resource → is_commit (decided rs g.xid) ≡ true → is_some (fence me.left.records g.xid g.branch) ≡ true
  commit_fence g granted tcc at commit =
      let mine = subst (λ z. IsCallOf w rs g.xid g.call g.resource z) tcc (i.granted.0 g granted) in
      let own = i.committed.0 g.xid commit in
      let low = call_low w rs c.allowed.0 g.xid g.call g.resource kind.Tcc mine own.all.manager own.all.settings own.owns own.all.known in
      let done = own.all.worked g.call low.0 low.1 in
      worked_fence g granted tcc at mine done.1.number done.1.setup done.1.known done.0 done.1.work done.1.is done.1.stands ((i.at done.1.number done.1.setup done.1.known).works.0 done.1.work done.1.stands)

  not_unfenced : (x b : ℕ) → IsUnfenced me r.event x b → ⊥
  not_unfenced x b (inl (asked, e)) =
      let said = heard_cover asked.from (message.BranchCommit (xid_of x) (branch_of b) kind.Tcc asked.manager asked.call) asked.is in
      let bs = said.0 in
      let at = one_number r.k bs.branch.resource bs.place in
      let commit : is_commit (decided rs bs.branch.xid) ≡ true = subst (λ z. is_commit (decided rs z) ≡ true) (sym bs.xid) said.2 in
      let some = commit_fence bs.branch bs.granted said.1 at commit in
      let some_here = subst (λ z. is_some (fence me.left.records z b) ≡ true) bs.xid (subst (λ z. is_some (fence me.left.records bs.branch.xid z) ≡ true) bs.number some) in
      confirm_refused (decided rs x) (fence me.left.records x b) ((i.ends.at r.k r.s r.known).fenced.0 x b) said.2 some_here e
  not_unfenced x b (inr (asked, e)) =
      let said = heard_cover asked.from (message.BranchRollback (xid_of x) (branch_of b) kind.Tcc asked.manager asked.call) asked.is in
      cancel_refused (decided rs x) (fence me.left.records x b) ((i.ends.at r.k r.s r.known).fenced.0 x b) said.2 e

  pub none_unfenced : (xid : Xid) (b : BranchId) → m.step.act ≡ act.Unfenced xid b → ⊥
  none_unfenced xid b did = not_unfenced xid.0 b.0 (subst (λ (a : Act). ActFinds r.s me r.event a) did r.moves.finds)
