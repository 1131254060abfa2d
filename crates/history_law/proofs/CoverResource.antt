-- Tickets, markers and cover at an entry of a resource.
use Rattle.std.proofs.Common.{◌≡◌, ◌⊎◌, inl, inr, ◌==◌, ℕ, Bool, true, false, List, ◌∷◌, Option, Some, None, refl, ap, sym, subst, ◌∙◌}
use Rattle.seata_types.specs.declared.ids.Place.{Place}
use Rattle.seata_types.specs.declared.ids.Place.TheVariants as place
use Rattle.seata_types.specs.declared.ids.Ticket.{Ticket}
use Rattle.seata_types.specs.declared.messages.Input.TheVariants as input
use Rattle.seata_types.specs.declared.messages.Message.{Message}
use Rattle.seata_types.specs.declared.messages.Message.TheVariants as message
use Rattle.seata_types.specs.declared.messages.Outgoing.{Outgoing}
use Rattle.seata_types.specs.declared.messages.Registered.TheVariants as registered
use Rattle.seata_types.specs.declared.messages.Step.{Step}
use Rattle.seata_types.specs.declared.statements.Work.{Work}
use Rattle.seata_types.specs.declared.statements.Work.TheVariants as work
use Rattle.seata_types.specs.declared.statuses.BranchKind.{BranchKind}
use Rattle.seata_types.specs.declared.statuses.BranchKind.TheVariants as kind
use Rattle.durable_records.specs.declared.coordinators.SessionRecord.{SessionRecord}
use Rattle.durable_records.specs.Transactions.{decided, is_commit}
use Rattle.durable_records.specs.Branches.{Grant, grants}
use Rattle.history_rules.specs.Own.{Event, Given, Left, added}
use Rattle.history_rules.specs.CoordinatorRules.{xid_of, branch_of}
use Rattle.history_rules.specs.Nodes.{World, counted_at}
use Rattle.history_rules.specs.Histories.{Moment}
use Rattle.history_law.specs.Points.{In}
use Rattle.history_law.specs.Network.{OnSent}
use Rattle.seata_types.specs.declared.acts.Act.{Act}
use Rattle.seata_types.specs.declared.acts.Act.TheVariants as act
use Rattle.seata_types.specs.declared.acts.Durable.TheVariants as durable
use Rattle.durable_records.specs.declared.resources.ResourceRecord.{ResourceRecord}
use Rattle.durable_records.specs.declared.resources.ResourceRecord.TheVariants as resource_log
use Rattle.durable_records.specs.UndoRecords.{Undo, is_leg, undos, undo_of, is_marked}
use Rattle.durable_records.specs.ResourceOrder.{image_keys}
use Rattle.history_rules.specs.ResourceMemory.{Setup, Owner, OfCall, OfLocal, Open, Memory, boot_over}
use Rattle.history_law.specs.Tickets.{WasGiven, Names, IsClosed, IsAtOf, kind_of, Asks}
use Rattle.history_law.specs.Cover.{all_of, AskedFor, IsUndone, MarksHold, Backs, CoversAt, HasKind, SaysIn, Says, CoversBy}
use Rattle.history_law.proofs.Tests.{true_false, none_some, same_nat, found_in}
use Rattle.history_law.proofs.Branches.{one_branch, in_all}
use Rattle.history_law.proofs.Deliveries.{each_grows}
use Rattle.history_law.proofs.UndoRecords.{commit_of, no_undo_after, undone_has_none, mark_stays, marked_now, undo_before, mark_before, leg_parts}
use Rattle.history_law.proofs.ResourceFits.{IsCommit, ActFits, RolledBy, is_done_rollback, MessageFits, SentFits, Fits}
use Rattle.history_law.proofs.TicketSteps.{memory_by, next_not_given, given_later}
use Rattle.history_law.proofs.ResourceSteps.{CommitFits, RecordFits, OpenFrom, ResourceMoves}
use Rattle.history_law.proofs.CoverGrowth.{Steady, Grows, says_grows, ends_grow}

pub one_number : (k n : ℕ) → place.Res k ≡ place.Res n → k ≡ n
one_number k n e = cc

-- the kind of an open AT ticket
kind_by : (man x y c : ℕ) (w : Work) (k : BranchKind) → IsAtOf x (OfCall man y c w) → kind_of w ≡ k → k ≡ kind.At
kind_by man x y c (work.At stmts) k at of = sym of
kind_by man x y c (work.Tcc a) k at of = absurd at

kind_at : (x : ℕ) (o : Open) (k : BranchKind) → IsAtOf x o.owner → HasKind k o → k ≡ kind.At
kind_at x o k at (man, y, c, w, is, of) = kind_by man x y c w k (subst (λ q. IsAtOf x q) is at) of

pub same_owner : (x y : ℕ) (owner : Owner) → IsAtOf x owner → IsAtOf y owner → x ≡ y
same_owner x y (OfCall m z c (work.At stmts)) e f = sym e ∙ f
same_owner x y (OfCall m z c (work.Tcc a)) e f = absurd e
same_owner x y (OfLocal k) e f = absurd e

pub cleared_boot : (x b : ℕ) (rs : List ResourceRecord) → resource_log.Cleared (xid_of x) (branch_of b) ≡ boot_over rs → ⊥
cleared_boot x b rs e = cc

pub mark_added : (r : Option ResourceRecord) (rs : List ResourceRecord) (x b : ℕ) → is_marked rs x b ≡ true → is_marked (added r rs) x b ≡ true
mark_added None rs x b e = e
mark_added (Some r) rs x b e = mark_stays r rs x b e

pub in_added : {R : Type 0} (r : Option R) (rs : List R) (q : R) → In q rs → In q (added r rs)
in_added None rs q i = i
in_added (Some r) rs q i = inr i

module _ (w : World) (tc : Left SessionRecord) (mem : ℕ → Setup → Memory) (ms : List Moment) (c : CoversBy w tc mem ms)
    (k : ℕ) (s : Setup) (is : counted_at w.resources k ≡ Some s) (named : s.number ≡ k)
    (event : Event) (heard : (from : Place) (m : Message) → event ≡ Given (input.Message from m) → SaysIn w tc mem from (place.Res k) m)
    (now : ℕ) (step : Step) (moves : ResourceMoves s (mem k s) event now step) where
  abbrev m : Memory
  m = mem k s

  abbrev n : Memory
  n = memory_by s (mem k s) event now step

  abbrev a : CoversAt tc k m
  a = c.at k s is

  named_by : (t : Ticket) (P : Open → Type 0) → Steady P → Names m t P → (o : Open) → o.ticket ≡ t → OpenFrom s m event n o → P o
  named_by t P steady names o e (inl (p, j, i, is)) = subst P (sym is) (steady p j (names.named p i (sym (ap (λ q. q.ticket) is) ∙ e)))
  named_by t P steady names o e (inr next) = absurd (next_not_given m t names.given (sym e ∙ next.ticket))

  names_new : (t : Ticket) (P : Open → Type 0) → Steady P → Names m t P → Names n t P
  names_new t P steady names = record { given = given_later m n t moves.later names.given; named = λ o i e. named_by t P steady names o e (moves.opens_from o i) }

  -- the branch of a local commit
  pub record Granted (u : Undo) (o : Open) : Type 0 where
    pub grant : Grant
    pub there : In grant (grants tc.records)
    pub number : grant.branch ≡ u.branch
    pub resource : grant.resource ≡ k
    pub at : grant.kind ≡ kind.At
    pub ticket : grant.ticket ≡ o.ticket

  pub granted_of : (u : Undo) (f : CommitFits m n.opens event u) → Granted u f.open_ticket
  granted_of u f =
      let g = f.granted in
      let said = heard g.from (message.RegisterAnswer f.open_ticket.ticket g.xid (registered.Granted (branch_of u.branch))) g.is in
      let here : k ≡ said.branch.resource = one_number k said.branch.resource said.receiver in
      let names : Names m f.open_ticket.ticket (HasKind said.branch.kind) =
      subst (λ q. Names (mem q s) f.open_ticket.ticket (HasKind said.branch.kind)) (sym here) (said.asked s (ap (counted_at w.resources) (sym here) ∙ is)) in
      let at : said.branch.kind ≡ kind.At = kind_at u.xid f.open_ticket said.branch.kind f.at (names.named f.open_ticket f.there refl) in
      record { grant = said.branch; there = said.granted; number = said.number; resource = sym here; at = at; ticket = said.ticket at }

  pub fits_as : (r : ResourceRecord) → RecordFits s m n.opens event r → (u : Undo) → r ≡ commit_of u → CommitFits m n.opens event u
  fits_as r f u e = subst (λ q. RecordFits s m n.opens event q) e f

  -- a branch that has nothing to undo has no local commit
  pub against : (g : Grant) → In g (grants (all_of tc)) → (u : Undo) → (is_marked m.left.records g.xid g.branch ≡ true) ⊎ IsClosed m g.ticket → CommitFits m n.opens event u → u.xid ≡ g.xid → u.branch ≡ g.branch → ⊥
  against g i u (inl marked) f sx sb =
      let un : is_marked m.left.records g.xid g.branch ≡ false =
      subst (λ x. is_marked m.left.records x g.branch ≡ false) sx (subst (λ b. is_marked m.left.records u.xid b ≡ false) sb f.unmarked) in
      true_false (sym marked ∙ un)
  against g i u (inr closed) f sx sb =
      let h = granted_of u f in
      let same : h.grant ≡ g = one_branch (all_of tc) c.allowed.1 h.grant g (in_all tc h.grant h.there) i (h.number ∙ sb) in
      closed.named f.open_ticket f.there (sym h.ticket ∙ ap (λ q. q.ticket) same)

  no_commit : (g : Grant) → In g (grants (all_of tc)) → IsUndone m g → (r : ResourceRecord) → RecordFits s m n.opens event r → (u : Undo) → r ≡ commit_of u → is_leg g.xid g.branch u ≡ false
  no_commit g i undone r f u e = by (is_leg g.xid g.branch u) refl
    where
      by : (t : Bool) → is_leg g.xid g.branch u ≡ t → is_leg g.xid g.branch u ≡ false
      by true t = let p = leg_parts g.xid g.branch u t in absurd (against g i u undone.1 (fits_as r f u e) p.0 p.1)
      by false t = t

  marked_or_closed : (g : Grant) → (is_marked m.left.records g.xid g.branch ≡ true) ⊎ IsClosed m g.ticket → (is_marked n.left.records g.xid g.branch ≡ true) ⊎ IsClosed n g.ticket
  marked_or_closed g (inl marked) =
      inl (moves.keeps (λ rs. is_marked rs g.xid g.branch ≡ true) (λ rs e. e) (λ r f e. mark_stays r m.left.records g.xid g.branch e) (marked, mark_added m.left.flight m.left.records g.xid g.branch marked)).0
  marked_or_closed g (inr closed) = inr (names_new g.ticket (λ o. ⊥) (λ o j p. p) closed)

  undone_new : (g : Grant) → In g (grants (all_of tc)) → IsUndone m g → IsUndone n g
  undone_new g i undone = (
    moves.keeps (λ rs. undo_of rs g.xid g.branch ≡ None) (λ rs none. none)
        (λ r f none. no_undo_after r m.left.records g.xid g.branch none (no_commit g i undone r f)) undone.0,
    marked_or_closed g undone.1,
  )

  marks_step : (r : ResourceRecord) → RecordFits s m n.opens event r → MarksHold m.left.records → MarksHold (r ∷ m.left.records)
  marks_step r f marks x b e = no_undo_after r m.left.records x b (none (mark_before r m.left.records x b e)) other
    where
      none : (r ≡ resource_log.Marked (xid_of x) (branch_of b)) ⊎ (is_marked (mem k s).left.records x b ≡ true) → undo_of (mem k s).left.records x b ≡ None
      none (inl is) = (subst (λ q. RecordFits s (mem k s) (memory_by s (mem k s) event now step).opens event q) is f).1
      none (inr old) = marks x b old

      unmarked : (u : Undo) → r ≡ commit_of u → u.xid ≡ x → u.branch ≡ b → is_marked (r ∷ (mem k s).left.records) x b ≡ true → ⊥
      unmarked u is sx sb e =
          let un : is_marked (mem k s).left.records x b ≡ false =
          subst (λ q. is_marked (mem k s).left.records q b ≡ false) sx (subst (λ q. is_marked (mem k s).left.records u.xid q ≡ false) sb (fits_as r f u is).unmarked) in
          true_false (sym (subst (λ q. is_marked (q ∷ (mem k s).left.records) x b ≡ true) is e) ∙ un)

      other : (u : Undo) → r ≡ commit_of u → is_leg x b u ≡ false
      other u is = by (is_leg x b u) refl
        where
          by : (t : Bool) → is_leg x b u ≡ t → is_leg x b u ≡ false
          by true t = let p = leg_parts x b u t in absurd (unmarked u is p.0 p.1 e)
          by false t = t

  abbrev AllBacked : List ResourceRecord → Type 0
  AllBacked rs = (u : Undo) → In u (undos rs) → Backs tc.records k n u

  pub backs_new : (u : Undo) → Backs tc.records k m u → Backs tc.records k n u
  backs_new u b = record {
    branch = b.branch;
    granted = b.granted;
    xid = b.xid;
    number = b.number;
    resource = b.resource;
    at = b.at;
    hold = b.hold;
    closed = names_new b.branch.ticket (λ o. ⊥) (λ o j p. p) b.closed;
  }

  pub commit_backed : (u : Undo) → CommitFits m n.opens event u → Backs tc.records k n u
  commit_backed u f =
      let h = granted_of u f in
      let names : Names m h.grant.ticket (AskedFor h.grant) = a.asked h.grant (in_all tc h.grant h.there) h.at h.resource in
      let for : AskedFor h.grant f.open_ticket = names.named f.open_ticket f.there (sym h.ticket) in
      record {
        branch = h.grant;
        granted = h.there;
        xid = same_owner h.grant.xid u.xid f.open_ticket.owner for.0 f.at;
        number = h.number;
        resource = h.resource;
        at = h.at;
        hold = ap image_keys f.images ∙ for.1;
        closed = record { given = given_later m n h.grant.ticket moves.later names.given; named = λ p i e. f.ends p i (e ∙ h.ticket) };
      }

  backed_by : (r : ResourceRecord) → RecordFits s m n.opens event r → AllBacked m.left.records → (u : Undo) → (r ≡ commit_of u) ⊎ In u (undos m.left.records) → Backs tc.records k n u
  backed_by r f all u (inl is) = commit_backed u (fits_as r f u is)
  backed_by r f all u (inr old) = all u old

  backed_step : (r : ResourceRecord) → RecordFits s m n.opens event r → AllBacked m.left.records → AllBacked (r ∷ m.left.records)
  backed_step r f all u i = backed_by r f all u (undo_before r m.left.records u i)

  abbrev AllCleared : List ResourceRecord → Type 0
  AllCleared rs = (x b : ℕ) → In (resource_log.Cleared (xid_of x) (branch_of b)) rs → is_commit (decided tc.records x) ≡ true

  cleared_step : (r : ResourceRecord) → RecordFits s m n.opens event r → AllCleared m.left.records → AllCleared (r ∷ m.left.records)
  cleared_step r f all x b (inr i) = all x b i
  cleared_step r f all x b (inl e) =
      let asked : IsCommit event x b kind.At = (subst (λ q. RecordFits s m n.opens event q) (sym e) f).0 in
      (heard asked.from (message.BranchCommit (xid_of x) (branch_of b) kind.At asked.manager asked.call) asked.is).2

  boot_cleared : (rs : List ResourceRecord) → AllCleared rs → AllCleared (boot_over rs ∷ rs)
  boot_cleared rs all x b (inl e) = absurd (cleared_boot x b rs e)
  boot_cleared rs all x b (inr i) = all x b i

  either_backed : AllBacked n.left.records × AllBacked (all_of n.left) → (u : Undo) → In u (undos n.left.records) ⊎ In u (undos (all_of n.left)) → Backs tc.records k n u
  either_backed all u (inl i) = all.0 u i
  either_backed all u (inr i) = all.1 u i

  covers_here : CoversAt tc k n
  covers_here =
      let backed = moves.keeps AllBacked (λ rs all. all) backed_step ((λ u i. backs_new u (a.backed u (inl i))), (λ u i. backs_new u (a.backed u (inr i)))) in
      record {
        tickets = moves.tickets;
        marks = moves.keeps MarksHold (λ rs h. h) marks_step a.marks;
        asked = λ g i at here. names_new g.ticket (AskedFor g) (λ o j p. p) (a.asked g i at here);
        backed = λ u i. either_backed backed u i;
        cleared = (moves.keeps AllCleared boot_cleared cleared_step ((λ x b i. a.cleared x b (in_added m.left.flight m.left.records (resource_log.Cleared (xid_of x) (branch_of b)) i)), a.cleared)).1;
      }

  -- what it says of a branch that it rolled back
  rolled_now : (g : Grant) → In g (grants (all_of tc)) → (done : Act) (sent : Option Outgoing) → ActFits s m event done → RolledBy m g.xid g.branch done
      → IsUndone (memory_by s m event now (record { act = done; sent = sent })) g
  rolled_now g i (act.Durable (durable.Marked xid b)) sent f (sx, sb) =
      let none : undo_of m.left.records g.xid g.branch ≡ None = subst (λ q. undo_of m.left.records q g.branch ≡ None) sx (subst (λ q. undo_of m.left.records xid.0 q ≡ None) sb f.1) in
      let marked : is_marked (resource_log.Marked xid b ∷ m.left.records) g.xid g.branch ≡ true =
      subst (λ q. is_marked (resource_log.Marked xid b ∷ m.left.records) q g.branch ≡ true) sx (subst (λ q. is_marked (resource_log.Marked xid b ∷ m.left.records) xid.0 q ≡ true) sb (marked_now m.left.records xid b)) in
      ((none, none), inl marked)
  rolled_now g i (act.Durable (durable.Undone xid b)) sent f (sx, sb) =
      let none : undo_of (resource_log.Undone xid b ∷ m.left.records) g.xid g.branch ≡ None =
      subst (λ q. undo_of (resource_log.Undone xid b ∷ m.left.records) q g.branch ≡ None) sx (subst (λ q. undo_of (resource_log.Undone xid b ∷ m.left.records) xid.0 q ≡ None) sb (undone_has_none m.left.records xid b)) in
      let found = found_in (is_leg xid.0 b.0) (undos m.left.records) f.undo f.found in
      let leg = leg_parts xid.0 b.0 f.undo found.1 in
      let back = a.backed f.undo (inl found.0) in
      let same : back.branch ≡ g = one_branch (all_of tc) c.allowed.1 back.branch g (in_all tc back.branch back.granted) i (back.number ∙ leg.1 ∙ sb) in
      let closed : IsClosed m g.ticket = subst (λ (q : Grant). IsClosed m q.ticket) same back.closed in
      ((none, none), inr (record { given = record { boot = closed.given.boot; seq = closed.given.seq }; named = closed.named }))
  rolled_now g i (act.Remarked xid b) sent f marked =
      ((a.marks.0 g.xid g.branch marked, a.marks.1 g.xid g.branch (mark_added m.left.flight m.left.records g.xid g.branch marked)), inl marked)
  rolled_now g i _ sent f rolled = absurd rolled

  module _ (mem' : ℕ → Setup → Memory) (here : mem' k s ≡ n) (there : (j : ℕ) (q : Setup) → (j == k) ≡ false → mem' j q ≡ mem j q) where
    one_setup_by : (q : Setup) → Some q ≡ Some s → q ≡ s
    one_setup_by q e = cc

    one_setup : (j : ℕ) (q : Setup) → j ≡ k → counted_at w.resources j ≡ Some q → q ≡ s
    one_setup j q e known = one_setup_by q (sym known ∙ ap (counted_at w.resources) e ∙ is)

    pub new_at : (j : ℕ) (q : Setup) → j ≡ k → counted_at w.resources j ≡ Some q → mem' j q ≡ n
    new_at j q e known = ap (λ z. mem' z q) e ∙ ap (mem' k) (one_setup j q e known) ∙ here

    pub old_at : (j : ℕ) (q : Setup) → j ≡ k → counted_at w.resources j ≡ Some q → mem j q ≡ m
    old_at j q e known = ap (λ z. mem z q) e ∙ ap (mem k) (one_setup j q e known)

    names_by : (j : ℕ) (q : Setup) → counted_at w.resources j ≡ Some q → (t : Ticket) (P : Open → Type 0) → Steady P → Names (mem j q) t P → (b : Bool) → (j == k) ≡ b → Names (mem' j q) t P
    names_by j q known t P steady names true e =
        let at : j ≡ k = same_nat j k e in
        subst (λ z. Names z t P) (sym (new_at j q at known)) (names_new t P steady (subst (λ z. Names z t P) (old_at j q at known) names))
    names_by j q known t P steady names false e = subst (λ z. Names z t P) (sym (there j q e)) names

    undone_by : (j : ℕ) (q : Setup) → counted_at w.resources j ≡ Some q → (g : Grant) → In g (grants (all_of tc)) → IsUndone (mem j q) g → (b : Bool) → (j == k) ≡ b → IsUndone (mem' j q) g
    undone_by j q known g i undone true e =
        let at : j ≡ k = same_nat j k e in
        subst (λ z. IsUndone z g) (sym (new_at j q at known)) (undone_new g i (subst (λ z. IsUndone z g) (old_at j q at known) undone))
    undone_by j q known g i undone false e = subst (λ z. IsUndone z g) (sym (there j q e)) undone

    grown : Grows w tc mem tc mem'
    grown = record {
      grants_stay = λ g i. i;
      commits_stay = λ x e. e;
      rollbacks_stay = λ x e. e;
      names_stay = λ j q known t P steady names. names_by j q known t P steady names (j == k) refl;
      undone_stays = λ j q known g i undone. undone_by j q known g i undone (j == k) refl;
    }

    at_by : (j : ℕ) (q : Setup) → counted_at w.resources j ≡ Some q → (b : Bool) → (j == k) ≡ b → CoversAt tc j (mem' j q)
    at_by j q known true e =
        let at : j ≡ k = same_nat j k e in
        subst (λ z. CoversAt tc j z) (sym (new_at j q at known)) (subst (λ z. CoversAt tc z n) (sym at) covers_here)
    at_by j q known false e = subst (λ z. CoversAt tc j z) (sym (there j q e)) (c.at j q known)

    -- what it sends
    message_said : (to : Place) (msg : Message) → ActFits s m event step.act → MessageFits s m event step.act msg → SaysIn w tc mem' (place.Res k) to msg
    message_said to (message.Register xid r d t kk hold check) f said = λ q known.
        let at : r ≡ k = said.number ∙ named in
        subst (λ z. Names z t (Asks xid.0 d kk hold check)) (sym (new_at r q at known))
        (record {
          given = subst (λ z. WasGiven n z) said.ticket (moves.tickets.given said.open_ticket said.there);
          named = λ p j e. subst (λ z. Asks xid.0 d kk hold check z) (moves.tickets.distinct said.open_ticket p said.there j (said.ticket ∙ sym e)) said.asks;
        })
    message_said to (message.BranchRollbacked xid b st stmt) f said =
        let asked = said.asked in
        let back = heard asked.from (message.BranchRollback (xid_of xid.0) (branch_of b.0) said.of_kind asked.manager asked.call) asked.is in
        let bs = back.0 in
        let number : k ≡ bs.branch.resource = one_number k bs.branch.resource bs.place in
        record {
          status = said.status;
          said = record { branch = bs.branch; granted = bs.granted; xid = bs.xid; number = bs.number; place = bs.place };
          undone = λ kk e q known.
              let rolled : RolledBy m bs.branch.xid bs.branch.branch step.act =
              subst (λ z. RolledBy m z bs.branch.branch step.act) (sym bs.xid) (subst (λ z. RolledBy m xid.0 z step.act) (sym bs.number) (said.rolled (sym back.1 ∙ kk) (ap is_done_rollback e))) in
              subst (λ z. IsUndone z bs.branch) (sym (new_at bs.branch.resource q (sym number) known)) (rolled_now bs.branch (in_all tc bs.branch bs.granted) step.act step.sent f rolled);
        }
    message_said to (message.LockQuery r t check) f said = tt
    message_said to (message.BranchCommitted xid b st stmt) f said = tt
    message_said to (message.Answer xid d answer) f said = tt
    message_said to _ f said = absurd said

    sent_said : (sent : Option Outgoing) → step.sent ≡ sent → Fits s m event step ⊎ (step.sent ≡ None) → OnSent (Says w tc mem') (place.Res k) sent
    sent_said None e f = tt
    sent_said (Some out) e (inr none) = none_some (sym none ∙ e)
    sent_said (Some out) e (inl f) = message_said out.to out.message f.0 (subst (λ z. SentFits s m event step.act z) e f.1)

    pub covers_resource : (mo : Moment) → mo.place ≡ place.Res k → mo.step ≡ step → CoversBy w tc mem' (mo ∷ ms)
    covers_resource mo at did = record {
      allowed = c.allowed;
      at = λ j q known. at_by j q known (j == k) refl;
      ended = (ends_grow w tc mem tc mem' grown tc.records (λ h i. in_all tc h i) c.ended.0, ends_grow w tc mem tc mem' grown (all_of tc) (λ h i. i) c.ended.1);
      said = (
        each_grows (Says w tc mem) (Says w tc mem') (λ p o. says_grows w tc mem tc mem' grown p o.to o.message) ms c.said,
        subst (λ q. OnSent (Says w tc mem') q mo.step.sent) (sym at) (subst (λ (q : Step). OnSent (Says w tc mem') (place.Res k) q.sent) (sym did) (sent_said step.sent refl moves.fits)),
      );
    }
