-- The order of the changes of a row in all legal histories.
use Rattle.std.proofs.Common.{◌≡◌, ◌⊎◌, inl, inr, ◌+◌, ◌<◌, ◌==◌, ◌&&◌, ℕ, Bool, true, false, cond, List, [], ◌∷◌, ◌++◌, length, filter, Option, Some, None, is_none, refl, ap, sym, subst, ◌∙◌, arith}
use Rattle.seata_types.specs.declared.messages.Message.TheVariants as message
use Rattle.seata_types.specs.declared.messages.Registered.TheVariants as registered
use Rattle.seata_types.specs.declared.rows.Image.{Image}
use Rattle.seata_types.specs.declared.rows.RowKey.{RowKey}
use Rattle.seata_types.specs.declared.statements.Work.TheVariants as work
use Rattle.seata_types.specs.declared.statuses.BranchKind.TheVariants as kind
use Rattle.durable_records.specs.declared.coordinators.SessionRecord.{SessionRecord}
use Rattle.durable_records.specs.declared.coordinators.SessionRecord.TheVariants as log
use Rattle.durable_records.specs.declared.resources.ResourceRecord.{ResourceRecord}
use Rattle.durable_records.specs.declared.resources.ResourceRecord.TheVariants as resource_log
use Rattle.durable_records.specs.Transactions.{decided, is_commit}
use Rattle.durable_records.specs.Branches.{Grant, grants, granted, next_branch}
use Rattle.durable_records.specs.Progress.{may_decide}
use Rattle.durable_records.specs.Locks.{has_key, first_held}
use Rattle.durable_records.specs.UndoRecords.{Undo, undos, is_leg}
use Rattle.durable_records.specs.ResourceOrder.{image_keys}
use Rattle.durable_records.specs.RowsKept.{Change, ByBranch, ByLocal, ByOutside, image_at, changed, by_branch, by_local, by_outside, is_by_other, changes}
use Rattle.history_rules.specs.Own.{Left}
use Rattle.history_rules.specs.CoordinatorRules.{xid_of, branch_of}
use Rattle.history_rules.specs.ResourceMemory.{Setup, Owner, OfCall, OfLocal, Open, Memory, has_row}
use Rattle.history_rules.specs.Nodes.{World, Past, counted_at}
use Rattle.history_rules.specs.Histories.{Moment, coordinator_left}
use Rattle.history_law.specs.Points.{In}
use Rattle.history_law.specs.Network.{EachSent}
use Rattle.history_law.specs.Tickets.{Names, IsAtOf, Asks}
use Rattle.history_law.specs.Cover.{all_of, memory_of, HasKind, IsUndone, Backs, SaysIn, Covers}
use Rattle.history_law.specs.OrderSafety.{LiesUnder, LieUnder, IsSettled, AreSettled, ArePiled, CommitsLie, HasCommitted, UndosFollow}
use Rattle.history_law.proofs.Tests.{and_left, and_right, found_in}
use Rattle.history_law.proofs.Transactions.{numbered, next_number}
use Rattle.history_law.proofs.Branches.{in_all, stays_decided, decided_in_all}
use Rattle.history_law.proofs.Holders.{none_held}
use Rattle.history_law.proofs.UndoRecords.{HasCommit, WithUndo, IsCleared, change_has, commit_of, undo_committed, leg_of, leg_parts}
use Rattle.history_law.proofs.CoordinatorCauses.{IsRegistered}
use Rattle.history_law.proofs.CoverCoordinator.{MayCaused}
use Rattle.history_law.proofs.CoverResource.{one_number, same_owner, in_added}
use Rattle.history_law.proofs.ResourceSteps.{CommitFits, LocalFits, RecordFits, OpenFrom}
use Rattle.history_law.proofs.ResourceRows.{image_row, commit_row, each_memory}
use Rattle.history_law.proofs.RowChanges.{all_added, all_filter}
use Rattle.history_law.proofs.RowHolders.{HeldBy, holder}
use Rattle.history_law.proofs.RowMessages.{SaysRows, all_settled_on, rows_said_tc, rows_said_res}
use Rattle.history_law.proofs.TicketSteps.{memory_by, given_later, next_not_given}
use Rattle.history_law.proofs.CallResources.{owner_kind}
use Rattle.history_law.proofs.Steps.{TcStep, ResStep}

-- ---- lists of changes

piled_filter : (rs : List SessionRecord) (test : Change → Bool) (cs : List Change) → ArePiled rs cs → ArePiled rs (filter test cs)
piled_filter rs test [] p = tt
piled_filter rs test (ByBranch x b before after ∷ cs) p = by (test (ByBranch x b before after)) (piled_filter rs test cs p.1)
  where
    by : (t : Bool) → ArePiled rs (filter test cs) → ArePiled rs (cond t (ByBranch x b before after ∷ filter test cs) (filter test cs))
    by true rest = (all_filter (LiesUnder rs x b) test cs p.0, rest)
    by false rest = rest
piled_filter rs test (ByLocal after ∷ cs) p = by (test (ByLocal after)) (piled_filter rs test cs p.1)
  where
    by : (t : Bool) → ArePiled rs (filter test cs) → ArePiled rs (cond t (ByLocal after ∷ filter test cs) (filter test cs))
    by true rest = (all_filter (IsSettled rs) test cs p.0, rest)
    by false rest = rest
piled_filter rs test (ByOutside after ∷ cs) p = by (test (ByOutside after)) (piled_filter rs test cs p)
  where
    by : (t : Bool) → ArePiled rs (filter test cs) → ArePiled rs (cond t (ByOutside after ∷ filter test cs) (filter test cs))
    by true rest = rest
    by false rest = rest

module _ (rs rs' : List SessionRecord) (more : (x : ℕ) → is_commit (decided rs x) ≡ true → is_commit (decided rs' x) ≡ true) where
  lies_on : (x b : ℕ) (d : Change) → LiesUnder rs x b d → LiesUnder rs' x b d
  lies_on x b (ByLocal after) u = tt
  lies_on x b (ByOutside after) u = tt
  lies_on x b (ByBranch y d before after) (inl k) = inl (more y k)
  lies_on x b (ByBranch y d before after) (inr k) = inr k

  lie_on : (x b : ℕ) (cs : List Change) → LieUnder rs x b cs → LieUnder rs' x b cs
  lie_on x b cs all d j = lies_on x b d (all d j)

  pub piled_on : (cs : List Change) → ArePiled rs cs → ArePiled rs' cs
  piled_on [] p = tt
  piled_on (ByBranch x b before after ∷ cs) p = (lie_on x b cs p.0, piled_on cs p.1)
  piled_on (ByLocal after ∷ cs) p = (all_settled_on rs rs' more cs p.0, piled_on cs p.1)
  piled_on (ByOutside after ∷ cs) p = piled_on cs p

  pub commits_lie_on : (records : List ResourceRecord) → CommitsLie rs records → CommitsLie rs' records
  commits_lie_on [] p = tt
  commits_lie_on (resource_log.Committed xid b call images reads ∷ records) p = (commits_lie_on records p.0, λ key h. lie_on xid.0 b.0 (changes records key) (p.1 key h))
  commits_lie_on (resource_log.Boot number ∷ records) p = commits_lie_on records p
  commits_lie_on (resource_log.Undone xid b ∷ records) p = commits_lie_on records p
  commits_lie_on (resource_log.Marked xid b ∷ records) p = commits_lie_on records p
  commits_lie_on (resource_log.Cleared xid b ∷ records) p = commits_lie_on records p
  commits_lie_on (resource_log.Tried xid b call images ∷ records) p = commits_lie_on records p
  commits_lie_on (resource_log.Confirmed xid b images ∷ records) p = commits_lie_on records p
  commits_lie_on (resource_log.Cancelled xid b images ∷ records) p = commits_lie_on records p
  commits_lie_on (resource_log.Suspended xid b ∷ records) p = commits_lie_on records p
  commits_lie_on (resource_log.LocalCommitted k images ∷ records) p = commits_lie_on records p
  commits_lie_on (resource_log.Outside k images ∷ records) p = commits_lie_on records p

-- ---- what is kept

-- the changes of the rows of a ticket, of the records and with the one in flight, lie under this branch
abbrev pub Under : List SessionRecord → Memory → Grant → Open → Type 0
Under rs m g o = (key : RowKey) → has_row key o ≡ true → LieUnder rs g.xid g.branch (changes m.left.records key) × LieUnder rs g.xid g.branch (changes (all_of m.left) key)

abbrev pub Unders : List SessionRecord → List SessionRecord → ℕ → Memory → Type 0
Unders rs all n m = (g : Grant) → In g (grants all) → g.kind ≡ kind.At → g.resource ≡ n → Names m g.ticket (Under rs m g)

abbrev pub PiledAt : List SessionRecord → Memory → Type 0
PiledAt rs m = (key : RowKey) → ArePiled rs (changes m.left.records key) × ArePiled rs (changes (all_of m.left) key)

abbrev pub CommitsLieAt : List SessionRecord → Memory → Type 0
CommitsLieAt rs m = CommitsLie rs m.left.records × CommitsLie rs (all_of m.left)

abbrev pub UndosFollowAt : Memory → Type 0
UndosFollowAt m = UndosFollow m.left.records × UndosFollow (all_of m.left)

pub record RowsBy (w : World) (tc : Left SessionRecord) (mem : ℕ → Setup → Memory) (ms : List Moment) : Type 0 where
  pub said : EachSent (SaysRows w tc mem) ms
  pub unders : (n : ℕ) (s : Setup) → counted_at w.resources n ≡ Some s → Unders tc.records (all_of tc) n (mem n s)
  pub piled : (n : ℕ) (s : Setup) → counted_at w.resources n ≡ Some s → PiledAt tc.records (mem n s)
  pub commits_lie : (n : ℕ) (s : Setup) → counted_at w.resources n ≡ Some s → CommitsLieAt tc.records (mem n s)
  pub undos_follow : (n : ℕ) (s : Setup) → counted_at w.resources n ≡ Some s → UndosFollowAt (mem n s)

-- ---- at the coordinator

module _ (w : World) (past : Past) (ms : List Moment) (m : Moment) (c : Covers w past ms) (i : RowsBy w (coordinator_left past ms) (memory_of past ms) ms) (t : TcStep w past ms m)
    (n : ℕ) (s : Setup) (is : counted_at w.resources n ≡ Some s) where
  abbrev tc : Left SessionRecord
  tc = coordinator_left past ms

  abbrev rs : List SessionRecord
  rs = (coordinator_left past ms).records

  abbrev me : Memory
  me = memory_of past ms n s

  abbrev IsUndo : Undo → Type 0
  IsUndo v = In v (undos (memory_of past ms n s).left.records) ⊎ In v (undos (all_of (memory_of past ms n s).left))

  held : (key : RowKey) (v : Undo) → IsUndo v → has_key (image_keys v.images) key ≡ true → (is_commit (decided rs v.xid) ≡ true) ⊎ HeldBy rs v.xid v.branch key
  held key v j h = holder w (coordinator_left past ms) (memory_of past ms) ms c n s is key v j h

  -- at a grant, where nobody else holds a row of the ticket, its changes lie under the new branch
  module _ (g : Grant) (keys : List RowKey) (key : RowKey) (number : g.branch ≡ length (grants rs) + 1) (free : first_held rs g.xid keys ≡ None) (row : has_key keys key ≡ true) where
    held_lies : (x b : ℕ) → (is_commit (decided rs x) ≡ true) ⊎ HeldBy rs x b key → (is_commit (decided rs x) ≡ true) ⊎ ((x ≡ g.xid) × (b < g.branch))
    held_lies x b (inl commits) = inl commits
    held_lies x b (inr h) =
        let own : h.branch.xid ≡ g.xid = none_held rs g.xid keys key h.branch free row h.there h.holding in
        let low = ((numbered rs c.allowed.0).grants_in h.branch h.there).1 in
        let same : h.branch.branch ≡ b = h.number in
        inr (sym h.xid ∙ own, omega arith)

    commit_lies : (all : List ResourceRecord) → ((v : Undo) → In v (undos all) → IsUndo v) → ((x b : ℕ) → In (resource_log.Cleared (xid_of x) (branch_of b)) all → is_commit (decided rs x) ≡ true)
        → (x b : ℕ) → HasCommit all x b key → (is_commit (decided rs x) ≡ true) ⊎ ((x ≡ g.xid) × (b < g.branch))
    commit_lies all undo cleared x b (WithUndo v j ex eb h) =
        held_lies x b (subst (λ q. (is_commit (decided rs q) ≡ true) ⊎ HeldBy rs q b key) ex (subst (λ q. (is_commit (decided rs v.xid) ≡ true) ⊎ HeldBy rs v.xid q key) eb (held key v (undo v j) h)))
    commit_lies all undo cleared x b (IsCleared j) = inl (cleared x b j)

    all_lie : (all : List ResourceRecord) → ((v : Undo) → In v (undos all) → IsUndo v) → ((x b : ℕ) → In (resource_log.Cleared (xid_of x) (branch_of b)) all → is_commit (decided rs x) ≡ true)
        → LieUnder rs g.xid g.branch (changes all key)
    all_lie all undo cleared (ByBranch x b before after) j = commit_lies all undo cleared x b (change_has x b before after key all j)
    all_lie all undo cleared (ByLocal after) j = tt
    all_lie all undo cleared (ByOutside after) j = tt

  cleared_commits : (x b : ℕ) → In (resource_log.Cleared (xid_of x) (branch_of b)) (all_of me.left) → is_commit (decided rs x) ≡ true
  cleared_commits x b j = (c.at n s is).cleared x b j

  asks_under : (g : Grant) (x : ℕ) (check : List RowKey) (o : Open) → g.branch ≡ length (grants rs) + 1 → first_held rs g.xid (g.hold ++ check) ≡ None → g.kind ≡ kind.At
      → Asks x g.call g.kind g.hold check o → Under rs me g o
  asks_under g x check o number free at a key h = (
    all_lie g (g.hold ++ check) key number free (a.rows at key h) me.left.records (λ v j. inl j) (λ x b j. cleared_commits x b (in_added me.left.flight me.left.records _ j)),
    all_lie g (g.hold ++ check) key number free (a.rows at key h) (all_of me.left) (λ v j. inr j) cleared_commits,
  )

  new_under : (g : Grant) → g.branch ≡ length (grants rs) + 1 → IsRegistered rs t.event g → g.kind ≡ kind.At → g.resource ≡ n → Names me g.ticket (Under rs me g)
  new_under g number r at here =
      let said = t.heard (λ p out. Rattle.history_law.specs.Cover.Says w (coordinator_left past ms) (memory_of past ms) p out) c.said r.from (message.Register r.xid g.resource g.call g.ticket g.kind g.hold r.check) r.is in
      let names = said s (ap (counted_at w.resources) here ∙ is) in
      let mine = subst (λ q. Names (memory_of past ms q s) g.ticket (Asks r.xid.0 g.call g.kind g.hold r.check)) here names in
      record { given = mine.given; named = λ o j e. asks_under g r.xid.0 r.check o number r.free at (mine.named o j e) }

  commits_stay : (x : ℕ) → is_commit (decided rs x) ≡ true → is_commit (decided t.after.records x) ≡ true
  commits_stay x e = (t.keeps (λ z. is_commit (decided z x) ≡ true) (λ r f j. stays_decided is_commit refl rs x r f.0 j) (e, decided_in_all is_commit refl tc c.allowed.1 x e)).0

  under_on : (g : Grant) (o : Open) → Under rs me g o → Under t.after.records me g o
  under_on g o u key h =
      let k = u key h in
      (lie_on rs t.after.records commits_stay g.xid g.branch (changes me.left.records key) k.0, lie_on rs t.after.records commits_stay g.xid g.branch (changes (all_of me.left) key) k.1)

  names_on : (g : Grant) → Names me g.ticket (Under rs me g) → Names me g.ticket (Under t.after.records me g)
  names_on g names = record { given = names.given; named = λ o j e. under_on g o (names.named o j e) }

  unders_step : (r : SessionRecord) → MayCaused rs t.event r → Unders t.after.records rs n me → Unders t.after.records (r ∷ rs) n me
  unders_step (log.Granted xid b resource call u k hold) f all g (inl same) at here =
      let grant = and_left (may_decide rs xid.0 && ((b.0 == next_branch rs) && is_none (first_held rs xid.0 hold))) (is_none (granted rs xid.0 resource call u k)) f.0 in
      let number : b.0 ≡ length (grants rs) + 1 =
      next_number b.0 (next_branch rs) (is_none (first_held rs xid.0 hold)) (and_right (may_decide rs xid.0) ((b.0 == next_branch rs) && is_none (first_held rs xid.0 hold)) grant) in
      names_on g (new_under g (ap (λ q. q.branch) same ∙ number) (subst (λ q. IsRegistered rs t.event q) (sym same) f.1) at here)
  unders_step (log.Granted xid b resource call u k hold) f all g (inr j) at here = all g j at here
  unders_step (log.Begun xid manager moment timeout) f all g j at here = all g j at here
  unders_step (log.Decided xid d) f all g j at here = all g j at here
  unders_step (log.Retrying xid) f all g j at here = all g j at here
  unders_step (log.Ended xid b) f all g j at here = all g j at here
  unders_step (log.Failed xid b stmt) f all g j at here = all g j at here
  unders_step (log.Finished xid) f all g j at here = all g j at here
  unders_step (log.Forgot xid) f all g j at here = all g j at here

  unders_tc : Unders t.after.records (all_of t.after) n me
  unders_tc =
      let all = i.unders n s is in
      (t.keeps (λ z. Unders t.after.records z n me) unders_step ((λ g j at here. names_on g (all g (in_all tc g j) at here)), (λ g j at here. names_on g (all g j at here)))).1

  piled_tc : PiledAt t.after.records me
  piled_tc key =
      let p = i.piled n s is key in
      (piled_on rs t.after.records commits_stay (changes me.left.records key) p.0, piled_on rs t.after.records commits_stay (changes (all_of me.left) key) p.1)

  commits_lie_tc : CommitsLieAt t.after.records me
  commits_lie_tc =
      let p = i.commits_lie n s is in
      (commits_lie_on rs t.after.records commits_stay me.left.records p.0, commits_lie_on rs t.after.records commits_stay (all_of me.left) p.1)

module _ (w : World) (past : Past) (ms : List Moment) (m : Moment) (c : Covers w past ms) (i : RowsBy w (coordinator_left past ms) (memory_of past ms) ms) (t : TcStep w past ms m) where
  pub rows_at_tc : RowsBy w t.after (memory_of past ms) (m ∷ ms)
  rows_at_tc = record {
    said = rows_said_tc w past ms m c i.said t;
    unders = λ n s is. unders_tc w past ms m c i t n s is;
    piled = λ n s is. piled_tc w past ms m c i t n s is;
    commits_lie = λ n s is. commits_lie_tc w past ms m c i t n s is;
    undos_follow = i.undos_follow;
  }

-- ---- at a resource

kind_of_at : (x : ℕ) (owner : Owner) → IsAtOf x owner → owner_kind owner ≡ kind.At
kind_of_at x (OfCall manager y d (work.At stmts)) at = refl
kind_of_at x (OfCall manager y d (work.Tcc action)) at = absurd at
kind_of_at x (OfLocal n) at = absurd at

module _ (w : World) (past : Past) (ms : List Moment) (m : Moment) (c : Covers w past ms) (i : RowsBy w (coordinator_left past ms) (memory_of past ms) ms) (r : ResStep w past ms m) where
  abbrev rs_here : List SessionRecord
  rs_here = (coordinator_left past ms).records

  abbrev before : Memory
  before = memory_of past ms r.k r.s

  abbrev ne : Memory
  ne = memory_by r.s (memory_of past ms r.k r.s) r.event m.now m.step

  -- a record leaves the changes of a row of a ticket that stays open where they are
  record_under : (g : Grant) (p o : Open) (key : RowKey) → In p before.opens → In o ne.opens → p.ticket ≡ o.ticket → has_row key p ≡ true → (q : ResourceRecord) → RecordFits r.s before ne.opens r.event q
      → LieUnder rs_here g.xid g.branch (changes before.left.records key) → LieUnder rs_here g.xid g.branch (changes (q ∷ before.left.records) key)
  record_under g p o key ip io same h (resource_log.Committed xid b call images reads) f all =
      all_added (LiesUnder rs_here g.xid g.branch) (by_branch xid.0 b.0) (image_at images key) (changes before.left.records key)
      (λ a e. absurd (f.ends o io (sym same ∙ (c.at r.k r.s r.known).tickets.disjoint p f.open_ticket ip f.there key h (image_row images f.open_ticket key a f.images e)))) all
  record_under g p o key ip io same h (resource_log.Undone xid b) f all = all_filter (LiesUnder rs_here g.xid g.branch) (is_by_other xid.0 b.0) (changes before.left.records key) all
  record_under g p o key ip io same h (resource_log.LocalCommitted k images) f all = all_added (LiesUnder rs_here g.xid g.branch) by_local (image_at images key) (changes before.left.records key) (λ a e. tt) all
  record_under g p o key ip io same h (resource_log.Outside k images) f all = all_added (LiesUnder rs_here g.xid g.branch) by_outside (image_at images key) (changes before.left.records key) (λ a e. tt) all
  record_under g p o key ip io same h _ f all = all

  under_by : (g : Grant) → Names before g.ticket (Under rs_here before g) → (o : Open) → In o ne.opens → o.ticket ≡ g.ticket → OpenFrom r.s before r.event ne o → Under rs_here ne g o
  under_by g names o io e (inr next) = absurd (next_not_given before g.ticket names.given (sym e ∙ next.ticket))
  under_by g names o io e (inl (p, k, ip, eq)) = λ key h.
      let same : p.ticket ≡ o.ticket = sym (ap (λ q. q.ticket) eq) in
      let row : has_row key p ≡ true = subst (λ q. has_row key q ≡ true) eq h in
      let old = names.named p ip (same ∙ e) key row in
      r.moves.keeps (λ z. LieUnder rs_here g.xid g.branch (changes z key)) (λ z q. q) (λ q f all. record_under g p o key ip io same row q f all) old

  unders_here : Unders rs_here (all_of (coordinator_left past ms)) r.k ne
  unders_here g j at here =
      let names = i.unders r.k r.s r.known g j at here in
      record { given = given_later before ne g.ticket r.moves.later names.given; named = λ o io e. under_by g names o io e (r.moves.opens_from o io) }

  -- the changes of the rows of a local commit's ticket lie under its branch
  lies_below : (u : Undo) (f : CommitFits before ne.opens r.event u) (key : RowKey) → has_row key f.open_ticket ≡ true → LieUnder rs_here u.xid u.branch (changes before.left.records key)
  lies_below u f key row =
      let o = f.open_ticket in
      let said = r.heard (λ p out. Rattle.history_law.specs.Cover.Says w (coordinator_left past ms) (memory_of past ms) p out) c.said f.granted.from
      (message.RegisterAnswer f.open_ticket.ticket f.granted.xid (registered.Granted (branch_of u.branch))) f.granted.is in
      let at_k : r.k ≡ said.branch.resource = one_number r.k said.branch.resource said.receiver in
      let names : Names before o.ticket (HasKind said.branch.kind) =
      subst (λ z. Names (memory_of past ms z r.s) f.open_ticket.ticket (HasKind said.branch.kind)) (sym at_k) (said.asked r.s (ap (counted_at w.resources) (sym at_k) ∙ r.known)) in
      let k = names.named o f.there refl in
      let at : said.branch.kind ≡ kind.At = sym k.5 ∙ ap owner_kind (sym k.4) ∙ kind_of_at u.xid o.owner f.at in
      let ticket : said.branch.ticket ≡ o.ticket = said.ticket at in
      let there = in_all (coordinator_left past ms) said.branch said.granted in
      let asked = ((c.at r.k r.s r.known).asked said.branch there at (sym at_k)).named o f.there (sym ticket) in
      let xid : said.branch.xid ≡ u.xid = same_owner said.branch.xid u.xid o.owner asked.0 f.at in
      let lies = ((i.unders r.k r.s r.known said.branch there at (sym at_k)).named o f.there (sym ticket) key row).0 in
      subst (λ z. LieUnder rs_here z u.branch (changes before.left.records key)) xid (subst (λ z. LieUnder rs_here said.branch.xid z (changes before.left.records key)) said.number lies)

  -- those of a local commit are settled
  settled_below : (n : ℕ) (images : List Image) (f : LocalFits before ne.opens r.event n images) (key : RowKey) (a : Image) → image_at images key ≡ Some a → AreSettled rs_here (changes before.left.records key)
  settled_below n images f key a e =
      let said = r.heard (λ p out. SaysRows w (coordinator_left past ms) (memory_of past ms) p out) i.said f.from (message.LockAnswer f.open_ticket.ticket None) f.is in
      ((said r.k refl r.s r.known).named f.open_ticket f.there refl key (image_row images f.open_ticket key a f.images_are e)).0

  piled_step : (key : RowKey) (q : ResourceRecord) → RecordFits r.s before ne.opens r.event q → ArePiled rs_here (changes before.left.records key) → ArePiled rs_here (changes (q ∷ before.left.records) key)
  piled_step key (resource_log.Committed xid b call images reads) f p = by (image_at images key) refl
    where
      by : (z : Option Image) → image_at images key ≡ z → ArePiled (coordinator_left past ms).records (changed (by_branch xid.0 b.0) z (changes (memory_of past ms r.k r.s).left.records key))
      by None e = p
      by (Some a) e = (lies_below (record { xid = xid.0; branch = b.0; call = call; images = images; reads = reads }) f key (image_row images f.open_ticket key a f.images e), p)
  piled_step key (resource_log.Undone xid b) f p = piled_filter rs_here (is_by_other xid.0 b.0) (changes before.left.records key) p
  piled_step key (resource_log.LocalCommitted k images) f p = by (image_at images key) refl
    where
      by : (z : Option Image) → image_at images key ≡ z → ArePiled (coordinator_left past ms).records (changed by_local z (changes (memory_of past ms r.k r.s).left.records key))
      by None e = p
      by (Some a) e = (settled_below k images f key a e, p)
  piled_step key (resource_log.Outside k images) f p = by (image_at images key)
    where
      by : (z : Option Image) → ArePiled (coordinator_left past ms).records (changed by_outside z (changes (memory_of past ms r.k r.s).left.records key))
      by None = p
      by (Some a) = p
  piled_step key _ f p = p

  piled_here : PiledAt rs_here ne
  piled_here key = r.moves.keeps (λ z. ArePiled rs_here (changes z key)) (λ z q. q) (λ q f p. piled_step key q f p) (i.piled r.k r.s r.known key)

  commits_lie_step : (q : ResourceRecord) → RecordFits r.s before ne.opens r.event q → CommitsLie rs_here before.left.records → CommitsLie rs_here (q ∷ before.left.records)
  commits_lie_step (resource_log.Committed xid b call images reads) f p =
      let u : Undo = record { xid = xid.0; branch = b.0; call = call; images = images; reads = reads } in
      (p, λ key h. lies_below u f key (commit_row images reads f.open_ticket key f.images f.reads h))
  commits_lie_step (resource_log.Boot number) f p = p
  commits_lie_step (resource_log.Undone xid b) f p = p
  commits_lie_step (resource_log.Marked xid b) f p = p
  commits_lie_step (resource_log.Cleared xid b) f p = p
  commits_lie_step (resource_log.Tried xid b call images) f p = p
  commits_lie_step (resource_log.Confirmed xid b images) f p = p
  commits_lie_step (resource_log.Cancelled xid b images) f p = p
  commits_lie_step (resource_log.Suspended xid b) f p = p
  commits_lie_step (resource_log.LocalCommitted k images) f p = p
  commits_lie_step (resource_log.Outside k images) f p = p

  commits_lie_here : CommitsLieAt rs_here ne
  commits_lie_here = r.moves.keeps (CommitsLie rs_here) (λ z p. p) commits_lie_step (i.commits_lie r.k r.s r.known)

  -- what is undone was committed
  undone_committed : (u : Undo) (x b : ℕ) → In u (undos before.left.records) → u.xid ≡ x → u.branch ≡ b → HasCommitted before.left.records x b
  undone_committed u x b j ex eb = (commit_of u, undo_committed before.left.records u j, leg_of u x b ex eb)

  undos_follow_step : (q : ResourceRecord) → RecordFits r.s before ne.opens r.event q → UndosFollow before.left.records → UndosFollow (q ∷ before.left.records)
  undos_follow_step (resource_log.Undone xid b) f p =
      let k = found_in (is_leg xid.0 b.0) (undos before.left.records) f.undo f.found in
      let leg = leg_parts xid.0 b.0 f.undo k.1 in
      (p, undone_committed f.undo xid.0 b.0 k.0 leg.0 leg.1)
  undos_follow_step (resource_log.Boot number) f p = p
  undos_follow_step (resource_log.Committed xid b call images reads) f p = p
  undos_follow_step (resource_log.Marked xid b) f p = p
  undos_follow_step (resource_log.Cleared xid b) f p = p
  undos_follow_step (resource_log.Tried xid b call images) f p = p
  undos_follow_step (resource_log.Confirmed xid b images) f p = p
  undos_follow_step (resource_log.Cancelled xid b images) f p = p
  undos_follow_step (resource_log.Suspended xid b) f p = p
  undos_follow_step (resource_log.LocalCommitted k images) f p = p
  undos_follow_step (resource_log.Outside k images) f p = p

  undos_follow_here : UndosFollowAt ne
  undos_follow_here = r.moves.keeps UndosFollow (λ z p. p) undos_follow_step (i.undos_follow r.k r.s r.known)

  pub rows_at_res : RowsBy w (coordinator_left past ms) r.after (m ∷ ms)
  rows_at_res = record {
    said = rows_said_res w past ms m c i.said r;
    unders = λ j q known. each_memory w past ms m r (λ n z me. Unders rs_here (all_of (coordinator_left past ms)) n me) j q known (λ old. unders_here) (i.unders j q known);
    piled = λ j q known. each_memory w past ms m r (λ n z me. PiledAt rs_here me) j q known (λ old. piled_here) (i.piled j q known);
    commits_lie = λ j q known. each_memory w past ms m r (λ n z me. CommitsLieAt rs_here me) j q known (λ old. commits_lie_here) (i.commits_lie j q known);
    undos_follow = λ j q known. each_memory w past ms m r (λ n z me. UndosFollowAt me) j q known (λ old. undos_follow_here) (i.undos_follow j q known);
  }
