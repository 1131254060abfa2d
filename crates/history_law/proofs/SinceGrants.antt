-- What lies on the rows of a branch's ticket at a point between its grant and its local commit, seen from later on.
use Rattle.std.proofs.Common.{◌≡◌, inl, inr, ℕ, true, List, [], ◌∷◌, ◌++◌, Some, refl, ap, sym, subst, ◌∙◌}
use Rattle.seata_types.specs.declared.rows.RowKey.{RowKey}
use Rattle.seata_types.specs.declared.statuses.BranchKind.TheVariants as kind
use Rattle.durable_records.specs.declared.coordinators.SessionRecord.{SessionRecord}
use Rattle.durable_records.specs.declared.resources.ResourceRecord.{ResourceRecord}
use Rattle.durable_records.specs.Branches.{Grant, grants}
use Rattle.durable_records.specs.UndoRecords.{Undo}
use Rattle.durable_records.specs.RowsKept.{changes}
use Rattle.history_rules.specs.Own.{Left}
use Rattle.history_rules.specs.CoordinatorRules.{xid_of, branch_of}
use Rattle.history_rules.specs.ResourceMemory.{Setup, Open, Memory, boot_over, has_row}
use Rattle.history_rules.specs.Nodes.{World, Past, counted_at}
use Rattle.history_rules.specs.Histories.{Moment, Legal, coordinator_left}
use Rattle.history_law.specs.Points.{In}
use Rattle.history_law.specs.SessionSafety.{session_records}
use Rattle.history_law.specs.Cover.{all_of, memory_of, Says, Covers}
use Rattle.history_law.specs.TicketSafety.{AreNumbered}
use Rattle.history_law.specs.OrderSafety.{LieUnder, HasRow, CommitsIn, IsFreeBefore, AreFreeSinceGrants, FreeLaw, FreeOfChains}
use Rattle.history_law.proofs.Branches.{one_branch, in_all, grant_stays}
use Rattle.history_law.proofs.UndoRecords.{commit_of}
use Rattle.history_law.proofs.CoverHistory.{covers}
use Rattle.history_law.proofs.CoverResource.{in_added, granted_of}
use Rattle.history_law.proofs.CoverChains.{covers_first, chain_covered, shorter_chain}
use Rattle.history_law.proofs.ResourceSteps.{CommitFits, RecordFits, OpenFrom}
use Rattle.history_law.proofs.TicketSteps.{memory_by, next_not_given}
use Rattle.history_law.proofs.ResourceRows.{commit_row, each_memory}
use Rattle.history_law.proofs.RowHistory.{Rows, rows, rows_first, chain_rows}
use Rattle.history_law.proofs.Steps.{ResStep, Keeps, by_entry}

commit_no_boot : (u : Undo) (rs : List ResourceRecord) → commit_of u ≡ boot_over rs → ⊥
commit_no_boot u rs e = cc

-- a branch of resource n, and what held of rows at a point after its grant
module _ (w : World) (past : Past) (n : ℕ) (s : Setup) (is : counted_at w.resources n ≡ Some s) (g : Grant) (at : g.kind ≡ kind.At) (here : g.resource ≡ n) (Held : RowKey → Type 0) where
  abbrev CommitsHold : List ResourceRecord → Type 0
  CommitsHold rs = (u : Undo) → In (commit_of u) rs → u.xid ≡ g.xid → u.branch ≡ g.branch → (key : RowKey) → HasRow u.images u.reads key → Held key

  -- of all rows of its ticket, while it is open, and of those of its local commit
  abbrev pub HoldsOf : Memory → Type 0
  HoldsOf m = ((o : Open) → In o m.opens → o.ticket ≡ g.ticket → (key : RowKey) → has_row key o ≡ true → Held key) × CommitsHold m.left.records × CommitsHold (all_of m.left)

  module _ (ms : List Moment) (m : Moment) (c : Covers w past ms) (r : ResStep w past ms m) (granted : In g (grants (coordinator_left past ms).records)) (mine : r.k ≡ n) where
    abbrev left : Left SessionRecord
    left = coordinator_left past ms

    abbrev before : Memory
    before = memory_of past ms r.k r.s

    abbrev ne : Memory
    ne = memory_by r.s (memory_of past ms r.k r.s) r.event m.now m.step

    open_by : HoldsOf before → (o : Open) → o.ticket ≡ g.ticket → OpenFrom r.s before r.event ne o → (key : RowKey) → has_row key o ≡ true → Held key
    open_by held o e (inl (p, k, ip, eq)) key h = held.0 p ip (sym (ap (λ z. z.ticket) eq) ∙ e) key (subst (λ z. has_row key z ≡ true) eq h)
    open_by held o e (inr new) key h = absurd (next_not_given before g.ticket ((c.at r.k r.s r.known).asked g (in_all left g granted) at (here ∙ sym mine)).given (sym e ∙ new.ticket))

    -- a local commit of the branch is of its ticket
    commit_held : HoldsOf before → (u : Undo) → CommitFits before ne.opens r.event u → u.branch ≡ g.branch → (key : RowKey) → HasRow u.images u.reads key → Held key
    commit_held held u f eb key h =
        let k = granted_of w left (memory_of past ms) ms c r.k r.s r.known r.named r.event (λ from msg e. r.heard (λ p out. Says w (coordinator_left past ms) (memory_of past ms) p out) c.said from msg e) m.now m.step r.moves u f in
        let same : k.grant ≡ g = one_branch left.records c.allowed.0 k.grant g k.there granted (k.number ∙ eb) in
        let row = commit_row u.images u.reads f.open_ticket key f.images f.reads h in
        held.0 f.open_ticket f.there (sym k.ticket ∙ ap (λ z. z.ticket) same) key row

    commits_step : HoldsOf before → (q : ResourceRecord) → RecordFits r.s before ne.opens r.event q → CommitsHold before.left.records → CommitsHold (q ∷ before.left.records)
    commits_step held q f all u (inl e) ex eb key h = commit_held held u (subst (λ z. RecordFits r.s before ne.opens r.event z) (sym e) f) eb key h
    commits_step held q f all u (inr j) ex eb key h = all u j ex eb key h

    commits_boot : (z : List ResourceRecord) → CommitsHold z → CommitsHold (boot_over z ∷ z)
    commits_boot z all u (inl e) ex eb key h = absurd (commit_no_boot u z e)
    commits_boot z all u (inr j) ex eb key h = all u j ex eb key h

    holds_after : HoldsOf before → HoldsOf ne
    holds_after held =
        let k = r.moves.keeps CommitsHold commits_boot (commits_step held) (held.1, held.2) in
        (λ o io e key h. open_by held o e (r.moves.opens_from o io) key h, k.0, k.1)

  -- the branch is granted, and that held
  pub record GrantBy (tc : Left SessionRecord) (mem : ℕ → Setup → Memory) (ms : List Moment) : Type 0 where
    pub granted : In g (grants tc.records)
    pub holds : HoldsOf (mem n s)

  since_keep : Keeps w past GrantBy
  since_keep = record {
    at_tc = λ ms m c i t. record {
      granted = (t.keeps (λ z. In g (grants z)) (λ r f j. grant_stays r (coordinator_left past ms).records g j) (i.granted, in_all (coordinator_left past ms) g i.granted)).0;
      holds = i.holds;
    };
    at_res = λ ms m c i r. record {
      granted = i.granted;
      holds = each_memory w past ms m r (λ j q z. j ≡ n → HoldsOf z) n s is (λ old mine. holds_after ms m c r i.granted mine (old mine)) (λ e. i.holds) refl;
    };
    at_man = λ ms m c i t. record { granted = i.granted; holds = i.holds };
    quiet = λ ms m i e. record { granted = i.granted; holds = i.holds };
  }

  since : AreNumbered w → Covers w past [] → (before later : List Moment) → Legal w past (later ++ before) → GrantBy (coordinator_left past before) (memory_of past before) before
      → GrantBy (coordinator_left past (later ++ before)) (memory_of past (later ++ before)) (later ++ before)
  since numbered start older [] legal i = i
  since numbered start older (m ∷ later) legal i =
      by_entry w past numbered GrantBy since_keep (later ++ older) m legal (covers w past numbered start (later ++ older) legal.0) (since numbered start older later legal.0 i)

-- ---- what is claimed

legal_before : (w : World) (past : Past) (later before : List Moment) → Legal w past (later ++ before) → Legal w past before
legal_before w past [] older legal = legal
legal_before w past (m ∷ later) older legal = legal_before w past later older legal.0

module _ (w : World) (past : Past) (numbered : AreNumbered w) (start : Covers w past []) (first : Rows w past []) (later before : List Moment) (legal : Legal w past (later ++ before))
    (n : ℕ) (s : Setup) (is : counted_at w.resources n ≡ Some s) (g : Grant) (at : g.kind ≡ kind.At) (here : g.resource ≡ n) where
  abbrev Held : RowKey → Type 0
  Held key = LieUnder (session_records past before) g.xid g.branch (changes (memory_of past before n s).left.records key)

  as_commit : (rs : List ResourceRecord) (u : Undo) → In (commit_of u) rs → u.xid ≡ g.xid → u.branch ≡ g.branch → CommitsIn rs g.xid g.branch u.images u.reads
  as_commit rs u j ex eb =
      record { xid = xid_of u.xid; branch = branch_of u.branch; call = u.call; there = j; of = ex; number = eb }

  free_before : IsFreeBefore past later before n s g
  free_before granted none images reads k key h =
      let order = rows w past numbered start first before (legal_before w past later before legal) in
      let opens = λ (o : Open) (j : In o (memory_of past before n s).opens) (e : o.ticket ≡ g.ticket) (q : RowKey) (row : has_row q o ≡ true).
      ((order.unders n s is g (in_all (coordinator_left past before) g granted) at here).named o j e q row).0 in
      let never = λ (u : Undo) (j : In (commit_of u) (all_of (memory_of past before n s).left)) (ex : u.xid ≡ g.xid) (eb : u.branch ≡ g.branch) (q : RowKey) (row : HasRow u.images u.reads q).
      absurd {A = Held q} (none u.images u.reads (as_commit (all_of (memory_of past before n s).left) u j ex eb)) in
      let now : GrantBy w past n s is g at here Held (coordinator_left past before) (memory_of past before) before = record {
        granted = granted;
        holds = (opens, λ u j. never u (in_added (memory_of past before n s).left.flight (memory_of past before n s).left.records (commit_of u) j), never);
      } in
      let then = since w past n s is g at here Held numbered start before later legal now in
      let u : Undo = record { xid = k.xid.0; branch = k.branch.0; call = k.call; images = images; reads = reads } in
      then.holds.2 u k.there k.of k.number key h

free_since : (w : World) (past : Past) → AreNumbered w → Covers w past [] → Rows w past [] → (ms : List Moment) → Legal w past ms → AreFreeSinceGrants w past ms
free_since w past numbered start first ms legal later before e n s is g at here = free_before w past numbered start first later before (subst (Legal w past) e legal) n s is g at here

pub free_law : FreeLaw
free_law w past ms numbered bare legal = free_since w past numbered (covers_first w past bare) (rows_first w past bare) ms legal

pub free_of_chains : FreeOfChains
free_of_chains w [] numbered chain = tt
free_of_chains w ((past, ms) ∷ rest) numbered chain =
    let last = chain_covered w past ms rest numbered chain in
    (free_of_chains w rest numbered (shorter_chain w past ms rest chain), free_since w past numbered last.0 (chain_rows w past ms rest numbered chain) ms last.1)
