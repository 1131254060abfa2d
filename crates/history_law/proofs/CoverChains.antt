-- Cover goes on from one history of a chain to the next.
use Rattle.std.proofs.Common.{◌≡◌, ◌⊎◌, inl, inr, ◌≤◌, ℕ, zero, suc, true, false, List, [], ◌∷◌, Some, None, refl, sym, subst, ◌∙◌, arith}
use Rattle.seata_types.specs.declared.ids.Place.TheVariants as place
use Rattle.seata_types.specs.declared.ids.Ticket.{Ticket}
use Rattle.seata_types.specs.declared.statuses.BranchKind.TheVariants as kind
use Rattle.durable_records.specs.declared.coordinators.SessionRecord.{SessionRecord}
use Rattle.durable_records.specs.declared.resources.ResourceRecord.{ResourceRecord}
use Rattle.durable_records.specs.declared.resources.ResourceRecord.TheVariants as log
use Rattle.durable_records.specs.Transactions.{decided, is_commit}
use Rattle.durable_records.specs.Branches.{Grant, grants}
use Rattle.durable_records.specs.SessionOrder.{Allowed}
use Rattle.durable_records.specs.UndoRecords.{Undo, boots, undos, undo_of, is_marked}
use Rattle.history_rules.specs.Own.{Left, added}
use Rattle.history_rules.specs.CoordinatorRules.{xid_of, branch_of}
use Rattle.history_rules.specs.ResourceMemory.{Setup, Open, Memory, boot_over, memory}
use Rattle.history_rules.specs.Nodes.{World, Past, MayStand, counted_at}
use Rattle.history_rules.specs.Histories.{Moment, Legal, own, coordinator_left}
use Rattle.history_rules.specs.Chains.{IsChain, MayLeave, IsBlankPast, with_boots}
use Rattle.history_law.specs.Points.{In}
use Rattle.history_law.specs.Tickets.{WasGiven, Names, IsClosed}
use Rattle.history_law.specs.Cover.{all_of, memory_of, IsUndone, MarksHold, Backs, CoversAt, EndsWell, Covers}
use Rattle.history_law.specs.TicketSafety.{AreNumbered, TicketsOfChains}
use Rattle.history_law.proofs.Tests.{false_true, true_false}
use Rattle.history_law.proofs.Branches.{in_all, decided_in_all}
use Rattle.history_law.proofs.TicketSteps.{boots_added}
use Rattle.history_law.proofs.CoverResource.{mark_added, in_added, cleared_boot}
use Rattle.history_law.proofs.CoverHistory.{covers, tickets_law}

-- what holds of the records, and of these with the one in flight, holds of what may stand
pub stood : {R : Type 0} (Q : List R → Type 0) (left : Left R) (rs : List R) → Q left.records × Q (all_of left) → MayStand left rs → Q rs
stood Q left rs both (inl is) = subst Q (sym is) both.0
stood Q left rs both (inr (r, flies, is)) = subst Q (sym is) (subst (λ o. Q (added o left.records)) flies both.1)

-- and after any number of boots, where a boot keeps it
pub on_boots : (Q : List ResourceRecord → Type 0) → ((rs : List ResourceRecord) → Q rs → Q (boot_over rs ∷ rs)) → (n : ℕ) (rs : List ResourceRecord) → Q rs → Q (with_boots n rs)
on_boots Q boot zero rs q = q
on_boots Q boot (suc n) rs q = boot (with_boots n rs) (on_boots Q boot n rs q)

module _ (w : World) (past : Past) (ms : List Moment) (next : Past) (numbered : AreNumbered w) (c : Covers w past ms) (leaves : MayLeave w past ms next) where
  abbrev tc : Left SessionRecord
  tc = coordinator_left past ms

  abbrev tc' : Left SessionRecord
  tc' = coordinator_left next []

  pub of_sessions : (Q : List SessionRecord → Type 0) → Q tc.records × Q (all_of tc) → Q next.sessions
  of_sessions Q both = stood Q tc next.sessions both leaves.coordinator

  grant_was : (g : Grant) → In g (grants next.sessions) → In g (grants (all_of tc))
  grant_was g = of_sessions (λ rs. In g (grants rs) → In g (grants (all_of tc))) (in_all tc g, λ i. i)

  grant_stays : (g : Grant) → In g (grants tc.records) → In g (grants next.sessions)
  grant_stays g = of_sessions (λ rs. In g (grants tc.records) → In g (grants rs)) (λ i. i, in_all tc g)

  pub commit_stays : (x : ℕ) → is_commit (decided tc.records x) ≡ true → is_commit (decided next.sessions x) ≡ true
  commit_stays x = of_sessions (λ rs. is_commit (decided tc.records x) ≡ true → is_commit (decided rs x) ≡ true) (λ e. e, decided_in_all is_commit refl tc c.allowed.1 x)

  module _ (n : ℕ) (s : Setup) (is : counted_at w.resources n ≡ Some s) where
    abbrev m : Memory
    m = memory_of past ms n s

    abbrev m' : Memory
    m' = memory_of next [] n s

    abbrev a : CoversAt tc n m
    a = c.at n s is

    -- what the disks have now, before the boot
    of_disks : (Q : List ResourceRecord → Type 0) → ((rs : List ResourceRecord) → Q rs → Q (boot_over rs ∷ rs)) → Q m.left.records × Q (all_of m.left) → Q (next.resource n)
    of_disks Q boot both =
        let here = leaves.resources n s is in
        let left : Q here.0 = stood Q m.left here.0 both
        (subst (λ q. MayStand (memory s (past.resource q) (own (place.Res q) ms)).left here.0) (numbered n s is) here.2) in
        subst Q (sym here.3) (on_boots Q boot here.1 here.0 left)

    pub of_memory : (Q : List ResourceRecord → Type 0) → ((rs : List ResourceRecord) → Q rs → Q (boot_over rs ∷ rs)) → Q m.left.records × Q (all_of m.left) → Q m'.left.records
    of_memory Q boot both = boot (next.resource n) (of_disks Q boot both)

    more_boots : boots m.left.records ≤ boots (next.resource n)
    more_boots = of_disks (λ rs. boots m.left.records ≤ boots rs) (λ rs e. omega arith) (omega arith, boots_added m.left.flight m.left.records)

    given_before : (t : Ticket) → WasGiven m t → WasGiven m' t
    given_before t g = let b = g.boot in let k = more_boots in record { boot = omega arith; seq = λ e. absurd (omega arith) }

    -- no ticket is open any more
    pub names_closed : (t : Ticket) (P Q : Open → Type 0) → Names m t P → Names m' t Q
    names_closed t P Q names = record { given = given_before t names.given; named = λ o i e. absurd i }

    pub backs_next : (u : Undo) → Backs tc.records n m u → Backs tc'.records n m' u
    backs_next u b = record {
      branch = b.branch;
      granted = grant_stays b.branch b.granted;
      xid = b.xid;
      number = b.number;
      resource = b.resource;
      at = b.at;
      hold = b.hold;
      closed = names_closed b.branch.ticket (λ o. ⊥) (λ o. ⊥) b.closed;
    }

    abbrev AllBacked : List ResourceRecord → Type 0
    AllBacked rs = (u : Undo) → In u (undos rs) → Backs tc'.records n m' u

    abbrev AllCleared : List ResourceRecord → Type 0
    AllCleared rs = (x b : ℕ) → In (log.Cleared (xid_of x) (branch_of b)) rs → is_commit (decided next.sessions x) ≡ true

    boot_cleared : (rs : List ResourceRecord) → AllCleared rs → AllCleared (boot_over rs ∷ rs)
    boot_cleared rs all x b (inl e) = absurd (cleared_boot x b rs e)
    boot_cleared rs all x b (inr i) = all x b i

    either_backed : AllBacked m'.left.records → (u : Undo) → In u (undos m'.left.records) ⊎ In u (undos m'.left.records) → Backs tc'.records n m' u
    either_backed all u (inl i) = all u i
    either_backed all u (inr i) = all u i

    covers_disks : CoversAt tc' n m'
    covers_disks =
        let marks = of_memory MarksHold (λ rs h. h) a.marks in
        let cleared : AllCleared (all_of m.left) = λ x b i. commit_stays x (a.cleared x b i) in
        record {
          tickets = record { given = λ o i. absurd i; distinct = λ o p i j e. absurd i; disjoint = λ o p i j key ho hp. absurd i };
          marks = (marks, marks);
          asked = λ g i at here. names_closed g.ticket _ _ (a.asked g (grant_was g i) at here);
          backed = either_backed (of_memory AllBacked (λ rs all. all) ((λ u i. backs_next u (a.backed u (inl i))), (λ u i. backs_next u (a.backed u (inr i)))));
          cleared = of_memory AllCleared boot_cleared
              ((λ x b i. cleared x b (in_added m.left.flight m.left.records (log.Cleared (xid_of x) (branch_of b)) i)), cleared);
        }

    marked_or_closed : (g : Grant) → (is_marked m.left.records g.xid g.branch ≡ true) ⊎ IsClosed m g.ticket → (is_marked m'.left.records g.xid g.branch ≡ true) ⊎ IsClosed m' g.ticket
    marked_or_closed g (inl marked) =
        inl (of_memory (λ rs. is_marked rs g.xid g.branch ≡ true) (λ rs e. e) (marked, mark_added m.left.flight m.left.records g.xid g.branch marked))
    marked_or_closed g (inr closed) = inr (names_closed g.ticket (λ o. ⊥) (λ o. ⊥) closed)

    undone_next : (g : Grant) → IsUndone m g → IsUndone m' g
    undone_next g undone =
        let none = of_memory (λ rs. undo_of rs g.xid g.branch ≡ None) (λ rs e. e) undone.0 in
        ((none, none), marked_or_closed g undone.1)

  ends_next : (rs : List SessionRecord) → EndsWell w tc (memory_of past ms) rs → EndsWell w tc' (memory_of next []) rs
  ends_next rs ends x b e = by (ends x b e)
    where
      by : (is_commit (decided (coordinator_left past ms).records x) ≡ true)
          ⊎ ((h : Grant) × (In h (grants rs)) × (h.xid ≡ x) × (h.branch ≡ b) × (h.kind ≡ kind.At → (s : Setup) → counted_at w.resources h.resource ≡ Some s → IsUndone (memory_of past ms h.resource s) h))
          → (is_commit (decided next.sessions x) ≡ true)
          ⊎ ((h : Grant) × (In h (grants rs)) × (h.xid ≡ x) × (h.branch ≡ b) × (h.kind ≡ kind.At → (s : Setup) → counted_at w.resources h.resource ≡ Some s → IsUndone (memory_of next [] h.resource s) h))
      by (inl k) = inl (commit_stays x k)
      by (inr f) = inr (f.0, f.1, f.2, f.3, λ k s is. undone_next f.0.resource s is f.0 (f.4 k s is))

  -- what the disks may have is covered
  pub covers_next : Covers w next []
  covers_next =
      let allowed = of_sessions Allowed c.allowed in
      let ended = of_sessions (EndsWell w tc' (memory_of next [])) (ends_next tc.records c.ended.0, ends_next (all_of tc) c.ended.1) in
      record { allowed = (allowed, allowed); at = λ n s is. covers_disks n s is; ended = (ended, ended); said = tt }

-- ---- disks without records, but for boots

-- what holds of no records, and of one boot more, holds of what the disks had first
pub at_first : (past : Past) → IsBlankPast past → (Q : List ResourceRecord → Type 0) → Q [] → ((rs : List ResourceRecord) → Q rs → Q (boot_over rs ∷ rs)) → (n : ℕ) → Q (past.resource n)
at_first past blank Q none boot n = let b = blank.resources n in subst Q (sym b.1) (on_boots Q boot b.0 [] none)

first_covers : (n : ℕ) (s : Setup) (rs : List ResourceRecord) → undos rs ≡ [] → ((x b : ℕ) → is_marked rs x b ≡ false)
    → ((x b : ℕ) → In (log.Cleared (xid_of x) (branch_of b)) rs → ⊥) → CoversAt (record { records = []; flight = None }) n (memory s rs [])
first_covers n s rs none unmarked uncleared = record {
  tickets = record { given = λ o i. absurd i; distinct = λ o p i j e. absurd i; disjoint = λ o p i j key ho hp. absurd i };
  marks = (λ x b e. true_false (sym e ∙ unmarked x b), λ x b e. true_false (sym e ∙ unmarked x b));
  asked = λ g i at here. absurd i;
  backed = λ u i. by u i;
  cleared = λ x b i. cleared x b i;
}
  where
    by : (u : Undo) → In u (undos (boot_over rs ∷ rs)) ⊎ In u (undos (boot_over rs ∷ rs)) → Backs [] n (memory s rs []) u
    by u (inl i) = absurd (subst (In u) none i)
    by u (inr i) = absurd (subst (In u) none i)

    cleared : (x b : ℕ) → In (log.Cleared (xid_of x) (branch_of b)) (boot_over rs ∷ rs) → is_commit (decided [] x) ≡ true
    cleared x b (inl e) = absurd (cleared_boot x b rs e)
    cleared x b (inr i) = absurd (uncleared x b i)

pub covers_first : (w : World) (past : Past) → IsBlankPast past → Covers w past []
covers_first w past blank = record {
  allowed = subst (λ (rs : List SessionRecord). Allowed rs × Allowed rs) (sym blank.sessions) (tt, tt);
  at = λ n s is. subst (λ (rs : List SessionRecord). CoversAt (record { records = rs; flight = None }) n (memory s (past.resource n) [])) (sym blank.sessions)
      (first_covers n s (past.resource n) (at_first past blank (λ rs. undos rs ≡ []) refl (λ rs e. e) n)
      (λ x b. at_first past blank (λ rs. is_marked rs x b ≡ false) refl (λ rs e. e) n) (λ x b. at_first past blank (λ rs. In (log.Cleared (xid_of x) (branch_of b)) rs → ⊥) (λ i. i) (uncleared_boot x b) n));
  ended = subst (λ (rs : List SessionRecord). EndsWell w (record { records = rs; flight = None }) (memory_of past []) rs × EndsWell w (record { records = rs; flight = None }) (memory_of past []) rs) (sym blank.sessions)
      (λ x b e. false_true e, λ x b e. false_true e);
  said = tt;
}
  where
    uncleared_boot : (x b : ℕ) (rs : List ResourceRecord) → (In (log.Cleared (xid_of x) (branch_of b)) rs → ⊥) → In (log.Cleared (xid_of x) (branch_of b)) (boot_over rs ∷ rs) → ⊥
    uncleared_boot x b rs none (inl e) = cleared_boot x b rs e
    uncleared_boot x b rs none (inr i) = none i

-- ---- chains

pub chain_covered : (w : World) (past : Past) (ms : List Moment) (rest : List (Past × List Moment)) → AreNumbered w → IsChain w ((past, ms) ∷ rest) → Covers w past [] × Legal w past ms
chain_covered w past ms [] numbered chain = (covers_first w past chain.0, chain.1)
chain_covered w past ms ((before, entries) ∷ rest) numbered chain =
    let earlier = chain_covered w before entries rest numbered chain.0 in
    (covers_next w before entries past numbered (covers w before numbered earlier.0 entries earlier.1) chain.1, chain.2)

pub shorter_chain : (w : World) (past : Past) (ms : List Moment) (rest : List (Past × List Moment)) → IsChain w ((past, ms) ∷ rest) → IsChain w rest
shorter_chain w past ms [] chain = tt
shorter_chain w past ms ((before, entries) ∷ rest) chain = chain.0

pub tickets_of_chains : TicketsOfChains
tickets_of_chains w [] numbered chain = tt
tickets_of_chains w ((past, ms) ∷ rest) numbered chain =
    let last = chain_covered w past ms rest numbered chain in
    (tickets_of_chains w rest numbered (shorter_chain w past ms rest chain), tickets_law w past ms numbered last.0 last.1)
