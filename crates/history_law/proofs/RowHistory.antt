-- The order of the changes of a row in all legal histories, and in all chains.
use Rattle.std.proofs.Common.{◌≡◌, ℕ, List, [], ◌∷◌, Some, sym, subst}
use Rattle.seata_types.specs.declared.messages.Step.{Step}
use Rattle.seata_types.specs.declared.rows.RowKey.{RowKey}
use Rattle.durable_records.specs.declared.coordinators.SessionRecord.{SessionRecord}
use Rattle.durable_records.specs.declared.resources.ResourceRecord.{ResourceRecord}
use Rattle.durable_records.specs.Branches.{Grant, grants}
use Rattle.durable_records.specs.RowsKept.{changes}
use Rattle.history_rules.specs.Own.{Left}
use Rattle.history_rules.specs.ResourceMemory.{Setup, memory}
use Rattle.history_rules.specs.Nodes.{World, Past, counted_at}
use Rattle.history_rules.specs.Histories.{Moment, Legal, coordinator_left}
use Rattle.history_rules.specs.Chains.{IsChain, MayLeave, IsBlankPast}
use Rattle.history_law.specs.Points.{In}
use Rattle.history_law.specs.Network.{OnSent}
use Rattle.history_law.specs.Cover.{all_of, memory_of, Covers}
use Rattle.history_law.specs.TicketSafety.{AreNumbered}
use Rattle.history_law.specs.OrderSafety.{ArePiled, CommitsLie, UndosFollow, RowsArePiled, RowsStayPiled, RowsLaw, RowsOfChains}
use Rattle.history_law.proofs.Branches.{in_all}
use Rattle.history_law.proofs.CoverHistory.{covers}
use Rattle.history_law.proofs.CoverChains.{of_sessions, of_memory, names_closed, commit_stays, covers_first, at_first, chain_covered, shorter_chain}
use Rattle.history_law.proofs.RowMessages.{SaysRows, manager_rows}
use Rattle.history_law.proofs.Rows.{Unders, PiledAt, CommitsLieAt, UndosFollowAt, RowsBy, piled_on, commits_lie_on, rows_at_tc, rows_at_res}
use Rattle.history_law.proofs.Steps.{Keeps, by_entries}

pub rows_keep : (w : World) (past : Past) → Keeps w past (RowsBy w)
rows_keep w past = record {
  at_tc = λ ms m c i t. rows_at_tc w past ms m c i t;
  at_res = λ ms m c i r. rows_at_res w past ms m c i r;
  at_man = λ ms m c i t. record {
    said = (i.said, manager_rows w (coordinator_left past ms) (memory_of past ms) m.place m.step.sent t.sends);
    unders = i.unders;
    piled = i.piled;
    commits_lie = i.commits_lie;
    undos_follow = i.undos_follow;
  };
  quiet = λ ms m i is. record {
    said = (i.said, subst (λ (step : Step). OnSent (SaysRows w (coordinator_left past ms) (memory_of past ms)) m.place step.sent) (sym is) tt);
    unders = i.unders;
    piled = i.piled;
    commits_lie = i.commits_lie;
    undos_follow = i.undos_follow;
  };
}

abbrev pub Rows : World → Past → List Moment → Type 0
Rows w past ms = RowsBy w (coordinator_left past ms) (memory_of past ms) ms

pub rows : (w : World) (past : Past) → AreNumbered w → Covers w past [] → Rows w past [] → (ms : List Moment) → Legal w past ms → Rows w past ms
rows w past numbered start first ms legal = by_entries w past numbered (RowsBy w) (rows_keep w past) start first ms legal

rows_safe : (w : World) (past : Past) (ms : List Moment) → Rows w past ms → RowsArePiled w past ms
rows_safe w past ms i n s is = record {
  piled = λ key. (i.piled n s is key).0;
  commits_lie = (i.commits_lie n s is).0;
  undos_follow = (i.undos_follow n s is).0;
  open_lie = λ g j at here o k e key h. ((i.unders n s is g (in_all (coordinator_left past ms) g j) at here).named o k e key h).0;
}

rows_stay : (w : World) (past : Past) → AreNumbered w → Covers w past [] → Rows w past [] → (ms : List Moment) → Legal w past ms → RowsStayPiled w past ms
rows_stay w past numbered start first [] legal = rows_safe w past [] first
rows_stay w past numbered start first (m ∷ ms) legal = (rows_stay w past numbered start first ms legal.0, rows_safe w past (m ∷ ms) (rows w past numbered start first (m ∷ ms) legal))

-- ---- disks without records, but for boots

pub rows_first : (w : World) (past : Past) → IsBlankPast past → Rows w past []
rows_first w past blank = record {
  said = tt;
  unders = λ n s is. subst (λ (rs : List SessionRecord). Unders rs rs n (memory s (past.resource n) [])) (sym blank.sessions) (λ g i at here. absurd i);
  piled = λ n s is. subst (λ (rs : List SessionRecord). PiledAt rs (memory s (past.resource n) [])) (sym blank.sessions)
      (λ key. let none = at_first past blank (λ rs. ArePiled [] (changes rs key)) tt (λ rs k. k) n in (none, none));
  commits_lie = λ n s is. subst (λ (rs : List SessionRecord). CommitsLieAt rs (memory s (past.resource n) [])) (sym blank.sessions)
      (let lie = at_first past blank (CommitsLie []) tt (λ rs k. k) n in (lie, lie));
  undos_follow = λ n s is. let follow = at_first past blank UndosFollow tt (λ rs k. k) n in (follow, follow);
}

pub rows_law : RowsLaw
rows_law w past ms numbered bare legal = rows_stay w past numbered (covers_first w past bare) (rows_first w past bare) ms legal

-- ---- chains

module _ (w : World) (past : Past) (ms : List Moment) (next : Past) (numbered : AreNumbered w) (c : Covers w past ms) (i : Rows w past ms) (leaves : MayLeave w past ms next) where
  abbrev tc : Left SessionRecord
  tc = coordinator_left past ms

  grant_was : (g : Grant) → In g (grants next.sessions) → In g (grants (all_of tc))
  grant_was g = of_sessions w past ms next numbered c leaves (λ rs. In g (grants rs) → In g (grants (all_of tc))) (in_all tc g, λ j. j)

  piled_disks : (n : ℕ) (s : Setup) → counted_at w.resources n ≡ Some s → (key : RowKey) → ArePiled next.sessions (changes (memory_of next [] n s).left.records key)
  piled_disks n s is key =
      let p = i.piled n s is key in
      of_memory w past ms next numbered c leaves n s is (λ z. ArePiled next.sessions (changes z key)) (λ z q. q) (
        piled_on tc.records next.sessions (commit_stays w past ms next numbered c leaves) (changes (memory_of past ms n s).left.records key) p.0,
        piled_on tc.records next.sessions (commit_stays w past ms next numbered c leaves) (changes (all_of (memory_of past ms n s).left) key) p.1,
      )

  commits_lie_disks : (n : ℕ) (s : Setup) → counted_at w.resources n ≡ Some s → CommitsLie next.sessions (memory_of next [] n s).left.records
  commits_lie_disks n s is =
      let p = i.commits_lie n s is in
      of_memory w past ms next numbered c leaves n s is (CommitsLie next.sessions) (λ z q. q) (
        commits_lie_on tc.records next.sessions (commit_stays w past ms next numbered c leaves) (memory_of past ms n s).left.records p.0,
        commits_lie_on tc.records next.sessions (commit_stays w past ms next numbered c leaves) (all_of (memory_of past ms n s).left) p.1,
      )

  pub rows_next : Rows w next []
  rows_next = record {
    said = tt;
    unders = λ n s is g j at here. names_closed w past ms next numbered c leaves n s is g.ticket _ _ (i.unders n s is g (grant_was g j) at here);
    piled = λ n s is key. let p = piled_disks n s is key in (p, p);
    commits_lie = λ n s is. let p = commits_lie_disks n s is in (p, p);
    undos_follow = λ n s is. let p = of_memory w past ms next numbered c leaves n s is UndosFollow (λ z q. q) (i.undos_follow n s is) in (p, p);
  }

pub chain_rows : (w : World) (past : Past) (ms : List Moment) (rest : List (Past × List Moment)) → AreNumbered w → IsChain w ((past, ms) ∷ rest) → Rows w past []
chain_rows w past ms [] numbered chain = rows_first w past chain.0
chain_rows w past ms ((before, entries) ∷ rest) numbered chain =
    let earlier = chain_covered w before entries rest numbered chain.0 in
    rows_next w before entries past numbered (covers w before numbered earlier.0 entries earlier.1)
    (rows w before numbered earlier.0 (chain_rows w before entries rest numbered chain.0) entries earlier.1) chain.1

pub rows_of_chains : RowsOfChains
rows_of_chains w [] numbered chain = tt
rows_of_chains w ((past, ms) ∷ rest) numbered chain =
    let last = chain_covered w past ms rest numbered chain in
    (rows_of_chains w rest numbered (shorter_chain w past ms rest chain), rows_stay w past numbered last.0 (chain_rows w past ms rest numbered chain) ms last.1)
