-- Calls and fences in all legal histories over disks without records.
use Rattle.std.proofs.Common.{◌≡◌, inl, inr, ℕ, List, [], ◌∷◌, Some, ap, sym, subst, ◌∙◌}
use Rattle.seata_types.specs.declared.acts.Act.TheVariants as act
use Rattle.seata_types.specs.declared.ids.BranchId.{BranchId}
use Rattle.seata_types.specs.declared.ids.Place.{Place}
use Rattle.seata_types.specs.declared.ids.Place.TheVariants as place
use Rattle.seata_types.specs.declared.ids.Xid.{Xid}
use Rattle.seata_types.specs.declared.messages.Step.{Step}
use Rattle.durable_records.specs.declared.coordinators.SessionRecord.{SessionRecord}
use Rattle.durable_records.specs.declared.resources.ResourceRecord.{ResourceRecord}
use Rattle.history_rules.specs.Own.{Left}
use Rattle.durable_records.specs.Transactions.{sessions}
use Rattle.durable_records.specs.Branches.{grants}
use Rattle.seata_types.specs.declared.ids.Ticket.{Ticket}
use Rattle.history_rules.specs.ResourceMemory.{Setup, Open, Memory, boot_over, memory}
use Rattle.history_law.specs.Tickets.{Names}
use Rattle.history_law.proofs.Branches.{in_all}
use Rattle.history_rules.specs.Nodes.{World, Past, counted_at}
use Rattle.history_rules.specs.Histories.{Moment, Legal, coordinator_left}
use Rattle.history_rules.specs.Chains.{IsChain, MayLeave, IsBlankPast}
use Rattle.history_law.specs.Points.{In}
use Rattle.history_law.specs.Network.{OnSent}
use Rattle.history_law.specs.Cover.{all_of, memory_of, Covers}
use Rattle.history_law.specs.TicketSafety.{AreNumbered}
use Rattle.history_law.specs.CallSafety.{CallsAreSafe, CallsStaySafe, CallsLaw, CallsOfChains, NoneIsUnfenced, UnfencedLaw, UnfencedOfChains}
use Rattle.history_law.proofs.Tests.{false_true}
use Rattle.history_law.proofs.CoverHistory.{covers}
use Rattle.history_law.proofs.CoverChains.{of_sessions, of_memory, names_closed, covers_first, at_first, chain_covered, shorter_chain}
use Rattle.history_law.proofs.EndingHistory.{endings_keep, endings_first, endings_next}
use Rattle.history_law.proofs.Works.{works_keep, works_first, disks_stay, works_next}
use Rattle.history_law.proofs.Steps.{Keeps, by_entries}
use Rattle.history_law.proofs.CallBranches.{session_in_all, one_tcc}
use Rattle.history_law.proofs.Calls.{WorkIs, WorksAre, CallsAt, SaysCalls, AreCalls, OwnCommits, CallsBy, CallsGrow, work_on, calls_on, commits_on, calls_at_tc, calls_at_man}
use Rattle.history_law.proofs.CallResources.{calls_at_res, none_unfenced}

-- ---- the induction

tc_not_res : (k : ℕ) (p : Place) → p ≡ place.Tc → p ≡ place.Res k → ⊥
tc_not_res k p e f = other (sym e ∙ f)
  where
    other : place.Tc ≡ place.Res k → ⊥
    other e = cc

man_not_res : (j k : ℕ) (p : Place) → p ≡ place.Man j → p ≡ place.Res k → ⊥
man_not_res j k p e f = other (sym e ∙ f)
  where
    other : place.Man j ≡ place.Res k → ⊥
    other e = cc

nothing_fenced : (xid : Xid) (b : BranchId) → act.Nothing ≡ act.Unfenced xid b → ⊥
nothing_fenced xid b e = cc

-- calls, and no fence that refused
pub record FencedCalls (w : World) (tc : Left SessionRecord) (mem : ℕ → Setup → Memory) (ms : List Moment) : Type 0 where
  pub calls : CallsBy w tc mem ms
  pub none : NoneIsUnfenced ms

module _ (w : World) (past : Past) where
  pub calls_keep : Keeps w past (FencedCalls w)
  calls_keep = record {
    at_tc = λ ms m c i t. record {
      calls = calls_at_tc w past ms m c i.calls t;
      none = (i.none, λ k xid b at did. tc_not_res k m.place t.at at);
    };
    at_res = λ ms m c i r. record {
      calls = calls_at_res w past ms m c i.calls r;
      none = (i.none, λ k xid b at did. none_unfenced w past ms m c i.calls r xid b did);
    };
    at_man = λ ms m c i t. record {
      calls = calls_at_man w past ms m c i.calls t;
      none = (i.none, λ k xid b at did. man_not_res t.k k m.place t.at at);
    };
    quiet = λ ms m i is. record {
      calls = record {
        ends = (endings_keep w past).quiet ms m i.calls.ends is;
        works = (works_keep w past).quiet ms m i.calls.works is;
        said = (
          i.calls.said,
          subst (λ (step : Step). OnSent (SaysCalls w (coordinator_left past ms).records (memory_of past ms)) m.place step.sent) (sym is) tt,
        );
        at = i.calls.at;
        granted = i.calls.granted;
        committed = i.calls.committed;
      };
      none = (i.none, λ k xid b at did. nothing_fenced xid b (sym (ap (λ (step : Step). step.act) is) ∙ did));
    };
  }

abbrev pub Calls : World → Past → List Moment → Type 0
Calls w past ms = FencedCalls w (coordinator_left past ms) (memory_of past ms) ms

pub calls : (w : World) (past : Past) → AreNumbered w → Covers w past [] → Calls w past [] → (ms : List Moment) → Legal w past ms → Calls w past ms
calls w past numbered start first ms legal = by_entries w past numbered (FencedCalls w) (calls_keep w past) start first ms legal

-- ---- disks without records

works_boot : (w : World) (rs : List SessionRecord) (n : ℕ) (all : List ResourceRecord) → WorksAre w rs n all → WorksAre w rs n (boot_over all ∷ all)
works_boot w rs n all works q (inl is) = subst (λ z. WorkIs w rs n z) (sym is) tt
works_boot w rs n all works q (inr i) = works q i

first_calls : (w : World) (past : Past) → IsBlankPast past → (n : ℕ) (s : Setup) → CallsAt w [] n (memory s (past.resource n) [])
first_calls w past blank n s =
    let works = works_boot w [] n (past.resource n) (at_first past blank (WorksAre w [] n) (λ q i. absurd i) (works_boot w [] n) n) in
    record { opens = λ o i. absurd i; works = (works, works) }

pub calls_first : (w : World) (past : Past) → IsBlankPast past → Calls w past []
calls_first w past bare = record {
  calls = record {
    ends = endings_first w past bare;
    works = works_first w past bare;
    said = tt;
    at = λ n s is. subst (λ (rs : List SessionRecord). CallsAt w rs n (memory s (past.resource n) [])) (sym bare.sessions)
        (first_calls w past bare n s);
    granted = subst (λ (rs : List SessionRecord). AreCalls w rs rs × AreCalls w rs rs) (sym bare.sessions) (λ g i. absurd i, λ g i. absurd i);
    committed = subst (λ (rs : List SessionRecord). OwnCommits w rs (memory_of past []) rs × OwnCommits w rs (memory_of past []) rs) (sym bare.sessions)
        (λ x e. false_true e, λ x e. false_true e);
  };
  none = tt;
}

-- ---- what is claimed

calls_safe : (w : World) (past : Past) (ms : List Moment) → Covers w past ms → Calls w past ms → CallsAreSafe w past ms
calls_safe w past ms c i = record {
  of_calls = i.calls.granted.0;
  one_tcc = one_tcc (coordinator_left past ms).records c.allowed.0;
  worked = i.calls.committed.0;
}

pub calls_stay : (w : World) (past : Past) → AreNumbered w → Covers w past [] → Calls w past [] → (ms : List Moment) → Legal w past ms → CallsStaySafe w past ms
calls_stay w past numbered start first [] legal = calls_safe w past [] start first
calls_stay w past numbered start first (m ∷ ms) legal =
    (calls_stay w past numbered start first ms legal.0, calls_safe w past (m ∷ ms) (covers w past numbered start (m ∷ ms) legal) (calls w past numbered start first (m ∷ ms) legal))

pub calls_law : CallsLaw
calls_law w past ms numbered bare legal = calls_stay w past numbered (covers_first w past bare) (calls_first w past bare) ms legal

pub unfenced_law : UnfencedLaw
unfenced_law w past ms numbered bare legal = (calls w past numbered (covers_first w past bare) (calls_first w past bare) ms legal).none

-- ---- chains

module _ (w : World) (past : Past) (ms : List Moment) (next : Past) (numbered : AreNumbered w) (c : Covers w past ms) (i : Calls w past ms) (leaves : MayLeave w past ms next) where
  abbrev tc : Left SessionRecord
  tc = coordinator_left past ms

  -- no ticket is open any more
  names_next : (n : ℕ) (s : Setup) → counted_at w.resources n ≡ Some s → (t : Ticket) (P : Open → Type 0) → Names (memory_of past ms n s) t P → Names (memory_of next [] n s) t P
  names_next n s is t P names = names_closed w past ms next numbered c leaves n s is t P P names

  next_grown : CallsGrow w tc.records (memory_of past ms) next.sessions (memory_of next [])
  next_grown = record {
    sessions_stay = λ s. of_sessions w past ms next numbered c leaves (λ rs. In s (sessions tc.records) → In s (sessions rs)) (λ j. j, session_in_all tc s);
    grants_stay = λ g. of_sessions w past ms next numbered c leaves (λ rs. In g (grants tc.records) → In g (grants rs)) (λ j. j, in_all tc g);
    names_stay = λ n s is t P steady names. names_next n s is t P names;
    records_stay = λ n s is r j. disks_stay w past ms next numbered c i.calls.works leaves n s is r j;
  }

  works_kept : (n : ℕ) (rs : List ResourceRecord) → WorksAre w tc.records n rs → WorksAre w next.sessions n rs
  works_kept n rs all q j = work_on w tc.records (memory_of past ms) next.sessions (memory_of next []) next_grown n q (all q j)

  calls_disks : (n : ℕ) (s : Setup) → counted_at w.resources n ≡ Some s → CallsAt w next.sessions n (memory_of next [] n s)
  calls_disks n s is =
      let a = i.calls.at n s is in
      let works = of_memory w past ms next numbered c leaves n s is (WorksAre w next.sessions n) (λ rs all. works_boot w next.sessions n rs all)
      (works_kept n (memory_of past ms n s).left.records a.works.0, works_kept n (all_of (memory_of past ms n s).left) a.works.1) in
      record { opens = λ o j. absurd j; works = (works, works) }

  pub calls_next : Calls w next []
  calls_next =
      let granted = of_sessions w past ms next numbered c leaves (AreCalls w next.sessions) (
        calls_on w tc.records (memory_of past ms) next.sessions (memory_of next []) next_grown tc.records i.calls.granted.0,
        calls_on w tc.records (memory_of past ms) next.sessions (memory_of next []) next_grown (all_of tc) i.calls.granted.1,
      ) in
      let committed = of_sessions w past ms next numbered c leaves (OwnCommits w next.sessions (memory_of next [])) (
        commits_on w tc.records (memory_of past ms) next.sessions (memory_of next []) next_grown tc.records i.calls.committed.0,
        commits_on w tc.records (memory_of past ms) next.sessions (memory_of next []) next_grown (all_of tc) i.calls.committed.1,
      ) in
      record {
        calls = record {
          ends = endings_next w past ms next numbered c i.calls.ends leaves;
          works = works_next w past ms next numbered c i.calls.works leaves;
          said = tt;
          at = λ n s is. calls_disks n s is;
          granted = (granted, granted);
          committed = (committed, committed);
        };
        none = tt;
      }

pub chain_calls : (w : World) (past : Past) (ms : List Moment) (rest : List (Past × List Moment)) → AreNumbered w → IsChain w ((past, ms) ∷ rest) → Calls w past []
chain_calls w past ms [] numbered chain = calls_first w past chain.0
chain_calls w past ms ((before, entries) ∷ rest) numbered chain =
    let earlier = chain_covered w before entries rest numbered chain.0 in
    calls_next w before entries past numbered (covers w before numbered earlier.0 entries earlier.1)
    (calls w before numbered earlier.0 (chain_calls w before entries rest numbered chain.0) entries earlier.1) chain.1

pub calls_of_chains : CallsOfChains
calls_of_chains w [] numbered chain = tt
calls_of_chains w ((past, ms) ∷ rest) numbered chain =
    let last = chain_covered w past ms rest numbered chain in
    (calls_of_chains w rest numbered (shorter_chain w past ms rest chain), calls_stay w past numbered last.0 (chain_calls w past ms rest numbered chain) ms last.1)

pub unfenced_of_chains : UnfencedOfChains
unfenced_of_chains w [] numbered chain = tt
unfenced_of_chains w ((past, ms) ∷ rest) numbered chain =
    let last = chain_covered w past ms rest numbered chain in
    (unfenced_of_chains w rest numbered (shorter_chain w past ms rest chain), (calls w past numbered last.0 (chain_calls w past ms rest numbered chain) ms last.1).none)
