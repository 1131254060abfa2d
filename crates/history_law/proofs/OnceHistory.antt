-- The work of calls stands once in all legal histories over disks without records, and in all chains.
use Rattle.std.proofs.Common.{◌≡◌, ◌+◌, ◌==◌, ℕ, Bool, true, false, if◌then◌else◌, List, [], ◌∷◌, Some, refl, ap, sym, subst, ◌∙◌, arith}
use Rattle.std.specs.Prelude.{slice_get}
use Rattle.seata_types.specs.declared.statements.Work.{Work}
use Rattle.seata_types.specs.declared.statuses.BranchKind.{BranchKind}
use Rattle.seata_types.specs.declared.statuses.BranchKind.TheVariants as kind
use Rattle.durable_records.specs.declared.coordinators.SessionRecord.{SessionRecord}
use Rattle.durable_records.specs.declared.resources.ResourceRecord.{ResourceRecord}
use Rattle.durable_records.specs.declared.resources.ResourceRecord.TheVariants as log
use Rattle.history_rules.specs.Own.{Left}
use Rattle.history_rules.specs.ResourceMemory.{Setup, Memory, memory}
use Rattle.history_rules.specs.Nodes.{World, Past, counted_at}
use Rattle.history_rules.specs.Histories.{Moment, Legal, coordinator_left}
use Rattle.history_rules.specs.Chains.{IsChain, MayLeave, IsBlankPast}
use Rattle.history_law.specs.Points.{In}
use Rattle.history_law.specs.Tickets.{kind_of}
use Rattle.history_law.specs.Cover.{memory_of, Covers}
use Rattle.history_law.specs.TicketSafety.{AreNumbered}
use Rattle.history_law.specs.EndingSafety.{how_many}
use Rattle.history_law.specs.WorkSafety.{IsWork, HasWorked}
use Rattle.history_law.specs.CallSafety.{IsCallOf, OwnWorked}
use Rattle.history_law.specs.OnceSafety.{is_work, WorkedOnce, WorksAreOnce, WorksStayOnce, OnceLaw, OnceOfChains}
use Rattle.history_law.proofs.Tests.{false_true, true_false, and_left, and_right, and_both, same_nat, nat_same}
use Rattle.history_law.proofs.FenceRecords.{none_passes}
use Rattle.history_law.proofs.CoverHistory.{covers}
use Rattle.history_law.proofs.CoverChains.{of_memory, covers_first, at_first, chain_covered, shorter_chain}
use Rattle.history_law.proofs.CallBranches.{slot_low, same_call}
use Rattle.history_law.proofs.Calls.{WorkIs}
use Rattle.history_law.proofs.CallHistory.{FencedCalls, calls_keep, calls_first, calls_next}
use Rattle.history_law.proofs.ResourceRows.{each_memory}
use Rattle.history_law.proofs.WorkOnce.{AreOnce, OnceAt, at_most_once, just_once, boot_once, once_at_tc, once_at_res}
use Rattle.history_law.proofs.Steps.{Keeps, by_entries}

-- ---- the induction

pub record OnceBy (w : World) (tc : Left SessionRecord) (mem : ℕ → Setup → Memory) (ms : List Moment) : Type 0 where
  pub calls : FencedCalls w tc mem ms
  pub at : (n : ℕ) (s : Setup) → counted_at w.resources n ≡ Some s → OnceAt tc n (mem n s)

once_keep : (w : World) (past : Past) → Keeps w past (OnceBy w)
once_keep w past = record {
  at_tc = λ ms m c i t. record {
    calls = (calls_keep w past).at_tc ms m c i.calls t;
    at = λ n s is. once_at_tc w past ms m c t n s is (i.at n s is);
  };
  at_res = λ ms m c i r. record {
    calls = (calls_keep w past).at_res ms m c i.calls r;
    at = λ n s is. each_memory w past ms m r (λ j q z. OnceAt (coordinator_left past ms) j z) n s is (λ old. once_at_res w past ms m c i.calls.calls r old) (i.at n s is);
  };
  at_man = λ ms m c i t. record { calls = (calls_keep w past).at_man ms m c i.calls t; at = i.at };
  quiet = λ ms m i is. record { calls = (calls_keep w past).quiet ms m i.calls is; at = i.at };
}

abbrev pub Onces : World → Past → List Moment → Type 0
Onces w past ms = OnceBy w (coordinator_left past ms) (memory_of past ms) ms

pub onces : (w : World) (past : Past) → AreNumbered w → Covers w past [] → Onces w past [] → (ms : List Moment) → Legal w past ms → Onces w past ms
onces w past numbered start first ms legal = by_entries w past numbered (OnceBy w) (once_keep w past) start first ms legal

-- ---- disks without records

first_once : (past : Past) → IsBlankPast past → (tc : Left SessionRecord) (n : ℕ) (s : Setup) → OnceAt tc n (memory s (past.resource n) [])
first_once past blank tc n s =
    let once = boot_once (past.resource n) (at_first past blank AreOnce tt boot_once n) in
    record { once = (once, once); late = λ o i. absurd i; alone = λ o p i j x c oo op. absurd i }

pub onces_first : (w : World) (past : Past) → IsBlankPast past → Onces w past []
onces_first w past bare = record {
  calls = calls_first w past bare;
  at = λ n s is. first_once past bare (coordinator_left past []) n s;
}

-- ---- a call of a committed transaction

work_passes : (x c b : ℕ) (q : ResourceRecord) → IsWork x c b q → is_work x c q ≡ true
work_passes x c b (log.Committed xid branch call images reads) k = and_both (xid.0 == x) (call == c) (nat_same xid.0 x k.0) (nat_same call c k.1)
work_passes x c b (log.Tried xid branch call images) k = and_both (xid.0 == x) (call == c) (nat_same xid.0 x k.0) (nat_same call c k.1)
work_passes x c b _ k = absurd k

module _ (w : World) (past : Past) (ms : List Moment) (c : Covers w past ms) (i : Onces w past ms) where
  abbrev sessions_here : List SessionRecord
  sessions_here = (coordinator_left past ms).records

  -- the work of a call is at its resource
  work_call : (x d n : ℕ) (q : ResourceRecord) → is_work x d q ≡ true → WorkIs w sessions_here n q → (k : BranchKind) × IsCallOf w sessions_here x d n k
  work_call x d n (log.Committed xid branch call images reads) t is = (
    kind.At,
    subst (λ z. IsCallOf w sessions_here z d n kind.At) (same_nat xid.0 x (and_left (xid.0 == x) (call == d) t))
        (subst (λ z. IsCallOf w sessions_here xid.0 z n kind.At) (same_nat call d (and_right (xid.0 == x) (call == d) t)) is),
  )
  work_call x d n (log.Tried xid branch call images) t f =
      let of = i.calls.calls.granted.0 f.branch f.granted in
      let here = subst (λ z. IsCallOf w sessions_here f.branch.xid f.branch.call z f.branch.kind) f.resource of in
      let mine = subst (λ z. IsCallOf w sessions_here z f.branch.call n f.branch.kind) (f.xid ∙ same_nat xid.0 x (and_left (xid.0 == x) (call == d) t)) here in
      (f.branch.kind, subst (λ z. IsCallOf w sessions_here x z n f.branch.kind) (f.call ∙ same_nat call d (and_right (xid.0 == x) (call == d) t)) mine)
  work_call x d n _ t is = false_true t

  module _ (x : ℕ) (own : OwnWorked w sessions_here (memory_of past ms) x) (before r : ℕ) (wk : Work) (slot : slice_get own.all.settings.calls before ≡ Some (r, wk)) where
    this_call : IsCallOf w sessions_here x (before + 1) r (kind_of wk)
    this_call = record { manager = own.all.manager; owns = own.owns; settings = own.all.settings; known = own.all.known; before = before; index = refl; work = wk; is = slot; of_kind = refl }

    -- a record of its work stands at its resource alone
    placed : (n : ℕ) (s : Setup) → counted_at w.resources n ≡ Some s → (q : ResourceRecord) → In q (memory_of past ms n s).left.records → is_work x (before + 1) q ≡ true → n ≡ r
    placed n s is q j t =
        let k = work_call x (before + 1) n q t ((i.calls.calls.at n s is).works.0 q j) in
        (same_call w sessions_here c.allowed.0 x (before + 1) n r k.0 (kind_of wk) k.1 this_call).0

    worked : (b : ℕ) × HasWorked w (memory_of past ms) x (before + 1) b
    worked = own.all.worked (before + 1) (omega arith) (let k = slot_low own.all.settings.calls before (r, wk) slot in omega arith)

    at_place : worked.1.number ≡ r
    at_place = placed worked.1.number worked.1.setup worked.1.known worked.1.work worked.1.stands (work_passes x (before + 1) worked.0 worked.1.work worked.1.is)

    one_setup : (p q : Setup) → Some p ≡ Some q → p ≡ q
    one_setup p q e = cc

    counted : (n : ℕ) (s : Setup) → counted_at w.resources n ≡ Some s → (b : Bool) → (n == r) ≡ b → how_many (is_work x (before + 1)) (memory_of past ms n s).left.records ≡ (if b then 1 else 0)
    counted n s is true e =
        let here : worked.1.number ≡ n = at_place ∙ sym (same_nat n r e) in
        let setup : worked.1.setup ≡ s = one_setup worked.1.setup s (sym worked.1.known ∙ ap (counted_at w.resources) here ∙ is) in
        let there : In worked.1.work (memory_of past ms n s).left.records =
        subst (λ (z : Setup). In worked.1.work (memory_of past ms n z).left.records) setup (subst (λ z. In worked.1.work (memory_of past ms z worked.1.setup).left.records) here worked.1.stands) in
        just_once (memory_of past ms n s).left.records (i.at n s is).once.0 x (before + 1) worked.1.work there (work_passes x (before + 1) worked.0 worked.1.work worked.1.is)
    counted n s is false e = none_passes (is_work x (before + 1)) (memory_of past ms n s).left.records (λ q j. by q j (is_work x (before + 1) q) refl)
      where
        by : (q : ResourceRecord) → In q (memory_of past ms n s).left.records → (t : Bool) → is_work x (before + 1) q ≡ t → t ≡ false
        by q j false t = refl
        by q j true t = true_false (sym (nat_same n r (placed n s is q j t)) ∙ e)

    stands : (s : Setup) × (counted_at w.resources r ≡ Some s)
    stands = (worked.1.setup, ap (counted_at w.resources) (sym at_place) ∙ worked.1.known)

  worked_once : (x : ℕ) → OwnWorked w sessions_here (memory_of past ms) x → WorkedOnce w sessions_here (memory_of past ms) x
  worked_once x own = record {
    manager = own.all.manager;
    owns = own.owns;
    settings = own.all.settings;
    known = own.all.known;
    once = λ before r wk slot n s is. counted x own before r wk slot n s is (n == r) refl;
    stands = λ before r wk slot. stands x own before r wk slot;
  }

  pub once_safe : WorksAreOnce w past ms
  once_safe = record {
    at_most = λ n s is x d. at_most_once (memory_of past ms n s).left.records (i.at n s is).once.0 x d;
    committed = λ x e. worked_once x (i.calls.calls.committed.0 x e);
  }

-- ---- what is claimed

pub once_stays : (w : World) (past : Past) → AreNumbered w → Covers w past [] → Onces w past [] → (ms : List Moment) → Legal w past ms → WorksStayOnce w past ms
once_stays w past numbered start first [] legal = once_safe w past [] start first
once_stays w past numbered start first (m ∷ ms) legal =
    (once_stays w past numbered start first ms legal.0, once_safe w past (m ∷ ms) (covers w past numbered start (m ∷ ms) legal) (onces w past numbered start first (m ∷ ms) legal))

pub once_law : OnceLaw
once_law w past ms numbered bare legal = once_stays w past numbered (covers_first w past bare) (onces_first w past bare) ms legal

-- ---- chains

module _ (w : World) (past : Past) (ms : List Moment) (next : Past) (numbered : AreNumbered w) (c : Covers w past ms) (i : Onces w past ms) (leaves : MayLeave w past ms next) where
  once_disks : (n : ℕ) (s : Setup) → counted_at w.resources n ≡ Some s → OnceAt (coordinator_left next []) n (memory_of next [] n s)
  once_disks n s is =
      let once = of_memory w past ms next numbered c leaves n s is AreOnce boot_once (i.at n s is).once in
      record { once = (once, once); late = λ o j. absurd j; alone = λ o p j k x d oo op. absurd j }

  onces_next : Onces w next []
  onces_next = record { calls = calls_next w past ms next numbered c i.calls leaves; at = once_disks }

pub chain_onces : (w : World) (past : Past) (ms : List Moment) (rest : List (Past × List Moment)) → AreNumbered w → IsChain w ((past, ms) ∷ rest) → Onces w past []
chain_onces w past ms [] numbered chain = onces_first w past chain.0
chain_onces w past ms ((before, entries) ∷ rest) numbered chain =
    let earlier = chain_covered w before entries rest numbered chain.0 in
    onces_next w before entries past numbered (covers w before numbered earlier.0 entries earlier.1)
    (onces w before numbered earlier.0 (chain_onces w before entries rest numbered chain.0) entries earlier.1) chain.1

pub once_of_chains : OnceOfChains
once_of_chains w [] numbered chain = tt
once_of_chains w ((past, ms) ∷ rest) numbered chain =
    let last = chain_covered w past ms rest numbered chain in
    (once_of_chains w rest numbered (shorter_chain w past ms rest chain), once_stays w past numbered last.0 (chain_onces w past ms rest numbered chain) ms last.1)
