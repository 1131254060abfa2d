-- The records of branches in all legal histories, and in all chains: each is of a branch that was granted to its resource, and of its mode.
use Rattle.std.proofs.Common.{◌≡◌, inl, inr, ℕ, List, [], ◌∷◌, Option, Some, None, ap, sym, subst, ◌∙◌}
use Rattle.seata_types.specs.declared.ids.Place.{Place}
use Rattle.seata_types.specs.declared.ids.Place.TheVariants as place
use Rattle.seata_types.specs.declared.messages.Input.TheVariants as input
use Rattle.seata_types.specs.declared.messages.Message.{Message}
use Rattle.seata_types.specs.declared.messages.Message.TheVariants as message
use Rattle.seata_types.specs.declared.statuses.BranchKind.{BranchKind}
use Rattle.seata_types.specs.declared.statuses.BranchKind.TheVariants as kind
use Rattle.durable_records.specs.declared.coordinators.SessionRecord.{SessionRecord}
use Rattle.durable_records.specs.declared.resources.ResourceRecord.{ResourceRecord}
use Rattle.durable_records.specs.declared.resources.ResourceRecord.TheVariants as log
use Rattle.durable_records.specs.Branches.{Grant, grants}
use Rattle.durable_records.specs.UndoRecords.{Undo}
use Rattle.history_rules.specs.Own.{Given, Left}
use Rattle.history_rules.specs.CoordinatorRules.{xid_of, branch_of}
use Rattle.history_rules.specs.ResourceMemory.{Setup, Memory, boot_over}
use Rattle.history_rules.specs.Nodes.{World, Past, counted_at}
use Rattle.history_rules.specs.Histories.{Moment, Legal, coordinator_left}
use Rattle.history_rules.specs.Chains.{IsChain, MayLeave, IsBlankPast}
use Rattle.history_law.specs.Points.{In}
use Rattle.history_law.specs.Cover.{all_of, memory_of, BranchSaid, SaysIn, Says, Covers}
use Rattle.history_law.specs.TicketSafety.{AreNumbered}
use Rattle.history_law.specs.BranchSafety.{branch_in, IsBranchAt, AreOfBranches, StandsAlone, RecordsAreOfBranches, RecordsStayOfBranches, BranchesLaw, BranchesOfChains}
use Rattle.history_law.proofs.Branches.{grant_stays, one_branch, in_all}
use Rattle.history_law.proofs.CoverHistory.{covers}
use Rattle.history_law.proofs.CoverChains.{of_sessions, of_memory, covers_first, at_first, chain_covered, shorter_chain}
use Rattle.history_law.proofs.CoverResource.{one_number}
use Rattle.history_law.proofs.ResourceFits.{IsCommit, IsRollback}
use Rattle.history_law.proofs.ResourceSteps.{RecordFits}
use Rattle.history_law.proofs.TicketSteps.{memory_by}
use Rattle.history_law.proofs.ResourceRows.{each_memory}
use Rattle.history_law.proofs.Endings.{AllEver}
use Rattle.history_law.proofs.Calls.{WorksAre}
use Rattle.history_law.proofs.CallHistory.{FencedCalls, calls_keep, calls_first, calls_next}
use Rattle.history_law.proofs.Steps.{TcStep, ResStep, Keeps, by_entries}

-- ---- the records of the second phase

-- what an undo, a marker, a clearing, a Confirm, a Cancel and a suspension name
abbrev PhaseOf : List SessionRecord → ℕ → ResourceRecord → Type 0
PhaseOf rs n (log.Undone xid b) = IsBranchAt rs n xid.0 b.0 kind.At
PhaseOf rs n (log.Marked xid b) = IsBranchAt rs n xid.0 b.0 kind.At
PhaseOf rs n (log.Cleared xid b) = IsBranchAt rs n xid.0 b.0 kind.At
PhaseOf rs n (log.Confirmed xid b images) = IsBranchAt rs n xid.0 b.0 kind.Tcc
PhaseOf rs n (log.Cancelled xid b images) = IsBranchAt rs n xid.0 b.0 kind.Tcc
PhaseOf rs n (log.Suspended xid b) = IsBranchAt rs n xid.0 b.0 kind.Tcc
PhaseOf rs n _ = Unit {0}

abbrev PhasesOf : List SessionRecord → ℕ → List ResourceRecord → Type 0
PhasesOf rs n records = (r : ResourceRecord) → In r records → PhaseOf rs n r

-- branches stay granted
module _ (rs rs' : List SessionRecord) (stays : (g : Grant) → In g (grants rs) → In g (grants rs')) where
  branch_on : (n x b : ℕ) (k : BranchKind) → IsBranchAt rs n x b k → IsBranchAt rs' n x b k
  branch_on n x b k g = record { branch = g.branch; granted = stays g.branch g.granted; xid = g.xid; number = g.number; resource = g.resource; of_mode = g.of_mode }

  phase_on : (n : ℕ) (r : ResourceRecord) → PhaseOf rs n r → PhaseOf rs' n r
  phase_on n (log.Undone xid b) g = branch_on n xid.0 b.0 kind.At g
  phase_on n (log.Marked xid b) g = branch_on n xid.0 b.0 kind.At g
  phase_on n (log.Cleared xid b) g = branch_on n xid.0 b.0 kind.At g
  phase_on n (log.Confirmed xid b images) g = branch_on n xid.0 b.0 kind.Tcc g
  phase_on n (log.Cancelled xid b images) g = branch_on n xid.0 b.0 kind.Tcc g
  phase_on n (log.Suspended xid b) g = branch_on n xid.0 b.0 kind.Tcc g
  phase_on n _ g = tt

  phases_on : (n : ℕ) (records : List ResourceRecord) → PhasesOf rs n records → PhasesOf rs' n records
  phases_on n records all r i = phase_on n r (all r i)

phases_boot : (rs : List SessionRecord) (n : ℕ) (records : List ResourceRecord) → PhasesOf rs n records → PhasesOf rs n (boot_over records ∷ records)
phases_boot rs n records all r (inl is) = subst (PhaseOf rs n) (sym is) tt
phases_boot rs n records all r (inr i) = all r i

abbrev PhasesAt : List SessionRecord → ℕ → Memory → Type 0
PhasesAt rs n m = PhasesOf rs n m.left.records × PhasesOf rs n (all_of m.left)

record BranchesBy (w : World) (tc : Left SessionRecord) (mem : ℕ → Setup → Memory) (ms : List Moment) : Type 0 where
  calls : FencedCalls w tc mem ms
  at : (n : ℕ) (s : Setup) → counted_at w.resources n ≡ Some s → PhasesAt tc.records n (mem n s)

-- ---- at a resource

module _ (w : World) (past : Past) (ms : List Moment) (m : Moment) (c : Covers w past ms) (r : ResStep w past ms m) where
  abbrev rs : List SessionRecord
  rs = (coordinator_left past ms).records

  abbrev before : Memory
  before = memory_of past ms r.k r.s

  abbrev ne : Memory
  ne = memory_by r.s (memory_of past ms r.k r.s) r.event m.now m.step

  heard : (from : Place) (msg : Message) → r.event ≡ Given (input.Message from msg) → SaysIn w (coordinator_left past ms) (memory_of past ms) from (place.Res r.k) msg
  heard from msg is = r.heard (λ p out. Says w (coordinator_left past ms) (memory_of past ms) p out) c.said from msg is

  asked_here : (x b : ℕ) (k : BranchKind) → (said : BranchSaid (coordinator_left past ms) (place.Res r.k) x b) → said.branch.kind ≡ k → IsBranchAt rs r.k x b k
  asked_here x b k said of = record {
    branch = said.branch;
    granted = said.granted;
    xid = said.xid;
    number = said.number;
    resource = sym (one_number r.k said.branch.resource said.place);
    of_mode = of;
  }

  rolled : (x b : ℕ) (k : BranchKind) → IsRollback r.event x b k → IsBranchAt rs r.k x b k
  rolled x b k asked =
      let said = heard asked.from (message.BranchRollback (xid_of x) (branch_of b) k asked.manager asked.call) asked.is in
      asked_here x b k said.0 said.1

  confirmed : (x b : ℕ) (k : BranchKind) → IsCommit r.event x b k → IsBranchAt rs r.k x b k
  confirmed x b k asked =
      let said = heard asked.from (message.BranchCommit (xid_of x) (branch_of b) k asked.manager asked.call) asked.is in
      asked_here x b k said.0 said.1

  phase_now : (q : ResourceRecord) → RecordFits r.s before ne.opens r.event q → PhaseOf rs r.k q
  phase_now (log.Undone xid b) f = rolled xid.0 b.0 kind.At f.asked
  phase_now (log.Marked xid b) f = rolled xid.0 b.0 kind.At f.0
  phase_now (log.Cleared xid b) f = confirmed xid.0 b.0 kind.At f.0
  phase_now (log.Confirmed xid b images) f = confirmed xid.0 b.0 kind.Tcc f.0
  phase_now (log.Cancelled xid b images) f = rolled xid.0 b.0 kind.Tcc f.0
  phase_now (log.Suspended xid b) f = rolled xid.0 b.0 kind.Tcc f.0
  phase_now _ f = tt

  phase_step : (q : ResourceRecord) → RecordFits r.s before ne.opens r.event q → PhasesOf rs r.k before.left.records → PhasesOf rs r.k (q ∷ before.left.records)
  phase_step q f all z (inl is) = subst (PhaseOf rs r.k) (sym is) (phase_now q f)
  phase_step q f all z (inr i) = all z i

  phases_at_res : PhasesAt rs r.k before → PhasesAt rs r.k ne
  phases_at_res old = r.moves.keeps (PhasesOf rs r.k) (phases_boot rs r.k) phase_step old

-- ---- the induction

tc_grants : (w : World) (past : Past) (ms : List Moment) (m : Moment) (t : TcStep w past ms m) (g : Grant) → In g (grants (coordinator_left past ms).records) → In g (grants t.after.records)
tc_grants w past ms m t g i = (t.keeps (λ z. In g (grants z)) (λ r f j. grant_stays r (coordinator_left past ms).records g j) (i, in_all (coordinator_left past ms) g i)).0

branches_keep : (w : World) (past : Past) → Keeps w past (BranchesBy w)
branches_keep w past = record {
  at_tc = λ ms m c i t. record {
    calls = (calls_keep w past).at_tc ms m c i.calls t;
    at = λ n s is.
        let on = phases_on (coordinator_left past ms).records t.after.records (tc_grants w past ms m t) n in
        let old = i.at n s is in
        (on (memory_of past ms n s).left.records old.0, on (all_of (memory_of past ms n s).left) old.1);
  };
  at_res = λ ms m c i r. record {
    calls = (calls_keep w past).at_res ms m c i.calls r;
    at = λ n s is. each_memory w past ms m r (λ j q z. PhasesAt (coordinator_left past ms).records j z) n s is (phases_at_res w past ms m c r) (i.at n s is);
  };
  at_man = λ ms m c i t. record { calls = (calls_keep w past).at_man ms m c i.calls t; at = i.at };
  quiet = λ ms m i is. record { calls = (calls_keep w past).quiet ms m i.calls is; at = i.at };
}

abbrev Branches : World → Past → List Moment → Type 0
Branches w past ms = BranchesBy w (coordinator_left past ms) (memory_of past ms) ms

branches : (w : World) (past : Past) → AreNumbered w → Covers w past [] → Branches w past [] → (ms : List Moment) → Legal w past ms → Branches w past ms
branches w past numbered start first ms legal = by_entries w past numbered (BranchesBy w) (branches_keep w past) start first ms legal

-- ---- disks without records

branches_first : (w : World) (past : Past) → IsBlankPast past → Branches w past []
branches_first w past bare = record {
  calls = calls_first w past bare;
  at = λ n s is.
      let rs = (coordinator_left past []).records in
      let here = phases_boot rs n (past.resource n) (at_first past bare (PhasesOf rs n) (λ r i. absurd i) (phases_boot rs n) n) in (here, here);
}

-- ---- what is claimed

module _ (w : World) (past : Past) (ms : List Moment) (c : Covers w past ms) (i : Branches w past ms) where
  abbrev sessions : List SessionRecord
  sessions = (coordinator_left past ms).records

  abbrev OnBranch : ℕ → Option (ℕ × ℕ × BranchKind) → Type 0
  OnBranch n None = Unit {0}
  OnBranch n (Some (x, b, k)) = IsBranchAt sessions n x b k

  -- the branch of a record, by its local commit, its Try or what asked for the second phase
  branch_of_record : (n : ℕ) (m : Memory) (records : List ResourceRecord) → AllEver sessions n m records → WorksAre w sessions n records → PhasesOf sessions n records
      → (r : ResourceRecord) → In r records → OnBranch n (branch_in r)
  branch_of_record n m records ever works phases (log.Committed xid b call images reads) j =
      let u : Undo = record { xid = xid.0; branch = b.0; call = call; images = images; reads = reads } in
      let k = ever u j in
      record { branch = k.branch; granted = k.granted; xid = k.xid; number = k.number; resource = k.resource; of_mode = k.at }
  branch_of_record n m records ever works phases (log.Tried xid b call images) j =
      let k = works (log.Tried xid b call images) j in
      record { branch = k.branch; granted = k.granted; xid = k.xid; number = k.number; resource = k.resource; of_mode = k.tcc }
  branch_of_record n m records ever works phases (log.Undone xid b) j = phases (log.Undone xid b) j
  branch_of_record n m records ever works phases (log.Marked xid b) j = phases (log.Marked xid b) j
  branch_of_record n m records ever works phases (log.Cleared xid b) j = phases (log.Cleared xid b) j
  branch_of_record n m records ever works phases (log.Confirmed xid b images) j = phases (log.Confirmed xid b images) j
  branch_of_record n m records ever works phases (log.Cancelled xid b images) j = phases (log.Cancelled xid b images) j
  branch_of_record n m records ever works phases (log.Suspended xid b) j = phases (log.Suspended xid b) j
  branch_of_record n m records ever works phases (log.Boot number) j = tt
  branch_of_record n m records ever works phases (log.LocalCommitted number images) j = tt
  branch_of_record n m records ever works phases (log.Outside number images) j = tt

  all_of_branches : (n : ℕ) (m : Memory) (records : List ResourceRecord) → AllEver sessions n m records → WorksAre w sessions n records → PhasesOf sessions n records → AreOfBranches sessions n records
  all_of_branches n m records ever works phases r j x b k is = subst (OnBranch n) is (branch_of_record n m records ever works phases r j)

  granted_at : (n : ℕ) (s : Setup) → counted_at w.resources n ≡ Some s
      → AreOfBranches sessions n (memory_of past ms n s).left.records × AreOfBranches sessions n (all_of (memory_of past ms n s).left)
  granted_at n s is =
      let m = memory_of past ms n s in
      let ever = (i.calls.calls.ends.at n s is).ever in
      let works = (i.calls.calls.at n s is).works in
      let phases = i.at n s is in
      (all_of_branches n m m.left.records ever.0 works.0 phases.0, all_of_branches n m (all_of m.left) ever.1 works.1 phases.1)

  -- branches of one number are one
  alone : (g : Grant) → In g (grants sessions) → StandsAlone w (memory_of past ms) g
  alone g there n s is r j k of =
      let h = (granted_at n s is).0 r j g.xid g.branch k of in
      let same : h.branch ≡ g = one_branch sessions c.allowed.0 h.branch g h.granted there h.number in
      (sym (ap (λ (q : Grant). q.resource) same) ∙ h.resource, sym (ap (λ (q : Grant). q.kind) same) ∙ h.of_mode)

  of_branches : RecordsAreOfBranches w past ms
  of_branches = record { granted = granted_at; alone = alone }

stay_of_branches : (w : World) (past : Past) → AreNumbered w → Covers w past [] → Branches w past [] → (ms : List Moment) → Legal w past ms → RecordsStayOfBranches w past ms
stay_of_branches w past numbered start first [] legal = of_branches w past [] start first
stay_of_branches w past numbered start first (m ∷ ms) legal =
    (stay_of_branches w past numbered start first ms legal.0, of_branches w past (m ∷ ms) (covers w past numbered start (m ∷ ms) legal) (branches w past numbered start first (m ∷ ms) legal))

pub branches_law : BranchesLaw
branches_law w past ms numbered bare legal = stay_of_branches w past numbered (covers_first w past bare) (branches_first w past bare) ms legal

-- ---- chains

module _ (w : World) (past : Past) (ms : List Moment) (next : Past) (numbered : AreNumbered w) (c : Covers w past ms) (i : Branches w past ms) (leaves : MayLeave w past ms next) where
  next_grants : (g : Grant) → In g (grants (coordinator_left past ms).records) → In g (grants next.sessions)
  next_grants g = of_sessions w past ms next numbered c leaves (λ rs. In g (grants (coordinator_left past ms).records) → In g (grants rs)) (λ j. j, in_all (coordinator_left past ms) g)

  branches_next : Branches w next []
  branches_next = record {
    calls = calls_next w past ms next numbered c i.calls leaves;
    at = λ n s is.
        let on = phases_on (coordinator_left past ms).records next.sessions next_grants n in
        let old = i.at n s is in
        let here = of_memory w past ms next numbered c leaves n s is (PhasesOf next.sessions n) (phases_boot next.sessions n)
        (on (memory_of past ms n s).left.records old.0, on (all_of (memory_of past ms n s).left) old.1) in
        (here, here);
  }

chain_branches : (w : World) (past : Past) (ms : List Moment) (rest : List (Past × List Moment)) → AreNumbered w → IsChain w ((past, ms) ∷ rest) → Branches w past []
chain_branches w past ms [] numbered chain = branches_first w past chain.0
chain_branches w past ms ((before, entries) ∷ rest) numbered chain =
    let earlier = chain_covered w before entries rest numbered chain.0 in
    branches_next w before entries past numbered (covers w before numbered earlier.0 entries earlier.1)
    (branches w before numbered earlier.0 (chain_branches w before entries rest numbered chain.0) entries earlier.1) chain.1

pub branches_of_chains : BranchesOfChains
branches_of_chains w [] numbered chain = tt
branches_of_chains w ((past, ms) ∷ rest) numbered chain =
    let last = chain_covered w past ms rest numbered chain in
    (branches_of_chains w rest numbered (shorter_chain w past ms rest chain), stay_of_branches w past numbered last.0 (chain_branches w past ms rest numbered chain) ms last.1)
