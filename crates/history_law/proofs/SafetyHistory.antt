-- All legal histories and chains are safe: the parts of the law put together.
use Rattle.std.proofs.Common.{◌≡◌, ℕ, true, List, [], ◌∷◌, Some, sym, subst}
use Rattle.durable_records.specs.Transactions.{decided, is_commit, is_rollback}
use Rattle.durable_records.specs.Branches.{Grant, grants}
use Rattle.durable_records.specs.Progress.{progress, is_done}
use Rattle.durable_records.specs.SessionOrder.{Allowed}
use Rattle.history_rules.specs.ResourceMemory.{Setup}
use Rattle.history_rules.specs.Nodes.{World, Past, counted_at}
use Rattle.history_rules.specs.Histories.{Moment, Legal}
use Rattle.history_rules.specs.Chains.{IsChain, IsBlankPast}
use Rattle.history_law.specs.Points.{In, AtEachPoint, InEachHistory}
use Rattle.history_law.specs.SessionSafety.{session_records, SessionsStaySafe, SessionsAreSafe}
use Rattle.history_law.specs.Cover.{memory_of}
use Rattle.history_law.specs.TicketSafety.{EachIsSafe, TicketsStaySafe}
use Rattle.history_law.specs.BranchSafety.{RecordsAreOfBranches, RecordsStayOfBranches}
use Rattle.history_law.specs.EndingSafety.{EndingsAreSafe, EndingsStaySafe, EndsAs}
use Rattle.history_law.specs.CallSafety.{NoneIsUnfenced}
use Rattle.history_law.specs.OnceSafety.{WorksAreOnce, WorksStayOnce}
use Rattle.history_law.specs.OrderSafety.{RowsArePiled, RowsStayPiled, AreFreeSinceGrants}
use Rattle.history_law.specs.ValueSafety.{EachHasValues, ValuesStaySafe, DirtyByOutside}
use Rattle.history_law.specs.Safety.{IsKept, IsStruck, IsSafe, IsSafeHistory, SafetyLaw, SafetyOfChains}
use Rattle.history_law.proofs.SessionHistory.{sessions_law, sessions_of_chains}
use Rattle.history_law.proofs.CoverHistory.{tickets_law}
use Rattle.history_law.proofs.CoverChains.{covers_first, tickets_of_chains}
use Rattle.history_law.proofs.EndingHistory.{endings_law, endings_of_chains}
use Rattle.history_law.proofs.BranchRecords.{branches_law, branches_of_chains}
use Rattle.history_law.proofs.CallHistory.{unfenced_law, unfenced_of_chains}
use Rattle.history_law.proofs.OnceHistory.{once_law, once_of_chains}
use Rattle.history_law.proofs.RowHistory.{rows_law, rows_of_chains}
use Rattle.history_law.proofs.SinceGrants.{free_law, free_of_chains}
use Rattle.history_law.proofs.ValueHistory.{values_law, values_of_chains, dirty_law, dirty_of_chains}
use Rattle.history_law.proofs.Finishes.{finishes_law}

-- ---- one point

-- what the parts say of one point
record Parts (w : World) (past : Past) (ms : List Moment) : Type 0 where
  sessions : SessionsAreSafe (session_records past ms)
  tickets : EachIsSafe w past ms
  branches : RecordsAreOfBranches w past ms
  endings : EndingsAreSafe w past ms
  once : WorksAreOnce w past ms
  order : RowsArePiled w past ms
  values : EachHasValues w past ms

module _ (w : World) (past : Past) (ms : List Moment) (p : Parts w past ms) (x : ℕ) (done : is_done (progress (session_records past ms) x) ≡ true) where
  ends_as : (g : Grant) → In g (grants (session_records past ms)) → g.xid ≡ x → (s : Setup) → counted_at w.resources g.resource ≡ Some s
      → EndsAs (session_records past ms) g (memory_of past ms g.resource s).left.records
  ends_as g i is = p.endings.ended g i (subst (λ z. is_done (progress (session_records past ms) z) ≡ true) (sym is) done)

  kept_branch : is_commit (decided (session_records past ms) x) ≡ true → (g : Grant) → In g (grants (session_records past ms)) → g.xid ≡ x → IsKept w (memory_of past ms) g
  kept_branch commit g i is = record {
    alone = p.branches.alone g i;
    by_records = λ s known. (ends_as g i is s known).kept (subst (λ z. is_commit (decided (session_records past ms) z) ≡ true) (sym is) commit);
  }

  struck_branch : is_rollback (decided (session_records past ms) x) ≡ true → (g : Grant) → In g (grants (session_records past ms)) → g.xid ≡ x → IsStruck w (memory_of past ms) g
  struck_branch rolls g i is = record {
    alone = p.branches.alone g i;
    by_records = λ s known. (ends_as g i is s known).struck (subst (λ z. is_rollback (decided (session_records past ms) z) ≡ true) (sym is) rolls);
  }

safe_point : (w : World) (past : Past) (ms : List Moment) → Parts w past ms → IsSafe w past ms
safe_point w past ms p = record {
  one_holder = p.sessions.one_holder;
  covered = λ n s is. (p.tickets n s is).covered;
  kept = λ n s is. (p.values n s is).kept;
  worked = p.once.committed;
  granted = λ n s is. (p.branches.granted n s is).0;
  committed = λ x done commit. kept_branch w past ms p x done commit;
  rolled_back = λ x done rolls. struck_branch w past ms p x done rolls;
  undone = λ n s is. (p.order n s is).undos_follow;
  reads = λ n s is. record { lie = (p.order n s is).commits_lie; effects = (p.values n s is).effects; in_flight = (p.values n s is).in_flight };
}

-- ---- all points

all_points : (w : World) (past : Past) (ms : List Moment) → SessionsStaySafe past ms → TicketsStaySafe w past ms → RecordsStayOfBranches w past ms → EndingsStaySafe w past ms → WorksStayOnce w past ms → RowsStayPiled w past ms → ValuesStaySafe w past ms
    → AtEachPoint (IsSafe w past) ms
all_points w past [] a b g c d e f = safe_point w past [] (record { sessions = a; tickets = b; branches = g; endings = c; once = d; order = e; values = f })
all_points w past (m ∷ ms) a b g c d e f =
    (all_points w past ms a.0 b.0 g.0 c.0 d.0 e.0 f.0, safe_point w past (m ∷ ms) (record { sessions = a.1; tickets = b.1; branches = g.1; endings = c.1; once = d.1; order = e.1; values = f.1 }))

allowed_first : (past : Past) → IsBlankPast past → Allowed past.sessions
allowed_first past bare = subst Allowed (sym bare.sessions) tt

pub safety_law : SafetyLaw
safety_law w past ms is bare legal = record {
  at_each_point = all_points w past ms (sessions_law w past ms (allowed_first past bare) legal) (tickets_law w past ms is.numbered (covers_first w past bare) legal)
      (branches_law w past ms is.numbered bare legal) (endings_law w past ms is.numbered bare legal)
      (once_law w past ms is.numbered bare legal) (rows_law w past ms is.numbered bare legal) (values_law w past ms is.numbered is.modes bare legal);
  none_unfenced = unfenced_law w past ms is.numbered bare legal;
  dirty = dirty_law w past ms is.numbered is.modes bare legal;
  finishes = finishes_law w past ms legal;
  since_grants = free_law w past ms is.numbered bare legal;
}

-- ---- chains

all_histories : (w : World) (histories : List (Past × List Moment)) → InEachHistory SessionsStaySafe histories → InEachHistory (TicketsStaySafe w) histories → InEachHistory (RecordsStayOfBranches w) histories → InEachHistory (EndingsStaySafe w) histories
    → InEachHistory (WorksStayOnce w) histories → InEachHistory (RowsStayPiled w) histories → InEachHistory (ValuesStaySafe w) histories → InEachHistory (λ past ms. NoneIsUnfenced ms) histories
    → InEachHistory (DirtyByOutside w) histories → InEachHistory (AreFreeSinceGrants w) histories → InEachHistory (λ past ms. Legal w past ms) histories → InEachHistory (IsSafeHistory w) histories
all_histories w [] a b n c d e f g h k l = tt
all_histories w ((past, ms) ∷ rest) a b n c d e f g h k l = (
  all_histories w rest a.0 b.0 n.0 c.0 d.0 e.0 f.0 g.0 h.0 k.0 l.0,
  record { at_each_point = all_points w past ms a.1 b.1 n.1 c.1 d.1 e.1 f.1; none_unfenced = g.1; dirty = h.1; finishes = finishes_law w past ms l.1; since_grants = k.1 },
)

legal_chain : (w : World) (histories : List (Past × List Moment)) → IsChain w histories → InEachHistory (λ past ms. Legal w past ms) histories
legal_chain w [] chain = tt
legal_chain w ((past, ms) ∷ []) chain = (tt, chain.1)
legal_chain w ((past, ms) ∷ (before, entries) ∷ rest) chain = (legal_chain w ((before, entries) ∷ rest) chain.0, chain.2)

pub safety_of_chains : SafetyOfChains
safety_of_chains w histories is chain =
    all_histories w histories (sessions_of_chains w histories chain) (tickets_of_chains w histories is.numbered chain)
    (branches_of_chains w histories is.numbered chain) (endings_of_chains w histories is.numbered chain) (once_of_chains w histories is.numbered chain)
    (rows_of_chains w histories is.numbered chain) (values_of_chains w histories is.numbered is.modes chain) (unfenced_of_chains w histories is.numbered chain) (dirty_of_chains w histories is.numbered is.modes chain)
    (free_of_chains w histories is.numbered chain) (legal_chain w histories chain)
