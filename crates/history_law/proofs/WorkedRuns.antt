-- The worked histories are runs, and safe: tests of a scenario that are computed, and what they tell.
use Rattle.std.proofs.Common.{◌≡◌, inl, inr, ◌+◌, ◌==◌, ◌&&◌, ℕ, zero, suc, Bool, true, false, if◌then◌else◌, List, [], ◌∷◌, slice_get, Option, Some, None, is_some, refl, ap, sym, subst, ◌∙◌, arith}
use Rattle.std.specs.List.{list_all}
use Rattle.seata_types.specs.declared.statements.Action.{Action}
use Rattle.seata_types.specs.declared.statements.Stmt.{Stmt}
use Rattle.seata_types.specs.declared.statements.Work.{Work}
use Rattle.seata_types.specs.declared.statements.Work.TheVariants as work
use Rattle.seata_types.specs.declared.statuses.BranchKind.{BranchKind}
use Rattle.seata_types.specs.declared.statuses.BranchKind.TheVariants as kind
use Rattle.local_tables.specs.Checks.{table_of}
use Rattle.local_tables.specs.Rows.{table_named}
use Rattle.local_tables.specs.declared.schemas.TableDef.{TableDef}
use Rattle.history_rules.specs.ResourceMemory.{Setup, action_in}
use Rattle.history_rules.specs.ManagerRules.{Settings}
use Rattle.history_rules.specs.Nodes.{World, no_past, counted_at, AreNumbered}
use Rattle.history_rules.specs.Schedules.{Item, Auto}
use Rattle.history_rules.specs.Worked.{transfer}
use Rattle.history_law.specs.Points.{In}
use Rattle.history_law.specs.MessageSafety.{NamesItsNodes}
use Rattle.history_law.specs.ValueSafety.{NameTables, WorksOn, HasModes}
use Rattle.history_law.specs.PlaySafety.{names_node, PlaysSafely, worked_worlds, WorkedLaw, TransferPlaysSafely}
use Rattle.history_law.proofs.Tests.{none_some, false_true, same_nat, and_left, and_right}
use Rattle.history_law.proofs.SafetyHistory.{safety_law}
use Rattle.history_law.proofs.PlayedRuns.{all_member, played_law}

-- ---- numbers

-- whether these stand at their numbers, counted from n
abbrev numbered : {A : Type 0} → (A → ℕ) → ℕ → List A → Bool
numbered number n [] = true
numbered number n (a ∷ xs) = (number a == n) && numbered number (n + 1) xs

number_is : {A : Type 0} (number : A → ℕ) (n : ℕ) (xs : List A) → numbered number n xs ≡ true → (k : ℕ) (a : A) → slice_get xs k ≡ Some a → number a ≡ n + k
number_is number n [] all k a e = none_some e
number_is number n (x ∷ xs) all zero a e =
    let same : x ≡ a = cc in
    let is : number x ≡ n = same_nat (number x) n (and_left (number x == n) (numbered number (n + 1) xs) all) in
    let here : number a ≡ n = ap number (sym same) ∙ is in
    omega arith
number_is number n (x ∷ xs) all (suc k) a e = let below = number_is number (n + 1) xs (and_right (number x == n) (numbered number (n + 1) xs) all) k a e in omega arith

at_number : {A : Type 0} (number : A → ℕ) (xs : List A) → numbered number 1 xs ≡ true → (n : ℕ) (a : A) → counted_at xs n ≡ Some a → number a ≡ n
at_number number xs all zero a e = none_some e
at_number number xs all (suc k) a e = let is = number_is number 1 xs all k a e in omega arith

slot_in : {A : Type 0} (xs : List A) (k : ℕ) (a : A) → slice_get xs k ≡ Some a → In a xs
slot_in [] k a e = none_some e
slot_in (x ∷ xs) zero a e = let same : x ≡ a = cc in inl (sym same)
slot_in (x ∷ xs) (suc k) a e = inr (slot_in xs k a e)

counted_in : {A : Type 0} (xs : List A) (n : ℕ) (a : A) → counted_at xs n ≡ Some a → In a xs
counted_in xs zero a e = none_some e
counted_in xs (suc k) a e = slot_in xs k a e

-- ---- calls

found : {A : Type 0} (o : Option A) → is_some o ≡ true → (a : A) × (o ≡ Some a)
found None e = false_true e
found (Some a) e = (a, refl)

abbrev calls_node : World → ℕ × Work → Bool
calls_node w call = is_some (counted_at w.resources call.0)

-- ---- modes

abbrev same_mode : BranchKind → BranchKind → Bool
same_mode kind.At kind.At = true
same_mode kind.Tcc kind.Tcc = true
same_mode _ _ = false

mode_same : (a b : BranchKind) → same_mode a b ≡ true → a ≡ b
mode_same kind.At kind.At e = refl
mode_same kind.Tcc kind.Tcc e = refl
mode_same kind.At kind.Tcc e = false_true e
mode_same kind.Tcc kind.At e = false_true e

abbrev has_mode : BranchKind → Option TableDef → Bool
has_mode mode None = true
has_mode mode (Some def) = same_mode def.mode mode

abbrev names_mode : Setup → BranchKind → Stmt → Bool
names_mode s mode stmt = has_mode mode (table_named s.schema (table_of stmt))

modes_named : (s : Setup) (mode : BranchKind) (stmts : List Stmt) → list_all (names_mode s mode) stmts ≡ true → NameTables s mode stmts
modes_named s mode stmts all stmt i def named =
    mode_same def.mode mode (subst (λ o. has_mode mode o ≡ true) named (all_member (names_mode s mode) stmts all stmt i))

abbrev works_well : Setup → Work → Bool
works_well s (work.At stmts) = list_all (names_mode s kind.At) stmts
works_well s (work.Tcc action) = list_all (names_mode s kind.Tcc) action.tries

well_works : (s : Setup) (wk : Work) → works_well s wk ≡ true → WorksOn s wk
well_works s (work.At stmts) e = modes_named s kind.At stmts e
well_works s (work.Tcc action) e = modes_named s kind.Tcc action.tries e

abbrev works_where : Option Setup → Work → Bool
works_where None wk = true
works_where (Some s) wk = works_well s wk

abbrev call_works : World → ℕ × Work → Bool
call_works w call = works_where (counted_at w.resources call.0) call.1

abbrev action_names : Setup → (ℕ × ℕ) × Action → Bool
action_names s entry = list_all (names_mode s kind.Tcc) entry.1.confirms && list_all (names_mode s kind.Tcc) entry.1.cancels

action_well : (s : Setup) (m c : ℕ) (xs : List ((ℕ × ℕ) × Action)) → list_all (action_names s) xs ≡ true → (a : Action) → action_in m c xs ≡ Some a → NameTables s kind.Tcc a.confirms × NameTables s kind.Tcc a.cancels
action_well s m c [] all a e = none_some e
action_well s m c (((manager, call), b) ∷ rest) all a e =
    by ((manager == m) && (call == c)) (action_well s m c rest (and_right (action_names s ((manager, call), b)) (list_all (action_names s) rest) all) a) e
  where
    here : NameTables s kind.Tcc b.confirms × NameTables s kind.Tcc b.cancels
    here =
        let first = and_left (list_all (names_mode s kind.Tcc) b.confirms && list_all (names_mode s kind.Tcc) b.cancels) (list_all (action_names s) rest) all in (
          modes_named s kind.Tcc b.confirms (and_left (list_all (names_mode s kind.Tcc) b.confirms) (list_all (names_mode s kind.Tcc) b.cancels) first),
          modes_named s kind.Tcc b.cancels (and_right (list_all (names_mode s kind.Tcc) b.confirms) (list_all (names_mode s kind.Tcc) b.cancels) first),
        )

    by : (t : Bool) → (action_in m c rest ≡ Some a → NameTables s kind.Tcc a.confirms × NameTables s kind.Tcc a.cancels) → (if t then Some b else action_in m c rest) ≡ Some a
        → NameTables s kind.Tcc a.confirms × NameTables s kind.Tcc a.cancels
    by true later e = let same : b ≡ a = cc in subst (λ (z : Action). NameTables s kind.Tcc z.confirms × NameTables s kind.Tcc z.cancels) same here
    by false later e = later e

-- ---- scenarios

-- whether a scenario names its nodes, and tables of the modes of its work
abbrev is_fine : World → Bool
is_fine w =
    (numbered (λ (s : Setup). s.number) 1 w.resources && numbered (λ (m : Settings). m.number) 1 w.managers)
    && (list_all (λ (m : Settings). list_all (calls_node w) m.calls && list_all (call_works w) m.calls) w.managers
    && list_all (λ (s : Setup). list_all (action_names s) s.actions) w.resources)

module _ (w : World) (fine : is_fine w ≡ true) where
  abbrev Numbers : Bool
  Numbers = numbered (λ (s : Setup). s.number) 1 w.resources && numbered (λ (m : Settings). m.number) 1 w.managers

  abbrev Calls : Bool
  Calls = list_all (λ (m : Settings). list_all (calls_node w) m.calls && list_all (call_works w) m.calls) w.managers

  abbrev Actions : Bool
  Actions = list_all (λ (s : Setup). list_all (action_names s) s.actions) w.resources

  parts : (Numbers ≡ true) × (Calls ≡ true) × (Actions ≡ true)
  parts = let rest = and_right Numbers (Calls && Actions) fine in (and_left Numbers (Calls && Actions) fine, and_left Calls Actions rest, and_right Calls Actions rest)

  are_numbered : AreNumbered w
  are_numbered n s known = at_number (λ (q : Setup). q.number) w.resources (and_left (numbered (λ (q : Setup). q.number) 1 w.resources) (numbered (λ (m : Settings). m.number) 1 w.managers) parts.0) n s known

  call_there : (n : ℕ) (m : Settings) → counted_at w.managers n ≡ Some m → (c r : ℕ) (wk : Work) → slice_get m.calls c ≡ Some (r, wk) → (calls_node w (r, wk) ≡ true) × (call_works w (r, wk) ≡ true)
  call_there n m known c r wk is =
      let all = all_member (λ (q : Settings). list_all (calls_node w) q.calls && list_all (call_works w) q.calls) w.managers parts.1 m (counted_in w.managers n m known) in
      let there = slot_in m.calls c (r, wk) is in (
        all_member (calls_node w) m.calls (and_left (list_all (calls_node w) m.calls) (list_all (call_works w) m.calls) all) (r, wk) there,
        all_member (call_works w) m.calls (and_right (list_all (calls_node w) m.calls) (list_all (call_works w) m.calls) all) (r, wk) there,
      )

  names_nodes : NamesItsNodes w
  names_nodes = record {
    numbered = are_numbered;
    managed = λ n m known. at_number (λ (q : Settings). q.number) w.managers (and_right (numbered (λ (q : Setup). q.number) 1 w.resources) (numbered (λ (q : Settings). q.number) 1 w.managers) parts.0) n m known;
    called = λ n m known c r wk is. found (counted_at w.resources r) (call_there n m known c r wk is).0;
  }

  has_modes : HasModes w
  has_modes = record {
    calls = λ k m known c r wk is s there. well_works s wk (subst (λ o. works_where o wk ≡ true) there (call_there k m known c r wk is).1);
    actions = λ n s known manager c a is.
        action_well s manager c s.actions (all_member (λ (q : Setup). list_all (action_names q) q.actions) w.resources parts.2 s (counted_in w.resources n s known)) a is;
  }

  plays_safely : (schedule : List Item) → list_all (names_node w) schedule ≡ true → PlaysSafely w schedule
  plays_safely schedule all =
      let run = played_law w no_past schedule names_nodes (λ g i. absurd i) all in
      record { run = run; safe = safety_law w no_past _ (record { numbered = are_numbered; modes = has_modes }) (record { sessions = refl; resources = λ n. (0, refl) }) run.legal }

-- ---- rows

all_fine : list_all is_fine worked_worlds ≡ true
all_fine = refl

pub worked_law : WorkedLaw
worked_law w there schedule all = plays_safely w (all_member is_fine worked_worlds all_fine w there) schedule all

pub transfer_row : TransferPlaysSafely
transfer_row = worked_law transfer (inl refl) (Auto 29 ∷ []) refl
