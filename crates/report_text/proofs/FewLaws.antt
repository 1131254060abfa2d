-- The statements of a scenario that can be run, and of the open tickets that are kept, are no more than an effect is taken of.
use Rattle.std.proofs.Common.{◌==◌, ◌≤◌, ℕ, zero, suc, Bool, true, false, cond, if◌then◌else◌, List, [], ◌∷◌, All, length, slice_get, Option, Some, None, option_map, arith}
use Rattle.std.specs.Map.{lookup}
use Rattle.std.specs.Option.{option_and_then}
use Rattle.std.specs.Prelude.{IfSome}
use Rattle.std.proofs.lemmas.List.Elements.{All-head, All-tail}
use Rattle.seata_types.specs.declared.limits.TheConstants.{FIELD_ITEMS}
use Rattle.seata_types.specs.declared.ids.Ticket.{Ticket}
use Rattle.seata_types.specs.declared.statements.Action.{Action}
use Rattle.seata_types.specs.declared.statements.Stmt.{Stmt}
use Rattle.seata_types.specs.declared.statements.Work.{Work}
use Rattle.seata_types.specs.declared.statements.Work.TheVariants as work
use Rattle.local_tables.specs.declared.schemas.Schema.{Schema}
use Rattle.scenario_form.specs.declared.scenarios.ResourceDef.{ResourceDef}
use Rattle.scenario_form.specs.declared.scenarios.Scenario.{Scenario}
use Rattle.scenario_form.specs.Contents.{AreStatements, IsCall, IsLocal}
use Rattle.scenario_form.specs.Runnable.{IsManager, IsRunnable}
use Rattle.history_rules.specs.Nodes.{counted_at}
use Rattle.report_text.specs.Numbered.{AreFew, call_in, call_at, statements_in, statements_at, tries_in, tries_at, action_in, action_at, confirms_in, confirms_at, cancels_in, cancels_at, local_in, local_at}
use Rattle.report_text.specs.Opens.{Works, HasFew, HaveFew}

-- ---- lists

-- said of a value that may be there
abbrev Of : {A : Type 0} → (A → Type 0) → Option A → Type 0
Of P None = Unit {0}
Of P (Some a) = P a

placed_of : {A : Type 0} (P : A → Type 0) (list : List A) (k : ℕ) → All P list → Of P (slice_get list k)
placed_of P [] k all = tt
placed_of P (a ∷ list) zero all = All-head P a list all
placed_of P (a ∷ list) (suc k) all = placed_of P list k (All-tail P a list all)

counted_of : {A : Type 0} (P : A → Type 0) (list : List A) (n : ℕ) → All P list → Of P (counted_at list n)
counted_of P list zero all = tt
counted_of P list (suc k) all = placed_of P list k all

then_of : {A B : Type 0} (P : A → Type 0) (Q : B → Type 0) (f : A → Option B) → ((a : A) → P a → Of Q (f a)) → (o : Option A) → Of P o → Of Q (option_and_then f o)
then_of P Q f step None is = tt
then_of P Q f step (Some a) is = step a is

then_few : {A : Type 0} (P : A → Type 0) (f : A → Option (List Stmt)) → ((a : A) → P a → AreFew (f a)) → (o : Option A) → Of P o → AreFew (option_and_then f o)
then_few P f step None is = tt
then_few P f step (Some a) is = step a is

map_few : {A : Type 0} (P : A → Type 0) (f : A → List Stmt) → ((a : A) → P a → length (f a) ≤ FIELD_ITEMS) → (o : Option A) → Of P o → AreFew (option_map f o)
map_few P f step None is = tt
map_few P f step (Some a) is = step a is

-- ---- a scenario

module _ (schema : Schema) where
  few : (wanted : _) (stmts : List Stmt) → AreStatements schema wanted stmts → length stmts ≤ FIELD_ITEMS
  few wanted stmts are = let most : length stmts ≤ 16 = are.few in omega (arith, most)

call_of : (s : Scenario) (m c : ℕ) → IsRunnable s → Of (IsCall s.resources) (call_at s m c)
call_of s m c runs =
    then_of (IsManager s.resources) (IsCall s.resources) (call_in c) (λ def is. counted_of (IsCall s.resources) def.calls c is.calls) (counted_at s.managers m)
    (counted_of (IsManager s.resources) s.managers m runs.managers)

module _ (defs : List ResourceDef) where
  at_few : (call : ℕ × Work) → IsCall defs call → AreFew (statements_in call)
  at_few (r, work.At stmts) (def, numbered, is) = few def.schema _ stmts is
  at_few (r, work.Tcc action) is = tt

  try_few : (call : ℕ × Work) → IsCall defs call → AreFew (tries_in call)
  try_few (r, work.At stmts) is = tt
  try_few (r, work.Tcc action) (def, numbered, is) = few def.schema _ action.tries is.0

  -- an action with few statements in each of its second phases
  abbrev IsFewAction : Action → Type 0
  IsFewAction a = (length a.confirms ≤ FIELD_ITEMS) × (length a.cancels ≤ FIELD_ITEMS)

  action_few : (n : ℕ) (call : ℕ × Work) → IsCall defs call → Of IsFewAction (action_in n call)
  action_few n (r, work.At stmts) is = tt
  action_few n (r, work.Tcc action) (def, numbered, is) = by (r == n)
    where
      by : (b : Bool) → Of IsFewAction (if b then Some action else None)
      by true = (few def.schema _ action.confirms is.1, few def.schema _ action.cancels is.2)
      by false = tt

  write_few : (n : ℕ) (one : ℕ × List Stmt) → IsLocal defs one → AreFew (local_in n one)
  write_few n (r, stmts) (def, numbered, is) = by (r == n)
    where
      by : (b : Bool) → AreFew (if b then Some stmts else None)
      by true = few def.schema _ stmts is
      by false = tt

module _ (s : Scenario) (runs : IsRunnable s) where
  pub statements_few : (m c : ℕ) → AreFew (statements_at s m c)
  statements_few m c = then_few (IsCall s.resources) statements_in (at_few s.resources) (call_at s m c) (call_of s m c runs)

  pub tries_few : (m c : ℕ) → AreFew (tries_at s m c)
  tries_few m c = then_few (IsCall s.resources) tries_in (try_few s.resources) (call_at s m c) (call_of s m c runs)

  action_of : (n m c : ℕ) → Of (IsFewAction s.resources) (action_at s n m c)
  action_of n m c = then_of (IsCall s.resources) (IsFewAction s.resources) (action_in n) (action_few s.resources n) (call_at s m c) (call_of s m c runs)

  pub confirms_few : (n m c : ℕ) → AreFew (confirms_at s n m c)
  confirms_few n m c = map_few (IsFewAction s.resources) confirms_in (λ a is. is.0) (action_at s n m c) (action_of n m c)

  pub cancels_few : (n m c : ℕ) → AreFew (cancels_at s n m c)
  cancels_few n m c = map_few (IsFewAction s.resources) cancels_in (λ a is. is.1) (action_at s n m c) (action_of n m c)

  pub local_few : (n k : ℕ) → AreFew (local_at s n k)
  local_few n k = then_few (IsLocal s.resources) (local_in n) (write_few s.resources n) (counted_at s.locals k) (counted_of (IsLocal s.resources) s.locals k runs.locals)

-- ---- open tickets

-- what is found of a ticket
pub found_few : (test : Ticket → Bool) (works : Works) → HaveFew works → IfSome (lookup test works) HasFew
found_few test [] few = tt
found_few test (e ∷ works) few = by (test e.0) (found_few test works few.1)
  where
    by : (b : Bool) → IfSome (lookup test works) HasFew → IfSome (cond b (Some e.1) (lookup test works)) HasFew
    by true rest = few.0
    by false rest = rest
