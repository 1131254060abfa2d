-- The setup of a resource of a scenario has no more statements than are counted.
use Rattle.std.proofs.Common.{◌≡◌, ◌==◌, ◌&&◌, ◌≤◌, ℕ, zero, suc, Bool, true, false, if◌then◌else◌, List, [], ◌∷◌, All, get_or, length, Option, Some, None, sym, ap, subst, ◌∙◌, arith}
use Rattle.std.specs.List.{AllByRecursion}
use Rattle.seata_types.specs.declared.limits.TheConstants.{FIELD_ITEMS}
use Rattle.seata_types.specs.declared.rows.Row.{Row}
use Rattle.seata_types.specs.declared.statements.Action.{Action}
use Rattle.seata_types.specs.declared.statements.Stmt.{Stmt}
use Rattle.seata_types.specs.declared.statements.Work.{Work}
use Rattle.seata_types.specs.declared.statements.Work.TheVariants as work
use Rattle.local_tables.specs.Rows.{IsOpening}
use Rattle.local_tables.specs.declared.schemas.Schema.{Schema}
use Rattle.scenario_form.specs.declared.scenarios.ResourceDef.{ResourceDef}
use Rattle.scenario_form.specs.declared.scenarios.Scenario.{Scenario}
use Rattle.scenario_form.specs.Contents.{IsCall, IsResource, resource_numbered}
use Rattle.scenario_form.specs.Runnable.{IsRunnable}
use Rattle.history_rules.specs.ResourceMemory.{action_in, local_in}
use Rattle.history_text.specs.Worlds.{actions_at, locals_at, setup_of}
use Rattle.resource_rules.specs.Answers.{AreCounted, IsCounted, IsSetup}
use Rattle.resource_rules.specs.declared.setups.Setup.{Setup}
use Rattle.scenario_setups.proofs.Listed.{OfCall, OfEntry, OfLocal, OfManager, each_action, each_local}
use Rattle.judged_bench.specs.Opening.{setup_with}
use Rattle.history_audit.proofs.Served.{all_at}

some_is : {A : Type 0} (a b : A) → Some a ≡ Some b → a ≡ b
some_is a b e = cc

none_found : {A : Type 0} {B : Type 0} (a : A) → ◌≡◌ {A = Option A} None (Some a) → B
none_found a e = absurd cc

-- ---- what is found is one of them

abbrev IsFew : List Stmt → Type 0
IsFew stmts = length stmts ≤ FIELD_ITEMS

action_found : (xs : List ((ℕ × ℕ) × Action)) → AllByRecursion (OfEntry IsCounted) xs → (m c : ℕ) (a : Action) → action_in m c xs ≡ Some a → IsCounted a
action_found [] all m c a e = none_found a e
action_found (((manager, call), b) ∷ xs) all m c a e = by (action_found xs all.1 m c a) ((manager == m) && (call == c)) e
  where
    by : (action_in m c xs ≡ Some a → IsCounted a) → (here : Bool) → (if here then Some b else action_in m c xs) ≡ Some a → IsCounted a
    by later true is = subst IsCounted (some_is b a is) all.0
    by later false is = later is

local_found : (xs : List (ℕ × List Stmt)) → AllByRecursion (OfLocal IsFew) xs → (k : ℕ) (stmts : List Stmt) → local_in k xs ≡ Some stmts → length stmts ≤ FIELD_ITEMS
local_found [] all k stmts e = none_found stmts e
local_found ((number, found) ∷ xs) all k stmts e = by (local_found xs all.1 k stmts) (number == k) e
  where
    by : (local_in k xs ≡ Some stmts → length stmts ≤ FIELD_ITEMS) → (here : Bool) → (if here then Some found else local_in k xs) ≡ Some stmts → length stmts ≤ FIELD_ITEMS
    by later true is = subst (λ (l : List Stmt). length l ≤ FIELD_ITEMS) (some_is found stmts is) all.0
    by later false is = later is

-- ---- those of a scenario

call_counted : (defs : List ResourceDef) (call : ℕ × Work) → IsCall defs call → OfCall IsCounted call
call_counted defs (r, work.At stmts) is = tt
call_counted defs (r, work.Tcc action) (def, there, is) =
    let tries : length action.tries ≤ 16 = is.0.few in
    let confirms : length action.confirms ≤ 16 = is.1.few in
    let cancels : length action.cancels ≤ 16 = is.2.few in
    record { tries = omega (arith, tries); confirms = omega (arith, confirms); cancels = omega (arith, cancels) }

calls_counted : (s : Scenario) → IsRunnable s → All (OfManager IsCounted) s.managers
calls_counted s runs = λ k d below i e low.
    call_counted s.resources (get_or (get_or s.managers k d).calls i e) ((runs.managers k d below).calls i e low)

locals_few : (s : Scenario) → IsRunnable s → All (OfLocal IsFew) s.locals
locals_few s runs = λ k d below.
    let (def, there, is) = runs.locals k d below in
    let most : length (get_or s.locals k d).1 ≤ 16 = is.few in
    omega (arith, most)

-- ---- the setup

pub setup_counted : (s : Scenario) → IsRunnable s → (n : ℕ) (def : ResourceDef) (is : Setup) → IsSetup is (setup_of s n def) → AreCounted is
setup_counted s runs n def is same = record {
  actions = λ m c a found. action_found (actions_at n 1 s.managers) (each_action IsCounted n 1 s.managers (calls_counted s runs)) m c a (ap (λ (l : List ((ℕ × ℕ) × Action)). action_in m c l) same.actions ∙ found);
  locals = λ k stmts found. local_found (locals_at n 1 s.locals) (each_local IsFew n 1 s.locals (locals_few s runs)) k stmts (ap (λ (l : List (ℕ × List Stmt)). local_in k l) same.locals ∙ found);
}

-- ---- with its tables

listed : (resources : List ResourceDef) (n : ℕ) (def : ResourceDef) → All IsResource resources → resource_numbered resources n ≡ Some def → IsResource def
listed resources zero def all e = none_found def e
listed resources (suc k) def all e = all_at IsResource resources k def all e

pub opening_is : (s : Scenario) → IsRunnable s → (n : ℕ) (def : ResourceDef) → resource_numbered s.resources n ≡ Some def → (number : ℕ) (schema : Schema) (opening : List (List ℕ × Row))
    → schema ≡ def.schema → opening ≡ def.opening → IsOpening number schema opening
opening_is s runs n def there number schema opening same also =
    subst (λ (t : Schema). IsOpening number t opening) (sym same) (subst (λ (o : List (List ℕ × Row)). IsOpening number def.schema o) (sym also) ((listed s.resources n def runs.resources there).opens number))

pub setup_is : (s : Scenario) (n : ℕ) (def : ResourceDef) (is : Setup) (schema : Schema) (opening : List (List ℕ × Row)) → schema ≡ def.schema → opening ≡ def.opening → IsSetup is (setup_of s n def)
    → setup_with is schema opening ≡ setup_of s n def
setup_is s n def is schema opening same also setup = λ i. record {
  number = sym setup.number i;
  schema = same i;
  opening = also i;
  tries = sym setup.tries i;
  actions = sym setup.actions i;
  locals = sym setup.locals i;
}
