-- The tables that the statements of a scenario name: those of AT calls AT tables, those of TCC actions TCC tables.
use Rattle.std.proofs.Common.{◌≡◌, inl, inr, ◌+◌, ◌==◌, ℕ, zero, suc, Bool, true, false, if◌then◌else◌, List, [], ◌∷◌, ◌++◌, All, slice_get, Some, None, refl, ap, sym, subst, ◌∙◌, arith}
use Rattle.std.specs.Prelude.{◌&&◌}
use Rattle.std.proofs.lemmas.Bool.Decides.{nat_tests}
use Rattle.std.proofs.lemmas.List.Elements.{All-head, All-tail}
use Rattle.seata_types.specs.declared.statements.Action.{Action}
use Rattle.seata_types.specs.declared.statements.Stmt.{Stmt}
use Rattle.seata_types.specs.declared.statements.Stmt.TheVariants as stmt
use Rattle.seata_types.specs.declared.statements.Work.{Work}
use Rattle.seata_types.specs.declared.statements.Work.TheVariants as work
use Rattle.seata_types.specs.declared.statuses.BranchKind.{BranchKind}
use Rattle.seata_types.specs.declared.statuses.BranchKind.TheVariants as kind
use Rattle.local_tables.specs.Checks as checks
use Rattle.local_tables.specs.Rows.{table_named}
use Rattle.local_tables.specs.declared.schemas.Schema.{Schema}
use Rattle.local_tables.specs.declared.schemas.TableDef.{TableDef}
use Rattle.scenario_form.specs.declared.scenarios.ManagerDef.{ManagerDef}
use Rattle.scenario_form.specs.declared.scenarios.ResourceDef.{ResourceDef}
use Rattle.scenario_form.specs.declared.scenarios.Scenario.{Scenario}
use Rattle.scenario_form.specs.Contents as calls
use Rattle.scenario_form.specs.Contents.{IsStatement, AreStatements, IsWork, resource_numbered, IsCall}
use Rattle.scenario_form.specs.Runnable.{IsManager, IsRunnable}
use Rattle.history_rules.specs.ResourceMemory.{Setup, action_in}
use Rattle.history_rules.specs.ManagerRules.{Settings}
use Rattle.history_rules.specs.Nodes.{counted_at}
use Rattle.history_law.specs.Points.{In}
use Rattle.history_law.specs.Safety.{IsScenario as IsWorld}
use Rattle.history_law.specs.ValueSafety.{NameTables, WorksOn, HasModes}
use Rattle.history_text.proofs.Worlds.{world_of-numbered}
use Rattle.history_text.specs.Worlds.{settings_of, managers_from, call_actions, actions_at, setup_of, resources_from, resources_of, world_of}

-- ---- lists

same_some : {A : Type 0} (a b : A) → Some a ≡ Some b → a ≡ b
same_some a b e = cc

not_none : {A G : Type 0} (a : A) → None ≡ Some a → G
not_none a e = absurd cc

member_has : {A : Type 0} (P : A → Type 0) (a : A) (list : List A) → All P list → In a list → P a
member_has P a [] all member = elim member [ ]
member_has P a (b ∷ bs) all (inl same) = subst P (sym same) (All-head P b bs all)
member_has P a (b ∷ bs) all (inr later) = member_has P a bs (All-tail P b bs all) later

placed_has : {A : Type 0} (P : A → Type 0) (a : A) (list : List A) (k : ℕ) → All P list → slice_get list k ≡ Some a → P a
placed_has P a [] k all e = not_none a e
placed_has P a (b ∷ bs) zero all e = subst P (same_some b a e) (All-head P b bs all)
placed_has P a (b ∷ bs) (suc k) all e = placed_has P a bs k (All-tail P b bs all) e

-- ---- statements

same_table : (s : Stmt) → checks.table_of s ≡ calls.table_of s
same_table (stmt.Insert table columns tuples) = refl
same_table (stmt.Update table sets asked) = refl
same_table (stmt.Delete table asked) = refl
same_table (stmt.Select table asked) = refl

suited : (wanted mode : BranchKind) (s : Stmt) → calls.suits wanted mode s ≡ true → mode ≡ wanted
suited kind.At kind.At s e = refl
suited kind.Tcc kind.Tcc s e = refl
suited kind.At kind.Tcc s e = absurd cc
suited kind.Tcc kind.At s e = absurd cc

stands_on : (schema : Schema) (wanted : BranchKind) (s : Stmt) (def : TableDef)
    → IsStatement schema wanted s → table_named schema (checks.table_of s) ≡ Some def → def.mode ≡ wanted
stands_on schema wanted s def is named =
    let there : Some is.stands.0 ≡ Some def = sym is.stands.1 ∙ ap (λ name. table_named schema name) (sym (same_table s)) ∙ named in
    suited wanted def.mode s (subst (λ (d : TableDef). calls.suits wanted d.mode s ≡ true) (same_some is.stands.0 def there) is.stands.2)

-- the statements of a part of a scenario name tables of its mode at the resource
name_tables : (setup : Setup) (schema : Schema) (wanted : BranchKind) (stmts : List Stmt)
    → setup.schema ≡ schema → AreStatements schema wanted stmts → NameTables setup wanted stmts
name_tables setup schema wanted stmts same are s member def named =
    stands_on schema wanted s def (member_has (IsStatement schema wanted) s stmts are.each member) (subst (λ at. table_named at (checks.table_of s) ≡ Some def) same named)

works_on : (setup : Setup) (schema : Schema) (w : Work) → setup.schema ≡ schema → IsWork schema w → WorksOn setup w
works_on setup schema (work.At stmts) same is = name_tables setup schema kind.At stmts same is
works_on setup schema (work.Tcc action) same (tries, confirms, cancels) = name_tables setup schema kind.Tcc action.tries same tries

-- ---- nodes

manager_at : (tries n : ℕ) (defs : List ManagerDef) (k : ℕ) (m : Settings) → slice_get (managers_from tries n defs) k ≡ Some m
    → (def : ManagerDef) × (slice_get defs k ≡ Some def) × (def.calls ≡ m.calls)
manager_at tries n [] k m e = not_none m e
manager_at tries n (def ∷ defs) zero m e = (def, refl, ap (λ (s : Settings). s.calls) (same_some (settings_of tries n def) m e))
manager_at tries n (def ∷ defs) (suc k) m e = manager_at tries (n + 1) defs k m e

-- a resource with the schema of its definition and the actions of the managers' calls of it
record IsSetup (s : Scenario) (number : ℕ) (def : ResourceDef) (setup : Setup) : Type 0 where
  schema : setup.schema ≡ def.schema
  actions : setup.actions ≡ actions_at number 1 s.managers

setup_at : (s : Scenario) (n : ℕ) (defs : List ResourceDef) (k : ℕ) (setup : Setup) → slice_get (resources_from s n defs) k ≡ Some setup
    → (def : ResourceDef) × (slice_get defs k ≡ Some def) × IsSetup s (n + k) def setup
setup_at s n [] k setup e = not_none setup e
setup_at s n (def ∷ defs) zero setup e =
    let same : setup_of s n def ≡ setup = same_some (setup_of s n def) setup e in
    let at : n ≡ n + 0 = omega arith in
    (def, refl, subst (λ (found : Setup). IsSetup s (n + 0) def found) same (record { schema = refl; actions = ap (λ j. actions_at j 1 s.managers) at }))
setup_at s n (def ∷ defs) (suc k) setup e =
    let later = setup_at s (n + 1) defs k setup e in
    let at : n + 1 + k ≡ n + suc k = omega arith in
    (later.0, later.1, subst (λ j. IsSetup s j later.0 setup) at later.2)

-- the resource at a number is that of the definitions
resource_at : (s : Scenario) (r : ℕ) (setup : Setup) → counted_at (world_of s).resources r ≡ Some setup
    → (def : ResourceDef) × (resource_numbered s.resources r ≡ Some def) × IsSetup s r def setup
unfolding resources_of
resource_at s zero setup e = not_none setup e
resource_at s (suc k) setup e =
    let found = setup_at s 1 s.resources k setup e in
    let at : 1 + k ≡ suc k = omega arith in
    (found.0, found.1, subst (λ j. IsSetup s j found.0 setup) at found.2)

manager_of : (s : Scenario) (k : ℕ) (m : Settings) → IsRunnable s → counted_at (world_of s).managers k ≡ Some m → All (IsCall s.resources) m.calls
manager_of s zero m runs e = not_none m e
manager_of s (suc k) m runs e =
    let found = manager_at s.lock_tries 1 s.managers k m e in
    let is : IsManager s.resources found.0 = placed_has (IsManager s.resources) found.0 s.managers k runs.managers found.1 in
    subst (All (IsCall s.resources)) found.2 is.calls

-- ---- calls

call_works : (s : Scenario) (r : ℕ) (w : Work) (setup : Setup) → IsCall s.resources (r, w) → counted_at (world_of s).resources r ≡ Some setup → WorksOn setup w
call_works s r w setup (def, numbered, is) there =
    let found = resource_at s r setup there in
    let same : def ≡ found.0 = same_some def found.0 (sym numbered ∙ found.1) in
    works_on setup def.schema w (found.2.schema ∙ ap (λ (d : ResourceDef). d.schema) (sym same)) is

-- ---- actions

-- an action of a call of resource r
abbrev IsActionAt : List ResourceDef → ℕ → Action → Type 0
IsActionAt resources r a = IsCall resources (r, work.Tcc a)

module _ (resources : List ResourceDef) (r m k : ℕ) (a : Action) where
  abbrev Found : List ((ℕ × ℕ) × Action) → Type 0
  Found actions = action_in m k actions ≡ Some a → IsActionAt resources r a

  first_found : (b : Bool) (action : Action) (rest : List ((ℕ × ℕ) × Action)) → IsActionAt resources r action → Found rest
      → (if b then Some action else action_in m k rest) ≡ Some a → IsActionAt resources r a
  first_found true action rest is later e = subst (IsActionAt resources r) (same_some action a e) is
  first_found false action rest is later e = later e

  kept_if : (b : Bool) (resource manager c : ℕ) (action : Action) (rest behind : List ((ℕ × ℕ) × Action)) → (b ≡ true → resource ≡ r)
      → IsCall resources (resource, work.Tcc action) → Found (rest ++ behind) → Found ((if b then ((manager, c), action) ∷ rest else rest) ++ behind)
  kept_if true resource manager c action rest behind same is later =
      first_found ((manager == m) && (c == k)) action (rest ++ behind) (subst (λ n. IsCall resources (n, work.Tcc action)) (same refl) is) later
  kept_if false resource manager c action rest behind same is later = later

  in_calls : (manager c : ℕ) (calls : List (ℕ × Work)) (behind : List ((ℕ × ℕ) × Action)) → All (IsCall resources) calls → Found behind
      → Found (call_actions r manager c calls ++ behind)
  in_calls manager c [] behind all later = later
  in_calls manager c ((resource, work.At stmts) ∷ calls) behind all later =
      in_calls manager (c + 1) calls behind (All-tail (IsCall resources) (resource, work.At stmts) calls all) later
  in_calls manager c ((resource, work.Tcc action) ∷ calls) behind all later =
      kept_if (resource == r) resource manager c action (call_actions r manager (c + 1) calls) behind (λ e. grind (arith, nat_tests))
      (All-head (IsCall resources) (resource, work.Tcc action) calls all)
      (in_calls manager (c + 1) calls behind (All-tail (IsCall resources) (resource, work.Tcc action) calls all) later)

  in_managers : (n : ℕ) (defs : List ManagerDef) → All (IsManager resources) defs → Found (actions_at r n defs)
  in_managers n [] all = λ e. not_none a e
  in_managers n (def ∷ defs) all =
      in_calls n 1 def.calls (actions_at r (n + 1) defs) (All-head (IsManager resources) def defs all).calls
      (in_managers (n + 1) defs (All-tail (IsManager resources) def defs all))

-- ---- all

world_of-modes : (s : Scenario) → IsRunnable s → HasModes (world_of s)
world_of-modes s runs = record {
  calls = λ k m known c r w at setup there.
      call_works s r w setup (placed_has (IsCall s.resources) (r, w) m.calls c (manager_of s k m runs known) at) there;
  actions = λ n setup there manager c a found.
      let at = resource_at s n setup there in
      let is : IsActionAt s.resources n a = in_managers s.resources n manager c a 1 s.managers runs.managers (ap (λ actions. action_in manager c actions) (sym at.2.actions) ∙ found) in
      let same : is.0 ≡ at.0 = same_some is.0 at.0 (sym is.1 ∙ at.1) in
      let schema : setup.schema ≡ is.0.schema = at.2.schema ∙ ap (λ (d : ResourceDef). d.schema) (sym same) in
      (name_tables setup is.0.schema kind.Tcc a.confirms schema is.2.1, name_tables setup is.0.schema kind.Tcc a.cancels schema is.2.2);
}

-- it is a scenario of the rules
pub is_world : (s : Scenario) → IsRunnable s → IsWorld (world_of s)
is_world s runs = record { numbered = world_of-numbered s; modes = world_of-modes s runs }
