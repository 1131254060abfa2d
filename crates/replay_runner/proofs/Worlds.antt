-- The nodes of a scenario stand at their numbers, and each call of its managers is one of a resource.
use Rattle.std.proofs.Common.{◌≡◌, ◌+◌, ℕ, zero, suc, List, [], ◌∷◌, All, slice_get, Option, Some, None, option_map, refl, ap, sym, subst, ◌∙◌, arith}
use Rattle.std.proofs.lemmas.List.Elements.{All-head, All-tail}
use Rattle.std.proofs.lemmas.Option.{same_Some}
use Rattle.seata_types.specs.declared.statements.Work.{Work}
use Rattle.scenario_form.specs.declared.scenarios.ManagerDef.{ManagerDef}
use Rattle.scenario_form.specs.declared.scenarios.ResourceDef.{ResourceDef}
use Rattle.scenario_form.specs.declared.scenarios.Scenario.{Scenario}
use Rattle.scenario_form.specs.Contents.{resource_numbered, IsCall}
use Rattle.scenario_form.specs.Runnable.{IsManager, IsRunnable}
use Rattle.history_rules.specs.ResourceMemory.{Setup}
use Rattle.history_rules.specs.ManagerRules.{Settings}
use Rattle.history_rules.specs.Nodes.{counted_at}
use Rattle.history_law.specs.MessageSafety.{NamesItsNodes}
use Rattle.history_text.specs.Worlds.{settings_of, setup_of, resources_from, resources_of, world_of}
use Rattle.history_text.proofs.Worlds.{slice_get-managers, world_of-numbered}

not_none : {A G : Type 0} (a : A) → None ≡ Some a → G
not_none a e = absurd cc

placed_has : {A : Type 0} (P : A → Type 0) (a : A) (list : List A) (k : ℕ) → All P list → slice_get list k ≡ Some a → P a
placed_has P a [] k all e = not_none a e
placed_has P a (b ∷ bs) zero all e = subst P (same_Some b a e) (All-head P b bs all)
placed_has P a (b ∷ bs) (suc k) all e = placed_has P a bs k (All-tail P b bs all) e

-- ---- managers

-- the definition of a manager that stands at a number
record IsDefined (s : Scenario) (number : ℕ) (m : Settings) : Type 0 where
  def : ManagerDef
  is : settings_of s.lock_tries number def ≡ m
  manager : IsManager s.resources def

defined_by : (s : Scenario) (number : ℕ) (o : Option ManagerDef) (m : Settings) → ((def : ManagerDef) → o ≡ Some def → IsManager s.resources def)
    → option_map (settings_of s.lock_tries number) o ≡ Some m → IsDefined s number m
defined_by s number None m are e = not_none m e
defined_by s number (Some def) m are e = record { def = def; is = same_Some (settings_of s.lock_tries number def) m e; manager = are def refl }

manager_defined : (s : Scenario) → IsRunnable s → (n : ℕ) (m : Settings) → counted_at (world_of s).managers n ≡ Some m → IsDefined s n m
manager_defined s runs zero m known = not_none m known
manager_defined s runs (suc k) m known =
    let at : 1 + k ≡ suc k = omega arith in
    subst (λ number. IsDefined s number m) at
    (defined_by s (1 + k) (slice_get s.managers k) m (λ def e. placed_has (IsManager s.resources) def s.managers k runs.managers e)
    (sym (slice_get-managers s.lock_tries 1 s.managers k) ∙ known))

-- ---- resources

resource_placed : (s : Scenario) (n : ℕ) (defs : List ResourceDef) (k : ℕ) (def : ResourceDef) → slice_get defs k ≡ Some def
    → (setup : Setup) × (slice_get (resources_from s n defs) k ≡ Some setup)
resource_placed s n [] k def e = not_none def e
resource_placed s n (first ∷ defs) zero def e = (setup_of s n first, refl)
resource_placed s n (first ∷ defs) (suc k) def e = resource_placed s (n + 1) defs k def e

resource_there : (s : Scenario) (r : ℕ) (def : ResourceDef) → resource_numbered s.resources r ≡ Some def → (setup : Setup) × (counted_at (world_of s).resources r ≡ Some setup)
unfolding resources_of
resource_there s zero def e = not_none def e
resource_there s (suc k) def e = resource_placed s 1 s.resources k def e

-- ---- all

call_there : (s : Scenario) (m : Settings) (number : ℕ) → IsDefined s number m → (c r : ℕ) (work : Work) → slice_get m.calls c ≡ Some (r, work)
    → (setup : Setup) × (counted_at (world_of s).resources r ≡ Some setup)
call_there s m number defined c r work at =
    let here : slice_get defined.def.calls c ≡ Some (r, work) = ap (λ (q : Settings). slice_get q.calls c) defined.is ∙ at in
    let call = placed_has (IsCall s.resources) (r, work) defined.def.calls c defined.manager.calls here in
    resource_there s r call.0 call.1

pub world_of-names : (s : Scenario) → IsRunnable s → NamesItsNodes (world_of s)
world_of-names s runs = record {
  numbered = world_of-numbered s;
  managed = λ n m known. ap (λ (q : Settings). q.number) (sym (manager_defined s runs n m known).is);
  called = λ n m known c r work at. call_there s m n (manager_defined s runs n m known) c r work at;
}
