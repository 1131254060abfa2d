-- Where the nodes of a scenario stand, and its single steps.
use Rattle.std.proofs.Common.{◌≡◌, ◌+◌, ℕ, zero, suc, List, [], ◌∷◌, ◌++◌, length, slice_get, map, Option, Some, None, option_map, refl, ap, sym, ◌∙◌, arith}
use Rattle.scenario_form.specs.declared.scenarios.ManagerDef.{ManagerDef}
use Rattle.scenario_form.specs.declared.scenarios.ResourceDef.{ResourceDef}
use Rattle.scenario_form.specs.declared.scenarios.Scenario.{Scenario}
use Rattle.history_rules.specs.ResourceMemory.{Setup}
use Rattle.history_rules.specs.Nodes.{counted_at}
use Rattle.history_text.specs.Worlds.{settings_of, managers_from, resources_from, resources_of, world_of, AreNumbered}

-- a manager's settings stand at its place
pub slice_get-managers : (tries n : ℕ) (defs : List ManagerDef) (k : ℕ)
    → slice_get (managers_from tries n defs) k ≡ option_map (settings_of tries (n + k)) (slice_get defs k)
slice_get-managers tries n [] k = refl
slice_get-managers tries n (def ∷ defs) zero = ap (λ j. Some (settings_of tries j def)) (omega arith)
slice_get-managers tries n (def ∷ defs) (suc k) =
    slice_get-managers tries (n + 1) defs k ∙ ap (λ j. option_map (settings_of tries j) (slice_get defs k)) (omega arith)

-- where there are no resources, none stand
pub resources_of-none : (s : Scenario) → s.resources ≡ [] → resources_of s ≡ []
unfolding resources_of
resources_of-none s none = rw none refl

resource_number : (s : Scenario) (n : ℕ) (defs : List ResourceDef) (k : ℕ) (setup : Setup)
    → slice_get (resources_from s n defs) k ≡ Some setup → setup.number ≡ n + k
resource_number s n [] k setup e = absurd (let no : None ≡ Some setup = e in cc)
resource_number s n (def ∷ defs) zero setup e =
    let first : n ≡ setup.number = ap (λ (o : Option Setup). number_or o n) e in omega (arith, first)
  where
    number_or : Option Setup → ℕ → ℕ
    number_or None other = other
    number_or (Some found) other = found.number
resource_number s n (def ∷ defs) (suc k) setup e = let later = resource_number s (n + 1) defs k setup e in omega (arith, later)

pub world_of-numbered : (s : Scenario) → AreNumbered (world_of s)
unfolding resources_of
world_of-numbered s zero setup e = absurd (let no : None ≡ Some setup = e in cc)
world_of-numbered s (suc k) setup e = let number = resource_number s 1 s.resources k setup e in omega (arith, number)
