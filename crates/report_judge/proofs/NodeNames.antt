-- The names of a scenario's nodes are names as printed lines have them.
use Rattle.std.proofs.Common.{◌≡◌, ◌&&◌, ◌||◌, not, ℕ, true, false, List, [], ◌∷◌, ◌++◌, All, map, refl, ap, ◌∙◌}
use Rattle.std.specs.List.{AllByRecursion, IsDistinct, list_all, list_any}
use Rattle.std.proofs.lemmas.List.Elements.{All-head, All-tail}
use Rattle.std.proofs.lemmas.List.Folds.{list_all-append}
use Rattle.std.proofs.lemmas.Map.Keys.{IsDistinct-head, IsDistinct-tail}
use Rattle.seata_types.specs.Orders.{same_text}
use Rattle.scenario_form.specs.declared.scenarios.ManagerDef.{ManagerDef}
use Rattle.scenario_form.specs.declared.scenarios.ResourceDef.{ResourceDef}
use Rattle.scenario_form.specs.declared.scenarios.Scenario.{Scenario}
use Rattle.scenario_form.specs.Contents.{IsResource}
use Rattle.scenario_form.specs.Names.{is_node_name}
use Rattle.scenario_form.specs.Runnable.{IsManager, IsRunnable}
use Rattle.history_text.specs.Report.{manager_name, names_of, resource_name}
use Rattle.entry_reader.specs.Writable.{AreNodeNames, are_different}
use Rattle.entry_reader.proofs.Tests.{both}

resources_named : (defs : List ResourceDef) → All IsResource defs → list_all is_node_name (map resource_name defs) ≡ true
resources_named [] all = refl
resources_named (def ∷ defs) all =
    both (is_node_name def.name) (list_all is_node_name (map resource_name defs)) (All-head IsResource def defs all).name.form (resources_named defs (All-tail IsResource def defs all))

managers_named : (resources : List ResourceDef) (defs : List ManagerDef) → All (IsManager resources) defs → list_all is_node_name (map manager_name defs) ≡ true
managers_named resources [] all = refl
managers_named resources (def ∷ defs) all =
    both (is_node_name def.name) (list_all is_node_name (map manager_name defs)) (All-head (IsManager resources) def defs all).name.form
    (managers_named resources defs (All-tail (IsManager resources) def defs all))

none_same : (name : List ℕ) (names : List (List ℕ)) → AllByRecursion (λ y. same_text name y ≡ false) names → list_any (same_text name) names ≡ false
none_same name [] all = refl
none_same name (y ∷ ys) all = ap (λ b. b || list_any (same_text name) ys) all.0 ∙ none_same name ys all.1

all_different : (names : List (List ℕ)) → IsDistinct same_text names → are_different names ≡ true
all_different [] all = refl
all_different (name ∷ names) all =
    ap (λ b. not b && are_different names) (none_same name names (IsDistinct-head same_text name names all)) ∙ all_different names (IsDistinct-tail same_text name names all)

pub names_are : (s : Scenario) → IsRunnable s → AreNodeNames (names_of s)
names_are s runs = record {
  form = list_all-append is_node_name (map resource_name s.resources) (map manager_name s.managers)
      ∙ both (list_all is_node_name (map resource_name s.resources)) (list_all is_node_name (map manager_name s.managers))
      (resources_named s.resources runs.resources) (managers_named s.resources s.managers runs.managers);
  different = all_different (map resource_name s.resources ++ map manager_name s.managers) runs.different;
}
