-- The setup of a resource of a scenario is within the limits.
use Rattle.std.proofs.Common.{◌≡◌, ℕ, List, All, length, slice_get, Some, sym, subst, arith}
use Rattle.std.specs.List.{AllByRecursion}
use Rattle.seata_types.specs.declared.rows.Row.{Row}
use Rattle.local_tables.specs.declared.schemas.Schema.{Schema}
use Rattle.resource_store.specs.Meaning.{Opens, setting}
use Rattle.record_places.specs.Within.{IsTableWithin}
use Rattle.scenario_form.specs.Contents.{IsBetween, IsResource}
use Rattle.scenario_form.specs.Runnable.{IsRunnable}
use Rattle.scenario_form.specs.declared.scenarios.ResourceDef.{ResourceDef}
use Rattle.scenario_form.specs.declared.scenarios.Scenario.{Scenario}
use Rattle.resource_core.specs.declared.setup.Setup.{Setup}
use Rattle.resource_core.specs.NodeOpening.{IsSetupWithin}
use Rattle.resource_core.specs.Ready.{HasActionWithin, HasStmtsWithin}
use Rattle.scenario_nodes.specs.Calls.{HasTypes}
use Rattle.scenario_nodes.proofs.Passes.{placed}
use Rattle.scenario_nodes.proofs.Tables.{resource_opens, tables_within}

pub setup_within : (s : Scenario) → IsRunnable s → (n k : ℕ) (def : ResourceDef) → IsBetween 1 (length s.resources) n → slice_get s.resources k ≡ Some def → All HasTypes def.opening
    → (setup : Setup) → setup.schema ≡ def.schema → setup.opening ≡ def.opening → AllByRecursion HasActionWithin setup.actions → AllByRecursion HasStmtsWithin setup.locals → IsSetupWithin n setup
setup_within s runs n k def counted at typed setup schema opening actions locals =
    let is = placed IsResource s.resources k def at runs.resources in
    let most = counted.1 in
    let few = runs.servers in
    record {
      counted = (counted.0, omega (arith, few, most));
      opens = subst (λ (t : Schema). Opens (setting n t setup.opening)) (sym schema) (subst (λ (o : List (List ℕ × Row)). Opens (setting n def.schema o)) (sym opening) (resource_opens n def is typed));
      tables = subst (λ (t : Schema). AllByRecursion IsTableWithin t.tables) (sym schema) (tables_within def.schema.tables is.schema.each);
      actions = actions;
      locals = locals;
    }
