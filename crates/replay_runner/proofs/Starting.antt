-- What a replay asks for before it plays the schedule of a scenario.
use Rattle.std.proofs.Common.{◌≡◌, ℕ, zero, suc, List, All, length, slice_get, Some, None, ap, sym, subst, ◌∙◌, arith}
use Rattle.std.proofs.lemmas.Option.{get_or_from_slice_get, slice_get_within}
use Rattle.seata_types.specs.declared.statements.Stmt.{Stmt}
use Rattle.scenario_form.specs.declared.scenarios.ResourceDef.{ResourceDef}
use Rattle.scenario_form.specs.declared.scenarios.Scenario.{Scenario}
use Rattle.scenario_form.specs.declared.scenarios.ScheduleItem.{ScheduleItem}
use Rattle.scenario_form.specs.Contents.{IsBetween, IsLocal, resource_numbered}
use Rattle.scenario_form.specs.Runnable.{FitsNodes, IsRunnable}
use Rattle.scenario_form.specs.Runnable.{all_steps}
use Rattle.replay_runner.specs.declared.runs.Run.{Run}
use Rattle.replay_runner.specs.Going.{AreLocals, CanGo, Goes}

-- a resource that is named by a number is there
numbered : (resources : List ResourceDef) (n : ℕ) (def : ResourceDef) → resource_numbered resources n ≡ Some def → IsBetween 1 (length resources) n
numbered resources zero def e = absurd (let no : None ≡ Some def = e in cc)
numbered resources (suc k) def e = let below = slice_get_within resources k def e in (omega arith, omega (arith, below))

module _ (s : Scenario) (runs : IsRunnable s) where
  are_locals : AreLocals (length s.resources) s.locals
  are_locals = record { few = runs.writers; each = each }
    where
      each : (k : ℕ) (local : ℕ × List Stmt) → slice_get s.locals k ≡ Some local → IsBetween 1 (length s.resources) local.0
      each k local here =
          let is : IsLocal s.resources local = subst (λ (l : ℕ × List Stmt). IsLocal s.resources l) (get_or_from_slice_get s.locals k local local here) (runs.locals k local (slice_get_within s.locals k local here)) in
          numbered s.resources local.0 is.0 is.1

  module _ {D K : Type 0} (managers resources : ℕ) (r : Run D K) (g : Goes managers resources 0 r) (few_managers : managers ≡ length s.managers) (few_resources : resources ≡ length s.resources) where
    goes : Goes (length r.nodes.managers.items) (length r.nodes.resources.items) (length r.places.items) r
    goes =
        subst (λ i. Goes i (length r.nodes.resources.items) (length r.places.items) r) (sym g.nodes.manager_count)
        (subst (λ j. Goes managers j (length r.places.items) r) (sym g.nodes.resource_count) (subst (λ k. Goes managers resources k r) (sym g.places) g))

    pub count_of_resources : length r.nodes.resources.items ≡ length s.resources
    count_of_resources = g.nodes.resource_count ∙ few_resources

    count_of_managers : length r.nodes.managers.items ≡ length s.managers
    count_of_managers = g.nodes.manager_count ∙ few_managers

    pub can_start : (schedule : List ScheduleItem) → schedule ≡ s.schedule → CanGo r (all_steps schedule)
    can_start schedule is = record {
      goes = goes;
      room = let none = g.places in let steps = runs.steps in let same = ap all_steps is in omega (arith, none, steps, same);
    }

    pub locals_stand : (locals : List (ℕ × List Stmt)) → locals ≡ s.locals → AreLocals (length r.nodes.resources.items) locals
    locals_stand locals is = subst (AreLocals (length r.nodes.resources.items)) (sym is) (subst (λ n. AreLocals n s.locals) (sym count_of_resources) are_locals)

    fits_all : All (FitsNodes (length r.nodes.resources.items) (length r.nodes.managers.items) (length s.locals)) s.schedule
    fits_all =
        subst (λ n. All (FitsNodes n (length r.nodes.managers.items) (length s.locals)) s.schedule) (sym count_of_resources)
        (subst (λ n. All (FitsNodes (length s.resources) n (length s.locals)) s.schedule) (sym count_of_managers) runs.fits)

    pub all_fit : (locals : List (ℕ × List Stmt)) (schedule : List ScheduleItem) → locals ≡ s.locals → schedule ≡ s.schedule
        → All (FitsNodes (length r.nodes.resources.items) (length r.nodes.managers.items) (length locals)) schedule
    all_fit locals schedule one two =
        subst (λ (ls : List (ℕ × List Stmt)). All (FitsNodes (length r.nodes.resources.items) (length r.nodes.managers.items) (length ls)) schedule) (sym one)
        (subst (λ (items : List ScheduleItem). All (FitsNodes (length r.nodes.resources.items) (length r.nodes.managers.items) (length s.locals)) items) (sym two) fits_all)
