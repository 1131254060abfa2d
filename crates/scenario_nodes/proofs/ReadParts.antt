-- What the parts of a scenario that was read are made of.
use Rattle.std.proofs.Common.{◌≡◌, ◌≤◌, ℕ, zero, suc, List, All, get_or, length, slice_get, Some, None, arith}
use Rattle.std.proofs.lemmas.Option.{slice_get_within}
use Rattle.seata_types.specs.declared.limits.TheConstants.{RESOURCES}
use Rattle.seata_types.specs.declared.statements.Stmt.{Stmt}
use Rattle.seata_types.specs.declared.statements.Work.{Work}
use Rattle.seata_types.specs.declared.statements.Work.TheVariants as work
use Rattle.seata_types.specs.declared.statuses.BranchKind.{BranchKind}
use Rattle.local_tables.specs.declared.schemas.Schema.{Schema}
use Rattle.scenario_form.specs.Contents.{AreStatements, IsBetween, IsCall, IsWork, resource_numbered}
use Rattle.scenario_form.specs.declared.scenarios.ManagerDef.{ManagerDef}
use Rattle.scenario_form.specs.declared.scenarios.ResourceDef.{ResourceDef}
use Rattle.scenario_form.specs.declared.scenarios.Scenario.{Scenario}
use Rattle.scenario_form.specs.Runnable.{IsManager, IsRunnable, IsTimed}
use Rattle.history_text.specs.Worlds.{settings_of}
use Rattle.manager_core.specs.Within.{IsCallWithin, IsWithin}
use Rattle.scenario_nodes.specs.Calls.{AreRead, HasReadCalls, IsFramableCall, IsReadCall, IsReadLocal, IsReadWork}
use Rattle.scenario_nodes.proofs.Passes.{placed}

-- ---- statements

statements_read : (schema : Schema) (wanted : BranchKind) (stmts : List Stmt) → AreStatements schema wanted stmts → AreRead stmts
statements_read schema wanted stmts are = record { few = are.few; each = λ k d below. (are.each k d below).read }

work_read : (schema : Schema) (w : Work) → IsWork schema w → IsReadWork w
work_read schema (work.At stmts) is = statements_read schema _ stmts is
work_read schema (work.Tcc action) (tries, confirms, cancels) = record {
  tries = statements_read schema _ action.tries tries;
  confirms = statements_read schema _ action.confirms confirms;
  cancels = statements_read schema _ action.cancels cancels;
}

pub calls_read : (resources : List ResourceDef) (calls : List (ℕ × Work)) → All (IsCall resources) calls → All IsReadCall calls
calls_read resources calls all = λ k d below. let (def, there, is) = all k d below in work_read def.schema (get_or calls k d).1 is

pub managers_read : (s : Scenario) → IsRunnable s → All HasReadCalls s.managers
managers_read s runs = λ k d below. let m = runs.managers k d below in record { few = m.few; each = calls_read s.resources (get_or s.managers k d).calls m.calls }

pub locals_read : (s : Scenario) → IsRunnable s → All IsReadLocal s.locals
locals_read s runs = λ k d below. let (def, there, is) = runs.locals k d below in statements_read def.schema _ (get_or s.locals k d).1 is

-- ---- managers

-- a resource that has a number is counted
numbered : (resources : List ResourceDef) (n : ℕ) (def : ResourceDef) → resource_numbered resources n ≡ Some def → (1 ≤ n) × (n ≤ length resources)
numbered resources zero def e = absurd (let no : None ≡ Some def = e in cc)
numbered resources (suc k) def e = let below = slice_get_within resources k def e in (omega arith, omega (arith, below))

call_within : (resources : List ResourceDef) (call : ℕ × Work) → length resources ≤ RESOURCES → IsCall resources call → IsFramableCall call → IsCallWithin call
call_within resources call few (def, there, is) framable =
    let (low, high) = numbered resources call.0 def there in
    record { resource = (low, omega (arith, high, few)); layout = framable.layout; limits = framable.limits }

pub manager_within : (s : Scenario) → IsRunnable s → (n k : ℕ) (def : ManagerDef) → IsBetween 1 (length s.managers) n → slice_get s.managers k ≡ Some def → All IsFramableCall def.calls
    → IsWithin (settings_of s.lock_tries n def)
manager_within s runs n k def counted at framable =
    let few = runs.few in
    let most = counted.1 in
    let m = placed (IsManager s.resources) s.managers k def at runs.managers in
    let timed = placed IsTimed s.managers k def at runs.timed in
    record {
      numbered = (counted.0, omega (arith, few, most));
      timed = (timed.least, timed.most);
      few = m.few;
      calls = λ i d below. call_within s.resources (get_or def.calls i d) runs.servers (m.calls i d below) (framable i d below);
    }
