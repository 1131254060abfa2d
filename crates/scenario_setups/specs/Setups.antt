-- For the proofs alone: what is made of the calls of a scenario.
use Rattle.std.specs.Prelude.{◌==◌, ◌≤◌, ℕ, if◌then◌else◌, length, Option, Some, None}
use Rattle.seata_types.specs.declared.limits.TheConstants.{CALLS}
use Rattle.seata_types.specs.declared.statements.Action.{Action}
use Rattle.seata_types.specs.declared.statements.Work.{Work}
use Rattle.seata_types.specs.declared.statements.Work.TheVariants as work
use Rattle.scenario_form.specs.declared.scenarios.ManagerDef.{ManagerDef}

-- the action of a call, where it is a TCC call of resource r
abbrev pub action_here : (r : ℕ) → ℕ × Work → Option Action
action_here r (resource, work.Tcc action) = if resource == r then Some action else None
action_here r (resource, work.At stmts) = None

-- no more calls than a manager has
abbrev pub HasFewCalls : ManagerDef → Type 0
HasFewCalls def = length def.calls ≤ CALLS
