-- What a scenario says of a call, an action and a local transaction by their numbers, all counted from 1.
use Rattle.std.specs.Prelude.{◌≡◌, ℕ, ◌==◌, if◌then◌else◌, ◌≤◌, List, length, Option, Some, None, option_map}
use Rattle.std.specs.Option.{option_and_then}
use Rattle.seata_types.specs.declared.limits.TheConstants.{FIELD_ITEMS}
use Rattle.seata_types.specs.declared.statements.Action.{Action}
use Rattle.seata_types.specs.declared.statements.Stmt.{Stmt}
use Rattle.seata_types.specs.declared.statements.Work.{Work}
use Rattle.seata_types.specs.declared.statements.Work.TheVariants as work
use Rattle.scenario_form.specs.declared.scenarios.ManagerDef.{ManagerDef}
use Rattle.scenario_form.specs.declared.scenarios.Scenario.{Scenario}
use Rattle.history_rules.specs.Nodes.{counted_at}

abbrev pub call_in : ℕ → ManagerDef → Option (ℕ × Work)
call_in c def = counted_at def.calls c

-- call c of manager m, with the number of its resource
abbrev pub call_at : Scenario → (m c : ℕ) → Option (ℕ × Work)
call_at s m c = option_and_then (call_in c) (counted_at s.managers m)

-- the statements that an AT call runs as it is opened
abbrev pub statements_in : ℕ × Work → Option (List Stmt)
statements_in (r, work.At stmts) = Some stmts
statements_in (r, work.Tcc action) = None

-- those of the Try of a TCC call
abbrev pub tries_in : ℕ × Work → Option (List Stmt)
tries_in (r, work.At stmts) = None
tries_in (r, work.Tcc action) = Some action.tries

-- the action of a TCC call at resource n
abbrev pub action_in : ℕ → ℕ × Work → Option Action
action_in n (r, work.At stmts) = None
action_in n (r, work.Tcc action) = if r == n then Some action else None

abbrev pub statements_at : Scenario → (m c : ℕ) → Option (List Stmt)
statements_at s m c = option_and_then statements_in (call_at s m c)

abbrev pub tries_at : Scenario → (m c : ℕ) → Option (List Stmt)
tries_at s m c = option_and_then tries_in (call_at s m c)

abbrev pub action_at : Scenario → (n m c : ℕ) → Option Action
action_at s n m c = option_and_then (action_in n) (call_at s m c)

abbrev pub confirms_in : Action → List Stmt
confirms_in action = action.confirms

abbrev pub cancels_in : Action → List Stmt
cancels_in action = action.cancels

-- the statements of the second phase of a TCC call at resource n
abbrev pub confirms_at : Scenario → (n m c : ℕ) → Option (List Stmt)
confirms_at s n m c = option_map confirms_in (action_at s n m c)

abbrev pub cancels_at : Scenario → (n m c : ℕ) → Option (List Stmt)
cancels_at s n m c = option_map cancels_in (action_at s n m c)

abbrev pub local_in : ℕ → ℕ × List Stmt → Option (List Stmt)
local_in n (r, stmts) = if r == n then Some stmts else None

-- the statements of local transaction k, where it is resource n's
abbrev pub local_at : Scenario → (n k : ℕ) → Option (List Stmt)
local_at s n k = option_and_then (local_in n) (counted_at s.locals k)

-- no more statements than an effect is taken of
abbrev pub AreFew : Option (List Stmt) → Type 0
AreFew None = Unit {0}
AreFew (Some stmts) = length stmts ≤ FIELD_ITEMS

-- the statements that were found are those wanted, and few
pub record AreFound (found wanted : Option (List Stmt)) : Type 0 where
  pub is : found ≡ wanted
  pub few : AreFew found
