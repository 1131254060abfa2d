-- A resource's setup, in the words of the rules.
use Rattle.std.specs.Prelude.{ℕ, List, map}
use Rattle.seata_types.specs.declared.statements.Action.{Action}

-- an action behind its manager and its call
abbrev pub action_entry : ℕ × ℕ × Action → (ℕ × ℕ) × Action
action_entry a = ((a.0, a.1), a.2)

abbrev pub actions_of : List (ℕ × ℕ × Action) → List ((ℕ × ℕ) × Action)
actions_of actions = map action_entry actions
