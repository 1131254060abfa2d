use Rattle.std.proofs.Common.{◌≡◌, ◌+◌, ◌++◌, drop}
use Rattle.history_text.specs.Worlds.{call_actions}
use Rattle.resource_rules.specs.Setups.{actions_of}
use Rattle.scenario_setups.proofs.setups.put_calls.Given as goal

abbrev pub invariant-loop-k : goal.invariant-loop-k
invariant-loop-k l =
    actions_of l.made.items ++ call_actions l.resource l.manager (l.k + 1) (drop l.k l.calls) ≡ actions_of l.initial.made.items ++ call_actions l.resource l.manager 1 l.calls
