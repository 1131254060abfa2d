use Rattle.std.proofs.Common.{List, All, sym, subst}
use Rattle.scenario_form.specs.declared.scenarios.ManagerDef.{ManagerDef}
use Rattle.scenario_setups.specs.Setups.{HasFewCalls}
use Rattle.scenario_setups.proofs.Calls.{few_calls}
use Rattle.scenario_setups.proofs.setups.setup_of.Goals as goal

pub actions_of-requires-clause-calls : goal.actions_of-requires-clause-calls
actions_of-requires-clause-calls c = subst (λ (l : List ManagerDef). All HasFewCalls l) (sym c.as_slice.ensures) (few_calls c.args.scenario.now c.requires)
