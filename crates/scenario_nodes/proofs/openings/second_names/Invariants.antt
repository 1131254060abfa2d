use Rattle.std.proofs.Common.{drop, map}
use Rattle.scenario_form.specs.Runnable.{resource_name}
use Rattle.scenario_nodes.proofs.Cut.{IsItsSecond}
use Rattle.scenario_nodes.proofs.Together.{AreFirst}
use Rattle.scenario_nodes.proofs.openings.second_names.Given as goal

-- those of the first ones were made
abbrev pub invariant-loop-def : goal.invariant-loop-def
invariant-loop-def l = AreFirst IsItsSecond (map resource_name l.defs) l.names.items (map resource_name (drop l.def-index l.defs))
