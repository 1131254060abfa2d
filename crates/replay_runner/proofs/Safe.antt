-- Each legal history of a scenario that can be run is safe.
use Rattle.std.proofs.Common.{List}
use Rattle.scenario_form.specs.declared.scenarios.Scenario.{Scenario}
use Rattle.scenario_form.specs.Runnable.{IsRunnable}
use Rattle.history_rules.specs.Nodes.{Past}
use Rattle.history_rules.specs.Histories.{Moment, Legal}
use Rattle.history_law.specs.ChainSafety.{IsSafeAfterChains}
use Rattle.history_law.proofs.LongerChains.{safety_after_chains}
use Rattle.history_text.specs.Worlds.{world_of}
use Rattle.verdict_law.proofs.Modes.{is_world}

-- behind each chain that its disks' records may follow
pub run_is_safe : (s : Scenario) (past : Past) (ms : List Moment) → IsRunnable s → Legal (world_of s) past ms → IsSafeAfterChains (world_of s) past ms
run_is_safe s past ms runs legal = safety_after_chains (world_of s) past ms (is_world s runs) legal
