use Rattle.std.proofs.Common.{◌≡◌, ◌+◌, ◌≤◌, ℕ, List, [], drop, length, map}
use Rattle.seata_types.specs.declared.limits.TheConstants.{STEPS}
use Rattle.scenario_form.specs.declared.scenarios.Scenario.{Scenario}
use Rattle.scenario_form.specs.Runnable.{IsRunnable}
use Rattle.scenario_form.specs.Runnable.{all_steps}
use Rattle.history_rules.specs.Histories.{Moment}
use Rattle.history_rules.specs.Schedules.{singles}
use Rattle.history_text.specs.Worlds.{item_of}
use Rattle.scenario_nodes.specs.Nodes.{Held}
use Rattle.replay_runner.specs.Going.{Goes}
use Rattle.replay_runner.specs.Plays.{Plays}
use Rattle.replay_runner.specs.Steps.{left_of}
use Rattle.replay_runner.proofs.runs.Run.play_all.Given as goal

-- what is left is the steps of the members that are, and there is room for them
abbrev pub invariant-loop-item : goal.invariant-loop-item
invariant-loop-item g l = record {
  plays : (s : Scenario) (held : Held) → IsRunnable s → s.locals ≡ l.locals → s.schedule ≡ l.schedule → Plays g.D.Disk.state s held l.initial.self []
      → (ms : List Moment) × Plays g.D.Disk.state s held l.self ms × (left_of s ms ≡ singles (map item_of (drop l.item-index l.schedule)));
  goes : (entries : ℕ) × Goes (length l.initial.self.nodes.managers.items) (length l.initial.self.nodes.resources.items) entries l.self × (entries + all_steps (drop l.item-index l.schedule) ≤ STEPS);
}
