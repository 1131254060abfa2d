use Rattle.std.proofs.Common.{◌≡◌, ◌+◌, ◌-◌, ◌++◌, List, length}
use Rattle.history_rules.specs.Histories.{Moment}
use Rattle.history_rules.specs.Schedules.{Auto, times}
use Rattle.replay_runner.specs.Going.{Goes}
use Rattle.replay_runner.specs.Plays.{Plays, Ready}
use Rattle.replay_runner.specs.Steps.{left_of}
use Rattle.replay_runner.proofs.runs.Run.choose_each.Given as goal

-- so many of the steps are left
abbrev pub invariant-loop : goal.invariant-loop
invariant-loop g l = record {
  plays : (ready : Ready g.D.Disk.state l.initial.self (times l.steps (Auto 1)))
      → (ms : List Moment) × Plays g.D.Disk.state ready.s ready.held l.self ms × (left_of ready.s ms ≡ times (l.steps - l.counter) (Auto 1) ++ ready.rest);
  goes : Goes (length l.initial.self.nodes.managers.items) (length l.initial.self.nodes.resources.items) (length l.initial.self.places.items + l.counter) l.self;
}
