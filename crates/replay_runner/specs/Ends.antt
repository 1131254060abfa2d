-- How a replay ends before its schedule does.
use Rattle.std.specs.Prelude.{◌≡◌, ◌≤◌, ℕ, List, Some}
use Rattle.journal_checkpoint.specs.Images.{Pair}
use Rattle.seata_types.specs.declared.ids.Place.{Place}
use Rattle.scenario_form.specs.declared.scenarios.Scenario.{Scenario}
use Rattle.history_rules.specs.Own.{Event}
use Rattle.history_rules.specs.Nodes.{Role, role_at}
use Rattle.history_rules.specs.Histories.{Moment, own}
use Rattle.node_steps.specs.Durable.{own_faults}
use Rattle.history_text.specs.Worlds.{world_of}
use Rattle.node_seat.specs.Faults.{Blames}
use Rattle.node_seat.specs.declared.faults.RunFault.{RunFault}
use Rattle.node_seat.specs.declared.faults.RunFault.TheVariants as fault
use Rattle.scenario_nodes.specs.Nodes.{Held}
use Rattle.replay_runner.specs.Steps.{IsNextEvent}

-- These are the disks of each node. The event that the schedule's next step brings to a node made no entry, for this cause.
pub record StopsAt (s : Scenario) (held : Held) (ms : List Moment) (disks : Place → Pair) (missed : RunFault) : Type 0 where
  pub at : Place
  pub role : Role
  pub there : role_at (world_of s) held.past at ≡ Some role
  pub now : ℕ
  pub event : Event
  pub is_next : IsNextEvent s held.past ms at now event
  pub blames : Blames at role (held.starts at) s.disk (own at ms) now event (disks at) missed

-- why a replay ended after these moments; want of memory is free
abbrev pub IsCause : Scenario → Held → List Moment → (disks : Place → Pair) → RunFault → Type 0
IsCause s held ms disks fault.NoMemory = Unit {0}
IsCause s held ms disks missed = StopsAt s held ms disks missed

-- These are the disks of each node. Those of the node at a place counted a fault, whatever they tell; said of a failure alone.
abbrev pub HaveCountedAt : (disks : Place → Pair) → RunFault → Type 0
HaveCountedAt disks (fault.Store at) = 1 ≤ own_faults (disks at)
HaveCountedAt disks _ = Unit {0}
