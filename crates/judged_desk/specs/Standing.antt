-- What the coordinator's own entries left.
use Rattle.std.specs.Prelude.{◌≡◌, true, false, List, [], None, IfSome}
use Rattle.history_rules.specs.Own.{Own}
use Rattle.history_rules.specs.CoordinatorMemory.{Times, sessions_left}
use Rattle.history_rules.specs.Devices.{is_down}
use Rattle.session_memory.specs.Changes.{may_come}
use Rattle.coordinator_rules.specs.Knowledge.{Knowledge, times_in}
use Rattle.coordinator_rules.specs.Tracks.{Course}
use Rattle.coordinator_rules.specs.Tracks.{Follows as Knows}
use Rattle.judged_desk.specs.declared.coordinators.Coordinator.{Coordinator}

-- these own entries, over disks without records
abbrev pub course : List Own → Course
course os = record { past = []; owns = os }

-- what a coordinator knows and plans
abbrev pub knowledge : Coordinator → Knowledge
knowledge c = record { retry = c.retry; forget = c.forget; memory = c.memory; moments = c.moments }

-- a coordinator with these settings is what these entries left: what it knows and plans, and the record in flight, which may come
pub record Stands (t : Times) (os : List Own) (c : Coordinator) : Type 0 where
  pub times : times_in (knowledge c) ≡ t
  pub knows : Knows (knowledge c) (course os)
  pub flight : c.flight ≡ (sessions_left [] os).flight
  pub comes : IfSome c.flight (λ item. may_come c.memory item ≡ true)
  pub idle : is_down os ≡ false → c.flight ≡ None
