-- One entry of a node among the nodes of a replay.
use Rattle.std.specs.Prelude.{◌≡◌, ◌⊎◌, ◌+◌, ℕ, List, ◌∷◌, length, Option, Some, Result, Ok, Err}
use Rattle.disk_model.specs.Disk.{DiskState}
use Rattle.seata_types.specs.declared.ids.Place.{Place}
use Rattle.seata_types.specs.declared.ids.Place.TheVariants as place
use Rattle.seata_types.specs.declared.messages.Input.{Input}
use Rattle.seata_types.specs.declared.messages.Step.{Step}
use Rattle.scenario_form.specs.declared.scenarios.Scenario.{Scenario}
use Rattle.history_rules.specs.Own.{Event}
use Rattle.history_rules.specs.Nodes.{ComesTo, Happens, Role, role_at}
use Rattle.history_rules.specs.Histories.{Moment, own}
use Rattle.history_rules.specs.Histories.{Cause as Reason}
use Rattle.history_rules.specs.Schedules.{earliest, places}
use Rattle.node_steps.specs.Ends.{EntryFits}
use Rattle.node_steps.specs.Nodes.{own_entry}
use Rattle.history_text.specs.declared.entries.Cause.{Cause}
use Rattle.history_text.specs.History.{cause_of}
use Rattle.history_text.specs.Worlds.{world_of}
use Rattle.node_seat.specs.Entering.{event_by}
use Rattle.node_seat.specs.Faults.{Blames}
use Rattle.node_seat.specs.declared.faults.RunFault.{RunFault}
use Rattle.node_seat.specs.declared.faults.RunFault.TheVariants as fault
use Rattle.scenario_nodes.specs.Nodes.{Held}
use Rattle.replay_runner.specs.declared.messages.Letter.{Letter}
use Rattle.replay_runner.specs.declared.nodes.Nodes.{Nodes}
use Rattle.replay_runner.specs.Letters.{letter_of}
use Rattle.replay_runner.specs.Standing.{AllStand, AreNodes, disks_at}
use Rattle.replay_runner.specs.Steps.{next}

-- The nodes stand for a history of a scenario, and the next entry brings an event to one of them.
pub record Comes {D K : Type 0} (state : D → DiskState) (n : Nodes D K) (stamp : ℕ) (at : Place) (printed : Cause) (given : Option Input) : Type 0 where
  pub s : Scenario
  pub held : Held
  pub ms : List Moment
  pub nodes : AreNodes state s held n ms
  pub stamped : stamp ≡ length ms + 1
  pub role : Role
  pub there : role_at (world_of s) held.past at ≡ Some role
  pub why : Reason
  pub is_printed : printed ≡ cause_of why
  pub event : Event
  pub is_event : event_by printed given ≡ Some event
  pub fits : ComesTo role event

-- the moment that this makes, with a step
abbrev pub moment_by : {D K : Type 0} → {state : D → DiskState} → {n : Nodes D K} → {stamp : ℕ} → {printed : Cause} → {given : Option Input} → (at : Place) → (now : ℕ) → Comes state n stamp at printed given → Step → Moment
moment_by at now c step = next c.ms at now c.why (Some c.event) step

-- no entry was made, for a cause of its node or for want of memory, and all nodes stand for the history
pub record Unmade {D K : Type 0} (state : D → DiskState) (s : Scenario) (held : Held) (new : Nodes D K) (ms : List Moment) (at : Place) (role : Role) (now : ℕ) (event : Event) (missed : RunFault) : Type 0 where
  pub stands : AllStand state s held new ms
  pub cause : (missed ≡ fault.NoMemory) ⊎ Blames at role (held.starts at) s.disk (own at ms) now event (disks_at state new at) missed

-- one was made, with a place for its record, and memory for its message was refused
pub record Unsent {D K : Type 0} (state : D → DiskState) (s : Scenario) (held : Held) (new : Nodes D K) (role : Role) (os : List Moment) (at : Place) (now : ℕ) (event : Event) (moment : Step → Moment) (missed : RunFault) : Type 0 where
  pub memory : missed ≡ fault.NoMemory
  pub step : Step
  pub happens : Happens role (own at os) now event step
  pub fits : EntryFits role (held.starts at) s.disk (own at os) (own_entry event now step)
  pub stands : AllStand state s held new (moment step ∷ os)

-- the node did what may happen there, with a place for its record, all nodes stand for the history with that moment, and this is the message that it sent
pub record MadeAndSent {D K : Type 0} (state : D → DiskState) (s : Scenario) (held : Held) (new : Nodes D K) (role : Role) (os : List Moment) (at : Place) (now : ℕ) (event : Event) (moment : Step → Moment) (letter : Option Letter) : Type 0 where
  pub step : Step
  pub happens : Happens role (own at os) now event step
  pub fits : EntryFits role (held.starts at) s.disk (own at os) (own_entry event now step)
  pub nodes : AreNodes state s held new (moment step ∷ os)
  pub sent : letter ≡ letter_of (moment step)

abbrev pub Entered : {D K : Type 0} → (state : D → DiskState) → (old new : Nodes D K) (stamp now : ℕ) (at : Place) (printed : Cause) (given : Option Input) → Comes state old stamp at printed given
    → Result (Option Letter) RunFault → Type 0
Entered state old new stamp now at printed given c (Ok letter) = MadeAndSent state c.s c.held new c.role c.ms at now c.event (moment_by at now c) letter
Entered state old new stamp now at printed given c (Err missed) =
    Unmade state c.s c.held new c.ms at c.role now c.event missed ⊎ Unsent state c.s c.held new c.role c.ms at now c.event (moment_by at now c) missed

-- said of each history that the nodes stand for: this is where the node stands whose last turn is the earliest
abbrev pub IsEarliest : {D K : Type 0} → (state : D → DiskState) → Nodes D K → Place → Type 0
IsEarliest state n at = (s : Scenario) (held : Held) (ms : List Moment) → AreNodes state s held n ms → at ≡ earliest ms place.Tc (places (world_of s))
