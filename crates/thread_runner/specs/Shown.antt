-- What the seat of a node shows at the end of a run, with its moments: for the proofs alone.
use Rattle.std.specs.Prelude.{◌≡◌, ℕ, true, false, List, length, Option, Some, None}
use Rattle.journal_checkpoint.specs.Images.{Pair}
use Rattle.seata_types.specs.declared.ids.Place.{Place}
use Rattle.seata_types.specs.declared.ids.Place.TheVariants as place
use Rattle.frame_codec.specs.Packets.{Sent}
use Rattle.scenario_form.specs.declared.scenarios.Scenario.{Scenario}
use Rattle.history_rules.specs.Own.{Event, Own}
use Rattle.history_rules.specs.CoordinatorMemory.{sessions_left}
use Rattle.history_rules.specs.Devices.{is_down}
use Rattle.history_rules.specs.ManagerRules.{Settings}
use Rattle.history_rules.specs.Nodes.{Past, Role, World, counted_at, role_at}
use Rattle.history_rules.specs.Histories.{Moment, own}
use Rattle.history_text.specs.Worlds.{world_of}
use Rattle.history_text.specs.History.{entries}
use Rattle.node_steps.specs.Durable.{AreNodeDisks}
use Rattle.node_steps.specs.Ends.{AreLaid}
use Rattle.node_steps.specs.Nodes.{IsLawful, NodeState}
use Rattle.coordinator_core.specs.Standing.{unended_sessions}
use Rattle.manager_core.specs.Standing.{is_finished}
use Rattle.trace_rules.specs.Settling.{FitsBroken, FitsRun}
use Rattle.node_seat.specs.Faults.{Blames}
use Rattle.node_seat.specs.Naming.{Run}
use Rattle.node_seat.specs.Running.{Came, HadPlaces, IsSeat, TookLast, may_hear}
use Rattle.node_seat.specs.Seating.{Seated}
use Rattle.node_seat.specs.declared.faults.RunFault.{RunFault}
use Rattle.node_seat.specs.declared.faults.RunFault.TheVariants as fault
use Rattle.node_seat.specs.declared.plans.Plan.{Plan}
use Rattle.scenario_nodes.specs.Nodes.{Held}
use Rattle.replay_runner.specs.Leaving.{AreLeft, OpensAgain}
use Rattle.run_ends.specs.Ending.{Ending}
use Rattle.run_ends.specs.Settled.{node_of}
use Rattle.run_links.specs.Plans.{stops_of}
use Rattle.run_rounds.specs.Beginning.{HasBegun}

-- ---- the end

-- the node at a place has nothing more to do, by its own entries
abbrev pub IsDoneAt : World → Past → Place → List Own → Type 0
IsDoneAt w past place.Tc os = (is_down os ≡ false) × (unended_sessions (sessions_left past.sessions os).records ≡ 0)
IsDoneAt w past (place.Man n) os = (m : Settings) → counted_at w.managers n ≡ Some m → is_finished m os ≡ true
IsDoneAt w past p os = Unit {0}

-- ---- a fault

-- an event that came to a node made no entry, for this cause
pub record IsStopped (s : Scenario) (held : Held) (disks : Pair) (e : Ending) (ms : List Moment) (missed : RunFault) : Type 0 where
  pub role : Role
  pub known : role_at (world_of s) held.past e.place ≡ Some role
  pub now : ℕ
  pub event : Event
  pub came : Came e.takers (stops_of s e.place) event
  pub blames : Blames e.place role (held.starts e.place) s.disk (own e.place ms) now event disks missed

-- the message of the last packet that an end took is none that the node answers by the rules
pub record IsUnanswered (s : Scenario) (e : Ending) : Type 0 where
  pub plan : Plan
  pub managers : plan.managers ≡ length s.managers
  pub resources : plan.resources ≡ length s.resources
  pub from : Place
  pub packet : Sent
  pub took : TookLast e.takers from packet
  pub unheard : may_hear plan e.place packet.message ≡ false

-- why its seat answered a fault
abbrev pub IsCauseAt : Scenario → Held → Pair → Ending → List Moment → RunFault → Type 0
IsCauseAt s held disks e ms fault.NoMemory = Unit {0}
IsCauseAt s held disks e ms fault.Other = IsUnanswered s e
IsCauseAt s held disks e ms missed = IsStopped s held disks e ms missed

-- ---- the node at a place

-- These moments are printed as its trace and fit its links; its disks show them; where the run is over it has nothing more to do; and this
-- is why its seat answered a fault.
pub record IsShown (s : Scenario) (held : Held) (run : Run) (over : Type 0) (disks : Pair) (e : Ending) (ms : List Moment) : Type 0 where
  pub printed : e.trace ≡ entries ms
  pub fits : FitsBroken (world_of s) held.past run.stops (node_of e ms)
  pub whole : e.fault ≡ None → FitsRun (world_of s) held.past run.stops (node_of e ms)
  pub device : (role : Role) → role_at (world_of s) held.past e.place ≡ Some role → AreNodeDisks role (own e.place ms) disks
  pub opens : (role : Role) → role_at (world_of s) held.past e.place ≡ Some role → OpensAgain role (own e.place ms) disks
  pub left : e.fault ≡ None → (role : Role) → role_at (world_of s) held.past e.place ≡ Some role → AreLeft role (own e.place ms) disks
  pub places : (role : Role) → role_at (world_of s) held.past e.place ≡ Some role → HadPlaces role (held.starts e.place) s.disk (own e.place ms)
  pub laid : e.fault ≡ None → (role : Role) → role_at (world_of s) held.past e.place ≡ Some role → AreLaid role (held.starts e.place) s.disk (own e.place ms) disks
  pub done : over → IsDoneAt (world_of s) held.past e.place (own e.place ms)
  pub cause : (missed : RunFault) → e.fault ≡ Some missed → IsCauseAt s held disks e ms missed

-- a seat of a run, over records that its disks had, with what its type keeps
pub record KeepsOver {N : Type 0} (state : N → NodeState) (world : World) (past : Past) (run : Run) (s : Seated N) : Type 0 where
  pub seat : IsSeat (state s.node) world past run s
  pub begun : HasBegun s
  pub lawful : IsLawful (state s.node)
