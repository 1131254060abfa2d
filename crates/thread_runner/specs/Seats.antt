-- The seats of a run before its first round, and what they are made of.
use Rattle.std.specs.Prelude.{◌≡◌, ◌+◌, ℕ, Bool, if◌then◌else◌, List, length, slice_get, Option, Some}
use Rattle.disk_model.specs.Disk.{DiskState}
use Rattle.disk_model.specs.Shelf.{ShelfState}
use Rattle.atomic_table.specs.Seated.{TableId}
use Rattle.seata_types.specs.declared.ids.Place.{Place}
use Rattle.seata_types.specs.declared.ids.Place.TheVariants as place
use Rattle.scenario_form.specs.declared.scenarios.Scenario.{Scenario}
use Rattle.history_rules.specs.Nodes.{World, Past}
use Rattle.history_text.specs.Worlds.{world_of}
use Rattle.manager_core.specs.declared.nodes.Manager.{Manager}
use Rattle.node_steps.specs.Ends.{Starts}
use Rattle.node_steps.specs.Nodes.{NodeState}
use Rattle.node_seat.specs.Naming.{OverAll, Run}
use Rattle.node_seat.specs.Running.{AreApart, AreUnused, CanServe, IsFreshIn, IsOfRun}
use Rattle.node_seat.specs.Seating.{Seated}
use Rattle.node_seat.specs.Turns.{HasDisksToStop}
use Rattle.scenario_nodes.specs.Nodes.{AreNewServers, Held, HoldAll, IsNewManager}
use Rattle.scenario_nodes.specs.declared.servers.Servers.{Servers}
use Rattle.scenario_nodes.specs.Together.{AreEach, numbered}
use Rattle.run_links.specs.Linked.{AreEndsAt}
use Rattle.run_links.specs.Plans.{IsPlanOf, stops_of}
use Rattle.run_rounds.specs.Seating.{place_in}
use Rattle.thread_runner.specs.declared.outfits.Outfit.{Outfit}

-- each item of a list has a property with its place in the list, counted from 0
abbrev pub EachHas : {A : Type 0} → (ℕ → A → Type 0) → List A → Type 0
EachHas {A} P items = (k : ℕ) (item : A) → slice_get items k ≡ Some item → P k item

-- the place of the manager or of the resource with a number
abbrev pub numbered_place : Bool → ℕ → Place
numbered_place managers n = if managers then place.Man n else place.Res n

-- ---- the run

-- what a run names beside its links is of a scenario
pub record IsNamedFor (world : World) (run : Run) (s : Scenario) : Type 0 where
  pub is_world : world ≡ world_of s
  pub stops : run.stops ≡ stops_of s
  pub bytes : run.bytes ≡ s.disk
  pub managers : run.managers ≡ length s.managers
  pub resources : run.resources ≡ length s.resources

-- what it knows of disks is that those which a shelf gives next tell their bytes, and over some records, that they hold these
pub record KnowsDisks {D : Type 0} (state : D → DiskState) (shelf : ShelfState D) (s : Scenario) (held : Past → Starts → Type 0) (run : Run) : Type 0 where
  pub tells : (h : Held) → HoldAll state shelf s h → run.tells
  pub told : run.tells → (h : Held) × HoldAll state shelf s h
  pub holds : (h : Held) → HoldAll state shelf s h → held h.past h.starts
  pub held_all : (h : Held) → held h.past h.starts → HoldAll state shelf s h

-- so much is known where the disks of a run held these
abbrev pub IsKnown : (held : Past → Starts → Type 0) → Run → Held → Type 0
IsKnown held run h = run.tells × held h.past h.starts

-- ---- what seats are made of

-- the same, with a clock that begins at a moment
abbrev pub begun_at : Outfit → (from : ℕ) → Outfit
begun_at o from = record o { plan = record o.plan { from = from } }

-- the plan of the node at a place, and the ends of its links, which have these queues
pub record IsOutfitAt (s : Scenario) (queue : Place → Place → TableId) (p : Place) (o : Outfit) : Type 0 where
  pub plan : IsPlanOf s p 0 o.plan
  pub ends : AreEndsAt queue p o.takers o.senders

-- the same of so many managers, or of so many resources
pub record AreOutfits (s : Scenario) (queue : Place → Place → TableId) (managers : Bool) (many : ℕ) (outfits : List Outfit) : Type 0 where
  pub count : length outfits ≡ many
  pub each : EachHas (λ k. IsOutfitAt s queue (numbered_place managers (k + 1))) outfits

-- these are the managers of a scenario, which made no entry
abbrev pub AreNewManagers : Scenario → List Manager → Type 0
AreNewManagers s managers = AreEach (λ one m. IsNewManager s one.0 one.1 m) (numbered 1 s.managers) managers

-- a node that did nothing yet may have a seat of a run, made of this
pub record MaySit (world : World) (held : Past → Starts → Type 0) (run : Run) (node : NodeState) (o : Outfit) : Type 0 where
  pub fresh : OverAll held run (λ past over. IsFreshIn world past over node)
  pub serves : CanServe o.plan node
  pub of_run : OverAll held run (λ past over. IsOfRun past over node o.plan o.takers o.senders)
  pub apart : AreApart o.takers o.senders
  pub unused : AreUnused o.takers o.senders
  pub stops : HasDisksToStop node o.plan

-- the nodes with disks of a scenario were opened on those that a shelf gave, which a run knows
pub record AreOpened {D H : Type 0} (state : D → DiskState) (shelf : H → ShelfState D) (s : Scenario) (held : Past → Starts → Type 0) (run : Run) (servers : Servers D) : Type 0 where
  pub before : H
  pub new : AreNewServers state (shelf before) s servers
  pub disks : KnowsDisks state (shelf before) s held run

-- ---- seats

-- a seat is there, whose node stands at a place
abbrev pub IsPutAt : {N : Type 0} → (N → NodeState) → Place → Option (Seated N) → Type 0
IsPutAt state p seat = place_in state seat ≡ Some p

-- so many seats are there, of managers or of resources, each with its node at its place
pub record ArePut {N : Type 0} (state : N → NodeState) (managers : Bool) (many : ℕ) (seats : List (Option (Seated N))) : Type 0 where
  pub count : length seats ≡ many
  pub each : EachHas (λ k. IsPutAt state (numbered_place managers (k + 1))) seats
