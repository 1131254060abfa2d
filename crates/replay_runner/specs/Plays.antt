-- What a replay on its way keeps of the history that it made.
use Rattle.std.specs.Prelude.{◌≡◌, ◌+◌, ◌*◌, ◌<◌, ◌≤◌, ℕ, false, List, [], ◌∷◌, ◌++◌, length, slice_get, Option, Some, None, option_map, Result, Ok, Err}
use Rattle.disk_model.specs.Disk.{DiskState}
use Rattle.seata_types.specs.declared.acts.Act.TheVariants as act
use Rattle.seata_types.specs.declared.ids.Place.{Place}
use Rattle.seata_types.specs.declared.ids.Place.TheVariants as place
use Rattle.seata_types.specs.declared.limits.TheConstants.{STEPS, TICKS}
use Rattle.seata_types.specs.declared.messages.Input.{Input}
use Rattle.seata_types.specs.declared.messages.Step.{Step}
use Rattle.seata_types.specs.declared.statements.Stmt.{Stmt}
use Rattle.scenario_form.specs.declared.scenarios.Scenario.{Scenario}
use Rattle.scenario_form.specs.Runnable.{IsRunnable}
use Rattle.history_rules.specs.Own.{Event, still}
use Rattle.history_rules.specs.Nodes.{ComesTo, Role, role_at}
use Rattle.history_rules.specs.CoordinatorMemory.{start}
use Rattle.history_rules.specs.Histories.{Moment, brings, own, Legal, ReceivesLater, Stands}
use Rattle.history_rules.specs.Histories.{Cause as Reason}
use Rattle.history_rules.specs.Schedules.{Follows, IsStep, Item, DeliverOf, clock, named, singles, ticks_of}
use Rattle.history_law.specs.MessageSafety.{AreOfResources}
use Rattle.history_text.specs.declared.entries.Cause.{Cause}
use Rattle.frame_codec.specs.Limits.{IsFramable}
use Rattle.history_text.specs.History.{cause_of, entries}
use Rattle.history_text.specs.Worlds.{items_of, world_of}
use Rattle.node_steps.specs.Ends.{AllFit, MomentFits}
use Rattle.node_seat.specs.Entering.{entry_at, event_by}
use Rattle.node_seat.specs.declared.faults.RunFault.{RunFault}
use Rattle.scenario_nodes.specs.Nodes.{Held}
use Rattle.replay_runner.specs.declared.messages.Delivery.{Delivery}
use Rattle.replay_runner.specs.declared.runs.Run.{Run}
use Rattle.replay_runner.specs.Ends.{IsCause}
use Rattle.replay_runner.specs.Letters.{AreMessages, delivery_of, letter_at, letter_of}
use Rattle.replay_runner.specs.Standing.{AllStand, AreNodes, disks_at}
use Rattle.replay_runner.specs.Steps.{left_of, next}
use Rattle.replay_runner.specs.Traces.{at, places_of}

-- ---- the replay

-- the replay made this history, which is legal, follows the schedule, and whose records each had a place
pub record Plays {D K : Type 0} (state : D → DiskState) (s : Scenario) (held : Held) (r : Run D K) (ms : List Moment) : Type 0 where
  pub nodes : AreNodes state s held r.nodes ms
  pub passed : r.network.items ≡ entries (at place.Net ms)
  pub standing : r.places.items ≡ places_of ms
  pub messages : AreMessages r.messages ms
  pub clocked : r.clock ≡ clock held.past ms
  pub slow : r.clock ≤ start held.past.sessions + length ms * TICKS
  pub legal : Legal (world_of s) held.past ms
  pub follows : Follows (world_of s) held.past (items_of s) ms
  pub fits : AllFit (world_of s) held.past held.starts s.disk ms
  pub named : AreOfResources (world_of s) held.past.sessions

-- A replay ended, by this fault: what it made is legal and follows the schedule up to there, each record of it had a place, and its nodes
-- stand for their own entries.
pub record Ends {D K : Type 0} (state : D → DiskState) (s : Scenario) (held : Held) (r : Run D K) (missed : RunFault) : Type 0 where
  pub history : List Moment
  pub legal : Legal (world_of s) held.past history
  pub follows : Follows (world_of s) held.past (items_of s) history
  pub fits : AllFit (world_of s) held.past held.starts s.disk history
  pub stands : AllStand state s held r.nodes history
  pub cause : IsCause s held history (disks_at state r.nodes) missed

-- ---- one entry

-- The replay made a history of a scenario, and this is the next single step of its schedule.
pub record IsAt {D K : Type 0} (state : D → DiskState) (r : Run D K) : Type 0 where
  pub s : Scenario
  pub held : Held
  pub runnable : IsRunnable s
  pub ms : List Moment
  pub plays : Plays state s held r ms
  pub short : length ms < STEPS
  pub item : Item
  pub rest : List Item
  pub is_next : left_of s ms ≡ item ∷ rest

-- This step names a cause at a node, at the moment of the clock, and brings it this event.
pub record Brings {D K : Type 0} (state : D → DiskState) (r : Run D K) (at : Place) (printed : Cause) (given : Option Input) : Type 0 where
  pub here : IsAt state r
  pub still : ticks_of here.item ≡ 0
  pub why : Reason
  pub names : named (world_of here.s) here.ms here.item ≡ (at, why)
  pub is_printed : printed ≡ cause_of why
  pub event : Event
  pub brought : Some event ≡ brings here.ms at why
  pub is_event : event_by printed given ≡ Some event
  pub later : ReceivesLater why (length here.ms + 1)
  pub role : Role
  pub there : role_at (world_of here.s) here.held.past at ≡ Some role
  pub fits : ComesTo role event

-- the moment that this makes, with a step
abbrev pub moment_made : {D K : Type 0} → (state : D → DiskState) → (r : Run D K) (at : Place) (printed : Cause) (given : Option Input) → Brings state r at printed given → Step → Moment
moment_made state r at printed given b step = next b.here.ms at r.clock b.why (Some b.event) step

-- a moment was added to the history, whose message no entry delivered
pub record Grows {D K : Type 0} (state : D → DiskState) (s : Scenario) (held : Held) (old new : Run D K) (ms : List Moment) (m : Moment) : Type 0 where
  pub nodes : AreNodes state s held new.nodes (m ∷ ms)
  pub passed : new.network.items ≡ entries (at place.Net (m ∷ ms))
  pub standing : new.places.items ≡ old.places.items ++ m.place ∷ []
  pub sent : new.messages.letters.items ≡ old.messages.letters.items ++ letter_of m ∷ []
  pub taken : new.messages.taken.items ≡ old.messages.taken.items ++ false ∷ []
  pub waiting : new.messages.waiting ≡ old.messages.waiting
  pub clocked : new.clock ≡ m.now
  pub slow : m.now ≤ start held.past.sessions + (length ms + 1) * TICKS
  pub stands : Stands (world_of s) held.past ms m
  pub fits : MomentFits (role_at (world_of s) held.past m.place) m.event (held.starts m.place) s.disk (own m.place ms) m
  pub is_step : IsStep (world_of s) held.past ms m (slice_get (singles (items_of s)) (length ms))

abbrev pub Made : {D K : Type 0} → (state : D → DiskState) → (old new : Run D K) (at : Place) (printed : Cause) (given : Option Input) → Brings state old at printed given
    → Result (Unit {0}) RunFault → Type 0
Made state old new at printed given b (Ok done) = (step : Step) × Grows state b.here.s b.here.held old new b.here.ms (moment_made state old at printed given b step)
Made state old new at printed given b (Err missed) = Ends state b.here.s b.here.held new missed

-- an entry of the network was added, at which nothing was done
pub record IsPassed {D K : Type 0} (old new : Run D K) (why : Cause) : Type 0 where
  pub passed : new.network.items ≡ old.network.items ++ entry_at (length old.places.items + 1) place.Net old.clock why (still act.Nothing) ∷ []
  pub standing : new.places.items ≡ old.places.items ++ place.Net ∷ []
  pub sent : new.messages.letters.items ≡ old.messages.letters.items ++ None ∷ []
  pub taken : new.messages.taken.items ≡ old.messages.taken.items ++ false ∷ []

-- ---- steps of the schedule

-- The replay made a history of a scenario that reading gives, and these are the next steps of its schedule.
pub record Ready {D K : Type 0} (state : D → DiskState) (r : Run D K) (items : List Item) : Type 0 where
  pub s : Scenario
  pub held : Held
  pub runnable : IsRunnable s
  pub ms : List Moment
  pub plays : Plays state s held r ms
  pub rest : List Item
  pub is_next : left_of s ms ≡ items ++ rest

-- the same of a scenario with these local transactions
pub record ReadyWith {D K : Type 0} (state : D → DiskState) (r : Run D K) (locals : List (ℕ × List Stmt)) (items : List Item) : Type 0 where
  pub ready : Ready state r items
  pub locals_are : ready.s.locals ≡ locals

-- these steps of the schedule were played, and those are left; or the replay ended before one of them
abbrev pub HasPlayed : {D K : Type 0} → (D → DiskState) → Scenario → Held → Run D K → (rest : List Item) → Result (Unit {0}) RunFault → Type 0
HasPlayed state s held new rest (Ok done) = (ms : List Moment) × Plays state s held new ms × (left_of s ms ≡ rest)
HasPlayed state s held new rest (Err missed) = Ends state s held new missed

-- the next step is this one, of those that take no ticks, or names the same
pub record Names {D K : Type 0} (state : D → DiskState) (r : Run D K) (item : Item) : Type 0 where
  pub here : IsAt state r
  pub still : ticks_of here.item ≡ 0
  pub names : named (world_of here.s) here.ms here.item ≡ named (world_of here.s) here.ms item

-- the same of a delivery, whose message this is
pub record Hears {D K : Type 0} (state : D → DiskState) (r : Run D K) (stamp : ℕ) (delivery : Delivery) : Type 0 where
  pub step : Names state r (DeliverOf stamp)
  pub is_found : option_map delivery_of (letter_at stamp r.messages.letters.items) ≡ Some delivery
  pub framable : IsFramable delivery.message

-- the next step, or one that names the same, was made and the others are left; or the replay ended before it
abbrev pub HasMade : {D K : Type 0} → (state : D → DiskState) → (old new : Run D K) → IsAt state old → Result (Unit {0}) RunFault → Type 0
HasMade state old new here result = HasPlayed state here.s here.held new here.rest result
