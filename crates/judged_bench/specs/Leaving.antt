-- What an entry leaves of a resource, by what the entry shows.
use Rattle.std.specs.Prelude.{◌≡◌, ℕ, ◌+◌, ◌<◌, ◌≤◌, ◌-◌, ◌^◌, length, Bool, true, false, if◌then◌else◌, Option, Some, None, IfSome}
use Rattle.seata_types.specs.declared.acts.Act.{Act}
use Rattle.seata_types.specs.declared.acts.Durable.{Durable}
use Rattle.seata_types.specs.declared.limits.TheConstants.{FIELD_ITEMS}
use Rattle.seata_types.specs.declared.messages.Input.{Input}
use Rattle.seata_types.specs.declared.messages.Input.TheVariants as input
use Rattle.seata_types.specs.declared.messages.Message.TheVariants as message
use Rattle.seata_types.specs.declared.messages.Step.{Step}
use Rattle.seata_types.specs.declared.statements.Work.TheVariants as work
use Rattle.durable_records.specs.declared.resources.ResourceRecord.TheVariants as log
use Rattle.local_txn.specs.Answers.{no_tickets}
use Rattle.history_rules.specs.Own.{Event, Given, kept_part, still}
use Rattle.resource_memory.specs.Changes as changes
use Rattle.resource_memory.specs.Changes.{may_come}
use Rattle.resource_memory.specs.Keeping.{IsKept}
use Rattle.resource_rules.specs.Answers.{Answers, AreCounted, AreOpenOn}
use Rattle.resource_rules.specs.Laws.{MayFollow, known_after, tickets_after}
use Rattle.resource_rules.specs.Serving.{Serves}
use Rattle.resource_rules.specs.declared.answers.Answer.{Answer}
use Rattle.judged_devices.specs.declared.devices.Device.{Device}
use Rattle.judged_devices.specs.declared.events.Event.{Event as Brought}
use Rattle.judged_devices.specs.declared.shown.Back.{Back}
use Rattle.judged_devices.specs.declared.shown.Plain.{Plain}
use Rattle.judged_devices.specs.declared.shown.Plain.TheVariants as plain
use Rattle.judged_devices.specs.declared.shown.Shown.{Shown}
use Rattle.judged_devices.specs.declared.shown.Shown.TheVariants as shown
use Rattle.judged_devices.specs.Showing.{Shows, ShowsPlain, given_in, shown_step}
use Rattle.judged_devices.specs.Taking.{event_of}
use Rattle.judged_bench.specs.declared.resources.Resource.{Resource}

-- ---- an answer

-- what is done of an answer: its record is known, and its tickets change; or its record is in flight
abbrev pub stands : Answer → Resource → Resource
stands a r = record r { memory = known_after a.asked r.memory; txns = tickets_after a.change r.txns }

abbrev pub fallen : Answer → Resource → Resource
fallen a r = record r { flight = a.asked }

abbrev pub left_by : Shown → Answer → Resource → Resource
left_by shown.Done a r = stands a r
left_by (shown.Cut flight) a r = fallen a r

-- what the record and the change of an answer need
pub record IsTakenIn (r : Resource) (a : Answer) : Type 0 where
  pub comes : IfSome a.asked (λ item. may_come r.memory item ≡ true)
  pub follows : MayFollow r.txns a.change

-- the answer is done as the act of an entry shows it
pub record IsAnswered (left : Option ℕ) (given : Input) (done : Act) (old new : Resource) (step : Step) : Type 0 where
  pub answer : Answer
  pub answers : Answers old.setup old.memory old.txns given answer
  pub kept : IsKept old.memory
  pub how : Shown
  pub shows : Shows left answer.step.act done (Some how)
  pub is : step ≡ shown_step how answer.step
  pub leaves : new ≡ left_by how answer old

-- or it is shown by nothing that may be done of it
pub record IsUnanswered (left : Option ℕ) (given : Input) (done : Act) (old : Resource) : Type 0 where
  pub answer : Answer
  pub answers : Answers old.setup old.memory old.txns given answer
  pub shows : Shows left answer.step.act done None

abbrev pub Answered : Option ℕ → Input → Act → (old new : Resource) → Option Step → Type 0
Answered left given done old new (Some step) = IsAnswered left given done old new step
Answered left given done old new None = IsUnanswered left given done old

-- ---- what it does by itself

-- what was in flight is known where it was kept, and nothing is in flight
abbrev pub landed : Option Durable → Resource → Resource
landed kept r = record r { memory = known_after (kept_part kept r.flight) r.memory; flight = None }

-- one boot more, without tickets; or the boot is in flight
abbrev pub booted : Resource → Resource
booted r = record r { memory = changes.after (log.Boot (r.memory.boots + 1)) r.memory; txns = no_tickets (r.memory.boots + 1) }

abbrev pub boot_fallen : Resource → Resource
boot_fallen r = record r { flight = Some (log.Boot (r.memory.boots + 1)) }

abbrev pub left_back : Back → Resource → Resource
left_back b r = if b.cut then boot_fallen (landed b.kept r) else booted (landed b.kept r)

abbrev pub left_plain : Plain → Resource → Resource
left_plain plain.Crashed r = record r { flight = None }
left_plain (plain.Back b) r = left_back b r
left_plain _ r = r

-- it is done as the act of an entry shows it, or shown by nothing that may be done
pub record IsStayed (d : Device) (happened : Event) (done : Act) (old new : Resource) (step : Step) : Type 0 where
  pub how : Plain
  pub shows : ShowsPlain true d happened done (Some how)
  pub is : step ≡ still done
  pub leaves : new ≡ left_plain how old

abbrev pub Stayed : Device → Event → Act → (old new : Resource) → Option Step → Type 0
Stayed d happened done old new (Some step) = IsStayed d happened done old new step
Stayed d happened done old new None = ShowsPlain true d happened done None

-- ---- both

-- what an entry leaves, by what is given
abbrev pub TookBy : Option Input → Device → Event → Act → (old new : Resource) → Option Step → Type 0
TookBy (Some given) d happened done old new step = Answered d.left given done old new step
TookBy None d happened done old new step = Stayed d happened done old new step

-- by the event
abbrev pub Took : Device → Event → Act → (old new : Resource) → Option Step → Type 0
Took d happened done old new step = TookBy (given_in d.down happened) d happened done old new step

-- ---- what is asked

-- the Try of a call has no more statements than are counted
abbrev pub HasFewTries : Input → Type 0
HasFewTries (input.Message from (message.Call xid manager resource call (work.Tcc action))) = length action.tries ≤ FIELD_ITEMS
HasFewTries _ = Unit {0}

-- an input that is served; no other event asks for anything
abbrev pub ServesGiven : Event → Type 0
ServesGiven (Given given) = Serves given × HasFewTries given
ServesGiven _ = Unit {0}

abbrev pub ServesEvent : Brought → Type 0
ServesEvent event = ServesGiven (event_of event)

-- it can answer: its statements are few, its counts have room, and its open tickets fit its tables
pub record CanAnswer (r : Resource) : Type 0 where
  pub counted : AreCounted r.setup
  pub acts : r.memory.acts + 1 < 2 ^ 32
  pub opened : r.txns.opened < 2 ^ 32 - 1
  pub open_on : AreOpenOn r.memory r.txns

-- it can be restarted: its counts have room, and what is in flight may come
pub record CanRestart (r : Resource) : Type 0 where
  pub acts : r.memory.acts + 2 < 2 ^ 32
  pub comes : IfSome r.flight (λ item. may_come r.memory item ≡ true)

-- it can take an entry
pub record CanServe (down : Bool) (r : Resource) : Type 0 where
  pub answers : down ≡ false → CanAnswer r
  pub restarts : CanRestart r
