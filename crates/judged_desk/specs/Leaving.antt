-- What an entry leaves of the coordinator, by what the entry shows.
use Rattle.std.specs.Prelude.{◌≡◌, ℕ, ◌+◌, ◌<◌, ◌^◌, true, false, Option, Some, None, IfSome}
use Rattle.seata_types.specs.declared.acts.Act.{Act}
use Rattle.seata_types.specs.declared.acts.Durable.{Durable}
use Rattle.seata_types.specs.declared.ids.Xid.{Xid}
use Rattle.seata_types.specs.declared.messages.Input.{Input}
use Rattle.seata_types.specs.declared.messages.Step.{Step}
use Rattle.durable_records.specs.declared.coordinators.SessionRecord.{SessionRecord}
use Rattle.history_rules.specs.Own.{Event, kept_part, still}
use Rattle.session_log.specs.declared.sessions.Snapshot.{Snapshot}
use Rattle.session_memory.specs.Changes.{after, may_come}
use Rattle.coordinator_rules.specs.Answers.{AnswersBy, LeavesBy}
use Rattle.coordinator_rules.specs.Starting.{no_moments, started_on}
use Rattle.coordinator_rules.specs.declared.answers.Answer.{Answer}
use Rattle.judged_devices.specs.declared.devices.Device.{Device}
use Rattle.judged_devices.specs.declared.shown.Plain.{Plain}
use Rattle.judged_devices.specs.declared.shown.Plain.TheVariants as plain
use Rattle.judged_devices.specs.declared.shown.Shown.{Shown}
use Rattle.judged_devices.specs.declared.shown.Shown.TheVariants as shown
use Rattle.judged_devices.specs.Showing.{Shows, ShowsPlain, given_in, shown_step}
use Rattle.judged_desk.specs.Standing.{knowledge}
use Rattle.judged_desk.specs.declared.coordinators.Coordinator.{Coordinator}

-- ---- an answer

-- what is known with one record more, if there is one
abbrev pub known_after : Option SessionRecord → Snapshot → Snapshot
known_after None s = s
known_after (Some r) s = after r s

-- what is done of an answer: its record is known, or a transaction is due again later; or its record is in flight
abbrev pub IsFollowed : ℕ → Option SessionRecord → Option Xid → (old new : Coordinator) → Type 0
IsFollowed now asked again old new = LeavesBy asked again (knowledge old) (knowledge new) now × (new.flight ≡ old.flight)

abbrev pub IsStood : ℕ → Answer → (old new : Coordinator) → Type 0
IsStood now a old new = IsFollowed now a.asked a.again old new

abbrev pub fallen : Answer → Coordinator → Coordinator
fallen a c = record c { flight = a.asked }

abbrev pub LeftBy : ℕ → Shown → Answer → (old new : Coordinator) → Type 0
LeftBy now shown.Done a old new = IsStood now a old new
LeftBy now (shown.Cut flight) a old new = new ≡ fallen a old

-- an answer by the rules
abbrev pub IsRuled : Input → ℕ → Coordinator → Answer → Type 0
IsRuled given now old a = AnswersBy old.forget old.memory old.moments given now a

-- the answer is done as the act of an entry shows it
pub record IsAnswered (left : Option ℕ) (given : Input) (now : ℕ) (done : Act) (old new : Coordinator) (step : Step) : Type 0 where
  pub answer : Answer
  pub ruled : IsRuled given now old answer
  pub how : Shown
  pub shows : Shows left answer.step.act done (Some how)
  pub is : step ≡ shown_step how answer.step
  pub leaves : LeftBy now how answer old new

-- or it is shown by nothing that may be done of it
pub record IsUnanswered (left : Option ℕ) (given : Input) (now : ℕ) (done : Act) (old : Coordinator) : Type 0 where
  pub answer : Answer
  pub ruled : IsRuled given now old answer
  pub shows : Shows left answer.step.act done None

abbrev pub Answered : Option ℕ → Input → ℕ → Act → (old new : Coordinator) → Option Step → Type 0
Answered left given now done old new (Some step) = IsAnswered left given now done old new step
Answered left given now done old new None = IsUnanswered left given now done old

-- ---- what it does by itself

-- what was in flight is known where it was kept, and nothing is in flight
abbrev pub landed : Option Durable → Coordinator → Coordinator
landed kept c = record c { memory = known_after (kept_part kept c.flight) c.memory; flight = None }

-- all that it goes by starts at this moment
abbrev pub opened : ℕ → Coordinator → Coordinator
opened now c = record c { moments = started_on now c.memory.sessions no_moments }

abbrev pub left_plain : ℕ → Plain → Coordinator → Coordinator
left_plain now plain.Crashed c = record c { flight = None }
left_plain now (plain.Back b) c = opened now (landed b.kept c)
left_plain now _ c = c

-- it is done as the act of an entry shows it, or shown by nothing that may be done
pub record IsStayed (d : Device) (happened : Event) (now : ℕ) (done : Act) (old new : Coordinator) (step : Step) : Type 0 where
  pub how : Plain
  pub shows : ShowsPlain false d happened done (Some how)
  pub is : step ≡ still done
  pub leaves : new ≡ left_plain now how old

abbrev pub Stayed : Device → Event → ℕ → Act → (old new : Coordinator) → Option Step → Type 0
Stayed d happened now done old new (Some step) = IsStayed d happened now done old new step
Stayed d happened now done old new None = ShowsPlain false d happened done None

-- ---- both

-- what an entry leaves, by what is given
abbrev pub TookBy : Option Input → Device → Event → ℕ → Act → (old new : Coordinator) → Option Step → Type 0
TookBy (Some given) d happened now done old new step = Answered d.left given now done old new step
TookBy None d happened now done old new step = Stayed d happened now done old new step

-- by the event
abbrev pub Took : Device → Event → ℕ → Act → (old new : Coordinator) → Option Step → Type 0
Took d happened now done old new step = TookBy (given_in d.down happened) d happened now done old new step

-- ---- what is asked

-- it can take an entry: its count of records has room, and what is in flight may come
pub record CanServe (c : Coordinator) : Type 0 where
  pub acts : c.memory.acts + 1 < 2 ^ 32
  pub comes : IfSome c.flight (λ item. may_come c.memory item ≡ true)
