-- What an answer of a coordinator is by its rules: said of each list of own entries that what it knows is of.
use Rattle.std.specs.Prelude.{◌≡◌, ℕ, ◌&&◌, Bool, true, false, Option, Some, None}
use Rattle.seata_types.specs.declared.acts.Act.{Act}
use Rattle.seata_types.specs.declared.acts.Act.TheVariants as act
use Rattle.seata_types.specs.declared.acts.Durable.{Durable}
use Rattle.seata_types.specs.declared.ids.Place.{Place}
use Rattle.seata_types.specs.declared.ids.Place.TheVariants as place
use Rattle.seata_types.specs.declared.ids.Xid.{Xid}
use Rattle.seata_types.specs.declared.limits.TheConstants.{MANAGERS, CALLS}
use Rattle.seata_types.specs.declared.messages.Input.{Input}
use Rattle.seata_types.specs.declared.messages.Input.TheVariants as input
use Rattle.seata_types.specs.declared.messages.Message.{Message}
use Rattle.seata_types.specs.declared.messages.Message.TheVariants as message
use Rattle.seata_types.specs.declared.messages.Outgoing.{Outgoing}
use Rattle.seata_types.specs.declared.messages.Step.{Step}
use Rattle.durable_records.specs.declared.coordinators.SessionRecord.{SessionRecord}
use Rattle.durable_records.specs.SessionOrder.{is_counted}
use Rattle.history_rules.specs.Own.{Given, Own}
use Rattle.history_rules.specs.CoordinatorMemory.{Times, session_asked, session_record, late_one, due_one, old_one}
use Rattle.session_log.specs.declared.sessions.Snapshot.{Snapshot}
use Rattle.session_memory.specs.Changes.{may_come}
use Rattle.coordinator_rules.specs.declared.answers.Answer.{Answer}
use Rattle.coordinator_rules.specs.declared.moments.Moments.{Moments}
use Rattle.coordinator_rules.specs.Changes.{Makes, PlansAgain}
use Rattle.coordinator_rules.specs.Framing.{ComesFramable, SendsFramable}
use Rattle.coordinator_rules.specs.Knowledge.{Knowledge, knows, times_in, waits}
use Rattle.coordinator_rules.specs.Naming.{ComesNamed, IsNamed}
use Rattle.coordinator_rules.specs.Tracks.{Course, with_own, rule_answer, Follows, records}

-- ---- answers

-- an answer after which no transaction is due again, with the record that it asks for, if it asks for one
abbrev pub answer : Option SessionRecord → Step → Answer
answer asked s = record { step = s; asked = asked; again = None }

-- one after which a transaction is due again later
abbrev pub later : Xid → Step → Answer
later xid s = record { step = s; asked = None; again = Some xid }

-- ---- after an answer

-- what is known is with the record that was asked for, or with a transaction that is due again, or as before
abbrev pub LeavesBy : Option SessionRecord → Option Xid → (old new : Knowledge) → ℕ → Type 0
LeavesBy (Some r) again old new now = Makes old new r now
LeavesBy None (Some xid) old new now = PlansAgain old new xid.0 now
LeavesBy None None old new now = new ≡ old

abbrev pub Leaves : Answer → (old new : Knowledge) → ℕ → Type 0
Leaves a old new now = LeavesBy a.asked a.again old new now

-- ---- by the rules

-- the own entry of a step
abbrev pub own_step : Input → ℕ → Step → Own
own_step given now step = record { event = Given given; now = now; step = step }

-- an answer is the rules' after these own entries: its step, and what is known after it is of one entry more
pub record IsOfRules (k : Knowledge) (given : Input) (now : ℕ) (a : Answer) (owns : Course) : Type 0 where
  pub step : a.step ≡ rule_answer (times_in k) owns now given
  pub left : (after : Knowledge) → Leaves a k after now → Follows after (with_own (own_step given now a.step) owns)

-- ---- records

-- an act of a rule that isn't durable
abbrev pub is_unrecorded : Act → Bool
is_unrecorded (act.Durable done) = false
is_unrecorded (act.Down kept at) = false
is_unrecorded (act.Restarted kept) = false
is_unrecorded act.Armed = false
is_unrecorded _ = true

-- the transaction that an act plans anew
abbrev pub again_after : Act → Option Xid
again_after (act.Asked xid branch) = Some xid
again_after (act.Retry xid branch) = Some xid
again_after _ = None

-- a record that may come, of the durable act
pub record IsTakenBy (s : Snapshot) (given : Input) (now : ℕ) (done : Act) (r : SessionRecord) : Type 0 where
  pub durable : Durable
  pub is : done ≡ act.Durable durable
  pub asked : session_record now (Given given) durable ≡ Some r
  pub may : may_come s r ≡ true

-- a durable act asks for such a record, and no other act for one
abbrev pub IsRecorded : Snapshot → Input → ℕ → Act → Option SessionRecord → Type 0
IsRecorded s given now done None = is_unrecorded done ≡ true
IsRecorded s given now done (Some r) = IsTakenBy s given now done r

-- ---- what is sent

-- a branch is asked with numbers of a scenario with so many managers and resources, which a message may have
abbrev pub asks_by : (managers resources : ℕ) → Place → (manager call : ℕ) → Bool
asks_by managers resources (place.Res n) manager call = (is_counted managers manager && is_counted resources n) && (is_counted MANAGERS manager && is_counted CALLS call)
asks_by managers resources _ manager call = false

abbrev pub asks_in : (managers resources : ℕ) → Place → Message → Bool
asks_in managers resources to (message.BranchCommit xid branch kind manager call) = asks_by managers resources to manager call
asks_in managers resources to (message.BranchRollback xid branch kind manager call) = asks_by managers resources to manager call
asks_in managers resources to _ = true

-- a branch that is asked by a step is asked so
abbrev pub asks_nodes : (managers resources : ℕ) → Option Outgoing → Bool
asks_nodes managers resources None = true
asks_nodes managers resources (Some out) = asks_in managers resources out.to out.message

-- what is sent can be framed where what came can, and names nodes of the scenario where what came does
pub record IsSent (managers resources : ℕ) (given : Input) (step : Step) : Type 0 where
  pub framable : ComesFramable given → SendsFramable step
  pub named : ComesNamed managers resources given → IsNamed managers resources step

-- at a turn, where a branch that is asked is asked so; at any other input always
abbrev pub IsSentBy : Input → Step → Type 0
IsSentBy input.Turn step = (managers resources : ℕ) → asks_nodes managers resources step.sent ≡ true → IsSent managers resources input.Turn step
IsSentBy given step = (managers resources : ℕ) → IsSent managers resources given step

-- ---- all

-- An answer to an input at a moment is by the rules after all own entries that what is known is of; and, whatever they are, the record
-- that it asks for is that of its act, and may come, and the transaction that is due again is its act's.
pub record IsRuled (k : Knowledge) (given : Input) (now : ℕ) (a : Answer) : Type 0 where
  pub rules : (owns : Course) → Follows k owns → IsOfRules k given now a owns
  pub asked : a.asked ≡ session_asked (own_step given now a.step)
  pub recorded : IsRecorded k.memory given now a.step.act a.asked
  pub again : a.again ≡ again_after a.step.act

-- and what it sends can be sent
pub record Answers (k : Knowledge) (given : Input) (now : ℕ) (a : Answer) : Type 0 where
  pub ruled : IsRuled k given now a
  pub sent : IsSentBy given a.step

-- the same of a message from there, whatever the settings and the moments are
abbrev pub HearsFrom : Snapshot → Place → Message → ℕ → Answer → Type 0
HearsFrom s from heard now a = (times : Times) (m : Moments) → Answers (knows times s m) (input.Message from heard) now a

-- and wherever it came from
abbrev pub Hears : Snapshot → Message → ℕ → Answer → Type 0
Hears s heard now a = (times : Times) (m : Moments) (from : Place) → Answers (knows times s m) (input.Message from heard) now a

-- the same whatever the delay is after which a branch is asked again
abbrev pub AnswersBy : (forget : ℕ) → Snapshot → Moments → Input → ℕ → Answer → Type 0
AnswersBy forget s m given now a = (retry : ℕ) → Answers (knows (waits retry forget) s m) given now a

-- ---- turns

-- the transaction that a turn takes
abbrev pub late_at : Times → ℕ → Course → Option ℕ
late_at times now owns = late_one times owns.past owns.owns (records owns) now

abbrev pub due_at : Times → ℕ → Course → Option (ℕ × ℕ)
due_at times now owns = due_one times owns.past owns.owns (records owns) now

abbrev pub old_at : Times → ℕ → Course → Option ℕ
old_at times now owns = old_one times owns.past owns.owns (records owns) now
