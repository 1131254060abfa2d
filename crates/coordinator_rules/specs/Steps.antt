-- The steps of the coordinator that tell of branches and rows.
use Rattle.std.specs.Prelude.{Bool, true, false, Option, Some, None}
use Rattle.seata_types.specs.declared.acts.Act.TheVariants as act
use Rattle.seata_types.specs.declared.acts.Durable.TheVariants as durable
use Rattle.seata_types.specs.declared.ids.Leg.{Leg}
use Rattle.seata_types.specs.declared.ids.Place.{Place}
use Rattle.seata_types.specs.declared.ids.Place.TheVariants as place
use Rattle.seata_types.specs.declared.ids.Ticket.{Ticket}
use Rattle.seata_types.specs.declared.ids.Xid.{Xid}
use Rattle.seata_types.specs.declared.messages.Message.{Message}
use Rattle.seata_types.specs.declared.messages.Message.TheVariants as message
use Rattle.seata_types.specs.declared.messages.Registered.TheVariants as registered
use Rattle.seata_types.specs.declared.messages.Step.{Step}
use Rattle.seata_types.specs.declared.rows.RowKey.{RowKey}
use Rattle.seata_types.specs.declared.statuses.GlobalStatus.{GlobalStatus}
use Rattle.byte_fields.specs.Layout.{FitsKey}
use Rattle.frame_codec.specs.Limits.{IsKeyWithin}
use Rattle.history_rules.specs.Own.{sends}
use Rattle.session_log.specs.declared.sessions.RegisterPlace.{RegisterPlace}
use Rattle.coordinator_rules.specs.declared.questions.Question.{Question}

abbrev pub asks_by : Bool → Xid → Question → Message
asks_by true xid q = message.BranchCommit xid q.branch q.kind q.manager q.call
asks_by false xid q = message.BranchRollback xid q.branch q.kind q.manager q.call

-- a branch is asked
abbrev pub asked_step : Xid → Question → Step
asked_step xid q = sends (act.Asked xid q.branch) (place.Res q.resource) (asks_by q.commit xid q)

-- ---- answers to a registration

-- the branch was registered before
abbrev pub regranted_step : RegisterPlace → Leg → Step
regranted_step p leg =
    sends (act.Regranted leg.xid leg.branch) (place.Res p.resource) (message.RegisterAnswer p.ticket leg.xid (registered.Granted leg.branch))

-- the transaction can't be decided any more
abbrev pub closed_step : RegisterPlace → Xid → GlobalStatus → Step
closed_step p xid st = sends (act.Closed xid st) (place.Res p.resource) (message.RegisterAnswer p.ticket xid (registered.Closed st))

-- it is past its timeout
abbrev pub late_step : RegisterPlace → Xid → Step
late_step p xid = sends (act.Durable (durable.Late xid)) (place.Res p.resource) (message.RegisterAnswer p.ticket xid registered.Late)

-- the branch is registered
abbrev pub granted_step : RegisterPlace → Leg → Step
granted_step p leg =
    sends (act.Durable (durable.Granted leg.xid leg.branch)) (place.Res p.resource) (message.RegisterAnswer p.ticket leg.xid (registered.Granted leg.branch))

-- another transaction holds a row
abbrev pub conflict_step : RegisterPlace → Xid → RowKey → Xid → Bool → Step
conflict_step p xid key holder rolling =
    sends (act.Conflict xid key holder rolling) (place.Res p.resource) (message.RegisterAnswer p.ticket xid (registered.Conflict key holder rolling))

-- ---- answers to a question for rows

-- the first row that a transaction holds, or none
abbrev pub held_step : Place → Ticket → Option (RowKey × Xid) → Step
held_step from ticket None = sends act.Free from (message.LockAnswer ticket None)
held_step from ticket (Some found) = sends (act.Held found.0 found.1) from (message.LockAnswer ticket (Some found))

-- ---- rows that a message may have

pub record IsFramableKey (key : RowKey) : Type 0 where
  pub layout : FitsKey key
  pub limits : IsKeyWithin key

abbrev pub IsFramableRow : RowKey × Xid → Type 0
IsFramableRow row = IsFramableKey row.0
