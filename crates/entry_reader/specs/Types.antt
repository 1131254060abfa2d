-- What the types of the program say of an entry's numbers and texts.
use Rattle.std.specs.Prelude.{ℕ, ◌<◌, ◌^◌, List, Option, Some, None}
use Rattle.std.specs.List.{AllByRecursion}
use Rattle.std.specs.Prelude.{pos, negsuc}
use Rattle.std.specs.Str.{IsUtf8}
use Rattle.seata_types.specs.declared.acts.Act.{Act}
use Rattle.seata_types.specs.declared.acts.Act.TheVariants as act
use Rattle.seata_types.specs.declared.acts.Durable.{Durable}
use Rattle.seata_types.specs.declared.acts.Durable.TheVariants as durable
use Rattle.seata_types.specs.declared.errors.StmtError.{StmtError}
use Rattle.seata_types.specs.declared.errors.StmtError.TheVariants as error
use Rattle.seata_types.specs.declared.errors.Why.{Why}
use Rattle.seata_types.specs.declared.errors.Why.TheVariants as why
use Rattle.seata_types.specs.declared.ids.BranchId.{BranchId}
use Rattle.seata_types.specs.declared.ids.Place.{Place}
use Rattle.seata_types.specs.declared.ids.Place.TheVariants as place
use Rattle.seata_types.specs.declared.ids.Ticket.{Ticket}
use Rattle.seata_types.specs.declared.ids.Xid.{Xid}
use Rattle.seata_types.specs.declared.messages.CallAnswer.{CallAnswer}
use Rattle.seata_types.specs.declared.messages.CallAnswer.TheVariants as reply
use Rattle.seata_types.specs.declared.messages.Registered.{Registered}
use Rattle.seata_types.specs.declared.messages.Registered.TheVariants as registered
use Rattle.seata_types.specs.declared.rows.Row.{Row}
use Rattle.seata_types.specs.declared.rows.RowKey.{RowKey}
use Rattle.seata_types.specs.declared.rows.Value.{Value}
use Rattle.seata_types.specs.declared.rows.Value.TheVariants as value
use Rattle.history_text.specs.declared.entries.Cause.{Cause}
use Rattle.history_text.specs.declared.entries.Cause.TheVariants as cause
use Rattle.history_text.specs.declared.entries.Entry.{Entry}
use Rattle.history_text.specs.declared.entries.Sent.{Sent}
use Rattle.history_text.specs.declared.notes.Note.{Note}
use Rattle.history_text.specs.declared.notes.Note.TheVariants as note

-- numbers of 16, 32 and 64 bits
abbrev pub Is16 : ℕ → Type 0
Is16 n = n < 2 ^ 16

abbrev pub Is32 : ℕ → Type 0
Is32 n = n < 2 ^ 32

abbrev pub Is64 : ℕ → Type 0
Is64 n = n < 2 ^ 64

-- identities, tickets and places
abbrev pub IsXid : Xid → Type 0
IsXid xid = Is64 xid.0

abbrev pub IsBranch : BranchId → Type 0
IsBranch branch = Is64 branch.0

abbrev pub IsTicket : Ticket → Type 0
IsTicket ticket = Is32 ticket.boot × Is32 ticket.seq

abbrev pub IsPlace : Place → Type 0
IsPlace place.Net = Unit {0}
IsPlace place.Tc = Unit {0}
IsPlace (place.Res n) = Is16 n
IsPlace (place.Man n) = Is16 n

-- -(n + 1) is negsuc n
abbrev pub IsValue : Value → Type 0
IsValue (value.Int (pos n)) = n < 2 ^ 63
IsValue (value.Int (negsuc n)) = n < 2 ^ 63
IsValue (value.Text text) = IsUtf8 text

-- keys, and rows that may be missing
abbrev pub IsKey : RowKey → Type 0
IsKey key = Is16 key.resource × AllByRecursion IsValue key.pk

abbrev pub AreKeys : List RowKey → Type 0
AreKeys keys = AllByRecursion IsKey keys

abbrev pub IsOptionRow : Option Row → Type 0
IsOptionRow None = Unit {0}
IsOptionRow (Some row) = AllByRecursion IsValue row.0

-- reasons and causes
abbrev pub IsError : StmtError → Type 0
IsError (error.Overflow key) = IsKey key
IsError (error.Duplicate key) = IsKey key
IsError _ = Unit {0}

abbrev pub IsWhy : Why → Type 0
IsWhy (why.Stmt index reason) = Is16 index × IsError reason
IsWhy (why.Rolling holder) = IsXid holder
IsWhy (why.NoRow index) = Is16 index
IsWhy _ = Unit {0}

abbrev pub IsCalls : Option ℕ → Type 0
IsCalls None = Unit {0}
IsCalls (Some calls) = Is32 calls

abbrev pub IsCause : Cause → Type 0
IsCause cause.Turn = Unit {0}
IsCause (cause.Deliver stamp from) = Is32 stamp × IsPlace from
IsCause (cause.Missing stamp) = Is32 stamp
IsCause (cause.Wait ticks) = Is64 ticks
IsCause (cause.Stop calls) = Is32 calls
IsCause cause.Crash = Unit {0}
IsCause (cause.Restart pick calls) = Is16 pick × IsCalls calls
IsCause (cause.Local number) = Is16 number
IsCause (cause.Outside number) = Is16 number

-- acts
abbrev pub IsDurable : Durable → Type 0
IsDurable (durable.Begun xid) = IsXid xid
IsDurable (durable.Granted xid branch) = IsXid xid × IsBranch branch
IsDurable (durable.Late xid) = IsXid xid
IsDurable (durable.Decided xid decision) = IsXid xid
IsDurable (durable.Ended xid branch) = IsXid xid × IsBranch branch
IsDurable (durable.Retrying xid branch) = IsXid xid × IsBranch branch
IsDurable (durable.Failed xid branch stmt) = IsXid xid × IsBranch branch × Is16 stmt
IsDurable (durable.Finished xid status) = IsXid xid
IsDurable (durable.Forgot xid) = IsXid xid
IsDurable (durable.Committed xid branch ticket) = IsXid xid × IsBranch branch × IsTicket ticket
IsDurable (durable.Tried xid branch ticket) = IsXid xid × IsBranch branch × IsTicket ticket
IsDurable (durable.Cleared xid branch) = IsXid xid × IsBranch branch
IsDurable (durable.Undone xid branch) = IsXid xid × IsBranch branch
IsDurable (durable.Marked xid branch) = IsXid xid × IsBranch branch
IsDurable (durable.Confirmed xid branch) = IsXid xid × IsBranch branch
IsDurable (durable.Cancelled xid branch) = IsXid xid × IsBranch branch
IsDurable (durable.Suspended xid branch) = IsXid xid × IsBranch branch
IsDurable (durable.LocalCommitted number ticket) = Is16 number × IsTicket ticket
IsDurable (durable.Outside number) = Is16 number
IsDurable durable.Boot = Unit {0}

abbrev pub IsOptionDurable : Option Durable → Type 0
IsOptionDurable None = Unit {0}
IsOptionDurable (Some done) = IsDurable done

abbrev pub IsAct : Act → Type 0
IsAct (act.Durable done) = IsDurable done
IsAct (act.Known xid) = IsXid xid
IsAct (act.Regranted xid branch) = IsXid xid × IsBranch branch
IsAct (act.Conflict xid key holder rolling) = IsXid xid × IsKey key × IsXid holder
IsAct (act.Closed xid status) = IsXid xid
IsAct (act.Told xid status) = IsXid xid
IsAct (act.Asked xid branch) = IsXid xid × IsBranch branch
IsAct (act.Retry xid branch) = IsXid xid × IsBranch branch
IsAct (act.Held key holder) = IsKey key × IsXid holder
IsAct act.Free = Unit {0}
IsAct (act.Opened xid call ticket) = IsXid xid × Is16 call × IsTicket ticket
IsAct (act.Waiting xid call) = IsXid xid × Is16 call
IsAct (act.Again xid call branch) = IsXid xid × Is16 call × IsBranch branch
IsAct (act.Busy xid call key by) = IsXid xid × Is16 call × IsKey key × IsTicket by
IsAct (act.Refused xid call reason) = IsXid xid × Is16 call × IsWhy reason
IsAct (act.Resent ticket) = IsTicket ticket
IsAct (act.Conflicted ticket count) = IsTicket ticket × Is32 count
IsAct (act.Dropped xid call ticket reason) = IsXid xid × Is16 call × IsTicket ticket × IsWhy reason
IsAct (act.Empty xid branch) = IsXid xid × IsBranch branch
IsAct (act.Remarked xid branch) = IsXid xid × IsBranch branch
IsAct (act.Blocked xid branch key by) = IsXid xid × IsBranch branch × IsKey key × IsTicket by
IsAct (act.Dirty xid branch key after now) = IsXid xid × IsBranch branch × IsKey key × IsOptionRow after × IsOptionRow now
IsAct (act.Already xid branch) = IsXid xid × IsBranch branch
IsAct (act.Unfenced xid branch) = IsXid xid × IsBranch branch
IsAct (act.Unable xid branch index reason) = IsXid xid × IsBranch branch × Is16 index × IsError reason
IsAct (act.WaitingLocal number) = Is16 number
IsAct (act.RefusedLocal number reason) = Is16 number × IsWhy reason
IsAct (act.BusyLocal number key by) = Is16 number × IsKey key × IsTicket by
IsAct (act.OpenedLocal number ticket) = Is16 number × IsTicket ticket
IsAct (act.DroppedLocal number ticket key holder) = Is16 number × IsTicket ticket × IsKey key × IsXid holder
IsAct (act.CallBusy count) = Is32 count
IsAct (act.Down kept flight) = IsOptionDurable kept × IsOptionDurable flight
IsAct (act.Restarted kept) = IsOptionDurable kept
IsAct _ = Unit {0}

-- messages, and the answers in them
abbrev pub IsRegistered : Registered → Type 0
IsRegistered (registered.Granted branch) = IsBranch branch
IsRegistered (registered.Conflict key holder rolling) = IsKey key × IsXid holder
IsRegistered (registered.Closed status) = Unit {0}
IsRegistered registered.Late = Unit {0}

abbrev pub IsReply : CallAnswer → Type 0
IsReply (reply.Done branch) = IsBranch branch
IsReply (reply.Busy key by) = IsKey key × IsTicket by
IsReply (reply.Failed reason) = IsWhy reason

abbrev pub IsHeld : Option (RowKey × Xid) → Type 0
IsHeld None = Unit {0}
IsHeld (Some (key, holder)) = IsKey key × IsXid holder

abbrev pub IsNote : Note → Type 0
IsNote (note.Begin manager timeout) = Is16 manager × Is64 timeout
IsNote (note.Begun xid) = IsXid xid
IsNote (note.BranchCommit xid branch kind) = IsXid xid × IsBranch branch
IsNote (note.BranchCommitted xid branch status stmt) = IsXid xid × IsBranch branch × Is16 stmt
IsNote (note.BranchRollback xid branch kind) = IsXid xid × IsBranch branch
IsNote (note.BranchRollbacked xid branch status stmt) = IsXid xid × IsBranch branch × Is16 stmt
IsNote (note.GlobalCommit xid) = IsXid xid
IsNote (note.CommitStatus xid status) = IsXid xid
IsNote (note.GlobalRollback xid) = IsXid xid
IsNote (note.RollbackStatus xid status) = IsXid xid
IsNote (note.Register xid call ticket kind hold check) = IsXid xid × Is16 call × IsTicket ticket × AreKeys hold × AreKeys check
IsNote (note.RegisterAnswer ticket xid answer) = IsTicket ticket × IsXid xid × IsRegistered answer
IsNote (note.GlobalStatus xid) = IsXid xid
IsNote (note.StatusAnswer xid status) = IsXid xid
IsNote (note.LockQuery ticket check) = IsTicket ticket × AreKeys check
IsNote (note.LockAnswer ticket held) = IsTicket ticket × IsHeld held
IsNote (note.Call xid call) = IsXid xid × Is16 call
IsNote (note.Answer xid call answer) = IsXid xid × Is16 call × IsReply answer

abbrev pub IsSent : Option Sent → Type 0
IsSent None = Unit {0}
IsSent (Some sent) = IsPlace sent.to × IsNote sent.note

-- an entry of the program
pub record IsOfTypes (e : Entry) : Type 0 where
  pub stamp : Is32 e.stamp
  pub place : IsPlace e.place
  pub now : Is64 e.now
  pub cause : IsCause e.cause
  pub act : IsAct e.act
  pub sent : IsSent e.sent
