-- The printed line of an entry, part by part.
use Rattle.std.specs.Prelude.{ℕ, zero, suc, ◌==◌, Bool, true, false, if◌then◌else◌, List, [], ◌∷◌, ◌++◌, Option, Some, None, slice_get, codes}
use Rattle.std.specs.Fmt.{decimal, signed_decimal}
use Rattle.seata_types.specs.Orders.{same_text}
use Rattle.seata_types.specs.declared.acts.Act.{Act}
use Rattle.seata_types.specs.declared.acts.Act.TheVariants as act
use Rattle.seata_types.specs.declared.acts.Durable.{Durable}
use Rattle.seata_types.specs.declared.acts.Durable.TheVariants as durable
use Rattle.seata_types.specs.declared.errors.StmtError.{StmtError}
use Rattle.seata_types.specs.declared.errors.StmtError.TheVariants as error
use Rattle.seata_types.specs.declared.errors.Why.{Why}
use Rattle.seata_types.specs.declared.errors.Why.TheVariants as why
use Rattle.seata_types.specs.declared.ids.BranchId.{BranchId}
use Rattle.seata_types.specs.declared.ids.Place.{Place}
use Rattle.seata_types.specs.declared.ids.Place.TheVariants as place
use Rattle.seata_types.specs.declared.ids.Ticket.{Ticket}
use Rattle.seata_types.specs.declared.ids.Xid.{Xid}
use Rattle.seata_types.specs.declared.messages.CallAnswer.{CallAnswer}
use Rattle.seata_types.specs.declared.messages.CallAnswer.TheVariants as reply
use Rattle.seata_types.specs.declared.messages.Registered.{Registered}
use Rattle.seata_types.specs.declared.messages.Registered.TheVariants as registered
use Rattle.seata_types.specs.declared.rows.Row.{Row}
use Rattle.seata_types.specs.declared.rows.RowKey.{RowKey}
use Rattle.seata_types.specs.declared.rows.Value.{Value}
use Rattle.seata_types.specs.declared.rows.Value.TheVariants as value
use Rattle.seata_types.specs.declared.statuses.BranchKind.{BranchKind}
use Rattle.seata_types.specs.declared.statuses.BranchKind.TheVariants as kind
use Rattle.seata_types.specs.declared.statuses.Decision.{Decision}
use Rattle.seata_types.specs.declared.statuses.Decision.TheVariants as how
use Rattle.seata_types.specs.Statuses.{code_of, branch_code_of}
use Rattle.history_text.specs.declared.entries.Cause.{Cause}
use Rattle.history_text.specs.declared.entries.Cause.TheVariants as cause
use Rattle.history_text.specs.declared.entries.Entry.{Entry}
use Rattle.history_text.specs.declared.entries.Names.{Names}
use Rattle.history_text.specs.declared.entries.Sent.{Sent}
use Rattle.history_text.specs.declared.notes.Note.{Note}
use Rattle.history_text.specs.declared.notes.Note.TheVariants as note

-- ---- places and identities

-- the n-th name, counted from 1; where there is none, a letter and the number
abbrev pub name_or_number : List ℕ → ℕ → Option (List ℕ) → List ℕ
name_or_number letter n (Some name) = name
name_or_number letter n None = letter ++ decimal n

abbrev pub name_text : List ℕ → List (List ℕ) → ℕ → List ℕ
name_text letter names zero = name_or_number letter zero None
name_text letter names (suc k) = name_or_number letter (suc k) (slice_get names k)

-- a place: `net`, `tc`, or the name of a node
abbrev pub place_text : Names → Place → List ℕ
place_text names place.Net = codes "net"
place_text names place.Tc = codes "tc"
place_text names (place.Res n) = name_text (codes "r") names.resources n
place_text names (place.Man n) = name_text (codes "m") names.managers n

-- a transaction, as `tc:1`, and a branch, as `b1`
abbrev pub xid_text : Xid → List ℕ
xid_text xid = codes "tc:" ++ decimal xid.0

abbrev pub branch_text : BranchId → List ℕ
branch_text branch = codes "b" ++ decimal branch.0

-- a transaction and its branch
abbrev pub leg_text : Xid → BranchId → List ℕ
leg_text xid branch = xid_text xid ++ (codes " " ++ branch_text branch)

-- a transaction and its call
abbrev pub call_text : Xid → ℕ → List ℕ
call_text xid call = xid_text xid ++ (codes " c" ++ decimal call)

-- a ticket, as `t1.2`: its boot, and the opening since
abbrev pub ticket_text : Ticket → List ℕ
ticket_text ticket = codes "t" ++ (decimal ticket.boot ++ (codes "." ++ decimal ticket.seq))

-- ---- values, keys and rows

-- a text with each quote doubled
abbrev pub quoted : List ℕ → List ℕ
quoted [] = []
quoted (c ∷ cs) = if c == 39 then 39 ∷ 39 ∷ quoted cs else c ∷ quoted cs

-- a value as a statement's literal
abbrev pub literal_text : Value → List ℕ
literal_text (value.Int number) = signed_decimal number
literal_text (value.Text text) = codes "'" ++ (quoted text ++ codes "'")

-- values, with a text between two
abbrev pub more_values_text : List ℕ → List Value → List ℕ
more_values_text between [] = []
more_values_text between (v ∷ vs) = (between ++ literal_text v) ++ more_values_text between vs

abbrev pub values_text : List ℕ → List Value → List ℕ
values_text between [] = []
values_text between (v ∷ vs) = literal_text v ++ more_values_text between vs

-- the parts of a primary key, as `1_2`
abbrev pub parts_text : List Value → List ℕ
parts_text pk = values_text (codes "_") pk

-- a key, as `A.seat:1_2`
abbrev pub key_text : Names → RowKey → List ℕ
key_text names key = name_text (codes "r") names.resources key.resource ++ (codes "." ++ (key.table ++ (codes ":" ++ parts_text key.pk)))

-- the keys of locks: each table once with its primary keys, as `acc:1,2;stock:1`
abbrev pub more_keys_text : List ℕ → List RowKey → List ℕ
more_keys_text table [] = []
more_keys_text table (key ∷ keys) =
    (if same_text table key.table then codes "," ++ parts_text key.pk else codes ";" ++ (key.table ++ (codes ":" ++ parts_text key.pk))) ++
    more_keys_text key.table keys

abbrev pub keys_text : List RowKey → List ℕ
keys_text [] = codes "-"
keys_text (key ∷ keys) = (key.table ++ (codes ":" ++ parts_text key.pk)) ++ more_keys_text key.table keys

-- a row, as `(1, 900)`
abbrev pub row_text : Row → List ℕ
row_text row = codes "(" ++ (values_text (codes ", ") row.0 ++ codes ")")

-- a row, or `-` where there is none
abbrev pub option_row_text : Option Row → List ℕ
option_row_text None = codes "-"
option_row_text (Some row) = row_text row

-- ---- reasons

-- why a statement has no meaning
abbrev pub error_text : Names → StmtError → List ℕ
error_text names error.NoTable = codes "NoTable"
error_text names error.NoColumn = codes "NoColumn"
error_text names error.Columns = codes "Columns"
error_text names error.KeyChanged = codes "KeyChanged"
error_text names error.TypeMismatch = codes "TypeMismatch"
error_text names error.TooManyRows = codes "TooManyRows"
error_text names (error.Overflow key) = codes "Overflow " ++ key_text names key
error_text names (error.Duplicate key) = codes "Duplicate " ++ key_text names key
error_text names error.TableFull = codes "TableFull"

-- why a call failed, or a local transaction was refused
abbrev pub why_text : Names → Why → List ℕ
why_text names (why.Stmt index reason) = codes "stmt " ++ (decimal index ++ (codes " " ++ error_text names reason))
why_text names why.Tries = codes "tries"
why_text names (why.Rolling holder) = codes "rolling " ++ xid_text holder
why_text names (why.Closed status) = codes "closed " ++ decimal (code_of status)
why_text names why.Late = codes "late"
why_text names why.Marker = codes "marker"
why_text names (why.NoRow index) = codes "norow " ++ decimal index
why_text names why.Fence = codes "fence"

-- ---- causes

-- the calls after which a restart's disks stop, if any, behind a space
abbrev pub calls_text : Option ℕ → List ℕ
calls_text None = []
calls_text (Some calls) = codes " " ++ decimal calls

-- the cause of an entry
abbrev pub cause_text : Names → Cause → List ℕ
cause_text names cause.Turn = codes "turn"
cause_text names (cause.Deliver stamp from) = codes "deliver " ++ (decimal stamp ++ (codes " " ++ place_text names from))
cause_text names (cause.Missing stamp) = codes "deliver " ++ decimal stamp
cause_text names (cause.Wait ticks) = codes "wait " ++ decimal ticks
cause_text names (cause.Stop calls) = codes "stop " ++ decimal calls
cause_text names cause.Crash = codes "crash"
cause_text names (cause.Restart pick calls) = codes "restart " ++ (decimal pick ++ calls_text calls)
cause_text names (cause.Local number) = codes "local " ++ decimal number
cause_text names (cause.Outside number) = codes "outside " ++ decimal number

-- ---- acts

-- a decision, and a durable act with what it is of
abbrev pub decision_text : Decision → List ℕ
decision_text how.Commit = codes "commit"
decision_text how.Rollback = codes "rollback"
decision_text how.Timeout = codes "timeout"

abbrev pub durable_text : Durable → List ℕ
durable_text (durable.Begun xid) = codes "begun " ++ xid_text xid
durable_text (durable.Granted xid branch) = codes "granted " ++ leg_text xid branch
durable_text (durable.Late xid) = codes "late " ++ xid_text xid
durable_text (durable.Decided xid decision) = codes "decided " ++ (xid_text xid ++ (codes " " ++ decision_text decision))
durable_text (durable.Ended xid branch) = codes "ended " ++ leg_text xid branch
durable_text (durable.Retrying xid branch) = codes "retrying " ++ leg_text xid branch
durable_text (durable.Failed xid branch stmt) = codes "failed " ++ (leg_text xid branch ++ (codes " stmt " ++ decimal stmt))
durable_text (durable.Finished xid status) = codes "finished " ++ (xid_text xid ++ (codes " " ++ decimal (code_of status)))
durable_text (durable.Forgot xid) = codes "forgot " ++ xid_text xid
durable_text (durable.Committed xid branch ticket) = codes "committed " ++ (leg_text xid branch ++ (codes " " ++ ticket_text ticket))
durable_text (durable.Tried xid branch ticket) = codes "tried " ++ (leg_text xid branch ++ (codes " " ++ ticket_text ticket))
durable_text (durable.Cleared xid branch) = codes "cleared " ++ leg_text xid branch
durable_text (durable.Undone xid branch) = codes "undone " ++ leg_text xid branch
durable_text (durable.Marked xid branch) = codes "marked " ++ leg_text xid branch
durable_text (durable.Confirmed xid branch) = codes "confirmed " ++ leg_text xid branch
durable_text (durable.Cancelled xid branch) = codes "cancelled " ++ leg_text xid branch
durable_text (durable.Suspended xid branch) = codes "suspended " ++ leg_text xid branch
durable_text (durable.LocalCommitted number ticket) = codes "local-committed " ++ (decimal number ++ (codes " " ++ ticket_text ticket))
durable_text (durable.Outside number) = codes "outside " ++ decimal number
durable_text durable.Boot = codes "boot"

-- a durable act after a word, where there is one
abbrev pub with_durable : List ℕ → Option Durable → List ℕ
with_durable word None = []
with_durable word (Some done) = word ++ durable_text done

-- whether a holder rolls back
abbrev pub holding_text : Bool → List ℕ
holding_text true = codes "rolling"
holding_text false = codes "held"

-- a locked row, its holder, and whether that rolls back
abbrev pub held_text : Names → RowKey → Xid → Bool → List ℕ
held_text names key holder rolling = key_text names key ++ (codes " " ++ (xid_text holder ++ (codes " " ++ holding_text rolling)))

-- a locked row and its holder
abbrev pub lock_text : Names → RowKey → Xid → List ℕ
lock_text names key holder = key_text names key ++ (codes " " ++ xid_text holder)

-- a row that is open in a local transaction, and its ticket
abbrev pub opener_text : Names → RowKey → Ticket → List ℕ
opener_text names key by = key_text names key ++ (codes " " ++ ticket_text by)

-- a row's key, its after-image and the present row
abbrev pub change_text : Names → RowKey → Option Row → Option Row → List ℕ
change_text names key after now = key_text names key ++ (codes " " ++ (option_row_text after ++ (codes " " ++ option_row_text now)))

-- the rows that a registration holds and those that it checks
abbrev pub locks_text : List RowKey → List RowKey → List ℕ
locks_text hold check = codes " hold " ++ (keys_text hold ++ (codes " check " ++ keys_text check))

-- an act with what it is of
abbrev pub act_text : Names → Act → List ℕ
act_text names (act.Durable done) = durable_text done
act_text names (act.Known xid) = codes "known " ++ xid_text xid
act_text names (act.Regranted xid branch) = codes "regranted " ++ leg_text xid branch
act_text names (act.Conflict xid key holder rolling) =
    codes "conflict " ++ (xid_text xid ++ (codes " " ++ held_text names key holder rolling))
act_text names (act.Closed xid status) = codes "closed " ++ (xid_text xid ++ (codes " " ++ decimal (code_of status)))
act_text names (act.Told xid status) = codes "told " ++ (xid_text xid ++ (codes " " ++ decimal (code_of status)))
act_text names (act.Asked xid branch) = codes "asked " ++ leg_text xid branch
act_text names (act.Retry xid branch) = codes "retry " ++ leg_text xid branch
act_text names (act.Held key holder) = codes "held " ++ lock_text names key holder
act_text names act.Free = codes "free"
act_text names (act.Opened xid call ticket) = codes "opened " ++ (call_text xid call ++ (codes " " ++ ticket_text ticket))
act_text names (act.Waiting xid call) = codes "waiting " ++ call_text xid call
act_text names (act.Again xid call branch) = codes "again " ++ (call_text xid call ++ (codes " " ++ branch_text branch))
act_text names (act.Busy xid call key by) =
    codes "busy " ++ (call_text xid call ++ (codes " " ++ opener_text names key by))
act_text names (act.Refused xid call reason) = codes "refused " ++ (call_text xid call ++ (codes " " ++ why_text names reason))
act_text names (act.Resent ticket) = codes "resent " ++ ticket_text ticket
act_text names (act.Conflicted ticket count) = codes "conflicted " ++ (ticket_text ticket ++ (codes " " ++ decimal count))
act_text names (act.Dropped xid call ticket reason) =
    codes "dropped " ++ (call_text xid call ++ (codes " " ++ (ticket_text ticket ++ (codes " " ++ why_text names reason))))
act_text names (act.Empty xid branch) = codes "empty " ++ leg_text xid branch
act_text names (act.Remarked xid branch) = codes "remarked " ++ leg_text xid branch
act_text names (act.Blocked xid branch key by) =
    codes "blocked " ++ (leg_text xid branch ++ (codes " " ++ opener_text names key by))
act_text names (act.Dirty xid branch key after now) =
    codes "dirty " ++ (leg_text xid branch ++ (codes " " ++ change_text names key after now))
act_text names (act.Already xid branch) = codes "already " ++ leg_text xid branch
act_text names (act.Unfenced xid branch) = codes "unfenced " ++ leg_text xid branch
act_text names (act.Unable xid branch index reason) =
    codes "unable " ++ (leg_text xid branch ++ (codes " stmt " ++ (decimal index ++ (codes " " ++ error_text names reason))))
act_text names (act.WaitingLocal number) = codes "waiting-local " ++ decimal number
act_text names (act.RefusedLocal number reason) = codes "refused-local " ++ (decimal number ++ (codes " " ++ why_text names reason))
act_text names (act.BusyLocal number key by) = codes "busy-local " ++ (decimal number ++ (codes " " ++ opener_text names key by))
act_text names (act.OpenedLocal number ticket) = codes "opened-local " ++ (decimal number ++ (codes " " ++ ticket_text ticket))
act_text names (act.DroppedLocal number ticket key holder) =
    codes "dropped-local " ++ (decimal number ++ (codes " " ++ (ticket_text ticket ++ (codes " " ++ lock_text names key holder))))
act_text names act.Starts = codes "starts"
act_text names act.Repeats = codes "repeats"
act_text names act.GoesOn = codes "goes on"
act_text names act.GivesUp = codes "gives up"
act_text names (act.CallBusy count) = codes "busy " ++ decimal count
act_text names (act.Closes status) = codes "closes " ++ decimal (code_of status)
act_text names act.Polls = codes "polls"
act_text names (act.Learns status) = codes "learns " ++ decimal (code_of status)
act_text names act.Silent = codes "silent"
act_text names act.Nothing = codes "none"
act_text names act.Ignored = codes "ignored"
act_text names act.Lost = codes "lost"
act_text names act.Armed = codes "armed"
act_text names (act.Down kept flight) = codes "down" ++ (with_durable (codes " kept ") kept ++ with_durable (codes " at ") flight)
act_text names (act.Restarted kept) = codes "restarted" ++ with_durable (codes " kept ") kept

-- ---- notes

abbrev pub kind_text : BranchKind → List ℕ
kind_text kind.At = codes "AT"
kind_text kind.Tcc = codes "TCC"

-- the answer to a registration, with its ticket and transaction
abbrev pub registered_text : Names → Ticket → Xid → Registered → List ℕ
registered_text names ticket xid (registered.Granted branch) =
    codes "granted " ++ (ticket_text ticket ++ (codes " " ++ leg_text xid branch))
registered_text names ticket xid (registered.Conflict key holder rolling) =
    codes "conflict " ++ (ticket_text ticket ++ (codes " " ++ (xid_text xid ++ (codes " " ++ held_text names key holder rolling))))
registered_text names ticket xid (registered.Closed status) =
    codes "closed " ++ (ticket_text ticket ++ (codes " " ++ (xid_text xid ++ (codes " " ++ decimal (code_of status)))))
registered_text names ticket xid registered.Late = codes "late " ++ (ticket_text ticket ++ (codes " " ++ xid_text xid))

-- the answer to a lock query
abbrev pub lock_answer_text : Names → Ticket → Option (RowKey × Xid) → List ℕ
lock_answer_text names ticket None = codes "lock-free " ++ ticket_text ticket
lock_answer_text names ticket (Some (key, holder)) =
    codes "lock-held " ++ (ticket_text ticket ++ (codes " " ++ lock_text names key holder))

-- the answer to a call
abbrev pub reply_text : Names → CallAnswer → List ℕ
reply_text names (reply.Done branch) = codes "done " ++ branch_text branch
reply_text names (reply.Busy key by) = codes "busy " ++ opener_text names key by
reply_text names (reply.Failed reason) = codes "failed " ++ why_text names reason

-- a message with the fields that its line shows
abbrev pub note_text : Names → Note → List ℕ
note_text names (note.Begin manager timeout) = codes "begin " ++ (place_text names (place.Man manager) ++ (codes " " ++ decimal timeout))
note_text names (note.Begun xid) = codes "begun " ++ xid_text xid
note_text names (note.BranchCommit xid branch kind) = codes "branch-commit " ++ (leg_text xid branch ++ (codes " " ++ kind_text kind))
note_text names (note.BranchCommitted xid branch status stmt) =
    codes "branch-committed " ++ (leg_text xid branch ++ (codes " " ++ (decimal (branch_code_of status) ++ (codes " " ++ decimal stmt))))
note_text names (note.BranchRollback xid branch kind) = codes "branch-rollback " ++ (leg_text xid branch ++ (codes " " ++ kind_text kind))
note_text names (note.BranchRollbacked xid branch status stmt) =
    codes "branch-rollbacked " ++ (leg_text xid branch ++ (codes " " ++ (decimal (branch_code_of status) ++ (codes " " ++ decimal stmt))))
note_text names (note.GlobalCommit xid) = codes "commit " ++ xid_text xid
note_text names (note.CommitStatus xid status) = codes "commit-status " ++ (xid_text xid ++ (codes " " ++ decimal (code_of status)))
note_text names (note.GlobalRollback xid) = codes "rollback " ++ xid_text xid
note_text names (note.RollbackStatus xid status) = codes "rollback-status " ++ (xid_text xid ++ (codes " " ++ decimal (code_of status)))
note_text names (note.Register xid call ticket kind hold check) =
    codes "register " ++ (call_text xid call ++ (codes " " ++ (ticket_text ticket ++ (codes " " ++ (kind_text kind ++ locks_text hold check)))))
note_text names (note.RegisterAnswer ticket xid answer) = registered_text names ticket xid answer
note_text names (note.GlobalStatus xid) = codes "status-ask " ++ xid_text xid
note_text names (note.StatusAnswer xid status) = codes "status " ++ (xid_text xid ++ (codes " " ++ decimal (code_of status)))
note_text names (note.LockQuery ticket check) = codes "lock-query " ++ (ticket_text ticket ++ (codes " check " ++ keys_text check))
note_text names (note.LockAnswer ticket held) = lock_answer_text names ticket held
note_text names (note.Call xid call) = codes "call " ++ call_text xid call
note_text names (note.Answer xid call answer) = codes "answer " ++ (call_text xid call ++ (codes " " ++ reply_text names answer))

-- what an entry sent and to whom, or `-` where it sent nothing
abbrev pub sent_text : Names → Option Sent → List ℕ
sent_text names None = codes "-"
sent_text names (Some sent) = note_text names sent.note ++ (codes " to " ++ place_text names sent.to)

-- ---- lines

-- the number of an entry, its place, its moment and its cause
unfoldable pub origin_text : Names → Entry → List ℕ
origin_text names e =
    decimal e.stamp ++ (codes " " ++ (place_text names e.place ++ (codes " " ++ (decimal e.now ++ (codes " " ++ cause_text names e.cause)))))

-- the line of an entry, without its line feed
unfoldable pub entry_text : Names → Entry → List ℕ
entry_text names e = origin_text names e ++ (codes " | " ++ (act_text names e.act ++ (codes " | " ++ sent_text names e.sent)))
