-- A message as its line shows it.
use Rattle.seata_types.specs.declared.messages.Message.{Message}
use Rattle.seata_types.specs.declared.messages.Message.TheVariants as message
use Rattle.seata_types.specs.declared.messages.Outgoing.{Outgoing}
use Rattle.history_text.specs.declared.notes.Note.{Note}
use Rattle.history_text.specs.declared.notes.Note.TheVariants as note
use Rattle.history_text.specs.declared.entries.Sent.{Sent}

-- the message without the fields that its line leaves out
abbrev pub note_of_message : Message → Note
note_of_message (message.Begin manager timeout) = note.Begin manager timeout
note_of_message (message.Begun xid) = note.Begun xid
note_of_message (message.BranchCommit xid branch kind manager call) = note.BranchCommit xid branch kind
note_of_message (message.BranchCommitted xid branch status stmt) = note.BranchCommitted xid branch status stmt
note_of_message (message.BranchRollback xid branch kind manager call) = note.BranchRollback xid branch kind
note_of_message (message.BranchRollbacked xid branch status stmt) = note.BranchRollbacked xid branch status stmt
note_of_message (message.GlobalCommit xid) = note.GlobalCommit xid
note_of_message (message.CommitStatus xid status) = note.CommitStatus xid status
note_of_message (message.GlobalRollback xid) = note.GlobalRollback xid
note_of_message (message.RollbackStatus xid status) = note.RollbackStatus xid status
note_of_message (message.Register xid resource call ticket kind hold check) = note.Register xid call ticket kind hold check
note_of_message (message.RegisterAnswer ticket xid answer) = note.RegisterAnswer ticket xid answer
note_of_message (message.GlobalStatus xid) = note.GlobalStatus xid
note_of_message (message.StatusAnswer xid status) = note.StatusAnswer xid status
note_of_message (message.LockQuery resource ticket check) = note.LockQuery ticket check
note_of_message (message.LockAnswer ticket held) = note.LockAnswer ticket held
note_of_message (message.Call xid manager resource call work) = note.Call xid call
note_of_message (message.Answer xid call answer) = note.Answer xid call answer

-- a message on its way, as its line shows it
abbrev pub sent_of : Outgoing → Sent
sent_of out = record { to = out.to; note = note_of_message out.message }
