-- The message that pieces stand for, as a line shows it.
use Rattle.std.specs.Prelude.{ℕ, if◌then◌else◌, List, [], ◌∷◌, drop, Option, Some, None, codes}
use Rattle.seata_types.specs.Orders.{same_text}
use Rattle.seata_types.specs.declared.ids.Place.{Place}
use Rattle.seata_types.specs.declared.ids.Place.TheVariants as place
use Rattle.seata_types.specs.declared.messages.CallAnswer.{CallAnswer}
use Rattle.seata_types.specs.declared.messages.CallAnswer.TheVariants as reply
use Rattle.seata_types.specs.declared.messages.Registered.{Registered}
use Rattle.seata_types.specs.declared.messages.Registered.TheVariants as registered
use Rattle.history_text.specs.declared.entries.Names.{Names}
use Rattle.history_text.specs.declared.entries.Sent.{Sent}
use Rattle.history_text.specs.declared.notes.Note.{Note}
use Rattle.history_text.specs.declared.notes.Note.TheVariants as note
use Rattle.entry_reader.specs.Cuts.{piece, last_piece}
use Rattle.entry_reader.specs.Parts.{number, number_16, number_in, place_of, word_in, xid_of, branch_of, call_of, ticket_of, status_of, branch_status_of, kind_of, rolling_of}
use Rattle.entry_reader.specs.Values.{key_of, locks_of}
use Rattle.entry_reader.specs.Reasons.{why_of}
use Rattle.entry_reader.specs.Words.{chosen}

-- the resource at a place, 0 for none
abbrev pub resource_at : Place → ℕ
resource_at place.Net = 0
resource_at place.Tc = 0
resource_at (place.Res n) = n
resource_at (place.Man n) = 0

-- the answer to a call, a failed one where no other word fits
unfoldable pub reply_of : Names → List (List ℕ) → CallAnswer
reply_of names ps = chosen (word_in (piece ps 0)) (
    (codes "done", reply.Done (branch_of (piece ps 1)))
    ∷ (codes "busy", reply.Busy (key_of names (piece ps 1)) (ticket_of (piece ps 2)))
    ∷ []) (reply.Failed (why_of names (drop 1 ps)))

-- a registration; lock texts are of the sender's resource
unfoldable pub register_of : ℕ → List (List ℕ) → Note
register_of resource ps =
    note.Register (xid_of (piece ps 1)) (call_of (piece ps 2)) (ticket_of (piece ps 3)) (kind_of (piece ps 4)) (locks_of resource (piece ps 6)) (locks_of resource (piece ps 8))

-- the answer that a row is held: the row, its holder, and whether that rolls back
unfoldable pub conflict_of : Names → List (List ℕ) → Registered
conflict_of names ps = registered.Conflict (key_of names (piece ps 3)) (xid_of (piece ps 4)) (rolling_of (piece ps 5))

-- the messages that managers and resources send; lock texts are of the sender's resource
unfoldable pub asking_notes : Names → ℕ → List (List ℕ) → List (List ℕ × Note)
asking_notes names resource ps =
    (codes "begin", note.Begin (number_in names.managers (piece ps 1)) (number (piece ps 2)))
    ∷ (codes "commit", note.GlobalCommit (xid_of (piece ps 1)))
    ∷ (codes "rollback", note.GlobalRollback (xid_of (piece ps 1)))
    ∷ (codes "status-ask", note.GlobalStatus (xid_of (piece ps 1)))
    ∷ (codes "call", note.Call (xid_of (piece ps 1)) (call_of (piece ps 2)))
    ∷ (codes "branch-committed", note.BranchCommitted (xid_of (piece ps 1)) (branch_of (piece ps 2)) (branch_status_of (piece ps 3)) (number_16 (piece ps 4)))
    ∷ (codes "branch-rollbacked", note.BranchRollbacked (xid_of (piece ps 1)) (branch_of (piece ps 2)) (branch_status_of (piece ps 3)) (number_16 (piece ps 4)))
    ∷ (codes "register", register_of resource ps)
    ∷ (codes "lock-query", note.LockQuery (ticket_of (piece ps 1)) (locks_of resource (piece ps 3)))
    ∷ []

-- the coordinator's messages
unfoldable pub answering_notes : Names → List (List ℕ) → List (List ℕ × Note)
answering_notes names ps =
    (codes "begun", note.Begun (xid_of (piece ps 1)))
    ∷ (codes "branch-commit", note.BranchCommit (xid_of (piece ps 1)) (branch_of (piece ps 2)) (kind_of (piece ps 3)))
    ∷ (codes "branch-rollback", note.BranchRollback (xid_of (piece ps 1)) (branch_of (piece ps 2)) (kind_of (piece ps 3)))
    ∷ (codes "commit-status", note.CommitStatus (xid_of (piece ps 1)) (status_of (piece ps 2)))
    ∷ (codes "rollback-status", note.RollbackStatus (xid_of (piece ps 1)) (status_of (piece ps 2)))
    ∷ (codes "status", note.StatusAnswer (xid_of (piece ps 1)) (status_of (piece ps 2)))
    ∷ (codes "granted", note.RegisterAnswer (ticket_of (piece ps 1)) (xid_of (piece ps 2)) (registered.Granted (branch_of (piece ps 3))))
    ∷ (codes "conflict", note.RegisterAnswer (ticket_of (piece ps 1)) (xid_of (piece ps 2)) (conflict_of names ps))
    ∷ (codes "closed", note.RegisterAnswer (ticket_of (piece ps 1)) (xid_of (piece ps 2)) (registered.Closed (status_of (piece ps 3))))
    ∷ (codes "late", note.RegisterAnswer (ticket_of (piece ps 1)) (xid_of (piece ps 2)) registered.Late)
    ∷ (codes "lock-free", note.LockAnswer (ticket_of (piece ps 1)) None)
    ∷ (codes "lock-held", note.LockAnswer (ticket_of (piece ps 1)) (Some (key_of names (piece ps 2), xid_of (piece ps 3))))
    ∷ []

-- a message of the coordinator, or an answer to a call where no other word fits
unfoldable pub answering_note : Names → List (List ℕ) → Note
answering_note names ps =
    chosen (word_in (piece ps 0)) (answering_notes names ps) (note.Answer (xid_of (piece ps 1)) (call_of (piece ps 2)) (reply_of names (drop 3 ps)))

-- a message by its word; lock texts are of the sender's resource
unfoldable pub note_of : Names → ℕ → List (List ℕ) → Note
note_of names resource ps = chosen (word_in (piece ps 0)) (asking_notes names resource ps) (answering_note names ps)

-- what was sent from a resource, or from elsewhere, and to whom
unfoldable pub sent_of : Names → ℕ → List (List ℕ) → Option Sent
sent_of names resource ps =
    if same_text (word_in (piece ps 0)) (codes "-") then None else Some (record { to = place_of names (last_piece ps); note = note_of names resource ps })
