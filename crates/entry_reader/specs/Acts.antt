-- The act that pieces stand for.
use Rattle.std.specs.Prelude.{ℕ, if◌then◌else◌, List, [], ◌∷◌, drop, Option, Some, None, codes}
use Rattle.seata_types.specs.Orders.{same_text}
use Rattle.seata_types.specs.declared.acts.Act.{Act}
use Rattle.seata_types.specs.declared.acts.Act.TheVariants as act
use Rattle.seata_types.specs.declared.acts.Durable.{Durable}
use Rattle.seata_types.specs.declared.acts.Durable.TheVariants as durable
use Rattle.history_text.specs.declared.entries.Names.{Names}
use Rattle.entry_reader.specs.Cuts.{piece}
use Rattle.entry_reader.specs.Parts.{number_16, number_32, word_in, xid_of, branch_of, call_of, ticket_of, status_of, decision_of, rolling_of}
use Rattle.entry_reader.specs.Values.{key_of, option_row_of}
use Rattle.entry_reader.specs.Reasons.{error_of, why_of}
use Rattle.entry_reader.specs.Words.{chosen, is_empty}

-- the durable act of these pieces, a boot where no other word fits
unfoldable pub durable_of : List (List ℕ) → Durable
durable_of ps = chosen (word_in (piece ps 0)) (
    (codes "begun", durable.Begun (xid_of (piece ps 1)))
    ∷ (codes "granted", durable.Granted (xid_of (piece ps 1)) (branch_of (piece ps 2)))
    ∷ (codes "late", durable.Late (xid_of (piece ps 1)))
    ∷ (codes "decided", durable.Decided (xid_of (piece ps 1)) (decision_of (piece ps 2)))
    ∷ (codes "ended", durable.Ended (xid_of (piece ps 1)) (branch_of (piece ps 2)))
    ∷ (codes "retrying", durable.Retrying (xid_of (piece ps 1)) (branch_of (piece ps 2)))
    ∷ (codes "failed", durable.Failed (xid_of (piece ps 1)) (branch_of (piece ps 2)) (number_16 (piece ps 4)))
    ∷ (codes "finished", durable.Finished (xid_of (piece ps 1)) (status_of (piece ps 2)))
    ∷ (codes "forgot", durable.Forgot (xid_of (piece ps 1)))
    ∷ (codes "committed", durable.Committed (xid_of (piece ps 1)) (branch_of (piece ps 2)) (ticket_of (piece ps 3)))
    ∷ (codes "tried", durable.Tried (xid_of (piece ps 1)) (branch_of (piece ps 2)) (ticket_of (piece ps 3)))
    ∷ (codes "cleared", durable.Cleared (xid_of (piece ps 1)) (branch_of (piece ps 2)))
    ∷ (codes "undone", durable.Undone (xid_of (piece ps 1)) (branch_of (piece ps 2)))
    ∷ (codes "marked", durable.Marked (xid_of (piece ps 1)) (branch_of (piece ps 2)))
    ∷ (codes "confirmed", durable.Confirmed (xid_of (piece ps 1)) (branch_of (piece ps 2)))
    ∷ (codes "cancelled", durable.Cancelled (xid_of (piece ps 1)) (branch_of (piece ps 2)))
    ∷ (codes "suspended", durable.Suspended (xid_of (piece ps 1)) (branch_of (piece ps 2)))
    ∷ (codes "local-committed", durable.LocalCommitted (number_16 (piece ps 1)) (ticket_of (piece ps 2)))
    ∷ (codes "outside", durable.Outside (number_16 (piece ps 1)))
    ∷ []) durable.Boot

-- the durable act behind a word, where the word stands
abbrev pub durable_behind : List ℕ → List (List ℕ) → Option Durable
durable_behind word [] = None
durable_behind word (p ∷ ps) = if same_text p word then Some (durable_of ps) else durable_behind word ps

-- by word, the acts of the coordinator that aren't durable
unfoldable pub coordinator_acts : Names → List (List ℕ) → List (List ℕ × Act)
coordinator_acts names ps =
    (codes "known", act.Known (xid_of (piece ps 1)))
    ∷ (codes "regranted", act.Regranted (xid_of (piece ps 1)) (branch_of (piece ps 2)))
    ∷ (codes "conflict", act.Conflict (xid_of (piece ps 1)) (key_of names (piece ps 2)) (xid_of (piece ps 3)) (rolling_of (piece ps 4)))
    ∷ (codes "closed", act.Closed (xid_of (piece ps 1)) (status_of (piece ps 2)))
    ∷ (codes "told", act.Told (xid_of (piece ps 1)) (status_of (piece ps 2)))
    ∷ (codes "asked", act.Asked (xid_of (piece ps 1)) (branch_of (piece ps 2)))
    ∷ (codes "retry", act.Retry (xid_of (piece ps 1)) (branch_of (piece ps 2)))
    ∷ (codes "held", act.Held (key_of names (piece ps 1)) (xid_of (piece ps 2)))
    ∷ (codes "free", act.Free)
    ∷ []

-- a resource's busy row, or the number of a manager's busy calls
abbrev pub busy_of : Names → List (List ℕ) → Act
busy_of names ps =
    if is_empty (piece ps 2) then act.CallBusy (number_32 (piece ps 1))
    else act.Busy (xid_of (piece ps 1)) (call_of (piece ps 2)) (key_of names (piece ps 3)) (ticket_of (piece ps 4))

-- by word, the acts at calls and tickets; `busy` is also a manager's
unfoldable pub call_acts : Names → List (List ℕ) → List (List ℕ × Act)
call_acts names ps =
    (codes "opened", act.Opened (xid_of (piece ps 1)) (call_of (piece ps 2)) (ticket_of (piece ps 3)))
    ∷ (codes "waiting", act.Waiting (xid_of (piece ps 1)) (call_of (piece ps 2)))
    ∷ (codes "again", act.Again (xid_of (piece ps 1)) (call_of (piece ps 2)) (branch_of (piece ps 3)))
    ∷ (codes "busy", busy_of names ps)
    ∷ (codes "refused", act.Refused (xid_of (piece ps 1)) (call_of (piece ps 2)) (why_of names (drop 3 ps)))
    ∷ (codes "resent", act.Resent (ticket_of (piece ps 1)))
    ∷ (codes "conflicted", act.Conflicted (ticket_of (piece ps 1)) (number_32 (piece ps 2)))
    ∷ (codes "dropped", act.Dropped (xid_of (piece ps 1)) (call_of (piece ps 2)) (ticket_of (piece ps 3)) (why_of names (drop 4 ps)))
    ∷ []

-- a row that isn't as it was left
unfoldable pub dirty_of : Names → List (List ℕ) → Act
dirty_of names ps = act.Dirty (xid_of (piece ps 1)) (branch_of (piece ps 2)) (key_of names (piece ps 3)) (option_row_of (piece ps 4)) (option_row_of (piece ps 5))

-- by word, the acts at the second phase of a branch that aren't durable
unfoldable pub branch_acts : Names → List (List ℕ) → List (List ℕ × Act)
branch_acts names ps =
    (codes "empty", act.Empty (xid_of (piece ps 1)) (branch_of (piece ps 2)))
    ∷ (codes "remarked", act.Remarked (xid_of (piece ps 1)) (branch_of (piece ps 2)))
    ∷ (codes "blocked", act.Blocked (xid_of (piece ps 1)) (branch_of (piece ps 2)) (key_of names (piece ps 3)) (ticket_of (piece ps 4)))
    ∷ (codes "dirty", dirty_of names ps)
    ∷ (codes "already", act.Already (xid_of (piece ps 1)) (branch_of (piece ps 2)))
    ∷ (codes "unfenced", act.Unfenced (xid_of (piece ps 1)) (branch_of (piece ps 2)))
    ∷ (codes "unable", act.Unable (xid_of (piece ps 1)) (branch_of (piece ps 2)) (number_16 (piece ps 4)) (error_of names (drop 5 ps)))
    ∷ []

-- by word, the acts at a local transaction or an outside write that aren't durable
unfoldable pub local_acts : Names → List (List ℕ) → List (List ℕ × Act)
local_acts names ps =
    (codes "waiting-local", act.WaitingLocal (number_16 (piece ps 1)))
    ∷ (codes "refused-local", act.RefusedLocal (number_16 (piece ps 1)) (why_of names (drop 2 ps)))
    ∷ (codes "busy-local", act.BusyLocal (number_16 (piece ps 1)) (key_of names (piece ps 2)) (ticket_of (piece ps 3)))
    ∷ (codes "opened-local", act.OpenedLocal (number_16 (piece ps 1)) (ticket_of (piece ps 2)))
    ∷ (codes "dropped-local", act.DroppedLocal (number_16 (piece ps 1)) (ticket_of (piece ps 2)) (key_of names (piece ps 3)) (xid_of (piece ps 4)))
    ∷ []

-- by word, the acts of managers, and those that any node may have
unfoldable pub other_acts : List (List ℕ) → List (List ℕ × Act)
other_acts ps =
    (codes "starts", act.Starts)
    ∷ (codes "repeats", act.Repeats)
    ∷ (codes "goes", act.GoesOn)
    ∷ (codes "gives", act.GivesUp)
    ∷ (codes "closes", act.Closes (status_of (piece ps 1)))
    ∷ (codes "polls", act.Polls)
    ∷ (codes "learns", act.Learns (status_of (piece ps 1)))
    ∷ (codes "silent", act.Silent)
    ∷ (codes "none", act.Nothing)
    ∷ (codes "ignored", act.Ignored)
    ∷ (codes "lost", act.Lost)
    ∷ (codes "armed", act.Armed)
    ∷ (codes "down", act.Down (durable_behind (codes "kept") ps) (durable_behind (codes "at") ps))
    ∷ (codes "restarted", act.Restarted (durable_behind (codes "kept") ps))
    ∷ []

-- the act by its word, each with one more table in front; where none has the word it is a durable act
unfoldable pub other_act : List (List ℕ) → Act
other_act ps = chosen (word_in (piece ps 0)) (other_acts ps) (act.Durable (durable_of ps))

unfoldable pub local_act : Names → List (List ℕ) → Act
local_act names ps = chosen (word_in (piece ps 0)) (local_acts names ps) (other_act ps)

unfoldable pub branch_act : Names → List (List ℕ) → Act
branch_act names ps = chosen (word_in (piece ps 0)) (branch_acts names ps) (local_act names ps)

unfoldable pub call_act : Names → List (List ℕ) → Act
call_act names ps = chosen (word_in (piece ps 0)) (call_acts names ps) (branch_act names ps)

-- the act that pieces stand for
unfoldable pub act_of : Names → List (List ℕ) → Act
act_of names ps = chosen (word_in (piece ps 0)) (coordinator_acts names ps) (call_act names ps)
