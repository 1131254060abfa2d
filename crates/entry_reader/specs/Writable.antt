-- Which entries are printed with these names, beside that their numbers are of their types.
use Rattle.std.specs.Prelude.{◌≡◌, ℕ, ◌==◌, ◌&&◌, ◌||◌, not, nat_lt, nat_le, Bool, true, false, List, [], ◌∷◌, ◌++◌, length, Option, Some, None, codes}
use Rattle.std.specs.List.{list_all, list_any}
use Rattle.std.specs.Char.{is_ascii_digit, is_ascii_lowercase}
use Rattle.std.specs.Ordering.{is_lt}
use Rattle.seata_types.specs.Orders.{same_text, key_cmp}
use Rattle.seata_types.specs.declared.limits.TheConstants.{KEY_PARTS, NAME_BYTES}
use Rattle.seata_types.specs.declared.acts.Act.{Act}
use Rattle.seata_types.specs.declared.acts.Act.TheVariants as act
use Rattle.seata_types.specs.declared.errors.StmtError.{StmtError}
use Rattle.seata_types.specs.declared.errors.StmtError.TheVariants as error
use Rattle.seata_types.specs.declared.errors.Why.{Why}
use Rattle.seata_types.specs.declared.errors.Why.TheVariants as why
use Rattle.seata_types.specs.declared.ids.Place.{Place}
use Rattle.seata_types.specs.declared.ids.Place.TheVariants as place
use Rattle.seata_types.specs.declared.ids.Xid.{Xid}
use Rattle.seata_types.specs.declared.messages.CallAnswer.{CallAnswer}
use Rattle.seata_types.specs.declared.messages.CallAnswer.TheVariants as reply
use Rattle.seata_types.specs.declared.messages.Registered.{Registered}
use Rattle.seata_types.specs.declared.messages.Registered.TheVariants as registered
use Rattle.seata_types.specs.declared.rows.RowKey.{RowKey}
use Rattle.scenario_form.specs.Names.{is_node_name}
use Rattle.history_text.specs.declared.entries.Cause.{Cause}
use Rattle.history_text.specs.declared.entries.Cause.TheVariants as cause
use Rattle.history_text.specs.declared.entries.Entry.{Entry}
use Rattle.history_text.specs.declared.entries.Names.{Names}
use Rattle.history_text.specs.declared.entries.Sent.{Sent}
use Rattle.history_text.specs.declared.notes.Note.{Note}
use Rattle.history_text.specs.declared.notes.Note.TheVariants as note
use Rattle.entry_reader.specs.Notes.{resource_at}

-- ---- names

-- all different
abbrev pub are_different : List (List ℕ) → Bool
are_different [] = true
are_different (name ∷ names) = not (list_any (same_text name) names) && are_different names

-- names as a scenario's nodes have, all different
pub record AreNodeNames (names : Names) : Type 0 where
  pub form : list_all is_node_name (names.resources ++ names.managers) ≡ true
  pub different : are_different (names.resources ++ names.managers) ≡ true

abbrev pub is_name_byte : ℕ → Bool
is_name_byte c = is_ascii_lowercase c || (is_ascii_digit c || (c == 95))

-- the words of statements
abbrev pub is_keyword : List ℕ → Bool
is_keyword name =
    list_any (same_text name) (codes "insert" ∷ codes "into" ∷ codes "values" ∷ codes "update" ∷ codes "set" ∷ codes "where" ∷ codes "delete" ∷ codes "from"
    ∷ codes "select" ∷ codes "for" ∷ codes "and" ∷ codes "or" ∷ codes "not" ∷ [])

-- a table's name: a lower-case letter, then such letters, digits and `_`, at most 32 in all, and no keyword
unfoldable pub is_table_name : List ℕ → Bool
is_table_name [] = false
is_table_name (c ∷ cs) =
    is_ascii_lowercase c && (list_all is_name_byte (c ∷ cs) && (nat_le (length (c ∷ cs)) NAME_BYTES && not (is_keyword (c ∷ cs))))

-- a number, counted from 1, that has a name
abbrev pub is_named : List (List ℕ) → ℕ → Bool
is_named names n = nat_lt 0 n && nat_le n (length names)

-- the network, the coordinator, or a node that has a name
abbrev pub is_place : Names → Place → Bool
is_place names place.Net = true
is_place names place.Tc = true
is_place names (place.Res n) = is_named names.resources n
is_place names (place.Man n) = is_named names.managers n

-- ---- keys

-- a key of one to four parts, in a table of a resource that has a name
unfoldable pub is_key : Names → RowKey → Bool
is_key names key =
    is_named names.resources key.resource && (is_table_name key.table && (nat_lt 0 (length key.pk) && nat_le (length key.pk) KEY_PARTS))

-- ---- reasons, causes and acts

-- reasons, causes and acts: their keys are such, and the sender of a delivery is such a place
unfoldable pub is_error : Names → StmtError → Bool
is_error names (error.Overflow key) = is_key names key
is_error names (error.Duplicate key) = is_key names key
is_error names _ = true

unfoldable pub is_why : Names → Why → Bool
is_why names (why.Stmt index reason) = is_error names reason
is_why names _ = true

unfoldable pub is_cause : Names → Cause → Bool
is_cause names (cause.Deliver stamp from) = is_place names from
is_cause names _ = true

unfoldable pub is_act : Names → Act → Bool
is_act names (act.Conflict xid key holder rolling) = is_key names key
is_act names (act.Held key holder) = is_key names key
is_act names (act.Busy xid call key by) = is_key names key
is_act names (act.Refused xid call reason) = is_why names reason
is_act names (act.Dropped xid call ticket reason) = is_why names reason
is_act names (act.Blocked xid branch key by) = is_key names key
is_act names (act.Dirty xid branch key after now) = is_key names key
is_act names (act.Unable xid branch index reason) = is_error names reason
is_act names (act.RefusedLocal number reason) = is_why names reason
is_act names (act.BusyLocal number key by) = is_key names key
is_act names (act.DroppedLocal number ticket key holder) = is_key names key
is_act names _ = true

-- ---- lock texts and messages

-- each key stands above the one before it
abbrev pub rises_behind : RowKey → List RowKey → Bool
rises_behind last [] = true
rises_behind last (key ∷ keys) = is_lt (key_cmp last key) && rises_behind key keys

-- keys in rising order
unfoldable pub rises : List RowKey → Bool
rises [] = true
rises (key ∷ keys) = rises_behind key keys

-- such a key of this resource
abbrev pub is_key_of : Names → ℕ → RowKey → Bool
is_key_of names resource key = (key.resource == resource) && is_key names key

-- the keys of a lock text: rising keys of one resource
unfoldable pub are_locks : Names → ℕ → List RowKey → Bool
are_locks names resource keys = list_all (is_key_of names resource) keys && rises keys

-- the answers to a registration, to a call and to a lock query: their keys are such
unfoldable pub is_registered : Names → Registered → Bool
is_registered names (registered.Conflict key holder rolling) = is_key names key
is_registered names _ = true

unfoldable pub is_reply : Names → CallAnswer → Bool
is_reply names (reply.Done branch) = true
is_reply names (reply.Busy key by) = is_key names key
is_reply names (reply.Failed reason) = is_why names reason

unfoldable pub is_held : Names → Option (RowKey × Xid) → Bool
is_held names None = true
is_held names (Some held) = is_key names held.0

-- a message from a resource, or from a place that is none and has the number 0
unfoldable pub is_note : Names → ℕ → Note → Bool
is_note names resource (note.Begin manager timeout) = is_named names.managers manager
is_note names resource (note.Register xid call ticket kind hold check) = are_locks names resource hold && are_locks names resource check
is_note names resource (note.RegisterAnswer ticket xid answer) = is_registered names answer
is_note names resource (note.LockQuery ticket check) = are_locks names resource check
is_note names resource (note.LockAnswer ticket held) = is_held names held
is_note names resource (note.Answer xid call answer) = is_reply names answer
is_note names resource _ = true

-- nothing, or such a message to such a place
unfoldable pub is_sent : Names → ℕ → Option Sent → Bool
is_sent names resource None = true
is_sent names resource (Some sent) = is_place names sent.to && is_note names resource sent.note

-- an entry that is printed with these names
unfoldable pub is_entry : Names → Entry → Bool
is_entry names e =
    is_place names e.place && (is_cause names e.cause && (is_act names e.act && is_sent names (resource_at e.place) e.sent))
