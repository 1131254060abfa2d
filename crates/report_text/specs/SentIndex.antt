-- Where in a history the entries stand that sent a message, and the note of the message that a cause delivers.
use Rattle.std.specs.Prelude.{◌≡◌, ℕ, ◌<◌, List, length, Option, Some, None, option_map, slice_get}
use Rattle.std.specs.BTreeMap.{insert_entry, is_at}
use Rattle.std.specs.Map.{lookup}
use Rattle.std.specs.Option.{option_and_then}
use Rattle.seata_types.specs.declared.ids.Place.{Place}
use Rattle.seata_types.specs.declared.messages.Outgoing.{Outgoing}
use Rattle.history_rules.specs.Histories.{Moment, sent_from}
use Rattle.history_text.specs.declared.entries.Cause.{Cause}
use Rattle.history_text.specs.declared.entries.Cause.TheVariants as cause
use Rattle.history_text.specs.declared.entries.Entry.{Entry}
use Rattle.history_text.specs.declared.entries.Origin.{Origin}
use Rattle.history_text.specs.declared.entries.Sent.{Sent}
use Rattle.history_text.specs.declared.notes.Note.{Note}
use Rattle.history_text.specs.History.{entries}
use Rattle.history_text.specs.Notes.{sent_of}
use Rattle.history_text.specs.Origins.{origin_cmp, origin_of}

-- ---- where entries stand

-- entries that sent something, each with its place among all, counted from 0
abbrev pub Index : Type 0
Index = List (Origin × ℕ)

abbrev pub place_of : Index → ℕ → Place → Option ℕ
place_of index stamp from = lookup (is_at (origin_cmp (origin_of stamp from))) index

abbrev pub with_place : Option Sent → Origin → ℕ → Index → Index
with_place None o k index = index
with_place (Some sent) o k index = insert_entry origin_cmp index o k

-- the index with the k-th entry
abbrev pub with_entry : Index → ℕ → Entry → Index
with_entry index k e = with_place e.sent (origin_of e.stamp e.place) k index

-- ---- what they sent

abbrev pub sent_by_entry : Entry → Option Sent
sent_by_entry e = e.sent

-- what the k-th of these entries sent
abbrev pub sent_in : List Entry → ℕ → Option Sent
sent_in es k = option_and_then sent_by_entry (slice_get es k)

-- what the entry of this number and place sent
abbrev pub found : Index → List Entry → ℕ → Place → Option Sent
found index es stamp from = option_and_then (sent_in es) (place_of index stamp from)

abbrev pub note_in : Sent → Note
note_in sent = sent.note

-- the note of the message that a cause delivers
abbrev pub delivered_note : Index → List Entry → Cause → Option Note
delivered_note index es (cause.Deliver stamp from) = option_map note_in (found index es stamp from)
delivered_note index es _ = None

-- ---- the index of a history

abbrev pub printed_sent : Place × Outgoing → Sent
printed_sent found = sent_of found.1

-- its places are of entries, and it finds what the entries of a history sent
pub record IsIndexOf (index : Index) (ms : List Moment) : Type 0 where
  pub within : (stamp : ℕ) (from : Place) (k : ℕ) → place_of index stamp from ≡ Some k → k < length (entries ms)
  pub finds : (stamp : ℕ) (from : Place) → found index (entries ms) stamp from ≡ option_map printed_sent (sent_from stamp from ms)
