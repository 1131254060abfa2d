-- The messages that were sent, and what is found of them.
use Rattle.std.specs.Prelude.{◌≡◌, ◌==◌, ℕ, Bool, true, if◌then◌else◌, List, Option, Some, None, option_map, is_some}
use Rattle.std.specs.BTreeMap.{insert_entry, is_at}
use Rattle.std.specs.List.{list_any}
use Rattle.std.specs.Map.{lookup}
use Rattle.std.specs.Ordering.{nat_cmp}
use Rattle.seata_types.specs.declared.ids.Place.{Place}
use Rattle.seata_types.specs.declared.messages.Outgoing.{Outgoing}
use Rattle.history_rules.specs.Own.{Event}
use Rattle.history_rules.specs.Histories.{Moment, delivered, sent_at, sent_from}
use Rattle.history_text.specs.declared.entries.Origin.{Origin}
use Rattle.history_text.specs.Origins.{origin_cmp, origin_of}
use Rattle.history_audit.specs.declared.kept.Letters.{Letters}

-- ---- by their entries

-- the message of the entry of this number and place, with the place
abbrev pub with_sender : Place → Outgoing → Place × Outgoing
with_sender from out = (from, out)

abbrev pub letter_at : List (Origin × Outgoing) → ℕ → Place → Option (Place × Outgoing)
letter_at sent stamp from = option_map (with_sender from) (lookup (is_at (origin_cmp (origin_of stamp from))) sent)

-- with a message at its entry
abbrev pub with_letter : List (Origin × Outgoing) → Origin → Outgoing → List (Origin × Outgoing)
with_letter sent at out = insert_entry origin_cmp sent at out

abbrev pub with_sent : List (Origin × Outgoing) → ℕ → Place → Option Outgoing → List (Origin × Outgoing)
with_sent sent stamp from None = sent
with_sent sent stamp from (Some out) = with_letter sent (origin_of stamp from) out

-- the event that a message brings to a place
abbrev pub message_by : Letters → ℕ → Place → Place → Option Event
message_by l stamp from to = delivered to (letter_at l.sent.entries stamp from)

-- ---- the numbers of their entries

abbrev pub has_number : List ℕ → ℕ → Bool
has_number numbers stamp = list_any (is_at (nat_cmp stamp)) numbers

-- this number is noted beside those before
abbrev pub Notes : ℕ → (old new : List ℕ) → Type 0
Notes stamp old new = (wanted : ℕ) → has_number new wanted ≡ if stamp == wanted then true else has_number old wanted

abbrev pub NotesSent : ℕ → Option Outgoing → (old new : List ℕ) → Type 0
NotesSent stamp None old new = new ≡ old
NotesSent stamp (Some out) old new = Notes stamp old new

-- ---- of a history

-- what is found is what the entries of these moments sent
pub record AreLetters (l : Letters) (ms : List Moment) : Type 0 where
  pub finds : (stamp : ℕ) (from : Place) → letter_at l.sent.entries stamp from ≡ sent_from stamp from ms
  pub numbers : (stamp : ℕ) → has_number l.numbers.keys stamp ≡ is_some (sent_at stamp ms)

-- what the next entry sent is added
pub record AddsLetter (old new : Letters) (stamp : ℕ) (from : Place) (sent : Option Outgoing) : Type 0 where
  pub letters : new.sent.entries ≡ with_sent old.sent.entries stamp from sent
  pub noted : NotesSent stamp sent old.numbers.keys new.numbers.keys
