-- The messages that the entries of a history sent, as the replay keeps them.
use Rattle.std.specs.Prelude.{◌≡◌, ◌+◌, ◌<◌, ◌≤◌, ◌&&◌, ◌-◌, ℕ, zero, suc, not, is_some, Bool, false, List, [], ◌∷◌, ◌++◌, length, slice_get, Option, Some, None, option_map}
use Rattle.std.specs.Option.{option_and_then}
use Rattle.seata_types.specs.declared.ids.Place.{Place}
use Rattle.seata_types.specs.declared.messages.Outgoing.{Outgoing}
use Rattle.frame_codec.specs.Limits.{IsFramable}
use Rattle.frame_codec.specs.Packets.{Sent as Packed}
use Rattle.history_rules.specs.Histories.{Moment}
use Rattle.history_rules.specs.Schedules.{is_taken}
use Rattle.history_text.specs.declared.entries.Entry.{Entry}
use Rattle.history_text.specs.declared.entries.Sent.{Sent}
use Rattle.replay_runner.specs.declared.messages.Delivery.{Delivery}
use Rattle.replay_runner.specs.declared.messages.Letter.{Letter}
use Rattle.replay_runner.specs.declared.messages.Messages.{Messages}

-- ---- one message

-- the message of a moment, as a packet with the moment's stamp, and the places that it goes from and to
abbrev pub letter_from : Place → ℕ → Outgoing → Letter
letter_from from stamp out = record { from = from; to = out.to; packet = record { message = out.message; stamp = stamp } }

abbrev pub letter_of : Moment → Option Letter
letter_of m = option_map (letter_from m.place m.stamp) m.step.sent

-- a packet that goes to a place, if both are there
abbrev pub letter_with : Place → Option Place → Option Packed → Option Letter
letter_with from (Some to) (Some packet) = Some (record { from = from; to = to; packet = packet })
letter_with from to packet = None

-- where the last of these entries sent its message
abbrev pub place_sent : Sent → Place
place_sent sent = sent.to

abbrev pub entry_receiver : Entry → Option Place
entry_receiver e = option_map place_sent e.sent

abbrev pub receiver_in : List Entry → Option Place
receiver_in es = option_and_then entry_receiver (slice_get es (length es - 1))

-- a letter opened
abbrev pub delivery_of : Letter → Delivery
delivery_of letter = record { from = letter.from; to = letter.to; message = letter.packet.message }

abbrev pub IsFramableDelivery : Delivery → Type 0
IsFramableDelivery delivery = IsFramable delivery.message

-- ---- all messages

-- what was sent, oldest first
abbrev pub letters : List Moment → List (Option Letter)
letters [] = []
letters (m ∷ ms) = letters ms ++ letter_of m ∷ []

-- the message that the entry with this stamp sent
abbrev pub the_letter : Option (Option Letter) → Option Letter
the_letter None = None
the_letter (Some found) = found

abbrev pub letter_at : ℕ → List (Option Letter) → Option Letter
letter_at zero sent = None
letter_at (suc k) sent = the_letter (slice_get sent k)

abbrev pub is_marked : Option Bool → Bool
is_marked None = false
is_marked (Some marked) = marked

-- the k-th entry, counted from 0, sent a message that isn't marked as delivered
abbrev pub waits : List (Option Letter) → List Bool → ℕ → Bool
waits sent taken k = not (is_marked (slice_get taken k)) && is_some (the_letter (slice_get sent k))

-- the messages of a history, each marked where an entry delivered it; before `waiting` there is none that waits
pub record AreMessages (kept : Messages) (ms : List Moment) : Type 0 where
  pub sent : kept.letters.items ≡ letters ms
  pub count : length kept.taken.items ≡ length ms
  pub taken : (k : ℕ) → k < length ms → slice_get kept.taken.items k ≡ Some (is_taken (k + 1) ms)
  pub within : kept.waiting ≤ length ms
  pub passed : (k : ℕ) → k < kept.waiting → waits kept.letters.items kept.taken.items k ≡ false
