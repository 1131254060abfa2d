-- Links: what goes from one node to another, oldest first. What the one sent, what went over their link of that, and what the other
-- took and received.
use Rattle.std.specs.Prelude.{◌≡◌, ◌⊎◌, ◌≤◌, ◌+◌, ℕ, if◌then◌else◌, List, [], ◌∷◌, ◌++◌, Option, Some, None}
use Rattle.seata_types.specs.declared.ids.Place.{Place}
use Rattle.seata_types.specs.declared.messages.Input.TheVariants as input
use Rattle.seata_types.specs.declared.messages.Message.{Message}
use Rattle.seata_types.specs.declared.messages.Outgoing.{Outgoing}
use Rattle.frame_codec.specs.Packets.{Sent}
use Rattle.history_rules.specs.Own.{Event, Given}
use Rattle.history_rules.specs.Histories.{Cause, Deliver, Moment, same_place}

-- a message with the stamp of the entry that sent it
abbrev pub with_stamp : ℕ → Message → Sent
with_stamp stamp message = record { message = message; stamp = stamp }

-- ---- received and sent

-- the message that an event brings
abbrev pub message_in : ℕ → Option Event → List Sent
message_in stamp (Some (Given (input.Message from message))) = with_stamp stamp message ∷ []
message_in stamp event = []

-- the message that a delivery brings from a place
abbrev pub heard_from : Place → Cause → Option Event → List Sent
heard_from p (Deliver stamp from) event = if same_place p from then message_in stamp event else []
heard_from p cause event = []

-- the messages that a trace received from a place
abbrev pub received : Place → List Moment → List Sent
received p [] = []
received p (m ∷ ms) = received p ms ++ heard_from p m.cause m.event

-- the message that a step sends to a place
abbrev pub said_to : Place → ℕ → Option Outgoing → List Sent
said_to p stamp None = []
said_to p stamp (Some out) = if same_place p out.to then with_stamp stamp out.message ∷ [] else []

-- the messages that a trace sent to a place
abbrev pub sent_to : Place → List Moment → List Sent
sent_to p [] = []
sent_to p (m ∷ ms) = sent_to p ms ++ said_to p m.stamp m.step.sent

-- what each node received of each other stands so to what that sent to it
abbrev pub EachLink : (List Sent → List Sent → Type 0) → (Place → List Moment) → Type 0
EachLink Relates traces = (p q : Place) → Relates (received p (traces q)) (sent_to q (traces p))

-- ---- over a link

-- the first list in its order among the second
abbrev pub Within : List Sent → List Sent → Type 0
Within xs [] = xs ≡ []
Within xs (y ∷ ys) = Within xs ys ⊎ ((rest : List Sent) × (xs ≡ y ∷ rest) × Within rest ys)

-- the first of a list
abbrev pub IsFront : List Sent → List Sent → Type 0
IsFront front whole = (rest : List Sent) × (whole ≡ front ++ rest)

-- how many packets a link holds
abbrev pub link_room : ℕ
link_room = 64

-- What went over a link of what was sent to it, behind n others: all in order, but for messages that came when at least as many had
-- gone over it as it holds, which may be lost.
abbrev pub WentAfter : ℕ → List Sent → List Sent → Type 0
WentAfter n went [] = went ≡ []
WentAfter n went (s ∷ sent) =
    ((rest : List Sent) × (went ≡ s ∷ rest) × WentAfter (n + 1) rest sent) ⊎ ((link_room ≤ n) × WentAfter n went sent)

abbrev pub Went : List Sent → List Sent → Type 0
Went went sent = WentAfter 0 went sent

-- What was taken of what was sent, behind n others: none twice, all in order, and where one isn't taken and a later one is, at least so
-- many were taken before it as a link holds.
abbrev pub TakenAfter : ℕ → List Sent → List Sent → Type 0
TakenAfter n [] sent = Unit {0}
TakenAfter n (x ∷ taken) [] = ⊥
TakenAfter n (x ∷ taken) (s ∷ sent) =
    ((x ≡ s) × TakenAfter (n + 1) taken sent) ⊎ ((link_room ≤ n) × TakenAfter n (x ∷ taken) sent)

abbrev pub Taken : List Sent → List Sent → Type 0
Taken taken sent = TakenAfter 0 taken sent

-- nothing was received, as where there is no link, or the first of what went over it
abbrev pub IsHeard : (received sent : List Sent) → Type 0
IsHeard received sent = (received ≡ []) ⊎ ((went : List Sent) × IsFront received went × Went went sent)
