-- What contracts see of a link.
use Rattle.std.specs.Prelude.{◌≡◌, ◌+◌, ◌-◌, ◌^◌, min, ℕ, List, [], ◌∷◌, ◌++◌, length, refl}
use Rattle.std.specs.Coded.{Coded, code_by, coded×, coded_ℕ, coded_list}
use Rattle.atomic_table.specs.Seated.{TableId, table_id_coded}
use Rattle.seata_types.specs.contracts.ids.Place as places
use Rattle.seata_types.specs.declared.ids.Place.{Place}
use Rattle.frame_codec.specs.Packets.{Sent, sent_code}

-- how many packets a link holds
abbrev pub room : ℕ
room = 64

-- a link: its queue, and the places that it goes from and to
pub record Line : Type 0 where
  pub queue : TableId
  pub from : Place
  pub to : Place

-- the end that sends: what was pushed, oldest first, and how many packets came back
pub record Sending : Type 0 where
  pub line : Line
  pub pushed : List Sent
  pub refused : ℕ

-- the end that takes: what was taken, oldest first, and how often no packet was there
pub record Taking : Type 0 where
  pub line : Line
  pub taken : List Sent
  pub missed : ℕ

-- what went over a link, once both ends are given back
pub record Ended : Type 0 where
  pub pushed : List Sent
  pub taken : List Sent

-- a link, its two ends and what went over it, by their parts
abbrev pub line_of : TableId → Place → Place → Line
line_of queue from to = record { queue = queue; from = from; to = to }

abbrev pub sending : TableId → Place → Place → List Sent → ℕ → Sending
sending queue from to pushed refused = record { line = line_of queue from to; pushed = pushed; refused = refused }

abbrev pub taking : TableId → Place → Place → List Sent → ℕ → Taking
taking queue from to taken missed = record { line = line_of queue from to; taken = taken; missed = missed }

abbrev pub ended : List Sent → List Sent → Ended
ended pushed taken = record { pushed = pushed; taken = taken }

-- ---- what went over it

-- the first of a list
abbrev pub IsFront : List Sent → List Sent → Type 0
IsFront front whole = (rest : List Sent) × (whole ≡ front ++ rest)

-- the last of a list
abbrev pub IsBack : List Sent → List Sent → Type 0
IsBack back whole = (rest : List Sent) × (whole ≡ rest ++ back)

-- at least as many packets were pushed as a link holds; those are the last of them, which it held at the call's step
abbrev pub WasFull : List Sent → Type 0
WasFull pushed = (queued : List Sent) × (length queued ≡ room) × IsBack queued pushed

-- ---- what a call changes

-- a packet more was pushed
abbrev pub with_pushed : Sending → Sent → Sending
with_pushed s packet = record s { pushed = s.pushed ++ packet ∷ [] }

-- a packet more came back
abbrev pub with_refused : Sending → Sending
with_refused s = record s { refused = s.refused + 1 }

-- a packet more was taken
abbrev pub with_taken : Taking → Sent → Taking
with_taken t packet = record t { taken = t.taken ++ packet ∷ [] }

-- once more none was there, as far as that is counted
abbrev pub with_missed : Taking → Taking
with_missed t = record t { missed = min (t.missed + 1) (2 ^ 64 - 1) }

-- the two ends of one link from a place to a place, over which nothing went
pub record AreNew (from to : Place) (sender : Sending) (taker : Taking) : Type 0 where
  pub sends : sender ≡ sending sender.line.queue from to [] 0
  pub takes : taker ≡ taking sender.line.queue from to [] 0

-- ---- how they are stored

abbrev pub line_code : Coded Line
line_code =
    code_by (TableId × (Place × Place)) (coded× table_id_coded (coded× places.the_row.coded places.the_row.coded))
    (λ l. (l.queue, (l.from, l.to))) (λ p. line_of p.0 p.1.0 p.1.1) (λ _. refl)

abbrev pub sending_code : Coded Sending
sending_code =
    code_by (Line × (List Sent × ℕ)) (coded× line_code (coded× (coded_list sent_code) coded_ℕ)) (λ s. (s.line, (s.pushed, s.refused)))
    (λ p. record { line = p.0; pushed = p.1.0; refused = p.1.1 }) (λ _. refl)

abbrev pub taking_code : Coded Taking
taking_code =
    code_by (Line × (List Sent × ℕ)) (coded× line_code (coded× (coded_list sent_code) coded_ℕ)) (λ t. (t.line, (t.taken, t.missed)))
    (λ p. record { line = p.0; taken = p.1.0; missed = p.1.1 }) (λ _. refl)

abbrev pub ended_code : Coded Ended
ended_code =
    code_by (List Sent × List Sent) (coded× (coded_list sent_code) (coded_list sent_code)) (λ e. (e.pushed, e.taken))
    (λ p. ended p.0 p.1) (λ _. refl)
