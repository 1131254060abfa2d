-- What a node does with the ends of its links.
use Rattle.std.specs.Prelude.{◌≡◌, ◌≢◌, ◌⊎◌, ◌+◌, ◌-◌, ◌^◌, ◌≤◌, ◌<◌, ◌==◌, min, ℕ, Bool, true, false, List, [], ◌∷◌, ◌++◌, length, slice_get, Option, Some}
use Rattle.seata_types.specs.declared.ids.Place.{Place}
use Rattle.frame_codec.specs.Packets.{Sent}
use Rattle.history_rules.specs.Histories.{same_place}
use Rattle.link_queue.specs.Links.{Sending, Taking, WasFull, with_pushed, with_refused}

-- a list after a call that did this to the item at each place of it
pub record EachBecomes {A : Type 0} (P : ℕ → A → A → Type 0) (old new : List A) : Type 0 where
  pub count : length new ≡ length old
  pub each : (j : ℕ) (u : A) → slice_get new j ≡ Some u → (t : A) × (slice_get old j ≡ Some t) × P j t u

-- ---- taking

-- an end took nothing, and may have found none
pub record TookNothing (old new : Taking) : Type 0 where
  pub line : new.line ≡ old.line
  pub taken : new.taken ≡ old.taken
  pub counted : min old.missed (2 ^ 64 - 1) ≤ new.missed

-- an end took a packet
pub record TookThis (packet : Sent) (old new : Taking) : Type 0 where
  pub line : new.line ≡ old.line
  pub taken : new.taken ≡ old.taken ++ packet ∷ []

-- it found none, which was counted up to the end of the count
abbrev pub MissedOnce : Taking → Taking → Type 0
MissedOnce old new = min (old.missed + 1) (2 ^ 64 - 1) ≤ new.missed

-- no end took anything
abbrev pub NoneTook : List Taking → List Taking → Type 0
NoneTook old new = EachBecomes (λ j. TookNothing) old new

-- each end from one place of the list up to another was asked, and found none
abbrev pub HaveMissed : (low high : ℕ) → List Taking → List Taking → Type 0
HaveMissed low high old new = EachBecomes (λ j t u. low ≤ j → j < high → MissedOnce t u) old new

-- a place of the list comes before place k, in rotation from the one that is asked first
abbrev pub IsBefore : (next k j : ℕ) → Type 0
IsBefore next k j = ((next ≤ j) × (j < k)) ⊎ ((k < next) × ((next ≤ j) ⊎ (j < k)))

-- each end before place k in rotation was asked, and found none
abbrev pub HaveMissedBefore : (next k : ℕ) → List Taking → List Taking → Type 0
HaveMissedBefore next k old new = EachBecomes (λ j t u. IsBefore next k j → MissedOnce t u) old new

abbrev pub TookIf : Bool → Sent → Taking → Taking → Type 0
TookIf true packet t u = TookThis packet t u
TookIf false packet t u = TookNothing t u

-- the end at a place of the list took a packet, and no other took one
pub record TookAt (old new : List Taking) (k : ℕ) (packet : Sent) : Type 0 where
  pub end : Taking
  pub there : slice_get old k ≡ Some end
  pub each : EachBecomes (λ j. TookIf (j == k) packet) old new

-- ---- sending

-- an end was offered a packet: it pushed it, or it was full and the packet is lost
abbrev pub WasOffered : Sent → Sending → Sending → Type 0
WasOffered packet old new = (new ≡ with_pushed old packet) ⊎ ((new ≡ with_refused old) × WasFull old.pushed)

abbrev pub OfferedIf : Bool → Sent → Sending → Sending → Type 0
OfferedIf true packet s u = WasOffered packet s u
OfferedIf false packet s u = u ≡ s

-- the end that goes to a place was offered a packet, if there is one, and no other was
abbrev pub HaveOffered : Place → Sent → List Sending → List Sending → Type 0
HaveOffered to packet old new = EachBecomes (λ j s u. OfferedIf (same_place s.line.to to) packet s u) old new

-- so was a packet that goes to a receiver; without one nothing changes
abbrev pub HaveSent : Option Place → Option Sent → List Sending → List Sending → Type 0
HaveSent (Some to) (Some packet) old new = HaveOffered to packet old new
HaveSent to packet old new = new ≡ old

-- each end can count a packet more that comes back
abbrev pub CanCount : List Sending → Type 0
CanCount senders = (k : ℕ) (s : Sending) → slice_get senders k ≡ Some s → s.refused < 2 ^ 64 - 1

-- ---- which ends

-- no two of these come from one place
abbrev pub ComeApart : List Taking → Type 0
ComeApart takers =
    (j k : ℕ) (t u : Taking) → slice_get takers j ≡ Some t → slice_get takers k ≡ Some u → t.line.from ≡ u.line.from → j ≡ k

-- no two go to one place
abbrev pub GoApart : List Sending → Type 0
GoApart senders =
    (j k : ℕ) (s u : Sending) → slice_get senders j ≡ Some s → slice_get senders k ≡ Some u → s.line.to ≡ u.line.to → j ≡ k

-- none comes from there
abbrev pub NoneFrom : Place → List Taking → Type 0
NoneFrom from takers = (k : ℕ) (t : Taking) → slice_get takers k ≡ Some t → t.line.from ≢ from
