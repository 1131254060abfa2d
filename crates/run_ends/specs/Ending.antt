-- What the seat of a node leaves at its end, without the node.
use Rattle.std.specs.Prelude.{◌≡◌, ℕ, List, [], slice_get, Option, Some, refl}
use Rattle.std.specs.Coded.{Coded, code_by, coded×, coded_list, coded_option}
use Rattle.seata_types.specs.contracts.ids.Place as places
use Rattle.seata_types.specs.declared.ids.Place.{Place}
use Rattle.durable_records.specs.Members.{In}
use Rattle.history_text.specs.contracts.entries.Entry as entry_row
use Rattle.history_text.specs.declared.entries.Entry.{Entry}
use Rattle.link_queue.specs.Links.{Sending, Taking, sending_code, taking_code}
use Rattle.node_seat.specs.Naming.{Run}
use Rattle.node_seat.specs.Seating.{Seated}
use Rattle.node_seat.specs.contracts.faults.RunFault as fault_row
use Rattle.node_seat.specs.declared.faults.RunFault.{RunFault}

-- its place, the fault that one of its calls answered, its trace, and the ends of its links
pub record Ending : Type 0 where
  pub place : Place
  pub fault : Option RunFault
  pub trace : List Entry
  pub takers : List Taking
  pub senders : List Sending

abbrev pub ending : Place → Option RunFault → List Entry → List Taking → List Sending → Ending
ending place fault trace takers senders = record { place = place; fault = fault; trace = trace; takers = takers; senders = senders }

-- what a seat at a place leaves
abbrev pub ending_of : {N : Type 0} → Place → Seated N → Ending
ending_of place s = ending place s.fault s.trace s.takers s.senders

abbrev pub trace_of : Ending → List Entry
trace_of e = e.trace

-- ---- its links

-- these ends take at a place, from the links that a run names for it
abbrev pub TakeAt : Run → Place → List Taking → Type 0
TakeAt run place takers = (t : Taking) → In t takers → (t.line.to ≡ place) × (t.line.queue ≡ run.queue t.line.from place)

-- and these send from it
abbrev pub SendFrom : Run → Place → List Sending → Type 0
SendFrom run place senders = (s : Sending) → In s senders → (s.line.from ≡ place) × (s.line.queue ≡ run.queue place s.line.to)

-- all its ends are of such links
pub record HasLinks (run : Run) (e : Ending) : Type 0 where
  pub takes : TakeAt run e.place e.takers
  pub sends : SendFrom run e.place e.senders

-- ---- without ends that were given away

abbrev pub without_takers : Ending → Ending
without_takers e = record e { takers = [] }

-- an end that sends to a place stands here among these
abbrev pub SendsThere : Place → List Sending → ℕ → Type 0
SendsThere to senders k = (s : Sending) × (slice_get senders k ≡ Some s) × (s.line.to ≡ to)

-- An end that sends to a place was given away, and no other came.
pub record GivesSender (to : Place) (old new : List Sending) (sender : Sending) : Type 0 where
  pub there : In sender old
  pub to_is : sender.line.to ≡ to
  pub rest : (s : Sending) → In s new → In s old

-- ends that send were given away, and all else is as before
pub record LosesSenders (old new : Ending) : Type 0 where
  pub same : new ≡ record old { senders = new.senders }
  pub rest : (s : Sending) → In s new.senders → In s old.senders

-- ---- how it is stored

abbrev pub ending_code : Coded Ending
ending_code =
    code_by (Place × (Option RunFault × (List Entry × (List Taking × List Sending))))
    (coded× places.the_row.coded (coded× (coded_option fault_row.the_row.coded) (coded× (coded_list entry_row.the_row.coded) (coded× (coded_list taking_code) (coded_list sending_code)))))
    (λ e. (e.place, (e.fault, (e.trace, (e.takers, e.senders))))) (λ p. ending p.0 p.1.0 p.1.1.0 p.1.1.1.0 p.1.1.1.1) (λ _. refl)
