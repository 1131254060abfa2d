-- What a turn of a seat is.
use Rattle.std.specs.Prelude.{◌≡◌, ◌⊎◌, ◌+◌, ◌-◌, ◌<◌, ◌≤◌, ◌||◌, ℕ, nat_lt, not, true, false, if◌then◌else◌, List, [], ◌∷◌, length, slice_get, Option, Some, None, option_map, Result, Ok, Err}
use Rattle.std.specs.Option.{option_and_then}
use Rattle.seata_types.specs.declared.ids.Place.{Place}
use Rattle.seata_types.specs.declared.limits.TheConstants.{LATEST_MOMENT}
use Rattle.seata_types.specs.declared.messages.Input.{Input}
use Rattle.seata_types.specs.declared.messages.Input.TheVariants as input
use Rattle.durable_records.specs.SessionOrder.{is_empty}
use Rattle.frame_codec.specs.Limits.{IsFramable}
use Rattle.frame_codec.specs.Packets.{Sent}
use Rattle.node_steps.specs.Nodes.{NodeState}
use Rattle.history_text.specs.declared.entries.Cause.{Cause}
use Rattle.history_text.specs.declared.entries.Cause.TheVariants as cause
use Rattle.history_text.specs.declared.entries.Entry.{Entry}
use Rattle.history_text.specs.declared.entries.Sent.{Sent as Shown}
use Rattle.history_text.specs.History.{cause_of}
use Rattle.link_queue.specs.Links.{Sending, Taking}
use Rattle.trace_rules.specs.Stops.{NodeStop, calls_of, restart_of, run_clock}
use Rattle.node_seat.specs.Ends.{CanCount, GoApart, HaveMissed, HaveMissedBefore, HaveSent, NoneTook, TookAt}
use Rattle.node_seat.specs.Entering.{HasEntered}
use Rattle.node_seat.specs.Keeping.{MayEnter}
use Rattle.node_seat.specs.Running.{LAST, may_hear}
use Rattle.node_seat.specs.Seating.{Seated, new_seat, traced_of}
use Rattle.node_seat.specs.declared.faults.RunFault.{RunFault}
use Rattle.node_seat.specs.declared.faults.RunFault.TheVariants as fault
use Rattle.node_seat.specs.declared.plans.Plan.{Plan}
use Rattle.node_seat.specs.declared.turned.Turned.{Turned}
use Rattle.node_seat.specs.declared.turned.Turned.TheVariants as turned

-- ---- one entry

-- where the newest of these entries sent its message
abbrev pub place_sent : Shown → Place
place_sent sent = sent.to

abbrev pub entry_receiver : Entry → Option Place
entry_receiver e = option_map place_sent e.sent

abbrev pub receiver_in : List Entry → Option Place
receiver_in es = option_and_then entry_receiver (slice_get es (length es - 1))

-- the moment of a seat's turn, by its clock
abbrev pub moment_of : {N : Type 0} → NodeState → Seated N → ℕ
moment_of node s = run_clock s.plan.from node.place s.turns

-- at Ok the packet of an entry was offered to the end that goes to its receiver; after a fault no end was
abbrev pub SentBy : Option Place → Result (Option Sent) RunFault → List Sending → List Sending → Type 0
SentBy to (Ok packet) old new = HaveSent to packet old new
SentBy to (Err missed) old new = new ≡ old

-- the same without the packet
abbrev pub is_done : {A : Type 0} → Result A RunFault → Result (Unit {0}) RunFault
is_done (Ok a) = Ok tt
is_done (Err missed) = Err missed

-- the next stamp, above the last one and that of a message
abbrev pub stamp_after : (last sent : ℕ) → ℕ
stamp_after last sent = (if nat_lt last sent then sent else last) + 1

-- a seat with a turn more, at this stamp
abbrev pub at_turn : {N : Type 0} → Seated N → (stamp : ℕ) → Seated N
at_turn s stamp = record s { stamp = stamp; turns = s.turns + 1 }

module _ {N : Type 0} (state : N → NodeState) where
  -- An entry was made by a cause with what it gives, at the stamp and moment of the seat, and its message went out; or there was a fault. All
  -- else of the seat is as before.
  pub record MakesEntry (old new : Seated N) (why : Cause) (given : Option Input) (result : Result (Unit {0}) RunFault) : Type 0 where
    pub packet : Result (Option Sent) RunFault
    pub is : result ≡ is_done packet
    pub entered : HasEntered state (traced_of old) (traced_of new) old.stamp (moment_of (state old.node) old) why given packet
    pub out : SentBy (receiver_in new.trace) packet old.senders new.senders
    pub rest : new ≡ record old { node = new.node; trace = new.trace; senders = new.senders }

  -- what it asks
  pub record CanMake (s : Seated N) (why : Cause) (given : Option Input) : Type 0 where
    pub may : MayEnter (state s.node) s.trace s.stamp (moment_of (state s.node) s) why given
    pub clock : s.plan.from + s.turns ≤ LATEST_MOMENT
    pub apart : GoApart s.senders
    pub counts : CanCount s.senders

  -- ---- one turn

  -- the last stamp or step isn't reached
  pub record IsAble (s : Seated N) : Type 0 where
    pub stamps : s.stamp < LAST
    pub steps : 0 < (state s.node).left

  -- the node was down, and was restarted by its stops
  pub record Restarts (old new : Seated N) (result : Result (Unit {0}) RunFault) : Type 0 where
    pub able : IsAble old
    pub down : (state old.node).down ≡ true
    pub made : MakesEntry (record (at_turn old (old.stamp + 1)) { restarts = old.restarts + 1 }) new
        (cause_of (restart_of old.plan.stops old.restarts)) None result

  -- a node had a turn
  abbrev pub MakesTurn : (old new : Seated N) → Result (Unit {0}) RunFault → Type 0
  MakesTurn old new result = MakesEntry (at_turn old (old.stamp + 1)) new cause.Turn (Some input.Turn) result

  -- no end had a packet, and the node had a turn
  pub record Rests (old new : Seated N) (result : Result (Unit {0}) RunFault) : Type 0 where
    pub able : IsAble old
    pub up : (state old.node).down ≡ false
    pub takers : List Taking
    pub none : NoneTook old.takers takers
    pub missed : HaveMissed 0 (length old.takers) old.takers takers
    pub made : MakesTurn (record old { takers = takers }) new result

  -- a packet from a place, which the node answers by the rules, was delivered
  pub record Delivers (old new : Seated N) (from : Place) (packet : Sent) (result : Result (Unit {0}) RunFault) : Type 0 where
    pub early : packet.stamp < LAST
    pub framable : IsFramable packet.message
    pub answers : may_hear old.plan (state old.node).place packet.message ≡ true
    pub made : MakesEntry (at_turn old (stamp_after old.stamp packet.stamp)) new (cause.Deliver packet.stamp from)
        (Some (input.Message from packet.message)) result

  -- why it is lost: memory for its message was refused, or the node doesn't answer that by the rules
  abbrev pub LosesBy : Seated N → Sent → RunFault → Type 0
  LosesBy s packet fault.NoMemory = Unit {0}
  LosesBy s packet fault.Other = may_hear s.plan (state s.node).place packet.message ≡ false
  LosesBy s packet missed = ⊥

  -- what came of a packet that was taken from a place: one of the last stamp is lost, and the seat has that stamp
  abbrev pub IsHeard : (old new : Seated N) → Place → Sent → Result Turned RunFault → Type 0
  IsHeard old new from packet (Ok turned.Worn) = (packet.stamp ≡ LAST) × (new ≡ record old { stamp = LAST })
  IsHeard old new from packet (Ok turned.Took) = Delivers old new from packet (Ok tt)
  IsHeard old new from packet (Ok _) = ⊥
  IsHeard old new from packet (Err missed) = Delivers old new from packet (Err missed) ⊎ ((new ≡ old) × LosesBy old packet missed)

  -- an end had a packet, those before it in rotation had none, and the one behind it will be asked first
  pub record Takes (old new : Seated N) (result : Result Turned RunFault) : Type 0 where
    pub able : IsAble old
    pub up : (state old.node).down ≡ false
    pub takers : List Taking
    pub k : ℕ
    pub packet : Sent
    pub took : TookAt old.takers takers k packet
    pub before : HaveMissedBefore old.next k old.takers takers
    pub heard : IsHeard (record old { takers = takers; next = k + 1 }) new took.end.line.from packet result

  -- nothing was done, since the last stamp or step is reached
  pub record IsSpent (old new : Seated N) : Type 0 where
    pub why : (old.stamp ≡ LAST) ⊎ ((state old.node).left ≡ 0)
    pub same : new ≡ old

  -- what a turn was
  abbrev pub IsTurned : (old new : Seated N) → Result Turned RunFault → Type 0
  IsTurned old new (Ok turned.Worn) = IsSpent old new ⊎ Takes old new (Ok turned.Worn)
  IsTurned old new (Ok turned.Restarted) = Restarts old new (Ok tt)
  IsTurned old new (Ok turned.Took) = Takes old new (Ok turned.Took)
  IsTurned old new (Ok turned.Idle) = Rests old new (Ok tt)
  IsTurned old new (Err missed) = Restarts old new (Err missed) ⊎ (Takes old new (Err missed) ⊎ Rests old new (Err missed))

  -- the first stop of a node was made, if it has one
  abbrev pub IsBegun : List NodeStop → (old new : Seated N) → Result (Unit {0}) RunFault → Type 0
  IsBegun [] old new result = (result ≡ Ok tt) × (new ≡ old)
  IsBegun (stop ∷ stops) old new result = MakesEntry (record old { stamp = 1 }) new (cause.Stop (calls_of stop)) None result

-- ---- faults

-- a seat keeps the fault that a call of it answered
abbrev pub noted : {N A : Type 0} → Result A RunFault → Seated N → Seated N
noted (Ok a) s = s
noted (Err missed) s = record s { fault = Some missed }

-- a node that has stops has disks
abbrev pub HasDisksToStop : NodeState → Plan → Type 0
HasDisksToStop node plan = is_empty plan.stops ≡ false → node.stops ≡ true

-- the first stop, after which the seat keeps its fault
abbrev pub AnswersBegin : {N : Type 0} → (N → NodeState) → (old new : Seated N) → Result (Unit {0}) RunFault → Type 0
AnswersBegin state old new result = (made : Seated _) × IsBegun state old.plan.stops old made result × (new ≡ noted result made)

-- A turn, after which the seat keeps its fault. A seat with a fault answers that, and nothing happens.
abbrev pub AnswersTurn : {N : Type 0} → (N → NodeState) → Option RunFault → (old new : Seated N) → Result Turned RunFault → Type 0
AnswersTurn state None old new result = (made : Seated _) × IsTurned state old made result × (new ≡ noted result made)
AnswersTurn state (Some missed) old new result = (result ≡ Err missed) × (new ≡ old)

-- ---- begun

-- a seat of a run, whose node made its first stop, if it has one
pub record MayTurn {N : Type 0} (s : Seated N) : Type 0 where
  pub runs : s.runs ≡ true
  pub begun : (not (is_empty s.trace) || is_empty s.plan.stops) ≡ true

-- a seat of a run that did nothing yet
abbrev pub IsUnmoved : {N : Type 0} → Seated N → Type 0
IsUnmoved s = s ≡ new_seat true s.node s.plan s.takers s.senders
