-- What the type of a seat keeps: moments whose entries its trace is; and in a run, what these have to do with its links and its plan.
use Rattle.std.specs.Prelude.{◌≡◌, ◌⊎◌, ◌-◌, ◌^◌, ◌≤◌, ◌&&◌, ℕ, Bool, true, false, List, [], ◌∷◌, ◌++◌, All, length, slice_get, Option, Some, None, IfSome}
use Rattle.std.specs.List.{list_all}
use Rattle.disk_model.specs.declared.disk.TheConstants.{LAST_PICK}
use Rattle.journal_checkpoint.specs.Extents.{Extent}
use Rattle.journal_checkpoint.specs.Images.{Pair}
use Rattle.seata_types.specs.declared.ids.Place.{Place}
use Rattle.seata_types.specs.declared.ids.Place.TheVariants as place
use Rattle.seata_types.specs.declared.limits.TheConstants.{LATEST_START}
use Rattle.seata_types.specs.declared.messages.Input.{Input}
use Rattle.seata_types.specs.declared.messages.Input.TheVariants as input
use Rattle.seata_types.specs.declared.messages.Message.{Message}
use Rattle.seata_types.specs.declared.messages.Message.TheVariants as message
use Rattle.seata_types.specs.declared.rows.RowKey.{RowKey}
use Rattle.durable_records.specs.SessionOrder.{has_resource, is_counted}
use Rattle.frame_codec.specs.Packets.{Sent}
use Rattle.history_rules.specs.Own.{Event, Given, Restarted, Own}
use Rattle.history_rules.specs.CoordinatorMemory.{start}
use Rattle.history_rules.specs.Devices.{last_pick}
use Rattle.history_rules.specs.Nodes.{Role, World, Past, role_at}
use Rattle.history_rules.specs.Histories.{Moment, Restart, own}
use Rattle.node_steps.specs.Durable.{own_faults}
use Rattle.node_steps.specs.Ends.{EntryFits, Starts}
use Rattle.node_steps.specs.Framing.{ComesFramable}
use Rattle.node_steps.specs.Nodes.{NodeState, place_of}
use Rattle.node_steps.specs.Promises.{AreTold}
use Rattle.history_text.specs.declared.entries.Entry.{Entry}
use Rattle.link_queue.specs.Links.{Sending, Taking}
use Rattle.trace_rules.specs.Links.{Went, Within, received, sent_to, with_stamp}
use Rattle.trace_rules.specs.Stops.{NodeStop, RunsAlone, restart_of, restarts, run_clock, turns}
use Rattle.node_seat.specs.Ends.{ComeApart, GoApart, NoneFrom}
use Rattle.node_seat.specs.Entering.{HaveLast}
use Rattle.node_seat.specs.Faults.{Blames}
use Rattle.node_seat.specs.Keeping.{Keeps, have_disks}
use Rattle.node_seat.specs.Naming.{OverAll, Run}
use Rattle.node_seat.specs.Seating.{Seated}
use Rattle.node_seat.specs.declared.faults.RunFault.{RunFault}
use Rattle.node_seat.specs.declared.faults.RunFault.TheVariants as fault
use Rattle.node_seat.specs.declared.plans.Plan.{Plan}

-- the last stamp
abbrev pub LAST : ℕ
LAST = 2 ^ 32 - 1

-- ---- what a node of a run can be given

-- each row is of one of so many resources
abbrev pub have_resources : ℕ → List RowKey → Bool
have_resources resources rows = list_all (has_resource resources) rows

-- the node at a place answers a message by the rules: the numbers that it names to the coordinator are counted
abbrev pub may_hear : Plan → Place → Message → Bool
may_hear plan place.Tc (message.Begin manager timeout) = is_counted plan.managers manager
may_hear plan place.Tc (message.Register xid resource call ticket kind hold check) =
    is_counted plan.resources resource && have_resources plan.resources hold
may_hear plan p heard = true

-- a turn, and such a message
abbrev pub MayBeGiven : Plan → Place → Input → Type 0
MayBeGiven plan p input.Turn = Unit {0}
MayBeGiven plan p (input.Message from heard) = may_hear plan p heard ≡ true
MayBeGiven plan p _ = ⊥

-- the pick of a stop is one that a disk knows
abbrev pub HasPick : NodeStop → Type 0
HasPick (calls, pick) = pick ≤ LAST_PICK

-- a node serves all that comes to it in a run, its clock begins early, and its stops can be restarted from
pub record CanServe (plan : Plan) (node : NodeState) : Type 0 where
  pub inputs : (given : Input) → ComesFramable given → MayBeGiven plan node.place given → node.serves given
  pub starts : plan.from ≤ LATEST_START
  pub picks : All HasPick plan.stops

-- ---- the next turn

-- no two ends come from one place, and none go to one
pub record AreApart (takers : List Taking) (senders : List Sending) : Type 0 where
  pub come : ComeApart takers
  pub go : GoApart senders

-- an entry that isn't behind this stamp and moment
pub record IsNotAfter (stamp now : ℕ) (older : Entry) : Type 0 where
  pub stamp_rises : older.stamp ≤ stamp
  pub clock_rises : older.now ≤ now

-- the next turn can be made: what came before is behind it, and no count is at its end
pub record CanGoOn {N : Type 0} (node : NodeState) (s : Seated N) : Type 0 where
  pub serves : CanServe s.plan node
  pub apart : AreApart s.takers s.senders
  pub behind : All (IsNotAfter s.stamp (run_clock s.plan.from node.place s.turns)) s.trace
  pub small : s.stamp ≤ LAST
  pub turned : s.turns ≤ s.stamp
  pub restarted : s.restarts ≤ s.turns
  pub refused : (k : ℕ) (end : Sending) → slice_get s.senders k ≡ Some end → end.refused ≤ s.stamp
  pub asked : s.next ≤ length s.takers

-- ---- a node of a run

-- both disks have so many bytes
abbrev pub HaveBytes : ℕ → Pair → Type 0
HaveBytes bytes disks = (disks.first.size ≡ bytes) × (disks.second.size ≡ bytes)

-- a node with its plan and the ends of its links is the one that a run names for its place
pub record IsOfRun (past : Past) (run : Run) (node : NodeState) (plan : Plan) (takers : List Taking) (senders : List Sending) : Type 0 where
  pub stops : plan.stops ≡ run.stops node.place
  pub starts : run.tells → node.place ≡ place.Tc → plan.from ≡ start past.sessions
  pub to_here : (k : ℕ) (t : Taking) → slice_get takers k ≡ Some t → (t.line.to ≡ node.place) × (t.line.queue ≡ run.queue t.line.from node.place)
  pub from_here : (k : ℕ) (s : Sending) → slice_get senders k ≡ Some s → (s.line.from ≡ node.place) × (s.line.queue ≡ run.queue node.place s.line.to)
  pub told : run.tells → have_disks node.place ≡ true → AreTold node.disks
  pub sized : have_disks node.place ≡ true → HaveBytes run.bytes node.disks
  pub managers : plan.managers ≡ run.managers
  pub resources : plan.resources ≡ run.resources

-- a node that did nothing yet, whose journal stands where the run says; this is said where the disks tell
abbrev pub IsFreshIn : World → Past → Run → NodeState → Type 0
IsFreshIn w past run node =
    (role : Role) × (role_at w past (place_of role) ≡ Some role)
    × (run.tells → node.stands_for role [] × node.lies role (run.starts (place_of role)) run.bytes [])

-- nothing went over these ends
pub record AreUnused (takers : List Taking) (senders : List Sending) : Type 0 where
  pub taken : (k : ℕ) (t : Taking) → slice_get takers k ≡ Some t → t.taken ≡ []
  pub pushed : (k : ℕ) (s : Sending) → slice_get senders k ≡ Some s → (s.pushed ≡ []) × (s.refused ≡ 0)

-- where a fault says that disks failed, they are those of the node and counted a fault, whatever they tell
abbrev pub HasCounted : NodeState → RunFault → Type 0
HasCounted node (fault.Store p) = (p ≡ node.place) × (1 ≤ own_faults node.disks)
HasCounted node missed = Unit {0}

-- ---- its links, by its moments

-- what a call of the seat may have taken that was not received: a packet of the last stamp, which the seat then has, or any at a fault
abbrev pub MayLose : Option RunFault → (stamp : ℕ) → Sent → Type 0
MayLose None stamp lost = (lost.stamp ≡ LAST) × (stamp ≡ LAST)
MayLose (Some missed) stamp lost = Unit {0}

-- all that was taken from a node was received, but for the last of it that may be lost
abbrev pub HeardAll : Option RunFault → (stamp : ℕ) → (received taken : List Sent) → Type 0
HeardAll missed stamp received taken =
    (taken ≡ received) ⊎ ((lost : Sent) × (taken ≡ received ++ lost ∷ []) × MayLose missed stamp lost)

-- all that was sent to a node was pushed, but for what came when the link was full; after a fault it was pushed in order
abbrev pub PushedAll : Option RunFault → (pushed sent : List Sent) → Type 0
PushedAll None pushed sent = Went pushed sent
PushedAll (Some missed) pushed sent = Within pushed sent

-- the last packet that an end took
pub record TookLast (takers : List Taking) (from : Place) (packet : Sent) : Type 0 where
  pub k : ℕ
  pub end : Taking
  pub there : slice_get takers k ≡ Some end
  pub from_is : end.line.from ≡ from
  pub front : List Sent
  pub took : end.taken ≡ front ++ packet ∷ []

-- ---- why a call answered a fault

-- what came to a node of a run: a turn, the message of the last packet that an end took, or a restart by its stops
abbrev pub Came : List Taking → List NodeStop → Event → Type 0
Came takers stops (Given input.Turn) = Unit {0}
Came takers stops (Given (input.Message from heard)) = (stamp : ℕ) × TookLast takers from (with_stamp stamp heard)
Came takers stops (Restarted pick calls) = (k : ℕ) × (Restart pick calls ≡ restart_of stops k)
Came takers stops event = ⊥

-- such an event made no entry, for this cause
pub record IsBlamed {N : Type 0} (node : NodeState) (run : Run) (role : Role) (s : Seated N) (ms : List Moment) (missed : RunFault) : Type 0 where
  pub now : ℕ
  pub event : Event
  pub came : Came s.takers s.plan.stops event
  pub blames : Blames node.place role (run.starts (place_of role)) run.bytes (own (place_of role) ms) now event node.disks missed

-- the message of the last packet that an end took is none that the node answers by the rules
pub record IsUnheard {N : Type 0} (node : NodeState) (s : Seated N) : Type 0 where
  pub from : Place
  pub packet : Sent
  pub took : TookLast s.takers from packet
  pub unheard : may_hear s.plan node.place packet.message ≡ false

-- why a fault was answered; want of memory is free
abbrev pub IsCauseOf : {N : Type 0} → NodeState → Run → Role → Seated N → List Moment → RunFault → Type 0
IsCauseOf node run role s ms fault.NoMemory = Unit {0}
IsCauseOf node run role s ms fault.Other = IsUnheard node s
IsCauseOf node run role s ms missed = IsBlamed node run role s ms missed

-- ---- the seat

-- each record of these own entries had a place
abbrev pub HadPlaces : Role → (start : Extent) → (size : ℕ) → List Own → Type 0
HadPlaces role start size [] = Unit {0}
HadPlaces role start size (o ∷ os) = HadPlaces role start size os × EntryFits role start size os o

-- While no call answered a fault: the counts are those of the moments, the journal stands where these leave it, and the disks have the pick
-- of the last restart.
pub record IsCalm {N : Type 0} (node : NodeState) (run : Run) (role : Role) (s : Seated N) (ms : List Moment) : Type 0 where
  pub restarted : s.restarts ≡ restarts ms
  pub turned : s.turns ≡ turns ms
  pub lies : node.lies role (run.starts (place_of role)) run.bytes (own (place_of role) ms)
  pub picked : HaveLast (last_pick (own (place_of role) ms)) node.disks

-- a node of a run, by its moments
pub record KeepsRun {N : Type 0} (node : NodeState) (begin : ℕ) (run : Run) (role : Role) (s : Seated N) (ms : List Moment) : Type 0 where
  pub heard : (k : ℕ) (t : Taking) → slice_get s.takers k ≡ Some t → HeardAll s.fault s.stamp (received t.line.from ms) t.taken
  pub only : (from : Place) → NoneFrom from s.takers → received from ms ≡ []
  pub pushed : (k : ℕ) (end : Sending) → slice_get s.senders k ≡ Some end → PushedAll s.fault end.pushed (sent_to end.line.to ms)
  pub runs : RunsAlone s.plan.stops begin (place_of role) ms
  pub fits : HadPlaces role (run.starts (place_of role)) run.bytes (own (place_of role) ms)
  pub calm : s.fault ≡ None → IsCalm node run role s ms
  pub cause : IfSome s.fault (IsCauseOf node run role s ms)

-- the seat of a node of a run, whatever its disks tell
pub record IsRunning {N : Type 0} (node : NodeState) (past : Past) (run : Run) (s : Seated N) : Type 0 where
  pub goes : CanGoOn node s
  pub of_run : IsOfRun past run node s.plan s.takers s.senders
  pub counted : IfSome s.fault (HasCounted node)

-- A node with its trace has a role, and where the disks tell, it keeps some moments, in a run with its links.
abbrev pub KeepsSome : {N : Type 0} → NodeState → World → Past → Run → Seated N → Type 0
KeepsSome node w past run s =
    (role : Role) × (role_at w past (place_of role) ≡ Some role)
    × (run.tells → (ms : List Moment) × Keeps node s.trace role ms × (s.runs ≡ true → KeepsRun node (start past.sessions) run role s ms))

-- what a seat of a run keeps, over records that its disks had; one of a replay keeps nothing
pub record IsSeat {N : Type 0} (node : NodeState) (w : World) (past : Past) (run : Run) (s : Seated N) : Type 0 where
  pub runs : s.runs ≡ true → IsRunning node past run s
  pub keeps : s.runs ≡ true → KeepsSome node w past run s

-- what the type of a seat keeps, over all records that the disks may have had
abbrev pub KeepsSeat : {N : Type 0} → NodeState → World → (held : Past → Starts → Type 0) → Run → Seated N → Type 0
KeepsSeat node w held run s = OverAll held run (λ past over. IsSeat node w past over s)
