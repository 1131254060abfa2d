-- Small rows of these definitions: two traces that merge, a node that is stopped and restarted, and a message that is lost.
use Rattle.std.specs.Prelude.{◌≡◌, ◌≢◌, ◌≤◌, ◌↔◌, ℕ, List, [], ◌∷◌, ◌++◌, length, map, Some, None}
use Rattle.seata_types.specs.declared.acts.Act.TheVariants as act
use Rattle.seata_types.specs.declared.acts.Durable.TheVariants as durable
use Rattle.seata_types.specs.declared.ids.Place.{Place}
use Rattle.seata_types.specs.declared.messages.Input.TheVariants as input
use Rattle.seata_types.specs.declared.messages.Message.{Message}
use Rattle.seata_types.specs.declared.messages.Step.{Step}
use Rattle.seata_types.specs.declared.statuses.Decision.TheVariants as how
use Rattle.frame_codec.specs.Packets.{Sent}
use Rattle.history_rules.specs.CoordinatorRules.{xid_of}
use Rattle.history_rules.specs.Histories.{Cause, Deliver, Moment, Restart, Stop, Turn}
use Rattle.history_rules.specs.Own.{Event, Given, Restarted, Stopped, sends, still}
use Rattle.history_rules.specs.Worked.{man, tc}
use Rattle.trace_rules.specs.Links.{Taken, received, sent_to, with_stamp}
use Rattle.trace_rules.specs.Merged.{Placed, merged}
use Rattle.trace_rules.specs.Stops.{NodeStop, RunsAlone, restart_of}

-- an entry at a place
abbrev pub entry : (stamp : ℕ) → Place → (now : ℕ) → Cause → Event → Step → Moment
entry stamp p now cause event step = record { stamp = stamp; place = p; now = now; cause = cause; event = Some event; step = step }

-- ---- two traces

-- a manager sends two messages to the coordinator, at stamps 1 and 3
abbrev pub asks : Message → Moment
asks first = entry 1 (man 1) 0 Turn (Given input.Turn) (sends act.Starts tc first)

abbrev pub asks_again : Message → Moment
asks_again second = entry 3 (man 1) 0 Turn (Given input.Turn) (sends act.Repeats tc second)

-- the coordinator has a turn at stamp 2, and hears the first of them at stamp 3
abbrev pub waits : Moment
waits = entry 2 tc 1 Turn (Given input.Turn) (still act.Nothing)

abbrev pub hears : Message → Moment
hears first = entry 3 tc 2 (Deliver 1 (man 1)) (Given (input.Message (man 1) first)) (still act.Nothing)

-- their traces
abbrev pub two_traces : (first second : Message) → List Placed
two_traces first second =
    record { place = man 1; moments = asks_again second ∷ asks first ∷ [] } ∷ record { place = tc; moments = hears first ∷ waits ∷ [] } ∷ []

-- they merge by stamp, and at stamp 3 the coordinator's entry comes first
abbrev pub TwoTracesMerge : Type 0
TwoTracesMerge = (first second : Message) → merged (two_traces first second) ≡ asks_again second ∷ hears first ∷ waits ∷ asks first ∷ []

-- what the manager sent, and what the coordinator received of that
pub record FirstIsReceived (first second : Message) : Type 0 where
  pub sent : sent_to tc (asks_again second ∷ asks first ∷ []) ≡ with_stamp 1 first ∷ with_stamp 3 second ∷ []
  pub heard : received (man 1) (hears first ∷ waits ∷ []) ≡ with_stamp 1 first ∷ []

-- ---- a node with stops

-- stops after 2 and after 1 calls, with picks 3 and 7
abbrev pub two_stops : List NodeStop
two_stops = (2, 3) ∷ (1, 7) ∷ []

-- the restarts of a node with these stops
abbrev pub RestartsOfTwoStops : Type 0
RestartsOfTwoStops = map (restart_of two_stops) (0 ∷ 1 ∷ 2 ∷ []) ≡ Restart 3 (Some 1) ∷ Restart 7 None ∷ Restart 1 None ∷ []

-- the coordinator is stopped, goes down at its first turn, is restarted and has a turn
abbrev pub stopped_trace : List Moment
stopped_trace =
    entry 4 tc 8 Turn (Given input.Turn) (still act.Nothing)
    ∷ entry 3 tc 7 (Restart 3 (Some 1)) (Restarted 3 (Some 1)) (still (act.Restarted None))
    ∷ entry 2 tc 6 Turn (Given input.Turn) (still (act.Down None (Some (durable.Decided (xid_of 1) how.Timeout))))
    ∷ entry 1 tc 5 (Stop 2) (Stopped 2) (still act.Armed) ∷ []

-- it runs by these stops, with a clock that begins at 5
abbrev pub StoppedNodeRuns : Type 0
StoppedNodeRuns = RunsAlone two_stops 5 tc stopped_trace

-- ---- a lost message

-- a message that isn't taken, while the one behind it is, is one before which 64 were taken
abbrev pub LosesBehindFull : Type 0
LosesBehindFull = (taken : List Sent) (lost later : Sent) → later ≢ lost
    → Taken (taken ++ later ∷ []) (taken ++ lost ∷ later ∷ []) ↔ (64 ≤ length taken)
