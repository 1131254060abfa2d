-- The moments of nodes at their ends, and the one history that they make.
use Rattle.std.specs.Prelude.{◌≡◌, List, [], ◌∷◌, map, None}
use Rattle.durable_records.specs.Members.{In}
use Rattle.frame_codec.specs.Packets.{Sent}
use Rattle.seata_types.specs.declared.ids.Place.{Place}
use Rattle.history_rules.specs.Nodes.{Role, World, Past}
use Rattle.history_rules.specs.Histories.{Moment, own}
use Rattle.history_text.specs.declared.entries.Entry.{Entry}
use Rattle.history_text.specs.History.{entries}
use Rattle.link_queue.specs.Links.{Sending, Taking}
use Rattle.trace_rules.specs.Traces.{at}
use Rattle.trace_rules.specs.Links.{sent_to}
use Rattle.trace_rules.specs.Stops.{NodeStop}
use Rattle.trace_rules.specs.Runs.{FollowsRun, IsBrokenRun}
use Rattle.trace_rules.specs.Settling.{EndedNode, FitsBroken, FitsRun, LinkAt, history_of}
use Rattle.trace_merge.specs.Merges.{IsMerged}
use Rattle.node_steps.specs.Nodes.{NodeState, place_of}
use Rattle.node_seat.specs.Naming.{Run}
use Rattle.node_seat.specs.Seating.{Seated}
use Rattle.node_seat.specs.Turns.{MayTurn}
use Rattle.run_ends.specs.Ending.{Ending, ending_of, trace_of}

-- ---- one node

-- what went over the ends of its links
abbrev pub taken_at : Taking → LinkAt
taken_at t = record { other = t.line.from; went = t.taken }

abbrev pub pushed_at : Sending → LinkAt
pushed_at s = record { other = s.line.to; went = s.pushed }

-- a node at its end, with its moments
abbrev pub node_of : Ending → List Moment → EndedNode
node_of e ms = record { place = e.place; moments = ms; takers = map taken_at e.takers; senders = map pushed_at e.senders }

-- the moments of a node of a run fit its links; where no call answered a fault and it made its first stop, all rules of a run
pub record Shows {N : Type 0} (node : NodeState) (w : World) (past : Past) (run : Run) (s : Seated N) (role : Role) (ms : List Moment) : Type 0 where
  pub here : node.place ≡ place_of role
  pub fits : FitsBroken w past run.stops (node_of (ending_of node.place s) ms)
  pub whole : s.fault ≡ None → MayTurn s → FitsRun w past run.stops (node_of (ending_of node.place s) ms)

-- ---- all nodes

-- nodes with their moments, one for each of these, which have this property
abbrev pub AreNodesWith : (Ending → List Moment → Type 0) → List Ending → List EndedNode → Type 0
AreNodesWith P [] [] = Unit {0}
AreNodesWith P (e ∷ es) (n ∷ ns) = (n ≡ node_of e n.moments) × P e n.moments × AreNodesWith P es ns
AreNodesWith P _ _ = ⊥

-- a trace is what is printed of these moments
abbrev pub IsPrinted : Ending → List Moment → Type 0
IsPrinted e ms = e.trace ≡ entries ms

-- Nodes, whose traces these are, made one history, of which each has its moments. It is legal, and follows the rules of a run where all
-- their moments do. Each message that an end took was sent there, and the traces merge to the entries of this history.
pub record IsOneHistory (w : World) (past : Past) (stops : Place → List NodeStop) (traces : List (List Entry)) (nodes : List EndedNode) : Type 0 where
  pub broken : IsBrokenRun w past stops (history_of nodes)
  pub follows : ((n : EndedNode) → In n nodes → FitsRun w past stops n) → FollowsRun w past stops (history_of nodes)
  pub moments : (n : EndedNode) → In n nodes → at n.place (history_of nodes) ≡ n.moments
  pub owns : (n : EndedNode) → In n nodes → own n.place (history_of nodes) ≡ own n.place n.moments
  pub sent : (n : EndedNode) → In n nodes → (l : LinkAt) → In l n.takers → (x : Sent) → In x l.went → In x (sent_to n.place (at l.other (history_of nodes)))
  pub printed : (all : List Entry) → IsMerged traces all → all ≡ entries (history_of nodes)

-- whatever moments their traces are printed of, and that fit their links, they made one history
abbrev pub AreSettled : World → Past → (Place → List NodeStop) → List Ending → Type 0
AreSettled w past stops all =
    (nodes : List EndedNode) → AreNodesWith IsPrinted all nodes → ((n : EndedNode) → In n nodes → FitsBroken w past stops n)
    → IsOneHistory w past stops (map trace_of all) nodes
