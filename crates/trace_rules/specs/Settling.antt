-- The nodes of a run at their ends, and that their traces are those of one history.
use Rattle.std.specs.Prelude.{◌≡◌, ◌≢◌, List, [], ◌∷◌, map, Some}
use Rattle.seata_types.specs.declared.ids.Place.{Place}
use Rattle.durable_records.specs.Members.{In}
use Rattle.frame_codec.specs.Packets.{Sent}
use Rattle.history_rules.specs.CoordinatorMemory.{start}
use Rattle.history_rules.specs.Nodes.{Role, World, Past, role_at}
use Rattle.history_rules.specs.Histories.{Moment, Legal}
use Rattle.trace_rules.specs.Traces.{Alone}
use Rattle.trace_rules.specs.Merged.{Placed, merged}
use Rattle.trace_rules.specs.Links.{IsFront, Went, Within, received, sent_to}
use Rattle.trace_rules.specs.Stops.{HasBegun, NodeStop, RunsAlone}
use Rattle.trace_rules.specs.Runs.{FollowsRun, IsBrokenRun}

-- an end of a link: the place at its other end, and what was pushed or taken at this one
pub record LinkAt : Type 0 where
  pub other : Place
  pub went : List Sent

-- a node at its end: its place, its trace, and the ends of its links that take and that send
pub record EndedNode : Type 0 where
  pub place : Place
  pub moments : List Moment
  pub takers : List LinkAt
  pub senders : List LinkAt

-- no end of these has this place at its other end
abbrev pub NoneOf : Place → List LinkAt → Type 0
NoneOf p links = (l : LinkAt) → In l links → l.other ≢ p

-- ---- one node

-- a node's trace is legal for it alone and runs by itself; it received the first of what its ends took, and nothing without one; and
-- what its ends pushed stands so to what it sent
pub record Fits (Pushed : List Sent → List Sent → Type 0) (w : World) (past : Past) (stops : Place → List NodeStop) (n : EndedNode) : Type 0 where
  pub role : Role
  pub known : role_at w past n.place ≡ Some role
  pub alone : Alone role n.place n.moments
  pub runs : RunsAlone (stops n.place) (start past.sessions) n.place n.moments
  pub heard : (l : LinkAt) → In l n.takers → IsFront (received l.other n.moments) l.went
  pub only : (p : Place) → NoneOf p n.takers → received p n.moments ≡ []
  pub pushed : (l : LinkAt) → In l n.senders → Pushed l.went (sent_to l.other n.moments)

-- after turns of which none answered a fault
pub record FitsRun (w : World) (past : Past) (stops : Place → List NodeStop) (n : EndedNode) : Type 0 where
  pub node : Fits Went w past stops n
  pub begun : HasBegun (stops n.place) n.moments

-- and after turns of which the last may have answered one
abbrev pub FitsBroken : World → Past → (Place → List NodeStop) → EndedNode → Type 0
FitsBroken w past stops n = Fits Within w past stops n

-- ---- all nodes

-- an end that takes at a place has its other end among these nodes, and took the first of what was pushed there
pub record IsJoined (all : List EndedNode) (to : Place) (l : LinkAt) : Type 0 where
  pub node : EndedNode
  pub among : In node all
  pub place_is : node.place ≡ l.other
  pub sender : LinkAt
  pub there : In sender node.senders
  pub to_is : sender.other ≡ to
  pub front : IsFront l.went sender.went

abbrev pub AreJoined : List EndedNode → Type 0
AreJoined all = (n : EndedNode) → In n all → (l : LinkAt) → In l n.takers → IsJoined all n.place l

-- no two of these stand at one place
abbrev pub AreApart : List EndedNode → Type 0
AreApart [] = Unit {0}
AreApart (n ∷ ns) = AreApart ns × ((m : EndedNode) → In m ns → m.place ≢ n.place)

-- a node at this place stands among these
pub record StandsAmong (p : Place) (all : List EndedNode) : Type 0 where
  pub node : EndedNode
  pub among : In node all
  pub here : node.place ≡ p

-- and so for each node of the run
abbrev pub HasEach : World → Past → List EndedNode → Type 0
HasEach w past all = (p : Place) (role : Role) → role_at w past p ≡ Some role → StandsAmong p all

-- these are the nodes of a run, each once, and their links are joined
pub record AreNodes (w : World) (past : Past) (all : List EndedNode) : Type 0 where
  pub apart : AreApart all
  pub each : HasEach w past all
  pub joined : AreJoined all

-- ---- their history

-- the trace of a node, and the history that all traces merge to
abbrev pub placed : EndedNode → Placed
placed n = record { place = n.place; moments = n.moments }

abbrev pub history_of : List EndedNode → List Moment
history_of all = merged (map placed all)

-- all nodes of a run make one legal history, which follows the rules of a run
abbrev pub SettlesAll : Type 0
SettlesAll = (w : World) (past : Past) (stops : Place → List NodeStop) (all : List EndedNode)
    → AreNodes w past all → ((n : EndedNode) → In n all → FitsRun w past stops n)
    → Legal w past (history_of all) × FollowsRun w past stops (history_of all)

-- after a fault too, but that messages may be lost in any number
abbrev pub SettlesBroken : Type 0
SettlesBroken = (w : World) (past : Past) (stops : Place → List NodeStop) (all : List EndedNode)
    → AreNodes w past all → ((n : EndedNode) → In n all → FitsBroken w past stops n) → IsBrokenRun w past stops (history_of all)
