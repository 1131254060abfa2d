-- All nodes of a run at their ends, and that each link was gathered.
use Rattle.std.specs.Prelude.{◌≡◌, ◌≢◌, ◌<◌, ◌≤◌, ℕ, List, [], ◌∷◌, slice_get, Some}
use Rattle.seata_types.specs.declared.ids.Place.{Place}
use Rattle.durable_records.specs.Members.{In}
use Rattle.history_rules.specs.Nodes.{Role, World, Past, role_at}
use Rattle.link_queue.specs.Links.{IsFront, Sending, Taking}
use Rattle.node_seat.specs.Ends.{EachBecomes}
use Rattle.node_seat.specs.Naming.{Run}
use Rattle.run_ends.specs.Ending.{Ending, LosesSenders}

-- ---- all nodes

-- no two of these stand at one place
abbrev pub AreApart : List Ending → Type 0
AreApart [] = Unit {0}
AreApart (e ∷ es) = AreApart es × ((f : Ending) → In f es → f.place ≢ e.place)

-- one of these stands at a place
pub record StandsAt (p : Place) (all : List Ending) : Type 0 where
  pub node : Ending
  pub among : In node all
  pub here : node.place ≡ p

-- these are the nodes of a run, each once
pub record AreOfRun (w : World) (past : Past) (all : List Ending) : Type 0 where
  pub apart : AreApart all
  pub each : (p : Place) (role : Role) → role_at w past p ≡ Some role → StandsAt p all

-- ---- their links

-- an end that takes has its other end at one of these nodes, and took the first of what was pushed there
pub record IsJoined (all : List Ending) (t : Taking) : Type 0 where
  pub node : Ending
  pub among : In node all
  pub here : node.place ≡ t.line.from
  pub sender : Sending
  pub there : In sender node.senders
  pub to_is : sender.line.to ≡ t.line.to
  pub front : IsFront t.taken sender.pushed

-- and so each of these ends
abbrev pub EachJoined : List Ending → List Taking → Type 0
EachJoined all takers = (t : Taking) → In t takers → IsJoined all t

-- each end of a node, which takes at its place
pub record IsGathered (all : List Ending) (e : Ending) : Type 0 where
  pub to_here : (t : Taking) → In t e.takers → t.line.to ≡ e.place
  pub joined : EachJoined all e.takers

abbrev pub AreJoined : List Ending → Type 0
AreJoined all = (e : Ending) → In e all → IsGathered all e

-- ---- on the way

-- the node of a place stands here among these
abbrev pub StandsThere : Place → List Ending → ℕ → Type 0
StandsThere p all k = (e : Ending) × (slice_get all k ≡ Some e) × (e.place ≡ p)

-- an end that takes is of the link that a run names for its places
abbrev pub IsNamed : Run → Taking → Type 0
IsNamed run t = t.line.queue ≡ run.queue t.line.from t.line.to

abbrev pub AreNamed : Run → List Taking → Type 0
AreNamed run takers = (t : Taking) → In t takers → IsNamed run t

-- nodes lost ends that send, and nothing else
abbrev pub HaveLost : (old new : List Ending) → Type 0
HaveLost old new = EachBecomes (λ j. LosesSenders) old new

-- an end that takes was gathered with its other end
pub record Joins (old new : List Ending) (t : Taking) : Type 0 where
  pub joined : IsJoined old t
  pub lost : HaveLost old new

-- and so each of these
pub record JoinsAll (old new : List Ending) (takers : List Taking) : Type 0 where
  pub joined : EachJoined old takers
  pub lost : HaveLost old new

-- Of a node whose place in the list is below the first number all ends that take were gathered, and of one from the second on none was
-- taken out.
pub record IsLeft (all : List Ending) (low high j : ℕ) (old new : Ending) : Type 0 where
  pub place : new.place ≡ old.place
  pub trace : new.trace ≡ old.trace
  pub senders : (s : Sending) → In s new.senders → In s old.senders
  pub gathered : j < low → IsGathered all old
  pub takers : high ≤ j → new.takers ≡ old.takers

-- the first k nodes were gathered, and the others not yet
abbrev pub AreLeft : (k : ℕ) → (old new : List Ending) → Type 0
AreLeft k old new = EachBecomes (IsLeft old k k) old new
