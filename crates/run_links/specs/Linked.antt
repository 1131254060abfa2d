-- The ends of the links of a run, node by node.
use Rattle.std.specs.Prelude.{◌≡◌, ◌+◌, ◌++◌, ◌||◌, ℕ, Bool, true, false, if◌then◌else◌, List, [], ◌∷◌, length, slice_get, All, Option, Some, None}
use Rattle.std.specs.List.{list_any}
use Rattle.atomic_table.specs.Seated.{TableId}
use Rattle.seata_types.specs.declared.ids.Place.{Place}
use Rattle.seata_types.specs.declared.ids.Place.TheVariants as place
use Rattle.seata_types.specs.declared.statements.Work.{Work}
use Rattle.scenario_form.specs.declared.scenarios.ManagerDef.{ManagerDef}
use Rattle.scenario_form.specs.declared.scenarios.Scenario.{Scenario}
use Rattle.scenario_form.specs.Contents.{IsBetween}
use Rattle.history_rules.specs.Nodes.{counted_at}
use Rattle.history_rules.specs.Histories.{same_place}
use Rattle.link_queue.specs.Links.{AreNew, Sending, Taking}
use Rattle.node_seat.specs.Naming.{no_queue}
use Rattle.node_seat.specs.Running.{AreApart, AreUnused}
use Rattle.run_links.specs.declared.links.NodeLinks.{NodeLinks}
use Rattle.run_links.specs.declared.links.RunLinks.{RunLinks}
use Rattle.run_links.specs.Routes.{Route, is_route, routes_of}

-- ---- the ends of one node

-- whether an end goes to a place, and whether one of these does
abbrev pub is_to : Place → Sending → Bool
is_to p s = same_place s.line.to p

abbrev pub goes_to : Place → List Sending → Bool
goes_to p senders = list_any (is_to p) senders

-- whether an end comes from a place, and whether one of these does
abbrev pub is_from : Place → Taking → Bool
is_from p t = same_place t.line.from p

abbrev pub comes_from : Place → List Taking → Bool
comes_from p takers = list_any (is_from p) takers

-- the queue of the first of these that goes to a place
abbrev pub queue_to : Place → List Sending → TableId
queue_to p [] = no_queue
queue_to p (s ∷ senders) = if same_place s.line.to p then s.line.queue else queue_to p senders

-- ends of a node at a place: each is of the queue that is named for its two places, no two are of one place, and nothing went over them
pub record AreEndsAt (queue : Place → Place → TableId) (p : Place) (takers : List Taking) (senders : List Sending) : Type 0 where
  pub to_here : (k : ℕ) (t : Taking) → slice_get takers k ≡ Some t → (t.line.to ≡ p) × (t.line.queue ≡ queue t.line.from p)
  pub from_here : (k : ℕ) (s : Sending) → slice_get senders k ≡ Some s → (s.line.from ≡ p) × (s.line.queue ≡ queue p s.line.to)
  pub apart : AreApart takers senders
  pub unused : AreUnused takers senders

abbrev pub HasEndsAt : (Place → Place → TableId) → Place → NodeLinks → Type 0
HasEndsAt queue p n = AreEndsAt queue p n.takers.items n.senders.items

-- ---- the ends of all nodes

-- the ends of the node at a place
abbrev pub links_at : RunLinks → Place → Option NodeLinks
links_at l place.Net = None
links_at l place.Tc = Some l.coordinator
links_at l (place.Res n) = counted_at l.resources.items n
links_at l (place.Man n) = counted_at l.managers.items n

abbrev pub takers_of : Option NodeLinks → List Taking
takers_of None = []
takers_of (Some n) = n.takers.items

abbrev pub senders_of : Option NodeLinks → List Sending
senders_of None = []
senders_of (Some n) = n.senders.items

-- those that take, and those that send
abbrev pub takers_at : RunLinks → Place → List Taking
takers_at l p = takers_of (links_at l p)

abbrev pub senders_at : RunLinks → Place → List Sending
senders_at l p = senders_of (links_at l p)

-- the queue of the link from a place to a place, by the ends that send: what a run names
abbrev pub queue_by : (Place → List Sending) → Place → Place → TableId
queue_by senders from to = queue_to to (senders from)

abbrev pub queue_of : RunLinks → Place → Place → TableId
queue_of l = queue_by (senders_at l)

-- The links of a run of a scenario: the ends of each node, by these queues. From a place a link goes to a place exactly where the
-- scenario links the two, and there its other end takes.
pub record AreLinksOf (s : Scenario) (l : RunLinks) : Type 0 where
  pub resource_count : length l.resources.items ≡ length s.resources
  pub manager_count : length l.managers.items ≡ length s.managers
  pub coordinator : HasEndsAt (queue_of l) place.Tc l.coordinator
  pub resources : (k : ℕ) (n : NodeLinks) → slice_get l.resources.items k ≡ Some n → HasEndsAt (queue_of l) (place.Res (k + 1)) n
  pub managers : (k : ℕ) (n : NodeLinks) → slice_get l.managers.items k ≡ Some n → HasEndsAt (queue_of l) (place.Man (k + 1)) n
  pub go : (p q : Place) → goes_to q (senders_at l p) ≡ is_route (routes_of s) p q
  pub come : (p q : Place) → comes_from p (takers_at l q) ≡ is_route (routes_of s) p q

-- ---- made one after the other

-- the ends at each place: where one goes from a place to a place, its other end takes there
pub record AreEnds (takers : Place → List Taking) (senders : Place → List Sending) : Type 0 where
  pub each : (p : Place) → AreEndsAt (queue_by senders) p (takers p) (senders p)
  pub come : (p q : Place) → comes_from p (takers q) ≡ goes_to q (senders p)

-- the links so far: where one goes from a place to a place, one goes back
pub record AreLinks (l : RunLinks) : Type 0 where
  pub ends : AreEnds (takers_at l) (senders_at l)
  pub returned : (p q : Place) → goes_to q (senders_at l p) ≡ goes_to p (senders_at l q)

-- a link more from a place to a place: one end is behind the others that send, and one behind the others that take
pub record HaveLink (from to : Place) (senders : List Sending) (takers : List Taking) (senders' : List Sending) (takers' : List Taking) : Type 0 where
  pub sender : Sending
  pub taker : Taking
  pub new : AreNew from to sender taker
  pub sends : senders' ≡ senders ++ sender ∷ []
  pub takes : takers' ≡ takers ++ taker ∷ []

-- two nodes with a link more each way
pub record AreLinked (p q : Place) (one other one' other' : NodeLinks) : Type 0 where
  pub there : HaveLink p q one.senders.items other.takers.items one'.senders.items other'.takers.items
  pub back : HaveLink q p other.senders.items one.takers.items other'.senders.items one'.takers.items

-- two nodes were linked, or are so now
abbrev pub AreJoined : (linked : Bool) → (p q : Place) → (one other one' other' : NodeLinks) → Type 0
AreJoined true p q one other one' other' = (one' ≡ one) × (other' ≡ other)
AreJoined false p q one other one' other' = AreLinked p q one other one' other'

-- these links were made too, of as many nodes
pub record HaveMade (routes : List Route) (old new : RunLinks) : Type 0 where
  pub links : AreLinks new
  pub resources : length new.resources.items ≡ length old.resources.items
  pub managers : length new.managers.items ≡ length old.managers.items
  pub go : (p q : Place) → goes_to q (senders_at new p) ≡ (goes_to q (senders_at old p) || is_route routes p q)

-- a call of one of so many resources, and a manager each of whose calls is such
abbrev pub IsCallAmong : ℕ → ℕ × Work → Type 0
IsCallAmong resources call = IsBetween 1 resources call.0

abbrev pub HasCallsAmong : ℕ → ManagerDef → Type 0
HasCallsAmong resources def = All (IsCallAmong resources) def.calls

-- a node without links
pub record IsUnlinked (n : NodeLinks) : Type 0 where
  pub takers : n.takers.items ≡ []
  pub senders : n.senders.items ≡ []
