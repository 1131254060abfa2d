-- What is kept of a history, in the words of the rules of all nodes; and what a report says.
use Rattle.std.specs.Prelude.{◌≡◌, ℕ, suc, ◌+◌, ◌<◌, ◌^◌, max, true, false, List, [], ◌∷◌, length, filter, slice_get, Option, Some}
use Rattle.std.specs.List.Sorted.{IsStrictlySortedBy}
use Rattle.std.specs.Map.{keys_of}
use Rattle.seata_types.specs.declared.ids.Place.{Place}
use Rattle.durable_records.specs.declared.coordinators.SessionRecord.{SessionRecord}
use Rattle.durable_records.specs.declared.resources.ResourceRecord.{ResourceRecord}
use Rattle.durable_records.specs.Members.{In}
use Rattle.durable_records.specs.SessionOrder.{Allowed}
use Rattle.durable_records.specs.Transactions.{Session, is_forgotten, sessions}
use Rattle.durable_records.specs.Branches.{Grant, grants}
use Rattle.local_tables.specs.Rows.{Database, opened}
use Rattle.scenario_form.specs.declared.scenarios.ResourceDef.{ResourceDef}
use Rattle.scenario_form.specs.declared.scenarios.Scenario.{Scenario}
use Rattle.session_log.specs.SnapshotOf.{snapshot_of}
use Rattle.resource_memory.specs.Changes.{may_come}
use Rattle.resource_memory.specs.Known.{Known, known_of}
use Rattle.history_rules.specs.Own.{Left}
use Rattle.history_rules.specs.ResourceMemory.{Setup, Memory, opening_tables}
use Rattle.history_rules.specs.Nodes.{Past, Role, Coordinator, Resource, role_at}
use Rattle.history_rules.specs.Histories.{Moment, Legal, coordinator_left, memory_at, same_place}
use Rattle.history_rules.specs.Reports.{read_lines}
use Rattle.history_text.specs.declared.entries.Entry.{Entry}
use Rattle.history_text.specs.History.{entries}
use Rattle.history_text.specs.Report.{lines, names_of, read_text, report}
use Rattle.history_text.specs.Worlds.{resources_of, world_of}
use Rattle.report_text.specs.declared.before.Before.{Before}
use Rattle.report_text.specs.Folds.{FoldedKept}
use Rattle.report_text.specs.Keeping.{CoordinatorKept, Numbers, ResourceKept, number_at}
use Rattle.report_text.specs.Opens.{AreOpen, ticket_cmp}
use Rattle.report_text.specs.SentIndex.{IsIndexOf}

-- ---- what the disks held before

-- each of these records of a resource may come after what is known of those before it
abbrev pub Come : Database → List ResourceRecord → Type 0
Come opening [] = Unit {0}
Come opening (r ∷ rs) = Come opening rs × (may_come (known_of opening rs) r ≡ true)

-- a resource without records, and all of them from this number on
abbrev pub unused_kept : ℕ → ResourceDef → Known
unused_kept n def = known_of (opened n def.schema def.opening) []

abbrev pub unused_from : ℕ → List ResourceDef → List Known
unused_from n [] = []
unused_from n (def ∷ defs) = unused_kept n def ∷ unused_from (suc n) defs

-- the most of this number and of those of the records of resources
abbrev pub most_of : ℕ → List Known → ℕ
most_of most [] = most
most_of most (k ∷ ks) = most_of (max most k.acts) ks

-- the most records that the disks of one node held
abbrev pub most_acts : Before → ℕ
most_acts before = most_of before.sessions.acts before.resources.items

-- this is what the records say that the disk of the k-th resource, counted from 0, held
abbrev pub IsReadAt : Scenario → List Known → Past → ℕ → Type 0
IsReadAt s resources past k =
    (setup : Setup) → slice_get (resources_of s) k ≡ Some setup
    → (slice_get resources k ≡ Some (known_of (opening_tables setup) (past.resource setup.number))) × Come (opening_tables setup) (past.resource setup.number)

-- this is what the records say that the disks of all nodes held, and these may come one after the other
pub record IsRead (s : Scenario) (before : Before) (past : Past) : Type 0 where
  pub sessions : before.sessions ≡ snapshot_of past.sessions
  pub allowed : Allowed past.sessions
  pub count : length before.resources.items ≡ length (resources_of s)
  pub resources : (k : ℕ) → IsReadAt s before.resources.items past k

-- ---- one node

-- the manager of each transaction is found that wasn't forgotten before the history
abbrev pub FindManagers : (past rs : List SessionRecord) → Numbers → Type 0
FindManagers past rs managers = (s : Session) → In s (sessions rs) → is_forgotten past s.xid ≡ false → number_at managers s.xid ≡ s.manager

-- and the call of each of its branches
abbrev pub FindCalls : (past rs : List SessionRecord) → Numbers → Type 0
FindCalls past rs calls = (g : Grant) → In g (grants rs) → is_forgotten past g.xid ≡ false → number_at calls g.branch ≡ g.call

-- this is kept of what the coordinator's entries leave, over the records that its disks had before
pub record IsOfCoordinator (past : List SessionRecord) (k : CoordinatorKept) (left : Left SessionRecord) : Type 0 where
  pub known : k.known ≡ snapshot_of left.records
  pub flight : k.flight ≡ left.flight
  pub managers : FindManagers past left.records k.managers
  pub calls : FindCalls past left.records k.calls

-- this is kept of what a resource's entries leave
pub record IsOfResource (k : ResourceKept) (opening : Database) (m : Memory) : Type 0 where
  pub known : k.known ≡ known_of opening m.left.records
  pub flight : k.flight ≡ m.left.flight
  pub in_order : IsStrictlySortedBy ticket_cmp (keys_of k.works)
  pub works : AreOpen k.works m.opens

-- ---- all nodes

-- the k-th of these is kept of the k-th resource
abbrev pub HasResource : Scenario → Past → List Moment → List ResourceKept → ℕ → Type 0
HasResource s past ms kept k =
    (setup : Setup) → slice_get (resources_of s) k ≡ Some setup
    → (r : ResourceKept) × (slice_get kept k ≡ Some r) × IsOfResource r (opening_tables setup) (memory_at past setup ms)

-- what is kept of a history, over the records that the disks had before
pub record Follows (s : Scenario) (past : Past) (f : FoldedKept) (ms : List Moment) : Type 0 where
  pub coordinator : IsOfCoordinator past.sessions f.coordinator (coordinator_left past ms)
  pub count : length f.resources ≡ length (resources_of s)
  pub resources : (k : ℕ) → HasResource s past ms f.resources k
  pub sent : IsIndexOf f.sent ms
  pub reads : f.reads ≡ lines (read_text (names_of s)) (read_lines (world_of s) past ms)

-- the entries of a place
abbrev pub entries_at : Place → List Entry → List Entry
entries_at p es = filter (λ (e : Entry). same_place p e.place) es

-- how many records a node had before
abbrev pub acts_of : Option Role → ℕ
acts_of (Some (Coordinator times past)) = length past
acts_of (Some (Resource setup past)) = length past
acts_of _ = 0

-- how many the disks of the node at a place had
abbrev pub acts_before : Scenario → Past → Place → ℕ
acts_before s past p = acts_of (role_at (world_of s) past p)

-- the entries of each node, with the records of before, are so few that its records are counted in 32 bits
abbrev pub AreCounted : Scenario → Past → List Entry → Type 0
AreCounted s past es = (p : Place) → acts_before s past p + length (entries_at p es) + 1 < 2 ^ 32

-- said of each legal history of these entries, over whatever the disks held that was read
abbrev pub FollowsAll : Scenario → Before → List Entry → FoldedKept → Type 0
FollowsAll s before es f =
    (past : Past) (ms : List Moment) → IsRead s before past → Legal (world_of s) past ms → entries ms ≡ es → AreCounted s past es → Follows s past f ms

-- ---- the report

-- a text is the report of each legal history of a scenario that has these entries, over these records
abbrev pub Reports : Scenario → Past → List Entry → List ℕ → Type 0
Reports s past es text = (ms : List Moment) → Legal (world_of s) past ms → entries ms ≡ es → AreCounted s past es → text ≡ report s past ms
