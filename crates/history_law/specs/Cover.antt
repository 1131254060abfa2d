-- Tickets, markers and cover: what is kept by every entry of every node.
use Rattle.std.specs.Prelude.{◌≡◌, ◌⊎◌, ℕ, true, List, Some, None}
use Rattle.seata_types.specs.declared.ids.Place.{Place}
use Rattle.seata_types.specs.declared.ids.Place.TheVariants as place
use Rattle.seata_types.specs.declared.ids.Ticket.{Ticket}
use Rattle.seata_types.specs.declared.messages.Message.{Message}
use Rattle.seata_types.specs.declared.messages.Message.TheVariants as message
use Rattle.seata_types.specs.declared.messages.Outgoing.{Outgoing}
use Rattle.seata_types.specs.declared.messages.Registered.TheVariants as registered
use Rattle.seata_types.specs.declared.statements.Work.{Work}
use Rattle.seata_types.specs.declared.statuses.BranchKind.{BranchKind}
use Rattle.seata_types.specs.declared.statuses.BranchKind.TheVariants as kind
use Rattle.seata_types.specs.declared.statuses.BranchStatus.{BranchStatus}
use Rattle.seata_types.specs.declared.statuses.BranchStatus.TheVariants as branch
use Rattle.durable_records.specs.declared.coordinators.SessionRecord.{SessionRecord}
use Rattle.durable_records.specs.declared.resources.ResourceRecord.{ResourceRecord}
use Rattle.durable_records.specs.declared.resources.ResourceRecord.TheVariants as log
use Rattle.durable_records.specs.Transactions.{decided, is_commit, is_rollback}
use Rattle.durable_records.specs.Branches.{Grant, grants, is_ended}
use Rattle.durable_records.specs.SessionOrder.{Allowed}
use Rattle.durable_records.specs.UndoRecords.{Undo, undos, undo_of, is_marked}
use Rattle.durable_records.specs.ResourceOrder.{image_keys}
use Rattle.history_rules.specs.Own.{Left, added}
use Rattle.history_rules.specs.CoordinatorRules.{xid_of, branch_of}
use Rattle.history_rules.specs.ResourceMemory.{Setup, OfCall, Open, Memory, memory}
use Rattle.history_rules.specs.Nodes.{World, Past, counted_at}
use Rattle.history_rules.specs.Histories.{Moment, own, coordinator_left}
use Rattle.history_law.specs.Points.{In}
use Rattle.history_law.specs.Network.{EachSent}
use Rattle.history_law.specs.Tickets.{Names, IsClosed, Tickets, IsAtOf, kind_of, Asks, IsOfRollback}

-- the records that stand, with the one in flight
abbrev pub all_of : {R : Type 0} → Left R → List R
all_of left = added left.flight left.records

-- what the entries of resource n leave
abbrev pub memory_of : Past → List Moment → ℕ → Setup → Memory
memory_of past ms n s = memory s (past.resource n) (own (place.Res n) ms)

-- ---- of one branch

-- an AT ticket that asked for this branch
abbrev pub AskedFor : Grant → Open → Type 0
AskedFor g o = IsAtOf g.xid o.owner × (image_keys o.images ≡ g.hold)

-- no undo record of a branch stands, nor is one in flight
abbrev pub HasNoUndo : Memory → Grant → Type 0
HasNoUndo m g = (undo_of m.left.records g.xid g.branch ≡ None) × (undo_of (all_of m.left) g.xid g.branch ≡ None)

-- a branch has nothing to undo, and never will: it is marked, or its ticket is closed
abbrev pub IsUndone : Memory → Grant → Type 0
IsUndone m g = HasNoUndo m g × ((is_marked m.left.records g.xid g.branch ≡ true) ⊎ IsClosed m g.ticket)

-- once marked a branch has no undo record
abbrev pub MarksHold : List ResourceRecord → Type 0
MarksHold rs = (x b : ℕ) → is_marked rs x b ≡ true → undo_of rs x b ≡ None

-- the branch of an undo record: it was granted here with the rows that it touched, and its ticket is closed
pub record Backs (rs : List SessionRecord) (n : ℕ) (m : Memory) (u : Undo) : Type 0 where
  pub branch : Grant
  pub granted : In branch (grants rs)
  pub xid : branch.xid ≡ u.xid
  pub number : branch.branch ≡ u.branch
  pub resource : branch.resource ≡ n
  pub at : branch.kind ≡ kind.At
  pub hold : image_keys u.images ≡ branch.hold
  pub closed : IsClosed m branch.ticket

-- ---- of one resource

-- its tickets; markers; the tickets of its granted branches; the branches of its undo records; and an undo record is cleared
-- only after a commit
pub record CoversAt (tc : Left SessionRecord) (n : ℕ) (m : Memory) : Type 0 where
  pub tickets : Tickets m
  pub marks : MarksHold m.left.records × MarksHold (all_of m.left)
  pub asked : (g : Grant) → In g (grants (all_of tc)) → g.kind ≡ kind.At → g.resource ≡ n → Names m g.ticket (AskedFor g)
  pub backed : (u : Undo) → In u (undos m.left.records) ⊎ In u (undos (all_of m.left)) → Backs tc.records n m u
  pub cleared : (x b : ℕ) → In (log.Cleared (xid_of x) (branch_of b)) (all_of m.left) → is_commit (decided tc.records x) ≡ true

-- ---- of all nodes

-- an ended branch is committed, or has nothing to undo
abbrev pub EndsWell : World → Left SessionRecord → (ℕ → Setup → Memory) → List SessionRecord → Type 0
EndsWell w tc mem rs = (x b : ℕ) → is_ended rs x b ≡ true → (is_commit (decided tc.records x) ≡ true)
    ⊎ ((g : Grant) × (In g (grants rs)) × (g.xid ≡ x) × (g.branch ≡ b)
    × (g.kind ≡ kind.At → (s : Setup) → counted_at w.resources g.resource ≡ Some s → IsUndone (mem g.resource s) g))

-- an open ticket of a call of this kind
abbrev pub HasKind : BranchKind → Open → Type 0
HasKind k o = (manager x c : ℕ) × (work : Work) × (o.owner ≡ OfCall manager x c work) × (kind_of work ≡ k)

-- a Granted: the branch of this number was granted, to the resource that is told; an AT branch has this ticket
pub record GrantSaid (w : World) (tc : Left SessionRecord) (mem : ℕ → Setup → Memory) (to : Place) (t : Ticket) (b : ℕ) : Type 0 where
  pub branch : Grant
  pub granted : In branch (grants tc.records)
  pub number : branch.branch ≡ b
  pub receiver : to ≡ place.Res branch.resource
  pub ticket : branch.kind ≡ kind.At → branch.ticket ≡ t
  pub asked : (s : Setup) → counted_at w.resources branch.resource ≡ Some s → Names (mem branch.resource s) t (HasKind branch.kind)

-- branch b of x was granted to the resource at this place
pub record BranchSaid (tc : Left SessionRecord) (at : Place) (x b : ℕ) : Type 0 where
  pub branch : Grant
  pub granted : In branch (grants tc.records)
  pub xid : branch.xid ≡ x
  pub number : branch.branch ≡ b
  pub place : at ≡ place.Res branch.resource

-- an answer to a rollback: an AT branch for which it is 8 has nothing to undo
pub record RollbackSaid (w : World) (tc : Left SessionRecord) (mem : ℕ → Setup → Memory) (at : Place) (x b : ℕ) (st : BranchStatus) : Type 0 where
  pub status : IsOfRollback st
  pub said : BranchSaid tc at x b
  pub undone : said.branch.kind ≡ kind.At → st ≡ branch.PhaseTwoRollbacked → (s : Setup) → counted_at w.resources said.branch.resource ≡ Some s → IsUndone (mem said.branch.resource s) said.branch

-- what each message says
abbrev pub SaysIn : World → Left SessionRecord → (ℕ → Setup → Memory) → Place → Place → Message → Type 0
SaysIn w tc mem from to (message.Register xid r c t k hold check) =
    (s : Setup) → counted_at w.resources r ≡ Some s → Names (mem r s) t (Asks xid.0 c k hold check)
SaysIn w tc mem from to (message.RegisterAnswer t xid (registered.Granted b)) = GrantSaid w tc mem to t b.0
SaysIn w tc mem from to (message.BranchCommit xid b k manager c) =
    (said : BranchSaid tc to xid.0 b.0) × (said.branch.kind ≡ k) × (is_commit (decided tc.records xid.0) ≡ true)
SaysIn w tc mem from to (message.BranchRollback xid b k manager c) =
    (said : BranchSaid tc to xid.0 b.0) × (said.branch.kind ≡ k) × (is_rollback (decided tc.records xid.0) ≡ true)
SaysIn w tc mem from to (message.BranchRollbacked xid b st stmt) = RollbackSaid w tc mem from xid.0 b.0 st
SaysIn w tc mem from to _ = Unit {0}

-- what a message says that was sent from this place
abbrev pub Says : World → Left SessionRecord → (ℕ → Setup → Memory) → Place → Outgoing → Type 0
Says w tc mem from out = SaysIn w tc mem from out.to out.message

-- the whole: of the coordinator's records with the one in flight, of each resource, of the ends, and of every message that
-- was sent
pub record CoversBy (w : World) (tc : Left SessionRecord) (mem : ℕ → Setup → Memory) (ms : List Moment) : Type 0 where
  pub allowed : Allowed tc.records × Allowed (all_of tc)
  pub at : (n : ℕ) (s : Setup) → counted_at w.resources n ≡ Some s → CoversAt tc n (mem n s)
  pub ended : EndsWell w tc mem tc.records × EndsWell w tc mem (all_of tc)
  pub said : EachSent (Says w tc mem) ms

-- the whole, after a history
abbrev pub Covers : World → Past → List Moment → Type 0
Covers w past ms = CoversBy w (coordinator_left past ms) (memory_of past ms) ms
