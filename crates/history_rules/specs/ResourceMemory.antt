-- What a resource's own entries leave: its records, and the local transactions that it has open.
use Rattle.std.specs.Prelude.{ℕ, ◌+◌, ◌==◌, ◌&&◌, ◌||◌, not, Bool, if◌then◌else◌, List, [], ◌∷◌, filter, find, map, Option, Some, None, option_map, Result, Ok, Err}
use Rattle.std.specs.Option.{option_and_then}
use Rattle.seata_types.specs.declared.acts.Act.{Act}
use Rattle.seata_types.specs.declared.acts.Act.TheVariants as act
use Rattle.seata_types.specs.declared.acts.Durable.{Durable}
use Rattle.seata_types.specs.declared.acts.Durable.TheVariants as durable
use Rattle.seata_types.specs.declared.errors.StmtError.{StmtError}
use Rattle.seata_types.specs.declared.ids.BranchId.{BranchId}
use Rattle.seata_types.specs.declared.ids.Ticket.{Ticket}
use Rattle.seata_types.specs.declared.ids.Xid.{Xid}
use Rattle.seata_types.specs.declared.messages.Input.TheVariants as input
use Rattle.seata_types.specs.declared.messages.Message.TheVariants as message
use Rattle.seata_types.specs.declared.rows.Image.{Image}
use Rattle.seata_types.specs.declared.rows.ReadRow.{ReadRow}
use Rattle.seata_types.specs.declared.rows.Row.{Row}
use Rattle.seata_types.specs.declared.rows.RowKey.{RowKey}
use Rattle.seata_types.specs.declared.statements.Action.{Action}
use Rattle.seata_types.specs.declared.statements.Stmt.{Stmt}
use Rattle.seata_types.specs.declared.statements.Work.{Work}
use Rattle.seata_types.specs.declared.statements.Work.TheVariants as work
use Rattle.local_tables.specs.Calls.{effect}
use Rattle.local_tables.specs.Rows.{Database, opened}
use Rattle.local_tables.specs.declared.schemas.Effect.{Effect}
use Rattle.local_tables.specs.declared.schemas.Schema.{Schema}
use Rattle.durable_records.specs.declared.resources.ResourceRecord.{ResourceRecord}
use Rattle.durable_records.specs.declared.resources.ResourceRecord.TheVariants as log
use Rattle.durable_records.specs.Branches.{same_ticket}
use Rattle.durable_records.specs.Locks.{has_key}
use Rattle.durable_records.specs.UndoRecords.{boots}
use Rattle.durable_records.specs.RowsKept.{tables}
use Rattle.durable_records.specs.ResourceOrder.{image_keys, read_keys}
pub use Rattle.local_txn.specs.OpenTickets.{Owner, OfCall, OfLocal, Open, open_at, without, with_first, sent_again, counting, has_row, no_effect, opening_of}
use Rattle.history_rules.specs.Own.{Event, Given, Own, Left, asked_act, kept_records, leaves}

-- what a resource is: its number, its tables and their opening rows, how often a call tries for the global lock, the
-- actions of its TCC calls by manager and call, and its local transactions by number
pub record Setup : Type 0 where
  pub number : ℕ
  pub schema : Schema
  pub opening : List (List ℕ × Row)
  pub tries : ℕ
  pub actions : List ((ℕ × ℕ) × Action)
  pub locals : List (ℕ × List Stmt)

-- the tables of a resource at the opening, with their rows
abbrev pub opening_tables : Setup → Database
opening_tables s = opened s.number s.schema s.opening

-- the actions of call c of manager m among these
abbrev pub action_in : ℕ → ℕ → List ((ℕ × ℕ) × Action) → Option Action
action_in m c [] = None
action_in m c (((manager, call), a) ∷ rest) = if (manager == m) && (call == c) then Some a else action_in m c rest

-- the actions of a manager's call
abbrev pub action_of : Setup → ℕ → ℕ → Option Action
action_of s m c = action_in m c s.actions

-- the statements of local transaction k among these
abbrev pub local_in : ℕ → List (ℕ × List Stmt) → Option (List Stmt)
local_in k [] = None
local_in k ((number, stmts) ∷ rest) = if number == k then Some stmts else local_in k rest

-- the statements of local transaction k
abbrev pub local_of : Setup → ℕ → Option (List Stmt)
local_of s k = local_in k s.locals

-- ---- what the entries leave

-- what a resource's entries leave: its records with the one in flight; its open tickets, the one that was sent last first;
-- and how many it opened since its boot
pub record Memory : Type 0 where
  pub left : Left ResourceRecord
  pub opens : List Open
  pub opened : ℕ

-- the ticket that is opened next: the number of the boot, and of the opening since
abbrev pub next_ticket : Memory → Ticket
next_ticket m = record { boot = boots m.left.records; seq = m.opened + 1 }

-- ---- effects

-- an effect, an empty one where a statement has a fault
abbrev pub or_none : Result Effect (ℕ × StmtError) → Effect
or_none (Ok e) = e
or_none (Err fault) = no_effect

-- the effect of statements that have one
abbrev pub effect_on : Database → List Stmt → Effect
effect_on db stmts = or_none (effect db stmts)

-- the statements of a local transaction, a Confirm, a Cancel and a Try; none where there are none
abbrev pub or_empty : Option (List Stmt) → List Stmt
or_empty None = []
or_empty (Some stmts) = stmts

abbrev pub confirms_of : Option Action → List Stmt
confirms_of None = []
confirms_of (Some a) = a.confirms

abbrev pub cancels_of : Option Action → List Stmt
cancels_of None = []
cancels_of (Some a) = a.cancels

abbrev pub tries_of : Owner → List Stmt
tries_of (OfCall m x c (work.Tcc action)) = action.tries
tries_of _ = []

-- the number of a ticket's call, 0 for a local transaction
abbrev pub call_of : Owner → ℕ
call_of (OfCall m x c w) = c
call_of (OfLocal k) = 0

-- the statements of the second phase that a message asks for
abbrev pub phase_two : Setup → Event → List Stmt
phase_two s (Given (input.Message from (message.BranchCommit xid b kind manager call))) = confirms_of (action_of s manager call)
phase_two s (Given (input.Message from (message.BranchRollback xid b kind manager call))) = cancels_of (action_of s manager call)
phase_two s _ = []

-- ---- the record of a durable act, by the ticket or the message that it had

-- the record of a ticket's local commit as branch b of x, of its Try on these tables, and of local transaction n
abbrev pub committed_of : Xid → BranchId → Open → ResourceRecord
committed_of xid b o = log.Committed xid b (call_of o.owner) o.images o.reads

abbrev pub tried_of : Xid → BranchId → Database → Open → ResourceRecord
tried_of xid b db o = log.Tried xid b (call_of o.owner) (effect_on db (tries_of o.owner)).images

abbrev pub local_committed_of : ℕ → Open → ResourceRecord
local_committed_of n o = log.LocalCommitted n o.images

-- the next boot
abbrev pub boot_over : List ResourceRecord → ResourceRecord
boot_over rs = log.Boot (boots rs + 1)

-- the record of a durable act of a resource, over these records and open tickets, at the event that it answers
abbrev pub resource_record : Setup → List ResourceRecord → List Open → Event → Durable → Option ResourceRecord
resource_record s rs opens event durable.Boot = Some (boot_over rs)
resource_record s rs opens event (durable.Committed xid b t) = option_map (committed_of xid b) (open_at opens t)
resource_record s rs opens event (durable.Tried xid b t) = option_map (tried_of xid b (tables (opening_tables s) rs)) (open_at opens t)
resource_record s rs opens event (durable.Cleared xid b) = Some (log.Cleared xid b)
resource_record s rs opens event (durable.Undone xid b) = Some (log.Undone xid b)
resource_record s rs opens event (durable.Marked xid b) = Some (log.Marked xid b)
resource_record s rs opens event (durable.Confirmed xid b) =
    Some (log.Confirmed xid b (effect_on (tables (opening_tables s) rs) (phase_two s event)).images)
resource_record s rs opens event (durable.Cancelled xid b) =
    Some (log.Cancelled xid b (effect_on (tables (opening_tables s) rs) (phase_two s event)).images)
resource_record s rs opens event (durable.Suspended xid b) = Some (log.Suspended xid b)
resource_record s rs opens event (durable.LocalCommitted n t) = option_map (local_committed_of n) (open_at opens t)
resource_record s rs opens event (durable.Outside n) =
    Some (log.Outside n (effect_on (tables (opening_tables s) rs) (or_empty (local_of s n))).images)
resource_record s rs opens event _ = None

-- ---- after an entry

-- the ticket that an event opens
abbrev pub opened_for : Setup → Database → Ticket → Event → Option Open
opened_for s db t (Given (input.Message from (message.Call xid manager resource call (work.At stmts)))) =
    Some (opening_of t (OfCall manager xid.0 call (work.At stmts)) (effect_on db stmts))
opened_for s db t (Given (input.Message from (message.Call xid manager resource call (work.Tcc action)))) =
    Some (opening_of t (OfCall manager xid.0 call (work.Tcc action)) no_effect)
opened_for s db t (Given (input.Local k)) = Some (opening_of t (OfLocal k) (effect_on db (or_empty (local_of s k))))
opened_for s db t _ = None

-- the open tickets after an act: a new one and one that was sent again stand first, those that are done and all at a stop
-- are gone
abbrev pub opens_after : Setup → Database → Event → Act → List Open → List Open
opens_after s db event (act.Opened xid call t) opens = with_first (opened_for s db t event) opens
opens_after s db event (act.OpenedLocal k t) opens = with_first (opened_for s db t event) opens
opens_after s db event (act.Resent t) opens = sent_again t opens
opens_after s db event (act.Conflicted t n) opens = map (counting t n) opens
opens_after s db event (act.Dropped xid call t cause) opens = without opens t
opens_after s db event (act.DroppedLocal k t key holder) opens = without opens t
opens_after s db event (act.Durable (durable.Committed xid b t)) opens = without opens t
opens_after s db event (act.Durable (durable.Tried xid b t)) opens = without opens t
opens_after s db event (act.Durable (durable.LocalCommitted n t)) opens = without opens t
opens_after s db event (act.Down kept at) opens = []
opens_after s db event _ opens = opens

-- after an act how many tickets were opened since the boot, by how many before
abbrev pub opened_after : Act → ℕ → ℕ
opened_after (act.Opened xid call t) n = n + 1
opened_after (act.OpenedLocal k t) n = n + 1
opened_after (act.Restarted kept) n = 0
opened_after _ n = n

-- a restart that is done wrote a boot
abbrev pub booted : Act → Left ResourceRecord → Left ResourceRecord
booted (act.Restarted kept) left = record left { records = boot_over left.records ∷ left.records }
booted _ left = left

-- the record that an entry asked for, over the records with the one that it kept
abbrev pub resource_asked : Setup → Memory → Own → Option ResourceRecord
resource_asked s m o = option_and_then (resource_record s (kept_records o.step.act m.left) m.opens o.event) (asked_act o.step.act)

-- what is left after one more entry
abbrev pub memory_after : Setup → Own → Memory → Memory
memory_after s o m = record {
  left = booted o.step.act (leaves o.step.act (resource_asked s m o) m.left);
  opens = opens_after s (tables (opening_tables s) m.left.records) o.event o.step.act m.opens;
  opened = opened_after o.step.act m.opened;
}

-- what a resource's entries leave, over the records that its disks had; its first opening wrote a boot
abbrev pub memory : Setup → List ResourceRecord → List Own → Memory
memory s past [] = record { left = record { records = boot_over past ∷ past; flight = None }; opens = []; opened = 0 }
memory s past (o ∷ os) = memory_after s o (memory s past os)
