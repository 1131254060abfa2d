-- The row that a refusal names is the least one: of a call or local transaction that is busy, and of a rollback that is blocked or dirty.
use Rattle.std.specs.Prelude.{◌≡◌, ℕ, false, true, List, ◌++◌, Some, Ok}
use Rattle.std.specs.declared.cmp.Ordering.TheVariants.{Less}
use Rattle.seata_types.specs.Orders.{key_cmp}
use Rattle.seata_types.specs.declared.ids.Ticket.{Ticket}
use Rattle.seata_types.specs.declared.rows.Image.{Image}
use Rattle.seata_types.specs.declared.rows.RowKey.{RowKey}
use Rattle.seata_types.specs.declared.statements.Stmt.{Stmt}
use Rattle.local_tables.specs.Calls.{effect}
use Rattle.local_tables.specs.Rows.{Database, row_at}
use Rattle.local_tables.specs.declared.schemas.Effect.{Effect}
use Rattle.durable_records.specs.UndoRecords.{Undo, undos}
use Rattle.durable_records.specs.ResourceOrder.{image_keys, read_keys}
use Rattle.durable_records.specs.RowsKept.{tables}
use Rattle.history_rules.specs.ResourceMemory.{Setup, Open, Memory, opening_tables, has_row}
use Rattle.history_rules.specs.ResourceRules.{busy_in, busy_row, same_row, dirty_image}
use Rattle.history_rules.specs.Nodes.{World, Past, counted_at}
use Rattle.history_rules.specs.Histories.{Moment, Legal}
use Rattle.history_rules.specs.Chains.{IsChain, IsBlankPast}
use Rattle.history_law.specs.Points.{In, AtEachPoint, InEachHistory}
use Rattle.history_law.specs.Cover.{memory_of}
use Rattle.history_law.specs.TicketSafety.{AreNumbered}

-- ---- busy rows

-- the open ticket of this number has the row
pub record HasIt (opens : List Open) (t : Ticket) (key : RowKey) : Type 0 where
  pub open_ticket : Open
  pub there : In open_ticket opens
  pub number : open_ticket.ticket ≡ t
  pub has : has_row key open_ticket ≡ true

-- of these rows it is the least one that an open ticket has, and this is that ticket
pub record IsLeastBusy (opens : List Open) (keys : List RowKey) (key : RowKey) (t : Ticket) : Type 0 where
  pub there : In key keys
  pub busy : HasIt opens t key
  pub least : (other : RowKey) (u : Ticket) → In other keys → HasIt opens u other → key_cmp other key ≡ Less → ⊥

-- a call or local transaction that is busy names the least row of its effect that an open ticket has, whatever is open
abbrev pub BusyLaw : Type 0
BusyLaw = (db : Database) (stmts : List Stmt) (e : Effect) → effect db stmts ≡ Ok e → (opens : List Open) (key : RowKey) (t : Ticket) → busy_row opens e ≡ Some (key, t)
    → IsLeastBusy opens (image_keys e.images ++ read_keys e.reads) key t

-- ---- the rows of a rollback

-- of these images it is the least one whose row isn't its after
pub record IsLeastDirty (db : Database) (images : List Image) (image : Image) : Type 0 where
  pub there : In image images
  pub dirty : same_row (row_at db.rows image.key) image.after ≡ false
  pub least : (other : Image) → In other images → same_row (row_at db.rows other.key) other.after ≡ false → key_cmp other.key image.key ≡ Less → ⊥

-- a rollback of an undo record that is blocked names its least row that an open ticket has, one that is dirty its least row that isn't as
-- the branch left it
pub record NamesLeastRows (s : Setup) (m : Memory) : Type 0 where
  pub blocked : (u : Undo) → In u (undos m.left.records) → (key : RowKey) (t : Ticket) → busy_in m.opens (image_keys u.images) ≡ Some (key, t) → IsLeastBusy m.opens (image_keys u.images) key t
  pub dirty : (u : Undo) → In u (undos m.left.records) → (image : Image) → dirty_image (tables (opening_tables s) m.left.records) u.images ≡ Some image
      → IsLeastDirty (tables (opening_tables s) m.left.records) u.images image

-- of each resource, at each point of a history
abbrev pub RollbacksNameLeast : World → Past → List Moment → Type 0
RollbacksNameLeast w past ms = AtEachPoint (λ before. (n : ℕ) (s : Setup) → counted_at w.resources n ≡ Some s → NamesLeastRows s (memory_of past before n s)) ms

-- in a legal history over disks without records
abbrev pub RollbackRowsLaw : Type 0
RollbackRowsLaw = (w : World) (past : Past) (ms : List Moment) → IsBlankPast past → Legal w past ms → RollbacksNameLeast w past ms

-- and in every chain
abbrev pub RollbackRowsOfChains : Type 0
RollbackRowsOfChains = (w : World) (histories : List (Past × List Moment)) → AreNumbered w → IsChain w histories → InEachHistory (RollbacksNameLeast w) histories
