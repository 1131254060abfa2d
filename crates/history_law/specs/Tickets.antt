-- The open tickets of a resource.
use Rattle.std.specs.Prelude.{◌≡◌, ◌≤◌, ℕ, true, List, ◌++◌}
use Rattle.seata_types.specs.declared.ids.Ticket.{Ticket}
use Rattle.seata_types.specs.declared.rows.RowKey.{RowKey}
use Rattle.seata_types.specs.declared.statements.Work.{Work}
use Rattle.seata_types.specs.declared.statements.Work.TheVariants as work
use Rattle.seata_types.specs.declared.statuses.BranchKind.{BranchKind}
use Rattle.seata_types.specs.declared.statuses.BranchKind.TheVariants as kind
use Rattle.seata_types.specs.declared.statuses.BranchStatus.{BranchStatus}
use Rattle.seata_types.specs.declared.statuses.BranchStatus.TheVariants as branch
use Rattle.durable_records.specs.Locks.{has_key}
use Rattle.durable_records.specs.UndoRecords.{boots}
use Rattle.durable_records.specs.ResourceOrder.{image_keys}
use Rattle.history_rules.specs.ResourceMemory.{Owner, OfCall, OfLocal, Open, Memory, has_row}
use Rattle.history_law.specs.Points.{In}

-- a ticket was given already: it is of an earlier boot, or opened no later than the last one since this boot
pub record WasGiven (m : Memory) (t : Ticket) : Type 0 where
  pub boot : t.boot ≤ boots m.left.records
  pub seq : t.boot ≡ boots m.left.records → t.seq ≤ m.opened

-- a ticket was given, and where it is still open it has a property
pub record Names (m : Memory) (t : Ticket) (P : Open → Type 0) : Type 0 where
  pub given : WasGiven m t
  pub named : (o : Open) → In o m.opens → o.ticket ≡ t → P o

-- a ticket was given and isn't open any more
abbrev pub IsClosed : Memory → Ticket → Type 0
IsClosed m t = Names m t (λ o. ⊥)

-- open tickets were given, those of one number are one, and two of them have different rows
pub record Tickets (m : Memory) : Type 0 where
  pub given : (o : Open) → In o m.opens → WasGiven m o.ticket
  pub distinct : (o p : Open) → In o m.opens → In p m.opens → o.ticket ≡ p.ticket → o ≡ p
  pub disjoint : (o p : Open) → In o m.opens → In p m.opens → (key : RowKey) → has_row key o ≡ true → has_row key p ≡ true → o.ticket ≡ p.ticket

-- ---- what a ticket asks for

-- an AT ticket of transaction x
abbrev pub IsAtOf : ℕ → Owner → Type 0
IsAtOf x (OfCall m y c (work.At stmts)) = y ≡ x
IsAtOf x (OfCall m y c (work.Tcc action)) = ⊥
IsAtOf x (OfLocal k) = ⊥

abbrev pub kind_of : Work → BranchKind
kind_of (work.At stmts) = kind.At
kind_of (work.Tcc action) = kind.Tcc

-- these are rows of which a ticket has none besides
abbrev pub HasAll : List RowKey → Open → Type 0
HasAll keys o = (key : RowKey) → has_row key o ≡ true → has_key keys key ≡ true

-- an open ticket whose Register this is
pub record Asks (x c : ℕ) (k : BranchKind) (hold check : List RowKey) (o : Open) : Type 0 where
  pub manager : ℕ
  pub work : Work
  pub owner : o.owner ≡ OfCall manager x c work
  pub of_kind : kind_of work ≡ k
  pub touched : k ≡ kind.At → image_keys o.images ≡ hold
  pub rows : k ≡ kind.At → HasAll (hold ++ check) o

-- the statuses that answer a rollback
abbrev pub IsOfRollback : BranchStatus → Type 0
IsOfRollback branch.PhaseTwoRollbacked = Unit {0}
IsOfRollback branch.PhaseTwoRollbackFailedRetryable = Unit {0}
IsOfRollback branch.PhaseTwoRollbackFailedUnretryable = Unit {0}
IsOfRollback _ = ⊥
