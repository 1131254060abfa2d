-- The local transactions that a resource has open, each under its ticket. Lists of them stand in the order of their last
-- sending, the one that was sent last first.
use Rattle.std.specs.Prelude.{◌≡◌, ℕ, ◌==◌, ◌&&◌, ◌||◌, not, Bool, false, if◌then◌else◌, List, [], ◌∷◌, filter, find, Option, Some, None}
use Rattle.std.specs.Ordering.{is_lt}
use Rattle.seata_types.specs.Orders.{key_cmp}
use Rattle.seata_types.specs.declared.ids.Ticket.{Ticket}
use Rattle.seata_types.specs.declared.rows.Image.{Image}
use Rattle.seata_types.specs.declared.rows.ReadRow.{ReadRow}
use Rattle.seata_types.specs.declared.rows.RowKey.{RowKey}
use Rattle.seata_types.specs.declared.statements.Work.{Work}
use Rattle.local_tables.specs.declared.schemas.Effect.{Effect}
use Rattle.durable_records.specs.Branches.{same_ticket}
use Rattle.durable_records.specs.Locks.{has_key}
use Rattle.durable_records.specs.ResourceOrder.{image_keys, read_keys}

-- ---- open tickets

-- what a ticket was opened for
pub data Owner : Type 0 where
  OfCall : (manager xid call : ℕ) → Work → Owner
  OfLocal : (number : ℕ) → Owner

-- a local transaction that is open: its ticket, its effect on the tables at its opening (none of a TCC call), and how
-- often it met a conflict
pub record Open : Type 0 where
  pub ticket : Ticket
  pub owner : Owner
  pub images : List Image
  pub reads : List ReadRow
  pub conflicts : ℕ

-- the effect of no statements, as a TCC call has it at its opening
abbrev pub no_effect : Effect
no_effect = record { images = []; reads = []; touched = [] }

-- a ticket at its opening
abbrev pub opening_of : Ticket → Owner → Effect → Open
opening_of t owner e = record { ticket = t; owner = owner; images = e.images; reads = e.reads; conflicts = 0 }

-- the open one with this ticket
abbrev pub open_at : List Open → Ticket → Option Open
open_at opens t = find (λ o. same_ticket o.ticket t) opens

-- each ticket is open once
abbrev pub AreDistinct : List Open → Type 0
AreDistinct [] = Unit {0}
AreDistinct (o ∷ os) = AreDistinct os × (open_at os o.ticket ≡ None)

-- all but the one with this ticket; and with one in front, if there is one
abbrev pub without : List Open → Ticket → List Open
without opens t = filter (λ o. not (same_ticket o.ticket t)) opens

abbrev pub with_first : Option Open → List Open → List Open
with_first None rest = rest
with_first (Some o) rest = o ∷ rest

-- a ticket was sent again: it stands first
abbrev pub sent_again : Ticket → List Open → List Open
sent_again t opens = with_first (open_at opens t) (without opens t)

-- the one with this ticket has met so many conflicts
abbrev pub counting : Ticket → ℕ → Open → Open
counting t n o = if same_ticket o.ticket t then record o { conflicts = n } else o

-- the last of a list: of tickets in the order of their sending the one that was sent longest ago
abbrev pub last_of : {A : Type 0} → List A → Option A
last_of [] = None
last_of (x ∷ []) = Some x
last_of (x ∷ y ∷ ys) = last_of (y ∷ ys)

-- ---- whose they are

-- whether it is of call c of x, and whether it is of local transaction k
abbrev pub is_for_call : ℕ → ℕ → Owner → Bool
is_for_call x c (OfCall m y d w) = (y == x) && (d == c)
is_for_call x c (OfLocal k) = false

abbrev pub is_for_local : ℕ → Owner → Bool
is_for_local k (OfLocal j) = j == k
is_for_local k (OfCall m y d w) = false

-- ---- rows

-- whether an open ticket has a row: it touched or read it
abbrev pub has_row : RowKey → Open → Bool
has_row r o = has_key (image_keys o.images) r || has_key (read_keys o.reads) r

-- the open ticket that has a row
abbrev pub ticket_with : List Open → RowKey → Option Open
ticket_with opens r = find (has_row r) opens

-- this row with the ticket that has it, or else what was found among the rows behind it
abbrev pub with_ticket : RowKey → Option Open → Option (RowKey × Ticket) → Option (RowKey × Ticket)
with_ticket k None rest = rest
with_ticket k (Some o) rest = Some (k, o.ticket)

-- the first of these rows that an open ticket has, and that ticket
abbrev pub busy_in : List Open → List RowKey → Option (RowKey × Ticket)
busy_in opens [] = None
busy_in opens (k ∷ ks) = with_ticket k (ticket_with opens k) (busy_in opens ks)

-- of two rows, each with its ticket, the lesser one
abbrev pub lesser_row : Option (RowKey × Ticket) → Option (RowKey × Ticket) → Option (RowKey × Ticket)
lesser_row None q = q
lesser_row (Some p) None = Some p
lesser_row (Some p) (Some q) = if is_lt (key_cmp q.0 p.0) then Some q else Some p

-- the least row of an effect that an open ticket has, and that ticket; images and reads stand in rising order
abbrev pub busy_row : List Open → Effect → Option (RowKey × Ticket)
busy_row opens e = lesser_row (busy_in opens (image_keys e.images)) (busy_in opens (read_keys e.reads))
