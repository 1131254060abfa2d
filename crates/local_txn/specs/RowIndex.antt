-- For the proofs alone: the index of rows, and what holds of all open tickets.
use Rattle.std.specs.Prelude.{◌≡◌, ℕ, ◌≤◌, ◌+◌, ◌-◌, ◌^◌, min, slice_get, slice_set, ◌||◌, Bool, true, if◌then◌else◌, List, [], ◌∷◌, Option, Some, None, option_map}
use Rattle.std.specs.Map.{lookup}
use Rattle.seata_types.specs.declared.ids.Ticket.{Ticket}
use Rattle.seata_types.specs.declared.rows.Image.{Image}
use Rattle.seata_types.specs.declared.rows.ReadRow.{ReadRow}
use Rattle.seata_types.specs.declared.rows.RowKey.{RowKey}
use Rattle.local_tables.specs.Rows.{is_key}
use Rattle.durable_records.specs.Branches.{same_ticket}
use Rattle.durable_records.specs.Locks.{has_key}
use Rattle.durable_records.specs.ResourceOrder.{image_keys, read_keys}
use Rattle.local_txn.specs.OpenTickets.{Open, open_at, has_row, ticket_with}
use Rattle.local_txn.specs.Answers.{ticket_of}
use Rattle.local_txn.specs.declared.transactions.OpenTxn.{OpenTxn}

-- rows, each with the ticket that has it
abbrev pub Index : Type 0
Index = List (RowKey × Ticket)

-- the ticket that has a row
abbrev pub at : Index → RowKey → Option Ticket
at rows r = lookup (is_key r) rows

-- this row with the ticket that has it, or else what was found among the rows behind it
abbrev pub first_with : RowKey → Option Ticket → Option (RowKey × Ticket) → Option (RowKey × Ticket)
first_with k None rest = rest
first_with k (Some t) rest = Some (k, t)

-- whether images or reads have a row
abbrev pub has_either : List Image → List ReadRow → RowKey → Bool
has_either images reads r = has_key (image_keys images) r || has_key (read_keys reads) r

-- the first of these rows that stands in the index
abbrev pub first_at : Index → List RowKey → Option (RowKey × Ticket)
first_at rows [] = None
first_at rows (k ∷ ks) = first_with k (at rows k) (first_at rows ks)

-- the index has of each row the open ticket that has it
abbrev pub IsIndex : Index → List Open → Type 0
IsIndex rows opens = (r : RowKey) → at rows r ≡ option_map ticket_of (ticket_with opens r)

-- an open ticket is one of this boot that was counted
pub record IsCounted (boot opened : ℕ) (o : Open) : Type 0 where
  pub of_boot : o.ticket.boot ≡ boot
  pub least : 1 ≤ o.ticket.seq
  pub within : o.ticket.seq ≤ opened

-- a ticket is counted, and none of these has its number or a row of it
pub record IsApart (boot opened : ℕ) (o : Open) (os : List Open) : Type 0 where
  pub counted : IsCounted boot opened o
  pub once : open_at os o.ticket ≡ None
  pub alone : (r : RowKey) → has_row r o ≡ true → ticket_with os r ≡ None

-- open tickets are counted, each is open once, and no two have a row in common
abbrev pub AreApart : (boot opened : ℕ) → List Open → Type 0
AreApart boot opened [] = Unit {0}
AreApart boot opened (o ∷ os) = AreApart boot opened os × IsApart boot opened o os

-- the index and the open tickets of a boot
pub record KeepsRows (boot opened : ℕ) (opens : List Open) (rows : Index) : Type 0 where
  pub apart : AreApart boot opened opens
  pub index : IsIndex rows opens

-- ---- places

-- where a ticket stands among these, counted from n
abbrev pub place_from : ℕ → Ticket → List OpenTxn → Option ℕ
place_from n t [] = None
place_from n t (x ∷ xs) = if same_ticket x.ticket t then Some n else place_from (n + 1) t xs

-- a local transaction with another count of conflicts
abbrev pub with_count : OpenTxn → ℕ → OpenTxn
with_count x n = record x { conflicts = n }

-- the one at a place has one conflict more
pub record Raises (old : List OpenTxn) (at n : ℕ) (new : List OpenTxn) : Type 0 where
  pub it : OpenTxn
  pub there : slice_get old at ≡ Some it
  pub count : n ≡ min (it.conflicts + 1) (2 ^ 32 - 1)
  pub left : new ≡ slice_set old at (with_count it n)

-- without the first of this ticket
abbrev pub without_first : Ticket → List Open → List Open
without_first t [] = []
without_first t (o ∷ os) = if same_ticket o.ticket t then os else o ∷ without_first t os
