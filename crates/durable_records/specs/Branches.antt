-- The branches of the coordinator's records.
use Rattle.std.specs.Prelude.{ℕ, ◌+◌, ◌==◌, ◌&&◌, Bool, true, false, not, if◌then◌else◌, List, [], ◌∷◌, length, filter, find, Option}
use Rattle.seata_types.specs.declared.ids.Ticket.{Ticket}
use Rattle.seata_types.specs.declared.rows.RowKey.{RowKey}
use Rattle.seata_types.specs.declared.statuses.BranchKind.{BranchKind}
use Rattle.seata_types.specs.declared.statuses.BranchKind.TheVariants as kind
use Rattle.durable_records.specs.declared.coordinators.SessionRecord.{SessionRecord}
use Rattle.durable_records.specs.declared.coordinators.SessionRecord.TheVariants as log
use Rattle.durable_records.specs.Transactions.{is_forgotten}

-- a branch as it was granted, with the rows that it holds
pub record Grant : Type 0 where
  pub xid : ℕ
  pub branch : ℕ
  pub resource : ℕ
  pub call : ℕ
  pub ticket : Ticket
  pub kind : BranchKind
  pub hold : List RowKey

-- the branches that were granted
abbrev pub grants : List SessionRecord → List Grant
grants [] = []
grants (log.Granted xid branch resource call ticket kind hold ∷ rs) =
    record { xid = xid.0; branch = branch.0; resource = resource; call = call; ticket = ticket; kind = kind; hold = hold } ∷ grants rs
grants (_ ∷ rs) = grants rs

-- the number of the next branch: they are counted from 1 over all transactions
abbrev pub next_branch : List SessionRecord → ℕ
next_branch rs = length (grants rs) + 1

-- the branches of x, the last one first
abbrev pub branches : List SessionRecord → ℕ → List Grant
branches rs x = filter (λ g. g.xid == x) (grants rs)

-- whether branch b of x is ended
abbrev pub is_ended : List SessionRecord → ℕ → ℕ → Bool
is_ended [] x b = false
is_ended (log.Ended xid branch ∷ rs) x b = if (xid.0 == x) && (branch.0 == b) then true else is_ended rs x b
is_ended (_ ∷ rs) x b = is_ended rs x b

abbrev pub is_unended : List SessionRecord → Grant → Bool
is_unended rs g = not (is_ended rs g.xid g.branch)

-- the branches of x that aren't ended, the last one first
abbrev pub unended : List SessionRecord → ℕ → List Grant
unended rs x = filter (is_unended rs) (branches rs x)

-- b is a branch of x that isn't ended
abbrev pub unended_branch : List SessionRecord → ℕ → ℕ → Option Grant
unended_branch rs x b = find (λ g. g.branch == b) (unended rs x)

abbrev pub is_at : BranchKind → Bool
is_at kind.At = true
is_at kind.Tcc = false

-- whether all of these branches are AT
abbrev pub all_at : List Grant → Bool
all_at [] = true
all_at (g ∷ gs) = is_at g.kind && all_at gs

-- ---- what was granted already

abbrev pub same_ticket : Ticket → Ticket → Bool
same_ticket t u = (t.boot == u.boot) && (t.seq == u.seq)

-- whether a branch has what a registration names: an AT branch its resource and ticket, a TCC branch its transaction,
-- resource and call
abbrev pub is_named : (xid resource call : ℕ) → Ticket → BranchKind → Grant → Bool
is_named x resource call ticket kind.At g = is_at g.kind && ((g.resource == resource) && same_ticket g.ticket ticket)
is_named x resource call ticket kind.Tcc g = not (is_at g.kind) && ((g.xid == x) && ((g.resource == resource) && (g.call == call)))

-- the branch that was granted to this, of a transaction that isn't forgotten
abbrev pub granted : List SessionRecord → (xid resource call : ℕ) → Ticket → BranchKind → Option Grant
granted rs x resource call ticket kind =
    find (λ g. not (is_forgotten rs g.xid) && is_named x resource call ticket kind g) (grants rs)
