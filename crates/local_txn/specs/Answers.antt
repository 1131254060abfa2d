-- What the code's open transactions are in the words of the rules, and what its calls answer.
use Rattle.std.specs.Prelude.{◌≡◌, ℕ, zero, suc, ◌+◌, ◌-◌, ◌^◌, min, Bool, List, [], ◌∷◌, map, Option, Some, None, Result, Ok, Err}
use Rattle.seata_types.specs.declared.copies.NoMemory.{NoMemory}
use Rattle.seata_types.specs.declared.errors.StmtError.{StmtError}
use Rattle.seata_types.specs.declared.ids.Ticket.{Ticket}
use Rattle.seata_types.specs.declared.ids.Xid.{Xid}
use Rattle.seata_types.specs.declared.rows.RowKey.{RowKey}
use Rattle.seata_types.specs.declared.statements.Work.{Work}
use Rattle.local_tables.specs.declared.schemas.Effect.{Effect}
use Rattle.local_tables.specs.declared.schemas.EffectError.{EffectError}
use Rattle.local_tables.specs.declared.schemas.EffectError.TheVariants as fault
use Rattle.local_txn.specs.OpenTickets.{Owner, OfCall, OfLocal, Open, without, counting, is_for_call, is_for_local, no_effect, opening_of, busy_row}
use Rattle.local_txn.specs.declared.transactions.ExecError.{ExecError}
use Rattle.local_txn.specs.declared.transactions.ExecError.TheVariants as error
use Rattle.local_txn.specs.declared.transactions.OpenTxn.{OpenTxn}

-- ---- the code's values

-- a local transaction of no global one is a guarded one, and its call is its number
abbrev pub owner_by : (xid manager call : ℕ) → Work → Owner
owner_by zero m c w = OfLocal c
owner_by (suc x) m c w = OfCall m (suc x) c w

-- an open transaction of the code, in the words of the rules
abbrev pub open_of : OpenTxn → Open
open_of txn = record {
  ticket = txn.ticket;
  owner = owner_by txn.xid.0 txn.manager txn.call txn.work;
  images = txn.images;
  reads = txn.reads;
  conflicts = txn.conflicts;
}

-- whether a ticket was opened for call c of x, or for local transaction c where x is 0
abbrev pub is_for : (x c : ℕ) → Open → Bool
is_for zero c o = is_for_local c o.owner
is_for (suc x) c o = is_for_call (suc x) c o.owner

abbrev pub ticket_of : Open → Ticket
ticket_of o = o.ticket

-- ---- all of them

-- a resource's boot, how many tickets were opened since, and those that are open
pub record Tickets : Type 0 where
  pub boot : ℕ
  pub opened : ℕ
  pub opens : List Open

-- at a boot: none was opened
abbrev pub no_tickets : ℕ → Tickets
no_tickets boot = record { boot = boot; opened = 0; opens = [] }

-- the ticket that is opened next
abbrev pub new_ticket : Tickets → Ticket
new_ticket ts = record { boot = ts.boot; seq = ts.opened + 1 }

-- the ticket that was opened last
abbrev pub last_ticket : Tickets → Ticket
last_ticket ts = record { boot = ts.boot; seq = ts.opened }

-- one more is open
abbrev pub with_open : Tickets → Open → Tickets
with_open ts o = record { boot = ts.boot; opened = ts.opened + 1; opens = o ∷ ts.opens }

-- others are open than before
abbrev pub with_opens : Tickets → List Open → Tickets
with_opens ts opens = record { boot = ts.boot; opened = ts.opened; opens = opens }

-- the ticket that was opened last isn't counted any more, nor is it open
abbrev pub taken_back : Tickets → Ticket → Tickets
taken_back ts t = record { boot = ts.boot; opened = ts.opened - 1; opens = without ts.opens t }

-- ---- conflicts

-- the count with one conflict more; it stands still at its type's end
abbrev pub raised : Open → ℕ
raised o = min (o.conflicts + 1) (2 ^ 32 - 1)

-- at a conflict of this ticket: its count is raised, where it is open
abbrev pub counted : Option Open → Ticket → List Open → List Open
counted None t opens = opens
counted (Some o) t opens = map (counting t (raised o)) opens

-- ---- plans

-- these statements have this effect, unless an open ticket has a row of it: the least such row, and that ticket
abbrev pub unless_busy : Effect → Option (RowKey × Ticket) → Result Effect ExecError
unless_busy e (Some (key, by)) = Err (error.Busy key by)
unless_busy e None = Ok e

-- the effect of an opening, by what its statements mean: they are refused, busy, or free
abbrev pub free_effect : List Open → Result Effect (ℕ × StmtError) → Result Effect ExecError
free_effect opens (Err (index, why)) = Err (error.Stmt index why)
free_effect opens (Ok e) = unless_busy e (busy_row opens e)

-- a local transaction at its opening, for work of this effect
abbrev pub at_opening : Ticket → Xid → (call manager : ℕ) → Work → Effect → OpenTxn
at_opening t x c m w e = record { ticket = t; xid = x; call = c; manager = m; work = w; images = e.images; reads = e.reads; conflicts = 0 }

-- what an opening of work with this free effect comes to: the next local transaction
abbrev pub plan : Tickets → Xid → (call manager : ℕ) → Work → Result Effect ExecError → Result OpenTxn ExecError
plan ts x c m w (Ok e) = Ok (at_opening (new_ticket ts) x c m w e)
plan ts x c m w (Err why) = Err why

-- an opening of work with this meaning is planned, but for want of memory
abbrev pub Plans : Tickets → Xid → (call manager : ℕ) → Work → Result Effect (ℕ × StmtError) → Result OpenTxn ExecError → Type 0
Plans ts x c m w meaning (Err error.NoMemory) = Unit {0}
Plans ts x c m w meaning planned = planned ≡ plan ts x c m w (free_effect ts.opens meaning)

-- ---- openings

-- a ticket is open for statements that have an effect, of rows that no open ticket has
pub record Executed (old : Tickets) (owner : Owner) (meaning : Result Effect (ℕ × StmtError)) (t : Ticket) (new : Tickets) : Type 0 where
  pub effect : Effect
  pub means : meaning ≡ Ok effect
  pub free : busy_row old.opens effect ≡ None
  pub ticket : t ≡ new_ticket old
  pub opens : new ≡ with_open old (opening_of t owner effect)

-- statements whose meaning on the tables is this open a ticket, or tell why there is none, and then all is as before; want
-- of memory alone is free
abbrev pub Executes : Tickets → Owner → Result Effect (ℕ × StmtError) → Result Ticket ExecError → Tickets → Type 0
Executes old owner meaning (Ok t) new = Executed old owner meaning t new
Executes old owner meaning (Err error.NoMemory) new = new ≡ old
Executes old owner meaning (Err why) new = (free_effect old.opens meaning ≡ Err why) × (new ≡ old)

-- the answer where statements have no effect
abbrev pub refusal : EffectError → ExecError
refusal (fault.At index why) = error.Stmt index why
refusal fault.NoMemory = error.NoMemory

-- the answer where a row is open, unless memory was refused
abbrev pub TellsBusy : RowKey → Ticket → ExecError → Type 0
TellsBusy r t (error.Stmt index why) = ⊥
TellsBusy r t (error.Busy key by) = (key ≡ r) × (by ≡ t)
TellsBusy r t error.NoMemory = Unit {0}

-- a ticket is open that has no rows yet; without memory all is as before
abbrev pub Prepares : Tickets → Owner → Result Ticket NoMemory → Tickets → Type 0
Prepares old owner (Ok t) new = (t ≡ new_ticket old) × (new ≡ with_open old (opening_of t owner no_effect))
Prepares old owner (Err e) new = new ≡ old

-- where a ticket was opened last and nothing happened since, all is as before its opening
abbrev pub TakesBack : Tickets → Ticket → Tickets → Type 0
TakesBack old t new = (before : Tickets) (o : Open) → o.ticket ≡ t → old ≡ with_open before o → new ≡ before
