-- Small scenarios whose histories are computed whole, and short words for what stands in them.
use Rattle.std.specs.Prelude.{ℕ, pos, codes, true, false, List, [], ◌∷◌, map, Some, None}
use Rattle.seata_types.specs.Condition.{Condition}
use Rattle.seata_types.specs.Condition as condition
use Rattle.seata_types.specs.declared.acts.Act.{Act}
use Rattle.seata_types.specs.declared.acts.Act.TheVariants as act
use Rattle.seata_types.specs.declared.acts.Durable.TheVariants as durable
use Rattle.seata_types.specs.declared.conditions.Op.TheVariants as op
use Rattle.seata_types.specs.declared.ids.Place.{Place}
use Rattle.seata_types.specs.declared.ids.Place.TheVariants as place
use Rattle.seata_types.specs.declared.ids.Ticket.{Ticket}
use Rattle.seata_types.specs.declared.rows.Row.{Row}
use Rattle.seata_types.specs.declared.rows.RowKey.{RowKey}
use Rattle.seata_types.specs.declared.rows.Value.{Value}
use Rattle.seata_types.specs.declared.rows.Value.TheVariants as value
use Rattle.seata_types.specs.declared.statements.Action.{Action}
use Rattle.seata_types.specs.declared.statements.Expr.{Expr}
use Rattle.seata_types.specs.declared.statements.Sign.TheVariants as sign
use Rattle.seata_types.specs.declared.statements.Stmt.{Stmt}
use Rattle.seata_types.specs.declared.statements.Stmt.TheVariants as stmt
use Rattle.seata_types.specs.declared.statements.Term.TheVariants as term
use Rattle.seata_types.specs.declared.statements.Work.{Work}
use Rattle.seata_types.specs.declared.statements.Work.TheVariants as work
use Rattle.seata_types.specs.declared.statuses.BranchKind.TheVariants as kind
use Rattle.seata_types.specs.declared.statuses.Decision.{Decision}
use Rattle.seata_types.specs.declared.statuses.Ending.{Ending}
use Rattle.seata_types.specs.declared.statuses.Ending.TheVariants as ending
use Rattle.seata_types.specs.declared.statuses.GlobalStatus.{GlobalStatus}
use Rattle.local_tables.specs.declared.schemas.ColType.TheVariants as type
use Rattle.local_tables.specs.declared.schemas.Schema.{Schema}
use Rattle.history_rules.specs.CoordinatorRules.{xid_of, branch_of}
use Rattle.history_rules.specs.ResourceMemory.{Setup}
use Rattle.history_rules.specs.ManagerRules.{Settings}
use Rattle.history_rules.specs.Nodes.{World}
use Rattle.history_rules.specs.Schedules.{Item, DeliverOf}
use Rattle.history_rules.specs.Reports.{SessionLine, ReadLine}

-- ---- nodes, numbers and statuses

-- the coordinator, a resource, a manager and a ticket, by their numbers
abbrev pub tc : Place
tc = place.Tc

abbrev pub res : ℕ → Place
res n = place.Res n

abbrev pub man : ℕ → Place
man n = place.Man n

abbrev pub ticket : ℕ → ℕ → Ticket
ticket boot seq = record { boot = boot; seq = seq }

-- deliveries of these entries, one after the other
abbrev pub delivers : List ℕ → List Item
delivers [] = []
delivers (k ∷ ks) = DeliverOf k ∷ delivers ks

-- the line of a transaction of this manager with this status, and of one that failed at branch b
abbrev pub session_line : ℕ → ℕ → GlobalStatus → SessionLine
session_line x manager st = record { xid = x; manager = manager; status = st; failed = None }

abbrev pub failed_line : ℕ → ℕ → GlobalStatus → ℕ → SessionLine
failed_line x manager st b = record { xid = x; manager = manager; status = st; failed = Some (b, 0) }

-- ---- rows and statements

-- whole numbers as a value and as a row; a key of acc; rows of acc, and of stock at resource 1, with their keys
abbrev pub whole : ℕ → Value
whole n = value.Int (pos n)

abbrev pub row : List ℕ → Row
row ns = record { 0 = map whole ns }

abbrev pub acc_key : ℕ → ℕ → RowKey
acc_key resource n = record { resource = resource; table = codes "acc"; pk = whole n ∷ [] }

abbrev pub acc_row : ℕ → ℕ → ℕ → RowKey × Row
acc_row resource n m = (acc_key resource n, row (n ∷ m ∷ []))

abbrev pub stock_row : ℕ → ℕ → ℕ → RowKey × Row
stock_row n free held = (record { resource = 1; table = codes "stock"; pk = whole n ∷ [] }, row (n ∷ free ∷ held ∷ []))

-- column = n
abbrev pub equals : List ℕ → ℕ → Condition
equals column n = condition.Cmp column op.Eq (whole n)

-- n, column + n and column - n
abbrev pub number : ℕ → Expr
number n = record { first = term.Lit (whole n); rest = [] }

abbrev pub plus : List ℕ → ℕ → Expr
plus column n = record { first = term.Column column; rest = (sign.Plus, term.Lit (whole n)) ∷ [] }

abbrev pub minus : List ℕ → ℕ → Expr
minus column n = record { first = term.Column column; rest = (sign.Minus, term.Lit (whole n)) ∷ [] }

-- UPDATE acc SET m = e WHERE asked
abbrev pub sets_acc : Expr → Condition → List Stmt
sets_acc e asked = stmt.Update (codes "acc") ((codes "m", e) ∷ []) (Some asked) ∷ []

-- UPDATE acc SET m = n WHERE id = 1
abbrev pub sets_m : ℕ → List Stmt
sets_m n = sets_acc (number n) (equals (codes "id") 1)

-- SELECT * FROM acc WHERE id = 1 FOR UPDATE
abbrev pub reads_m : List Stmt
reads_m = stmt.Select (codes "acc") (Some (equals (codes "id") 1)) ∷ []

-- ---- resources and managers

-- the table acc with a number m by id
abbrev pub acc : Schema
acc = record { tables = record { name = codes "acc"; mode = kind.At; columns = (codes "id", type.Int) ∷ (codes "m", type.Int) ∷ []; key = 0 ∷ [] } ∷ [] }

-- an opening row of acc, and resource n with such rows and these local transactions
abbrev pub acc_opening : List ℕ → List ℕ × Row
acc_opening ns = (codes "acc", row ns)

abbrev pub acc_resource : ℕ → List (List ℕ) → List (ℕ × List Stmt) → Setup
acc_resource n rows locals =
    record { number = n; schema = acc; opening = map acc_opening rows; tries = 30; actions = []; locals = locals }

-- the table stock with what is free and what is held by id
abbrev pub stock : Schema
stock = record { tables = record { name = codes "stock"; mode = kind.Tcc; columns = (codes "id", type.Int) ∷ (codes "free", type.Int) ∷ (codes "held", type.Int) ∷ []; key = 0 ∷ [] } ∷ [] }

-- UPDATE stock SET sets WHERE asked
abbrev pub sets_stock : List (List ℕ × Expr) → Condition → List Stmt
sets_stock sets asked = stmt.Update (codes "stock") sets (Some asked) ∷ []

-- three are held by the Try, where so many are free, and are gone by the Confirm or free again by the Cancel
abbrev pub holds_three : Action
holds_three = record {
  tries = sets_stock ((codes "free", minus (codes "free") 3) ∷ (codes "held", plus (codes "held") 3) ∷ [])
      (condition.And (equals (codes "id") 1) (condition.Cmp (codes "free") op.Ge (whole 3)));
  confirms = sets_stock ((codes "held", minus (codes "held") 3) ∷ []) (equals (codes "id") 1);
  cancels = sets_stock ((codes "free", plus (codes "free") 3) ∷ (codes "held", minus (codes "held") 3) ∷ []) (equals (codes "id") 1);
}

-- resource 1 with one row of stock; call 1 of manager 1 has the actions that hold three
abbrev pub stock_resource : List ℕ → Setup
stock_resource r =
    record { number = 1; schema = stock; opening = (codes "stock", row r) ∷ []; tries = 30; actions = ((1, 1), holds_three) ∷ []; locals = [] }

-- manager n with these calls, which sends all its messages and doesn't ask for the status at the end
abbrev pub manager : ℕ → Ending → List (ℕ × Work) → Settings
manager n how calls = record { number = n; timeout = 60000; tries = 30; calls = calls; ending = how; silent = None; poll = false }

-- ---- scenarios

-- these nodes, with a coordinator that asks again after 1000 ticks and never forgets
abbrev pub world : List Setup → List Settings → World
world resources managers = record { times = record { retry = 1000; forget = 0 }; resources = resources; managers = managers }

-- two resources with a row each, and a transfer of 100 from one to the other
abbrev pub transfer : World
transfer = world (acc_resource 1 ((1 ∷ 1000 ∷ []) ∷ []) [] ∷ acc_resource 2 ((1 ∷ 0 ∷ []) ∷ []) [] ∷ [])
    (manager 1 ending.Commit
    ((1, work.At (sets_acc (minus (codes "m") 100) (equals (codes "id") 1))) ∷ (2, work.At (sets_acc (plus (codes "m") 100) (equals (codes "id") 1))) ∷ []) ∷ [])

-- one row, whose m is 1000, and these managers
abbrev pub one_row : List (ℕ × List Stmt) → List Settings → World
one_row locals managers = world (acc_resource 1 ((1 ∷ 1000 ∷ []) ∷ []) locals ∷ []) managers

-- a manager that sets m
abbrev pub setter : ℕ → Ending → ℕ → Settings
setter n how m = manager n how ((1, work.At (sets_m m)) ∷ [])

-- a manager that sets m twice and then rolls back, and one that reads the row
abbrev pub twice : ℕ → ℕ → Settings
twice m n = manager 1 ending.Rollback ((1, work.At (sets_m m)) ∷ (1, work.At (sets_m n)) ∷ [])

abbrev pub reader : ℕ → Settings
reader n = manager n ending.Commit ((1, work.At reads_m) ∷ [])

-- no resource, and a manager without calls
abbrev pub no_calls : World
no_calls = world [] (manager 1 ending.Commit [] ∷ [])

-- one row of stock, and a manager that takes three
abbrev pub taking : ℕ → World
taking timeout = world (stock_resource (1 ∷ 10 ∷ 0 ∷ []) ∷ []) (record (manager 1 ending.Commit ((1, work.Tcc holds_three) ∷ [])) { timeout = timeout } ∷ [])

-- as no_calls, where the coordinator forgets after 5 ticks, and the manager asks for the status at the end
abbrev pub forgetting : World
forgetting = record (world [] (record (manager 1 ending.Commit []) { poll = true } ∷ [])) { times = record { retry = 1000; forget = 5 } }

-- two rows of a resource, one manager that adds to those whose m is 100, and one that makes the second such a row
abbrev pub two_rows : World
two_rows = world (acc_resource 1 ((1 ∷ 100 ∷ []) ∷ (2 ∷ 200 ∷ []) ∷ []) [] ∷ [])
    (manager 1 ending.Commit ((1, work.At (sets_acc (plus (codes "m") 1) (equals (codes "m") 100))) ∷ [])
    ∷ manager 2 ending.Commit ((1, work.At (sets_acc (number 100) (equals (codes "id") 2))) ∷ []) ∷ [])

-- row n of acc at resource 1, whose m this is, as branch b of x read it
abbrev pub read_of : ℕ → ℕ → ℕ → ℕ → ReadLine
read_of x b n m = record { xid = x; branch = b; key = acc_key 1 n; row = row (n ∷ m ∷ []) }

-- ---- acts, with their transactions and branches as numbers

abbrev pub begun : ℕ → Act
begun x = act.Durable (durable.Begun (xid_of x))

abbrev pub granted : ℕ → ℕ → Act
granted x b = act.Durable (durable.Granted (xid_of x) (branch_of b))

abbrev pub committed : ℕ → ℕ → Ticket → Act
committed x b t = act.Durable (durable.Committed (xid_of x) (branch_of b) t)

abbrev pub tried : ℕ → ℕ → Ticket → Act
tried x b t = act.Durable (durable.Tried (xid_of x) (branch_of b) t)

abbrev pub decides : ℕ → Decision → Act
decides x how = act.Durable (durable.Decided (xid_of x) how)

abbrev pub asked : ℕ → ℕ → Act
asked x b = act.Asked (xid_of x) (branch_of b)

abbrev pub ended : ℕ → ℕ → Act
ended x b = act.Durable (durable.Ended (xid_of x) (branch_of b))

abbrev pub cleared : ℕ → ℕ → Act
cleared x b = act.Durable (durable.Cleared (xid_of x) (branch_of b))

abbrev pub undone : ℕ → ℕ → Act
undone x b = act.Durable (durable.Undone (xid_of x) (branch_of b))

abbrev pub finished : ℕ → GlobalStatus → Act
finished x st = act.Durable (durable.Finished (xid_of x) st)
