-- Seata's global lock: which transaction holds a row.
use Rattle.std.specs.Prelude.{ℕ, ◌==◌, ◌&&◌, ◌||◌, Bool, false, not, List, [], ◌∷◌, filter, find, Option, Some, None, is_some}
use Rattle.std.specs.BTreeMap.{insert_entry}
use Rattle.seata_types.specs.Orders.{key_cmp}
use Rattle.seata_types.specs.declared.rows.RowKey.{RowKey}
use Rattle.local_tables.specs.Rows.{is_key}
use Rattle.durable_records.specs.declared.coordinators.SessionRecord.{SessionRecord}
use Rattle.durable_records.specs.Transactions.{decided, is_commit}
use Rattle.durable_records.specs.Branches.{Grant, grants, is_ended}

-- whether a row is one of these
abbrev pub has_key : List RowKey → RowKey → Bool
has_key [] r = false
has_key (k ∷ ks) r = is_key k r || has_key ks r

-- a branch holds its rows until it is ended or its transaction is decided commit
abbrev pub is_holding : List SessionRecord → Grant → Bool
is_holding rs g = not (is_ended rs g.xid g.branch) && not (is_commit (decided rs g.xid))

abbrev pub holds_row : List SessionRecord → RowKey → Grant → Bool
holds_row rs r g = has_key g.hold r && is_holding rs g

-- the branches that hold a row
abbrev pub holding : List SessionRecord → RowKey → List Grant
holding rs r = filter (holds_row rs r) (grants rs)

-- whether x holds a row
abbrev pub holds : List SessionRecord → ℕ → RowKey → Bool
holds rs x r = is_some (find (λ g. g.xid == x) (holding rs r))

-- a branch of another transaction than x that holds a row
abbrev pub other_holder : List SessionRecord → ℕ → RowKey → Option Grant
other_holder rs x r = find (λ g. not (g.xid == x)) (holding rs r)

-- this row with its holder, if it has one, and else what was found among the rest
abbrev pub with_holder : RowKey → Option Grant → Option (RowKey × Grant) → Option (RowKey × Grant)
with_holder k None rest = rest
with_holder k (Some g) rest = Some (k, g)

-- the first of these rows that another transaction than x holds, with a branch that holds it
abbrev pub first_held : List SessionRecord → ℕ → List RowKey → Option (RowKey × Grant)
first_held rs x [] = None
first_held rs x (k ∷ ks) = with_holder k (other_holder rs x k) (first_held rs x ks)

-- ---- all locks

-- these rows with x as their holder, put over the locks
abbrev pub locks_on : ℕ → List RowKey → List (RowKey × ℕ) → List (RowKey × ℕ)
locks_on x [] locks = locks
locks_on x (k ∷ ks) locks = insert_entry key_cmp (locks_on x ks locks) k x

-- the rows of these branches, with their transactions as holders
abbrev pub locks_of : List Grant → List (RowKey × ℕ)
locks_of [] = []
locks_of (g ∷ gs) = locks_on g.xid g.hold (locks_of gs)

-- each row that is held and its holder, in the order of rows
abbrev pub locks : List SessionRecord → List (RowKey × ℕ)
locks rs = locks_of (filter (is_holding rs) (grants rs))
