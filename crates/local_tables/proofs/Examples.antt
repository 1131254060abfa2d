-- Calls computed over the definitions.
use Rattle.std.specs.Prelude.{◌≡◌, ℕ, pos, List, [], ◌∷◌, Some, None, Ok, Err, refl, codes}
use Rattle.seata_types.specs.Condition as condition
use Rattle.seata_types.specs.declared.conditions.Op.TheVariants as op
use Rattle.seata_types.specs.declared.errors.StmtError.TheVariants as errors
use Rattle.seata_types.specs.declared.rows.Row.{Row}
use Rattle.seata_types.specs.declared.rows.RowKey.{RowKey}
use Rattle.seata_types.specs.declared.rows.Value.{Value}
use Rattle.seata_types.specs.declared.rows.Value.TheVariants as value
use Rattle.seata_types.specs.declared.statements.Sign.TheVariants as sign
use Rattle.seata_types.specs.declared.statements.Stmt.TheVariants as stmt
use Rattle.seata_types.specs.declared.statements.Term.TheVariants as term
use Rattle.seata_types.specs.declared.statuses.BranchKind.TheVariants as kind
use Rattle.local_tables.specs.Calls.{effect, step}
use Rattle.local_tables.specs.Rows.{Database}
use Rattle.local_tables.specs.declared.schemas.ColType.TheVariants as type

acc : List ℕ
acc = codes "acc"

-- the table `acc` of resource 1, with columns id and m and key id, and one row (1, 5)
abbrev db : Database
db = record {
  resource = 1;
  schema = record { tables = record { name = codes "acc"; mode = kind.At; columns = (codes "id", type.Int) ∷ (codes "m", type.Int) ∷ []; key = 0 ∷ [] } ∷ [] };
  rows = (record { resource = 1; table = codes "acc"; pk = value.Int (pos 1) ∷ [] }, record { 0 = value.Int (pos 1) ∷ value.Int (pos 5) ∷ [] }) ∷ [];
}

abbrev key : ℕ → RowKey
key n = record { resource = 1; table = codes "acc"; pk = value.Int (pos n) ∷ [] }

abbrev row : ℕ → ℕ → Row
row n m = record { 0 = value.Int (pos n) ∷ value.Int (pos m) ∷ [] }

-- DELETE FROM acc; INSERT INTO acc (id, m) VALUES (1, 6)
deleted_and_inserted :
    effect db (stmt.Delete (codes "acc") None ∷ stmt.Insert (codes "acc") (codes "id" ∷ codes "m" ∷ []) ((value.Int (pos 1) ∷ value.Int (pos 6) ∷ []) ∷ []) ∷ [])
    ≡ Ok (record { images = record { key = key 1; before = Some (row 1 5); after = Some (row 1 6) } ∷ []; reads = []; touched = 1 ∷ 1 ∷ [] })
unfolding effect step
deleted_and_inserted = refl

-- the literal n
abbrev lit : ℕ → Value
lit n = value.Int (pos n)

abbrev m_plus : ℕ → List (List ℕ × Rattle.seata_types.specs.declared.statements.Expr.Expr)
m_plus n = (codes "m", record { first = term.Column (codes "m"); rest = (sign.Plus, term.Lit (lit n)) ∷ [] }) ∷ []

-- UPDATE acc SET m = m + 2; SELECT * FROM acc WHERE id = 1 FOR UPDATE; UPDATE acc SET m = m + 3 WHERE m = 7
read_between :
    effect db (stmt.Update acc (m_plus 2) None ∷ stmt.Select acc (Some (condition.Cmp (codes "id") op.Eq (lit 1))) ∷
    stmt.Update acc (m_plus 3) (Some (condition.Cmp (codes "m") op.Eq (lit 7))) ∷ [])
    ≡ Ok (record { images = record { key = key 1; before = Some (row 1 5); after = Some (row 1 10) } ∷ []; reads = record { key = key 1; row = row 1 7 } ∷ []; touched = 1 ∷ 0 ∷ 1 ∷ [] })
unfolding effect step acc
read_between = refl

-- INSERT INTO acc (m, id) VALUES (1, 7), (1, 1), (1, 7)
first_duplicate :
    effect db (stmt.Insert acc (codes "m" ∷ codes "id" ∷ []) ((lit 1 ∷ lit 7 ∷ []) ∷ (lit 1 ∷ lit 1 ∷ []) ∷ (lit 1 ∷ lit 7 ∷ []) ∷ []) ∷ [])
    ≡ Err (1, errors.Duplicate (key 7))
unfolding effect step acc
first_duplicate = refl

-- UPDATE acc SET m = m + 9223372036854775807, then with m set twice, the key set, a text, and no such column
overflow : effect db (stmt.Update acc (m_plus 9223372036854775807) None ∷ []) ≡ Err (1, errors.Overflow (key 1))
unfolding effect step acc
overflow = refl

set_twice : effect db (stmt.Delete acc (Some (condition.Cmp (codes "id") op.Ne (lit 1))) ∷ stmt.Update acc ((codes "id", record { first = term.Lit (lit 1); rest = [] }) ∷ (codes "id", record { first = term.Lit (lit 1); rest = [] }) ∷ []) None ∷ [])
    ≡ Err (2, errors.Columns)
unfolding effect step acc
set_twice = refl
