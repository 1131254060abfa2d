-- Tables and statements whose values have places in the records of a resource.
use Rattle.std.specs.Prelude.{◌≡◌, ℕ, ◌<◌, ◌≤◌, ◌+◌, ◌^◌, List, length}
use Rattle.std.specs.List.{AllByRecursion}
use Rattle.seata_types.specs.declared.errors.StmtError.{StmtError}
use Rattle.seata_types.specs.declared.errors.StmtError.TheVariants as errors
use Rattle.seata_types.specs.declared.limits.TheConstants.{BODY_BYTES, COLUMNS, KEY_PARTS, NAME_BYTES}
use Rattle.seata_types.specs.declared.rows.Row.{Row}
use Rattle.seata_types.specs.declared.rows.RowKey.{RowKey}
use Rattle.seata_types.specs.declared.statements.Expr.{Expr}
use Rattle.seata_types.specs.declared.statements.Stmt.{Stmt}
use Rattle.seata_types.specs.declared.statements.Stmt.TheVariants as stmt
use Rattle.seata_types.specs.declared.statements.Term.{Term}
use Rattle.seata_types.specs.declared.statements.Term.TheVariants as term
use Rattle.byte_fields.specs.Layout.{FitsImages, FitsKey, FitsReads, FitsText, FitsValue, images_bytes, reads_bytes}
use Rattle.local_tables.specs.Rows.{AreRows, Database}
use Rattle.local_tables.specs.declared.schemas.Effect.{Effect}
use Rattle.local_tables.specs.declared.schemas.TableDef.{TableDef}
use Rattle.durable_records.specs.declared.resources.ResourceRecord.{ResourceRecord}
use Rattle.resource_log.specs.Records.{FitsRecord, record_bytes}

-- ---- tables

-- a table with no longer a name, no more columns and no more key columns than a scenario's may have
pub record IsTableWithin (def : TableDef) : Type 0 where
  pub name : FitsText def.name
  pub short : length def.name ≤ NAME_BYTES
  pub columns : length def.columns ≤ COLUMNS
  pub keyed : 1 ≤ length def.key
  pub parts : length def.key ≤ KEY_PARTS

-- each value of a row has a place
abbrev pub HasValues : RowKey × Row → Type 0
HasValues e = AllByRecursion FitsValue e.1.0

-- tables whose rows fit them, with values that have places
pub record AreTablesWithin (db : Database) : Type 0 where
  pub resource : db.resource < 2 ^ 16
  pub tables : AllByRecursion IsTableWithin db.schema.tables
  pub rows : AreRows db
  pub values : AllByRecursion HasValues db.rows

-- ---- statements

-- the literals of a term, and of what a column is set to, have places
abbrev pub IsTermWithin : Term → Type 0
IsTermWithin (term.Lit literal) = FitsValue literal
IsTermWithin (term.Column name) = Unit {0}

abbrev pub IsSetWithin : List ℕ × Expr → Type 0
IsSetWithin s = IsTermWithin s.1.first × AllByRecursion (λ t. IsTermWithin t.1) s.1.rest

-- each value that a statement writes has a place
abbrev pub IsStmtWithin : Stmt → Type 0
IsStmtWithin (stmt.Insert table columns tuples) = AllByRecursion (AllByRecursion FitsValue) tuples
IsStmtWithin (stmt.Update table sets asked) = AllByRecursion IsSetWithin sets
IsStmtWithin (stmt.Delete table asked) = Unit {0}
IsStmtWithin (stmt.Select table asked) = Unit {0}

-- ---- effects

-- images and reads that have places, and leave room for the other fields of a record, which have fewer than 64 bytes
pub record IsEffectWithin (e : Effect) : Type 0 where
  pub images : FitsImages e.images
  pub reads : FitsReads e.reads
  pub room : length (images_bytes e.images) + length (reads_bytes e.reads) + 64 ≤ BODY_BYTES

-- ---- records

-- a record has a place in a journal
pub record HasPlace (r : ResourceRecord) : Type 0 where
  pub fits : FitsRecord r
  pub small : length (record_bytes r) ≤ BODY_BYTES

-- ---- keys

-- a key of this resource that has a place, with no longer a table's name than it may have
pub record IsKeyOf (resource : ℕ) (key : RowKey) : Type 0 where
  pub fits : FitsKey key
  pub of : key.resource ≡ resource
  pub short : length key.table ≤ NAME_BYTES

-- all these keys are such
abbrev pub AreKeysOf : ℕ → List RowKey → Type 0
AreKeysOf resource keys = AllByRecursion (IsKeyOf resource) keys

-- why a statement has no meaning: at no key, or at one that has a place
abbrev pub IsFaultOf : ℕ → StmtError → Type 0
IsFaultOf resource (errors.Overflow key) = IsKeyOf resource key
IsFaultOf resource (errors.Duplicate key) = IsKeyOf resource key
IsFaultOf resource _ = Unit {0}
