-- That effects and their records have places.
use Rattle.std.specs.Prelude.{◌≡◌, ℕ, ◌<◌, ◌≤◌, ◌^◌, List, length, Ok, Err}
use Rattle.std.specs.List.{AllByRecursion}
use Rattle.seata_types.specs.declared.errors.StmtError.{StmtError}
use Rattle.seata_types.specs.declared.ids.Leg.{Leg}
use Rattle.seata_types.specs.declared.statements.Stmt.{Stmt}
use Rattle.byte_fields.specs.Parts.{FitsLeg}
use Rattle.local_tables.specs.Calls.{effect}
use Rattle.local_tables.specs.Rows.{Database}
use Rattle.local_tables.specs.declared.schemas.Effect.{Effect}
use Rattle.durable_records.specs.declared.resources.ResourceRecord.TheVariants as log
use Rattle.durable_records.specs.ResourceOrder.{image_keys, read_keys}
use Rattle.record_places.specs.Within.{AreKeysOf, AreTablesWithin, HasPlace, IsEffectWithin, IsFaultOf, IsStmtWithin}

-- an effect of statements, on tables whose values have places
abbrev pub EffectsHavePlaces : Type 0
EffectsHavePlaces = (db : Database) (stmts : List Stmt) (e : Effect) → AreTablesWithin db → AllByRecursion IsStmtWithin stmts → effect db stmts ≡ Ok e → IsEffectWithin e

-- the keys of an effect of statements, on tables whose values have places
pub record HasKeysOf (resource : ℕ) (e : Effect) : Type 0 where
  pub touched : AreKeysOf resource (image_keys e.images)
  pub read : AreKeysOf resource (read_keys e.reads)

-- the keys of such an effect are of the tables' resource and have places
abbrev pub EffectsHaveKeys : Type 0
EffectsHaveKeys = (db : Database) (stmts : List Stmt) (e : Effect) → AreTablesWithin db → AllByRecursion IsStmtWithin stmts → effect db stmts ≡ Ok e → HasKeysOf db.resource e

-- the first statement without a meaning is one of these, counted from 1, and where its fault is at a key, this has a place
pub record IsFaultAmong (resource : ℕ) (stmts : List Stmt) (index : ℕ) (fault : StmtError) : Type 0 where
  pub counted : 1 ≤ index
  pub among : index ≤ length stmts
  pub place : IsFaultOf resource fault

-- so is the fault of statements on tables whose values have places
abbrev pub FaultsHavePlaces : Type 0
FaultsHavePlaces = (db : Database) (stmts : List Stmt) (index : ℕ) (fault : StmtError) → AreTablesWithin db → AllByRecursion IsStmtWithin stmts → effect db stmts ≡ Err (index, fault)
    → IsFaultAmong db.resource stmts index fault

-- each record that an effect may go into
pub record HaveRecordsPlaces (e : Effect) : Type 0 where
  pub committed : (leg : Leg) (call : ℕ) → FitsLeg leg → call < 2 ^ 16 → HasPlace (log.Committed leg.xid leg.branch call e.images e.reads)
  pub tried : (leg : Leg) (call : ℕ) → FitsLeg leg → call < 2 ^ 16 → HasPlace (log.Tried leg.xid leg.branch call e.images)
  pub confirmed : (leg : Leg) → FitsLeg leg → HasPlace (log.Confirmed leg.xid leg.branch e.images)
  pub cancelled : (leg : Leg) → FitsLeg leg → HasPlace (log.Cancelled leg.xid leg.branch e.images)
  pub local : (number : ℕ) → number < 2 ^ 16 → HasPlace (log.LocalCommitted number e.images)
  pub outside : (number : ℕ) → number < 2 ^ 16 → HasPlace (log.Outside number e.images)

-- of an effect within the limits each such record has a place
abbrev pub RecordsHavePlaces : Type 0
RecordsHavePlaces = (e : Effect) → IsEffectWithin e → HaveRecordsPlaces e
