-- The rows of an effect, for the rows of the statements' tables: images of different rows, each with the row before.
use Rattle.std.proofs.Common.{◌≡◌, inl, inr, ℕ, ◌==◌, Bool, true, false, cond, List, [], ◌∷◌, map, Some, Result, Ok, Err, refl, ap, sym, subst, ◌∙◌}
use Rattle.std.specs.List.{AllByRecursion, IsDistinct}
use Rattle.std.specs.List.Sorted.{IsStrictlySortedBy}
use Rattle.std.proofs.lemmas.List.Elements.{recursion_from_All}
use Rattle.std.proofs.lemmas.Map.Keys.{IsDistinct-from_sorted}
use Rattle.seata_types.specs.Orders.{key_cmp, same_text}
use Rattle.seata_types.specs.declared.errors.StmtError.{StmtError}
use Rattle.seata_types.specs.declared.rows.Image.{Image}
use Rattle.seata_types.specs.declared.rows.RowKey.{RowKey}
use Rattle.seata_types.specs.declared.statements.Stmt.{Stmt}
use Rattle.local_tables.specs.Calls.{effect}
use Rattle.local_tables.specs.Checks.{table_of}
use Rattle.local_tables.specs.EffectRows.{IsInTables, IsImageBy, IsEffectOf}
use Rattle.local_tables.specs.Rows.{Database, row_at, is_key, key_of, table_named}
use Rattle.local_tables.specs.declared.schemas.Effect.{Effect}
use Rattle.local_tables.specs.declared.schemas.TableDef.{TableDef}
use Rattle.local_tables.proofs.EffectRowLaws.{effects_of_tables}
use Rattle.local_tables.proofs.KeyLaws.{same_key, same_text_same}
use Rattle.durable_records.specs.RowsKept.{image_at}
use Rattle.history_rules.specs.ResourceMemory.{effect_on, or_none}
use Rattle.history_law.specs.Points.{In}
use Rattle.history_law.proofs.Tests.{none_some, and_right}

-- ---- lists

abbrev pub Each : {A : Type 0} → (A → Type 0) → List A → Type 0
Each P [] = Unit {0}
Each P (a ∷ rest) = P a × Each P rest

pub each_of : {A : Type 0} (P : A → Type 0) (xs : List A) → ((a : A) → In a xs → P a) → Each P xs
each_of P [] all = tt
each_of P (x ∷ xs) all = (all x (inl refl), each_of P xs (λ a i. all a (inr i)))

pub of_each : {A : Type 0} (P : A → Type 0) (xs : List A) → Each P xs → (a : A) → In a xs → P a
of_each P [] all a i = absurd i
of_each P (x ∷ xs) all a (inl is) = subst P (sym is) all.0
of_each P (x ∷ xs) all a (inr i) = of_each P xs all.1 a i

-- ---- the rows of the statements' tables

-- a table of this statement has only such keys
abbrev pub HasKeys : Database → (RowKey → Type 0) → Stmt → Type 0
HasKeys db P s = (def : TableDef) → table_named db.schema (table_of s) ≡ Some def → (k : RowKey) → k.table ≡ def.name → P k

-- images of different rows
abbrev pub AreDistinct : List Image → Type 0
AreDistinct images = IsDistinct is_key (map key_of images)

-- of the effect of statements whose tables have only such keys
pub record EffectIs (db : Database) (P : RowKey → Type 0) (e : Effect) : Type 0 where
  pub distinct : AreDistinct e.images
  pub changed : Each (λ (i : Image). P i.key) e.images
  pub before : (key : RowKey) (i : Image) → image_at e.images key ≡ Some i → i.before ≡ row_at db.rows key

pub none_distinct : AreDistinct []
unfolding IsStrictlySortedBy
none_distinct = IsDistinct-from_sorted key_cmp [] tt

module _ (db : Database) (P : RowKey → Type 0) where
  covered : (ss : List Stmt) (key : RowKey) → Each (HasKeys db P) ss → IsInTables db ss key → P key
  covered [] key keys i = absurd i
  covered (s ∷ ss) key keys (inl i) = keys.0 i.def i.named key (same_text_same key.table i.def.name (and_right (key.resource == db.resource) (same_text key.table i.def.name) i.lies))
  covered (s ∷ ss) key keys (inr i) = covered ss key keys.1 i

  module _ (ss : List Stmt) (keys : Each (HasKeys db P) ss) where
    changed_by : (images : List Image) → AllByRecursion (IsImageBy db ss) images → Each (λ (i : Image). P i.key) images
    changed_by [] all = tt
    changed_by (i ∷ images) all = (covered ss i.key keys all.0.lies, changed_by images all.1)

    before_by : (images : List Image) (key : RowKey) (i : Image) → AllByRecursion (IsImageBy db ss) images → image_at images key ≡ Some i → i.before ≡ row_at db.rows key
    before_by [] key i all e = none_some e
    before_by (j ∷ images) key i all e = by (is_key key j.key) refl e (before_by images key i all.1)
      where
        by : (b : Bool) → is_key key j.key ≡ b → cond b (Some j) (image_at images key) ≡ Some i → (image_at images key ≡ Some i → i.before ≡ row_at db.rows key)
            → i.before ≡ row_at db.rows key
        by true t f below =
            let same : j ≡ i = cc in
            subst (λ (q : Image). q.before ≡ row_at db.rows key) same (all.0.before ∙ ap (row_at db.rows) (sym (same_key key j.key t)))
        by false t f below = below f

    effect_by : (r : Result Effect (ℕ × StmtError)) → ((e : Effect) → r ≡ Ok e → IsEffectOf db ss e) → EffectIs db P (or_none r)
    effect_by (Ok e) of =
        let is = of e refl in
        let all = recursion_from_All (IsImageBy db ss) e.images is.images in
        record {
          distinct = IsDistinct-from_sorted key_cmp (map key_of e.images) is.rising;
          changed = changed_by e.images all;
          before = λ key i at. before_by e.images key i all at;
        }
    effect_by (Err f) of = record { distinct = none_distinct; changed = tt; before = λ key i e. none_some e }

pub effect_is : (db : Database) (P : RowKey → Type 0) (ss : List Stmt) → Each (HasKeys db P) ss → EffectIs db P (effect_on db ss)
effect_is db P ss keys = effect_by db P ss keys (effect db ss) (effects_of_tables db ss)
