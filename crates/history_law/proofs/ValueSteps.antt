-- The values of a resource's rows over one of its entries, where the statements' tables are of their modes.
use Rattle.std.proofs.Common.{◌≡◌, ◌⊎◌, inl, inr, ◌<◌, ◌==◌, ◌&&◌, ◌||◌, not, ℕ, Bool, true, false, cond, List, [], ◌∷◌, ◌++◌, map, filter, Option, Some, None, option_map, refl, ap, sym, subst, ◌∙◌, arith}
use Rattle.std.specs.List.{AllByRecursion}
use Rattle.std.specs.Cmp.Lexicographic.{pointwise}
use Rattle.std.specs.Ordering.{is_eq}
use Rattle.std.proofs.lemmas.Map.Keys.{IsDistinct-head, IsDistinct-tail}
use Rattle.std.proofs.lemmas.Cmp.{tied_itself}
use Rattle.seata_types.specs.ValueOrder.{value_cmp_total}
use Rattle.seata_types.specs.declared.acts.Act.{Act}
use Rattle.seata_types.specs.declared.acts.Act.TheVariants as act
use Rattle.seata_types.specs.declared.ids.BranchId.{BranchId}
use Rattle.seata_types.specs.declared.ids.Place.{Place}
use Rattle.seata_types.specs.declared.ids.Place.TheVariants as place
use Rattle.seata_types.specs.declared.ids.Ticket.{Ticket}
use Rattle.seata_types.specs.declared.ids.Xid.{Xid}
use Rattle.seata_types.specs.declared.messages.Input.TheVariants as input
use Rattle.seata_types.specs.declared.messages.Message.TheVariants as message
use Rattle.seata_types.specs.declared.rows.Image.{Image}
use Rattle.seata_types.specs.declared.rows.ReadRow.{ReadRow}
use Rattle.seata_types.specs.declared.rows.Row.{Row}
use Rattle.seata_types.specs.declared.rows.RowKey.{RowKey}
use Rattle.seata_types.specs.declared.rows.Value.{Value}
use Rattle.seata_types.specs.declared.statements.Action.{Action}
use Rattle.seata_types.specs.declared.statements.Stmt.{Stmt}
use Rattle.seata_types.specs.declared.statements.Work.{Work}
use Rattle.seata_types.specs.declared.statements.Work.TheVariants as work
use Rattle.seata_types.specs.declared.statuses.BranchKind.{BranchKind}
use Rattle.seata_types.specs.declared.statuses.BranchKind.TheVariants as kind
use Rattle.local_tables.specs.Checks.{table_of}
use Rattle.local_tables.specs.Lookups.{over}
use Rattle.local_tables.specs.Rows.{Database, IsMap, is_key, is_named, key_of, row_at, side, applied, table_named}
use Rattle.local_tables.specs.declared.schemas.TableDef.{TableDef}
use Rattle.local_tables.specs.declared.schemas.Way.{Way}
use Rattle.local_tables.specs.declared.schemas.Way.TheVariants as way
use Rattle.local_tables.proofs.KeyLaws.{same_key, same_text_same}
use Rattle.local_tables.proofs.MapLaws.{is_key_itself}
use Rattle.local_tables.proofs.PutLaws.{map_put_all}
use Rattle.durable_records.specs.declared.coordinators.SessionRecord.{SessionRecord}
use Rattle.durable_records.specs.declared.resources.ResourceRecord.{ResourceRecord}
use Rattle.durable_records.specs.declared.resources.ResourceRecord.TheVariants as log
use Rattle.durable_records.specs.Transactions.{decided, is_commit}
use Rattle.durable_records.specs.Branches.{is_ended}
use Rattle.durable_records.specs.Locks.{has_key, is_holding}
use Rattle.durable_records.specs.UndoRecords.{Undo, undos, undo_of, is_leg, is_other_leg}
use Rattle.durable_records.specs.ResourceOrder.{image_keys, read_keys}
use Rattle.durable_records.specs.RowsKept.{Change, ByBranch, ByLocal, ByOutside, images_of, tables, now_value, image_at, is_by_other, changes, value_of}
use Rattle.history_rules.specs.Own.{Event, Given, added}
use Rattle.history_rules.specs.CoordinatorRules.{xid_of, branch_of}
use Rattle.history_rules.specs.ResourceMemory.{Setup, Owner, OfCall, OfLocal, Open, Memory, opening_tables, action_of, local_of, next_ticket, effect_on, or_empty, call_of, confirms_of, cancels_of, phase_two, boot_over, opened_for, has_row}
use Rattle.history_rules.specs.ResourceRules.{same_row, same_value}
use Rattle.history_rules.specs.Nodes.{World, Past, counted_at}
use Rattle.history_rules.specs.Histories.{Moment, coordinator_left}
use Rattle.history_law.specs.Points.{In}
use Rattle.history_law.specs.Tickets.{Names, IsAtOf}
use Rattle.history_law.specs.Cover.{AskedFor, all_of, memory_of, Says, Covers}
use Rattle.history_law.specs.OrderSafety.{HasRow, ArePiled}
use Rattle.history_law.specs.ValueSafety.{IsOfMode, NameTables, WorksOn, HasModes, latest_changes, HasItsValue, AreKept, IsAtCall, IsEffectThen, IsOpenedAt, HasOpening, AreEffects, IsOutsideAfter}
use Rattle.history_law.proofs.Tests.{true_false, none_some, and_left, and_right, and_both, not_true, same_nat, find_none, found_in, of_filter}
use Rattle.history_law.proofs.UndoRecords.{HasCommit, WithUndo, IsCleared, commit_of, undo_before, leg_of, leg_parts, image_has, change_has}
use Rattle.history_law.proofs.Branches.{in_all}
use Rattle.history_law.proofs.CoverResource.{one_number, in_added, same_owner, granted_of}
use Rattle.history_law.proofs.ResourceFits.{AreFree, IsRollback, IsCommit, IsDirty}
use Rattle.history_law.proofs.ResourceSteps.{CommitFits, TryFits, RecordFits, NewOpen, OpenFrom, ActFinds}
use Rattle.history_law.proofs.TicketSteps.{memory_by}
use Rattle.history_law.proofs.Openings.{at_of, opened_by}
use Rattle.history_law.proofs.BranchOrder.{RollsTo}
use Rattle.history_law.proofs.RowHolders.{HeldBy, holder}
use Rattle.history_law.proofs.RowMessages.{SaysRows, rollback_no_commit}
use Rattle.history_law.proofs.ResourceRows.{images_apart}
use Rattle.history_law.proofs.Calls.{CallsBy, SaysCalls, CallSaid}
use Rattle.history_law.proofs.Rows.{RowsBy}
use Rattle.history_law.proofs.EffectRows.{AreDistinct, Each, each_of, of_each, HasKeys, effect_is, none_distinct}
use Rattle.history_law.proofs.RowValues as row_values
use Rattle.history_law.proofs.Steps.{ResStep}

-- ---- modes

same_schema : (opening : Database) (rs : List ResourceRecord) → (tables opening rs).schema ≡ opening.schema
same_schema opening [] = refl
same_schema opening (log.Committed xid b call images reads ∷ rs) = same_schema opening rs
same_schema opening (log.Undone xid b ∷ rs) = same_schema opening rs
same_schema opening (log.Tried xid b call images ∷ rs) = same_schema opening rs
same_schema opening (log.Confirmed xid b images ∷ rs) = same_schema opening rs
same_schema opening (log.Cancelled xid b images ∷ rs) = same_schema opening rs
same_schema opening (log.LocalCommitted n images ∷ rs) = same_schema opening rs
same_schema opening (log.Outside n images ∷ rs) = same_schema opening rs
same_schema opening (log.Boot n ∷ rs) = same_schema opening rs
same_schema opening (log.Marked xid b ∷ rs) = same_schema opening rs
same_schema opening (log.Cleared xid b ∷ rs) = same_schema opening rs
same_schema opening (log.Suspended xid b ∷ rs) = same_schema opening rs

module _ (s : Setup) (rs : List ResourceRecord) where
  abbrev db : Database
  db = tables (opening_tables s) rs

  -- the rows of statements that name tables of one mode are of this mode
  mode_keys : (mode : BranchKind) (stmts : List Stmt) → NameTables s mode stmts → Each (HasKeys db (IsOfMode s mode)) stmts
  mode_keys mode stmts name = each_of (HasKeys db (IsOfMode s mode)) stmts one
    where
      one : (st : Stmt) → In st stmts → HasKeys db (IsOfMode s mode) st
      one st j def e key at =
          let here : table_named s.schema (table_of st) ≡ Some def = ap (λ z. table_named z (table_of st)) (sym (same_schema (opening_tables s) rs)) ∙ e in
          let named : def.name ≡ table_of st = same_text_same def.name (table_of st) (found_in (is_named (table_of st)) s.schema.tables def here).1 in
          record { def = def; named = ap (table_named s.schema) (at ∙ named) ∙ here; of_mode = name st j def here }

  any_keys : (stmts : List Stmt) → Each (HasKeys db (λ key. Unit {0})) stmts
  any_keys stmts = each_of (HasKeys db (λ key. Unit {0})) stmts (λ st j def e key at. tt)

modes_apart : {A : Type 0} (s : Setup) (key : RowKey) → IsOfMode s kind.At key → IsOfMode s kind.Tcc key → A
modes_apart s key a t = absurd (other (sym a.of_mode ∙ ap (λ (d : TableDef). d.mode) (one (sym a.named ∙ t.named)) ∙ t.of_mode))
  where
    one : Some a.def ≡ Some t.def → a.def ≡ t.def
    one e = cc

    other : kind.At ≡ kind.Tcc → ⊥
    other e = cc

-- ---- images

image_in : (images : List Image) (key : RowKey) (i : Image) → image_at images key ≡ Some i → In i images × (key ≡ i.key)
image_in images key i e = let f = found_in (λ j. is_key key j.key) images i e in (f.0, same_key key i.key f.1)

-- images of TCC rows have none of an AT row
no_tcc_image : (s : Setup) (key : RowKey) → IsOfMode s kind.At key → (images : List Image) → ((i : Image) → In i images → IsOfMode s kind.Tcc i.key) → image_at images key ≡ None
no_tcc_image s key at images all = by (image_at images key) refl
  where
    by : (o : Option Image) → image_at images key ≡ o → o ≡ None
    by None e = refl
    by (Some i) e = let k = image_in images key i e in modes_apart s key at (subst (λ z. IsOfMode s kind.Tcc z) (sym k.1) (all i k.0))

-- an image of different ones is the image of its row
distinct_image : (images : List Image) → AreDistinct images → (i : Image) → In i images → image_at images i.key ≡ Some i
distinct_image [] d i j = absurd j
distinct_image (k ∷ images) d i (inl is) =
    ap (λ b. cond b (Some k) (image_at images i.key)) (subst (λ (q : Image). is_key i.key q.key ≡ true) is (is_key_itself i.key)) ∙ ap (λ (q : Image). Some q) (sym is)
distinct_image (k ∷ images) d i (inr j) = by (is_key i.key k.key) refl (distinct_image images (IsDistinct-tail is_key k.key (map key_of images) d) i j)
  where
    out : (xs : List Image) → AllByRecursion (λ y. is_key k.key y ≡ false) (map key_of xs) → In i xs → is_key k.key i.key ≡ false
    out [] all j = absurd j
    out (x ∷ xs) all (inl is) = subst (λ (q : Image). is_key k.key q.key ≡ false) (sym is) all.0
    out (x ∷ xs) all (inr j) = out xs all.1 j

    by : (b : Bool) → is_key i.key k.key ≡ b → image_at images i.key ≡ Some i → cond b (Some k) (image_at images i.key) ≡ Some i
    by false e rest = rest
    by true e rest =
        let same : i.key ≡ k.key = same_key i.key k.key e in
        true_false (sym (subst (λ q. is_key k.key q ≡ true) (sym same) (is_key_itself k.key)) ∙ out images (IsDistinct-head is_key k.key (map key_of images) d) j)

value_itself : (v : Value) → same_value v v ≡ true
value_itself v = ap is_eq (tied_itself value_cmp_total v)

row_itself : (o : Option Row) → same_row o o ≡ true
row_itself None = refl
row_itself (Some r) = all r.0
  where
    all : (vs : List Value) → pointwise same_value vs vs ≡ true
    all [] = refl
    all (v ∷ vs) = and_both (same_value v v) (pointwise same_value vs vs) (value_itself v) (all vs)

sorted_after : (direction : Way) (images : List Image) (db : Database) → IsMap db.rows → IsMap (applied direction images db).rows
sorted_after direction images db sorted = map_put_all db.rows (map (side direction) images) sorted

-- ---- what is kept of a resource

-- of its records
pub record RowsHold (w : World) (past : Past) (ms : List Moment) (tc : List SessionRecord) (n : ℕ) (s : Setup) (rs : List ResourceRecord) : Type 0 where
  pub sorted : IsMap (tables (opening_tables s) rs).rows
  pub values : (key : RowKey) → IsOfMode s kind.At key → HasItsValue (opening_tables s) rs key
  pub undos_are : (u : Undo) → In u (undos rs) → AreDistinct u.images × ((i : Image) → In i u.images → IsOfMode s kind.At i.key)
  pub single : (u v : Undo) → In u (undos rs) → In v (undos rs) → u.xid ≡ v.xid → u.branch ≡ v.branch → u ≡ v
  pub effects : AreEffects w past ms tc n s rs

abbrev pub OwnerWorks : Setup → Owner → Type 0
OwnerWorks s (OfCall m x c wk) = WorksOn s wk
OwnerWorks s (OfLocal k) = Unit {0}

-- the effect of an open ticket, on the tables at its opening
pub record IsOpenEffect (w : World) (past : Past) (ms : List Moment) (tc : List SessionRecord) (n : ℕ) (s : Setup) (t : Ticket) (x c : ℕ) (images : List Image) (reads : List ReadRow) (rs : List ResourceRecord) : Type 0 where
  pub effect : IsEffectThen w tc n s rs x c images reads
  pub opening : IsOpenedAt past ms n s t x c effect.older

-- of an open ticket
pub record OpenHolds (w : World) (past : Past) (ms : List Moment) (tc : List SessionRecord) (n : ℕ) (s : Setup) (m : Memory) (o : Open) : Type 0 where
  pub distinct : AreDistinct o.images
  pub works : OwnerWorks s o.owner
  pub before : (key : RowKey) → IsOfMode s kind.At key → (i : Image) → image_at o.images key ≡ Some i
      → (i.before ≡ now_value (opening_tables s) m.left.records key) × (i.before ≡ now_value (opening_tables s) (all_of m.left) key)
  pub at : (x : ℕ) → IsAtOf x o.owner → (i : Image) → In i o.images → IsOfMode s kind.At i.key
  pub effects : (x : ℕ) → IsAtOf x o.owner
      → IsOpenEffect w past ms tc n s o.ticket x (call_of o.owner) o.images o.reads m.left.records × IsOpenEffect w past ms tc n s o.ticket x (call_of o.owner) o.images o.reads (all_of m.left)

pub record ValuesAt (w : World) (past : Past) (ms : List Moment) (tc : List SessionRecord) (n : ℕ) (s : Setup) (m : Memory) : Type 0 where
  pub rows : RowsHold w past ms tc n s m.left.records × RowsHold w past ms tc n s (all_of m.left)
  pub opens : (o : Open) → In o m.opens → OpenHolds w past ms tc n s m o

-- a record that leaves the rows as they are
effect_later : (w : World) (tc : List SessionRecord) (n : ℕ) (s : Setup) (r : ResourceRecord) (rs : List ResourceRecord) (x c : ℕ) (images : List Image) (reads : List ReadRow)
    → ((key : RowKey) → IsOfMode s kind.At key → HasRow images reads key → now_value (opening_tables s) (r ∷ rs) key ≡ now_value (opening_tables s) rs key)
    → IsEffectThen w tc n s rs x c images reads → IsEffectThen w tc n s (r ∷ rs) x c images reads
effect_later w tc n s r rs x c images reads same k = record {
  stmts = k.stmts;
  call = k.call;
  older = k.older;
  newer = r ∷ k.newer;
  stood = ap (λ z. r ∷ z) k.stood;
  images_are = k.images_are;
  reads_are = k.reads_are;
  kept = k.kept;
  same = λ key at h. same key at h ∙ k.same key at h;
}

open_later : (w : World) (past : Past) (ms : List Moment) (tc : List SessionRecord) (n : ℕ) (s : Setup) (t : Ticket) (r : ResourceRecord) (rs : List ResourceRecord) (x c : ℕ) (images : List Image) (reads : List ReadRow)
    → ((key : RowKey) → IsOfMode s kind.At key → HasRow images reads key → now_value (opening_tables s) (r ∷ rs) key ≡ now_value (opening_tables s) rs key)
    → IsOpenEffect w past ms tc n s t x c images reads rs → IsOpenEffect w past ms tc n s t x c images reads (r ∷ rs)
unfolding effect_later
open_later w past ms tc n s t r rs x c images reads same k = record { effect = effect_later w tc n s r rs x c images reads same k.effect; opening = k.opening }

pub are_kept : (w : World) (past : Past) (ms : List Moment) (tc : List SessionRecord) (n : ℕ) (s : Setup) (rs : List ResourceRecord) → RowsHold w past ms tc n s rs → AreKept s rs
are_kept w past ms tc n s rs h key at inside = row_values.now_is_kept (opening_tables s) rs key (h.values key at) inside

-- a boot changes no row
pub rows_boot : (w : World) (past : Past) (ms : List Moment) (tc : List SessionRecord) (n : ℕ) (s : Setup) (rs : List ResourceRecord) → RowsHold w past ms tc n s rs → RowsHold w past ms tc n s (boot_over rs ∷ rs)
rows_boot w past ms tc n s rs h = record {
  sorted = h.sorted;
  values = λ key at.
      let v = h.values key at in
      record { first = v.first; found = v.found; now = v.now; opened = λ q. v.opened (row_values.inside_below (boot_over rs) rs key q) };
  undos_are = h.undos_are;
  single = h.single;
  effects = h.effects;
}

-- ---- one entry

module _ (w : World) (modes : HasModes w) (past : Past) (ms : List Moment) (m : Moment) (c : Covers w past ms) (calls : CallsBy w (coordinator_left past ms) (memory_of past ms) ms)
    (order : RowsBy w (coordinator_left past ms) (memory_of past ms) ms) (r : ResStep w past ms m) (holds : ValuesAt w past (m ∷ ms) (coordinator_left past ms).records r.k r.s (memory_of past ms r.k r.s)) where
  abbrev me : Memory
  me = memory_of past ms r.k r.s

  abbrev ne : Memory
  ne = memory_by r.s (memory_of past ms r.k r.s) r.event m.now m.step

  abbrev s : Setup
  s = r.s

  abbrev opening : Database
  opening = opening_tables r.s

  abbrev rs : List ResourceRecord
  rs = (memory_of past ms r.k r.s).left.records

  abbrev now : Database
  now = tables (opening_tables r.s) (memory_of past ms r.k r.s).left.records

  abbrev tc : List SessionRecord
  tc = (coordinator_left past ms).records

  abbrev sorted : IsMap (tables (opening_tables r.s) (memory_of past ms r.k r.s).left.records).rows
  sorted = holds.rows.0.sorted

  -- the statements of a second phase name TCC tables
  confirms_name : (manager call : ℕ) (o : Option Action) → action_of s manager call ≡ o → NameTables s kind.Tcc (confirms_of o)
  confirms_name manager call None e = λ st j. absurd j
  confirms_name manager call (Some a) e = (modes.actions r.k r.s r.known manager call a e).0

  cancels_name : (manager call : ℕ) (o : Option Action) → action_of s manager call ≡ o → NameTables s kind.Tcc (cancels_of o)
  cancels_name manager call None e = λ st j. absurd j
  cancels_name manager call (Some a) e = (modes.actions r.k r.s r.known manager call a e).1

  phase_names : (x b : ℕ) → IsCommit r.event x b kind.Tcc ⊎ IsRollback r.event x b kind.Tcc → NameTables s kind.Tcc (phase_two s r.event)
  phase_names x b (inl q) = subst (λ (e : Event). NameTables r.s kind.Tcc (phase_two r.s e)) (sym q.is) (confirms_name q.manager q.call (action_of s q.manager q.call) refl)
  phase_names x b (inr q) = subst (λ (e : Event). NameTables r.s kind.Tcc (phase_two r.s e)) (sym q.is) (cancels_name q.manager q.call (action_of s q.manager q.call) refl)

  -- images of TCC statements
  record OfTcc (images : List Image) : Type 0 where
    distinct : AreDistinct images
    keys : (i : Image) → In i images → IsOfMode s kind.Tcc i.key

  of_tcc : (images : List Image) (stmts : List Stmt) → NameTables s kind.Tcc stmts → images ≡ (effect_on now stmts).images → OfTcc images
  of_tcc images stmts name e =
      let f = effect_is now (IsOfMode s kind.Tcc) stmts (mode_keys s rs kind.Tcc stmts name) in
      record { distinct = subst AreDistinct (sym e) f.distinct; keys = subst (λ z. (i : Image) → In i z → IsOfMode s kind.Tcc i.key) (sym e) (of_each (λ (i : Image). IsOfMode s kind.Tcc i.key) (effect_on now stmts).images f.changed) }

  tried_tcc : (x b call : ℕ) (images : List Image) → TryFits s me ne.opens r.event x b call images → OfTcc images
  tried_tcc x b call images f = of_tcc images f.action.tries (subst (λ (z : Owner). OwnerWorks s z) f.owner (holds.opens f.open_ticket f.there).works) f.images_are

  any_distinct : (images : List Image) (stmts : List Stmt) → images ≡ (effect_on now stmts).images → AreDistinct images
  any_distinct images stmts e = subst AreDistinct (sym e) (effect_is now (λ key. Unit {0}) stmts (any_keys s rs stmts)).distinct

  -- ---- the rows of an open ticket stay as they are

  untouched : (images : List Image) (key : RowKey) → AreDistinct images → image_at images key ≡ None → row_at (applied way.Do images now).rows key ≡ now_value opening rs key
  untouched images key d e = row_values.applied_row way.Do images now key sorted d ∙ ap (λ z. over (now_value opening rs key) (option_map (row_values.part way.Do) z)) e

  free_image : (p : Open) (key : RowKey) → In p me.opens → has_row key p ≡ true → (images : List Image) → AreFree me.opens images → image_at images key ≡ None
  free_image p key ip h images free = by (image_at images key) refl
    where
      by : (o : Option Image) → image_at images key ≡ o → o ≡ None
      by None e = refl
      by (Some i) e = absurd (free p ip key (image_has images key i e) h)

  now_same : (p o : Open) (key : RowKey) → IsOfMode s kind.At key → In p me.opens → In o ne.opens → p.ticket ≡ o.ticket → has_row key p ≡ true
      → (q : ResourceRecord) → RecordFits s me ne.opens r.event q → now_value opening (q ∷ rs) key ≡ now_value opening rs key
  now_same p o key at ip io same h (log.Committed xid b call images reads) f =
      untouched images key (subst AreDistinct (sym f.images) (holds.opens f.open_ticket f.there).distinct) (images_apart w past ms m r c p o key ip io same h f.open_ticket images f.there f.images f.ends)
  now_same p o key at ip io same h (log.Undone xid b) f =
      let i = (found_in (is_leg xid.0 b.0) (undos rs) f.undo f.found).0 in
      ap (λ z. row_at (applied way.Undo (images_of z) now).rows key) f.found ∙ row_values.applied_row way.Undo f.undo.images now key sorted (holds.rows.0.undos_are f.undo i).0
      ∙ ap (λ z. over (now_value opening rs key) (option_map (row_values.part way.Undo) z)) (free_image p key ip h f.undo.images f.free)
  now_same p o key at ip io same h (log.LocalCommitted n images) f =
      untouched images key (subst AreDistinct (sym f.images_are) (holds.opens f.open_ticket f.there).distinct) (images_apart w past ms m r c p o key ip io same h f.open_ticket images f.there f.images_are f.ends)
  now_same p o key at ip io same h (log.Outside n images) f = untouched images key (any_distinct images (or_empty (local_of s n)) f.1) (free_image p key ip h images f.0)
  now_same p o key at ip io same h (log.Tried xid b call images) f = let k = tried_tcc xid.0 b.0 call images f in untouched images key k.distinct (no_tcc_image s key at images k.keys)
  now_same p o key at ip io same h (log.Confirmed xid b images) f = let k = of_tcc images (phase_two s r.event) (phase_names xid.0 b.0 (inl f.0)) f.2 in untouched images key k.distinct (no_tcc_image s key at images k.keys)
  now_same p o key at ip io same h (log.Cancelled xid b images) f = let k = of_tcc images (phase_two s r.event) (phase_names xid.0 b.0 (inr f.0)) f.2 in untouched images key k.distinct (no_tcc_image s key at images k.keys)
  now_same p o key at ip io same h _ f = refl

  -- ---- a ticket that was open

  still_found : (p o : Open) → In p me.opens → In o ne.opens → p.ticket ≡ o.ticket → OpenHolds w past (m ∷ ms) tc r.k s me p → (key : RowKey) → IsOfMode s kind.At key → (i : Image) → image_at p.images key ≡ Some i
      → (i.before ≡ now_value opening ne.left.records key) × (i.before ≡ now_value opening (all_of ne.left) key)
  still_found p o ip io same k key at i e =
      let mine : has_row key p ≡ true = ap (λ b. b || has_key (read_keys p.reads) key) (image_has p.images key i e) in
      r.moves.keeps (λ z. i.before ≡ now_value opening z key) (λ z q. q) (λ q f t. t ∙ sym (now_same p o key at ip io same mine q f)) (k.before key at i e)

  old_holds : (o : Open) → In o ne.opens → (p : Open) (j : ℕ) → In p me.opens → o ≡ record p { conflicts = j } → OpenHolds w past (m ∷ ms) tc r.k s ne o
  old_holds o io p j ip eq =
      let k = holds.opens p ip in
      subst (OpenHolds w past (m ∷ ms) tc r.k s ne) (sym eq) (record {
        distinct = k.distinct;
        works = k.works;
        before = still_found p o ip io (sym (ap (λ z. z.ticket) eq)) k;
        at = k.at;
        effects = λ x e.
            r.moves.keeps (λ z. IsOpenEffect w past (m ∷ ms) tc r.k s p.ticket x (call_of p.owner) p.images p.reads z)
            (λ z q. open_later w past (m ∷ ms) tc r.k s p.ticket (boot_over z) z x (call_of p.owner) p.images p.reads (λ key at h. refl) q)
            (λ q f t. open_later w past (m ∷ ms) tc r.k s p.ticket q rs x (call_of p.owner) p.images p.reads (λ key at h. now_same p o key at ip io (sym (ap (λ z. z.ticket) eq)) h q f) t) (k.effects x e);
      })

  -- ---- a ticket that is opened now

  on_both : (o : Open) → NewOpen s me r.event ne o → (Q : List ResourceRecord → Type 0) → Q rs → Q ne.left.records × Q (all_of ne.left)
  on_both o new Q q =
      let all : all_of me.left ≡ rs = ap (λ z. added z rs) new.landed in
      subst (λ z. Q z.records × Q (all_of z)) (sym new.left) (q, subst Q (sym all) q)

  -- this entry opened it
  opened_now : (o : Open) → In o ne.opens → NewOpen s me r.event ne o → (x : ℕ) → IsAtOf x o.owner → IsOpenedAt past (m ∷ ms) r.k s o.ticket x (call_of o.owner) rs
  opened_now o io new x e =
      let k = opened_by s me (c.at r.k r.s r.known).tickets r.event o new.ticket m.step.act r.moves.finds io x (at_of x o.owner e) in
      record { later = []; entry = m; before = ms; splits = refl; at = r.at; xid = k.xid; of = k.of; opened = k.is; stood = refl }

  -- an AT call or a local transaction: the effect on the tables as they are
  effect_holds : (o : Open) → In o ne.opens → NewOpen s me r.event ne o → (stmts : List Stmt) → o.images ≡ (effect_on now stmts).images → o.reads ≡ (effect_on now stmts).reads → OwnerWorks s o.owner
      → ((x : ℕ) → IsAtOf x o.owner → NameTables s kind.At stmts × IsAtCall w tc r.k x (call_of o.owner) stmts) → OpenHolds w past (m ∷ ms) tc r.k s ne o
  effect_holds o io new stmts images reads works of =
      let f = effect_is now (λ key. Unit {0}) stmts (any_keys s rs stmts) in
      record {
        distinct = subst AreDistinct (sym images) f.distinct;
        works = works;
        before = λ key at i e. on_both o new (λ z. i.before ≡ now_value opening z key) (f.before key i (ap (λ z. image_at z key) (sym images) ∙ e));
        at = λ x e.
            let g = effect_is now (IsOfMode s kind.At) stmts (mode_keys s rs kind.At stmts (of x e).0) in
            subst (λ z. (i : Image) → In i z → IsOfMode s kind.At i.key) (sym images) (of_each (λ (i : Image). IsOfMode s kind.At i.key) (effect_on now stmts).images g.changed);
        effects = λ x e. on_both o new (λ z. IsOpenEffect w past (m ∷ ms) tc r.k s o.ticket x (call_of o.owner) o.images o.reads z) (record {
          effect = record { stmts = stmts; call = (of x e).1; older = rs; newer = []; stood = refl; images_are = images; reads_are = reads; kept = are_kept w past (m ∷ ms) tc r.k s rs holds.rows.0; same = λ key at h. refl };
          opening = opened_now o io new x e;
        });
      }

  -- a TCC call: none
  bare_holds : (o : Open) → NewOpen s me r.event ne o → o.images ≡ [] → OwnerWorks s o.owner → ((x : ℕ) → IsAtOf x o.owner → ⊥) → OpenHolds w past (m ∷ ms) tc r.k s ne o
  bare_holds o new images works never = record {
    distinct = subst AreDistinct (sym images) none_distinct;
    works = works;
    before = λ key at i e. none_some (ap (λ z. image_at z key) (sym images) ∙ e);
    at = λ x e. absurd (never x e);
    effects = λ x e. absurd (never x e);
  }

  call_said : (from : Place) (xid : Xid) (manager res call : ℕ) (wk : Work) → r.event ≡ Given (input.Message from (message.Call xid manager res call wk)) → CallSaid w tc from (place.Res r.k) xid.0 res call wk
  call_said from xid manager res call wk ev =
      r.heard (λ p out. SaysCalls w (coordinator_left past ms).records (memory_of past ms) p out) calls.said from (message.Call xid manager res call wk) ev

  call_works : (from : Place) (x res call : ℕ) (wk : Work) → CallSaid w tc from (place.Res r.k) x res call wk → WorksOn s wk
  call_works from x res call wk said =
      let here : r.k ≡ res = one_number r.k res said.reaches in
      modes.calls said.manager said.settings said.known said.slot.0 res wk said.slot.2 r.s (ap (counted_at w.resources) (sym here) ∙ r.known)

  at_call : (from : Place) (x res call : ℕ) (stmts : List Stmt) → CallSaid w tc from (place.Res r.k) x res call (work.At stmts) → IsAtCall w tc r.k x call stmts
  at_call from x res call stmts said =
      let here : res ≡ r.k = sym (one_number r.k res said.reaches) in
      record {
        manager = said.manager;
        owns = said.owns;
        settings = said.settings;
        known = said.known;
        before = said.slot.0;
        index = said.slot.1;
        is = said.slot.2 ∙ ap (λ z. Some (z, work.At stmts)) here;
      }

  of_some : (a o : Open) → Some a ≡ Some o → a ≡ o
  of_some a o e = cc

  new_holds : (o : Open) → In o ne.opens → NewOpen s me r.event ne o → (t : Ticket) (event : Event) → r.event ≡ event → opened_for s now t event ≡ Some o → OpenHolds w past (m ∷ ms) tc r.k s ne o
  new_holds o io new t (Given (input.Message from (message.Call xid manager res call (work.At stmts)))) ev e =
      let is = of_some _ o e in
      let said = call_said from xid manager res call (work.At stmts) ev in
      effect_holds o io new stmts (ap (λ (z : Open). z.images) (sym is)) (ap (λ (z : Open). z.reads) (sym is)) (subst (λ (z : Open). OwnerWorks s z.owner) is (call_works from xid.0 res call (work.At stmts) said))
      (λ x q.
      let at : xid.0 ≡ x = subst (λ (z : Open). IsAtOf x z.owner) (sym is) q in
      let mine : IsAtCall w tc r.k x call stmts = subst (λ z. IsAtCall w tc r.k z call stmts) at (at_call from xid.0 res call stmts said) in
      (call_works from xid.0 res call (work.At stmts) said, subst (λ (z : Open). IsAtCall w tc r.k x (call_of z.owner) stmts) is mine))
  new_holds o io new t (Given (input.Message from (message.Call xid manager res call (work.Tcc action)))) ev e =
      let is = of_some _ o e in
      let said = call_said from xid manager res call (work.Tcc action) ev in
      bare_holds o new (ap (λ (z : Open). z.images) (sym is)) (subst (λ (z : Open). OwnerWorks s z.owner) is (call_works from xid.0 res call (work.Tcc action) said))
      (λ x q. subst (λ (z : Open). IsAtOf x z.owner) (sym is) q)
  new_holds o io new t (Given (input.Local k)) ev e =
      let is = of_some _ o e in
      effect_holds o io new (or_empty (local_of s k)) (ap (λ (z : Open). z.images) (sym is)) (ap (λ (z : Open). z.reads) (sym is)) (subst (λ (z : Open). OwnerWorks s z.owner) is tt)
      (λ x q. absurd (subst (λ (z : Open). IsAtOf x z.owner) (sym is) q))
  new_holds o io new t _ ev e = none_some e

  opens_hold : (o : Open) → In o ne.opens → OpenHolds w past (m ∷ ms) tc r.k s ne o
  opens_hold o io = by (r.moves.opens_from o io)
    where
      by : OpenFrom r.s (memory_of past ms r.k r.s) r.event (memory_by r.s (memory_of past ms r.k r.s) r.event m.now m.step) o → OpenHolds w past (m ∷ ms) (coordinator_left past ms).records r.k r.s (memory_by r.s (memory_of past ms r.k r.s) r.event m.now m.step) o
      by (inl (p, j, ip, eq)) = old_holds o io p j ip eq
      by (inr new) = new_holds o io new (next_ticket me) r.event refl new.opened

  -- ---- a branch that is undone

  -- what its question says
  rolls : (x b : ℕ) (k : BranchKind) → IsRollback r.event x b k → RollsTo tc x b
  rolls x b k asked =
      (r.heard (λ p out. SaysRows w (coordinator_left past ms) (memory_of past ms) p out) order.said asked.from (message.BranchRollback (xid_of x) (branch_of b) k asked.manager asked.call) asked.is).0

  not_commit : (x b : ℕ) → RollsTo tc x b → is_commit (decided tc x) ≡ false
  not_commit x b q = rollback_no_commit (decided tc x) q.rolls

  -- a change of a transaction that isn't committed has its undo record
  undo_there : (key : RowKey) (x b : ℕ) (p q : Option Row) → In (ByBranch x b p q) (changes rs key) → is_commit (decided tc x) ≡ false
      → (u : Undo) × (In u (undos rs)) × (u.xid ≡ x) × (u.branch ≡ b) × (has_key (image_keys u.images) key ≡ true)
  undo_there key x b p q i never = by (change_has x b p q key rs i)
    where
      by : HasCommit rs x b key → (u : Undo) × (In u (undos rs)) × (u.xid ≡ x) × (u.branch ≡ b) × (has_key (image_keys u.images) key ≡ true)
      by (WithUndo u j ex eb h) = (u, j, ex, eb, h)
      by (IsCleared j) = true_false (sym ((c.at r.k r.s r.known).cleared x b (in_added me.left.flight rs (log.Cleared (xid_of x) (branch_of b)) j)) ∙ never)

  -- and none of a later branch
  no_later : (key : RowKey) (x b : ℕ) → RollsTo tc x b → (d : ℕ) (p q : Option Row) → In (ByBranch x d p q) (changes rs key) → b < d → ⊥
  no_later key x b q d before after i less =
      let u = undo_there key x d before after i (not_commit x b q) in
      by (subst (λ z. (is_commit (decided tc z) ≡ true) ⊎ HeldBy tc z d key) u.2
      (subst (λ z. (is_commit (decided tc u.0.xid) ≡ true) ⊎ HeldBy tc u.0.xid z key) u.3 (holder w (coordinator_left past ms) (memory_of past ms) ms c r.k r.s r.known key u.0 (inl u.1) u.4)))
    where
      by : (is_commit (decided tc x) ≡ true) ⊎ HeldBy tc x d key → ⊥
      by (inl k) = true_false (sym k ∙ not_commit x b q)
      by (inr h) =
          let g = h.branch in
          let number : g.branch ≡ d = h.number in
          let ended = q.later g h.there h.xid (omega arith) in
          let holding = and_right (has_key g.hold key) (is_holding tc g) h.holding in
          true_false (sym ended ∙ not_true (is_ended tc g.xid g.branch) (and_left (not (is_ended tc g.xid g.branch)) (not (is_commit (decided tc g.xid))) holding))

  leg_is : (x b : ℕ) (u : Undo) → undo_of rs x b ≡ Some u → In u (undos rs) × ((u.xid ≡ x) × (u.branch ≡ b))
  leg_is x b u found = let f = found_in (is_leg x b) (undos rs) u found in (f.0, leg_parts x b u f.1)

  -- its change of a row is the last since the last outside write
  last_of_row : (key : RowKey) (x b : ℕ) → RollsTo tc x b → (u : Undo) → undo_of rs x b ≡ Some u → (i : Image) → image_at u.images key ≡ Some i
      → In (ByBranch x b i.before i.after) (changes rs key) × row_values.IsLast x b i (latest_changes rs key)
  last_of_row key x b q u found i e =
      let leg = leg_is x b u found in
      let there : In (ByBranch x b i.before i.after) (changes rs key) =
      subst (λ z. In (ByBranch x z i.before i.after) (changes rs key)) leg.1.1 (subst (λ z. In (ByBranch z u.branch i.before i.after) (changes rs key)) leg.1.0 (row_values.undo_change rs key u i leg.0 e)) in
      let k = row_values.stand_over rs key in
      let pile : ArePiled tc (latest_changes rs key ++ k.below) = subst (ArePiled tc) k.all (order.piled r.k r.s r.known key).0 in (
        there,
        row_values.is_last tc x b (not_commit x b q) i (latest_changes rs key) k.below pile (subst (λ z. In (ByBranch x b i.before i.after) z) k.all there) (row_values.none_outside rs key)
            (λ d p t j less. no_later key x b q d p t (subst (λ z. In (ByBranch x d p t) z) (sym k.all) j) less),
      )

  -- a row that it didn't touch has no change of it
  none_of_row : (key : RowKey) (x b : ℕ) → RollsTo tc x b → (u : Undo) → undo_of rs x b ≡ Some u → image_at u.images key ≡ None → filter (is_by_other x b) (latest_changes rs key) ≡ latest_changes rs key
  none_of_row key x b q u found e = row_values.filter_all (is_by_other x b) (latest_changes rs key) one
    where
      one : (a : Change) → In a (latest_changes rs key) → is_by_other x b a ≡ true
      one (ByLocal after) i = refl
      one (ByOutside after) i = refl
      one (ByBranch y d p t) i = by ((y == x) && (d == b)) refl
        where
          by : (z : Bool) → ((y == x) && (d == b)) ≡ z → not z ≡ true
          by false z = refl
          by true z =
              let yx : y ≡ x = same_nat y x (and_left (y == x) (d == b) z) in
              let db : d ≡ b = same_nat d b (and_right (y == x) (d == b) z) in
              let leg = leg_is x b u found in
              let k = row_values.stand_over rs key in
              let there : In (ByBranch y d p t) (changes rs key) = subst (λ (l : List Change). In (ByBranch y d p t) l) (sym k.all) (row_values.in_front (latest_changes rs key) k.below (ByBranch y d p t) i) in
              let v = undo_there key y d p t there (ap (λ n. is_commit (decided tc n)) yx ∙ not_commit x b q) in
              let same : v.0 ≡ u = holds.rows.0.single v.0 u v.1 leg.0 (v.2 ∙ yx ∙ sym leg.1.0) (v.3 ∙ db ∙ sym leg.1.1) in
              none_some (sym e ∙ ap (λ (n : Undo). image_at n.images key) (sym same) ∙ (row_values.has_image v.0.images key v.4).1)

  -- ---- a record keeps it

  tables_sorted : (q : ResourceRecord) → IsMap (tables opening (q ∷ rs)).rows
  tables_sorted (log.Committed xid b call images reads) = sorted_after way.Do images now sorted
  tables_sorted (log.Undone xid b) = sorted_after way.Undo (images_of (undo_of rs xid.0 b.0)) now sorted
  tables_sorted (log.Tried xid b call images) = sorted_after way.Do images now sorted
  tables_sorted (log.Confirmed xid b images) = sorted_after way.Do images now sorted
  tables_sorted (log.Cancelled xid b images) = sorted_after way.Do images now sorted
  tables_sorted (log.LocalCommitted n images) = sorted_after way.Do images now sorted
  tables_sorted (log.Outside n images) = sorted_after way.Do images now sorted
  tables_sorted _ = sorted

  value_after : (key : RowKey) → IsOfMode s kind.At key → (q : ResourceRecord) → RecordFits s me ne.opens r.event q → HasItsValue opening (q ∷ rs) key
  value_after key at (log.Committed xid b call images reads) f =
      let k = holds.opens f.open_ticket f.there in
      row_values.value_committed opening key rs sorted (holds.rows.0.values key at) xid b call images reads (subst AreDistinct (sym f.images) k.distinct) (λ i e. (k.before key at i (ap (λ z. image_at z key) (sym f.images) ∙ e)).0)
  value_after key at (log.Undone xid b) f =
      let q = rolls xid.0 b.0 kind.At f.asked in
      row_values.value_undone opening key rs sorted (holds.rows.0.values key at) xid b f.undo f.found (holds.rows.0.undos_are f.undo (leg_is xid.0 b.0 f.undo f.found).0).0
      (λ i e. last_of_row key xid.0 b.0 q f.undo f.found i e) (λ e. none_of_row key xid.0 b.0 q f.undo f.found e)
  value_after key at (log.LocalCommitted n images) f = row_values.value_local opening key rs sorted (holds.rows.0.values key at) n images (subst AreDistinct (sym f.images_are) (holds.opens f.open_ticket f.there).distinct)
  value_after key at (log.Outside n images) f = row_values.value_outside opening key rs sorted (holds.rows.0.values key at) n images (any_distinct images (or_empty (local_of s n)) f.1)
  value_after key at (log.Tried xid b call images) f =
      let k = tried_tcc xid.0 b.0 call images f in
      row_values.value_stays opening key rs sorted (holds.rows.0.values key at) (log.Tried xid b call images) refl (untouched images key k.distinct (no_tcc_image s key at images k.keys))
  value_after key at (log.Confirmed xid b images) f =
      let k = of_tcc images (phase_two s r.event) (phase_names xid.0 b.0 (inl f.0)) f.2 in
      row_values.value_stays opening key rs sorted (holds.rows.0.values key at) (log.Confirmed xid b images) refl (untouched images key k.distinct (no_tcc_image s key at images k.keys))
  value_after key at (log.Cancelled xid b images) f =
      let k = of_tcc images (phase_two s r.event) (phase_names xid.0 b.0 (inr f.0)) f.2 in
      row_values.value_stays opening key rs sorted (holds.rows.0.values key at) (log.Cancelled xid b images) refl (untouched images key k.distinct (no_tcc_image s key at images k.keys))
  value_after key at (log.Boot n) f = row_values.value_stays opening key rs sorted (holds.rows.0.values key at) (log.Boot n) refl refl
  value_after key at (log.Marked xid b) f = row_values.value_stays opening key rs sorted (holds.rows.0.values key at) (log.Marked xid b) refl refl
  value_after key at (log.Cleared xid b) f = row_values.value_stays opening key rs sorted (holds.rows.0.values key at) (log.Cleared xid b) refl refl
  value_after key at (log.Suspended xid b) f = row_values.value_stays opening key rs sorted (holds.rows.0.values key at) (log.Suspended xid b) refl refl

  fits_as : (q : ResourceRecord) → RecordFits s me ne.opens r.event q → (u : Undo) → q ≡ commit_of u → CommitFits me ne.opens r.event u
  fits_as q f u e = subst (λ z. RecordFits s me ne.opens r.event z) e f

  undo_after : (q : ResourceRecord) → RecordFits s me ne.opens r.event q → (u : Undo) → In u (undos (q ∷ rs)) → AreDistinct u.images × ((i : Image) → In i u.images → IsOfMode s kind.At i.key)
  undo_after q f u i = by (undo_before q rs u i)
    where
      of : (g : CommitFits me ne.opens r.event u) → AreDistinct u.images × ((i : Image) → In i u.images → IsOfMode r.s kind.At i.key)
      of g =
          let k = holds.opens g.open_ticket g.there in
          (subst AreDistinct (sym g.images) k.distinct, subst (λ z. (i : Image) → In i z → IsOfMode r.s kind.At i.key) (sym g.images) (k.at u.xid g.at))

      by : (q ≡ commit_of u) ⊎ In u (undos rs) → AreDistinct u.images × ((i : Image) → In i u.images → IsOfMode r.s kind.At i.key)
      by (inl is) = of (fits_as q f u is)
      by (inr j) = holds.rows.0.undos_are u j

  -- a local commit is the first of its branch
  taken : (u : Undo) → CommitFits me ne.opens r.event u → (v : Undo) → In v (undos rs) → v.xid ≡ u.xid → v.branch ≡ u.branch → ⊥
  taken u f v j ex eb = true_false (sym (leg_of v u.xid u.branch ex eb) ∙ find_none (is_leg u.xid u.branch) (undos rs) v f.fresh j)

  single_after : (q : ResourceRecord) → RecordFits s me ne.opens r.event q → (u v : Undo) → In u (undos (q ∷ rs)) → In v (undos (q ∷ rs)) → u.xid ≡ v.xid → u.branch ≡ v.branch → u ≡ v
  single_after (log.Committed xid b call images reads) f u v (inl is) (inl js) ex eb = is ∙ sym js
  single_after (log.Committed xid b call images reads) f u v (inl is) (inr j) ex eb =
      absurd (taken (record { xid = xid.0; branch = b.0; call = call; images = images; reads = reads }) f v j (sym ex ∙ ap (λ z. z.xid) is) (sym eb ∙ ap (λ z. z.branch) is))
  single_after (log.Committed xid b call images reads) f u v (inr i) (inl js) ex eb =
      absurd (taken (record { xid = xid.0; branch = b.0; call = call; images = images; reads = reads }) f u i (ex ∙ ap (λ z. z.xid) js) (eb ∙ ap (λ z. z.branch) js))
  single_after (log.Committed xid b call images reads) f u v (inr i) (inr j) ex eb = holds.rows.0.single u v i j ex eb
  single_after (log.Undone xid b) f u v i j ex eb = holds.rows.0.single u v (of_filter (is_other_leg xid.0 b.0) (undos rs) u i).0 (of_filter (is_other_leg xid.0 b.0) (undos rs) v j).0 ex eb
  single_after (log.Cleared xid b) f u v i j ex eb = holds.rows.0.single u v (of_filter (is_other_leg xid.0 b.0) (undos rs) u i).0 (of_filter (is_other_leg xid.0 b.0) (undos rs) v j).0 ex eb
  single_after (log.Boot n) f u v i j ex eb = holds.rows.0.single u v i j ex eb
  single_after (log.Marked xid b) f u v i j ex eb = holds.rows.0.single u v i j ex eb
  single_after (log.Tried xid b call images) f u v i j ex eb = holds.rows.0.single u v i j ex eb
  single_after (log.Confirmed xid b images) f u v i j ex eb = holds.rows.0.single u v i j ex eb
  single_after (log.Cancelled xid b images) f u v i j ex eb = holds.rows.0.single u v i j ex eb
  single_after (log.Suspended xid b) f u v i j ex eb = holds.rows.0.single u v i j ex eb
  single_after (log.LocalCommitted n images) f u v i j ex eb = holds.rows.0.single u v i j ex eb
  single_after (log.Outside n images) f u v i j ex eb = holds.rows.0.single u v i j ex eb

  -- a local commit is the effect that its ticket has
  commit_effect : (u : Undo) (g : CommitFits me ne.opens r.event u) → IsOpenEffect w past (m ∷ ms) tc r.k s g.open_ticket.ticket u.xid u.call u.images u.reads rs
  commit_effect u g =
      let o = g.open_ticket in
      let k = ((holds.opens o g.there).effects u.xid g.at).0 in
      let call : IsOpenEffect w past (m ∷ ms) tc r.k s o.ticket u.xid u.call o.images o.reads rs = subst (λ z. IsOpenEffect w past (m ∷ ms) tc r.k r.s g.open_ticket.ticket u.xid z g.open_ticket.images g.open_ticket.reads rs) (sym g.call) k in
      let images : IsOpenEffect w past (m ∷ ms) tc r.k s o.ticket u.xid u.call u.images o.reads rs = subst (λ z. IsOpenEffect w past (m ∷ ms) tc r.k r.s g.open_ticket.ticket u.xid u.call z g.open_ticket.reads rs) (sym g.images) call in
      subst (λ z. IsOpenEffect w past (m ∷ ms) tc r.k r.s g.open_ticket.ticket u.xid u.call u.images z rs) (sym g.reads) images

  -- and its branch was granted for this ticket
  commit_opening : (u : Undo) (g : CommitFits me ne.opens r.event u) (older : List ResourceRecord) → IsOpenedAt past (m ∷ ms) r.k s g.open_ticket.ticket u.xid u.call older
      → HasOpening past (m ∷ ms) tc r.k s u.xid u.branch u.call older
  commit_opening u g older at =
      let left = coordinator_left past ms in
      let h = granted_of w left (memory_of past ms) ms c r.k r.s r.known r.named r.event (λ from msg e. r.heard (λ p out. Says w (coordinator_left past ms) (memory_of past ms) p out) c.said from msg e) m.now m.step r.moves u g in
      let names : Names me h.grant.ticket (AskedFor h.grant) = (c.at r.k r.s r.known).asked h.grant (in_all left h.grant h.there) h.at h.resource in
      let for : AskedFor h.grant g.open_ticket = names.named g.open_ticket g.there (sym h.ticket) in
      record {
        branch = h.grant;
        granted = h.there;
        xid = same_owner h.grant.xid u.xid g.open_ticket.owner for.0 g.at;
        number = h.number;
        resource = h.resource;
        opening = subst (λ (z : Ticket). IsOpenedAt past (m ∷ ms) r.k r.s z u.xid u.call older) (sym h.ticket) at;
      }

  effects_after : (q : ResourceRecord) → RecordFits s me ne.opens r.event q → AreEffects w past (m ∷ ms) tc r.k s (q ∷ rs)
  effects_after (log.Committed xid b call images reads) f =
      let u : Undo = record { xid = xid.0; branch = b.0; call = call; images = images; reads = reads } in
      let k = commit_effect u f in
      (holds.rows.0.effects, record { effect = k.effect; opening = inr (commit_opening u f k.effect.older k.opening) })
  effects_after _ f = holds.rows.0.effects

  rows_step : (q : ResourceRecord) → RecordFits s me ne.opens r.event q → RowsHold w past (m ∷ ms) tc r.k s rs → RowsHold w past (m ∷ ms) tc r.k s (q ∷ rs)
  rows_step q f h = record {
    sorted = tables_sorted q;
    values = λ key at. value_after key at q f;
    undos_are = undo_after q f;
    single = single_after q f;
    effects = effects_after q f;
  }

  pub values_after : ValuesAt w past (m ∷ ms) (coordinator_left past ms).records r.k r.s (memory_by r.s (memory_of past ms r.k r.s) r.event m.now m.step)
  values_after = record { rows = r.moves.keeps (RowsHold w past (m ∷ ms) tc r.k s) (λ z h. rows_boot w past (m ∷ ms) tc r.k s z h) rows_step holds.rows; opens = opens_hold }

  -- ---- dirty rows

  of_dirty : (x b : ℕ) (u : Undo) (i : Image) → IsOfMode s kind.At i.key → same_row (row_at now.rows i.key) i.after ≡ false → row_values.IsLast x b i (latest_changes rs i.key)
      → In (ByBranch x b i.before i.after) (latest_changes rs i.key) ⊎ IsOutsideAfter rs x b i.key → IsOutsideAfter rs x b i.key
  of_dirty x b u i at differs last (inr after) = after
  of_dirty x b u i at differs (inl none) (inl there) = absurd (subst (λ z. In (ByBranch x b i.before i.after) z) none there)
  of_dirty x b u i at differs (inr (rest, is, left)) (inl there) =
      let v = holds.rows.0.values i.key at in
      let same : row_at now.rows i.key ≡ i.after = v.now ∙ ap (λ z. value_of v.first z) is in
      true_false (sym (row_itself i.after) ∙ ap (λ z. same_row z i.after) (sym same) ∙ differs)

  dirty_outside : (x b : ℕ) (key : RowKey) → IsDirty s me r.event x b key → IsOutsideAfter rs x b key
  dirty_outside x b key d =
      let leg = leg_is x b d.undo d.found in
      let f = found_in (λ (i : Image). not (same_row (row_at now.rows i.key) i.after)) d.undo.images d.image d.dirty in
      let ok = holds.rows.0.undos_are d.undo leg.0 in
      let image : image_at d.undo.images d.image.key ≡ Some d.image = distinct_image d.undo.images ok.0 d.image f.0 in
      let last = last_of_row d.image.key x b (rolls x b kind.At d.asked) d.undo d.found d.image image in
      subst (λ z. IsOutsideAfter rs x b z) d.key_is
      (of_dirty x b d.undo d.image (ok.1 d.image f.0) (not_true (same_row (row_at now.rows d.image.key) d.image.after) f.1) last.1 (row_values.latest_or_outside rs d.image.key x b d.image.before d.image.after last.0))

  pub never_dirty : (xid : Xid) (b : BranchId) (key : RowKey) (after found : Option Row) → m.step.act ≡ act.Dirty xid b key after found → IsOutsideAfter (memory_of past ms r.k r.s).left.records xid.0 b.0 key
  never_dirty xid b key after found did = dirty_outside xid.0 b.0 key (subst (λ (a : Act). ActFinds r.s me r.event a) did r.moves.finds)
