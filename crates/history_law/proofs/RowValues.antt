-- The value of a row over the records of a resource, one record at a time.
use Rattle.std.proofs.Common.{◌≡◌, ◌⊎◌, inl, inr, ◌<◌, ◌==◌, ◌&&◌, not, ℕ, Bool, true, false, cond, List, [], ◌∷◌, ◌++◌, filter, Option, Some, None, option_map, refl, ap, sym, subst, ◌∙◌, arith}
use Rattle.seata_types.specs.declared.ids.BranchId.{BranchId}
use Rattle.seata_types.specs.declared.ids.Xid.{Xid}
use Rattle.seata_types.specs.declared.rows.Image.{Image}
use Rattle.seata_types.specs.declared.rows.ReadRow.{ReadRow}
use Rattle.seata_types.specs.declared.rows.Row.{Row}
use Rattle.seata_types.specs.declared.rows.RowKey.{RowKey}
use Rattle.local_tables.specs.Lookups.{over}
use Rattle.local_tables.specs.Puts.{put_at}
use Rattle.local_tables.specs.Rows.{Database, IsMap, is_key, row_at, side, applied}
use Rattle.local_tables.specs.declared.schemas.Way.{Way}
use Rattle.local_tables.specs.declared.schemas.Way.TheVariants as way
use Rattle.local_tables.proofs.KeyLaws.{same_key}
use Rattle.local_tables.proofs.MapLaws.{is_key_itself}
use Rattle.local_tables.proofs.SideLaws.{puts_images}
use Rattle.durable_records.specs.declared.coordinators.SessionRecord.{SessionRecord}
use Rattle.durable_records.specs.declared.resources.ResourceRecord.{ResourceRecord}
use Rattle.durable_records.specs.declared.resources.ResourceRecord.TheVariants as log
use Rattle.durable_records.specs.Transactions.{decided, is_commit}
use Rattle.durable_records.specs.Locks.{has_key}
use Rattle.durable_records.specs.UndoRecords.{Undo, undos, undo_of, is_other_leg}
use Rattle.durable_records.specs.ResourceOrder.{image_keys}
use Rattle.durable_records.specs.RowsKept.{Change, ByBranch, ByLocal, ByOutside, images_of, tables, now_value, image_at, changed, by_branch, by_local, by_outside, is_by_other, changes, value_of, kept_value}
use Rattle.history_law.specs.Points.{In}
use Rattle.history_law.specs.OrderSafety.{LiesUnder, ArePiled, HasCommitted}
use Rattle.history_law.specs.ValueSafety.{IsInside, none_if_touched, latest_changes, FindValues, HasItsValue, IsOutsideAfter}
use Rattle.history_law.proofs.Tests.{true_false, none_some, false_true, and_left, and_right, and_both, or_either, same_nat, nat_same, in_filter, of_filter}
use Rattle.history_law.proofs.UndoRecords.{changed_in}
use Rattle.history_law.proofs.EffectRows.{AreDistinct}

-- ---- images

-- what an image puts at its row
abbrev pub part : Way → Image → Option Row
part direction i = (side direction i).1

put_image : (direction : Way) (images : List Image) (key : RowKey) → put_at direction images key ≡ option_map (part direction) (image_at images key)
put_image direction [] key = refl
put_image way.Do (i ∷ images) key = by (is_key key i.key) (put_image way.Do images key)
  where
    by : (b : Bool) → put_at way.Do images key ≡ option_map (part way.Do) (image_at images key) → cond b (Some i.after) (put_at way.Do images key) ≡ option_map (part way.Do) (cond b (Some i) (image_at images key))
    by true e = refl
    by false e = e
put_image way.Undo (i ∷ images) key = by (is_key key i.key) (put_image way.Undo images key)
  where
    by : (b : Bool) → put_at way.Undo images key ≡ option_map (part way.Undo) (image_at images key) → cond b (Some i.before) (put_at way.Undo images key) ≡ option_map (part way.Undo) (cond b (Some i) (image_at images key))
    by true e = refl
    by false e = e

-- a row after images are put on the tables
pub applied_row : (direction : Way) (images : List Image) (db : Database) (key : RowKey) → IsMap db.rows → AreDistinct images
    → row_at (applied direction images db).rows key ≡ over (row_at db.rows key) (option_map (part direction) (image_at images key))
applied_row direction images db key sorted distinct = puts_images direction images db key sorted distinct ∙ ap (over (row_at db.rows key)) (put_image direction images key)

-- a row that is one of the images' has its image
pub has_image : (images : List Image) (key : RowKey) → has_key (image_keys images) key ≡ true → (i : Image) × (image_at images key ≡ Some i)
has_image [] key h = false_true h
has_image (i ∷ images) key h = by (is_key key i.key) refl (or_either (is_key i.key key) (has_key (image_keys images) key) h) (has_image images key)
  where
    by : (b : Bool) → is_key key i.key ≡ b → (is_key i.key key ≡ true) ⊎ (has_key (image_keys images) key ≡ true) → (has_key (image_keys images) key ≡ true → (j : Image) × (image_at images key ≡ Some j))
        → (j : Image) × (cond b (Some i) (image_at images key) ≡ Some j)
    by true e k below = (i, refl)
    by false e (inl is) below = true_false (sym (subst (λ q. is_key key q ≡ true) (sym (same_key i.key key is)) (is_key_itself key)) ∙ e)
    by false e (inr rest) below = below rest

-- ---- lists of changes

not_local : {A : Type 0} (x b : ℕ) (before after q : Option Row) → ByBranch x b before after ≡ ByLocal q → A
not_local x b before after q e = absurd (bot e)
  where
    bot : ByBranch x b before after ≡ ByLocal q → ⊥
    bot e = cc

not_outside : {A : Type 0} (x b : ℕ) (before after q : Option Row) → ByBranch x b before after ≡ ByOutside q → A
not_outside x b before after q e = absurd (bot e)
  where
    bot : ByBranch x b before after ≡ ByOutside q → ⊥
    bot e = cc

filter_append : (test : Change → Bool) (xs ys : List Change) → filter test (xs ++ ys) ≡ filter test xs ++ filter test ys
filter_append test [] ys = refl
filter_append test (x ∷ xs) ys = by (test x) (filter_append test xs ys)
  where
    by : (b : Bool) → filter test (xs ++ ys) ≡ filter test xs ++ filter test ys → cond b (x ∷ filter test (xs ++ ys)) (filter test (xs ++ ys)) ≡ cond b (x ∷ filter test xs) (filter test xs) ++ filter test ys
    by true e = ap (λ z. x ∷ z) e
    by false e = e

pub filter_all : (test : Change → Bool) (cs : List Change) → ((c : Change) → In c cs → test c ≡ true) → filter test cs ≡ cs
filter_all test [] all = refl
filter_all test (c ∷ cs) all = ap (λ b. cond b (c ∷ filter test cs) (filter test cs)) (all c (inl refl)) ∙ ap (λ z. c ∷ z) (filter_all test cs (λ d j. all d (inr j)))

pub in_front : {A : Type 0} (xs ys : List A) (a : A) → In a xs → In a (xs ++ ys)
in_front [] ys a j = absurd j
in_front (x ∷ xs) ys a (inl is) = inl is
in_front (x ∷ xs) ys a (inr j) = inr (in_front xs ys a j)

added_append : (by : Image → Change) (o : Option Image) (cs below : List Change) → changed by o (cs ++ below) ≡ changed by o cs ++ below
added_append by None cs below = refl
added_append by (Some i) cs below = refl

-- ---- the changes since the last outside write

-- they stand over all others
pub record StandOver (rs : List ResourceRecord) (key : RowKey) : Type 0 where
  pub below : List Change
  pub all : changes rs key ≡ latest_changes rs key ++ below

added_over : (by : Image → Change) (o : Option Image) (all latest below : List Change) → all ≡ latest ++ below → changed by o all ≡ changed by o latest ++ below
added_over by o all latest below e = ap (changed by o) e ∙ added_append by o latest below

pub stand_over : (rs : List ResourceRecord) (key : RowKey) → StandOver rs key
stand_over [] key = record { below = []; all = refl }
stand_over (log.Committed xid branch call images reads ∷ rs) key =
    let k = stand_over rs key in
    record { below = k.below; all = added_over (by_branch xid.0 branch.0) (image_at images key) (changes rs key) (latest_changes rs key) k.below k.all }
stand_over (log.Undone xid branch ∷ rs) key =
    let k = stand_over rs key in
    record { below = filter (is_by_other xid.0 branch.0) k.below; all = ap (filter (is_by_other xid.0 branch.0)) k.all ∙ filter_append (is_by_other xid.0 branch.0) (latest_changes rs key) k.below }
stand_over (log.LocalCommitted number images ∷ rs) key =
    let k = stand_over rs key in
    record { below = k.below; all = added_over by_local (image_at images key) (changes rs key) (latest_changes rs key) k.below k.all }
stand_over (log.Outside number images ∷ rs) key = by (image_at images key) refl (stand_over rs key)
  where
    by : (o : Option Image) → image_at images key ≡ o → StandOver rs key → StandOver (log.Outside number images ∷ rs) key
    by None e k = record { below = k.below; all = ap (λ z. changed by_outside z (changes rs key)) e ∙ k.all ∙ ap (λ z. none_if_touched z (latest_changes rs key) ++ k.below) (sym e) }
    by (Some i) e k = record {
      below = ByOutside i.after ∷ changes rs key;
      all = ap (λ z. changed by_outside z (changes rs key)) e ∙ ap (λ z. none_if_touched z (latest_changes rs key) ++ (ByOutside i.after ∷ changes rs key)) (sym e);
    }
stand_over (log.Boot number ∷ rs) key = let k = stand_over rs key in record { below = k.below; all = k.all }
stand_over (log.Marked xid branch ∷ rs) key = let k = stand_over rs key in record { below = k.below; all = k.all }
stand_over (log.Cleared xid branch ∷ rs) key = let k = stand_over rs key in record { below = k.below; all = k.all }
stand_over (log.Tried xid branch call images ∷ rs) key = let k = stand_over rs key in record { below = k.below; all = k.all }
stand_over (log.Confirmed xid branch images ∷ rs) key = let k = stand_over rs key in record { below = k.below; all = k.all }
stand_over (log.Cancelled xid branch images ∷ rs) key = let k = stand_over rs key in record { below = k.below; all = k.all }
stand_over (log.Suspended xid branch ∷ rs) key = let k = stand_over rs key in record { below = k.below; all = k.all }

pub inside_below : (r : ResourceRecord) (rs : List ResourceRecord) (key : RowKey) → IsInside key (r ∷ rs) → IsInside key rs
inside_below r rs key h number images i = h number images (inr i)

-- where no outside write touched the row they are all
latest_are_all : (rs : List ResourceRecord) (key : RowKey) → IsInside key rs → latest_changes rs key ≡ changes rs key
latest_are_all [] key h = refl
latest_are_all (log.Committed xid branch call images reads ∷ rs) key h = ap (changed (by_branch xid.0 branch.0) (image_at images key)) (latest_are_all rs key (inside_below _ rs key h))
latest_are_all (log.Undone xid branch ∷ rs) key h = ap (filter (is_by_other xid.0 branch.0)) (latest_are_all rs key (inside_below _ rs key h))
latest_are_all (log.LocalCommitted number images ∷ rs) key h = ap (changed by_local (image_at images key)) (latest_are_all rs key (inside_below _ rs key h))
latest_are_all (log.Outside number images ∷ rs) key h = by (image_at images key) (h number images (inl refl)) (latest_are_all rs key (inside_below _ rs key h))
  where
    by : (o : Option Image) → o ≡ None → latest_changes rs key ≡ changes rs key → none_if_touched o (latest_changes rs key) ≡ changed by_outside o (changes rs key)
    by None e same = same
    by (Some i) e same = none_some (sym e)
latest_are_all (log.Boot number ∷ rs) key h = latest_are_all rs key (inside_below _ rs key h)
latest_are_all (log.Marked xid branch ∷ rs) key h = latest_are_all rs key (inside_below _ rs key h)
latest_are_all (log.Cleared xid branch ∷ rs) key h = latest_are_all rs key (inside_below _ rs key h)
latest_are_all (log.Tried xid branch call images ∷ rs) key h = latest_are_all rs key (inside_below _ rs key h)
latest_are_all (log.Confirmed xid branch images ∷ rs) key h = latest_are_all rs key (inside_below _ rs key h)
latest_are_all (log.Cancelled xid branch images ∷ rs) key h = latest_are_all rs key (inside_below _ rs key h)
latest_are_all (log.Suspended xid branch ∷ rs) key h = latest_are_all rs key (inside_below _ rs key h)

-- a row that has its value is its kept value where no outside write touched it
pub now_is_kept : (opening : Database) (rs : List ResourceRecord) (key : RowKey) → HasItsValue opening rs key → IsInside key rs → now_value opening rs key ≡ kept_value opening rs key
now_is_kept opening rs key r h = r.now ∙ ap (λ z. value_of r.first z) (latest_are_all rs key h) ∙ ap (λ z. value_of z (changes rs key)) (r.opened h)

-- none of them is by an outside write
local_not_outside : (p q : Option Row) → ByOutside p ≡ ByLocal q → ⊥
local_not_outside p q e = cc

no_outside_by : (by : Image → Change) → ((i : Image) (p : Option Row) → ByOutside p ≡ by i → ⊥) → (o : Option Image) (cs : List Change) → ((p : Option Row) → In (ByOutside p) cs → ⊥) → (p : Option Row) → In (ByOutside p) (changed by o cs) → ⊥
no_outside_by by other o cs none p j = each (changed_in by o cs (ByOutside p) j)
  where
    each : ((i : Image) × (o ≡ Some i) × (ByOutside p ≡ by i)) ⊎ In (ByOutside p) cs → ⊥
    each (inl (i, e, is)) = other i p is
    each (inr k) = none p k

pub none_outside : (rs : List ResourceRecord) (key : RowKey) (p : Option Row) → In (ByOutside p) (latest_changes rs key) → ⊥
none_outside [] key p j = absurd j
none_outside (log.Committed xid branch call images reads ∷ rs) key p j =
    no_outside_by (by_branch xid.0 branch.0) (λ i q e. not_outside xid.0 branch.0 i.before i.after q (sym e)) (image_at images key) (latest_changes rs key) (none_outside rs key) p j
none_outside (log.Undone xid branch ∷ rs) key p j = none_outside rs key p (of_filter (is_by_other xid.0 branch.0) (latest_changes rs key) (ByOutside p) j).0
none_outside (log.LocalCommitted number images ∷ rs) key p j = no_outside_by by_local (λ i q e. local_not_outside q i.after e) (image_at images key) (latest_changes rs key) (none_outside rs key) p j
none_outside (log.Outside number images ∷ rs) key p j = by (image_at images key) (none_outside rs key p) j
  where
    by : (o : Option Image) → (In (ByOutside p) (latest_changes rs key) → ⊥) → In (ByOutside p) (none_if_touched o (latest_changes rs key)) → ⊥
    by None none j = none j
    by (Some i) none j = absurd j
none_outside (log.Boot number ∷ rs) key p j = none_outside rs key p j
none_outside (log.Marked xid branch ∷ rs) key p j = none_outside rs key p j
none_outside (log.Cleared xid branch ∷ rs) key p j = none_outside rs key p j
none_outside (log.Tried xid branch call images ∷ rs) key p j = none_outside rs key p j
none_outside (log.Confirmed xid branch images ∷ rs) key p j = none_outside rs key p j
none_outside (log.Cancelled xid branch images ∷ rs) key p j = none_outside rs key p j
none_outside (log.Suspended xid branch ∷ rs) key p j = none_outside rs key p j

-- ---- the change of an undo record

abbrev pub change_of : Undo → Image → Change
change_of u i = ByBranch u.xid u.branch i.before i.after

change_below : (by : Image → Change) (o : Option Image) (cs : List Change) (c : Change) → In c cs → In c (changed by o cs)
change_below by None cs c j = j
change_below by (Some i) cs c j = inr j

-- an undo record has its change of each of its rows
pub undo_change : (rs : List ResourceRecord) (key : RowKey) (u : Undo) (i : Image) → In u (undos rs) → image_at u.images key ≡ Some i → In (change_of u i) (changes rs key)
undo_change [] key u i j e = absurd j
undo_change (log.Committed xid branch call images reads ∷ rs) key u i (inl is) e =
    subst (λ o. In (change_of u i) (changed (by_branch xid.0 branch.0) o (changes rs key))) (sym (ap (λ (q : Undo). image_at q.images key) (sym is) ∙ e))
    (inl (ap (λ (q : Undo). ByBranch q.xid q.branch i.before i.after) is))
undo_change (log.Committed xid branch call images reads ∷ rs) key u i (inr j) e = change_below (by_branch xid.0 branch.0) (image_at images key) (changes rs key) (change_of u i) (undo_change rs key u i j e)
undo_change (log.Undone xid branch ∷ rs) key u i j e =
    let f = of_filter (is_other_leg xid.0 branch.0) (undos rs) u j in
    in_filter (is_by_other xid.0 branch.0) (changes rs key) (change_of u i) (undo_change rs key u i f.0 e) f.1
undo_change (log.Cleared xid branch ∷ rs) key u i j e = undo_change rs key u i (of_filter (is_other_leg xid.0 branch.0) (undos rs) u j).0 e
undo_change (log.LocalCommitted number images ∷ rs) key u i j e = change_below by_local (image_at images key) (changes rs key) (change_of u i) (undo_change rs key u i j e)
undo_change (log.Outside number images ∷ rs) key u i j e = change_below by_outside (image_at images key) (changes rs key) (change_of u i) (undo_change rs key u i j e)
undo_change (log.Boot number ∷ rs) key u i j e = undo_change rs key u i j e
undo_change (log.Marked xid branch ∷ rs) key u i j e = undo_change rs key u i j e
undo_change (log.Tried xid branch call images ∷ rs) key u i j e = undo_change rs key u i j e
undo_change (log.Confirmed xid branch images ∷ rs) key u i j e = undo_change rs key u i j e
undo_change (log.Cancelled xid branch images ∷ rs) key u i j e = undo_change rs key u i j e
undo_change (log.Suspended xid branch ∷ rs) key u i j e = undo_change rs key u i j e

-- ---- the change of a branch that is undone lies on top

-- of the changes since the last outside write: there are none, or its change is the last
abbrev pub IsLast : ℕ → ℕ → Image → List Change → Type 0
IsLast x b i cs = (cs ≡ []) ⊎ ((rest : List Change) × (cs ≡ ByBranch x b i.before i.after ∷ rest) × (filter (is_by_other x b) cs ≡ rest))

module _ (tc : List SessionRecord) (x b : ℕ) (uncommitted : is_commit (decided tc x) ≡ false) where
  other_under : (c : Change) → LiesUnder tc x b c → is_by_other x b c ≡ true
  other_under (ByLocal after) l = refl
  other_under (ByOutside after) l = refl
  other_under (ByBranch y d before after) l = by ((y == x) && (d == b)) refl l
    where
      by : (t : Bool) → ((y == x) && (d == b)) ≡ t → (is_commit (decided tc y) ≡ true) ⊎ ((y ≡ x) × (d < b)) → not t ≡ true
      by false e l = refl
      by true e (inl k) = true_false (sym k ∙ ap (λ z. is_commit (decided tc z)) (same_nat y x (and_left (y == x) (d == b) e)) ∙ uncommitted)
      by true e (inr k) = let p : d ≡ b = same_nat d b (and_right (y == x) (d == b) e) in let less = k.1 in absurd (omega arith)

  is_gone : (before after : Option Row) → is_by_other x b (ByBranch x b before after) ≡ false
  is_gone before after = ap (λ z. not z) (and_both (x == x) (b == b) (nat_same x x refl) (nat_same b b refl))

  pub is_last : (i : Image) (cs below : List Change) → ArePiled tc (cs ++ below) → In (ByBranch x b i.before i.after) (cs ++ below) → ((p : Option Row) → In (ByOutside p) cs → ⊥)
      → ((d : ℕ) (p q : Option Row) → In (ByBranch x d p q) (cs ++ below) → b < d → ⊥) → IsLast x b i cs
  is_last i [] below pile there inside later = inl refl
  is_last i (ByOutside p ∷ rest) below pile there inside later = absurd (inside p (inl refl))
  is_last i (ByLocal p ∷ rest) below pile (inl is) inside later = not_local x b i.before i.after p is
  is_last i (ByLocal p ∷ rest) below pile (inr j) inside later = true_false (sym (pile.0 (ByBranch x b i.before i.after) j) ∙ uncommitted)
  is_last i (ByBranch y d p q ∷ rest) below pile (inl is) inside later =
      let under = λ (c : Change) (j : In c rest). subst (λ z. LiesUnder tc z b c) (sym (xid_is is)) (subst (λ z. LiesUnder tc y z c) (sym (number_is is)) (pile.0 c (in_front rest below c j))) in
      let gone : is_by_other x b (ByBranch y d p q) ≡ false = subst (λ z. is_by_other x b z ≡ false) is (is_gone i.before i.after) in
      inr (rest, ap (λ z. z ∷ rest) (sym is), ap (λ z. cond z (ByBranch y d p q ∷ filter (is_by_other x b) rest) (filter (is_by_other x b) rest)) gone ∙ filter_all (is_by_other x b) rest (λ c j. other_under c (under c j)))
    where
      xid_is : ByBranch x b i.before i.after ≡ ByBranch y d p q → x ≡ y
      xid_is e = cc

      number_is : ByBranch x b i.before i.after ≡ ByBranch y d p q → b ≡ d
      number_is e = cc
  is_last i (ByBranch y d p q ∷ rest) below pile (inr j) inside later = by (pile.0 (ByBranch x b i.before i.after) j)
    where
      by : (is_commit (decided tc x) ≡ true) ⊎ ((x ≡ y) × (b < d)) → IsLast x b i (ByBranch y d p q ∷ rest)
      by (inl k) = true_false (sym k ∙ uncommitted)
      by (inr k) = absurd (later d p q (inl (ap (λ z. ByBranch z d p q) k.0)) k.1)

-- ---- a record on a row

module _ (opening : Database) (key : RowKey) (rs : List ResourceRecord) (sorted : IsMap (tables opening rs).rows) (row : HasItsValue opening rs key) where
  abbrev old : Option Row
  old = now_value opening rs key

  put_over : (images : List Image) → AreDistinct images → row_at (applied way.Do images (tables opening rs)).rows key ≡ over old (option_map (part way.Do) (image_at images key))
  put_over images d = applied_row way.Do images (tables opening rs) key sorted d

  -- a record without a change of the row
  pub value_stays : (q : ResourceRecord) → latest_changes (q ∷ rs) key ≡ latest_changes rs key → now_value opening (q ∷ rs) key ≡ old → HasItsValue opening (q ∷ rs) key
  value_stays q t e = record {
    first = row.first;
    found = subst (λ z. FindValues row.first z) (sym t) row.found;
    now = e ∙ row.now ∙ ap (λ z. value_of row.first z) (sym t);
    opened = λ h. row.opened (inside_below q rs key h);
  }

  -- a record with this change of it
  changes_to : (q : ResourceRecord) (c : Change) → latest_changes (q ∷ rs) key ≡ c ∷ latest_changes rs key → FindValues row.first (c ∷ latest_changes rs key)
      → now_value opening (q ∷ rs) key ≡ value_of row.first (c ∷ latest_changes rs key) → HasItsValue opening (q ∷ rs) key
  changes_to q c t found e = record {
    first = row.first;
    found = subst (λ z. FindValues row.first z) (sym t) found;
    now = e ∙ ap (λ z. value_of row.first z) (sym t);
    opened = λ h. row.opened (inside_below q rs key h);
  }

  put_as : (images : List Image) (o : Option Image) → AreDistinct images → image_at images key ≡ o → row_at (applied way.Do images (tables opening rs)).rows key ≡ over old (option_map (part way.Do) o)
  put_as images o d e = put_over images d ∙ ap (λ z. over old (option_map (part way.Do) z)) e

  pub value_committed : (xid : Xid) (branch : BranchId) (call : ℕ) (images : List Image)
      (reads : List ReadRow) → AreDistinct images → ((i : Image) → image_at images key ≡ Some i → i.before ≡ old) → HasItsValue opening (log.Committed xid branch call images reads ∷ rs) key
  value_committed xid branch call images reads d found = by (image_at images key) refl
    where
      by : (o : Option Image) → image_at images key ≡ o → HasItsValue opening (log.Committed xid branch call images reads ∷ rs) key
      by None e = value_stays (log.Committed xid branch call images reads) (ap (λ z. changed (by_branch xid.0 branch.0) z (latest_changes rs key)) e) (put_as images None d e)
      by (Some i) e =
          changes_to (log.Committed xid branch call images reads) (by_branch xid.0 branch.0 i) (ap (λ z. changed (by_branch xid.0 branch.0) z (latest_changes rs key)) e) (found i e ∙ row.now, row.found) (put_as images (Some i) d e)

  pub value_local : (n : ℕ) (images : List Image) → AreDistinct images → HasItsValue opening (log.LocalCommitted n images ∷ rs) key
  value_local n images d = by (image_at images key) refl
    where
      by : (o : Option Image) → image_at images key ≡ o → HasItsValue opening (log.LocalCommitted n images ∷ rs) key
      by None e = value_stays (log.LocalCommitted n images) (ap (λ z. changed by_local z (latest_changes rs key)) e) (put_as images None d e)
      by (Some i) e = changes_to (log.LocalCommitted n images) (by_local i) (ap (λ z. changed by_local z (latest_changes rs key)) e) row.found (put_as images (Some i) d e)

  pub value_outside : (n : ℕ) (images : List Image) → AreDistinct images → HasItsValue opening (log.Outside n images ∷ rs) key
  value_outside n images d = by (image_at images key) refl
    where
      by : (o : Option Image) → image_at images key ≡ o → HasItsValue opening (log.Outside n images ∷ rs) key
      by None e = value_stays (log.Outside n images) (ap (λ z. none_if_touched z (latest_changes rs key)) e) (put_as images None d e)
      by (Some i) e = record {
        first = i.after;
        found = subst (λ z. FindValues i.after (none_if_touched z (latest_changes rs key))) (sym e) tt;
        now = put_as images (Some i) d e ∙ ap (λ z. value_of i.after (none_if_touched z (latest_changes rs key))) (sym e);
        opened = λ h. none_some (sym (h n images (inl refl)) ∙ e);
      }

  module _ (xid : Xid) (branch : BranchId) (u : Undo) (found : undo_of rs xid.0 branch.0 ≡ Some u) (d : AreDistinct u.images) where
    abbrev x : ℕ
    x = xid.0

    abbrev b : ℕ
    b = branch.0

    put_back : (o : Option Image) → image_at u.images key ≡ o → now_value opening (log.Undone xid branch ∷ rs) key ≡ over old (option_map (part way.Undo) o)
    put_back o e =
        ap (λ z. row_at (applied way.Undo (images_of z) (tables opening rs)).rows key) found ∙ applied_row way.Undo u.images (tables opening rs) key sorted d ∙ ap (λ z. over old (option_map (part way.Undo) z)) e

    struck : (i : Image) → image_at u.images key ≡ Some i → In (ByBranch x b i.before i.after) (changes rs key) → IsLast x b i (latest_changes rs key) → HasItsValue opening (log.Undone xid branch ∷ rs) key
    struck i e there (inl none) =
        let gone : filter (is_by_other x b) (latest_changes rs key) ≡ [] = ap (filter (is_by_other x b)) none in
        record {
          first = i.before;
          found = subst (λ z. FindValues i.before z) (sym gone) tt;
          now = put_back (Some i) e ∙ ap (λ z. value_of i.before z) (sym gone);
          opened = λ h. absurd (subst (λ z. In (ByBranch x b i.before i.after) z) (sym (latest_are_all rs key (inside_below (log.Undone xid branch) rs key h)) ∙ none) there);
        }
    struck i e there (inr (rest, is, left)) =
        let values : FindValues row.first (ByBranch x b i.before i.after ∷ rest) = subst (λ z. FindValues row.first z) is row.found in
        record {
          first = row.first;
          found = subst (λ z. FindValues row.first z) (sym left) values.1;
          now = put_back (Some i) e ∙ values.0 ∙ ap (λ z. value_of row.first z) (sym left);
          opened = λ h. row.opened (inside_below (log.Undone xid branch) rs key h);
        }

    pub value_undone : ((i : Image) → image_at u.images key ≡ Some i → In (ByBranch x b i.before i.after) (changes rs key) × IsLast x b i (latest_changes rs key))
        → (image_at u.images key ≡ None → filter (is_by_other x b) (latest_changes rs key) ≡ latest_changes rs key) → HasItsValue opening (log.Undone xid branch ∷ rs) key
    value_undone last apart = by (image_at u.images key) refl
      where
        by : (o : Option Image) → image_at u.images key ≡ o → HasItsValue opening (log.Undone xid branch ∷ rs) key
        by None e = value_stays (log.Undone xid branch) (apart e) (put_back None e)
        by (Some i) e = let k = last i e in struck i e k.0 k.1

-- ---- after an outside write

committed_below : (r : ResourceRecord) (rs : List ResourceRecord) (x b : ℕ) → HasCommitted rs x b → HasCommitted (r ∷ rs) x b
committed_below r rs x b (q, i, is) = (q, inr i, is)

-- a change of a branch is of its local commit
change_committed : (rs : List ResourceRecord) (key : RowKey) (x b : ℕ) (p q : Option Row) → In (ByBranch x b p q) (changes rs key) → HasCommitted rs x b
change_committed [] key x b p q i = absurd i
change_committed (log.Committed xid branch call images reads ∷ rs) key x b p q i = by (changed_in (by_branch xid.0 branch.0) (image_at images key) (changes rs key) (ByBranch x b p q) i) (change_committed rs key x b p q)
  where
    xid_is : (j : Image) → ByBranch x b p q ≡ by_branch xid.0 branch.0 j → xid.0 ≡ x
    xid_is j e = cc

    number_is : (j : Image) → ByBranch x b p q ≡ by_branch xid.0 branch.0 j → branch.0 ≡ b
    number_is j e = cc

    by : ((j : Image) × (image_at images key ≡ Some j) × (ByBranch x b p q ≡ by_branch xid.0 branch.0 j)) ⊎ In (ByBranch x b p q) (changes rs key) → (In (ByBranch x b p q) (changes rs key) → HasCommitted rs x b)
        → HasCommitted (log.Committed xid branch call images reads ∷ rs) x b
    by (inl (j, e, is)) below = (log.Committed xid branch call images reads, inl refl, and_both (xid.0 == x) (branch.0 == b) (nat_same xid.0 x (xid_is j is)) (nat_same branch.0 b (number_is j is)))
    by (inr k) below = committed_below (log.Committed xid branch call images reads) rs x b (below k)
change_committed (log.Undone xid branch ∷ rs) key x b p q i =
    committed_below (log.Undone xid branch) rs x b (change_committed rs key x b p q (of_filter (is_by_other xid.0 branch.0) (changes rs key) (ByBranch x b p q) i).0)
change_committed (log.LocalCommitted number images ∷ rs) key x b p q i = by (changed_in by_local (image_at images key) (changes rs key) (ByBranch x b p q) i) (change_committed rs key x b p q)
  where
    by : ((j : Image) × (image_at images key ≡ Some j) × (ByBranch x b p q ≡ by_local j)) ⊎ In (ByBranch x b p q) (changes rs key) → (In (ByBranch x b p q) (changes rs key) → HasCommitted rs x b) → HasCommitted (log.LocalCommitted number images ∷ rs) x b
    by (inl (j, e, is)) below = not_local x b p q j.after is
    by (inr k) below = committed_below (log.LocalCommitted number images) rs x b (below k)
change_committed (log.Outside number images ∷ rs) key x b p q i = by (changed_in by_outside (image_at images key) (changes rs key) (ByBranch x b p q) i) (change_committed rs key x b p q)
  where
    by : ((j : Image) × (image_at images key ≡ Some j) × (ByBranch x b p q ≡ by_outside j)) ⊎ In (ByBranch x b p q) (changes rs key) → (In (ByBranch x b p q) (changes rs key) → HasCommitted rs x b) → HasCommitted (log.Outside number images ∷ rs) x b
    by (inl (j, e, is)) below = not_outside x b p q j.after is
    by (inr k) below = committed_below (log.Outside number images) rs x b (below k)
change_committed (log.Boot number ∷ rs) key x b p q i = committed_below (log.Boot number) rs x b (change_committed rs key x b p q i)
change_committed (log.Marked xid branch ∷ rs) key x b p q i = committed_below (log.Marked xid branch) rs x b (change_committed rs key x b p q i)
change_committed (log.Cleared xid branch ∷ rs) key x b p q i = committed_below (log.Cleared xid branch) rs x b (change_committed rs key x b p q i)
change_committed (log.Tried xid branch call images ∷ rs) key x b p q i = committed_below (log.Tried xid branch call images) rs x b (change_committed rs key x b p q i)
change_committed (log.Confirmed xid branch images ∷ rs) key x b p q i = committed_below (log.Confirmed xid branch images) rs x b (change_committed rs key x b p q i)
change_committed (log.Cancelled xid branch images ∷ rs) key x b p q i = committed_below (log.Cancelled xid branch images) rs x b (change_committed rs key x b p q i)
change_committed (log.Suspended xid branch ∷ rs) key x b p q i = committed_below (log.Suspended xid branch) rs x b (change_committed rs key x b p q i)

-- it is one of those since the last outside write, or an outside write came after it
abbrev pub LatestOr : List ResourceRecord → RowKey → (x b : ℕ) → (p q : Option Row) → Type 0
LatestOr rs key x b p q = In (ByBranch x b p q) (latest_changes rs key) ⊎ IsOutsideAfter rs x b key

latest_added : (by : Image → Change) (o : Option Image) (all latest : List Change) (x b : ℕ) (p q : Option Row) (After : Type 0) → (In (ByBranch x b p q) all → In (ByBranch x b p q) latest ⊎ After)
    → In (ByBranch x b p q) (changed by o all) → In (ByBranch x b p q) (changed by o latest) ⊎ After
latest_added by None all latest x b p q After below i = below i
latest_added by (Some j) all latest x b p q After below (inl is) = inl (inl is)
latest_added by (Some j) all latest x b p q After below (inr i) = more (below i)
  where
    more : In (ByBranch x b p q) latest ⊎ After → In (ByBranch x b p q) (by j ∷ latest) ⊎ After
    more (inl k) = inl (inr k)
    more (inr k) = inr k

pub latest_or_outside : (rs : List ResourceRecord) (key : RowKey) (x b : ℕ) (p q : Option Row) → In (ByBranch x b p q) (changes rs key) → LatestOr rs key x b p q
latest_or_outside [] key x b p q i = absurd i
latest_or_outside (log.Committed xid branch call images reads ∷ rs) key x b p q i =
    latest_added (by_branch xid.0 branch.0) (image_at images key) (changes rs key) (latest_changes rs key) x b p q (IsOutsideAfter rs x b key) (latest_or_outside rs key x b p q) i
latest_or_outside (log.Undone xid branch ∷ rs) key x b p q i = let f = of_filter (is_by_other xid.0 branch.0) (changes rs key) (ByBranch x b p q) i in by f.1 (latest_or_outside rs key x b p q f.0)
  where
    by : is_by_other xid.0 branch.0 (ByBranch x b p q) ≡ true → LatestOr rs key x b p q → LatestOr (log.Undone xid branch ∷ rs) key x b p q
    by t (inl k) = inl (in_filter (is_by_other xid.0 branch.0) (latest_changes rs key) (ByBranch x b p q) k t)
    by t (inr k) = inr k
latest_or_outside (log.LocalCommitted number images ∷ rs) key x b p q i =
    latest_added by_local (image_at images key) (changes rs key) (latest_changes rs key) x b p q (IsOutsideAfter rs x b key) (latest_or_outside rs key x b p q) i
latest_or_outside (log.Outside number images ∷ rs) key x b p q i = by (image_at images key) refl i (latest_or_outside rs key x b p q) (change_committed rs key x b p q)
  where
    more : LatestOr rs key x b p q → In (ByBranch x b p q) (latest_changes rs key) ⊎ IsOutsideAfter (log.Outside number images ∷ rs) x b key
    more (inl k) = inl k
    more (inr k) = inr (inr k)

    by : (o : Option Image) → image_at images key ≡ o → In (ByBranch x b p q) (changed by_outside o (changes rs key)) → (In (ByBranch x b p q) (changes rs key) → LatestOr rs key x b p q)
        → (In (ByBranch x b p q) (changes rs key) → HasCommitted rs x b) → In (ByBranch x b p q) (none_if_touched o (latest_changes rs key)) ⊎ IsOutsideAfter (log.Outside number images ∷ rs) x b key
    by None e i below committed = more (below i)
    by (Some j) e (inl is) below committed = not_outside x b p q j.after is
    by (Some j) e (inr i) below committed = inr (inl ((j, e), committed i))
latest_or_outside (log.Boot number ∷ rs) key x b p q i = latest_or_outside rs key x b p q i
latest_or_outside (log.Marked xid branch ∷ rs) key x b p q i = latest_or_outside rs key x b p q i
latest_or_outside (log.Cleared xid branch ∷ rs) key x b p q i = latest_or_outside rs key x b p q i
latest_or_outside (log.Tried xid branch call images ∷ rs) key x b p q i = latest_or_outside rs key x b p q i
latest_or_outside (log.Confirmed xid branch images ∷ rs) key x b p q i = latest_or_outside rs key x b p q i
latest_or_outside (log.Cancelled xid branch images ∷ rs) key x b p q i = latest_or_outside rs key x b p q i
latest_or_outside (log.Suspended xid branch ∷ rs) key x b p q i = latest_or_outside rs key x b p q i
