-- Entries of the table of locks that compare alike to a branch.
use Rattle.std.proofs.Common.{◌≡◌, Bool, true, false, cond, List, [], ◌∷◌, ◌++◌, None, Ordering, Less, Equal, Greater, refl, sym, ap, ◌∙◌}
use Rattle.std.specs.BTreeMap.{insert_entry}
use Rattle.std.specs.Map.{lookup, remove_entry}
use Rattle.std.specs.Ordering.{match_ordering, is_eq}
use Rattle.seata_types.specs.declared.ids.Leg.{Leg}
use Rattle.seata_types.specs.declared.rows.RowKey.{RowKey}
use Rattle.lock_table.specs.Locks.{Holds, leg_cmp, is_leg}
use Rattle.session_memory.proofs.Small.{true_false}

-- ---- entries of other branches

-- none of these is the branch's
abbrev pub AreOthers : Leg → Holds → Type 0
AreOthers leg [] = Unit {0}
AreOthers leg (h ∷ hs) = (is_leg leg h.0 ≡ false) × AreOthers leg hs

module _ (leg : Leg) where
  pub others_both : (xs ys : Holds) → AreOthers leg xs → AreOthers leg ys → AreOthers leg (xs ++ ys)
  others_both [] ys n m = m
  others_both (x ∷ xs) ys n m = (n.0, others_both xs ys n.1 m)

  pub removed_none : (xs : Holds) → AreOthers leg xs → remove_entry (is_leg leg) xs ≡ xs
  removed_none [] n = refl
  removed_none (x ∷ xs) n = rw n.0 (ap (λ (r : Holds). x ∷ r) (removed_none xs n.1))

  pub found_none : (xs : Holds) → AreOthers leg xs → lookup (is_leg leg) xs ≡ None
  found_none [] n = refl
  found_none (x ∷ xs) n = rw n.0 (found_none xs n.1)

  removed_by : (b : Bool) (x : Leg × List RowKey) (xs ys rest : Holds) → rest ≡ remove_entry (is_leg leg) xs ++ ys →
      cond b (xs ++ ys) (x ∷ rest) ≡ cond b xs (x ∷ remove_entry (is_leg leg) xs) ++ ys
  removed_by true x xs ys rest e = refl
  removed_by false x xs ys rest e = ap (λ (r : Holds). x ∷ r) e

  pub removed_left : (xs ys : Holds) → AreOthers leg ys → remove_entry (is_leg leg) (xs ++ ys) ≡ remove_entry (is_leg leg) xs ++ ys
  removed_left [] ys n = removed_none ys n
  removed_left (x ∷ xs) ys n = removed_by (is_leg leg x.0) x xs ys (remove_entry (is_leg leg) (xs ++ ys)) (removed_left xs ys n)

  pub removed_right : (xs ys : Holds) → AreOthers leg xs → remove_entry (is_leg leg) (xs ++ ys) ≡ xs ++ remove_entry (is_leg leg) ys
  removed_right [] ys n = refl
  removed_right (x ∷ xs) ys n = rw n.0 (ap (λ (r : Holds). x ∷ r) (removed_right xs ys n.1))

-- ---- entries that compare alike

abbrev pub Compare : Ordering → Leg → Holds → Type 0
Compare o leg [] = Unit {0}
Compare o leg (h ∷ hs) = (leg_cmp leg h.0 ≡ o) × Compare o leg hs

module _ (leg : Leg) where
  pub others_compared : (o : Ordering) → is_eq o ≡ false → (xs : Holds) → Compare o leg xs → AreOthers leg xs
  others_compared o differs [] n = tt
  others_compared o differs (x ∷ xs) n = (ap is_eq n.0 ∙ differs, others_compared o differs xs n.1)

  pub compared_both : (o : Ordering) (xs ys : Holds) → Compare o leg xs → Compare o leg ys → Compare o leg (xs ++ ys)
  compared_both o [] ys n m = m
  compared_both o (x ∷ xs) ys n m = (n.0, compared_both o xs ys n.1 m)

  module _ (rows : List RowKey) where
    pub put_behind : (xs ys : Holds) → Compare Greater leg xs → insert_entry leg_cmp (xs ++ ys) leg rows ≡ xs ++ insert_entry leg_cmp ys leg rows
    put_behind [] ys n = refl
    put_behind (x ∷ xs) ys n = rw n.0 (ap (λ (r : Holds). x ∷ r) (put_behind xs ys n.1))

    pub put_before : (ys : Holds) → Compare Less leg ys → insert_entry leg_cmp ys leg rows ≡ (leg, rows) ∷ ys
    put_before [] n = refl
    put_before (y ∷ ys) n = rw n.0 refl

    -- what was put where there was nothing is taken out again
    taken_by : (o : Ordering) (leg_is : is_leg leg leg ≡ true) (x : Leg × List RowKey) (xs : Holds) → leg_cmp leg x.0 ≡ o → is_leg leg x.0 ≡ false →
        remove_entry (is_leg leg) (insert_entry leg_cmp xs leg rows) ≡ xs →
        remove_entry (is_leg leg) (match_ordering o ((leg, rows) ∷ x ∷ xs) ((x.0, rows) ∷ xs) (x ∷ insert_entry leg_cmp xs leg rows)) ≡ x ∷ xs
    taken_by Less own x xs e other below = rw own refl
    taken_by Equal own x xs e other below = true_false (sym (ap is_eq e) ∙ other)
    taken_by Greater own x xs e other below = rw other (ap (λ (r : Holds). x ∷ r) below)

    pub taken_again : is_leg leg leg ≡ true → (xs : Holds) → AreOthers leg xs → remove_entry (is_leg leg) (insert_entry leg_cmp xs leg rows) ≡ xs
    taken_again own [] n = rw own refl
    taken_again own (x ∷ xs) n = taken_by (leg_cmp leg x.0) own x xs refl n.0 (taken_again own xs n.1)
