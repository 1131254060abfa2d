-- What stands at a place among entries in rising order of keys, and what is put there or into a gap.
use Rattle.std.proofs.Common.{◌≡◌, ℕ, zero, suc, [], ◌∷◌, set, get_or, Some, None, Result, Ok, Err, OnOk, OnErr, Equal, refl, sym, ap, ◌∙◌, subst, arith}
use Rattle.std.specs.List.{insert}
use Rattle.std.specs.BTreeMap.{insert_entry}
use Rattle.std.specs.Map.{keys_of}
use Rattle.std.proofs.lemmas.Cmp.{tied_itself}
use Rattle.std.proofs.lemmas.Option.{get_or_from_slice_get}
use Rattle.std.proofs.lemmas.Map.Entries.{lookup_from_place, lookup_at_gap}
use Rattle.std.proofs.lemmas.Map.Keys.{IsDistinct-from_sorted}
use Rattle.seata_types.specs.Orders.{key_cmp}
use Rattle.seata_types.specs.declared.copies.NoMemory.{NoMemory}
use Rattle.seata_types.specs.declared.rows.RowKey.{RowKey}
use Rattle.local_tables.specs.Lookups.{IsRising}
use Rattle.local_tables.specs.Places.{Entries, IsPlace, IsGap}
use Rattle.local_tables.proofs.KeyLaws.{key_cmp_total, is_key_laws}
use Rattle.local_tables.proofs.MapLaws.{at, rising_insert, rising_tail}
use Rattle.local_tables.proofs.Searching.{rises, greater_from}

module _ {X : Type 0} where
  pub there_at : (es : Entries X) (k : RowKey) (i : ℕ) (d : RowKey × X) → IsRising es → IsPlace es k i → Some (get_or es i d).1 ≡ at es k
  there_at es k i d rising p =
      let here : get_or es i d ≡ (k, p.value) = get_or_from_slice_get es i (k, p.value) d p.there in
      ap (λ (e : RowKey × X). Some e.1) here ∙ sym (lookup_from_place is_key_laws es i k p.value (IsDistinct-from_sorted key_cmp (keys_of es) rising) p.there)

  pub none_at : (es : Entries X) (k : RowKey) (i : ℕ) → IsRising es → IsGap es k i → None ≡ at es k
  none_at es k i rising g = sym (lookup_at_gap key_cmp_total k es i rising g.below g.above)

  -- ---- an entry put into a gap

  shorter_gap : (e : RowKey × X) (es : Entries X) (k : RowKey) (i : ℕ) → IsGap (e ∷ es) k (suc i) → IsGap es k i
  shorter_gap e es k i g = record {
    within = omega (arith, g.within);
    below = λ j f lt at. g.below (suc j) f (omega arith) at;
    above = λ f at. g.above f at;
  }

  pub insert_gap : (es : Entries X) (k : RowKey) (v : X) (i : ℕ) → IsGap es k i → insert es i (k, v) ≡ insert_entry key_cmp es k v
  insert_gap [] k v zero g = refl
  insert_gap [] k v (suc i) g = absurd (omega (arith, g.within))
  insert_gap (e ∷ es) k v zero g = rw (g.above e refl) refl
  insert_gap (e ∷ es) k v (suc i) g =
      let later : insert es i (k, v) ≡ insert_entry key_cmp es k v = insert_gap es k v i (shorter_gap e es k i g) in
      rw (g.below 0 e (omega arith) refl) (ap (λ (fs : Entries X). e ∷ fs) later)

  -- ---- an entry put over the one of its key

  pub set_place : (es : Entries X) (k : RowKey) (v : X) (i : ℕ) → IsRising es → IsPlace es k i → set es i (k, v) ≡ insert_entry key_cmp es k v
  set_place [] k v i rising p = absurd cc
  set_place (e ∷ es) k v zero rising p =
      let here : e ≡ (k, p.value) = cc in
      let same : e.0 ≡ k = ap (λ (f : RowKey × X). f.0) here in
      let tied : key_cmp k e.0 ≡ Equal = ap (key_cmp k) same ∙ tied_itself key_cmp_total k in
      rw tied (ap (λ (j : RowKey). (j, v) ∷ es) (sym same))
  set_place (e ∷ es) k v (suc i) rising p =
      let less = rises (e ∷ es) rising 0 (suc i) e (k, p.value) (omega arith) refl p.there in
      let later : set es i (k, v) ≡ insert_entry key_cmp es k v = set_place es k v i (rising_tail e es rising) (record { value = p.value; there = p.there }) in
      rw (greater_from e.0 k less) (ap (λ (fs : Entries X). e ∷ fs) later)

  pub rising_put : (es fs : Entries X) (k : RowKey) (v : X) → IsRising es → fs ≡ insert_entry key_cmp es k v → IsRising fs
  rising_put es fs k v rising is = subst IsRising (sym is) (rising_insert es k v rising)

  -- an entry that is put into a gap, where there is memory for it
  pub rising_inserted : (es fs : Entries X) (k : RowKey) (v : X) (i : ℕ) (r : Result (Unit {0}) NoMemory) → IsRising es → IsGap es k i → OnOk r (fs ≡ insert es i (k, v)) → OnErr r (fs ≡ es) → IsRising fs
  rising_inserted es fs k v i (Ok done) rising g ok err = rising_put es fs k v rising (ok ∙ insert_gap es k v i g)
  rising_inserted es fs k v i (Err refused) rising g ok err = subst IsRising (sym err) rising
