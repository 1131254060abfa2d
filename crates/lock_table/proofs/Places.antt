-- What stands at a place in the index, and what a row put once more and one given back once leave.
use Rattle.std.proofs.Common.{◌≡◌, ℕ, zero, suc, ◌+◌, ◌-◌, ◌<◌, ◌==◌, Bool, true, false, cond, [], ◌∷◌, get_or, slice_set, Option, Some, None, Equal, refl, sym, ap, ◌∙◌, arith}
use Rattle.std.specs.Prelude.{option_map}
use Rattle.std.specs.List.{insert, remove}
use Rattle.std.specs.BTreeMap.{insert_entry}
use Rattle.std.specs.Map.{remove_entry, keys_of}
use Rattle.std.specs.Ordering.{is_eq}
use Rattle.std.proofs.lemmas.Cmp.{tied_itself}
use Rattle.std.proofs.lemmas.Option.{get_or_from_slice_get}
use Rattle.std.proofs.lemmas.Map.Entries.{lookup_from_place, lookup_at_gap}
use Rattle.std.proofs.lemmas.Map.Keys.{IsDistinct-from_sorted}
use Rattle.seata_types.specs.Orders.{key_cmp}
use Rattle.seata_types.specs.declared.ids.Xid.{Xid}
use Rattle.seata_types.specs.declared.rows.RowKey.{RowKey}
use Rattle.local_tables.specs.Rows.{is_key}
use Rattle.local_tables.specs.Lookups.{IsRising}
use Rattle.local_tables.proofs.KeyLaws.{key_cmp_total, is_key_laws, same_key}
use Rattle.local_tables.proofs.MapLaws.{at_insert, at_remove, rising_insert, rising_remove, rising_tail, is_key_itself}
use Rattle.lock_table.specs.declared.holder.Holder.{Holder}
use Rattle.lock_table.specs.Locks.{locked}
use Rattle.lock_table.specs.Counts.{Index, held_at, locks_of, once_more, once_less}
use Rattle.lock_table.specs.Searches.{IsPlace, IsGap}
use Rattle.lock_table.proofs.Searching.{rises, greater_from}
use Rattle.lock_table.proofs.Holders.{locked_is}

pub held_place : (rows : Index) (r : RowKey) (i : ℕ) → IsRising rows → (p : IsPlace rows r i) → held_at rows r ≡ Some p.holder
held_place rows r i rising p = lookup_from_place is_key_laws rows i r p.holder (IsDistinct-from_sorted key_cmp (keys_of rows) rising) p.there

none_held : (rows : Index) (r : RowKey) (i : ℕ) → IsRising rows → IsGap rows r i → held_at rows r ≡ None
none_held rows r i rising g = lookup_at_gap key_cmp_total r rows i rising g.below g.above

pub holder_there : (rows : Index) (r : RowKey) (i : ℕ) (d : RowKey × Holder) → IsRising rows → IsPlace rows r i → Some (get_or rows i d).1.xid ≡ locked (locks_of rows) r
holder_there rows r i d rising p =
    let here : get_or rows i d ≡ (r, p.holder) = get_or_from_slice_get rows i (r, p.holder) d p.there in
    ap (λ (e : RowKey × Holder). Some e.1.xid) here ∙ sym (locked_is rows r ∙ ap (option_map (λ (h : Holder). h.xid)) (held_place rows r i rising p))

pub none_there : (rows : Index) (r : RowKey) (i : ℕ) → IsRising rows → IsGap rows r i → None ≡ locked (locks_of rows) r
none_there rows r i rising g = sym (locked_is rows r ∙ ap (option_map (λ (h : Holder). h.xid)) (none_held rows r i rising g))

-- ---- a row put into a gap

shorter_gap : (e : RowKey × Holder) (ls : Index) (r : RowKey) (i : ℕ) → IsGap (e ∷ ls) r (suc i) → IsGap ls r i
shorter_gap e ls r i g = record {
  within = omega (arith, g.within);
  below = λ j f lt at. g.below (suc j) f (omega arith) at;
  above = λ f at. g.above f at;
}

insert_gap : (ls : Index) (r : RowKey) (x : Holder) (i : ℕ) → IsGap ls r i → insert ls i (r, x) ≡ insert_entry key_cmp ls r x
insert_gap [] r x zero g = refl
insert_gap [] r x (suc i) g = absurd (omega (arith, g.within))
insert_gap (e ∷ es) r x zero g = rw (g.above e refl) refl
insert_gap (e ∷ es) r x (suc i) g =
    let later : insert es i (r, x) ≡ insert_entry key_cmp es r x = insert_gap es r x i (shorter_gap e es r i g) in
    rw (g.below 0 e (omega arith) refl) (ap (λ (fs : Index). e ∷ fs) later)

-- ---- a holder written where the row stands

written : (rows : Index) (r : RowKey) (v : Holder) (i : ℕ) → IsRising rows → IsPlace rows r i → slice_set rows i (r, v) ≡ insert_entry key_cmp rows r v
written [] r v i rising p = absurd cc
written (e ∷ es) r v zero rising p =
    let here : e ≡ (r, p.holder) = cc in
    let test : key_cmp r e.0 ≡ Equal = ap (λ (f : RowKey × Holder). key_cmp r f.0) here ∙ tied_itself key_cmp_total r in
    rw test (ap (λ (f : RowKey × Holder). (f.0, v) ∷ es) (sym here))
written (e ∷ es) r v (suc i) rising p =
    let less = rises (e ∷ es) rising 0 (suc i) e (r, p.holder) (omega arith) refl p.there in
    let later : slice_set es i (r, v) ≡ insert_entry key_cmp es r v = written es r v i (rising_tail e es rising) (record { holder = p.holder; there = p.there }) in
    rw (greater_from e.0 r less) (ap (λ (fs : Index). e ∷ fs) later)

-- ---- a row put once more

pub put_gap : (old new : Index) (r : RowKey) (x : Xid) (i : ℕ) → IsRising old → IsGap old r i → new ≡ insert old i (r, record { xid = x; more = 0 }) → new ≡ insert_entry key_cmp old r (once_more x (held_at old r))
put_gap old new r x i rising g is = is ∙ insert_gap old r (record { xid = x; more = 0 }) i g ∙ ap (λ (o : Option Holder). insert_entry key_cmp old r (once_more x o)) (sym (none_held old r i rising g))

pub put_place : (old new : Index) (r : RowKey) (x : Xid) (i : ℕ) (e : RowKey × Holder) → IsRising old → IsPlace old r i → e ≡ get_or old i e → new ≡ slice_set old i (e.0, record { xid = e.1.xid; more = e.1.more + 1 }) →
    new ≡ insert_entry key_cmp old r (once_more x (held_at old r))
put_place old new r x i e rising p there is =
    let here : e ≡ (r, p.holder) = there ∙ get_or_from_slice_get old i (r, p.holder) e p.there in
    is ∙ ap (λ (f : RowKey × Holder). slice_set old i (f.0, record { xid = f.1.xid; more = f.1.more + 1 })) here ∙
    written old r (record { xid = p.holder.xid; more = p.holder.more + 1 }) i rising p ∙
    ap (λ (o : Option Holder). insert_entry key_cmp old r (once_more x o)) (sym (held_place old r i rising p))

-- one more fits where the row stands
pub more_fits : (rows : Index) (r : RowKey) (i most : ℕ) (e : RowKey × Holder) → IsRising rows → IsPlace rows r i → e ≡ get_or rows i e → ((h : Holder) → held_at rows r ≡ Some h → h.more + 1 < most) → e.1.more + 1 < most
more_fits rows r i most e rising p there few =
    let here : e ≡ (r, p.holder) = there ∙ get_or_from_slice_get rows i (r, p.holder) e p.there in
    let bound : p.holder.more + 1 < most = few p.holder (held_place rows r i rising p) in
    rw here bound

pub put_order : (old new : Index) (r : RowKey) (v : Holder) → IsRising old → new ≡ insert_entry key_cmp old r v → IsRising new
put_order old new r v rising is = rw is (rising_insert old r v rising)

pub put_there : (old new : Index) (r : RowKey) (v : Holder) → new ≡ insert_entry key_cmp old r v → (q : RowKey) → held_at new q ≡ cond (is_key r q) (Some v) (held_at old q)
put_there old new r v is q = ap (λ (rows : Index). held_at rows q) is ∙ at_insert old r v q

-- ---- a row taken out at its place

remove_place : (ls : Index) (r : RowKey) (i : ℕ) → IsRising ls → IsPlace ls r i → remove ls i ≡ remove_entry (is_key r) ls
remove_place [] r i rising p = absurd cc
remove_place (e ∷ es) r zero rising p =
    let here : e ≡ (r, p.holder) = cc in
    let test : is_key r e.0 ≡ true = ap (λ (f : RowKey × Holder). is_key r f.0) here ∙ is_key_itself r in
    rw test refl
remove_place (e ∷ es) r (suc i) rising p =
    let less = rises (e ∷ es) rising 0 (suc i) e (r, p.holder) (omega arith) refl p.there in
    let test : is_key r e.0 ≡ false = ap is_eq (greater_from e.0 r less) in
    let later : remove es i ≡ remove_entry (is_key r) es = remove_place es r i (rising_tail e es rising) (record { holder = p.holder; there = p.there }) in
    rw test (ap (λ (fs : Index). e ∷ fs) later)

-- ---- a row given back once

last_back : (old new : Index) (r : RowKey) (i : ℕ) → IsRising old → IsPlace old r i → new ≡ remove old i → new ≡ remove_entry (is_key r) old
last_back old new r i rising p is = is ∙ remove_place old r i rising p

pub last_order : (old new : Index) (r : RowKey) (i : ℕ) → IsRising old → IsPlace old r i → new ≡ remove old i → IsRising new
last_order old new r i rising p is = rw (last_back old new r i rising p is) (rising_remove old r rising)

abbrev pub lessened : Holder → Holder
lessened h = record { xid = h.xid; more = h.more - 1 }

less_is : (h : Holder) (b : Bool) → (h.more == 0) ≡ b → once_less (Some h) ≡ cond b None (Some (lessened h))
less_is h b is = ap (λ (t : Bool). cond t None (Some (lessened h))) is

back_is : (old : Index) (r : RowKey) (i : ℕ) (e : RowKey × Holder) (b : Bool) → IsRising old → IsPlace old r i → e ≡ get_or old i e → (e.1.more == 0) ≡ b → once_less (held_at old r) ≡ cond b None (Some (lessened e.1))
back_is old r i e b rising p there is =
    let here : e ≡ (r, p.holder) = there ∙ get_or_from_slice_get old i (r, p.holder) e p.there in
    ap once_less (held_place old r i rising p ∙ ap (λ (f : RowKey × Holder). Some f.1) (sym here)) ∙ less_is e.1 b is

pub last_there : (old new : Index) (r : RowKey) (i : ℕ) (e : RowKey × Holder) → IsRising old → IsPlace old r i → e ≡ get_or old i e → (e.1.more == 0) ≡ true → new ≡ remove old i →
    (q : RowKey) → held_at new q ≡ cond (is_key r q) (once_less (held_at old r)) (held_at old q)
last_there old new r i e rising p there none is q =
    ap (λ (rows : Index). held_at rows q) (last_back old new r i rising p is) ∙ at_remove old r q rising ∙
    ap (λ (o : Option Holder). cond (is_key r q) o (held_at old q)) (sym (back_is old r i e true rising p there none))

pub less_back : (old new : Index) (r : RowKey) (i : ℕ) (e : RowKey × Holder) → IsRising old → IsPlace old r i → e ≡ get_or old i e → new ≡ slice_set old i (e.0, lessened e.1) →
    new ≡ insert_entry key_cmp old r (lessened e.1)
less_back old new r i e rising p there is =
    let here : e ≡ (r, p.holder) = there ∙ get_or_from_slice_get old i (r, p.holder) e p.there in
    is ∙ ap (λ (f : RowKey × Holder). slice_set old i (f.0, lessened e.1)) here ∙ written old r (lessened e.1) i rising p

pub less_there : (old new : Index) (r : RowKey) (i : ℕ) (e f : RowKey × Holder) → IsRising old → IsPlace old r i → e ≡ get_or old i e → f ≡ get_or old i f → (f.1.more == 0) ≡ false → new ≡ slice_set old i (e.0, lessened e.1) →
    (q : RowKey) → held_at new q ≡ cond (is_key r q) (once_less (held_at old r)) (held_at old q)
less_there old new r i e f rising p there tested some is q =
    let same : f ≡ e = tested ∙ get_or_from_slice_get old i (r, p.holder) f p.there ∙ sym (there ∙ get_or_from_slice_get old i (r, p.holder) e p.there) in
    put_there old new r (lessened e.1) (less_back old new r i e rising p there is) q ∙
    ap (λ (o : Option Holder). cond (is_key r q) o (held_at old q)) (sym (back_is old r i f false rising p tested some ∙ ap (λ (g : RowKey × Holder). Some (lessened g.1)) same))

same_by : (b : Bool) (o p : Option Holder) → (b ≡ true → o ≡ p) → p ≡ None → o ≡ cond b (once_less p) o
same_by true o p same none = rw (same refl, none) refl
same_by false o p same none = refl

-- a row that isn't there
pub none_back : (rows : Index) (r : RowKey) (i : ℕ) → IsRising rows → IsGap rows r i → (q : RowKey) → held_at rows q ≡ cond (is_key r q) (once_less (held_at rows r)) (held_at rows q)
none_back rows r i rising g q =
    same_by (is_key r q) (held_at rows q) (held_at rows r) (λ same. ap (λ (k : RowKey). held_at rows k) (sym (same_key r q same))) (none_held rows r i rising g)
