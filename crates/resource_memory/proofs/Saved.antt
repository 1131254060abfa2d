-- The snapshot of what is known, and what is known by a snapshot.
use Rattle.std.proofs.Common.{◌≡◌, ◌==◌, ◌≢◌, ◌<◌, ◌≤◌, ◌^◌, ℕ, Bool, true, false, cond, List, [], ◌∷◌, map, Option, Some, None, option_map, is_some, unwrap_or, Ordering, Less, Equal, Greater, refl, sym, ap, ◌∙◌, subst, true≢false, arith}
use Rattle.std.specs.List.{AllByRecursion, list_all}
use Rattle.std.specs.List.Sorted.{IsStrictlySortedBy}
use Rattle.std.specs.Map.{lookup, keys_of}
use Rattle.std.specs.Option.{option_and_then}
use Rattle.std.specs.Ordering.{is_eq}
use Rattle.std.proofs.lemmas.Bool.{and_parts, and_from, leb-true, le-leb, lt-ltb}
use Rattle.std.proofs.lemmas.Bool.Decides.{nat_tests}
use Rattle.std.proofs.lemmas.List.{length-map}
use Rattle.std.proofs.lemmas.List.Elements.{All-from_recursion, recursion_from_All}
use Rattle.seata_types.specs.declared.ids.Leg.{Leg}
use Rattle.seata_types.specs.declared.rows.Row.{Row}
use Rattle.seata_types.specs.declared.rows.RowKey.{RowKey}
use Rattle.byte_fields.specs.declared.layouts.KeyLayout.TheVariants as layout
use Rattle.byte_fields.specs.Layout.{IsInOrder}
use Rattle.byte_fields.specs.Parts.{FitsLeg, FitsNamedRow}
use Rattle.local_tables.specs.declared.schemas.Schema.{Schema}
use Rattle.local_tables.specs.Fitting.{entry_key}
use Rattle.local_tables.specs.Rows.{Rows}
use Rattle.durable_records.specs.Fences.{Fence, IsTried, IsCommitted, IsRollbacked, IsSuspended, leg_cmp}
use Rattle.undo_log.specs.Entries.{Log, IsInOrder as IsLogInOrder, is_leg, order}
use Rattle.undo_log.specs.declared.records.UndoEntry.{UndoEntry}
use Rattle.undo_log.specs.declared.records.UndoEntry.TheVariants as entry
use Rattle.tcc_fence.specs.Meanings.{Fences, fence_at, pair_of, status_of}
use Rattle.resource_log.specs.SnapshotOf.{named_row, undo_item, item_for, status_now}
use Rattle.resource_log.specs.Snapshots.{undo_leg, undo_follows, fence_follows, FitsUndoIn, FitsFence, FitsSnapshot}
use Rattle.resource_log.specs.Soundness.{has_tables, are_rising, row_keys, is_sound}
use Rattle.resource_log.specs.declared.states.FenceItem.{FenceItem}
use Rattle.resource_log.specs.declared.states.ResourceSnapshot.{ResourceSnapshot}
use Rattle.seata_types.specs.declared.limits.TheConstants.{ACTS}
use Rattle.resource_log.specs.declared.states.UndoItem.{UndoItem}
use Rattle.resource_log.specs.declared.states.UndoItem.TheVariants as undo
use Rattle.resource_memory.specs.Keeping.{HasItsKey, IsEntryOf, AreCalls, IsKept, FitsBranch, FitsParts, HasCounts}
use Rattle.resource_memory.specs.Known.{Known, Calls}
use Rattle.resource_memory.specs.Lookups.{call_at}
use Rattle.resource_memory.specs.Snapshots.{fence_item, snapshot_in, undo_entry, fence_entry, calls_in, known_in}
use Rattle.resource_memory.specs.Laws.{SavesWhatIsKnown, LoadsSoundSnapshots}
use Rattle.resource_memory.proofs.Fits.{images_rise, sorted_rises}
use Rattle.resource_memory.proofs.Legs.{pair_total, leg_total, leg_exact}
use Rattle.resource_memory.proofs.Listed.{sorted_in_order, order_from_sorted, in_any_order, each_mapped, each_weaker, map_map}
use Rattle.resource_memory.proofs.Maps.{same_entries}
use Rattle.resource_memory.proofs.RowLaws.{opened_rows, opened_again, opened_as, all_of_opening}

equal_is : (r : Ordering) → is_eq r ≡ true → r ≡ Equal
equal_is Less e = absurd (true≢false (sym e))
equal_is Equal e = refl
equal_is Greater e = absurd (true≢false (sym e))

leg_same : (q leg : Leg) → is_leg q leg ≡ true → q ≡ leg
leg_same q leg e = leg_exact q leg (equal_is (order q leg) e)

-- ---- tests of numbers

not_zero : (n : ℕ) → (n == 0) ≡ false → n ≢ 0
not_zero n e is = grind (arith, nat_tests)

zero_is : (n : ℕ) → (n == 0) ≡ true → n ≡ 0
zero_is n e = grind (arith, nat_tests)

-- ---- the calls of a list of fences

abbrev item_leg : FenceItem → Leg
item_leg f = f.leg

below_calls : (leg : Leg) (items : List FenceItem) → AllByRecursion (λ y. order leg y ≡ Less) (map item_leg items) → AllByRecursion (λ y. order leg y ≡ Less) (keys_of (calls_in items))
below_calls leg [] b = tt
below_calls leg (f ∷ fs) b = by (f.call == 0) (below_calls leg fs b.1)
  where
    by : (c : Bool) → AllByRecursion (λ y. order leg y ≡ Less) (keys_of (calls_in fs)) → AllByRecursion (λ y. order leg y ≡ Less) (keys_of (cond c (calls_in fs) ((f.leg, f.call) ∷ calls_in fs)))
    by true rest = rest
    by false rest = (b.0, rest)

pub calls_sorted : (items : List FenceItem) → IsStrictlySortedBy order (map item_leg items) → IsStrictlySortedBy order (keys_of (calls_in items))
unfolding IsStrictlySortedBy
calls_sorted [] s = tt
calls_sorted (f ∷ fs) s = by (f.call == 0) (calls_sorted fs s.1)
  where
    by : (c : Bool) → IsStrictlySortedBy order (keys_of (calls_in fs)) → IsStrictlySortedBy order (keys_of (cond c (calls_in fs) ((f.leg, f.call) ∷ calls_in fs)))
    by true rest = rest
    by false rest = (below_calls f.leg fs s.0, rest)

calls_counted : (items : List FenceItem) → AllByRecursion (λ e. e.1 ≢ 0) (calls_in items)
calls_counted [] = tt
calls_counted (f ∷ fs) = by (f.call == 0) refl (calls_counted fs)
  where
    by : (c : Bool) → (f.call == 0) ≡ c → AllByRecursion (λ e. e.1 ≢ 0) (calls_in fs) → AllByRecursion (λ e. e.1 ≢ 0) (cond c (calls_in fs) ((f.leg, f.call) ∷ calls_in fs))
    by true is rest = rest
    by false is rest = (not_zero f.call is, rest)

calls_short : (items : List FenceItem) → AllByRecursion FitsFence items → AllByRecursion (λ e. e.1 < 2 ^ 16) (calls_in items)
calls_short [] all = tt
calls_short (f ∷ fs) all = by (f.call == 0) (calls_short fs all.1)
  where
    by : (c : Bool) → AllByRecursion (λ e. e.1 < 2 ^ 16) (calls_in fs) → AllByRecursion (λ e. e.1 < 2 ^ 16) (cond c (calls_in fs) ((f.leg, f.call) ∷ calls_in fs))
    by true rest = rest
    by false rest = (all.0.call, rest)

-- where one of two is none, both tests and the other are
none_of : {V : Type 0} (b : Bool) (v : V) (o : Option V) → cond b (Some v) o ≡ None → (b ≡ false) × (o ≡ None)
none_of true v o e = absurd (some_none v e)
  where
    some_none : {W : Type 0} (w : W) → Some w ≡ None → ⊥
    some_none w f = cc
none_of false v o e = (refl, e)

calls_fenced : (items : List FenceItem) (q : Leg) → fence_at (map fence_entry items) q ≡ None → lookup (is_leg q) (calls_in items) ≡ None
calls_fenced [] q e = refl
calls_fenced (f ∷ fs) q e =
    let both = none_of (is_leg q f.leg) (status_of f.status) (fence_at (map fence_entry fs) q) e in
    by (f.call == 0) both.0 (calls_fenced fs q both.1)
  where
    by : (c : Bool) → is_leg q f.leg ≡ false → lookup (is_leg q) (calls_in fs) ≡ None → lookup (is_leg q) (cond c (calls_in fs) ((f.leg, f.call) ∷ calls_in fs)) ≡ None
    by true other rest = rest
    by false other rest = ap (λ b. cond b (Some f.call) (lookup (is_leg q) (calls_in fs))) other ∙ rest

-- ---- what a sound snapshot says

entry_leg : (u : UndoItem) → (undo_entry u).0 ≡ undo_leg u
entry_leg (undo.Normal r) = refl
entry_leg (undo.Finished leg) = refl

undo_legs : (undos : List UndoItem) → keys_of (map undo_entry undos) ≡ map undo_leg undos
undo_legs undos = map_map undo_entry (λ (e : Leg × UndoEntry). e.0) undo_leg entry_leg undos

pub undos_sorted : (undos : List UndoItem) → IsInOrder undo_follows None undos → IsLogInOrder (map undo_entry undos)
undos_sorted undos o = subst (λ (ks : List Leg). IsStrictlySortedBy order ks) (sym (undo_legs undos)) (sorted_in_order order leg_total undo_leg undos o)

pub fence_legs_sorted : (items : List FenceItem) → IsInOrder fence_follows None items → IsStrictlySortedBy order (map item_leg items)
fence_legs_sorted items o = sorted_in_order order leg_total item_leg items o

abbrev item_pair : FenceItem → ℕ × ℕ
item_pair f = pair_of f.leg

pub fences_sorted : (items : List FenceItem) → IsInOrder fence_follows None items → IsStrictlySortedBy leg_cmp (keys_of (map fence_entry items))
fences_sorted items o =
    subst (λ (ks : List (ℕ × ℕ)). IsStrictlySortedBy leg_cmp ks) (sym (map_map fence_entry (λ (e : (ℕ × ℕ) × Fence). e.0) item_pair (λ f. refl) items))
    (sorted_in_order leg_cmp pair_total item_pair items o)

module _ (resource : ℕ) (schema : Schema) where
  sound_entry : (u : UndoItem) → FitsUndoIn layout.Counted u → has_tables resource schema u ≡ true → IsEntryOf resource schema (undo_entry u).0 (undo_entry u).1
  sound_entry (undo.Normal r) fits tables = (refl, images_rise r.images fits.kept.1.0.order, tables)
  sound_entry (undo.Finished leg) fits tables = tt

  sound_entries : (undos : List UndoItem) → AllByRecursion (FitsUndoIn layout.Counted) undos → list_all (has_tables resource schema) undos ≡ true → AllByRecursion (λ e. IsEntryOf resource schema e.0 e.1) (map undo_entry undos)
  sound_entries [] fits tables = tt
  sound_entries (u ∷ us) fits tables =
      let both = and_parts (has_tables resource schema u) (list_all (has_tables resource schema) us) tables in
      (sound_entry u fits.0 both.0, sound_entries us fits.1 both.1)

fitting_entry : (u : UndoItem) → FitsUndoIn layout.Counted u → FitsUndoIn layout.Counted (undo_item (undo_entry u))
fitting_entry (undo.Normal r) fits = fits
fitting_entry (undo.Finished leg) fits = fits

record SoundParts (resource : ℕ) (schema : Schema) (s : ResourceSnapshot) : Type 0 where
  pub boots : s.boots ≤ s.acts
  pub undos : list_all (has_tables resource schema) s.undos ≡ true

sound_parts : (resource : ℕ) (schema : Schema) (s : ResourceSnapshot) → is_sound resource schema s ≡ true → SoundParts resource schema s
unfolding is_sound
sound_parts resource schema s sound =
    let one = and_parts _ _ sound in
    record { boots = leb-true s.boots s.acts (and_parts _ _ one.0).1; undos = (and_parts _ _ one.1).0 }

pub loads_sound : LoadsSoundSnapshots
loads_sound resource schema s sound fits =
    let parts = sound_parts resource schema s sound in
    let undos = recursion_from_All (FitsUndoIn layout.Counted) s.undos fits.undos.each in
    let fences = recursion_from_All FitsFence s.fences fits.fences.each in (
      record {
        counted = parts.boots;
        rows = opened_rows resource schema s.rows;
        undos = record { in_order = undos_sorted s.undos fits.undos.order; each = sound_entries resource schema s.undos undos parts.undos };
        fences = fences_sorted s.fences fits.fences.order;
        calls = record {
          in_order = calls_sorted s.fences (fence_legs_sorted s.fences fits.fences.order);
          counted = calls_counted s.fences;
          fenced = calls_fenced s.fences;
        };
      },
      record {
        rows = all_of_opening resource schema (λ e. FitsNamedRow (named_row e)) FitsNamedRow
            (λ o e f row. subst FitsNamedRow (sym (opened_as resource schema o e f)) row) s.rows (recursion_from_All FitsNamedRow s.rows fits.rows.each);
        undos = each_mapped (λ e. FitsUndoIn layout.Counted (undo_item e)) undo_entry s.undos (each_weaker (FitsUndoIn layout.Counted) (λ u. FitsUndoIn layout.Counted (undo_item (undo_entry u))) fitting_entry s.undos undos);
        fences = each_mapped FitsBranch fence_entry s.fences (each_weaker FitsFence (λ f. FitsLeg f.leg) (λ f fit. fit.leg) s.fences fences);
        calls = calls_short s.fences fences;
      },
    )

-- ---- the snapshot of what is known

saved_tables : (resource : ℕ) (schema : Schema) (log : Log) → AllByRecursion (λ e. IsEntryOf resource schema e.0 e.1) log → list_all (has_tables resource schema) (map undo_item log) ≡ true
saved_tables resource schema [] all = refl
saved_tables resource schema (e ∷ es) all = and_from (has_tables resource schema (undo_item e)) (list_all (has_tables resource schema) (map undo_item es)) (one e.0 e.1 all.0) (saved_tables resource schema es all.1)
  where
    one : (leg : Leg) (x : UndoEntry) → IsEntryOf resource schema leg x → has_tables resource schema (item_for leg x) ≡ true
    one leg (entry.Normal r) is = is.2
    one leg entry.Finished is = refl

saved_keys : (resource : ℕ) (schema : Schema) (rows : Rows) → AllByRecursion (HasItsKey resource schema) rows → row_keys resource schema (map named_row rows) ≡ Some (keys_of rows)
saved_keys resource schema [] all = refl
saved_keys resource schema (e ∷ es) all =
    ap (λ (o : Option (RowKey × Row)). option_and_then (λ y. option_map (λ ys. y ∷ ys) (row_keys resource schema (map named_row es))) (option_map entry_key o)) all.0
    ∙ ap (λ (o : Option (List RowKey)). option_map (λ ys. e.0 ∷ ys) o) (saved_keys resource schema es all.1)

pub saved_sound : (k : Known) → IsKept k → k.acts < ACTS → is_sound k.tables.resource k.tables.schema (snapshot_in k) ≡ true
unfolding is_sound
saved_sound k kept few =
    and_from _ _ (and_from _ _ (lt-ltb k.acts ACTS few) (le-leb k.boots k.acts kept.counted))
    (and_from _ _ (saved_tables k.tables.resource k.tables.schema k.undo_log kept.undos.each)
    (ap are_rising (saved_keys k.tables.resource k.tables.schema k.tables.rows kept.rows.keyed) ∙ sorted_rises (keys_of k.tables.rows) kept.rows.in_order))

-- ---- its room

saved_legs : (resource : ℕ) (schema : Schema) (log : Log) → AllByRecursion (λ e. IsEntryOf resource schema e.0 e.1) log → map undo_leg (map undo_item log) ≡ keys_of log
saved_legs resource schema [] all = refl
saved_legs resource schema (e ∷ es) all = ap (λ (l : Leg). l ∷ map undo_leg (map undo_item es)) (one e.0 e.1 all.0) ∙ ap (λ (ls : List Leg). e.0 ∷ ls) (saved_legs resource schema es all.1)
  where
    one : (leg : Leg) (x : UndoEntry) → IsEntryOf resource schema leg x → undo_leg (item_for leg x) ≡ leg
    one leg (entry.Normal r) is = is.0
    one leg entry.Finished is = refl

call_short : (calls : Calls) (leg : Leg) → AllByRecursion (λ e. e.1 < 2 ^ 16) calls → call_at calls leg < 2 ^ 16
call_short [] leg all = omega arith
call_short (e ∷ es) leg all = by (is_leg leg e.0) (call_short es leg all.1)
  where
    by : (b : Bool) → call_at es leg < 2 ^ 16 → unwrap_or (cond b (Some e.1) (lookup (is_leg leg) es)) 0 < 2 ^ 16
    by true rest = all.0
    by false rest = rest

fence_items_fit : (calls : Calls) (fences : Fences) → AllByRecursion FitsBranch fences → AllByRecursion (λ e. e.1 < 2 ^ 16) calls → AllByRecursion (λ f. FitsFence (fence_item calls f)) fences
fence_items_fit calls [] all short = tt
fence_items_fit calls (f ∷ fs) all short = (record { leg = all.0; call = call_short calls (fence_item calls f).leg short }, fence_items_fit calls fs all.1 short)

fence_pairs : (calls : Calls) (fences : Fences) → map item_pair (map (fence_item calls) fences) ≡ keys_of fences
fence_pairs calls fences = map_map (fence_item calls) item_pair (λ (f : (ℕ × ℕ) × Fence). f.0) (λ f. refl) fences

fence_items_order : (calls : Calls) (fences : Fences) → IsStrictlySortedBy leg_cmp (keys_of fences) → IsInOrder fence_follows None (map (fence_item calls) fences)
fence_items_order calls fences s =
    order_from_sorted leg_cmp pair_total item_pair (map (fence_item calls) fences) (subst (λ (ks : List (ℕ × ℕ)). IsStrictlySortedBy leg_cmp ks) (sym (fence_pairs calls fences)) s)

below_more : (n : ℕ) → n < ACTS → n < 2 ^ 32
below_more n e = omega arith

below_both : (b n : ℕ) → b ≤ n → n < ACTS → b < 2 ^ 32
below_both b n le e = omega arith

saved_fits : (k : Known) → IsKept k → FitsParts k → HasCounts k → FitsSnapshot (snapshot_in k)
saved_fits k kept parts counts = record {
  acts = below_more k.acts counts.acts;
  boots = below_both k.boots k.acts kept.counted counts.acts;
  rows = record {
    count = subst (λ (n : ℕ). n < 2 ^ 32) (sym (length-map k.tables.rows named_row)) counts.rows;
    each = All-from_recursion FitsNamedRow (map named_row k.tables.rows) (each_mapped FitsNamedRow named_row k.tables.rows parts.rows);
    order = in_any_order (map named_row k.tables.rows);
  };
  undos = record {
    count = subst (λ (n : ℕ). n < 2 ^ 32) (sym (length-map k.undo_log undo_item)) counts.undos;
    each = All-from_recursion (FitsUndoIn layout.Counted) (map undo_item k.undo_log) (each_mapped (FitsUndoIn layout.Counted) undo_item k.undo_log parts.undos);
    order = order_from_sorted order leg_total undo_leg (map undo_item k.undo_log)
        (subst (λ (ks : List Leg). IsStrictlySortedBy order ks) (sym (saved_legs k.tables.resource k.tables.schema k.undo_log kept.undos.each)) kept.undos.in_order);
  };
  fences = record {
    count = subst (λ (n : ℕ). n < 2 ^ 32) (sym (length-map k.fences (fence_item k.calls))) counts.fences;
    each = All-from_recursion FitsFence (map (fence_item k.calls) k.fences) (each_mapped FitsFence (fence_item k.calls) k.fences (fence_items_fit k.calls k.fences parts.fences parts.calls));
    order = fence_items_order k.calls k.fences kept.fences;
  };
}

-- ---- and it says what is known

entries_again : (resource : ℕ) (schema : Schema) (log : Log) → AllByRecursion (λ e. IsEntryOf resource schema e.0 e.1) log → map undo_entry (map undo_item log) ≡ log
entries_again resource schema [] all = refl
entries_again resource schema (e ∷ es) all =
    ap (λ (x : Leg × UndoEntry). x ∷ map undo_entry (map undo_item es)) (one e.0 e.1 all.0) ∙ ap (λ (l : Log). e ∷ l) (entries_again resource schema es all.1)
  where
    one : (leg : Leg) (x : UndoEntry) → IsEntryOf resource schema leg x → undo_entry (item_for leg x) ≡ (leg, x)
    one leg (entry.Normal r) is = ap (λ (l : Leg). (l, entry.Normal r)) is.0
    one leg entry.Finished is = refl

status_again : (s : Fence) → status_of (status_now s) ≡ s
status_again IsTried = refl
status_again IsCommitted = refl
status_again IsRollbacked = refl
status_again IsSuspended = refl

fences_again : (calls : Calls) (fences : Fences) → map fence_entry (map (fence_item calls) fences) ≡ fences
fences_again calls [] = refl
fences_again calls (f ∷ fs) =
    ap (λ (s : Fence). (f.0, s) ∷ map fence_entry (map (fence_item calls) fs)) (status_again f.1) ∙ ap (λ (l : Fences). f ∷ l) (fences_again calls fs)

module _ (calls : Calls) (counted : AllByRecursion (λ e. e.1 ≢ 0) calls) where
  abbrev called : Leg → Option ℕ
  called q = lookup (is_leg q) calls

  counted_at : (es : Calls) → AllByRecursion (λ e. e.1 ≢ 0) es → (q : Leg) → (o : Option ℕ) → lookup (is_leg q) es ≡ o → unwrap_or o 0 ≡ 0 → o ≡ None
  counted_at [] all q o is zero = sym is
  counted_at (e ∷ es) all q o is zero = by (is_leg q e.0) is (λ rest. counted_at es all.1 q o rest zero)
    where
      by : (b : Bool) → cond b (Some e.1) (lookup (is_leg q) es) ≡ o → (lookup (is_leg q) es ≡ o → o ≡ None) → o ≡ None
      by true this below = absurd (all.0 (ap (λ (p : Option ℕ). unwrap_or p 0) this ∙ zero))
      by false rest below = below rest

  -- a branch whose call is 0 has none
  no_call : (q : Leg) → call_at calls q ≡ 0 → called q ≡ None
  no_call q zero = counted_at calls counted q (called q) refl zero

  some_call : (o : Option ℕ) → unwrap_or o 0 ≢ 0 → o ≡ Some (unwrap_or o 0)
  some_call None other = absurd (other refl)
  some_call (Some n) other = refl

  cond_none : (b : Bool) → cond {A = Option ℕ} b None None ≡ None
  cond_none true = refl
  cond_none false = refl

  abbrev leg_in : (ℕ × ℕ) × Fence → Leg
  leg_in f = record { xid = record { 0 = f.0.0 }; branch = record { 0 = f.0.1 } }

  abbrev listed_calls : Fences → Calls
  listed_calls fences = calls_in (map (fence_item calls) fences)

  listed : (fences : Fences) (q : Leg) → lookup (is_leg q) (listed_calls fences) ≡ cond (is_some (fence_at fences q)) (called q) None
  listed [] q = refl
  listed (f ∷ fs) q = by (call_at calls (leg_in f) == 0) refl (is_leg q (leg_in f)) refl (listed fs q)
    where
      by : (b : Bool) → (call_at calls (leg_in f) == 0) ≡ b → (t : Bool) → is_leg q (leg_in f) ≡ t → lookup (is_leg q) (listed_calls fs) ≡ cond (is_some (fence_at fs q)) (called q) None →
          lookup (is_leg q) (cond b (listed_calls fs) ((leg_in f, call_at calls (leg_in f)) ∷ listed_calls fs)) ≡ cond (is_some (cond t (Some f.1) (fence_at fs q))) (called q) None
      by true zero true is rest =
          let same : q ≡ leg_in f = leg_same q (leg_in f) is in
          let none : called q ≡ None = ap called same ∙ no_call (leg_in f) (zero_is (call_at calls (leg_in f)) zero) in
          rest ∙ ap (λ o. cond (is_some (fence_at fs q)) o None) none ∙ cond_none (is_some (fence_at fs q)) ∙ sym none
      by true zero false is rest = rest
      by false other true is rest =
          let same : q ≡ leg_in f = leg_same q (leg_in f) is in
          ap (λ t. cond t (Some (call_at calls (leg_in f))) (lookup (is_leg q) (listed_calls fs))) is ∙ sym (some_call (called (leg_in f)) (not_zero (call_at calls (leg_in f)) other)) ∙ ap called (sym same)
      by false other false is rest = ap (λ t. cond t (Some (call_at calls (leg_in f))) (lookup (is_leg q) (listed_calls fs))) is ∙ rest

  fenced_all : (fences : Fences) (q : Leg) → (fence_at fences q ≡ None → called q ≡ None) → (o : Option Fence) → fence_at fences q ≡ o → cond (is_some o) (called q) None ≡ called q
  fenced_all fences q fenced None is = sym (fenced is)
  fenced_all fences q fenced (Some s) is = refl

  item_legs_sorted : (fences : Fences) → IsStrictlySortedBy leg_cmp (keys_of fences) → IsStrictlySortedBy order (map item_leg (map (fence_item calls) fences))
  item_legs_sorted fences s = fence_legs_sorted (map (fence_item calls) fences) (fence_items_order calls fences s)

  calls_again : (fences : Fences) → IsStrictlySortedBy leg_cmp (keys_of fences) → AreCalls fences calls → calls_in (map (fence_item calls) fences) ≡ calls
  calls_again fences s c =
      same_entries order leg_total leg_exact (calls_in (map (fence_item calls) fences)) calls (calls_sorted (map (fence_item calls) fences) (item_legs_sorted fences s)) c.in_order
      (λ q. listed fences q ∙ fenced_all fences q (c.fenced q) (fence_at fences q) refl)

same_known : (a b : Known) → a.acts ≡ b.acts → a.boots ≡ b.boots → a.tables ≡ b.tables → a.undo_log ≡ b.undo_log → a.fences ≡ b.fences → a.calls ≡ b.calls → a ≡ b
same_known a b p q r s t u = λ i. record { acts = p i; boots = q i; tables = r i; undo_log = s i; fences = t i; calls = u i }

pub read_back : (k : Known) → IsKept k → known_in k.tables.resource k.tables.schema (snapshot_in k) ≡ k
read_back k kept =
    same_known (known_in k.tables.resource k.tables.schema (snapshot_in k)) k refl refl (opened_again k.tables kept.rows)
    (entries_again k.tables.resource k.tables.schema k.undo_log kept.undos.each) (fences_again k.calls k.fences) (calls_again k.calls kept.calls.counted k.fences kept.fences kept.calls)

pub saves_known : SavesWhatIsKnown
saves_known k kept parts counts = record { sound = saved_sound k kept counts.acts; fits = saved_fits k kept parts counts; read_back = read_back k kept }
