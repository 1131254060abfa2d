-- A pass over the rows of a table, from the last one back.
use Rattle.std.proofs.Common.{◌≡◌, ℕ, Bool, true, false, cond, List, [], ◌∷◌, ◌++◌, filter, Ordering, Less, Equal, Greater, sym, refl, ap, ◌∙◌, subst, append_assoc, true≢false, arith}
use Rattle.std.specs.BTreeMap.{insert_entry}
use Rattle.std.specs.Ordering.{match_ordering, ordering_then, ordering_reverse, nat_cmp, is_lt, is_le}
use Rattle.std.specs.BTreeMap.Range.{entries_between}
use Rattle.std.specs.Cmp.{IsTotalOrder}
use Rattle.std.specs.Cmp.Lexicographic.{slice_cmp, bytes_decides}
use Rattle.std.specs.declared.ops.Bound.TheVariants.{Excluded, Unbounded}
use Rattle.std.specs.Prelude.{◌==◌, ◌&&◌, not, Option}
use Rattle.std.proofs.lemmas.Bool.Decides.{nat_tests}
use Rattle.std.proofs.lemmas.Cmp.{nat_cmp_total, nat_list_cmp_total, on_total, then_total, tied_itself}
use Rattle.std.proofs.lemmas.List.Elements.{filter-append}
use Rattle.seata_types.specs.Condition.{Condition}
use Rattle.seata_types.specs.Orders.{key_cmp, value_cmp, same_text}
use Rattle.seata_types.specs.declared.rows.Row.{Row}
use Rattle.seata_types.specs.declared.rows.RowKey.{RowKey}
use Rattle.local_tables.specs.Lookups.{IsRising, Passes, key_above, is_before}
use Rattle.local_tables.specs.Rows.{Rows, key_in, is_in, IsMap}
use Rattle.local_tables.specs.Touches.{is_matched}
use Rattle.local_tables.specs.declared.schemas.TableDef.{TableDef}
use Rattle.local_tables.proofs.MapLaws.{IsBelow, rising_head, rising_tail, below_filter, rising_filter}
use Rattle.local_tables.proofs.KeyLaws.{key_cmp_total}

-- an entry below all others goes to the front
insert_front : (es : Rows) (k : RowKey) (v : Row) → IsBelow k es → insert_entry key_cmp es k v ≡ (k, v) ∷ es
insert_front [] k v b = refl
insert_front (e ∷ es) k v b = ap (λ o. match_ordering o ((k, v) ∷ e ∷ es) ((e.0, v) ∷ es) (e ∷ insert_entry key_cmp es k v)) b.0

-- what stands behind an entry is above it
above_rest : (front : Rows) (e : RowKey × Row) (done : Rows) → IsRising (front ++ e ∷ done) → IsBelow e.0 done
above_rest [] e done s = rising_head e done s
above_rest (f ∷ fs) e done s = above_rest fs e done (rising_tail f (fs ++ e ∷ done) s)

module _ (p : RowKey × Row → Bool) (all left front found : Rows) (e : RowKey × Row) (s : IsRising all) (t : Passes p all left found) (last : left ≡ front ++ e ∷ []) where
  whole_more : all ≡ front ++ e ∷ t.done
  whole_more = t.whole ∙ ap (λ l. l ++ t.done) last ∙ append_assoc front (e ∷ []) t.done

  pub pass_kept : p e ≡ true → Passes p all front (insert_entry key_cmp found e.0 e.1)
  pass_kept holds =
      let above : IsBelow e.0 t.done = above_rest front e t.done (subst IsRising whole_more s) in
      record {
        done = e ∷ t.done;
        whole = whole_more;
        keeps = ap (λ l. insert_entry key_cmp l e.0 e.1) t.keeps ∙ insert_front (filter p t.done) e.0 e.1 (below_filter p e.0 t.done above)
            ∙ sym (ap (λ b. cond b (e ∷ filter p t.done) (filter p t.done)) holds);
      }

  pub pass_left : p e ≡ false → Passes p all front found
  pass_left fails = record { done = e ∷ t.done; whole = whole_more; keeps = t.keeps ∙ sym (ap (λ b. cond b (e ∷ filter p t.done) (filter p t.done)) fails) }

-- ---- tables, one after the other

-- the order of keys by their tables alone
table_cmp : RowKey → RowKey → Ordering
table_cmp a b = ordering_then (nat_cmp a.resource b.resource) (slice_cmp nat_cmp a.table b.table)

table_cmp_total : IsTotalOrder table_cmp
unfolding table_cmp
table_cmp_total = then_total (on_total (λ (k : RowKey). k.resource) nat_cmp_total) (on_total (λ (k : RowKey). k.table) nat_list_cmp_total)

by_tables : (a b c : Ordering) → ordering_then a (ordering_then b c) ≡ ordering_then (ordering_then a b) c
by_tables Less b c = refl
by_tables Equal b c = refl
by_tables Greater b c = refl

module _ (resource : ℕ) (def : TableDef) where
  abbrev some_key : RowKey
  some_key = key_in resource def []

  before : (k : RowKey) → is_before resource def k ≡ true → table_cmp k some_key ≡ Less
  unfolding table_cmp
  before k e = by (ordering_then (nat_cmp k.resource resource) (slice_cmp nat_cmp k.table def.name)) e
    where
      by : (o : Ordering) → is_lt o ≡ true → o ≡ Less
      by Less h = refl
      by Equal h = absurd (true≢false (sym h))
      by Greater h = absurd (true≢false (sym h))

  -- what is below a key of an earlier table is of an earlier table
  before_below : (j k : RowKey) → key_cmp j k ≡ Less → table_cmp k some_key ≡ Less → table_cmp j some_key ≡ Less
  unfolding table_cmp
  before_below j k less e = by (table_cmp j k) refl
    where
      split : ordering_then (table_cmp j k) (slice_cmp value_cmp j.pk k.pk) ≡ Less
      split = sym (by_tables (nat_cmp j.resource k.resource) (slice_cmp nat_cmp j.table k.table) (slice_cmp value_cmp j.pk k.pk)) ∙ less

      by : (o : Ordering) → table_cmp j k ≡ o → table_cmp j some_key ≡ Less
      by Less h = table_cmp_total.trans j k some_key h e
      by Equal h = table_cmp_total.congr j k some_key h ∙ e
      by Greater h = absurd (let no : Greater ≡ Less = ap (λ o. ordering_then o (slice_cmp value_cmp j.pk k.pk)) (sym h) ∙ split in cc)

  same_table : (k : RowKey) → is_in resource def k ≡ true → (k.resource ≡ resource) × (k.table ≡ def.name)
  same_table k e = by (k.resource == resource) (same_text k.table def.name) refl refl e
    where
      by : (a b : Bool) → (k.resource == resource) ≡ a → same_text k.table def.name ≡ b → (a && b) ≡ true → (k.resource ≡ resource) × (k.table ≡ def.name)
      by true true p q h = ((grind (arith, nat_tests)), (bytes_decides k.table def.name).0 q)
      by true false p q h = absurd (true≢false (sym h))
      by false b p q h = absurd (true≢false (sym h))

  before_out : (k : RowKey) → table_cmp k some_key ≡ Less → is_in resource def k ≡ false
  unfolding table_cmp
  before_out k e = by (is_in resource def k) refl
    where
      by : (b : Bool) → is_in resource def k ≡ b → b ≡ false
      by false h = refl
      by true h =
          let same = same_table k h in
          let level : table_cmp k some_key ≡ Equal =
          ap (λ r. ordering_then (nat_cmp r resource) (slice_cmp nat_cmp k.table def.name)) same.0 ∙ ap (λ t. ordering_then (nat_cmp resource resource) (slice_cmp nat_cmp t def.name)) same.1
          ∙ tied_itself table_cmp_total some_key in
          absurd (let no : Equal ≡ Less = sym level ∙ e in cc)

  longer : (text : List ℕ) → slice_cmp nat_cmp text (text ++ 0 ∷ []) ≡ Less
  longer [] = refl
  longer (c ∷ cs) = ap (λ o. ordering_then o (slice_cmp nat_cmp cs (cs ++ 0 ∷ []))) (tied_itself nat_cmp_total c) ∙ longer cs

  -- the keys of the table are below the one above them
  in_above : (k : RowKey) → is_in resource def k ≡ true → key_cmp k (key_above resource def) ≡ Less
  in_above k e =
      let same = same_table k e in
      let rest : Ordering = slice_cmp value_cmp k.pk [] in
      ap (λ r. ordering_then (nat_cmp r resource) (ordering_then (slice_cmp nat_cmp k.table (def.name ++ 0 ∷ [])) rest)) same.0
      ∙ ap (λ t. ordering_then (nat_cmp resource resource) (ordering_then (slice_cmp nat_cmp t (def.name ++ 0 ∷ [])) rest)) same.1
      ∙ ap (λ o. ordering_then o (ordering_then (slice_cmp nat_cmp def.name (def.name ++ 0 ∷ [])) rest)) (tied_itself nat_cmp_total resource)
      ∙ ap (λ o. ordering_then o rest) (longer def.name)

  module _ (asked : Option Condition) where
    abbrev test : RowKey × Row → Bool
    test = is_matched resource def asked

    out : (e : RowKey × Row) → is_in resource def e.0 ≡ false → test e ≡ false
    out e h = rw h refl

    -- no row in front of one of an earlier table is of the table
    none_in_front : (front : Rows) (e : RowKey × Row) (done : Rows) → IsRising (front ++ e ∷ done) → table_cmp e.0 some_key ≡ Less → filter test (front ++ e ∷ []) ≡ []
    none_in_front [] e done s h = ap (λ b. cond b (e ∷ []) []) (out e (before_out e.0 h))
    none_in_front (f ∷ fs) e done s h =
        ap (λ b. cond b (f ∷ filter test (fs ++ e ∷ [])) (filter test (fs ++ e ∷ []))) (out f (before_out f.0 (before_below f.0 e.0 (at_end fs (rising_head f (fs ++ e ∷ done) s)) h)))
        ∙ none_in_front fs e done (rising_tail f (fs ++ e ∷ done) s) h
      where
        at_end : (gs : Rows) → IsBelow f.0 (gs ++ e ∷ done) → key_cmp f.0 e.0 ≡ Less
        at_end [] b = b.0
        at_end (g ∷ gs) b = at_end gs b.1

    kept_between : (q : RowKey × Row → Bool) → ((e : RowKey × Row) → q e ≡ false → test e ≡ false) → (rows : Rows) → filter test (filter q rows) ≡ filter test rows
    kept_between q implied [] = refl
    kept_between q implied (e ∷ es) = by (kept_between q implied es) (q e) refl
      where
        by : filter test (filter q es) ≡ filter test es → (b : Bool) → q e ≡ b → filter test (cond b (e ∷ filter q es) (filter q es)) ≡ filter test (e ∷ es)
        by rest true h = ap (λ l. cond (test e) (e ∷ l) l) rest
        by rest false h = rest ∙ sym (ap (λ b. cond b (e ∷ filter test es) (filter test es)) (implied e h))

    outside : (e : RowKey × Row) → not (is_le (key_cmp (key_above resource def) e.0)) ≡ false → test e ≡ false
    outside e h = out e (by (is_in resource def e.0) refl)
      where
        by : (b : Bool) → is_in resource def e.0 ≡ b → b ≡ false
        by false g = refl
        by true g =
            let above : key_cmp (key_above resource def) e.0 ≡ Greater = key_cmp_total.antisymm (key_above resource def) e.0 ∙ ap ordering_reverse (in_above e.0 g) in
            absurd (true≢false (sym (ap (λ o. not (is_le o)) above) ∙ h))

    -- all rows of the table are in the range that ends above it
    pub within_end : (rows : Rows) → filter test (entries_between key_cmp Unbounded (Excluded (key_above resource def)) rows) ≡ filter test rows
    within_end rows = kept_between (λ e. not (is_le (key_cmp (key_above resource def) e.0))) outside rows

    pub rising_between : (rows : Rows) → IsMap rows → IsRising (entries_between key_cmp Unbounded (Excluded (key_above resource def)) rows)
    rising_between rows s = rising_filter (λ e. not (is_le (key_cmp (key_above resource def) e.0))) rows s

    pub at_end : (all left found : Rows) → Passes test all left found → left ≡ [] → found ≡ filter test all
    at_end all left found t none = t.keeps ∙ sym (ap (filter test) (t.whole ∙ ap (λ l. l ++ t.done) none))

    pub at_break : (all left front found : Rows) (e : RowKey × Row) → IsRising all → Passes test all left found → left ≡ front ++ e ∷ [] → is_before resource def e.0 ≡ true → found ≡ filter test all
    at_break all left front found e s t last earlier =
        let whole : all ≡ (front ++ e ∷ []) ++ t.done = t.whole ∙ ap (λ l. l ++ t.done) last in
        let rising : IsRising (front ++ e ∷ t.done) = subst IsRising (whole ∙ append_assoc front (e ∷ []) t.done) s in
        sym (ap (filter test) whole ∙ filter-append test (front ++ e ∷ []) t.done ∙ ap (λ l. l ++ filter test t.done) (none_in_front front e t.done rising (before e.0 earlier)) ∙ sym t.keeps)
