-- The rows of an effect: images of different rows, each with the row before, and reads, all of the statements' tables.
use Rattle.std.proofs.Common.{◌≡◌, inl, inr, ℕ, ◌+◌, ◌==◌, ◌&&◌, Bool, true, false, cond, List, [], ◌∷◌, ◌++◌, map, Option, Some, None, option_map, Result, Ok, Err, refl, ap, sym, subst, subst₂, ◌∙◌, arith}
use Rattle.std.specs.List.{cons_option, AllByRecursion}
use Rattle.std.specs.List.Sorted.{IsStrictlySortedBy}
use Rattle.std.specs.BTreeMap.{insert_entry}
use Rattle.std.specs.Map.{keys_of}
use Rattle.std.proofs.lemmas.Bool.Decides.{nat_tests}
use Rattle.std.proofs.lemmas.List.Elements.{All-from_recursion}
use Rattle.std.proofs.lemmas.Option.{none-some}
use Rattle.seata_types.specs.Condition.{Condition}
use Rattle.seata_types.specs.Orders.{key_cmp, same_text}
use Rattle.seata_types.specs.declared.errors.StmtError.{StmtError}
use Rattle.seata_types.specs.declared.rows.ReadRow.{ReadRow}
use Rattle.seata_types.specs.declared.rows.Row.{Row}
use Rattle.seata_types.specs.declared.rows.RowKey.{RowKey}
use Rattle.seata_types.specs.declared.rows.Value.{Value}
use Rattle.seata_types.specs.declared.statements.Stmt.{Stmt}
use Rattle.seata_types.specs.declared.statements.Stmt.TheVariants as stmt
use Rattle.local_tables.specs.Calls.{Call, Meaning, nothing, insert_all, step, steps, effect, effect_of, to_effect, image_of, read_of}
use Rattle.local_tables.specs.Cells.{selects}
use Rattle.local_tables.specs.Checks.{table_of}
use Rattle.local_tables.specs.EffectRows.{IsInTable, IsInTables, IsImageBy, IsEffectOf, EffectsAreOfTheirTables, ReadsAreTheLast, read_at, read_later, read_key}
use Rattle.local_tables.specs.Lookups.{IsRising}
use Rattle.local_tables.specs.Rows.{Rows, Change, Database, row_at, is_key, key_values, put_all, table_named, comes, goes, is_in, keyed, with_key, side, applied, IsMap}
use Rattle.local_tables.specs.Touches.{touches, readings, matched, is_matched, inserted, inserted_row, becomes, tuple_row}
use Rattle.local_tables.specs.declared.schemas.Effect.{Effect}
use Rattle.local_tables.specs.declared.schemas.TableDef.{TableDef}
use Rattle.local_tables.specs.declared.schemas.Way.TheVariants as way
use Rattle.local_tables.proofs.ChangeLaws.{each_insert_all}
use Rattle.local_tables.proofs.EffectLaws.{images_rise}
use Rattle.local_tables.proofs.KeyLaws.{same_key, is_key_laws, same_text_itself}
use Rattle.local_tables.proofs.MapLaws.{rising_insert, rising_head, rising_tail, rising_filter, none_below, at_insert}
use Rattle.local_tables.proofs.MeaningLaws.{Oks, step_oks, with_step}
use Rattle.local_tables.proofs.PutLaws.{map_put_all}

-- ---- lists

pub all_mapped : {X Y : Type 0} (P : X → Type 0) (Q : Y → Type 0) (f : X → Y) → ((x : X) → P x → Q (f x)) → (xs : List X) → AllByRecursion P xs → AllByRecursion Q (map f xs)
all_mapped P Q f on [] all = tt
all_mapped P Q f on (x ∷ xs) all = (on x all.0, all_mapped P Q f on xs all.1)

pub rising_insert_all : {X : Type 0} (es fs : List (RowKey × X)) → IsRising es → IsRising (insert_all es fs)
rising_insert_all es [] s = s
rising_insert_all es (f ∷ fs) s = rising_insert_all (insert_entry key_cmp es f.0 f.1) fs (rising_insert es f.0 f.1 s)

-- ---- one statement

and_left : (a b : Bool) → (a && b) ≡ true → a ≡ true
and_left true b e = refl
and_left false b e = cc

own_number : (n : ℕ) → (n == n) ≡ true
own_number n = grind (arith, nat_tests)

module _ (resource : ℕ) (def : TableDef) (P : RowKey → Type 0) (of_table : (k : RowKey) → is_in resource def k ≡ true → P k) where
  matched_are : (asked : Option Condition) (rows : Rows) → AllByRecursion (λ (e : RowKey × Row). P e.0) (matched resource def asked rows)
  matched_are asked [] = tt
  matched_are asked (e ∷ rows) = by (is_matched resource def asked e) refl (matched_are asked rows)
    where
      by : (b : Bool) → is_matched resource def asked e ≡ b → AllByRecursion (λ (r : RowKey × Row). P r.0) (matched resource def asked rows)
          → AllByRecursion (λ (r : RowKey × Row). P r.0) (cond b (e ∷ matched resource def asked rows) (matched resource def asked rows))
      by true t rest = (of_table e.0 (and_left (is_in resource def e.0) (selects def asked e.1) t), rest)
      by false t rest = rest

  keyed_is : (row : Row) (e : RowKey × Row) → keyed resource def row ≡ Some e → P e.0
  keyed_is row e is = by (key_values def row) is
    where
      by : (o : Option (List Value)) → option_map (with_key resource def row) o ≡ Some e → P e.0
      by None f = absurd (none-some e f)
      by (Some pk) f =
          let same : with_key resource def row pk ≡ e = cc in
          subst (λ (q : RowKey × Row). P q.0) same (of_table (with_key resource def row pk).0 (ap (λ b. b && same_text def.name def.name) (own_number resource) ∙ same_text_itself def.name))

  inserted_are : (columns : List (List ℕ)) (tuples : List (List Value)) → AllByRecursion (λ (e : RowKey × Row). P e.0) (inserted resource def columns tuples)
  inserted_are columns [] = tt
  inserted_are columns (t ∷ ts) = by (inserted_row resource def columns t) refl (inserted_are columns ts)
    where
      by : (o : Option (RowKey × Row)) → inserted_row resource def columns t ≡ o → AllByRecursion (λ (e : RowKey × Row). P e.0) (inserted resource def columns ts)
          → AllByRecursion (λ (e : RowKey × Row). P e.0) (cons_option o (inserted resource def columns ts))
      by None e rest = rest
      by (Some x) e rest = (keyed_is (tuple_row def columns t) x e, rest)

  touches_are : (s : Stmt) (rows : Rows) → AllByRecursion (λ (c : Change). P c.0) (touches resource def s rows)
  touches_are (stmt.Insert table columns tuples) rows = all_mapped (λ (e : RowKey × Row). P e.0) (λ (c : Change). P c.0) comes (λ e p. p) (inserted resource def columns tuples) (inserted_are columns tuples)
  touches_are (stmt.Update table sets asked) rows = all_mapped (λ (e : RowKey × Row). P e.0) (λ (c : Change). P c.0) (becomes def sets) (λ e p. p) (matched resource def asked rows) (matched_are asked rows)
  touches_are (stmt.Delete table asked) rows = all_mapped (λ (e : RowKey × Row). P e.0) (λ (c : Change). P c.0) goes (λ e p. p) (matched resource def asked rows) (matched_are asked rows)
  touches_are (stmt.Select table asked) rows = tt

  readings_are : (s : Stmt) (rows : Rows) → AllByRecursion (λ (e : RowKey × Row). P e.0) (readings resource def s rows)
  readings_are (stmt.Insert table columns tuples) rows = tt
  readings_are (stmt.Update table sets asked) rows = tt
  readings_are (stmt.Delete table asked) rows = tt
  readings_are (stmt.Select table asked) rows = matched_are asked rows

-- ---- a call

-- what holds of the rows that statements touch and read, where it holds of each row of their tables
record CallIs (P : RowKey → Type 0) (call : Call) : Type 0 where
  rises : IsRising call.changes
  changed : AllByRecursion (λ (c : Change). P c.0) call.changes
  reads_rise : IsRising call.reads
  read : AllByRecursion (λ (e : RowKey × Row). P e.0) call.reads

module _ (db : Database) (P : RowKey → Type 0) where
  abbrev Covers : Stmt → Type 0
  Covers s = (key : RowKey) → IsInTable db s key → P key

  going : (call : Call) (s : Stmt) (def : TableDef) → ((k : RowKey) → is_in db.resource def k ≡ true → P k) → CallIs P call → CallIs P (with_step db call s def)
  going call s def keys h =
      let now = put_all db.rows call.changes in
      record {
        rises = rising_insert_all call.changes (touches db.resource def s now) h.rises;
        changed = each_insert_all (λ (c : Change). P c.0) call.changes (touches db.resource def s now) h.changed (touches_are db.resource def P keys s now);
        reads_rise = rising_insert_all call.reads (readings db.resource def s now) h.reads_rise;
        read = each_insert_all (λ (e : RowKey × Row). P e.0) call.reads (readings db.resource def s now) h.read (readings_are db.resource def P keys s now);
      }

  step_is : (call : Call) (s : Stmt) → Covers s → CallIs P call → Oks (CallIs P) (step db call s)
  step_is call s keys h = step_oks db call s (CallIs P) (λ def is. going call s def (λ k lies. keys k (record { def = def; named = is.named; lies = lies })) h)

  abbrev CoversAll : List Stmt → Type 0
  CoversAll ss = (key : RowKey) → IsInTables db ss key → P key

  steps_are : (ss : List Stmt) (i : ℕ) (m : Meaning Call) (call : Call) → CoversAll ss → Oks (CallIs P) m → steps db i m ss ≡ Ok call → CallIs P call
  steps_are [] i (Ok c) call keys h e = let same : c ≡ call = cc in subst (CallIs P) same h
  steps_are [] i (Err f) call keys h e = absurd cc
  steps_are (s ∷ ss) i (Ok c) call keys h e = steps_are ss (i + 1) (step db c s) call (λ k j. keys k (inr j)) (step_is c s (λ k j. keys k (inl j)) h) e
  steps_are (s ∷ ss) i (Err f) call keys h e = absurd cc

no_rows_rise : IsRising {X = Row} []
unfolding IsStrictlySortedBy
no_rows_rise = tt

nothing_is : (P : RowKey → Type 0) → CallIs P nothing
unfolding IsStrictlySortedBy
nothing_is P = record { rises = tt; changed = tt; reads_rise = tt; read = tt }

reads_keep_keys : (es : Rows) → map read_key (map read_of es) ≡ keys_of es
reads_keep_keys [] = refl
reads_keep_keys (e ∷ es) = ap (λ ks. e.0 ∷ ks) (reads_keep_keys es)

call_effect : (db : Database) (ss : List Stmt) (call : Call) → CallIs (IsInTables db ss) call → IsEffectOf db ss (effect_of db call)
call_effect db ss call is = record {
  rising = images_rise db.rows call.changes (map (image_of db.rows) call.changes) refl is.rises;
  images = All-from_recursion (IsImageBy db ss) (map (image_of db.rows) call.changes) (all_mapped (λ (c : Change). IsInTables db ss c.0) (IsImageBy db ss) (image_of db.rows) (λ c lies. record { lies = lies; before = refl }) call.changes is.changed);
  reads_rise = subst (IsStrictlySortedBy key_cmp) (sym (reads_keep_keys call.reads)) is.reads_rise;
  reads = All-from_recursion (λ (r : ReadRow). IsInTables db ss r.key) (map read_of call.reads) (all_mapped (λ (e : RowKey × Row). IsInTables db ss e.0) (λ (r : ReadRow). IsInTables db ss r.key) read_of (λ e lies. lies) call.reads is.read);
}

effect_by : (db : Database) (ss : List Stmt) (r : Result Call (ℕ × StmtError)) (result : Effect) → ((call : Call) → r ≡ Ok call → CallIs (IsInTables db ss) call) → to_effect db r ≡ Ok result → IsEffectOf db ss result
effect_by db ss (Ok call) result is e = let same : effect_of db call ≡ result = cc in subst (IsEffectOf db ss) same (call_effect db ss call (is call refl))
effect_by db ss (Err f) result is e = absurd cc

pub effects_of_tables : EffectsAreOfTheirTables
unfolding effect
effects_of_tables db ss result e = effect_by db ss (steps db 0 (Ok nothing) ss) result (λ call is. steps_are db (IsInTables db ss) ss 0 (Ok nothing) call (λ k j. j) (nothing_is (IsInTables db ss)) is) e

-- ---- reads, as read last

read_of_entries : (es : Rows) (key : RowKey) → read_at (map read_of es) key ≡ row_at es key
read_of_entries [] key = refl
read_of_entries (e ∷ es) key = ap (λ o. cond (is_key key e.0) (Some e.1) o) (read_of_entries es key)

later_inserted : (es fs : Rows) (key : RowKey) → IsRising fs → row_at (insert_all es fs) key ≡ read_later (row_at es key) (row_at fs key)
later_inserted es [] key s = refl
later_inserted es (f ∷ fs) key s =
    later_inserted (insert_entry key_cmp es f.0 f.1) fs key (rising_tail f fs s)
    ∙ ap (λ o. read_later o (row_at fs key)) (at_insert es f.0 f.1 key)
    ∙ by (is_key f.0 key) (is_key key f.0) refl (is_key_laws.symm key f.0)
  where
    by : (a b : Bool) → is_key f.0 key ≡ a → b ≡ is_key f.0 key → read_later (cond a (Some f.1) (row_at es key)) (row_at fs key) ≡ read_later (row_at es key) (cond b (Some f.1) (row_at fs key))
    by true true e g =
        let none : row_at fs key ≡ None = ap (row_at fs) (sym (same_key f.0 key e)) ∙ none_below f.0 fs (rising_head f fs s) in
        ap (read_later (Some f.1)) none
    by true false e g = cc
    by false true e g = cc
    by false false e g = refl

images_put_changes : (rows : Rows) (cs : List Change) → map (side way.Do) (map (image_of rows) cs) ≡ cs
images_put_changes rows [] = refl
images_put_changes rows (c ∷ cs) = ap (λ l. c ∷ l) (images_put_changes rows cs)

readings_rise : (resource : ℕ) (def : TableDef) (s : Stmt) (rows : Rows) → IsRising rows → IsRising (readings resource def s rows)
readings_rise resource def (stmt.Select table asked) rows h = rising_filter (is_matched resource def asked) rows h
readings_rise resource def (stmt.Insert table columns tuples) rows h = no_rows_rise
readings_rise resource def (stmt.Update table sets asked) rows h = no_rows_rise
readings_rise resource def (stmt.Delete table asked) rows h = no_rows_rise

module _ (db : Database) (last : Stmt) where
  -- the step behind other steps
  step_behind : (ss : List Stmt) (i : ℕ) (m : Meaning Call) (call after : Call) → steps db i m ss ≡ Ok call → steps db i m (ss ++ last ∷ []) ≡ Ok after → step db call last ≡ Ok after
  step_behind [] i (Ok c) call after e f = let same : c ≡ call = cc in ap (λ q. step db q last) (sym same) ∙ ended (step db c last) f
    where
      ended : (m : Meaning Call) → steps db (i + 1) m [] ≡ Ok after → m ≡ Ok after
      ended (Ok c) g = let same : c ≡ after = cc in ap (λ (q : Call). Ok q) same
      ended (Err w) g = absurd cc
  step_behind [] i (Err w) call after e f = absurd cc
  step_behind (s ∷ ss) i (Ok c) call after e f = step_behind ss (i + 1) (step db c s) call after e f
  step_behind (s ∷ ss) i (Err w) call after e f = absurd cc

  -- what it leaves
  record IsStep (call : Call) (def : TableDef) (after : Call) : Type 0 where
    reads : after.reads ≡ insert_all call.reads (readings db.resource def last (put_all db.rows call.changes))

  step_reads : (call after : Call) (def : TableDef) → step db call last ≡ Ok after → table_named db.schema (table_of last) ≡ Some def → IsStep call def after
  step_reads call after def e named = by (step db call last) e (step_oks db call last (IsStep call def) (λ d is. record {
    reads = ap (λ (t : TableDef). insert_all call.reads (readings db.resource t last (put_all db.rows call.changes))) (one d is.named);
  }))
    where
      one : (d : TableDef) → table_named db.schema (table_of last) ≡ Some d → d ≡ def
      one d f = let same : Some d ≡ Some def = sym f ∙ named in cc

      by : (m : Meaning Call) → m ≡ Ok after → Oks (IsStep call def) m → IsStep call def after
      by (Ok c) g h = let same : c ≡ after = cc in subst (IsStep call def) same h
      by (Err w) g h = absurd cc

  reads_by : (call after : Call) (def : TableDef) (key : RowKey) → IsMap db.rows → IsStep call def after
      → read_at (effect_of db after).reads key ≡ read_later (read_at (effect_of db call).reads key) (row_at (readings db.resource def last (applied way.Do (effect_of db call).images db).rows) key)
  reads_by call after def key map is =
      let now : put_all db.rows call.changes ≡ (applied way.Do (effect_of db call).images db).rows = ap (put_all db.rows) (sym (images_put_changes db.rows call.changes)) in
      read_of_entries after.reads key ∙ ap (λ es. row_at es key) is.reads
      ∙ later_inserted call.reads (readings db.resource def last (put_all db.rows call.changes)) key (readings_rise db.resource def last (put_all db.rows call.changes) (map_put_all db.rows call.changes map))
      ∙ ap (λ o. read_later o (row_at (readings db.resource def last (put_all db.rows call.changes)) key)) (sym (read_of_entries call.reads key))
      ∙ ap (λ rows. read_later (read_at (effect_of db call).reads key) (row_at (readings db.resource def last rows) key)) now

  reads_of_effects : (r q : Result Call (ℕ × StmtError)) (def : TableDef) (before after : Effect) (key : RowKey) → IsMap db.rows
      → ((call next : Call) → r ≡ Ok call → q ≡ Ok next → step db call last ≡ Ok next) → to_effect db r ≡ Ok before → to_effect db q ≡ Ok after → table_named db.schema (table_of last) ≡ Some def
      → read_at after.reads key ≡ read_later (read_at before.reads key) (row_at (readings db.resource def last (applied way.Do before.images db).rows) key)
  reads_of_effects (Ok call) (Ok next) def before after key map step_is e f named =
      let first : effect_of db call ≡ before = cc in
      let second : effect_of db next ≡ after = cc in
      subst₂ (λ (b a : Effect). read_at a.reads key ≡ read_later (read_at b.reads key) (row_at (readings db.resource def last (applied way.Do b.images db).rows) key)) first second
      (reads_by call next def key map (step_reads call next def (step_is call next refl refl) named))
  reads_of_effects (Ok call) (Err w) def before after key map step_is e f named = absurd cc
  reads_of_effects (Err w) q def before after key map step_is e f named = absurd cc

pub reads_last : ReadsAreTheLast
unfolding effect
reads_last db ss last def before after key map e f named =
    reads_of_effects db last (steps db 0 (Ok nothing) ss) (steps db 0 (Ok nothing) (ss ++ last ∷ [])) def before after key map
    (λ call next g h. step_behind db last ss 0 (Ok nothing) call next g h) e f named
