-- The effect of statements, on tables whose rows fit, is of rows that fit, and of no more rows than a call may have.
use Rattle.std.proofs.Common.{◌≡◌, ℕ, suc, ◌+◌, ◌≤◌, ◌||◌, not, Bool, true, false, cond, length, List, [], ◌∷◌, map, count_by, Some, is_none, Result, Ok, Err, refl, sym, ap, ap₂, subst, ◌∙◌, arith}
use Rattle.std.specs.List.{AllByRecursion, list_any}
use Rattle.std.specs.List.Sorted.{IsStrictlySortedBy}
use Rattle.std.specs.Map.{lookup}
use Rattle.std.proofs.lemmas.List.Elements.{All-from_recursion}
use Rattle.std.proofs.lemmas.List.Sums.{sum_by-cons}
use Rattle.seata_types.specs.declared.errors.StmtError.{StmtError}
use Rattle.seata_types.specs.declared.limits.TheConstants.{CALL_ROWS}
use Rattle.seata_types.specs.declared.rows.Row.{Row}
use Rattle.seata_types.specs.declared.rows.RowKey.{RowKey}
use Rattle.seata_types.specs.declared.statements.Stmt.{Stmt}
use Rattle.seata_types.specs.declared.statements.Stmt.TheVariants as stmt
use Rattle.local_tables.specs.Calls.{Call, nothing, is_only_read, rows_seen, steps, effect, effect_of, to_effect, image_of, read_of}
use Rattle.local_tables.specs.Checks.{table_of}
use Rattle.local_tables.specs.FittingRows.{EffectsFitTheirTables, IsEffectOn, is_untouched}
use Rattle.local_tables.specs.Lookups.{IsRising, AreRowsOf}
use Rattle.local_tables.specs.Rows.{Database, Rows, Change, IsImageOf, IsMap, IsReadOf, is_key, put_all, table_named}
use Rattle.local_tables.specs.Sound.{IsSound, IsChangeOf, AreChangesOf}
use Rattle.local_tables.specs.Touches.{is_matched, touches, readings}
use Rattle.local_tables.specs.declared.schemas.Effect.{Effect}
use Rattle.local_tables.specs.declared.schemas.TableDef.{TableDef}
use Rattle.local_tables.proofs.ChangeLaws.{each_insert_all, each_of_rows, has_table, matched_in, rows_under, touched_changes}
use Rattle.local_tables.proofs.EffectLaws.{each_image}
use Rattle.local_tables.proofs.EffectRowLaws.{all_mapped, rising_insert_all}
use Rattle.local_tables.proofs.KeyLaws.{is_key_laws}
use Rattle.local_tables.proofs.MeaningLaws.{IsTaken, with_step, steps_keep}
use Rattle.local_tables.proofs.PutLaws.{map_put_all}
use Rattle.local_tables.proofs.RowsKept.{rows_sound}
use Rattle.local_tables.proofs.SoundLaws.{fits_key_from}

-- ---- how many rows an effect has

untouched_alike : (rows : Rows) (cs : List Change) (k : RowKey) → not (list_any (λ i. is_key i.key k) (map (image_of rows) cs)) ≡ is_none (lookup (is_key k) cs)
untouched_alike rows [] k = refl
untouched_alike rows (c ∷ cs) k =
    ap (λ b. not (b || list_any (λ i. is_key i.key k) (map (image_of rows) cs))) (is_key_laws.symm c.0 k) ∙ by (is_key k c.0) (untouched_alike rows cs k)
  where
    by : (b : Bool) → not (list_any (λ i. is_key i.key k) (map (image_of rows) cs)) ≡ is_none (lookup (is_key k) cs) → not (b || list_any (λ i. is_key i.key k) (map (image_of rows) cs)) ≡ is_none (cond b (Some c.1) (lookup (is_key k) cs))
    by true rest = refl
    by false rest = rest

untouched_counted : (rows : Rows) (cs : List Change) (es : Rows) → count_by (is_untouched (map (image_of rows) cs)) (map read_of es) ≡ count_by (is_only_read cs) es
untouched_counted rows cs [] = refl
untouched_counted rows cs (e ∷ es) =
    sum_by-cons (λ r. cond (is_untouched (map (image_of rows) cs) r) 1 0) (read_of e) (map read_of es)
    ∙ ap₂ (λ b n. cond b 1 0 + n) (untouched_alike rows cs e.0) (untouched_counted rows cs es)
    ∙ sym (sum_by-cons (λ x. cond (is_only_read cs x) 1 0) e es)

mapped_length : {X Y : Type 0} (f : X → Y) (xs : List X) → length (map f xs) ≡ length xs
mapped_length f [] = refl
mapped_length f (x ∷ xs) = ap suc (mapped_length f xs)

module _ (db : Database) (sound : IsSound db.schema db.rows) where
  -- what statements read of rows that fit
  readings_fit : (s : Stmt) (def : TableDef) (now : Rows) → table_named db.schema (table_of s) ≡ Some def → IsMap now → AreRowsOf def now → AllByRecursion (λ (e : RowKey × Row). IsReadOf db (read_of e)) (readings db.resource def s now)
  readings_fit (stmt.Insert table columns tuples) def now t rising are = tt
  readings_fit (stmt.Update table sets asked) def now t rising are = tt
  readings_fit (stmt.Delete table asked) def now t rising are = tt
  readings_fit (stmt.Select table asked) def now t rising are =
      each_of_rows (λ (e : RowKey × Row). IsReadOf db (read_of e)) (is_matched db.resource def asked) now (λ e there m.
      let own = matched_in db.resource db.schema table def t asked e m in
      record {
        resource = own.0;
        table = (def, has_table db.resource db.schema table def t e.0 own.1);
        row = fits_key_from db.schema table def e.0 e.1 t own.1 (are e.0 e.1 there own.1);
      }) rising

  -- what the statements so far did: changes and reads of rows that fit, and no more of them than a call may have
  record CallFits (call : Call) : Type 0 where
    pub rises : IsRising call.changes
    pub changed : AreChangesOf db.resource db.schema call.changes
    pub read : AllByRecursion (λ (e : RowKey × Row). IsReadOf db (read_of e)) call.reads
    pub few : rows_seen call ≤ CALL_ROWS

  going : (call : Call) (s : Stmt) (def : TableDef) → IsTaken db call s def → CallFits call → CallFits (with_step db call s def)
  going call s def is h =
      let now = put_all db.rows call.changes in
      let rising : IsMap now = map_put_all db.rows call.changes sound.in_order in
      let are = rows_under db.schema db.resource db.rows call.changes sound h.changed (table_of s) def h.rises is.named in
      record {
        rises = rising_insert_all call.changes (touches db.resource def s now) h.rises;
        changed = each_insert_all (IsChangeOf db.resource db.schema) call.changes (touches db.resource def s now) h.changed (touched_changes db.resource db.schema (table_of s) def is.named s now rising are is.accepted);
        read = each_insert_all (λ (e : RowKey × Row). IsReadOf db (read_of e)) call.reads (readings db.resource def s now) h.read (readings_fit s def now is.named rising are);
        few = is.few;
      }

  nothing_fits : CallFits nothing
  unfolding IsStrictlySortedBy
  nothing_fits = record { rises = tt; changed = tt; read = tt; few = omega arith }

  call_effect : (call : Call) → CallFits call → IsEffectOn db (effect_of db call)
  call_effect call h =
      let one = mapped_length (image_of db.rows) call.changes in
      let two = untouched_counted db.rows call.changes call.reads in
      let few : length call.changes + count_by (is_only_read call.changes) call.reads ≤ CALL_ROWS = h.few in
      record {
        images = All-from_recursion (IsImageOf db) (map (image_of db.rows) call.changes) (each_image db call.changes sound h.changed);
        reads = All-from_recursion (IsReadOf db) (map read_of call.reads) (all_mapped (λ (e : RowKey × Row). IsReadOf db (read_of e)) (IsReadOf db) read_of (λ e is. is) call.reads h.read);
        few = omega (arith, one, two, few);
      }

  effect_by : (r : Result Call (ℕ × StmtError)) (result : Effect) → ((call : Call) → r ≡ Ok call → CallFits call) → to_effect db r ≡ Ok result → IsEffectOn db result
  effect_by (Ok call) result is e = let same : effect_of db call ≡ result = cc in subst (IsEffectOn db) same (call_effect call (is call refl))
  effect_by (Err f) result is e = absurd cc

pub effects_fit : EffectsFitTheirTables
unfolding effect
effects_fit db ss result rows e =
    let sound = rows_sound db rows in
    effect_by db sound (steps db 0 (Ok nothing) ss) result
    (λ call is. steps_keep db (CallFits db sound) (going db sound) ss 0 (Ok nothing) call (nothing_fits db sound) is) e
