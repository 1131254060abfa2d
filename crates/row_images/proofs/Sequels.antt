-- One list of statements after another: what the second does after the first is what it does on the tables that the
-- first left.
use Rattle.std.proofs.Common.{◌≡◌, ℕ, ◌+◌, Bool, true, false, cond, List, [], ◌∷◌, ◌++◌, map, Option, Some, None, option_map, Result, Ok, Err, refl, ap, sym, ◌∙◌, subst, nat_le, length}
use Rattle.std.specs.Result.{result_ok}
use Rattle.std.specs.Option.{option_or}
use Rattle.std.specs.BTreeMap.{insert_entry}
use Rattle.std.specs.List.{IsDistinct}
use Rattle.std.specs.List.Sorted.{IsStrictlySortedBy}
use Rattle.std.specs.Map.{keys_of}
use Rattle.std.proofs.lemmas.Map.Keys.{IsDistinct-from_sorted}
use Rattle.std.proofs.lemmas.List.Elements.{All-nil, All-cons}
use Rattle.std.proofs.lemmas.Option.{same_Some}
use Rattle.std.specs.Prelude.{All}
use Rattle.seata_types.specs.Orders.{key_cmp}
use Rattle.seata_types.specs.declared.errors.StmtError.{StmtError}
use Rattle.seata_types.specs.declared.errors.StmtError.TheVariants as errors
use Rattle.seata_types.specs.declared.limits.TheConstants.{CALL_ROWS, RESOURCE_ROWS}
use Rattle.seata_types.specs.declared.rows.Image.{Image}
use Rattle.seata_types.specs.declared.rows.Row.{Row}
use Rattle.seata_types.specs.declared.rows.RowKey.{RowKey}
use Rattle.seata_types.specs.declared.statements.Stmt.{Stmt}
use Rattle.local_tables.specs.Calls.{Call, Meaning, ◌>>=◌, check, no_key, found, nothing, insert_all, going_on, rows_seen, step, steps, image_of, effect_of, to_effect, effect}
use Rattle.local_tables.specs.Checks.{table_of, knows_columns, fills_columns, leaves_key, has_types}
use Rattle.local_tables.specs.Lookups.{IsRising, over, change_at}
use Rattle.local_tables.specs.Rows.{Rows, Database, Change, is_key, key_of, row_at, put_all, table_named, side, applied, IsMap, AreRising}
use Rattle.local_tables.specs.Touches.{touches, readings, overflowing, duplicate}
use Rattle.local_tables.specs.declared.schemas.Effect.{Effect}
use Rattle.local_tables.specs.declared.schemas.TableDef.{TableDef}
use Rattle.local_tables.specs.declared.schemas.Way.TheVariants as way
use Rattle.local_tables.proofs.KeyLaws.{same_key}
use Rattle.local_tables.proofs.MapLaws.{rising_insert, at_insert, same_entries}
use Rattle.local_tables.proofs.PutLaws.{map_put_all, row_at_put_all}
use Rattle.row_images.specs.Joining.{image_at, both, IsJoined}
use Rattle.row_images.specs.Undoing.{IsPresent}
use Rattle.row_images.proofs.Restored.{undoing_restores}

-- ---- what a statement with a meaning did

went_on : {Y : Type 0} (b : Bool) (error : StmtError) (rest : Meaning Y) (y : Y) → (check b error >>= λ _. rest) ≡ Ok y → rest ≡ Ok y
went_on true error rest y e = e
went_on false error rest y e = absurd (let no : Err error ≡ Ok y = e in cc)

found_none : {Y : Type 0} (o : Option RowKey) (error : RowKey → StmtError) (rest : Meaning Y) (y : Y) → (no_key o error >>= λ _. rest) ≡ Ok y → rest ≡ Ok y
found_none None error rest y e = e
found_none (Some key) error rest y e = absurd (let no : Err (error key) ≡ Ok y = e in cc)

same_Ok : {X : Type 0} (x y : X) → (let m : Meaning X = Ok x in m ≡ Ok y) → x ≡ y
same_Ok x y e = same_Some x y (ap result_ok e)

-- what a statement of this table leaves of a call
abbrev after_of : Database → Call → Stmt → TableDef → Call
after_of db call s def = going_on call (touches db.resource def s (put_all db.rows call.changes)) (readings db.resource def s (put_all db.rows call.changes))

record Did (db : Database) (call : Call) (s : Stmt) (after : Call) : Type 0 where
  def : TableDef
  named : table_named db.schema (table_of s) ≡ Some def
  is : after_of db call s def ≡ after

-- where the last of eight tests was reached, each was passed
module _ (a b c d e f : Bool) (p q r s t u : StmtError) (m n : Option RowKey) (v w : RowKey → StmtError) (x y : Call) where
  abbrev eighth : Meaning Call
  eighth = check f u >>= λ _. Ok x

  abbrev seventh : Meaning Call
  seventh = no_key n w >>= λ _. eighth

  abbrev sixth : Meaning Call
  sixth = no_key m v >>= λ _. seventh

  abbrev fifth : Meaning Call
  fifth = check e t >>= λ _. sixth

  abbrev fourth : Meaning Call
  fourth = check d s >>= λ _. fifth

  abbrev third : Meaning Call
  third = check c r >>= λ _. fourth

  abbrev second : Meaning Call
  second = check b q >>= λ _. third

  passed : (check a p >>= λ _. second) ≡ Ok y → x ≡ y
  passed h =
      same_Ok x y (went_on f u (Ok x) y (found_none n w eighth y (found_none m v seventh y (went_on e t sixth y (went_on d s fifth y
      (went_on c r fourth y (went_on b q third y (went_on a p second y h))))))))

did : (db : Database) (call : Call) (s : Stmt) (after : Call) → step db call s ≡ Ok after → Did db call s after
unfolding step
did db call s after e = by (table_named db.schema (table_of s)) refl e
  where
    by : (o : Option TableDef) → table_named db.schema (table_of s) ≡ o
        → (found o >>= λ def.
        check (knows_columns def s) errors.NoColumn >>= λ _. check (fills_columns def s) errors.Columns >>= λ _.
        check (leaves_key def s) errors.KeyChanged >>= λ _. check (has_types def s) errors.TypeMismatch >>= λ _.
        check (nat_le (rows_seen (after_of db call s def)) CALL_ROWS) errors.TooManyRows >>= λ _.
        no_key (overflowing db.resource def s (put_all db.rows call.changes)) errors.Overflow >>= λ _.
        no_key (duplicate db.resource def s (put_all db.rows call.changes)) errors.Duplicate >>= λ _.
        check (nat_le (length (put_all db.rows (after_of db call s def).changes)) RESOURCE_ROWS) errors.TableFull >>= λ _.
        Ok (after_of db call s def)) ≡ Ok after
        → Did db call s after
    by None named e = absurd (let no : Err errors.NoTable ≡ Ok after = e in cc)
    by (Some def) named e =
        record {
          def = def;
          named = named;
          is = passed (knows_columns def s) (fills_columns def s) (leaves_key def s) (has_types def s) (nat_le (rows_seen (after_of db call s def)) CALL_ROWS)
              (nat_le (length (put_all db.rows (after_of db call s def).changes)) RESOURCE_ROWS)
              errors.NoColumn errors.Columns errors.KeyChanged errors.TypeMismatch errors.TooManyRows errors.TableFull
              (overflowing db.resource def s (put_all db.rows call.changes)) (duplicate db.resource def s (put_all db.rows call.changes)) errors.Overflow errors.Duplicate
              (after_of db call s def) after e;
        }

-- ---- changes one after the other

same_value : {X E : Type 0} (x y : X) → (let r : Result X E = Ok x in r ≡ Ok y) → x ≡ y
same_value x y e = same_Some x y (ap result_ok e)

rising_all : (cs ts : List Change) → IsRising cs → IsRising (insert_all cs ts)
rising_all cs [] s = s
rising_all cs (t ∷ ts) s = rising_all (insert_entry key_cmp cs t.0 t.1) ts (rising_insert cs t.0 t.1 s)

apart : (cs : List Change) → IsRising cs → IsDistinct is_key (keys_of cs)
apart cs s = IsDistinct-from_sorted key_cmp (keys_of cs) s

-- ---- statement after statement

module _ (db : Database) where
  went_through : (n : ℕ) (m : Meaning Call) (ss : List Stmt) (g : Call) → steps db n m ss ≡ Ok g → (c : Call) × (m ≡ Ok c) × (steps db n (Ok c) ss ≡ Ok g)
  went_through n (Ok c) ss g e = (c, refl, e)
  went_through n (Err why) ss g e = absurd (let no : Err (n, why) ≡ Ok g = e in cc)

  steps_rise : (n : ℕ) (c g : Call) (ss : List Stmt) → IsRising c.changes → steps db n (Ok c) ss ≡ Ok g → IsRising g.changes
  steps_rise n c g [] s e = subst (λ (k : Call). IsRising k.changes) (same_value c g e) s
  steps_rise n c g (x ∷ xs) s e =
      let (next, is, rest) = went_through (n + 1) (step db c x) xs g e in
      let d = did db c x next is in
      let rises : IsRising (after_of db c x d.def).changes = rising_all c.changes (touches db.resource d.def x (put_all db.rows c.changes)) s in
      steps_rise (n + 1) next g xs (subst (λ (k : Call). IsRising k.changes) d.is rises) rest

  -- the rest of a list goes on from where the front ended
  steps_behind : (n : ℕ) (m : Meaning Call) (xs ys : List Stmt) (c : Call) → steps db n m xs ≡ Ok c → (k : ℕ) × (steps db n m (xs ++ ys) ≡ steps db k (Ok c) ys)
  steps_behind n (Err why) xs ys c e = absurd (let no : Err (n, why) ≡ Ok c = e in cc)
  steps_behind n (Ok b) [] ys c e = (n, ap (λ k. steps db n (Ok k) ys) (same_value b c e))
  steps_behind n (Ok b) (x ∷ xs) ys c e = steps_behind (n + 1) (step db b x) xs ys c e

  had_steps : (ss : List Stmt) (e : Effect) → effect db ss ≡ Ok e → (c : Call) × (steps db 0 (Ok nothing) ss ≡ Ok c) × (effect_of db c ≡ e)
  unfolding effect
  had_steps ss e h = by (steps db 0 (Ok nothing) ss) refl h
    where
      by : (r : Result Call (ℕ × StmtError)) → steps db 0 (Ok nothing) ss ≡ r → to_effect db r ≡ Ok e → (c : Call) × (steps db 0 (Ok nothing) ss ≡ Ok c) × (effect_of db c ≡ e)
      by (Ok c) is h = (c, is, same_value (effect_of db c) e h)
      by (Err fault) is h = absurd (let no : Err fault ≡ Ok e = h in cc)

-- ---- a call on the tables, and one on the tables that the statements before it left

over_both : (o : Option Row) (later before : Option (Option Row)) → over (over o before) later ≡ over o (option_or later before)
over_both o None before = refl
over_both o (Some new) before = refl

module _ (db : Database) (mapped : IsMap db.rows) (before : List Change) (rises : IsRising before) where
  abbrev left : Database
  left = record db { rows = put_all db.rows before }

  left_mapped : IsMap left.rows
  left_mapped = map_put_all db.rows before mapped

  -- what the whole call changed is what its second part changed, and else what the first did
  record Sequel (whole later : List Change) : Type 0 where
    whole_rises : IsRising whole
    later_rises : IsRising later
    each : (q : RowKey) → change_at whole q ≡ option_or (change_at later q) (change_at before q)

  left_at : (q : RowKey) → row_at left.rows q ≡ over (row_at db.rows q) (change_at before q)
  left_at q = row_at_put_all db.rows before q mapped (apart before rises)

  same_now : (whole later : List Change) → Sequel whole later → put_all db.rows whole ≡ put_all left.rows later
  same_now whole later s =
      same_entries _ _ (map_put_all db.rows whole mapped) (map_put_all left.rows later left_mapped) (λ q.
      row_at_put_all db.rows whole q mapped (apart whole s.whole_rises) ∙ ap (over (row_at db.rows q)) (s.each q)
      ∙ sym (row_at_put_all left.rows later q left_mapped (apart later s.later_rises) ∙ ap (λ o. over o (change_at later q)) (left_at q)
      ∙ over_both (row_at db.rows q) (change_at later q) (change_at before q)))

  one_more : (whole later : List Change) (k : RowKey) (v : Option Row) → Sequel whole later → Sequel (insert_entry key_cmp whole k v) (insert_entry key_cmp later k v)
  one_more whole later k v s = record {
    whole_rises = rising_insert whole k v s.whole_rises;
    later_rises = rising_insert later k v s.later_rises;
    each = λ q. at_insert whole k v q ∙ by q (is_key k q) (s.each q) ∙ sym (ap (λ o. option_or o (change_at before q)) (at_insert later k v q));
  }
    where
      by : (q : RowKey) (b : Bool) → change_at whole q ≡ option_or (change_at later q) (change_at before q)
          → cond b (Some v) (change_at whole q) ≡ option_or (cond b (Some v) (change_at later q)) (change_at before q)
      by q true h = refl
      by q false h = h

  many_more : (whole later ts : List Change) → Sequel whole later → Sequel (insert_all whole ts) (insert_all later ts)
  many_more whole later [] s = s
  many_more whole later (t ∷ ts) s = many_more (insert_entry key_cmp whole t.0 t.1) (insert_entry key_cmp later t.0 t.1) ts (one_more whole later t.0 t.1 s)

  same_touches : (s : Stmt) (c d : TableDef) (whole later : List Change) → c ≡ d → Sequel whole later
      → touches db.resource c s (put_all db.rows whole) ≡ touches db.resource d s (put_all left.rows later)
  same_touches s c d whole later e t = ap (λ k. touches db.resource k s (put_all db.rows whole)) e ∙ ap (touches db.resource d s) (same_now whole later t)

  goes_on : (n m : ℕ) (ss : List Stmt) (whole later g f : Call) → Sequel whole.changes later.changes
      → steps db n (Ok whole) ss ≡ Ok g → steps left m (Ok later) ss ≡ Ok f → Sequel g.changes f.changes
  goes_on n m [] whole later g f s e h =
      subst (λ (k : Call). Sequel k.changes f.changes) (same_value whole g e) (subst (λ (k : Call). Sequel whole.changes k.changes) (same_value later f h) s)
  goes_on n m (x ∷ xs) whole later g f s e h =
      let (next, is, rest) = went_through db (n + 1) (step db whole x) xs g e in
      let (beside, was, others) = went_through left (m + 1) (step left later x) xs f h in
      let d = did db whole x next is in
      let k = did left later x beside was in
      let def : d.def ≡ k.def = same_Some d.def k.def (sym d.named ∙ k.named) in
      let t : List Change = touches db.resource d.def x (put_all db.rows whole.changes) in
      let more : Sequel (insert_all whole.changes t) (insert_all later.changes t) = many_more whole.changes later.changes t s in
      let both_more : Sequel (after_of db whole x d.def).changes (after_of left later x k.def).changes =
      subst (λ u. Sequel (insert_all whole.changes t) (insert_all later.changes u)) (same_touches x d.def k.def whole.changes later.changes def s) more in
      goes_on (n + 1) (m + 1) xs next beside g f
      (subst (λ (c : Call). Sequel next.changes c.changes) k.is (subst (λ (c : Call). Sequel c.changes (after_of left later x k.def).changes) d.is both_more)) rest others

  -- ---- the images

  abbrev image : Rows → RowKey → Option Row → Image
  image rows q after = record { key = q; before = row_at rows q; after = after }

image_is : (rows : Rows) (cs : List Change) (q : RowKey) → image_at (map (image_of rows) cs) q ≡ option_map (λ after. record { key = q; before = row_at rows q; after = after }) (change_at cs q)
image_is rows [] q = refl
image_is rows (c ∷ cs) q = by (is_key q c.0) refl (image_is rows cs q)
  where
    by : (b : Bool) → is_key q c.0 ≡ b → image_at (map (image_of rows) cs) q ≡ option_map (λ after. record { key = q; before = row_at rows q; after = after }) (change_at cs q)
        → cond b (Some (image_of rows c)) (image_at (map (image_of rows) cs) q) ≡ option_map (λ after. record { key = q; before = row_at rows q; after = after }) (cond b (Some c.1) (change_at cs q))
    by true e later = ap (λ k. Some (image_of rows (k, c.1))) (sym (same_key q c.0 e))
    by false e later = later

keys-images : (rows : Rows) (cs : List Change) → map key_of (map (image_of rows) cs) ≡ keys_of cs
keys-images rows [] = refl
keys-images rows (c ∷ cs) = ap (λ ks. c.0 ∷ ks) (keys-images rows cs)

pub images_rise : (rows : Rows) (cs : List Change) → IsRising cs → AreRising (map (image_of rows) cs)
images_rise rows cs s = subst (IsStrictlySortedBy key_cmp) (sym (keys-images rows cs)) s

sides-images : (rows : Rows) (cs : List Change) → map (side way.Do) (map (image_of rows) cs) ≡ cs
sides-images rows [] = refl
sides-images rows (c ∷ cs) = ap (λ ks. c ∷ ks) (sides-images rows cs)

-- ---- the images of both

joined_at : (q : RowKey) (o p : Option Row) (later before : Option (Option Row)) → p ≡ over o before
    → option_map (λ after. record { key = q; before = o; after = after }) (option_or later before)
    ≡ both (option_map (λ after. record { key = q; before = o; after = after }) before) (option_map (λ after. record { key = q; before = p; after = after }) later)
joined_at q o p None None e = refl
joined_at q o p None (Some old) e = refl
joined_at q o p (Some new) None e = ap (λ r. Some (record { key = q; before = r; after = new })) (sym e)
joined_at q o p (Some new) (Some old) e = refl

module _ (db : Database) (mapped : IsMap db.rows) (c f g : Call) (rises : IsRising c.changes) where
  sequel_joins : Sequel db mapped c.changes rises g.changes f.changes
      → IsJoined (map (image_of db.rows) c.changes) (map (image_of (put_all db.rows c.changes)) f.changes) (map (image_of db.rows) g.changes)
  sequel_joins s = record {
    rising = images_rise db.rows g.changes s.whole_rises;
    each = λ q.
        image_is db.rows g.changes q
        ∙ ap (option_map (λ after. record { key = q; before = row_at db.rows q; after = after })) (s.each q)
        ∙ joined_at q (row_at db.rows q) (row_at (put_all db.rows c.changes) q) (change_at f.changes q) (change_at c.changes q) (left_at db mapped c.changes rises q)
        ∙ sym (ap (λ o. both o (image_at (map (image_of (put_all db.rows c.changes)) f.changes) q)) (image_is db.rows c.changes q)
        ∙ ap (both (option_map (λ after. record { key = q; before = row_at db.rows q; after = after }) (change_at c.changes q))) (image_is (put_all db.rows c.changes) f.changes q));
  }

pub joins_effects : (db : Database) (front back : List Stmt) (e f g : Effect) → IsMap db.rows
    → effect db front ≡ Ok e → effect (applied way.Do e.images db) back ≡ Ok f → effect db (front ++ back) ≡ Ok g
    → IsJoined e.images f.images g.images
unfolding IsStrictlySortedBy
joins_effects db front back e f g mapped a b both_lists =
    let (c, began, is) = had_steps db front e a in
    let rises : IsRising c.changes = steps_rise db 0 nothing c front tt began in
    let same_left : applied way.Do e.images db ≡ left db mapped c.changes rises =
    ap (λ (k : Effect). applied way.Do k.images db) (sym is) ∙ ap (λ cs. record db { rows = put_all db.rows cs }) (sides-images db.rows c.changes) in
    let (d, later, was) = had_steps (left db mapped c.changes rises) back f (subst (λ k. effect k back ≡ Ok f) same_left b) in
    let (w, whole, all) = had_steps db (front ++ back) g both_lists in
    let (n, behind) = steps_behind db 0 (Ok nothing) front back c began in
    let start : Sequel db mapped c.changes rises c.changes [] = record { whole_rises = rises; later_rises = tt; each = λ q. refl } in
    let s : Sequel db mapped c.changes rises w.changes d.changes = goes_on db mapped c.changes rises n 0 back c nothing w d start (sym behind ∙ whole) later in
    subst (λ (k : Effect). IsJoined e.images k.images g.images) was
    (subst (λ (k : Effect). IsJoined e.images (effect_of (left db mapped c.changes rises) d).images k.images) all
    (subst (λ (k : Effect). IsJoined k.images (effect_of (left db mapped c.changes rises) d).images (effect_of db w).images) is
    (sequel_joins db mapped c d w rises s)))

-- ---- an effect undone

present_befores : (db : Database) (cs : List Change) → All (IsPresent db) (map (image_of db.rows) cs)
present_befores db [] = All-nil (IsPresent db)
present_befores db (c ∷ cs) = All-cons (IsPresent db) (image_of db.rows c) (map (image_of db.rows) cs) refl (present_befores db cs)

pub undoing_an_effect_restores : (db : Database) (ss : List Stmt) (e : Effect) → IsMap db.rows → effect db ss ≡ Ok e
    → applied way.Undo e.images (applied way.Do e.images db) ≡ db
unfolding IsStrictlySortedBy
undoing_an_effect_restores db ss e mapped h =
    let (c, began, is) = had_steps db ss e h in
    let rises : IsRising c.changes = steps_rise db 0 nothing c ss tt began in
    let different : IsDistinct is_key (map key_of (map (image_of db.rows) c.changes)) = subst (IsDistinct is_key) (sym (keys-images db.rows c.changes)) (apart c.changes rises) in
    subst (λ (k : Effect). applied way.Undo k.images (applied way.Do k.images db) ≡ db) is
    (undoing_restores db (map (image_of db.rows) c.changes) mapped different (present_befores db c.changes))
