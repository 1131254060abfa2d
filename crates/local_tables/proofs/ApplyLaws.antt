-- Images put on rows: in which order it is done, and what is restored where memory fails.
use Rattle.std.proofs.Common.{◌≡◌, Bool, true, false, cond, List, [], ◌∷◌, map, Option, Some, None, IsSome, All, sym, refl, ap, ◌∙◌, subst, ◌++◌, filter, Bor}
use Rattle.std.specs.List.{IsDistinct, AllByRecursion}
use Rattle.std.specs.List.Sorted.{IsStrictlySortedBy}
use Rattle.std.specs.Map.{lookup, keys_of, set_value}
use Rattle.std.proofs.lemmas.List.Elements.{recursion_from_All}
use Rattle.std.proofs.lemmas.Map.{keys-set_value, lookup-set_value}
use Rattle.seata_types.specs.Orders.{key_cmp}
use Rattle.seata_types.specs.declared.rows.Image.{Image}
use Rattle.seata_types.specs.declared.rows.Row.{Row}
use Rattle.seata_types.specs.declared.rows.RowKey.{RowKey}
use Rattle.local_tables.specs.Lookups.{change_at, over}
use Rattle.local_tables.specs.Rows.{Rows, Change, Database, IsImageOf, IsMap, applied, is_key, key_of, put, put_all, row_at, side}
use Rattle.local_tables.specs.Sound.{IsSound, restored, given_back, kept_at, puts, removes}
use Rattle.local_tables.specs.declared.schemas.Way.{Way}
use Rattle.local_tables.specs.declared.schemas.Way.TheVariants as way
use Rattle.local_tables.proofs.KeyLaws.{is_key_laws, same_key}
use Rattle.local_tables.proofs.MapLaws.{same_entries}
use Rattle.local_tables.proofs.PutLaws.{map_put, map_put_all, row_at_put, row_at_put_all}
use Rattle.local_tables.proofs.SideLaws.{distinct_sides}
use Rattle.local_tables.proofs.SoundLaws.{sound_put}

-- ---- a removal may come last

change_at_none : (cs : List Change) (q k : RowKey) → AllByRecursion (λ y. is_key k y ≡ false) (keys_of cs) → is_key k q ≡ true → change_at cs q ≡ None
change_at_none [] q k h e = refl
change_at_none (c ∷ cs) q k h e =
    let same : k ≡ q = same_key k q e in
    let other : is_key q c.0 ≡ false = ap (λ j. is_key j c.0) (sym same) ∙ h.0 in
    ap (λ b. cond b (Some c.1) (change_at cs q)) other ∙ change_at_none cs q k h.1 e

pub put_last : (rows : Rows) (c : Change) (cs : List Change) → IsMap rows → IsDistinct is_key (keys_of (c ∷ cs)) → put (put_all rows cs) c.0 c.1 ≡ put_all rows (c ∷ cs)
unfolding IsDistinct
put_last rows c cs s d =
    let first = map_put rows c.0 c.1 s in
    let last = map_put_all rows cs s in
    same_entries (put (put_all rows cs) c.0 c.1) (put_all (put rows c.0 c.1) cs) (map_put (put_all rows cs) c.0 c.1 last) (map_put_all (put rows c.0 c.1) cs first) (λ q.
    row_at_put (put_all rows cs) c.0 c.1 q last
    ∙ ap (cond (is_key c.0 q) c.1) (row_at_put_all rows cs q s d.1)
    ∙ by q (is_key c.0 q) refl
    ∙ sym (row_at_put_all (put rows c.0 c.1) cs q first d.1 ∙ ap (λ o. over o (change_at cs q)) (row_at_put rows c.0 c.1 q s)))
  where
    by : (q : RowKey) (b : Bool) → is_key c.0 q ≡ b → cond b c.1 (over (row_at rows q) (change_at cs q)) ≡ over (cond b c.1 (row_at rows q)) (change_at cs q)
    by q true e = sym (ap (over c.1) (change_at_none cs q c.0 d.0 e))
    by q false e = refl

-- ---- a row put back

pub set_value_none : {X : Type 0} (test : RowKey → Bool) (es : List (RowKey × X)) (w : X) → lookup test es ≡ None → set_value test es w ≡ es
set_value_none test [] w e = refl
set_value_none test (x ∷ xs) w e = by (test x.0) e (set_value_none test xs w)
  where
    by : (b : Bool) → cond b (Some x.1) (lookup test xs) ≡ None → (lookup test xs ≡ None → set_value test xs w ≡ xs) → cond b ((x.0, w) ∷ xs) (x ∷ set_value test xs w) ≡ x ∷ xs
    by true f rest = cc
    by false f rest = ap (λ l. x ∷ l) (rest f)

map_restored : (rows : Rows) (k : RowKey) (old : Option Row) → IsMap rows → IsMap (restored rows k old)
map_restored rows k (Some row) s =
    subst (λ (ks : List RowKey). IsStrictlySortedBy key_cmp ks) (sym (keys-set_value (is_key k) rows row)) s
map_restored rows k None s = map_put rows k None s

restored_at : (rows : Rows) (k q : RowKey) (old : Option Row) → IsMap rows → IsSome (row_at rows k) → row_at (restored rows k old) q ≡ cond (is_key k q) old (row_at rows q)
restored_at rows k q (Some row) s there = lookup-set_value is_key_laws (is_key k) (λ x y e. is_key_laws.congr k x y e) q row rows there
restored_at rows k q None s there = row_at_put rows k None q s

is_there : (rows : Rows) (k : RowKey) (row : Row) → IsMap rows → IsSome (row_at (put rows k (Some row)) k)
is_there rows k row s =
    subst (λ (o : Option Row). IsSome o) (sym (row_at_put rows k (Some row) k s ∙ ap (λ b. cond b (Some row) (row_at rows k)) (is_key_laws.refl k))) refl

-- a row that was put, and the earlier one put back
pub put_restored : (rows : Rows) (k : RowKey) (row : Row) (old : Option Row) → IsMap rows → old ≡ row_at rows k → restored (put rows k (Some row)) k old ≡ rows
put_restored rows k row old s was =
    let put_in = map_put rows k (Some row) s in
    same_entries (restored (put rows k (Some row)) k old) rows (map_restored (put rows k (Some row)) k old put_in) s (λ q.
    restored_at (put rows k (Some row)) k q old put_in (is_there rows k row s) ∙ ap (cond (is_key k q) old) (row_at_put rows k (Some row) q s) ∙ by q (is_key k q) refl)
  where
    by : (q : RowKey) (b : Bool) → is_key k q ≡ b → cond b old (cond b (Some row) (row_at rows q)) ≡ row_at rows q
    by q true e = was ∙ ap (row_at rows) (same_key k q e)
    by q false e = refl

-- a row that takes the place of the one at its key is put there
pub put_there : (rows after : Rows) (k : RowKey) (row copy old : Row) → IsMap rows → copy ≡ row → row_at rows k ≡ Some old → after ≡ set_value (is_key k) rows copy → after ≡ put rows k (Some row)
put_there rows after k row copy old s same was is =
    let there : IsSome (row_at rows k) = subst (λ (o : Option Row). IsSome o) (sym was) refl in
    is
    ∙ ap (set_value (is_key k) rows) same
    ∙ same_entries (set_value (is_key k) rows row) (put rows k (Some row)) (map_restored rows k (Some row) s) (map_put rows k (Some row) s) (λ q.
    restored_at rows k q (Some row) s there ∙ sym (row_at_put rows k (Some row) q s))

-- ---- the tables stay sound

sound_sides : (v : Database) (direction : Way) (images : List Image) (rows : Rows) → IsSound v.schema rows → AllByRecursion (IsImageOf v) images → IsSound v.schema (put_all rows (map (side direction) images))
sound_sides v direction [] rows s h = s
sound_sides v way.Do (i ∷ is) rows s h = sound_sides v way.Do is (put rows i.key i.after) (sound_put v.schema rows i.key i.after s h.0.after) h.1
sound_sides v way.Undo (i ∷ is) rows s h = sound_sides v way.Undo is (put rows i.key i.before) (sound_put v.schema rows i.key i.before s h.0.before) h.1

pub sound_applied : (v db : Database) (direction : Way) (images : List Image) (after : Rows) → v ≡ db → IsSound v.schema v.rows → All (IsImageOf db) images → after ≡ put_all v.rows (map (side direction) images) → IsSound v.schema after
sound_applied v db direction images after e s h is =
    let h' : All (IsImageOf v) images = subst (λ (d : Database). All (IsImageOf d) images) (sym e) h in
    subst (IsSound v.schema) (sym is) (sound_sides v direction images v.rows s (recursion_from_All (IsImageOf v) images h'))

pub applied_inside : (v db : Database) (direction : Way) (images : List Image) (after : Rows) → v ≡ db → after ≡ put_all v.rows (map (side direction) images) → record { resource = v.resource; schema = v.schema; rows = after } ≡ applied direction images db
applied_inside v db direction images after e is =
    (λ i. record { resource = v.resource; schema = v.schema; rows = is i }) ∙ ap (applied direction images) e

-- ---- rows first, removals last

without : (p : Change → Bool) (k : RowKey) (cs : List Change) → AllByRecursion (λ y. is_key k y ≡ false) (keys_of cs) → AllByRecursion (λ y. is_key k y ≡ false) (keys_of (filter p cs))
without p k [] h = tt
without p k (c ∷ cs) h = by (p c) (without p k cs h.1)
  where
    by : (b : Bool) → AllByRecursion (λ y. is_key k y ≡ false) (keys_of (filter p cs)) → AllByRecursion (λ y. is_key k y ≡ false) (keys_of (cond b (c ∷ filter p cs) (filter p cs)))
    by true rest = (h.0, rest)
    by false rest = rest

distinct_filter : (p : Change → Bool) (cs : List Change) → IsDistinct is_key (keys_of cs) → IsDistinct is_key (keys_of (filter p cs))
unfolding IsDistinct
distinct_filter p [] d = tt
distinct_filter p (c ∷ cs) d = by (p c) (distinct_filter p cs d.1)
  where
    by : (b : Bool) → IsDistinct is_key (keys_of (filter p cs)) → IsDistinct is_key (keys_of (cond b (c ∷ filter p cs) (filter p cs)))
    by true rest = (without p c.0 cs d.0, rest)
    by false rest = rest

apart : (rows : Rows) (cs : List Change) → IsMap rows → IsDistinct is_key (keys_of cs) → put_all (put_all rows (filter puts cs)) (filter removes cs) ≡ put_all rows cs
unfolding IsDistinct
apart rows [] s d = refl
apart rows ((k, Some row) ∷ cs) s d = apart (put rows k (Some row)) cs (map_put rows k (Some row) s) d.1
apart rows ((k, None) ∷ cs) s d =
    ap (λ l. put_all l (filter removes cs)) (put_last rows (k, None) (filter puts cs) s (without puts k cs d.0, distinct_filter puts cs d.1))
    ∙ apart (put rows k None) cs (map_put rows k None s) d.1

-- the rows of the images first, then the removals
pub both_put : (rows first last : Rows) (direction : Way) (images : List Image) → IsMap rows → IsDistinct is_key (map key_of images) → first ≡ put_all rows (filter puts (map (side direction) images))
    → last ≡ put_all first (filter removes (map (side direction) images)) → last ≡ put_all rows (map (side direction) images)
both_put rows first last direction images s d is_first is_last =
    is_last ∙ ap (λ l. put_all l (filter removes (map (side direction) images))) is_first ∙ apart rows (map (side direction) images) s (distinct_sides direction images d)

pub side_key : (direction : Way) (image : Image) → (side direction image).0 ≡ image.key
side_key way.Do image = refl
side_key way.Undo image = refl

-- an image's change by what it puts
pub side_is : (direction : Way) (image : Image) (o : Option Row) → o ≡ (side direction image).1 → side direction image ≡ (image.key, o)
side_is way.Do image o e = ap (λ (r : Option Row). (image.key, r)) (sym e)
side_is way.Undo image o e = ap (λ (r : Option Row). (image.key, r)) (sym e)

-- ---- what was kept gives all back

pub given_back_last : (rows : Rows) (ks : List (RowKey × Option Row)) (k : RowKey × Option Row) → given_back rows (ks ++ k ∷ []) ≡ given_back (restored rows k.0 k.1) ks
given_back_last rows [] k = refl
given_back_last rows (j ∷ ks) k = ap (λ l. restored l j.0 j.1) (given_back_last rows ks k)

map_last : (ks : List (Bor RowKey × Option Row)) (k : Bor RowKey × Option Row) → map kept_at (ks ++ k ∷ []) ≡ map kept_at ks ++ kept_at k ∷ []
map_last [] k = refl
map_last (j ∷ ks) k = ap (λ l. kept_at j ∷ l) (map_last ks k)

-- what was put, with what stood there kept, gives back what stood before
pub put_kept : (rows first : Rows) (ks more : List (Bor RowKey × Option Row)) (k : RowKey) (row : Row) (key : Bor RowKey) (old : Option Row) → IsMap rows → old ≡ row_at rows k → first ≡ put rows k (Some row)
    → more ≡ ks ++ (key, old) ∷ [] → key.now ≡ k → given_back first (map kept_at more) ≡ given_back rows (map kept_at ks)
put_kept rows first ks more k row key old s was is_first is_more same =
    ap (λ l. given_back first (map kept_at l)) is_more
    ∙ ap (given_back first) (map_last ks (key, old))
    ∙ given_back_last first (map kept_at ks) (key.now, old)
    ∙ ap (λ j. given_back (restored first j old) (map kept_at ks)) same
    ∙ ap (λ l. given_back (restored l k old) (map kept_at ks)) is_first
    ∙ ap (λ l. given_back l (map kept_at ks)) (put_restored rows k row old s was)

-- what was put and could not be kept is put back at once
pub put_refused : (rows first last : Rows) (refused : Bor RowKey × Option Row) (k : RowKey) (row : Row) (key : Bor RowKey) (old : Option Row) → IsMap rows → old ≡ row_at rows k → first ≡ put rows k (Some row)
    → refused ≡ (key, old) → key.now ≡ k → last ≡ restored first refused.0.now refused.1 → last ≡ rows
put_refused rows first last refused k row key old s was is_first is_refused same is_last =
    is_last
    ∙ ap (λ (r : Bor RowKey × Option Row). restored first r.0.now r.1) is_refused
    ∙ ap (λ j. restored first j old) same
    ∙ ap (λ l. restored l k old) is_first
    ∙ put_restored rows k row old s was

-- the last row that was kept stands again
pub one_back : (rows after : Rows) (all left : List (Bor RowKey × Option Row)) (last : Bor RowKey × Option Row) → all ≡ left ++ last ∷ [] → after ≡ restored rows last.0.now last.1 → given_back after (map kept_at left) ≡ given_back rows (map kept_at all)
one_back rows after all left last is_all is_after =
    ap (λ l. given_back l (map kept_at left)) is_after
    ∙ sym (given_back_last rows (map kept_at left) (last.0.now, last.1))
    ∙ ap (given_back rows) (sym (map_last left last))
    ∙ ap (λ l. given_back rows (map kept_at l)) (sym is_all)
