-- The effect of a call by the run of its statements, and that its images can be put on the tables.
use Rattle.std.proofs.Common.{◌≡◌, List, [], ◌∷◌, map, Option, Some, None, Ok, Err, All, sym, refl, ap, ◌∙◌, subst, subst₂}
use Rattle.std.specs.List.{AllByRecursion, IsDistinct}
use Rattle.std.specs.List.Sorted.{IsStrictlySortedBy}
use Rattle.std.specs.Map.{keys_of}
use Rattle.std.proofs.lemmas.List.Elements.{All-from_recursion}
use Rattle.std.proofs.lemmas.Map.Keys.{IsDistinct-from_sorted}
use Rattle.seata_types.specs.Orders.{key_cmp}
use Rattle.seata_types.specs.declared.rows.Image.{Image}
use Rattle.seata_types.specs.declared.rows.Row.{Row}
use Rattle.seata_types.specs.declared.rows.RowKey.{RowKey}
use Rattle.seata_types.specs.declared.statements.Stmt.{Stmt}
use Rattle.local_tables.specs.Calls.{Call, nothing, steps, image_of, read_of, to_effect, effect, Means}
use Rattle.local_tables.specs.Lookups.{IsRising}
use Rattle.local_tables.specs.Rows.{Rows, Change, Database, SideFitsKey, IsImageOf, AreImagesOf, AreRising, is_key, key_of, row_at}
use Rattle.local_tables.specs.Sound.{IsSound, AreChangesOf}
use Rattle.local_tables.specs.declared.schemas.Effect.{Effect}
use Rattle.local_tables.specs.declared.schemas.EffectError.{EffectError}
use Rattle.local_tables.specs.declared.schemas.EffectError.TheVariants as answer
use Rattle.local_tables.specs.declared.schemas.Schema.{Schema}

pub means_of_err : (db : Database) (ss : List Stmt) (e : EffectError) → Means (steps db 0 (Ok nothing) ss) (Err e) → Means (effect db ss) (Err e)
unfolding effect
means_of_err db ss (answer.At index why) h = ap (to_effect db) h
means_of_err db ss answer.NoMemory h = tt

pub means_of_ok : (v db : Database) (ss : List Stmt) (call : Call) (found : Effect) → v ≡ db → Means (steps db 0 (Ok nothing) ss) (Ok call) → found.images ≡ map (image_of v.rows) call.changes → found.reads ≡ map read_of call.reads → found.touched ≡ call.touched
    → Means (effect db ss) (Ok found)
unfolding effect
means_of_ok v db ss call found e h images reads touched =
    let images' : map (image_of db.rows) call.changes ≡ found.images = sym (images ∙ ap (λ (d : Database). map (image_of d.rows) call.changes) e) in
    ap (to_effect db) h ∙ λ i. Ok (record { images = images' i; reads = sym reads i; touched = sym touched i })

keys_of_images : (rows : Rows) (cs : List Change) → map key_of (map (image_of rows) cs) ≡ keys_of cs
keys_of_images rows [] = refl
keys_of_images rows (c ∷ cs) = ap (λ l. c.0 ∷ l) (keys_of_images rows cs)

pub images_rise : (rows : Rows) (cs : List Change) (images : List Image) → images ≡ map (image_of rows) cs → IsRising cs → AreRising images
images_rise rows cs images e s =
    subst (λ (ks : List RowKey). IsStrictlySortedBy key_cmp ks) (sym (ap (map key_of) e ∙ keys_of_images rows cs)) s

own_key : (schema : Schema) (rows : Rows) (key : RowKey) (o : Option Row) → IsSound schema rows → row_at rows key ≡ o → SideFitsKey schema key o
own_key schema rows key None s e = tt
own_key schema rows key (Some row) s e = s.keyed key row e

pub each_image : (v : Database) (cs : List Change) → IsSound v.schema v.rows → AreChangesOf v.resource v.schema cs → AllByRecursion (IsImageOf v) (map (image_of v.rows) cs)
each_image v [] s h = tt
each_image v (c ∷ cs) s h = (
  record { resource = h.0.number; table = h.0.in_table; before = own_key v.schema v.rows c.0 (row_at v.rows c.0) s refl; after = h.0.fits },
  each_image v cs s h.1,
)

pub images_apply : (v db : Database) (cs : List Change) (images : List Image) → v ≡ db → images ≡ map (image_of v.rows) cs → IsSound v.schema v.rows → AreChangesOf db.resource db.schema cs → IsRising cs → AreImagesOf db images
images_apply v db cs images e is s changes rising =
    let changes' = subst (λ (d : Database). AreChangesOf d.resource d.schema cs) (sym e) changes in
    let each : All (IsImageOf v) (map (image_of v.rows) cs) = All-from_recursion (IsImageOf v) (map (image_of v.rows) cs) (each_image v cs s changes') in
    let different : IsDistinct is_key (map key_of (map (image_of v.rows) cs)) = subst (λ (ks : List RowKey). IsDistinct is_key ks) (sym (keys_of_images v.rows cs)) (IsDistinct-from_sorted key_cmp (keys_of cs) rising) in
    let at_v : AreImagesOf v (map (image_of v.rows) cs) = record { each = each; different = different } in
    subst₂ (λ (d : Database) (l : List Image). AreImagesOf d l) e (sym is) at_v
