-- How many bytes values, rows, keys, images and reads have, that have places.
use Rattle.std.proofs.Common.{◌≡◌, ℕ, ◌+◌, ◌*◌, ◌≤◌, List, [], ◌∷◌, ◌++◌, length, Option, Some, None, refl, arith}
use Rattle.std.specs.Int.{w16, w64, to_be_bytes, cast_unsigned}
use Rattle.std.specs.List.{AllByRecursion, flat_map}
use Rattle.std.proofs.lemmas.List.{length-append}
use Rattle.std.proofs.lemmas.List.Elements.{All-from_recursion, recursion_from_All}
use Rattle.seata_types.specs.declared.limits.TheConstants.{KEY_PARTS}
use Rattle.seata_types.specs.declared.rows.Image.{Image}
use Rattle.seata_types.specs.declared.rows.ReadRow.{ReadRow}
use Rattle.seata_types.specs.declared.rows.Row.{Row}
use Rattle.seata_types.specs.declared.rows.RowKey.{RowKey}
use Rattle.seata_types.specs.declared.rows.Value.{Value}
use Rattle.seata_types.specs.declared.rows.Value.TheVariants as value
use Rattle.byte_fields.specs.declared.layouts.KeyLayout.TheVariants as layout
use Rattle.byte_fields.specs.Layout.{FitsImageIn, FitsOptionRow, FitsReadIn, FitsRow, FitsValue, image_bytes_in, images_bytes, key_bytes, key_bytes_in, option_row_bytes, parts_bytes, read_bytes_in, reads_bytes, row_bytes, text_bytes, value_bytes}
use Rattle.byte_fields.proofs.Numbers.{wide16, wide64}
use Rattle.record_places.proofs.CallLaws.{IsKeyWithin, IsRowWithin, IsSideWithin}

text_size : (text : List ℕ) → length (text_bytes text) ≡ 2 + length text
text_size text = let both = length-append (to_be_bytes w16 (length text)) text in let two = wide16.len (length text) in omega (arith, both, two)

value_size : (v : Value) → FitsValue v → length (value_bytes v) ≤ 123
unfolding value_bytes
value_size (value.Int n) fits = let eight = wide64.len (cast_unsigned w64 n) in omega (arith, eight)
value_size (value.Text text) fits = let size = text_size text in let short = fits.0 in omega (arith, size, short)

values_size : (vs : List Value) → AllByRecursion FitsValue vs → length (flat_map value_bytes vs) ≤ 123 * length vs
values_size [] all = omega arith
values_size (v ∷ vs) all =
    let both = length-append (value_bytes v) (flat_map value_bytes vs) in
    let one = value_size v all.0 in
    let rest = values_size vs all.1 in
    omega (arith, both, one, rest)

row_size : (row : Row) → IsRowWithin row → length (row_bytes row) ≤ 986
unfolding row_bytes
row_size row is =
    let both = length-append (to_be_bytes w16 (length row.0)) (flat_map value_bytes row.0) in
    let two = wide16.len (length row.0) in
    let values = values_size row.0 is.values in
    let few = is.count in
    omega (arith, both, two, values, few)

side_size : (o : Option Row) → IsSideWithin o → length (option_row_bytes o) ≤ 987
unfolding option_row_bytes
side_size None is = omega arith
side_size (Some row) is = let size = row_size row (is row refl) in omega (arith, size)

parts_size : (pk : List Value) → AllByRecursion FitsValue pk → length pk ≤ KEY_PARTS → length (parts_bytes layout.Counted pk) ≤ 493
unfolding parts_bytes
parts_size pk all few = let values = values_size pk all in omega (arith, values, few)

key_size : (key : RowKey) → IsKeyWithin key → length (key_bytes key) ≤ 529
unfolding key_bytes_in
key_size key is =
    let outer = length-append (to_be_bytes w16 key.resource) (text_bytes key.table ++ parts_bytes layout.Counted key.pk) in
    let inner = length-append (text_bytes key.table) (parts_bytes layout.Counted key.pk) in
    let two = wide16.len key.resource in
    let name = text_size key.table in
    let short = is.short in
    let parts = parts_size key.pk (recursion_from_All FitsValue key.pk is.fits.pk.each) is.fits.pk.count.1 in
    omega (arith, outer, inner, two, name, short, parts)

-- ---- images and reads

pub record IsImageWithin (i : Image) : Type 0 where
  pub key : IsKeyWithin i.key
  pub before : IsSideWithin i.before
  pub after : IsSideWithin i.after

pub record IsReadWithin (r : ReadRow) : Type 0 where
  pub key : IsKeyWithin r.key
  pub row : IsRowWithin r.row

image_size : (i : Image) → IsImageWithin i → length (image_bytes_in layout.Counted i) ≤ 2503
unfolding image_bytes_in
image_size i is =
    let outer = length-append (key_bytes i.key) (option_row_bytes i.before ++ option_row_bytes i.after) in
    let inner = length-append (option_row_bytes i.before) (option_row_bytes i.after) in
    let key = key_size i.key is.key in
    let before = side_size i.before is.before in
    let after = side_size i.after is.after in
    omega (arith, outer, inner, key, before, after)

read_size : (r : ReadRow) → IsReadWithin r → length (read_bytes_in layout.Counted r) ≤ 1515
unfolding read_bytes_in
read_size r is =
    let both = length-append (key_bytes r.key) (row_bytes r.row) in
    let key = key_size r.key is.key in
    let row = row_size r.row is.row in
    omega (arith, both, key, row)

all_images_size : (is : List Image) → AllByRecursion IsImageWithin is → length (flat_map (image_bytes_in layout.Counted) is) ≤ 2503 * length is
all_images_size [] all = omega arith
all_images_size (i ∷ is) all =
    let both = length-append (image_bytes_in layout.Counted i) (flat_map (image_bytes_in layout.Counted) is) in
    let one = image_size i all.0 in
    let rest = all_images_size is all.1 in
    omega (arith, both, one, rest)

all_reads_size : (rs : List ReadRow) → AllByRecursion IsReadWithin rs → length (flat_map (read_bytes_in layout.Counted) rs) ≤ 1515 * length rs
all_reads_size [] all = omega arith
all_reads_size (r ∷ rs) all =
    let both = length-append (read_bytes_in layout.Counted r) (flat_map (read_bytes_in layout.Counted) rs) in
    let one = read_size r all.0 in
    let rest = all_reads_size rs all.1 in
    omega (arith, both, one, rest)

pub images_size : (is : List Image) → AllByRecursion IsImageWithin is → length (images_bytes is) ≤ 2 + 2503 * length is
images_size is all =
    let both = length-append (to_be_bytes w16 (length is)) (flat_map (image_bytes_in layout.Counted) is) in
    let two = wide16.len (length is) in
    let size = all_images_size is all in
    omega (arith, both, two, size)

pub reads_size : (rs : List ReadRow) → AllByRecursion IsReadWithin rs → length (reads_bytes rs) ≤ 2 + 1515 * length rs
reads_size rs all =
    let both = length-append (to_be_bytes w16 (length rs)) (flat_map (read_bytes_in layout.Counted) rs) in
    let two = wide16.len (length rs) in
    let size = all_reads_size rs all in
    omega (arith, both, two, size)

-- ---- that they have places

row_fits : (row : Row) → IsRowWithin row → FitsRow row
row_fits row is = let few = is.count in record { count = omega (arith, few); each = All-from_recursion FitsValue row.0 is.values }

side_fits : (o : Option Row) → IsSideWithin o → FitsOptionRow o
side_fits None is = tt
side_fits (Some row) is = row_fits row (is row refl)

pub image_fits : (i : Image) → IsImageWithin i → FitsImageIn layout.Counted i
image_fits i is = record { key = is.key.fits; before = side_fits i.before is.before; after = side_fits i.after is.after }

pub read_fits : (r : ReadRow) → IsReadWithin r → FitsReadIn layout.Counted r
read_fits r is = record { key = is.key.fits; row = row_fits r.row is.row }
