-- The bytes of each field, and which values have such bytes. Numbers stand with their high byte first.
use Rattle.std.specs.Prelude.{◌≡◌, ℕ, ◌<◌, ◌≤◌, ◌^◌, Bool, true, not, ◌&&◌, ◌||◌, ◌==◌, nat_lt, IsTrue, All, Option, Some, None, IfSome, List, [], ◌∷◌, ◌++◌, length, FitsSigned}
use Rattle.std.specs.List.{list_all, flat_map}
use Rattle.std.specs.Int.{w16, w32, w64, to_be_bytes, cast_unsigned}
use Rattle.std.specs.Str.{is_utf8}
use Rattle.seata_types.specs.declared.limits.TheConstants.{TEXT_BYTES}
use Rattle.seata_types.specs.declared.ids.Ticket.{Ticket}
use Rattle.seata_types.specs.declared.rows.Value.{Value}
use Rattle.seata_types.specs.declared.rows.Value.TheVariants as value
use Rattle.seata_types.specs.declared.rows.Row.{Row}
use Rattle.seata_types.specs.declared.rows.RowKey.{RowKey}
use Rattle.seata_types.specs.declared.rows.Image.{Image}
use Rattle.seata_types.specs.declared.rows.ReadRow.{ReadRow}
use Rattle.seata_types.specs.declared.limits.TheConstants.{KEY_PARTS}
use Rattle.byte_fields.specs.declared.layouts.KeyLayout.{KeyLayout}
use Rattle.byte_fields.specs.declared.layouts.KeyLayout.TheVariants as layout
use Rattle.byte_fields.specs.KeyOrder.{is_below}

-- ---- texts

-- U+0000 to U+001F and U+007F
abbrev pub is_control : ℕ → Bool
is_control c = nat_lt c 32 || (c == 127)

-- UTF-8 without control characters
unfoldable pub is_plain : List ℕ → Bool
is_plain text = is_utf8 text && list_all (λ c. not (is_control c)) text

-- a plain text whose length has two bytes
pub record FitsText (text : List ℕ) : Type 0 where
  pub short : length text < 2 ^ 16
  pub plain : IsTrue (is_plain text)

-- two bytes of length, and the text
abbrev pub text_bytes : List ℕ → List ℕ
text_bytes text = to_be_bytes w16 (length text) ++ text

-- ---- values: a tag, and the number as a two's complement or the text

-- a number of 64 bits with its sign, or a plain text of no more bytes than a value may have
abbrev pub FitsValue : Value → Type 0
FitsValue (value.Int n) = FitsSigned w64 n
FitsValue (value.Text text) = (length text ≤ TEXT_BYTES) × IsTrue (is_plain text)

unfoldable pub value_bytes : Value → List ℕ
value_bytes (value.Int n) = 0 ∷ to_be_bytes w64 (cast_unsigned w64 n)
value_bytes (value.Text text) = 1 ∷ text_bytes text

-- ---- lists: two bytes of count, and the items

abbrev pub list_bytes : {X : Type 0} → (X → List ℕ) → List X → List ℕ
list_bytes item xs = to_be_bytes w16 (length xs) ++ flat_map item xs

-- whether x may come after the item before it, if there is one
abbrev pub may_come : {X : Type 0} → (X → X → Bool) → Option X → X → Bool
may_come follows None x = true
may_come follows (Some last) x = follows last x

-- each item may come after the one before it, and the first after last
abbrev pub IsInOrder : {X : Type 0} → (X → X → Bool) → Option X → List X → Type 0
IsInOrder follows last [] = Unit {0}
IsInOrder follows last (x ∷ xs) = IsTrue (may_come follows last x) × IsInOrder follows (Some x) xs

-- any item may come after any other
abbrev pub any_order : {X : Type 0} → X → X → Bool
any_order last x = true

-- items that fit, each of which may come after the one before it, no more than two bytes can count
pub record FitsList {X : Type 0} (follows : X → X → Bool) (Fits : X → Type 0) (xs : List X) : Type 0 where
  pub count : length xs < 2 ^ 16
  pub each : All Fits xs
  pub order : IsInOrder follows None xs

-- ---- rows: a list of values in no order; one that may be absent has a tag before it

-- values that fit, no more than two bytes can count
pub record FitsRow (row : Row) : Type 0 where
  pub count : length row.0 < 2 ^ 16
  pub each : All FitsValue row.0

unfoldable pub row_bytes : Row → List ℕ
row_bytes row = list_bytes value_bytes row.0

abbrev pub FitsOptionRow : Option Row → Type 0
FitsOptionRow row = IfSome row FitsRow

unfoldable pub option_row_bytes : Option Row → List ℕ
option_row_bytes None = 0 ∷ []
option_row_bytes (Some row) = 1 ∷ row_bytes row

-- ---- keys, in rising order where they stand in a list: the values of a key stand with a byte of count, or, in the older
-- layout, as one value alone

-- how many values a key of a layout may have
abbrev pub HasParts : KeyLayout → ℕ → Type 0
HasParts layout.Counted n = (1 ≤ n) × (n ≤ KEY_PARTS)
HasParts layout.Single n = n ≡ 1

-- the values of a key that its layout can hold
pub record FitsParts (how : KeyLayout) (pk : List Value) : Type 0 where
  pub count : HasParts how (length pk)
  pub each : All FitsValue pk

unfoldable pub parts_bytes : KeyLayout → List Value → List ℕ
parts_bytes layout.Counted pk = length pk ∷ flat_map value_bytes pk
parts_bytes layout.Single pk = flat_map value_bytes pk

-- a key in a layout: its resource, the name of its table, and its values
pub record FitsKeyIn (how : KeyLayout) (key : RowKey) : Type 0 where
  pub resource : key.resource < 2 ^ 16
  pub table : FitsText key.table
  pub pk : FitsParts how key.pk

unfoldable pub key_bytes_in : KeyLayout → RowKey → List ℕ
key_bytes_in how key = to_be_bytes w16 key.resource ++ (text_bytes key.table ++ parts_bytes how key.pk)

abbrev pub FitsKeysIn : KeyLayout → List RowKey → Type 0
FitsKeysIn how keys = FitsList is_below (FitsKeyIn how) keys

abbrev pub keys_bytes_in : KeyLayout → List RowKey → List ℕ
keys_bytes_in how keys = list_bytes (key_bytes_in how) keys

-- ---- images and reads, in rising order of their keys

-- an image in a layout: its key, the row before and the row after
pub record FitsImageIn (how : KeyLayout) (image : Image) : Type 0 where
  pub key : FitsKeyIn how image.key
  pub before : FitsOptionRow image.before
  pub after : FitsOptionRow image.after

unfoldable pub image_bytes_in : KeyLayout → Image → List ℕ
image_bytes_in how image = key_bytes_in how image.key ++ (option_row_bytes image.before ++ option_row_bytes image.after)

abbrev pub image_follows : Image → Image → Bool
image_follows last image = is_below last.key image.key

abbrev pub FitsImagesIn : KeyLayout → List Image → Type 0
FitsImagesIn how images = FitsList image_follows (FitsImageIn how) images

abbrev pub images_bytes_in : KeyLayout → List Image → List ℕ
images_bytes_in how images = list_bytes (image_bytes_in how) images

-- a read in a layout: its key, and the row that was read
pub record FitsReadIn (how : KeyLayout) (read : ReadRow) : Type 0 where
  pub key : FitsKeyIn how read.key
  pub row : FitsRow read.row

unfoldable pub read_bytes_in : KeyLayout → ReadRow → List ℕ
read_bytes_in how read = key_bytes_in how read.key ++ row_bytes read.row

abbrev pub read_follows : ReadRow → ReadRow → Bool
read_follows last read = is_below last.key read.key

abbrev pub FitsReadsIn : KeyLayout → List ReadRow → Type 0
FitsReadsIn how reads = FitsList read_follows (FitsReadIn how) reads

abbrev pub reads_bytes_in : KeyLayout → List ReadRow → List ℕ
reads_bytes_in how reads = list_bytes (read_bytes_in how) reads

-- ---- the layout that is written

-- the same with a byte of count before the values of each key
abbrev pub FitsKey : RowKey → Type 0
FitsKey key = FitsKeyIn layout.Counted key

abbrev pub key_bytes : RowKey → List ℕ
key_bytes key = key_bytes_in layout.Counted key

abbrev pub FitsKeys : List RowKey → Type 0
FitsKeys keys = FitsKeysIn layout.Counted keys

abbrev pub keys_bytes : List RowKey → List ℕ
keys_bytes keys = keys_bytes_in layout.Counted keys

abbrev pub FitsImages : List Image → Type 0
FitsImages images = FitsImagesIn layout.Counted images

abbrev pub images_bytes : List Image → List ℕ
images_bytes images = images_bytes_in layout.Counted images

abbrev pub FitsReads : List ReadRow → Type 0
FitsReads reads = FitsReadsIn layout.Counted reads

abbrev pub reads_bytes : List ReadRow → List ℕ
reads_bytes reads = reads_bytes_in layout.Counted reads

-- ---- tickets

-- the resource's boot and the count since then, of four bytes each
pub record FitsTicket (ticket : Ticket) : Type 0 where
  pub boot : ticket.boot < 2 ^ 32
  pub seq : ticket.seq < 2 ^ 32

unfoldable pub ticket_bytes : Ticket → List ℕ
ticket_bytes ticket = to_be_bytes w32 ticket.boot ++ to_be_bytes w32 ticket.seq
