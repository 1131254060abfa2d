-- How each field is read from left to right, with the first fault that is met.
use Rattle.std.specs.Prelude.{◌≡◌, ◌≢◌, ℕ, zero, suc, ◌+◌, Option, Some, None, List, [], ◌∷◌, length, take, drop, Result, Ok, Err, nat_lt, nat_le, ◌&&◌, option_map, if◌then◌else◌}
use Rattle.std.specs.Int.{Width, w8, w16, w32, w64, byte_len, from_be_bytes, cast_signed}
use Rattle.seata_types.specs.declared.limits.TheConstants.{TEXT_BYTES, KEY_PARTS}
use Rattle.seata_types.specs.declared.ids.Ticket.{Ticket}
use Rattle.seata_types.specs.declared.rows.Value.{Value}
use Rattle.seata_types.specs.declared.rows.Value.TheVariants as value
use Rattle.seata_types.specs.declared.rows.Row.{Row}
use Rattle.seata_types.specs.declared.rows.RowKey.{RowKey}
use Rattle.seata_types.specs.declared.rows.Image.{Image}
use Rattle.seata_types.specs.declared.rows.ReadRow.{ReadRow}
use Rattle.byte_fields.specs.declared.errors.FieldError.{FieldError}
use Rattle.byte_fields.specs.declared.errors.FieldError.TheVariants as errors
use Rattle.byte_fields.specs.declared.layouts.KeyLayout.{KeyLayout}
use Rattle.byte_fields.specs.declared.layouts.KeyLayout.TheVariants as layout
use Rattle.byte_fields.specs.KeyOrder.{is_below}
use Rattle.byte_fields.specs.Layout.{is_plain, may_come}

-- a place in the bytes: how many stand before it, and those from it on
pub record Position : Type 0 where
  pub at : ℕ
  pub rest : List ℕ

-- the place that is n bytes further on
abbrev pub past : ℕ → Position → Position
past n p = record { at = p.at + n; rest = drop n p.rest }

-- the value that stands at a place, and the place after it, or the first fault
abbrev pub Read : Type 0 → Type 0
Read X = Result (X × Position) FieldError

-- what reading gives at each place
abbrev pub Reader : Type 0 → Type 0
Reader X = Position → Read X

-- the next reader, with what was read and at the place after it; a fault ends the reading
abbrev pub and_then : {X Y : Type 0} → Read X → (X → Reader Y) → Read Y
and_then (Ok x) next = next x.0 x.1
and_then (Err e) next = Err e

-- two readers, one after the other
infixl 10 ◌>>=◌
abbrev pub ◌>>=◌ : {X Y : Type 0} → Reader X → (X → Reader Y) → Reader Y
(first >>= next) p = and_then (first p) next

-- a value, and below it a fault, for which no byte is read
abbrev pub gives : {X : Type 0} → X → Reader X
gives x p = Ok (x, p)

abbrev pub fails : {X : Type 0} → FieldError → Reader X
fails e p = Err e

-- n bytes of what begins at a place
abbrev pub bytes_of : ℕ → ℕ → Reader (List ℕ)
bytes_of start n p = if nat_lt (length p.rest) n then Err (errors.Short start) else Ok (take n p.rest, past n p)

-- a number, its high byte first
unfoldable pub number_at : Width → Reader ℕ
number_at w start = and_then (bytes_of start.at (byte_len w) start) (λ bytes. gives (from_be_bytes w bytes))

-- a text where it is plain, and else a bad text at the place where its field begins
abbrev pub plain_or_fault : ℕ → List ℕ → Reader (List ℕ)
plain_or_fault start text = if is_plain text then gives text else fails (errors.BadText start)

-- a text with its length
unfoldable pub text_at : Reader (List ℕ)
text_at start = and_then (number_at w16 start) (λ n. bytes_of start.at n >>= plain_or_fault start.at)

-- a text with its length, of no more bytes than a value may have
unfoldable pub short_text_at : Reader (List ℕ)
short_text_at start = and_then (text_at start) (λ text.
    if nat_lt TEXT_BYTES (length text) then fails (errors.BadText start.at) else gives text)

-- what stands behind the tag at a place
abbrev pub tagged_value : ℕ → ℕ → Reader Value
tagged_value place zero = number_at w64 >>= λ n. gives (value.Int (cast_signed w64 n))
tagged_value place (suc zero) = short_text_at >>= λ text. gives (value.Text text)
tagged_value place (suc (suc tag)) = fails (errors.BadTag place)

-- a value: its tag, and what stands behind it
unfoldable pub value_at : Reader Value
value_at start = and_then (number_at w8 start) (tagged_value start.at)

-- so many items, of which each is read with the one before it in sight
unfoldable pub items_at : {X : Type 0} → (Option X → Reader X) → Option X → ℕ → Reader (List X)
items_at item last zero = gives []
items_at item last (suc n) = do
  x ← item last
  xs ← items_at item (Some x) n
  gives (x ∷ xs)

-- a count, and as many items
unfoldable pub list_at : {X : Type 0} → (Option X → Reader X) → Reader (List X)
list_at item = do
  n ← number_at w16
  items_at item None n

-- a value, whatever stood before it
abbrev pub any_value : Option Value → Reader Value
any_value last = value_at

-- a row: a count, and as many values
unfoldable pub row_at : Reader Row
row_at = do
  values ← list_at any_value
  gives (record { 0 = values })

-- behind tag 0 there is no row, behind 1 there is one, and any other is a bad tag
abbrev pub tagged_row : ℕ → ℕ → Reader (Option Row)
tagged_row place zero = gives None
tagged_row place (suc zero) = row_at >>= λ row. gives (Some row)
tagged_row place (suc (suc tag)) = fails (errors.BadTag place)

-- a row that may be absent, behind its tag
unfoldable pub option_row_at : Reader (Option Row)
option_row_at start = and_then (number_at w8 start) (tagged_row start.at)

-- ---- keys

-- so many values, where a key may have as many
abbrev pub counted_values : ℕ → ℕ → Reader (List Value)
counted_values place n = if nat_le 1 n && nat_le n KEY_PARTS then items_at any_value None n else fails (errors.BadTag place)

-- the values of a key
unfoldable pub parts_at : KeyLayout → Reader (List Value)
parts_at layout.Counted start = and_then (number_at w8 start) (counted_values start.at)
parts_at layout.Single start = items_at any_value None 1 start

-- a key in a layout: its resource, the name of its table, and its values
unfoldable pub key_in : KeyLayout → Reader RowKey
key_in how = do
  resource ← number_at w16
  table ← text_at
  pk ← parts_at how
  gives (record { resource = resource; table = table; pk = pk })

-- a key that stands above the one before it, and else is refused at its place
unfoldable pub next_key : KeyLayout → Option RowKey → Reader RowKey
next_key how last start = and_then (key_in how start) (λ key.
    if may_come is_below last key then gives key else fails (errors.BadTag start.at))

-- the rows of an image or a read stand behind its key, and so are met after its order
unfoldable pub next_image : KeyLayout → Option Image → Reader Image
next_image how last = do
  key ← next_key how (option_map (λ (i : Image). i.key) last)
  before ← option_row_at
  after ← option_row_at
  gives (record { key = key; before = before; after = after })

unfoldable pub next_read : KeyLayout → Option ReadRow → Reader ReadRow
next_read how last = do
  key ← next_key how (option_map (λ (r : ReadRow). r.key) last)
  row ← row_at
  gives (record { key = key; row = row })

-- lists in rising order of keys: a count, and as many items
abbrev pub keys_in : KeyLayout → Reader (List RowKey)
keys_in how = list_at (next_key how)

abbrev pub images_in : KeyLayout → Reader (List Image)
images_in how = list_at (next_image how)

abbrev pub reads_in : KeyLayout → Reader (List ReadRow)
reads_in how = list_at (next_read how)

-- ---- in the layout that is written

abbrev pub key_at : Reader RowKey
key_at = key_in layout.Counted

abbrev pub keys_at : Reader (List RowKey)
keys_at = keys_in layout.Counted

abbrev pub images_at : Reader (List Image)
images_at = images_in layout.Counted

abbrev pub reads_at : Reader (List ReadRow)
reads_at = reads_in layout.Counted

-- a ticket: the resource's boot, and the count since then
unfoldable pub ticket_at : Reader Ticket
ticket_at = do
  boot ← number_at w32
  seq ← number_at w32
  gives (record { boot = boot; seq = seq })

-- what a call answers that takes a field: the value, and then the place is past it; or the first fault, and then the
-- place is as before; want of memory alone is free
abbrev pub Takes : {X : Type 0} → Reader X → Position → Position → Result X FieldError → Type 0
Takes reader old new (Ok x) = reader old ≡ Ok (x, new)
Takes reader old new (Err e) = (e ≢ errors.NoMemory → reader old ≡ Err e) × (new ≡ old)
