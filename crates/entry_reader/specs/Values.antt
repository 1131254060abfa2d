-- What pieces stand for that hold values: literals, keys, lock texts and rows.
use Rattle.std.specs.Prelude.{ℕ, ◌^◌, ◌-◌, ◌==◌, min, ℤ, pos, neg_ℤ, false, if◌then◌else◌, List, [], ◌∷◌, drop, map, Option, Some, None, codes}
use Rattle.seata_types.specs.Orders.{same_text}
use Rattle.seata_types.specs.declared.rows.Row.{Row}
use Rattle.seata_types.specs.declared.rows.RowKey.{RowKey}
use Rattle.seata_types.specs.declared.rows.Value.{Value}
use Rattle.seata_types.specs.declared.rows.Value.TheVariants as value
use Rattle.history_text.specs.declared.entries.Names.{Names}
use Rattle.entry_reader.specs.declared.pieces.Separator.TheVariants as at
use Rattle.entry_reader.specs.Cuts.{pieces, piece}
use Rattle.entry_reader.specs.Parts.{number, number_in, text_from, unquoted}

-- ---- values

-- the number behind a sign, and one without
unfoldable pub negative : List ℕ → ℤ
negative text = neg_ℤ (pos (min (number text) (2 ^ 63)))

unfoldable pub positive : List ℕ → ℤ
positive text = pos (min (number text) (2 ^ 63 - 1))

-- the value of a statement's literal
abbrev pub literal_of : List ℕ → Value
literal_of [] = value.Int (positive [])
literal_of (c ∷ cs) =
    if c == 39 then value.Text (text_from (unquoted false cs)) else value.Int (if c == 45 then negative cs else positive (c ∷ cs))

-- the same behind a space, as it stands in a row
abbrev pub cell_of : List ℕ → Value
cell_of [] = literal_of []
cell_of (c ∷ cs) = if c == 32 then literal_of cs else literal_of (c ∷ cs)

-- ---- keys

-- `1_2`
unfoldable pub parts_of : List ℕ → List Value
parts_of text = map literal_of (pieces at.Part text)

-- `A.seat:1_2`, by its three pieces
unfoldable pub key_by : Names → List (List ℕ) → RowKey
key_by names ps = record {
  resource = number_in names.resources (piece ps 0);
  table = text_from (piece ps 1);
  pk = parts_of (piece ps 2);
}

-- a key, from a piece
unfoldable pub key_of : Names → List ℕ → RowKey
key_of names text = key_by names (pieces at.Name text)

-- one key of a lock text: with its table, or of the table of the key before it
abbrev pub lock_by : ℕ → List ℕ → List (List ℕ) → RowKey
lock_by resource table [] = record { resource = resource; table = table; pk = [] }
lock_by resource table (parts ∷ []) = record { resource = resource; table = table; pk = parts_of parts }
lock_by resource table (name ∷ parts ∷ more) = record { resource = resource; table = text_from name; pk = parts_of parts }

-- the same, from a piece
unfoldable pub lock_of : ℕ → List ℕ → List ℕ → RowKey
lock_of resource table text = lock_by resource table (pieces at.Name text)

-- the keys of a lock text, where the key before them is of this table
abbrev pub locks_from : ℕ → List ℕ → List (List ℕ) → List RowKey
locks_from resource table [] = []
locks_from resource table (text ∷ texts) =
    let key = lock_of resource table text in key ∷ locks_from resource key.table texts

-- `acc:1,2;stock:1`, all of one resource
unfoldable pub locks_of : ℕ → List ℕ → List RowKey
locks_of resource text = if same_text text (codes "-") then [] else locks_from resource [] (pieces at.Item text)

-- ---- rows

-- `(1, 900)`
unfoldable pub row_of : List ℕ → Row
row_of text = record { 0 = if same_text text (codes "()") then [] else map cell_of (pieces at.Item (drop 1 text)) }

-- a row, or `-` where there is none
unfoldable pub option_row_of : List ℕ → Option Row
option_row_of text = if same_text text (codes "-") then None else Some (row_of text)
