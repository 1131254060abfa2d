-- How a text is cut into pieces: at each separator that stands neither in a text's quotes nor in a row's parentheses.
use Rattle.std.specs.Prelude.{ℕ, ◌-◌, ◌==◌, ◌||◌, Bool, true, false, if◌then◌else◌, List, [], ◌∷◌, ◌++◌, length, slice_get, unwrap_or}
use Rattle.entry_reader.specs.declared.pieces.Separator.{Separator}
use Rattle.entry_reader.specs.declared.pieces.Separator.TheVariants as at
use Rattle.entry_reader.specs.declared.pieces.Inside.{Inside}
use Rattle.entry_reader.specs.declared.pieces.Inside.TheVariants as inside

abbrev pub quote : ℕ
quote = 39

-- whether a byte separates
abbrev pub separates : Separator → ℕ → Bool
separates at.Bar c = c == 124
separates at.Space c = c == 32
separates at.Name c = (c == 46) || (c == 58)
separates at.Part c = c == 95
separates at.Item c = (c == 44) || (c == 59)

-- what the byte behind c stands in
abbrev pub after : Inside → ℕ → Inside
after inside.Nothing c = if c == quote then inside.Text else (if c == 40 then inside.Row else inside.Nothing)
after inside.Text c = if c == quote then inside.Nothing else inside.Text
after inside.Row c = if c == quote then inside.RowText else (if c == 41 then inside.Nothing else inside.Row)
after inside.RowText c = if c == quote then inside.Row else inside.RowText

-- whether a byte ends a piece
abbrev pub ends : Separator → Inside → ℕ → Bool
ends s inside.Nothing c = separates s c
ends s inside.Text c = false
ends s inside.Row c = false
ends s inside.RowText c = false

-- the first piece with something more in front
abbrev pub prefixed : List ℕ → List (List ℕ) → List (List ℕ)
prefixed front [] = front ∷ []
prefixed front (piece ∷ pieces) = (front ++ piece) ∷ pieces

-- one byte more in front: a piece of its own begins behind a separator
abbrev pub placed : Bool → ℕ → List (List ℕ) → List (List ℕ)
placed true c pieces = [] ∷ pieces
placed false c pieces = prefixed (c ∷ []) pieces

-- the pieces of a text that begins inside something
abbrev pub cut : Separator → Inside → List ℕ → List (List ℕ)
cut s i [] = [] ∷ []
cut s i (c ∷ cs) = placed (ends s i c) c (cut s (after i c) cs)

-- the pieces of a text
abbrev pub pieces : Separator → List ℕ → List (List ℕ)
pieces s text = cut s inside.Nothing text

-- the n-th of the pieces, counted from 0; where there is none, the empty one
abbrev pub piece : List (List ℕ) → ℕ → List ℕ
piece ps n = unwrap_or (slice_get ps n) []

-- the last of the pieces
abbrev pub last_piece : List (List ℕ) → List ℕ
last_piece ps = piece ps (length ps - 1)
