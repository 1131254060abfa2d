-- Texts in quotes.
use Rattle.std.specs.Prelude.{ℕ, ◌+◌, if◌then◌else◌, ◌==◌, List, [], ◌∷◌, ◌++◌, Option, Some, None, option_map}
use Rattle.std.specs.Str.{byte}

-- the byte that begins and ends a text
abbrev pub quote : ℕ
quote = byte "'"

-- what is found behind so many bytes, with the value that these have before its own
abbrev pub behind : List ℕ → ℕ → Option (List ℕ × ℕ) → Option (List ℕ × ℕ)
behind value bytes more = option_map (λ m. (value ++ m.0, bytes + m.1)) more

-- The value of a text, by what follows its opening quote, and the bytes from there up to and with its closing
-- quote. Two quotes in a row stand for one.
abbrev pub text_at : List ℕ → Option (List ℕ × ℕ)
text_at [] = None
text_at (b ∷ []) = if b == quote then Some ([], 1) else None
text_at (b ∷ c ∷ z) =
    if b == quote then (if c == quote then behind (quote ∷ []) 2 (text_at z) else Some ([], 1)) else behind (b ∷ []) 1 (text_at (c ∷ z))

abbrev pub value_of : Option (List ℕ × ℕ) → List ℕ
value_of None = []
value_of (Some found) = found.0

-- the value alone; nothing where a text isn't closed
abbrev pub value_at : List ℕ → List ℕ
value_at z = value_of (text_at z)
