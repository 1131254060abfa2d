-- The lines of a text.
use Rattle.std.specs.Prelude.{ℕ, ◌==◌, Bool, if◌then◌else◌, List, [], ◌∷◌}
use Rattle.std.specs.List.{before_first, after_first}

-- a line feed
abbrev pub is_feed : ℕ → Bool
is_feed c = c == 10

-- what stands before the first line feed; all of it, where there is none
abbrev pub first_line : List ℕ → List ℕ
first_line text = before_first is_feed text

-- what stands behind the first line feed
abbrev pub behind_line : List ℕ → List ℕ
behind_line text = after_first is_feed text

-- one byte more, in front of the first of these lines
abbrev pub with_byte : ℕ → List (List ℕ) → List (List ℕ)
with_byte c [] = (c ∷ []) ∷ []
with_byte c (l ∷ ls) = (c ∷ l) ∷ ls

-- a text cut at each line feed; its last line needs none
abbrev pub lines : List ℕ → List (List ℕ)
lines [] = []
lines (c ∷ cs) = if is_feed c then [] ∷ lines cs else with_byte c (lines cs)
