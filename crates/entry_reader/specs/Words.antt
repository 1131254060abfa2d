-- Choosing by a word.
use Rattle.std.specs.Prelude.{ℕ, Bool, true, false, if◌then◌else◌, List, [], ◌∷◌}
use Rattle.seata_types.specs.Orders.{same_text}

-- what a list of words has for a word, or what is given for all others
abbrev pub chosen : {A : Type 0} → List ℕ → List (List ℕ × A) → A → A
chosen word [] other = other
chosen word (row ∷ rows) other = if same_text word row.0 then row.1 else chosen word rows other

-- whether there is nothing
abbrev pub is_empty : List ℕ → Bool
is_empty [] = true
is_empty (c ∷ cs) = false
