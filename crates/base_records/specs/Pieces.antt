-- A text kept in records of at most n bytes.
use Rattle.std.specs.Prelude.{◌≡◌, ◌≤◌, ℕ, zero, suc, List, [], ◌∷◌, ◌++◌, length, take, drop}

-- pieces of n bytes, of which the last has what is left, and an empty one behind them; `most` is at least the number of the others
abbrev pub cut : (n most : ℕ) → List ℕ → List (List ℕ)
cut n zero text = [] ∷ []
cut n (suc most) [] = [] ∷ []
cut n (suc most) (c ∷ cs) = take n (c ∷ cs) ∷ cut n most (drop n (c ∷ cs))

-- the records of a text
unfoldable pub records_of : ℕ → List ℕ → List (List ℕ)
records_of n text = cut n (length text) text

-- records one after the other
abbrev pub joined : List (List ℕ) → List ℕ
joined [] = []
joined (r ∷ rs) = r ++ joined rs

-- these are the first records of a text
pub record IsFront (n : ℕ) (records : List (List ℕ)) (text : List ℕ) : Type 0 where
  pub missing : List (List ℕ)
  pub whole : records ++ missing ≡ records_of n text

-- the last of these records is an empty one
pub record IsWhole (records : List (List ℕ)) : Type 0 where
  pub front : List (List ℕ)
  pub ends : records ≡ front ++ [] ∷ []

-- the records of a text make the text
abbrev pub RecordsJoin : Type 0
RecordsJoin = (n : ℕ) (text : List ℕ) → 1 ≤ n → joined (records_of n text) ≡ text

-- all records of a text are the first ones of no other text
abbrev pub TextsDiffer : Type 0
TextsDiffer = (n : ℕ) (text other : List ℕ) → 1 ≤ n → IsFront n (records_of n text) other → text ≡ other

-- the first records of a text that end with the empty one are all of them
abbrev pub WholeFrontsEnd : Type 0
WholeFrontsEnd = (n : ℕ) (records : List (List ℕ)) (text : List ℕ) → 1 ≤ n → IsFront n records text → IsWhole records → records ≡ records_of n text
