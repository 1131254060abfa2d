-- What holds of all options.
use Rattle.std.specs.Prelude.{◌≡◌, ◌++◌, ℕ, false, List, ◌∷◌, None, codes}
use Rattle.lab_words.specs.Grammar.{Given, Spelling, has_equals, spelt, with_all}

-- options may stand in any order: two that stand side by side may change places
abbrev pub AnyOrder : Type 0
AnyOrder = (first second : Spelling) (more : List Spelling) (g : Given)
    → with_all (first ∷ second ∷ more) g ≡ with_all (second ∷ first ∷ more) g

-- none may be given twice
abbrev pub OnlyOnce : Type 0
OnlyOnce = (name one other : List ℕ) (more : List Spelling) (g : Given)
    → with_all ((name, one) ∷ (name, other) ∷ more) g ≡ None

-- an option reads alike as one word and as two
abbrev pub SpeltAlike : Type 0
SpeltAlike = (name value : List ℕ) (words : List (List ℕ)) → has_equals name ≡ false
    → spelt ((name ++ (codes "=" ++ value)) ∷ words) None ≡ spelt (name ∷ value ∷ words) None
