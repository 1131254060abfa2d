-- Options that are read word by word.
use Rattle.std.proofs.Common.{◌≡◌, ℕ, ◌≤◌, Bool, true, false, if◌then◌else◌, List, [], ◌∷◌, length, drop, Option, Some, None, is_some, option_copied, option_map, refl, ap, sym, ◌∙◌}
use Rattle.std.proofs.lemmas.List.{drop_all}
use Rattle.std.specs.Borrow.{Bor}
use Rattle.lab_words.specs.Grammar.{◌>>=◌, Given, Spelling, before, has_equals, name_in, spelt, value_in, with_all, with_option}
use Rattle.lab_words.specs.Seen.{State, held, settled, settled_by, step, step_by}

pub is_some_copied : (o : Option (Bor (List ℕ))) → is_some (option_copied o) ≡ is_some o
is_some_copied None = refl
is_some_copied (Some text) = refl

-- the options behind what was read, and behind these words
abbrev pub rest : State → List (List ℕ) → Option Given
rest s words = spelt words s.waiting >>= (λ (all : List Spelling). with_all all s.given)

abbrev no_values : Option Given
no_values = None

never : (o : Option Given) → no_values ≡ (o >>= (λ (next : Given). no_values))
never None = refl
never (Some g) = refl

first_then : (g : Given) (name text : List ℕ) (others : Option (List Spelling))
    → (before (name, text) others >>= (λ (all : List Spelling). with_all all g))
    ≡ (with_option g name text >>= (λ (next : Given). others >>= (λ (all : List Spelling). with_all all next)))
first_then g name text None = never (with_option g name text)
first_then g name text (Some more) = refl

then_rest : (words : List (List ℕ)) (o : Option Given)
    → (o >>= (λ (next : Given). spelt words None >>= (λ (all : List Spelling). with_all all next)))
    ≡ (option_map settled o >>= (λ (t : State). rest t words))
then_rest words None = refl
then_rest words (Some g) = refl

stepped : (words : List (List ℕ)) (text : List ℕ) (g : Given) (waiting : Option (List ℕ))
    → rest (record { given = g; waiting = waiting }) (text ∷ words) ≡ (step_by g waiting text >>= (λ (t : State). rest t words))
stepped words text g (Some name) = first_then g name text (spelt words None) ∙ then_rest words (with_option g name text)
stepped words text g None = by (has_equals text)
  where
    by : (b : Bool)
        → ((if b then before (name_in text, value_in text) (spelt words None) else spelt words (Some text)) >>= (λ (all : List Spelling). with_all all g))
        ≡ ((if b then settled_by g (name_in text) (value_in text) else Some (held g text)) >>= (λ (t : State). rest t words))
    by true = first_then g (name_in text) (value_in text) (spelt words None) ∙ then_rest words (with_option g (name_in text) (value_in text))
    by false = refl

-- a word was taken, or refused
module _ (s : State) (text : List ℕ) (words : List (List ℕ)) (whole : Option Given) (before_it : rest s (text ∷ words) ≡ whole) where
  pub word_taken : (t : State) → step s text ≡ Some t → rest t words ≡ whole
  word_taken t e = sym (stepped words text s.given s.waiting ∙ ap (λ (o : Option State). o >>= (λ (u : State). rest u words)) e) ∙ before_it

  pub word_refused : step s text ≡ None → None ≡ whole
  word_refused e = sym (stepped words text s.given s.waiting ∙ ap (λ (o : Option State). o >>= (λ (u : State). rest u words)) e) ∙ before_it

-- no word is left
module _ (g : Given) (o : Option (Bor (List ℕ))) (words : List (List ℕ)) (i : ℕ) (whole : Option Given) (all_read : length words ≤ i)
    (before_it : rest (record { given = g; waiting = option_copied o }) (drop i words) ≡ whole) where
  at_the_end : rest (record { given = g; waiting = option_copied o }) [] ≡ whole
  at_the_end = ap (λ (ws : List (List ℕ)). rest (record { given = g; waiting = option_copied o }) ws) (sym (drop_all i words all_read)) ∙ before_it

  pub still_waiting : (name : Bor (List ℕ)) → o ≡ Some name → None ≡ whole
  still_waiting name e = by o e at_the_end
    where
      by : (p : Option (Bor (List ℕ))) → p ≡ Some name → rest (record { given = g; waiting = option_copied p }) [] ≡ whole → None ≡ whole
      by None e h = absurd (let no : None ≡ Some name = e in cc)
      by (Some other) e h = h

  pub all_settled : o ≡ None → Some g ≡ whole
  all_settled e = by o e at_the_end
    where
      by : (p : Option (Bor (List ℕ))) → p ≡ None → rest (record { given = g; waiting = option_copied p }) [] ≡ whole → Some g ≡ whole
      by None e h = h
      by (Some other) e h = absurd (let no : Some other ≡ None = e in cc)
