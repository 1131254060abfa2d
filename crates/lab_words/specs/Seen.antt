-- For the proofs alone: what the values of the code stand for.
use Rattle.std.specs.Prelude.{ℕ, List, Option, Some, None, if◌then◌else◌, option_copied, option_map}
use Rattle.lab_words.specs.declared.options.Options.{Options}
use Rattle.lab_words.specs.declared.options.Reading.{Reading}
use Rattle.lab_words.specs.declared.orders.Order.{Order}
use Rattle.lab_words.specs.Grammar.{Given, has_equals, name_in, value_in, with_option}

-- the values of options, wherever their texts stand
abbrev pub seen : Options → Given
seen o = record { store = option_copied o.store; number = o.number; size = o.size; workers = o.workers }

-- the same of what is asked for
abbrev pub seen_asked : Order × Options → Order × Given
seen_asked a = (a.0, seen a.1)

-- the options so far, and a name whose value stands next
pub record State : Type 0 where
  pub given : Given
  pub waiting : Option (List ℕ)

-- the same of what was read
abbrev pub seen_reading : Reading → State
seen_reading r = record { given = seen r.options; waiting = option_copied r.waiting }

-- behind a value
abbrev pub settled : Given → State
settled g = record { given = g; waiting = None }

-- the same, where the value is one
abbrev pub settled_by : Given → (name text : List ℕ) → Option State
settled_by g name text = option_map settled (with_option g name text)

-- behind a name
abbrev pub held : Given → List ℕ → State
held g name = record { given = g; waiting = Some name }

-- behind one word more
abbrev pub step_by : Given → (waiting : Option (List ℕ)) → List ℕ → Option State
step_by g (Some name) text = settled_by g name text
step_by g None text =
    if has_equals text
    then settled_by g (name_in text) (value_in text)
    else Some (held g text)

-- the same of what was read
abbrev pub step : State → List ℕ → Option State
step s text = step_by s.given s.waiting text
