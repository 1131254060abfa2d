-- What the steps of reading give.
use Rattle.std.specs.Prelude.{◌≡◌, ℕ, Bool, List, [], ◌∷◌, ◌++◌, Option, Some, None, Result, Ok, Err}
use Rattle.seata_types.specs.Orders.{same_text}
use Rattle.scenario_form.specs.declared.scenarios.Scenario.{Scenario}
use Rattle.history_rules.specs.Nodes.{no_past}
use Rattle.history_text.specs.declared.entries.Entry.{Entry}
use Rattle.history_text.specs.declared.entries.Names.{Names}
use Rattle.entry_reader.specs.Reading.{entry_of}
use Rattle.report_text.specs.Following.{Reports}
use Rattle.report_judge.specs.Reading.{IsReadable}
use Rattle.report_judge.specs.declared.errors.LinesError.{LinesError}
use Rattle.report_judge.specs.declared.errors.LinesError.TheVariants as error

-- what was asked for is given; nothing is said where memory was refused
abbrev pub Gives : (Result (List Entry) ℕ → Type 0) → Result (List Entry) LinesError → Type 0
Gives asked (Ok es) = asked (Ok es)
Gives asked (Err (error.Line number)) = asked (Err number)
Gives asked (Err error.NoMemory) = Unit {0}

-- the entry of a line that is readable, or none, where it isn't
abbrev pub IsEntryIn : Names → List ℕ → Option Entry → Type 0
IsEntryIn names line (Some e) = IsReadable names line × (e ≡ entry_of names line)
IsEntryIn names line None = IsReadable names line → ⊥

-- the entry of a line stands behind the others
abbrev pub Adds : Names → List ℕ → (old new : List Entry) → Type 0
Adds names line old new = IsReadable names line × (new ≡ old ++ entry_of names line ∷ [])

-- a line with this number isn't readable; nothing is said where memory was refused
abbrev pub RefusesLine : Names → List ℕ → ℕ → LinesError → Type 0
RefusesLine names line number (error.Line told) = (IsReadable names line → ⊥) × (told ≡ number)
RefusesLine names line number error.NoMemory = Unit {0}

-- whether the text is one that is the report of each legal history of these entries
abbrev pub ComparesReport : Scenario → List Entry → (text : List ℕ) → Bool → Type 0
ComparesReport s es text is = (told : List ℕ) × Reports s no_past es told × (is ≡ same_text told text)
