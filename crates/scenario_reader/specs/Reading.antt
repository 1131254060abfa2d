-- What an input is: a scenario, or the fault that keeps it from being one.
use Rattle.std.specs.Prelude.{◌≡◌, ◌≢◌, ◌≤◌, ◌<◌, ◌⊎◌, ℕ, List, [], length, Some, None, Ok, Err, IsUtf8, codes}
use Rattle.seata_types.specs.declared.limits.TheConstants.{INPUT_BYTES}
use Rattle.serde_json.specs.Data.{Data}
use Rattle.serde_json.specs.Read.{read}
use Rattle.scenario_reader.specs.declared.errors.ScenarioError.{ScenarioError}
use Rattle.scenario_reader.specs.declared.errors.ScenarioError.TheVariants as fault
use Rattle.scenario_form.specs.declared.scenarios.Scenario.{Scenario}
use Rattle.scenario_reader.specs.Form.{scenario_of}
use Rattle.scenario_reader.specs.Bases.{kept, IsTextOf}

-- the most that is read, in bytes
abbrev pub input_bytes : ℕ
input_bytes = INPUT_BYTES

-- the bytes are the JSON text of this data, of nesting at most 127
unfoldable pub IsJson : List ℕ → Data → Type 0
IsJson bytes d = IsUtf8 bytes × (read bytes ≡ Some d)

-- the bytes are no JSON text of nesting at most 127
unfoldable pub IsNoJson : List ℕ → Type 0
IsNoJson bytes = IsUtf8 bytes → read bytes ≡ None

-- the scenario with this text in place of the one that it is kept under
abbrev pub with_base : List ℕ → Scenario → Scenario
with_base text s = record s { base = text }

-- the scenario without stops and with an empty schedule
abbrev pub without_events : Scenario → Scenario
without_events s = record s { stops = []; schedule = [] }

-- the data is this scenario, kept under its text
unfoldable pub IsScenarioOf : Data → Scenario → Type 0
IsScenarioOf d s = (scenario_of d ≡ Ok (with_base [] s)) × IsTextOf (kept d) s.base

-- the bytes are a scenario
unfoldable pub IsScenario : List ℕ → Scenario → Type 0
IsScenario bytes s = (length bytes ≤ input_bytes) × (d : Data) × IsJson bytes d × IsScenarioOf d s

-- the bytes are more than are read
unfoldable pub IsTooLong : List ℕ → ScenarioError → Type 0
IsTooLong bytes e = (input_bytes < length bytes) × (e ≡ fault.Limit (codes ".") input_bytes)

-- the bytes are no JSON
unfoldable pub IsNotJson : List ℕ → ScenarioError → Type 0
IsNotJson bytes e = (length bytes ≤ input_bytes) × IsNoJson bytes × (e ≡ fault.NotJson)

-- the bytes are JSON of another form, of which this is the first fault
unfoldable pub IsOtherForm : List ℕ → ScenarioError → Type 0
IsOtherForm bytes e = (length bytes ≤ input_bytes) × (d : Data) × IsJson bytes d × (scenario_of d ≡ Err e)

-- the bytes have this first fault; no fault is want of memory
unfoldable pub IsFault : List ℕ → ScenarioError → Type 0
IsFault bytes e = (e ≢ fault.NoMemory) × (IsTooLong bytes e ⊎ (IsNotJson bytes e ⊎ IsOtherForm bytes e))
