-- Which settings a manager may have.
use Rattle.std.specs.Prelude.{ℕ, ◌<◌, ◌^◌, Bool, List, length, Option}
use Rattle.seata_types.specs.declared.statements.Work.{Work}
use Rattle.seata_types.specs.declared.statuses.Ending.{Ending}
use Rattle.history_rules.specs.ManagerRules.{Settings}

-- the settings of these parts
abbrev pub settings_with : (number timeout tries : ℕ) → List (ℕ × Work) → Ending → (silent : Option ℕ) → (poll : Bool) → Settings
settings_with number timeout tries calls ending silent poll =
    record { number = number; timeout = timeout; tries = tries; calls = calls; ending = ending; silent = silent; poll = poll }

-- calls are counted by 16 bits
abbrev pub HasFewCalls : Settings → Type 0
HasFewCalls m = length m.calls < 2 ^ 16
