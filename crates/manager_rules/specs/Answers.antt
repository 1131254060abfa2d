-- What an answer of a manager promises.
use Rattle.std.specs.Prelude.{◌≡◌, ℕ, ◌+◌, ◌≤◌, true, false, List, ◌∷◌, Result, Ok, Err}
use Rattle.seata_types.specs.declared.acts.Act.{Act}
use Rattle.seata_types.specs.declared.acts.Act.TheVariants as act
use Rattle.seata_types.specs.declared.copies.NoMemory.{NoMemory}
use Rattle.seata_types.specs.declared.ids.Place.{Place}
use Rattle.seata_types.specs.declared.messages.Input.{Input}
use Rattle.seata_types.specs.declared.messages.Input.TheVariants as input
use Rattle.seata_types.specs.declared.messages.Message.{Message}
use Rattle.seata_types.specs.declared.messages.Step.{Step}
use Rattle.history_rules.specs.Own.{Given, Own, still, sends}
use Rattle.history_rules.specs.ManagerRules.{is_silent, manager_answer, receiver}
use Rattle.manager_rules.specs.Calls.{SendsSaid}
use Rattle.manager_rules.specs.Tracks.{Tracks}
use Rattle.manager_rules.specs.declared.phases.Phase.{Phase}
use Rattle.manager_rules.specs.declared.talks.Talk.{Talk}

-- ---- messages

-- one message more, and this is waited for
abbrev pub says : Talk → Phase → Talk
says m next = record m { sent = m.sent + 1; phase = next }

-- a message was sent to its receiver, and this is waited for; or the manager has gone silent
pub record Says (old new : Talk) (done : Act) (message : Message) (next : Phase) (step : Step) : Type 0 where
  pub said : is_silent old.settings.silent old.sent ≡ false → (step ≡ sends done (receiver message) message) × (new ≡ says old next)
  pub silent : is_silent old.settings.silent old.sent ≡ true → (step ≡ still act.Silent) × (new ≡ old)
  pub sent : SendsSaid old.settings step
  pub same : new.settings ≡ old.settings
  pub grows : new.sent ≤ old.sent + 1

-- likewise, or memory was refused
abbrev pub Speaks : Talk → Talk → Act → Message → Phase → Result Step NoMemory → Type 0
Speaks old new done message next (Ok step) = Says old new done message next step
Speaks old new done message next (Err refused) = new ≡ old

-- ---- inputs

-- the own entry of a step
abbrev pub own_step : Input → ℕ → Step → Own
own_step given now step = record { event = Given given; now = now; step = step }

-- an act that no disk keeps
abbrev pub IsUndurable : Act → Type 0
IsUndurable (act.Durable done) = ⊥
IsUndurable _ = Unit {0}

-- at these own entries: the step is the rule's answer, and the manager is then the one of the entries with the step's own
abbrev pub TakesAfter : List Own → (old new : Talk) → Input → ℕ → Step → Type 0
TakesAfter owns old new given now step = (step ≡ manager_answer old.settings owns given) × Tracks new (own_step given now step ∷ owns)

-- the answer to an input is the rule's, and no disk keeps it; it sends what the settings say, which stay, and one message at the most
pub record IsAnswered (old new : Talk) (given : Input) (step : Step) : Type 0 where
  pub takes : (owns : List Own) (now : ℕ) → Tracks old owns → TakesAfter owns old new given now step
  pub undurable : IsUndurable step.act
  pub sent : SendsSaid old.settings step
  pub same : new.settings ≡ old.settings
  pub grows : new.sent ≤ old.sent + 1

-- the manager answered, or memory was refused and all is as before
abbrev pub Answers : Talk → Talk → Input → Result Step NoMemory → Type 0
Answers old new given (Ok step) = IsAnswered old new given step
Answers old new given (Err refused) = new ≡ old

-- the same of a message, wherever it came from
abbrev pub Hears : Talk → Talk → Message → Result Step NoMemory → Type 0
Hears old new heard result = (from : Place) → Answers old new (input.Message from heard) result
