-- What a node takes of a printed entry: the step that is done with its act, or none.
use Rattle.std.specs.Prelude.{◌≡◌, ℕ, List, ◌∷◌, Option, Some, None}
use Rattle.seata_types.specs.declared.acts.Act.{Act}
use Rattle.seata_types.specs.declared.messages.Step.{Step}
use Rattle.history_rules.specs.Own.{Given, Stopped, Crashed, Restarted, Own}
use Rattle.history_rules.specs.Own.{Event as Happening}
use Rattle.history_rules.specs.Nodes.{Role, Happens}
use Rattle.judged_devices.specs.declared.events.Event.{Event}
use Rattle.judged_devices.specs.declared.events.Event.TheVariants as event

-- what happens, in the words of the rules
abbrev pub event_of : Event → Happening
event_of (event.Given input) = Given input
event_of (event.Stopped calls) = Stopped calls
event_of event.Crashed = Crashed
event_of (event.Restarted pick calls) = Restarted pick calls

-- a step may be done after these own entries, and its act is this one
pub record IsDoneAs (role : Role) (os : List Own) (happened : Happening) (now : ℕ) (done : Act) (step : Step) : Type 0 where
  pub happens : Happens role os now happened step
  pub same_act : step.act ≡ done

-- the own entries with one more
abbrev pub one_more : List Own → Happening → ℕ → Step → List Own
one_more os happened now step = record { event = happened; now = now; step = step } ∷ os

-- of an entry with this act: the step that is done with it, after which what is kept is of one own entry more; or none is done with it
abbrev pub Takes : Role → List Own → Happening → ℕ → Act → (List Own → Type 0) → Option Step → Type 0
Takes role os happened now done Keeps (Some step) = IsDoneAs role os happened now done step × Keeps (one_more os happened now step)
Takes role os happened now done Keeps None = (step : Step) → IsDoneAs role os happened now done step → ⊥
