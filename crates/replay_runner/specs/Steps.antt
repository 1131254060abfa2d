-- The single steps of a schedule that a replay has still to make, and what one names.
use Rattle.std.specs.Prelude.{◌≡◌, ◌+◌, ℕ, List, drop, length, slice_get, Option, Some}
use Rattle.seata_types.specs.declared.ids.Place.{Place}
use Rattle.seata_types.specs.declared.messages.Step.{Step}
use Rattle.scenario_form.specs.declared.scenarios.Scenario.{Scenario}
use Rattle.history_rules.specs.Own.{Event}
use Rattle.history_rules.specs.Nodes.{Past}
use Rattle.history_rules.specs.Histories.{Moment, brings}
use Rattle.history_rules.specs.Histories.{Cause as Reason}
use Rattle.history_rules.specs.Schedules.{Item, named, singles, ticks_of, clock}
use Rattle.history_text.specs.Worlds.{items_of, world_of}

-- the single steps behind those of these moments
abbrev pub left_of : Scenario → List Moment → List Item
left_of s ms = drop (length ms) (singles (items_of s))

-- the next moment: its stamp is one more than there are moments
abbrev pub next : List Moment → Place → ℕ → Reason → Option Event → Step → Moment
next ms at now why event step = record { stamp = length ms + 1; place = at; now = now; cause = why; event = event; step = step }

-- after these moments, over these records, the schedule's next single step brings this event to a node, at this moment
pub record IsNextEvent (s : Scenario) (past : Past) (ms : List Moment) (at : Place) (now : ℕ) (event : Event) : Type 0 where
  pub item : Item
  pub is_next : slice_get (singles (items_of s)) (length ms) ≡ Some item
  pub why : Reason
  pub names : (at, why) ≡ named (world_of s) ms item
  pub brought : Some event ≡ brings ms at why
  pub moment : now ≡ clock past ms + ticks_of item
