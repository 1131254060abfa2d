-- The histories of a scenario, and the entries that are printed of one.
use Rattle.std.specs.Prelude.{List, [], ◌∷◌, ◌++◌, option_map}
use Rattle.scenario_form.specs.declared.scenarios.Scenario.{Scenario}
use Rattle.history_rules.specs.Nodes.{Past}
use Rattle.history_rules.specs.Histories.{Moment, Turn, Deliver, Missing, Wait, Stop, Crash, Restart, Local, Outside}
use Rattle.history_rules.specs.Histories.{Cause as Reason}
use Rattle.history_rules.specs.Schedules.{IsRun as IsRunBy}
use Rattle.history_text.specs.declared.entries.Cause.{Cause}
use Rattle.history_text.specs.declared.entries.Cause.TheVariants as cause
use Rattle.history_text.specs.declared.entries.Entry.{Entry}
use Rattle.history_text.specs.Notes.{sent_of}
use Rattle.history_text.specs.Worlds.{world_of, items_of}

-- the cause of a moment, as an entry has it
abbrev pub cause_of : Reason → Cause
cause_of Turn = cause.Turn
cause_of (Deliver stamp from) = cause.Deliver stamp from
cause_of (Missing stamp) = cause.Missing stamp
cause_of (Wait ticks) = cause.Wait ticks
cause_of (Stop calls) = cause.Stop calls
cause_of Crash = cause.Crash
cause_of (Restart pick calls) = cause.Restart pick calls
cause_of (Local number) = cause.Local number
cause_of (Outside number) = cause.Outside number

-- what is printed of a moment
abbrev pub entry_of : Moment → Entry
entry_of m = record {
  stamp = m.stamp;
  place = m.place;
  now = m.now;
  cause = cause_of m.cause;
  act = m.step.act;
  sent = option_map sent_of m.step.sent;
}

-- what is printed of a history, oldest first
abbrev pub entries : List Moment → List Entry
entries [] = []
entries (m ∷ ms) = entries ms ++ entry_of m ∷ []

-- a history of the whole schedule of a scenario, legal by the rules of all its nodes, over the records that their disks had before
abbrev pub IsRun : Scenario → Past → List Moment → Type 0
IsRun s past ms = IsRunBy (world_of s) past (items_of s) ms
