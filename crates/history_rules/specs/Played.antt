-- The one history of a schedule on disks in memory, which don't fail by themselves. There a restart that may keep what was in
-- flight keeps it where its pick opens the gate of the cut record: pick 1, the new bytes, and pick 3, the byte 1 everywhere.
use Rattle.std.specs.Prelude.{ℕ, ◌+◌, ◌==◌, ◌||◌, Bool, false, List, [], ◌∷◌, length, Option, Some}
use Rattle.seata_types.specs.declared.acts.Act.TheVariants as act
use Rattle.seata_types.specs.declared.ids.Place.{Place}
use Rattle.seata_types.specs.declared.messages.Step.{Step}
use Rattle.history_rules.specs.Own.{Event, Restarted, Own, still}
use Rattle.history_rules.specs.Nodes.{Role, World, Past, no_past, role_at, happens}
use Rattle.history_rules.specs.Histories.{Cause, Moment, own, brings}
use Rattle.history_rules.specs.Reports.{Report, report}
use Rattle.history_rules.specs.Schedules.{Item, named, ticks_of, clock, singles}

-- whether a restart with this pick keeps what was in flight, where it may
abbrev pub keeps_of : Event → Bool
keeps_of (Restarted pick calls) = (pick == 1) || (pick == 3)
keeps_of event = false

-- what happens at a node whose disks don't fail; nothing where there is no node or no event
abbrev pub done_by : Option Role → Option Event → List Own → ℕ → Step
done_by (Some role) (Some event) os now = happens role os now false (keeps_of event) event
done_by _ event os now = still act.Nothing

-- the next moment, of this place and cause, at this clock
abbrev pub moment_at : World → Past → List Moment → ℕ → Place × Cause → Moment
moment_at w past ms now (p, cause) = let event = brings ms p cause in
    record { stamp = length ms + 1; place = p; now = now; cause = cause; event = event; step = done_by (role_at w past p) event (own p ms) now }

-- the moment of a single step after these
abbrev pub next_moment : World → Past → List Moment → Item → Moment
next_moment w past ms step = moment_at w past ms (clock past ms + ticks_of step) (named w ms step)

-- these moments with those of the single steps that follow
abbrev pub played_on : World → Past → List Moment → List Item → List Moment
played_on w past ms [] = ms
played_on w past ms (i ∷ is) = played_on w past (next_moment w past ms i ∷ ms) is

-- over disks that had these records before
abbrev pub played : World → Past → List Item → List Moment
played w past schedule = played_on w past [] (singles schedule)

-- what is reported of a schedule on disks without records
abbrev pub told : World → List Item → Report
told w schedule = report w no_past (played w no_past schedule)
