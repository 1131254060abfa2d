-- A schedule that names nodes has a run: what is played of it. So the worked histories are runs, and safe.
use Rattle.std.specs.Prelude.{◌≡◌, ℕ, Bool, true, false, List, [], ◌∷◌, length, is_some}
use Rattle.std.specs.List.{list_all, list_any}
use Rattle.seata_types.specs.declared.ids.Place.{Place}
use Rattle.seata_types.specs.declared.ids.Place.TheVariants as place
use Rattle.seata_types.specs.declared.statuses.Ending.TheVariants as ending
use Rattle.durable_records.specs.SessionOrder.{is_counted}
use Rattle.history_rules.specs.ResourceMemory.{Setup, local_of}
use Rattle.history_rules.specs.Nodes.{World, Past, no_past}
use Rattle.history_rules.specs.Schedules.{Item, TurnOf, DeliverOf, WaitFor, StopOf, CrashOf, RestartOf, LocalOf, OutsideOf, Auto, IsRun}
use Rattle.history_rules.specs.Played.{played}
use Rattle.history_rules.specs.Worked.{sets_m, setter, twice, reader, transfer, one_row, no_calls, taking, forgetting, two_rows}
use Rattle.history_law.specs.Points.{In}
use Rattle.history_law.specs.MessageSafety.{NamesItsNodes, AreOfResources}
use Rattle.history_law.specs.Safety.{IsSafeHistory}

-- ---- schedules

-- whether a node stands at this place, and whether one with a disk does, to which a stop, a crash and a restart may come
abbrev pub is_node : World → Place → Bool
is_node w place.Net = false
is_node w place.Tc = true
is_node w (place.Res n) = is_counted (length w.resources) n
is_node w (place.Man n) = is_counted (length w.managers) n

abbrev pub has_disk : World → Place → Bool
has_disk w place.Net = false
has_disk w place.Tc = true
has_disk w (place.Res n) = is_counted (length w.resources) n
has_disk w (place.Man n) = false

-- whether a resource has local transaction k
abbrev pub has_local : World → ℕ → Bool
has_local w k = list_any (λ (s : Setup). is_some (local_of s k)) w.resources

-- whether the node that a step of a schedule names is there
abbrev pub names_node : World → Item → Bool
names_node w (TurnOf p) = is_node w p
names_node w (StopOf p calls) = has_disk w p
names_node w (CrashOf p) = has_disk w p
names_node w (RestartOf p pick calls) = has_disk w p
names_node w (LocalOf k) = has_local w k
names_node w (OutsideOf k) = has_local w k
names_node w (DeliverOf stamp) = true
names_node w (WaitFor ticks) = true
names_node w (Auto steps) = true

-- what is played of a schedule that names nodes is a run of it, over records whose branches are of resources
abbrev pub PlayedLaw : Type 0
PlayedLaw = (w : World) (past : Past) (schedule : List Item) → NamesItsNodes w → AreOfResources w past.sessions → list_all (names_node w) schedule ≡ true
    → IsRun w past schedule (played w past schedule)

-- ---- worked histories

-- what is played of a schedule on disks without records is a run of it, and safe
pub record PlaysSafely (w : World) (schedule : List Item) : Type 0 where
  pub run : IsRun w no_past schedule (played w no_past schedule)
  pub safe : IsSafeHistory w no_past (played w no_past schedule)

-- the scenarios of the worked histories
abbrev pub worked_worlds : List World
worked_worlds = transfer ∷ two_rows ∷ no_calls ∷ forgetting ∷ taking 60000 ∷ taking 5
    ∷ one_row [] (setter 1 ending.Rollback 900 ∷ setter 2 ending.Commit 800 ∷ []) ∷ one_row [] (twice 900 800 ∷ [])
    ∷ one_row [] (setter 1 ending.Commit 900 ∷ reader 2 ∷ []) ∷ one_row [] (setter 1 ending.Commit 900 ∷ [])
    ∷ one_row ((1, sets_m 5) ∷ []) (setter 1 ending.Rollback 900 ∷ []) ∷ []

-- each schedule of such a scenario that names nodes plays safely
abbrev pub WorkedLaw : Type 0
WorkedLaw = (w : World) → In w worked_worlds → (schedule : List Item) → list_all (names_node w) schedule ≡ true → PlaysSafely w schedule

-- and so does the transfer, whose history is computed whole beside the rules
abbrev pub TransferPlaysSafely : Type 0
TransferPlaysSafely = PlaysSafely transfer (Auto 29 ∷ [])
