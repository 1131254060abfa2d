-- What a coordinator goes by as it starts, at its opening or at a restart.
use Rattle.std.specs.Prelude.{ℕ, min, max, Bool, true, false, List, [], ◌∷◌}
use Rattle.seata_types.specs.declared.limits.TheConstants.{LATEST_START}
use Rattle.retry_turns.specs.Plans.{with_plan}
use Rattle.session_log.specs.declared.sessions.SessionEntry.{SessionEntry}
use Rattle.session_log.specs.declared.sessions.Snapshot.{Snapshot}
use Rattle.session_memory.specs.Changes.{is_going, is_finished}
use Rattle.coordinator_rules.specs.declared.moments.Moments.{Moments}

-- a transaction in its second phase is due at this moment, and a finished one rests since then
abbrev pub started_as : ℕ → ℕ → (going finished : Bool) → Moments → Moments
started_as now x true finished m = record m { turns = with_plan m.turns x now }
started_as now x false true m = record m { rests = with_plan m.rests x now }
started_as now x false false m = m

abbrev pub started_by : ℕ → SessionEntry → Moments → Moments
started_by now e m = started_as now e.xid.0 (is_going e.session.status) (is_finished e.session.status) m

-- the same of each of these, one after the other
abbrev pub started_on : ℕ → List SessionEntry → Moments → Moments
started_on now [] m = m
started_on now (e ∷ es) m = started_on now es (started_by now e m)

abbrev pub no_moments : Moments
no_moments = record { turns = []; rests = [] }

-- the latest moment at which one of these began
abbrev pub latest_of : List SessionEntry → ℕ
latest_of [] = 0
latest_of (e ∷ es) = max e.session.begun (latest_of es)

-- the moment at which the clock starts
abbrev pub start_in : Snapshot → ℕ
start_in s = min (latest_of s.sessions) LATEST_START
