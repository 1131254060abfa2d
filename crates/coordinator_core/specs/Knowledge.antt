-- What a coordinator's table knows and plans, apart from its disks.
use Rattle.history_rules.specs.CoordinatorMemory.{Times}
use Rattle.session_log.specs.declared.sessions.Snapshot.{Snapshot}
use Rattle.session_store.specs.Keeping.{known}
pub use Rattle.coordinator_rules.specs.Knowledge.{Knowledge, SameTimes, times_in}
use Rattle.coordinator_core.specs.declared.table.Table.{Table}

-- what a table knows
abbrev pub memory : {D : Type 0} → Table D → Snapshot
memory t = known t.sessions

abbrev pub knowledge : {D : Type 0} → Table D → Knowledge
knowledge t = record { retry = t.retry; forget = t.forget; memory = memory t; moments = t.moments }

abbrev pub times_of : {D : Type 0} → Table D → Times
times_of t = times_in (knowledge t)
