-- What a coordinator knows and plans, apart from its disks.
use Rattle.std.specs.Prelude.{◌≡◌, ℕ}
use Rattle.history_rules.specs.CoordinatorMemory.{Times}
use Rattle.session_log.specs.declared.sessions.Snapshot.{Snapshot}
use Rattle.coordinator_rules.specs.declared.moments.Moments.{Moments}

pub record Knowledge : Type 0 where
  pub retry : ℕ
  pub forget : ℕ
  pub memory : Snapshot
  pub moments : Moments

-- the settings stay
pub record SameTimes (old new : Knowledge) : Type 0 where
  pub retry : new.retry ≡ old.retry
  pub forget : new.forget ≡ old.forget

-- its settings
abbrev pub times_in : Knowledge → Times
times_in k = record { retry = k.retry; forget = k.forget }

-- what is known, with these settings and moments
abbrev pub knows : Times → Snapshot → Moments → Knowledge
knows times s m = record { retry = times.retry; forget = times.forget; memory = s; moments = m }

-- these settings
abbrev pub waits : (retry forget : ℕ) → Times
waits retry forget = record { retry = retry; forget = forget }
