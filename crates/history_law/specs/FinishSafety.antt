-- What the coordinator tells of a finish.
use Rattle.std.specs.Prelude.{◌≡◌, List, [], ◌∷◌, Option, Some, None}
use Rattle.seata_types.specs.declared.acts.Act.{Act}
use Rattle.seata_types.specs.declared.acts.Act.TheVariants as act
use Rattle.seata_types.specs.declared.acts.Durable.{Durable}
use Rattle.seata_types.specs.declared.acts.Durable.TheVariants as durable
use Rattle.seata_types.specs.declared.ids.Place.TheVariants as place
use Rattle.seata_types.specs.declared.statuses.Decision.{Decision}
use Rattle.seata_types.specs.declared.statuses.Decision.TheVariants as how
use Rattle.seata_types.specs.declared.statuses.GlobalStatus.{GlobalStatus}
use Rattle.seata_types.specs.declared.statuses.GlobalStatus.TheVariants as status
use Rattle.durable_records.specs.declared.coordinators.SessionRecord.{SessionRecord}
use Rattle.durable_records.specs.Transactions.{decided}
use Rattle.history_rules.specs.Nodes.{World, Past}
use Rattle.history_rules.specs.Histories.{Moment, Legal}
use Rattle.history_law.specs.SessionSafety.{session_records}

-- the last status of a transaction that is decided so
abbrev pub IsEndOf : Option Decision → GlobalStatus → Type 0
IsEndOf None st = ⊥
IsEndOf (Some how.Commit) st = st ≡ status.Committed
IsEndOf (Some how.Rollback) st = st ≡ status.Rollbacked
IsEndOf (Some how.Timeout) st = st ≡ status.TimeoutRollbacked

-- a durable act that is a finish tells the status of its decision
abbrev pub FinishTells : List SessionRecord → Option Durable → Type 0
FinishTells rs (Some (durable.Finished xid st)) = IsEndOf (decided rs xid.0) st
FinishTells rs _ = Unit {0}

-- each finish that an act names does: one that is done, one in flight as the coordinator goes down, one that a restart keeps
abbrev pub TellsEnd : List SessionRecord → Act → Type 0
TellsEnd rs (act.Durable done) = FinishTells rs (Some done)
TellsEnd rs (act.Down kept at) = FinishTells rs kept × FinishTells rs at
TellsEnd rs (act.Restarted kept) = FinishTells rs kept
TellsEnd rs _ = Unit {0}

-- each finish that an entry of the coordinator names, by the records that stood before that entry
abbrev pub FinishesAsDecided : Past → List Moment → Type 0
FinishesAsDecided past [] = Unit {0}
FinishesAsDecided past (m ∷ ms) = FinishesAsDecided past ms × (m.place ≡ place.Tc → TellsEnd (session_records past ms) m.step.act)

-- in every legal history
abbrev pub FinishesLaw : Type 0
FinishesLaw = (w : World) (past : Past) (ms : List Moment) → Legal w past ms → FinishesAsDecided past ms
