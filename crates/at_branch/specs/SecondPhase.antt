-- The second phase of an AT branch: what its commit and its rollback ask of a resource, and what the act that it answers by its rules
-- tells.
use Rattle.std.specs.Prelude.{List, [], Result}
use Rattle.disk_model.specs.Disk.{DiskState}
use Rattle.seata_types.specs.declared.acts.Act.{Act}
use Rattle.seata_types.specs.declared.acts.Act.TheVariants as act
use Rattle.seata_types.specs.declared.acts.Durable.TheVariants as durable
use Rattle.seata_types.specs.declared.errors.StoreError.{StoreError}
use Rattle.seata_types.specs.declared.ids.Leg.{Leg}
use Rattle.seata_types.specs.declared.ids.Place.TheVariants as place
use Rattle.seata_types.specs.declared.messages.Input.{Input}
use Rattle.seata_types.specs.declared.messages.Input.TheVariants as input
use Rattle.seata_types.specs.declared.messages.Message.TheVariants as message
use Rattle.seata_types.specs.declared.statuses.BranchKind.TheVariants as kind
use Rattle.local_txn.specs.OpenTickets.{Open}
use Rattle.resource_store.specs.declared.store.Store.{Store}
use Rattle.rule_calls.specs.Calls.{GivesAs, bare}
use Rattle.at_branch.specs.declared.answers.Committed.{Committed}
use Rattle.at_branch.specs.declared.answers.Committed.TheVariants as commits
use Rattle.at_branch.specs.declared.answers.Rolled.{Rolled}
use Rattle.at_branch.specs.declared.answers.Rolled.TheVariants as rolled

-- the coordinator asks for the commit of a branch, and for its rollback; of AT the rules look at no call
abbrev pub committing : Leg → Input
committing leg = input.Message place.Tc (message.BranchCommit leg.xid leg.branch kind.At 0 0)

abbrev pub rolling : Leg → Input
rolling leg = input.Message place.Tc (message.BranchRollback leg.xid leg.branch kind.At 0 0)

-- a commit: cleared where its act is durable, else empty
abbrev pub committed_by : Act → Committed
committed_by (act.Durable done) = commits.Cleared
committed_by _ = commits.Empty

-- a rollback: undone, marked, busy, dirty, else again
abbrev pub rolled_by : Act → Rolled
rolled_by (act.Durable (durable.Undone xid branch)) = rolled.Undone
rolled_by (act.Durable _) = rolled.Marked
rolled_by (act.Blocked xid branch key by) = rolled.Busy key by
rolled_by (act.Dirty xid branch key after present) = rolled.Dirty key after present
rolled_by _ = rolled.Again

-- ---- what is given, by the records that are kept

abbrev pub Commits : {D : Type 0} → (D → DiskState) → Leg → Result Committed StoreError → Store D → Store D → Type 0
Commits state leg result old new = GivesAs state committed_by bare (committing leg) [] result old new

-- while these tickets are open
abbrev pub RollsBack : {D : Type 0} → (D → DiskState) → Leg → List Open → Result Rolled StoreError → Store D → Store D → Type 0
RollsBack state leg opens result old new = GivesAs state rolled_by bare (rolling leg) opens result old new
