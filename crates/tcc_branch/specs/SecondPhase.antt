-- The second phase of a TCC branch: what its Confirm and its Cancel ask of a resource that has this action, and what the act that it
-- answers by its rules tells.
use Rattle.std.specs.Prelude.{List, [], ◌∷◌, Result}
use Rattle.disk_model.specs.Disk.{DiskState}
use Rattle.seata_types.specs.declared.acts.Act.{Act}
use Rattle.seata_types.specs.declared.acts.Act.TheVariants as act
use Rattle.seata_types.specs.declared.acts.Durable.TheVariants as durable
use Rattle.seata_types.specs.declared.errors.StoreError.{StoreError}
use Rattle.seata_types.specs.declared.ids.Leg.{Leg}
use Rattle.seata_types.specs.declared.ids.Place.TheVariants as place
use Rattle.seata_types.specs.declared.messages.Input.{Input}
use Rattle.seata_types.specs.declared.messages.Input.TheVariants as input
use Rattle.seata_types.specs.declared.messages.Message.TheVariants as message
use Rattle.seata_types.specs.declared.statements.Action.{Action}
use Rattle.seata_types.specs.declared.statements.Stmt.{Stmt}
use Rattle.seata_types.specs.declared.statuses.BranchKind.TheVariants as kind
use Rattle.local_tables.specs.Rows.{Database}
use Rattle.durable_records.specs.declared.resources.ResourceRecord.TheVariants as log
use Rattle.resource_memory.specs.Known.{Known}
use Rattle.resource_rules.specs.Apart.{confirms_on, cancels_on}
use Rattle.resource_rules.specs.declared.setups.Setup.{Setup as TheSetup}
use Rattle.resource_store.specs.declared.store.Store.{Store}
use Rattle.resource_store.specs.Answers.{HasPlaces}
use Rattle.rule_calls.specs.Calls.{GivesAs}
use Rattle.tcc_branch.specs.declared.answers.TccAnswer.{TccAnswer}
use Rattle.tcc_branch.specs.declared.answers.TccAnswer.TheVariants as tcc

-- ---- what is asked

-- a resource with this action, as that of call 1 of manager 1
abbrev pub acting : Action → TheSetup
acting action = record { number = 0; tries = 0; actions = (1, 1, action) ∷ []; locals = [] }

-- the coordinator asks for the Confirm of a branch of that call, and for its Cancel
abbrev pub confirming : Leg → Input
confirming leg = input.Message place.Tc (message.BranchCommit leg.xid leg.branch kind.Tcc 1 1)

abbrev pub cancelling : Leg → Input
cancelling leg = input.Message place.Tc (message.BranchRollback leg.xid leg.branch kind.Tcc 1 1)

-- where the statements of its Confirm, or of its Cancel, have an effect on these tables, its record has a place in a journal
abbrev pub HasConfirmPlaces : Database → Leg → Action → Type 0
HasConfirmPlaces db leg action = HasPlaces db action.confirms (log.Confirmed leg.xid leg.branch)

abbrev pub HasCancelPlaces : Database → Leg → Action → Type 0
HasCancelPlaces db leg action = HasPlaces db action.cancels (log.Cancelled leg.xid leg.branch)

-- ---- what is told

-- suspended, ran, already, failed, else refused
abbrev pub ended_by : Act → TccAnswer
ended_by (act.Durable (durable.Suspended xid branch)) = tcc.Suspended
ended_by (act.Durable _) = tcc.Ran
ended_by (act.Already xid branch) = tcc.Already
ended_by (act.Unable xid branch index error) = tcc.ActionFailed index error
ended_by _ = tcc.Refused

-- the same by what is known, whatever the disks keep
abbrev pub confirmed_on : Known → Leg → (confirms : List Stmt) → TccAnswer
confirmed_on k leg confirms = ended_by (confirms_on k leg confirms).step.act

abbrev pub cancelled_on : Known → Leg → (cancels : List Stmt) → TccAnswer
cancelled_on k leg cancels = ended_by (cancels_on k leg cancels).step.act

-- ---- what is given, by the records that are kept

abbrev pub Confirms : {D : Type 0} → (D → DiskState) → Leg → Action → Result TccAnswer StoreError → Store D → Store D → Type 0
Confirms state leg action result old new = GivesAs state ended_by (acting action) (confirming leg) [] result old new

abbrev pub Cancels : {D : Type 0} → (D → DiskState) → Leg → Action → Result TccAnswer StoreError → Store D → Store D → Type 0
Cancels state leg action result old new = GivesAs state ended_by (acting action) (cancelling leg) [] result old new
