-- What a grant does to a TCC branch: what it asks of a resource, and what the act that it answers by its rules tells.
use Rattle.std.specs.Prelude.{◌≡◌, ◌≤◌, Bool, true, false, List, length, Option, Some, None, Result, Ok, Err}
use Rattle.disk_model.specs.Disk.{DiskState}
use Rattle.seata_types.specs.declared.limits.TheConstants.{FIELD_ITEMS}
use Rattle.seata_types.specs.declared.acts.Act.{Act}
use Rattle.seata_types.specs.declared.acts.Act.TheVariants as act
use Rattle.seata_types.specs.declared.errors.StoreError.{StoreError}
use Rattle.seata_types.specs.declared.ids.Leg.{Leg}
use Rattle.seata_types.specs.declared.ids.Ticket.{Ticket}
use Rattle.seata_types.specs.declared.statements.Work.TheVariants as work
use Rattle.local_tables.specs.Rows.{Database}
use Rattle.durable_records.specs.declared.resources.ResourceRecord.TheVariants as log
use Rattle.local_txn.specs.OpenTickets.{Owner, OfCall, OfLocal, Open, open_at, without}
use Rattle.local_txn.specs.Answers.{Tickets, open_of, with_opens}
use Rattle.local_txn.specs.declared.transactions.OpenTxn.{OpenTxn}
use Rattle.history_rules.specs.ResourceMemory.{call_of, tries_of}
use Rattle.resource_memory.specs.Known.{Known}
use Rattle.resource_rules.specs.Grants.{granted}
use Rattle.resource_store.specs.declared.store.Store.{Store}
use Rattle.resource_store.specs.Answers.{HasPlaces}
use Rattle.rule_calls.specs.Calls.{GivesAs, bare}
use Rattle.rule_calls.specs.Grants.{granting, opens_in}
use Rattle.tcc_branch.specs.declared.answers.TryAnswer.{TryAnswer}
use Rattle.tcc_branch.specs.declared.answers.TryAnswer.TheVariants as tries

-- ---- what is told

-- tried where the act is durable, refused where the ticket is dropped, else not open
abbrev pub tried_by : Act → TryAnswer
tried_by (act.Durable done) = tries.Tried
tried_by (act.Dropped xid call t cause) = tries.Refused cause
tried_by _ = tries.NotOpen

-- the same by what is known, whatever the disks keep
abbrev pub TellsOn : Known → Leg → Option Open → TryAnswer → Type 0
TellsOn k leg None told = told ≡ tries.NotOpen
TellsOn k leg (Some o) told = (txn : OpenTxn) → open_of txn ≡ o → told ≡ tried_by (granted k txn leg txn.work).step.act

-- ---- what is given, by the records that are kept

-- where one of these open tickets is granted this branch
abbrev pub Grants : {D : Type 0} → (D → DiskState) → List Open → Ticket → Leg → Result TryAnswer StoreError → Store D → Store D → Type 0
Grants state opens t leg result old new = GivesAs state tried_by bare (granting t leg) (opens_in leg.xid (open_at opens t)) result old new

-- the ticket is open no longer where its Try ran
abbrev pub tickets_after : Ticket → Result TryAnswer StoreError → Tickets → Tickets
tickets_after t (Ok tries.Tried) old = with_opens old (without old.opens t)
tickets_after t (Ok (tries.Refused cause)) old = old
tickets_after t (Ok tries.NotOpen) old = old
tickets_after t (Err e) old = old

-- a grant after which no Try ran left its store as it was
abbrev pub StaysUnlessTried : {D : Type 0} → Result TryAnswer StoreError → Store D → Store D → Type 0
StaysUnlessTried (Ok tries.Tried) old new = Unit {0}
StaysUnlessTried (Ok (tries.Refused cause)) old new = new ≡ old
StaysUnlessTried (Ok tries.NotOpen) old new = new ≡ old
StaysUnlessTried (Err e) old new = Unit {0}

-- ---- what is asked for

abbrev pub is_tcc_call : Owner → Bool
is_tcc_call (OfCall m x c (work.Tcc action)) = true
is_tcc_call (OfCall m x c (work.At stmts)) = false
is_tcc_call (OfLocal k) = false

-- an open ticket of a TCC call, of no more statements than are counted, whose Try's record has a place in a journal
pub record MayTry (db : Database) (leg : Leg) (o : Open) : Type 0 where
  pub of_kind : is_tcc_call o.owner ≡ true
  pub statements : length (tries_of o.owner) ≤ FIELD_ITEMS
  pub places : HasPlaces db (tries_of o.owner) (log.Tried leg.xid leg.branch (call_of o.owner))
