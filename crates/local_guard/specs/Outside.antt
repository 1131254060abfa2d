-- An outside write: what it asks of a resource that has its statements, and what the act that this answers by its rules tells.
use Rattle.std.specs.Prelude.{ℕ, List, [], ◌∷◌, Result, Ok, Err}
use Rattle.disk_model.specs.Disk.{DiskState}
use Rattle.seata_types.specs.declared.acts.Act.{Act}
use Rattle.seata_types.specs.declared.acts.Act.TheVariants as act
use Rattle.seata_types.specs.declared.errors.StoreError.{StoreError}
use Rattle.seata_types.specs.declared.errors.StoreError.TheVariants as store_error
use Rattle.seata_types.specs.declared.errors.Why.TheVariants as why
use Rattle.seata_types.specs.declared.messages.Input.TheVariants as input
use Rattle.seata_types.specs.declared.statements.Stmt.{Stmt}
use Rattle.local_txn.specs.OpenTickets.{Open}
use Rattle.resource_rules.specs.Apart.{writes_on}
use Rattle.resource_rules.specs.declared.setups.Setup.{Setup as TheSetup}
use Rattle.resource_store.specs.declared.store.Store.{Store}
use Rattle.resource_store.specs.Answers.{Gives}
use Rattle.resource_store.specs.Keeping.{known}
use Rattle.rule_calls.specs.Calls.{GivesAs, told_of}
use Rattle.local_guard.specs.declared.answers.OutsideError.{OutsideError}
use Rattle.local_guard.specs.declared.answers.OutsideError.TheVariants as error

abbrev pub Written : Type 0
Written = Result (Unit {0}) OutsideError

-- refused at a statement without a meaning, busy, else written
abbrev pub written_by : Act → Written
written_by (act.RefusedLocal k (why.Stmt index cause)) = Err (error.Stmt index cause)
written_by (act.BusyLocal k key by) = Err (error.Busy key by)
written_by _ = Ok tt

-- an answer in the manner of other calls on a store: what is told, or the store's own error
abbrev pub told : Written → Result Written StoreError
told (Err error.Failed) = Err store_error.Failed
told (Err (error.Full full)) = Err (store_error.Full full)
told (Err error.NoMemory) = Err store_error.NoMemory
told answer = Ok answer

-- the answer where the record isn't made
abbrev pub failure : StoreError → OutsideError
failure store_error.Failed = error.Failed
failure (store_error.Full full) = error.Full full
failure store_error.NoMemory = error.NoMemory

-- a resource whose one local transaction has this number and these statements
abbrev pub writing : (number : ℕ) → List Stmt → TheSetup
writing number stmts = record { number = 0; tries = 0; actions = []; locals = (number, stmts) ∷ [] }

-- a write that is given, by the records that are kept and these open tickets
abbrev pub Writes : {D : Type 0} → (D → DiskState) → (number : ℕ) → List Stmt → List Open → Written → Store D → Store D → Type 0
Writes state number stmts opens result old new = GivesAs state written_by (writing number stmts) (input.Outside number) opens (told result) old new

-- the same by what is known, whatever the disks keep
abbrev pub WritesOn : {D : Type 0} → (D → DiskState) → (number : ℕ) → List Stmt → List Open → Written → Store D → Store D → Type 0
WritesOn state number stmts opens result old new = Gives state (told_of written_by (writes_on (known old) opens number stmts)) (told result) old new
