-- What a call on a resource's store gives: what is read off the act of the rules' answer to an input.
use Rattle.std.specs.Prelude.{List, [], None, Result}
use Rattle.disk_model.specs.Disk.{DiskState}
use Rattle.seata_types.specs.declared.acts.Act.{Act}
use Rattle.seata_types.specs.declared.errors.StoreError.{StoreError}
use Rattle.seata_types.specs.declared.messages.Input.{Input}
use Rattle.durable_records.specs.declared.resources.ResourceRecord.{ResourceRecord}
use Rattle.local_txn.specs.OpenTickets.{Open}
use Rattle.history_rules.specs.ResourceMemory.{Setup, Memory, resource_asked}
use Rattle.history_rules.specs.ResourceRules.{resource_answer}
use Rattle.resource_rules.specs.Answers.{own_step}
use Rattle.resource_rules.specs.Setups.{actions_of}
use Rattle.resource_rules.specs.declared.answers.Answer.{Answer as Ruling}
use Rattle.resource_rules.specs.declared.setups.Setup.{Setup as TheSetup}
use Rattle.resource_store.specs.declared.store.Store.{Store}
use Rattle.resource_store.specs.Answers.{Answer, Gives}
use Rattle.resource_store.specs.Keeping.{setting_of, KeepsRecords}
use Rattle.resource_store.specs.Meaning.{Setting}

-- the act of an answer of the rules, with the record that it asks for
abbrev pub act_of : Ruling → Answer Act
act_of a = record { told = a.step.act; made = a.asked }

-- what is read off the act of such an answer, with its record
abbrev pub told_of : {A : Type 0} → (Act → A) → Ruling → Answer A
told_of view a = record { told = view a.step.act; made = a.asked }

-- ---- the resource of a store

-- with no actions and no local transactions
abbrev pub bare : TheSetup
bare = record { number = 0; tries = 0; actions = []; locals = [] }

-- what it is beside its tables, by the number that its store has
abbrev pub numbered : TheSetup → Setting → TheSetup
numbered is t = record is { number = t.resource }

abbrev pub resource_of : TheSetup → Setting → Setup
resource_of is t =
    record { number = t.resource; schema = t.schema; opening = t.opening; tries = is.tries; actions = actions_of is.actions; locals = is.locals }

-- a memory of these records and open tickets
abbrev pub memory_of : List ResourceRecord → List Open → Memory
memory_of rs opens = record { left = record { records = rs; flight = None }; opens = opens; opened = 0 }

-- ---- what is given

-- what the act of the rules' answer tells, with the record that it asks for
abbrev pub viewed : {A : Type 0} → (Act → A) → Setup → Memory → Input → Answer A
viewed view s m given =
    record { told = view (resource_answer s m given).act; made = resource_asked s m (own_step given 0 (resource_answer s m given)) }

-- a call gives what is read off the rules' answer to an input, by the records that are kept and these open tickets
abbrev pub GivesAs : {A D : Type 0} → (D → DiskState) → (Act → A) → TheSetup → Input → List Open → Result A StoreError → Store D → Store D → Type 0
GivesAs {D = D} state view is given opens result old new =
    (rs : List ResourceRecord) → KeepsRecords state (setting_of old) rs old → Gives state (viewed view (resource_of is (setting_of old)) (memory_of rs opens) given) result old new
