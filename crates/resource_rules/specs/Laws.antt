-- What is known and open once an answer is taken in.
use Rattle.std.specs.Prelude.{◌<◌, ◌-◌, ◌^◌, Option, Some, None}
use Rattle.seata_types.specs.declared.messages.Input.{Input}
use Rattle.durable_records.specs.declared.resources.ResourceRecord.{ResourceRecord}
use Rattle.local_txn.specs.Answers.{Tickets}
use Rattle.history_rules.specs.ResourceMemory.{Setup, Memory}
use Rattle.resource_memory.specs.Changes as changes
use Rattle.resource_memory.specs.Known.{Known}
use Rattle.resource_rules.specs.Answers.{Answers, IsNext, Shows, after, opened_by, opens_by}
use Rattle.resource_rules.specs.declared.answers.Answer.{Answer}
use Rattle.resource_rules.specs.declared.answers.Change.{Change}
use Rattle.resource_rules.specs.declared.answers.Change.TheVariants as change
use Rattle.resource_rules.specs.declared.setups.Setup.{Setup as TheSetup}

-- what is known with a record that was asked for
abbrev pub known_after : Option ResourceRecord → Known → Known
known_after None k = k
known_after (Some r) k = changes.after r k

-- the tickets after a change
abbrev pub tickets_after : Change → Tickets → Tickets
tickets_after change ts = record { boot = ts.boot; opened = opened_by change ts.opened; opens = opens_by change ts.opens }

-- a ticket that is opened is the next one, of free rows, while numbers are left
abbrev pub MayFollow : Tickets → Change → Type 0
MayFollow ts (change.Opens txn) = (ts.opened < 2 ^ 32 - 1) × IsNext ts txn
MayFollow ts _ = Unit {0}

-- a change that opens a ticket
abbrev pub IsOpening : Change → Type 0
IsOpening (change.Opens txn) = Unit {0}
IsOpening _ = ⊥

-- where the record that an answer asks for is known, and the tickets changed as it says, both are again what the entries left
abbrev pub TakesAnswersIn : Type 0
TakesAnswersIn = (is : TheSetup) (k : Known) (ts : Tickets) (given : Input) (a : Answer) → Answers is k ts given a →
    (s : Setup) (m : Memory) → Shows is k ts s m → Shows is (known_after a.asked k) (tickets_after a.change ts) s (after a m)
