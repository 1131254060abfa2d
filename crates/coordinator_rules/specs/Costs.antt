-- What a step of a coordinator costs. One count has the comparisons of two keys and the look-ups of a transaction, another one has
-- the passes, by which a registration looks for its own branch.
use Rattle.std.specs.Prelude.{◌≡◌, ℕ, ◌+◌, ◌*◌, ◌^◌, ◌<◌, ◌≤◌, length}
use Rattle.seata_types.specs.declared.ids.Xid.{Xid}
use Rattle.seata_types.specs.declared.messages.Input.{Input}
use Rattle.seata_types.specs.declared.messages.Input.TheVariants as input
use Rattle.seata_types.specs.declared.messages.Message.{Message}
use Rattle.seata_types.specs.declared.messages.Message.TheVariants as message
use Rattle.seata_types.specs.declared.statuses.BranchKind.{BranchKind}
use Rattle.seata_types.specs.declared.statuses.BranchKind.TheVariants as kind
use Rattle.lock_table.specs.Locks.{locks}
use Rattle.session_log.specs.declared.sessions.Snapshot.{Snapshot}
use Rattle.session_memory.specs.Holding.{held_in}
use Rattle.session_memory.specs.Lookups.{branches_in}
use Rattle.session_memory.specs.Owners.{most_branches}

-- ---- comparisons and look-ups

-- how many rows are held
abbrev pub held_rows : Snapshot → ℕ
held_rows s = length (locks (held_in s))

-- The steps that a registration takes at most: for each binary digit of the number of rows that are held or to be held, two comparisons
-- for a row to hold and one for a row to check; and three look-ups: of its transaction's status and timeout, and of the status of a
-- row's holder. No step counts what the sessions look up for themselves as they take a record.
abbrev pub MessageCosts : Message → Snapshot → (old new : ℕ) → Type 0
MessageCosts (message.Register xid resource call ticket kind hold check) s old new =
    (d : ℕ) → held_rows s + length hold < 2 ^ d → new ≤ old + 3 + (2 * length hold + length check) * d
MessageCosts _ s old new = Unit {0}

-- The steps that its answer takes at most, before its rows are held: for each binary digit of the number of rows that are held one
-- comparison for each of its rows, and the three look-ups.
abbrev pub AnswerCosts : Message → Snapshot → (old new : ℕ) → Type 0
AnswerCosts (message.Register xid resource call ticket kind hold check) s old new =
    (d : ℕ) → held_rows s < 2 ^ d → new ≤ old + 3 + (length hold + length check) * d
AnswerCosts _ s old new = Unit {0}

abbrev pub AnswersCost : Input → Snapshot → (old new : ℕ) → Type 0
AnswersCost (input.Message from heard) s old new = AnswerCosts heard s old new
AnswersCost _ s old new = Unit {0}

abbrev pub InputCosts : Input → Snapshot → (old new : ℕ) → Type 0
InputCosts (input.Message from heard) s old new = MessageCosts heard s old new
InputCosts _ s old new = Unit {0}

-- ---- passes

-- how many branches one transaction has, among which a registration looks for its branch: of TCC mode its own transaction, of AT
-- mode the one that has the ticket
abbrev pub passed : Snapshot → Xid → BranchKind → ℕ
passed s xid kind.At = most_branches s.sessions
passed s xid kind.Tcc = length (branches_in s xid.0)

-- The passes that a registration takes at most: one for the transaction in which it looks for its branch, and one for each of this
-- transaction's branches. No other message takes one.
abbrev pub MessagePasses : Message → Snapshot → (old new : ℕ) → Type 0
MessagePasses (message.Register xid resource call ticket kind hold check) s old new = new ≤ old + 1 + passed s xid kind
MessagePasses _ s old new = new ≡ old

abbrev pub InputPasses : Input → Snapshot → (old new : ℕ) → Type 0
InputPasses (input.Message from heard) s old new = MessagePasses heard s old new
InputPasses _ s old new = new ≡ old
