-- What a manager sends after so many of its calls are done, and what it then waits for.
use Rattle.std.specs.Prelude.{◌≡◌, ℕ, ◌+◌, ◌<◌, ◌^◌, zero, suc, List, Option, Some, None, IfSome, slice_get}
use Rattle.seata_types.specs.declared.ids.Xid.{Xid}
use Rattle.seata_types.specs.declared.messages.Message.{Message}
use Rattle.seata_types.specs.declared.messages.Message.TheVariants as message
use Rattle.seata_types.specs.declared.messages.Outgoing.{Outgoing}
use Rattle.seata_types.specs.declared.messages.Step.{Step}
use Rattle.seata_types.specs.declared.statements.Work.{Work}
use Rattle.history_rules.specs.ManagerRules.{Settings, end_message}
use Rattle.manager_rules.specs.declared.phases.Phase.{Phase}
use Rattle.manager_rules.specs.declared.phases.Phase.TheVariants as phase

-- the message of a call, after so many that are done; calls are counted from 1
abbrev pub call_message : Settings → Xid → (done : ℕ) → ℕ × Work → Message
call_message m xid done call = message.Call xid m.number call.0 (done + 1) call.1

-- the message of this call, or that of the end where there is none
abbrev pub message_for : Settings → Xid → (done : ℕ) → Option (ℕ × Work) → Message
message_for m xid done (Some call) = call_message m xid done call
message_for m xid done None = end_message m.ending xid

-- the next call's message, after the last call that of the end
abbrev pub next_message : Settings → Xid → (done : ℕ) → Message
next_message m xid done = message_for m xid done (slice_get m.calls done)

-- what is waited for after such a message
abbrev pub phase_for : Settings → Xid → (done : ℕ) → Option (ℕ × Work) → Phase
phase_for m xid done (Some call) = phase.Calling xid done 0
phase_for m xid done None = phase.Closing xid m.ending

-- what is waited for after that message
abbrev pub next_phase : Settings → Xid → (done : ℕ) → Phase
next_phase m xid done = phase_for m xid done (slice_get m.calls done)

-- ---- all that a manager ever says

-- the call of this number
abbrev pub IsCallAt : List (ℕ × Work) → (number : ℕ) → ℕ × Work → Type 0
IsCallAt calls zero call = ⊥
IsCallAt calls (suc done) call = slice_get calls done ≡ Some call

-- that it begins, one of its calls, an end, or a question for the status
abbrev pub IsSaid : Settings → Message → Type 0
IsSaid m (message.Begin manager timeout) = (manager ≡ m.number) × (timeout ≡ m.timeout)
IsSaid m (message.Call xid manager resource number asked) = (xid.0 < 2 ^ 64) × (manager ≡ m.number) × IsCallAt m.calls number (resource, asked)
IsSaid m (message.GlobalCommit xid) = xid.0 < 2 ^ 64
IsSaid m (message.GlobalRollback xid) = xid.0 < 2 ^ 64
IsSaid m (message.GlobalStatus xid) = xid.0 < 2 ^ 64
IsSaid m _ = ⊥

-- so is what a step sends, if anything
abbrev pub IsSaidTo : Settings → Outgoing → Type 0
IsSaidTo m out = IsSaid m out.message

abbrev pub SendsSaid : Settings → Step → Type 0
SendsSaid m step = IfSome step.sent (IsSaidTo m)
