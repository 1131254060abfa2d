-- What a manager keeps of its own entries.
use Rattle.std.specs.Prelude.{◌≡◌, ℕ, Bool, true, false, List, Option, Some, None, slice_get}
use Rattle.seata_types.specs.declared.ids.Xid.{Xid}
use Rattle.seata_types.specs.declared.messages.Message.{Message}
use Rattle.seata_types.specs.declared.messages.Message.TheVariants as message
use Rattle.seata_types.specs.declared.statements.Work.{Work}
use Rattle.history_rules.specs.Own.{Own}
use Rattle.history_rules.specs.Devices.{is_down, calls_left}
use Rattle.history_rules.specs.ManagerRules.{Settings, busy_count, end_message, ended_by, is_closed, last_sent, sent_count}
use Rattle.manager_rules.specs.Calls.{call_message}
use Rattle.manager_rules.specs.declared.phases.Phase.{Phase}
use Rattle.manager_rules.specs.declared.phases.Phase.TheVariants as phase
use Rattle.manager_rules.specs.declared.talks.Talk.{Talk}

-- the call after so many that are done is there, and its message is the last one
pub record IsCalling (m : Settings) (xid : Xid) (done : ℕ) (last : Option Message) : Type 0 where
  pub call : ℕ × Work
  pub there : slice_get m.calls done ≡ Some call
  pub sent : last ≡ Some (call_message m xid done call)

-- what each phase says: whether the end was answered, how often the present call was busy, and the last message
abbrev pub IsPhase : Settings → Phase → (closed : Bool) → (busy : ℕ) → (last : Option Message) → Type 0
IsPhase m phase.Unstarted closed busy last = (closed ≡ false) × (last ≡ None)
IsPhase m phase.Beginning closed busy last = (closed ≡ false) × (last ≡ Some (message.Begin m.number m.timeout))
IsPhase m (phase.Calling xid done count) closed busy last = (closed ≡ false) × (busy ≡ count) × IsCalling m xid done last
IsPhase m (phase.Closing xid how) closed busy last = (closed ≡ false) × (last ≡ Some (end_message how xid))
IsPhase m (phase.Closed xid) closed busy last = (closed ≡ true) × (ended_by last ≡ Some xid)

-- it sent so many messages and is in the phase that this says, is up, and no stop arms a disk of it
pub record Keeps (m : Talk) (count busy : ℕ) (closed : Bool) (last : Option Message) (down : Bool) (left : Option ℕ) : Type 0 where
  pub counted : m.sent ≡ count
  pub phased : IsPhase m.settings m.phase closed busy last
  pub up : down ≡ false
  pub unarmed : left ≡ None

-- the manager is the one of these own entries
abbrev pub Tracks : Talk → List Own → Type 0
Tracks m os = Keeps m (sent_count os) (busy_count os) (is_closed os) (last_sent os) (is_down os) (calls_left false os)
