-- Which transaction a turn takes, and which branch is asked, by what a coordinator knows.
use Rattle.std.specs.Prelude.{ℕ, ◌+◌, ◌&&◌, nat_lt, nat_le, Bool, false, not, Option, Some, None, option_map}
use Rattle.std.specs.Option.{option_and_then}
use Rattle.seata_types.specs.declared.ids.Leg.{Leg}
use Rattle.seata_types.specs.declared.ids.Ticket.{Ticket}
use Rattle.seata_types.specs.declared.limits.TheConstants.{MANAGERS, CALLS}
use Rattle.seata_types.specs.declared.statuses.BranchKind.{BranchKind}
use Rattle.seata_types.specs.declared.statuses.BranchKind.TheVariants as kind
use Rattle.seata_types.specs.declared.statuses.GlobalStatus.{GlobalStatus}
use Rattle.durable_records.specs.SessionOrder.{is_counted}
use Rattle.seata_types.specs.declared.ids.Xid.{Xid}
use Rattle.retry_turns.specs.Plans.{Plans, moment_of}
use Rattle.session_log.specs.declared.sessions.Branch.{Branch}
use Rattle.session_log.specs.declared.sessions.RegisterPlace.{RegisterPlace}
use Rattle.session_log.specs.declared.sessions.Session.{Session}
use Rattle.session_log.specs.declared.sessions.SessionEntry.{SessionEntry}
use Rattle.session_log.specs.declared.sessions.Snapshot.{Snapshot}
use Rattle.session_memory.specs.Changes.{is_begin, is_finished, is_open}
use Rattle.session_memory.specs.Holding.{keeps_rows}
use Rattle.session_memory.specs.Lookups.{ticket_leg, call_leg, next_open, status_in}
use Rattle.coordinator_rules.specs.declared.questions.Question.{Question}

-- the timeout of a transaction is over
abbrev pub has_passed : Session → ℕ → Bool
has_passed t now = nat_lt (t.begun + t.timeout) now

abbrev pub has_passed_in : Option Session → ℕ → Bool
has_passed_in None now = false
has_passed_in (Some t) now = has_passed t now

-- a transaction that is known is decided rollback, asked for or by its timeout
abbrev pub is_rolling : GlobalStatus → Bool
is_rolling status = keeps_rows status && not (is_begin status)

-- a transaction isn't decided, and its timeout is over
abbrev pub is_late_entry : ℕ → SessionEntry → Bool
is_late_entry now e = is_begin e.session.status && has_passed e.session now

abbrev pub is_by : (forget now : ℕ) → Option ℕ → Bool
is_by forget now None = false
is_by forget now (Some since) = nat_le (since + forget) now

-- a transaction is finished, and rests for so long that it is forgotten
abbrev pub is_old_entry : Plans → (forget now : ℕ) → SessionEntry → Bool
is_old_entry rests forget now e = is_finished e.session.status && (nat_lt 0 forget && is_by forget now (moment_of rests e.xid.0))

-- an unended branch of a transaction that commits, and of one that rolls back
abbrev pub commits_here : Snapshot → Leg → Bool
commits_here s leg = not (keeps_rows (status_in s leg.xid.0)) && is_open s leg.xid.0 leg.branch.0

abbrev pub rolls_here : Snapshot → Leg → Bool
rolls_here s leg = is_rolling (status_in s leg.xid.0) && is_open s leg.xid.0 leg.branch.0

-- the number of no transaction
abbrev pub nobody : Xid
nobody = record { 0 = 0 }

-- the branch that was registered for this, of a transaction that is known
abbrev pub leg_of_kind : Snapshot → Xid → (resource call : ℕ) → Ticket → BranchKind → Option Leg
leg_of_kind s x resource call ticket kind.At = ticket_leg s resource ticket
leg_of_kind s x resource call ticket kind.Tcc = call_leg s x resource call

abbrev pub leg_in : Snapshot → Xid → RegisterPlace → Option Leg
leg_in s x p = leg_of_kind s x p.resource p.call p.ticket p.kind

-- ---- questions

abbrev pub question_to : Session → Branch → Question
question_to t b = record {
  commit = not (keeps_rows t.status);
  branch = b.id;
  kind = b.place.kind;
  manager = t.manager;
  call = b.place.call;
  resource = b.place.resource;
}

-- what the next branch of a transaction is asked
abbrev pub question_of : Session → Option Question
question_of t = option_map (question_to t) (next_open (not (keeps_rows t.status)) t.branches)

abbrev pub question_in : Option Session → Option Question
question_in t = option_and_then question_of t

-- ---- numbers of the scenario

-- its manager and its resource are nodes of the scenario
abbrev pub names_nodes : (managers resources : ℕ) → Question → Bool
names_nodes managers resources q = is_counted managers q.manager && is_counted resources q.resource

-- its numbers may stand in a message
abbrev pub is_sendable : Question → Bool
is_sendable q = is_counted MANAGERS q.manager && is_counted CALLS q.call
