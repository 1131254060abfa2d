-- For the proofs alone: what is kept of each node, and what one more entry does to it.
use Rattle.std.specs.Prelude.{ℕ, ◌-◌, ◌^◌, ◌&&◌, nat_lt, Bool, if◌then◌else◌, List, [], ◌∷◌, Option, Some, None, unwrap_or}
use Rattle.std.specs.BTreeMap.{insert_entry, is_at}
use Rattle.std.specs.Map.{lookup}
use Rattle.std.specs.Option.{option_and_then}
use Rattle.std.specs.Ordering.{nat_cmp}
use Rattle.seata_types.specs.declared.acts.Act.{Act}
use Rattle.seata_types.specs.declared.acts.Act.TheVariants as act
use Rattle.seata_types.specs.declared.acts.Durable.{Durable}
use Rattle.seata_types.specs.declared.acts.Durable.TheVariants as durable
use Rattle.seata_types.specs.declared.ids.Ticket.{Ticket}
use Rattle.seata_types.specs.declared.statements.Stmt.{Stmt}
use Rattle.local_tables.specs.Rows.{Database}
use Rattle.durable_records.specs.declared.coordinators.SessionRecord.{SessionRecord}
use Rattle.durable_records.specs.declared.coordinators.SessionRecord.TheVariants as session
use Rattle.durable_records.specs.declared.resources.ResourceRecord.{ResourceRecord}
use Rattle.session_log.specs.declared.sessions.Branch.{Branch}
use Rattle.session_log.specs.declared.sessions.SessionEntry.{SessionEntry}
use Rattle.session_log.specs.declared.sessions.Snapshot.{Snapshot}
use Rattle.session_memory.specs.Changes as sessions
use Rattle.resource_memory.specs.Changes as resources
use Rattle.resource_memory.specs.Known.{Known}
use Rattle.history_rules.specs.Own.{kept_part}
use Rattle.history_rules.specs.ResourceMemory.{effect_on, or_empty}
use Rattle.report_text.specs.Made.{next_boot, resource_made}
use Rattle.report_text.specs.Opens.{Works, work_at, with_work, without_work}
use Rattle.report_text.specs.declared.kept.OpenWork.{OpenWork}

-- one act more is still counted
abbrev pub has_room : ℕ → Bool
has_room acts = nat_lt acts (2 ^ 32 - 1)

-- ---- the coordinator

-- small numbers by the numbers of what they belong to, which rise
abbrev pub Numbers : Type 0
Numbers = List (ℕ × ℕ)

-- that of n; 0 where there is none
abbrev pub number_at : Numbers → ℕ → ℕ
number_at numbers n = unwrap_or (lookup (is_at (nat_cmp n)) numbers) 0

abbrev pub with_number : Numbers → (n number : ℕ) → Numbers
with_number numbers n number = insert_entry nat_cmp numbers n number

-- what its records say, the record in flight, the manager of each transaction and the call of each branch
pub record CoordinatorKept : Type 0 where
  pub known : Snapshot
  pub flight : Option SessionRecord
  pub managers : Numbers
  pub calls : Numbers

-- with the managers of transactions that are known, and the calls of their branches
abbrev pub managers_among : List SessionEntry → Numbers → Numbers
managers_among [] managers = managers
managers_among (e ∷ es) managers = managers_among es (with_number managers e.xid.0 e.session.manager)

abbrev pub calls_of_branches : List Branch → Numbers → Numbers
calls_of_branches [] calls = calls
calls_of_branches (b ∷ bs) calls = calls_of_branches bs (with_number calls b.id.0 b.place.call)

abbrev pub calls_among : List SessionEntry → Numbers → Numbers
calls_among [] calls = calls
calls_among (e ∷ es) calls = calls_among es (calls_of_branches e.session.branches calls)

-- before the first entry, over what the coordinator's disks held
abbrev pub coordinator_over : Snapshot → CoordinatorKept
coordinator_over s = record { known = s; flight = None; managers = managers_among s.sessions []; calls = calls_among s.sessions [] }

abbrev pub with_manager : SessionRecord → Numbers → Numbers
with_manager (session.Begun xid manager begun timeout) managers = with_number managers xid.0 manager
with_manager _ managers = managers

abbrev pub with_call : SessionRecord → Numbers → Numbers
with_call (session.Granted xid branch resource call ticket kind hold) calls = with_number calls branch.0 call
with_call _ calls = calls

abbrev pub may_stand : CoordinatorKept → SessionRecord → Bool
may_stand k r = has_room k.known.acts && sessions.may_come k.known r

-- one more record stands, where it may come
abbrev pub with_session : SessionRecord → CoordinatorKept → CoordinatorKept
with_session r k =
    if may_stand k r then record k { known = sessions.after r k.known; managers = with_manager r k.managers; calls = with_call r k.calls } else k

abbrev pub with_sessions : Option SessionRecord → CoordinatorKept → CoordinatorKept
with_sessions None k = k
with_sessions (Some r) k = with_session r k

-- nothing is in flight, and what was stands where it was kept
abbrev pub settled : Option Durable → CoordinatorKept → CoordinatorKept
settled kept k = with_sessions (kept_part kept k.flight) (record k { flight = None })

abbrev pub with_flight : Option SessionRecord → CoordinatorKept → CoordinatorKept
with_flight flight k = record k { flight = flight }

-- after an act whose record is made so
abbrev pub session_taken : (Durable → Option SessionRecord) → Act → CoordinatorKept → CoordinatorKept
session_taken made (act.Durable done) k = with_sessions (made done) (settled None k)
session_taken made (act.Down kept at) k = with_flight (option_and_then made at) (settled kept k)
session_taken made (act.Restarted kept) k = settled kept k
session_taken made _ k = k

-- ---- a resource

-- what its records say, the record in flight, and the open tickets
pub record ResourceKept : Type 0 where
  pub known : Known
  pub flight : Option ResourceRecord
  pub works : Works

abbrev pub may_add : Known → ResourceRecord → Bool
may_add k r = has_room k.acts && resources.may_come k r

abbrev pub known_with : ResourceRecord → Known → Known
known_with r k = if may_add k r then resources.after r k else k

-- one more record stands, where it may come
abbrev pub with_record : Option ResourceRecord → ResourceKept → ResourceKept
with_record None k = k
with_record (Some r) k = record k { known = known_with r k.known }

abbrev pub booted : ResourceKept → ResourceKept
booted k = record k { known = known_with (next_boot k.known) k.known }

-- before the first entry: one boot over what the resource's disks held
abbrev pub resource_over : Known → ResourceKept
resource_over known = booted (record { known = known; flight = None; works = [] })

abbrev pub landed : Option Durable → ResourceKept → ResourceKept
landed kept k = with_record (kept_part kept k.flight) (record k { flight = None })

abbrev pub ticket_in : Durable → Option Ticket
ticket_in (durable.Committed xid branch ticket) = Some ticket
ticket_in (durable.Tried xid branch ticket) = Some ticket
ticket_in (durable.LocalCommitted number ticket) = Some ticket
ticket_in _ = None

abbrev pub less_ticket : Option Ticket → Works → Works
less_ticket None works = works
less_ticket (Some t) works = without_work works t

-- without the ticket that a durable act ends
abbrev pub less_open : Durable → ResourceKept → ResourceKept
less_open done k = record k { works = less_ticket (ticket_in done) k.works }

-- the record of a durable act, with these statements
abbrev pub asked_now : Option (List Stmt) → ResourceKept → Durable → Option ResourceRecord
asked_now run k done = resource_made k.known (option_and_then (work_at k.works) (ticket_in done)) run done

abbrev pub work_now : Database → ℕ → (run tries : Option (List Stmt)) → OpenWork
work_now db call run tries = let e = effect_on db (or_empty run) in record { call = call; tries = or_empty tries; images = e.images; reads = e.reads }

abbrev pub with_open : Ticket → ℕ → (run tries : Option (List Stmt)) → ResourceKept → ResourceKept
with_open t call run tries k = record k { works = with_work k.works t (work_now k.known.tables call run tries) }

abbrev pub less_work : Ticket → ResourceKept → ResourceKept
less_work t k = record k { works = without_work k.works t }

abbrev pub fallen : Option ResourceRecord → ResourceKept → ResourceKept
fallen flight k = record { known = k.known; flight = flight; works = [] }

-- after an act, with the statements that it is about
abbrev pub resource_taken : (run tries : Option (List Stmt)) → Act → ResourceKept → ResourceKept
resource_taken run tries (act.Durable done) k = let now = landed None k in with_record (asked_now run now done) (less_open done now)
resource_taken run tries (act.Down kept at) k = let now = landed kept k in fallen (option_and_then (asked_now run now) at) now
resource_taken run tries (act.Restarted kept) k = booted (landed kept k)
resource_taken run tries (act.Opened xid call t) k = with_open t call run tries k
resource_taken run tries (act.OpenedLocal number t) k = with_open t 0 run None k
resource_taken run tries (act.Dropped xid call t why) k = less_work t k
resource_taken run tries (act.DroppedLocal number t key holder) k = less_work t k
resource_taken run tries _ k = k

-- the record that comes to stand with an act
abbrev pub standing : Option (List Stmt) → Act → ResourceKept → Option ResourceRecord
standing run (act.Durable done) k = asked_now run (landed None k) done
standing run (act.Down kept at) k = kept_part kept k.flight
standing run (act.Restarted kept) k = kept_part kept k.flight
standing run _ k = None
