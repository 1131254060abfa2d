-- The records that entries ask for, made of what is printed of them, of what was kept, and of the scenario.
use Rattle.std.specs.Prelude.{ℕ, ◌+◌, ◌-◌, ◌^◌, min, List, Option, Some, None, option_map}
use Rattle.seata_types.specs.declared.acts.Act.{Act}
use Rattle.seata_types.specs.declared.acts.Act.TheVariants as act
use Rattle.seata_types.specs.declared.acts.Durable.{Durable}
use Rattle.seata_types.specs.declared.acts.Durable.TheVariants as durable
use Rattle.seata_types.specs.declared.ids.BranchId.{BranchId}
use Rattle.seata_types.specs.declared.ids.Place.TheVariants as place
use Rattle.seata_types.specs.declared.ids.Xid.{Xid}
use Rattle.seata_types.specs.declared.rows.Image.{Image}
use Rattle.seata_types.specs.declared.statements.Stmt.{Stmt}
use Rattle.seata_types.specs.declared.statuses.Decision.TheVariants as how
use Rattle.local_tables.specs.Rows.{Database}
use Rattle.durable_records.specs.declared.coordinators.SessionRecord.{SessionRecord}
use Rattle.durable_records.specs.declared.coordinators.SessionRecord.TheVariants as session
use Rattle.durable_records.specs.declared.resources.ResourceRecord.{ResourceRecord}
use Rattle.durable_records.specs.declared.resources.ResourceRecord.TheVariants as resource
use Rattle.scenario_form.specs.declared.scenarios.Scenario.{Scenario}
use Rattle.history_rules.specs.ResourceMemory.{effect_on, or_empty}
use Rattle.history_text.specs.declared.entries.Cause.{Cause}
use Rattle.history_text.specs.declared.entries.Cause.TheVariants as cause
use Rattle.history_text.specs.declared.entries.Entry.{Entry}
use Rattle.history_text.specs.declared.notes.Note.{Note}
use Rattle.history_text.specs.declared.notes.Note.TheVariants as note
use Rattle.resource_memory.specs.Known.{Known}
use Rattle.report_text.specs.Numbered.{statements_at, tries_at, confirms_at, cancels_at, local_at}
use Rattle.report_text.specs.declared.kept.OpenWork.{OpenWork}

-- ---- who sent the message that a cause delivers

-- the resource, where one sent it
abbrev pub sending_resource : Cause → Option ℕ
sending_resource (cause.Deliver stamp (place.Res n)) = Some n
sending_resource _ = None

-- the manager; 0 where none sent it
abbrev pub sending_manager : Cause → ℕ
sending_manager (cause.Deliver stamp (place.Man m)) = m
sending_manager _ = 0

-- ---- the coordinator's records

abbrev pub begun_from : Xid → (now : ℕ) → Option Note → Option SessionRecord
begun_from xid now (Some (note.Begin manager timeout)) = Some (session.Begun xid manager now timeout)
begun_from xid now _ = None

abbrev pub granted_from : Xid → BranchId → Option Note → (resource : Option ℕ) → Option SessionRecord
granted_from xid branch (Some (note.Register asked call ticket kind hold check)) (Some n) = Some (session.Granted xid branch n call ticket kind hold)
granted_from xid branch _ _ = None

-- the record of a durable act of the coordinator, with the note of the message that its entry took
abbrev pub session_made : Entry → Option Note → Durable → Option SessionRecord
session_made e heard (durable.Begun xid) = begun_from xid e.now heard
session_made e heard (durable.Granted xid branch) = granted_from xid branch heard (sending_resource e.cause)
session_made e heard (durable.Late xid) = Some (session.Decided xid how.Timeout)
session_made e heard (durable.Decided xid decision) = Some (session.Decided xid decision)
session_made e heard (durable.Ended xid branch) = Some (session.Ended xid branch)
session_made e heard (durable.Retrying xid branch) = Some (session.Retrying xid)
session_made e heard (durable.Failed xid branch stmt) = Some (session.Failed xid branch stmt)
session_made e heard (durable.Finished xid final) = Some (session.Finished xid)
session_made e heard (durable.Forgot xid) = Some (session.Forgot xid)
session_made e heard _ = None

-- ---- a resource's records

-- the images of the effect of statements, none of which may be there
abbrev pub images_on : Database → Option (List Stmt) → List Image
images_on db run = (effect_on db (or_empty run)).images

abbrev pub committed_from : Xid → BranchId → OpenWork → ResourceRecord
committed_from xid branch w = resource.Committed xid branch w.call w.images w.reads

abbrev pub tried_from : Xid → BranchId → Database → OpenWork → ResourceRecord
tried_from xid branch db w = resource.Tried xid branch w.call (effect_on db w.tries).images

abbrev pub local_from : ℕ → OpenWork → ResourceRecord
local_from number w = resource.LocalCommitted number w.images

-- the next boot; its number stands still at its type's end
abbrev pub next_boot : Known → ResourceRecord
next_boot k = resource.Boot (min (k.boots + 1) (2 ^ 32 - 1))

-- the record of a durable act that ends no ticket, with the statements of a confirm, a cancel or an outside write
abbrev pub plain_made : Database → Option (List Stmt) → Durable → Option ResourceRecord
plain_made db run (durable.Cleared xid branch) = Some (resource.Cleared xid branch)
plain_made db run (durable.Undone xid branch) = Some (resource.Undone xid branch)
plain_made db run (durable.Marked xid branch) = Some (resource.Marked xid branch)
plain_made db run (durable.Suspended xid branch) = Some (resource.Suspended xid branch)
plain_made db run (durable.Confirmed xid branch) = Some (resource.Confirmed xid branch (images_on db run))
plain_made db run (durable.Cancelled xid branch) = Some (resource.Cancelled xid branch (images_on db run))
plain_made db run (durable.Outside number) = Some (resource.Outside number (images_on db run))
plain_made db run _ = None

-- the record of a durable act of a resource, by what is kept of its ticket
abbrev pub resource_made : Known → Option OpenWork → Option (List Stmt) → Durable → Option ResourceRecord
resource_made k w run durable.Boot = Some (next_boot k)
resource_made k w run (durable.Committed xid branch ticket) = option_map (committed_from xid branch) w
resource_made k w run (durable.Tried xid branch ticket) = option_map (tried_from xid branch k.tables) w
resource_made k w run (durable.LocalCommitted number ticket) = option_map (local_from number) w
resource_made k w run done = plain_made k.tables run done

-- ---- the statements that an entry is about

-- those of a confirm, a cancel and an outside write of resource n; managers and calls are found by transaction and branch
abbrev pub run_by : Scenario → (manager call : ℕ → ℕ) → (n : ℕ) → Durable → Option (List Stmt)
run_by s manager call n (durable.Confirmed xid branch) = confirms_at s n (manager xid.0) (call branch.0)
run_by s manager call n (durable.Cancelled xid branch) = cancels_at s n (manager xid.0) (call branch.0)
run_by s manager call n (durable.Outside number) = local_at s n number
run_by s manager call n _ = None

-- and those that a ticket is opened for
abbrev pub run_for : Scenario → (manager call : ℕ → ℕ) → (n : ℕ) → Cause → Act → Option (List Stmt)
run_for s manager call n why (act.Opened xid c ticket) = statements_at s (sending_manager why) c
run_for s manager call n why (act.OpenedLocal number ticket) = local_at s n number
run_for s manager call n why (act.Durable done) = run_by s manager call n done
run_for s manager call n why (act.Down kept (Some at)) = run_by s manager call n at
run_for s manager call n why _ = None

-- the statements of the Try that a ticket is opened for
abbrev pub tries_for : Scenario → Cause → Act → Option (List Stmt)
tries_for s why (act.Opened xid c ticket) = tries_at s (sending_manager why) c
tries_for s why _ = None
