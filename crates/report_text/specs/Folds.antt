-- For the proofs alone: what is kept of all nodes, and what one more entry does to it.
use Rattle.std.specs.Prelude.{ℕ, zero, suc, List, [], ◌++◌, length, map, set, slice_get, Option, Some, None}
use Rattle.seata_types.specs.declared.ids.Place.{Place}
use Rattle.seata_types.specs.declared.ids.Place.TheVariants as place
use Rattle.seata_types.specs.declared.statements.Stmt.{Stmt}
use Rattle.scenario_form.specs.declared.scenarios.Scenario.{Scenario}
use Rattle.history_text.specs.declared.entries.Entry.{Entry}
use Rattle.history_text.specs.declared.entries.Names.{Names}
use Rattle.report_text.specs.declared.before.Before.{Before}
use Rattle.report_text.specs.Keeping.{CoordinatorKept, ResourceKept, coordinator_over, number_at, resource_over, resource_taken, session_taken, standing}
use Rattle.report_text.specs.Made.{session_made, run_for, tries_for}
use Rattle.report_text.specs.Sections.{reads_text}
use Rattle.report_text.specs.SentIndex.{Index, delivered_note, with_entry}

-- the coordinator, the resources in order of their numbers, where the entries stand that sent a message, and the lines of the
-- rows that local commits read
pub record FoldedKept : Type 0 where
  pub coordinator : CoordinatorKept
  pub resources : List ResourceKept
  pub sent : Index
  pub reads : List ℕ

-- before the first entry
abbrev pub first_folded : Before → FoldedKept
first_folded before = record { coordinator = coordinator_over before.sessions; resources = map resource_over before.resources.items; sent = []; reads = [] }

-- ---- one more entry, behind these

-- of the coordinator
abbrev pub session_step : List Entry → Entry → FoldedKept → FoldedKept
session_step before e f = record f { coordinator = session_taken (session_made e (delivered_note f.sent before e.cause)) e.act f.coordinator }

-- the statements that an entry of resource n is about
abbrev pub run_now : Scenario → ℕ → Entry → FoldedKept → Option (List Stmt)
run_now s n e f = run_for s (number_at f.coordinator.managers) (number_at f.coordinator.calls) n e.cause e.act

-- what is kept of the k-th resource, counted from 0, is this now, and the lines of what it read are told
abbrev pub with_resource : Names → ℕ → (run tries : Option (List Stmt)) → Entry → FoldedKept → Option ResourceKept → FoldedKept
with_resource names k run tries e f None = f
with_resource names k run tries e f (Some r) =
    record f { resources = set f.resources k (resource_taken run tries e.act r); reads = f.reads ++ reads_text names (standing run e.act r) }

-- of resource n, counted from 1
abbrev pub resource_step : Scenario → Names → ℕ → Entry → FoldedKept → FoldedKept
resource_step s names zero e f = f
resource_step s names (suc k) e f = with_resource names k (run_now s (suc k) e f) (tries_for s e.cause e.act) e f (slice_get f.resources k)

abbrev pub node_step : Scenario → Names → List Entry → Entry → Place → FoldedKept → FoldedKept
node_step s names before e place.Tc f = session_step before e f
node_step s names before e (place.Res n) f = resource_step s names n e f
node_step s names before e _ f = f

abbrev pub sent_step : ℕ → Entry → FoldedKept → FoldedKept
sent_step at e f = record f { sent = with_entry f.sent at e }

abbrev pub entry_step : Scenario → Names → List Entry → Entry → FoldedKept → FoldedKept
entry_step s names before e f = sent_step (length before) e (node_step s names before e e.place f)
