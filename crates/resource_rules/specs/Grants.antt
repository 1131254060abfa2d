-- The answers to what the coordinator says of the ticket of a call, by what was looked up: the rules' own steps, with the record and the
-- change of each.
use Rattle.std.specs.Prelude.{ℕ, Bool, true, false, [], ◌≤◌, length, Option, Some, None, Result}
use Rattle.seata_types.specs.declared.acts.Act.{Act}
use Rattle.seata_types.specs.declared.acts.Act.TheVariants as act
use Rattle.seata_types.specs.declared.errors.StmtError.{StmtError}
use Rattle.seata_types.specs.declared.errors.Why.{Why}
use Rattle.seata_types.specs.declared.ids.Leg.{Leg}
use Rattle.seata_types.specs.declared.ids.Xid.{Xid}
use Rattle.seata_types.specs.declared.limits.TheConstants.{FIELD_ITEMS}
use Rattle.seata_types.specs.declared.messages.Step.{Step}
use Rattle.seata_types.specs.declared.statements.Work.{Work}
use Rattle.seata_types.specs.declared.statements.Work.TheVariants as work
use Rattle.local_tables.specs.Calls.{effect}
use Rattle.local_tables.specs.declared.schemas.Effect.{Effect}
use Rattle.durable_records.specs.Fences.{FenceAnswer, on_try}
use Rattle.durable_records.specs.UndoRecords.{Undo}
use Rattle.undo_log.specs.Entries.{entry_at}
use Rattle.undo_log.specs.declared.records.UndoEntry.{UndoEntry}
use Rattle.undo_log.specs.declared.records.UndoEntry.TheVariants as entry
use Rattle.tcc_fence.specs.Meanings.{fence_at}
use Rattle.local_txn.specs.Answers.{open_of}
use Rattle.local_txn.specs.declared.transactions.OpenTxn.{OpenTxn}
use Rattle.history_rules.specs.ResourceMemory.{or_none}
use Rattle.history_rules.specs.ResourceRules as rules
use Rattle.resource_memory.specs.Known.{Known}
use Rattle.resource_rules.specs.Answers.{answer_by}
use Rattle.resource_rules.specs.declared.answers.Answer.{Answer}

-- the undo record that stands at a branch, and whether a marker does
abbrev pub undo_in : Option UndoEntry → Option Undo
undo_in (Some (entry.Normal r)) = Some (record { xid = r.leg.xid.0; branch = r.leg.branch.0; call = r.call; images = r.images; reads = r.reads })
undo_in _ = None

abbrev pub is_marker : Option UndoEntry → Bool
is_marker (Some entry.Finished) = true
is_marker _ = false

-- a Try has no more statements than are counted
abbrev pub IsCountedTry : Work → Type 0
IsCountedTry (work.At stmts) = Unit {0}
IsCountedTry (work.Tcc action) = length action.tries ≤ FIELD_ITEMS

-- the ticket of a call of x is dropped
abbrev pub dropped : OpenTxn → Xid → Why → Answer
dropped txn xid cause = answer_by 0 [] [] (rules.drops (open_of txn) txn.manager xid.0 txn.call cause)

-- a grant to an AT branch, by what stands at it in the undo log
abbrev pub at_granted : OpenTxn → Leg → Option UndoEntry → Answer
at_granted txn leg found =
    answer_by txn.call txn.images txn.reads (rules.at_granted (open_of txn) txn.manager leg.xid.0 txn.call leg.branch.0 (undo_in found) (is_marker found))

-- a Try that runs, by what it does, and a grant to a TCC branch, by what its fence answers too
abbrev pub try_meant : OpenTxn → Leg → Result Effect (ℕ × StmtError) → Answer
try_meant txn leg meaning =
    answer_by txn.call (or_none meaning).images [] (rules.try_meant (open_of txn) txn.manager leg.xid.0 txn.call leg.branch.0 meaning)

abbrev pub tcc_granted : OpenTxn → Leg → Result Effect (ℕ × StmtError) → FenceAnswer → Answer
tcc_granted txn leg meaning f =
    answer_by txn.call (or_none meaning).images [] (rules.tcc_granted (open_of txn) txn.manager leg.xid.0 txn.call leg.branch.0 meaning f)

-- a grant, by what is known
abbrev pub granted : Known → OpenTxn → Leg → Work → Answer
granted k txn leg (work.At stmts) = at_granted txn leg (entry_at k.undo_log leg)
granted k txn leg (work.Tcc action) = tcc_granted txn leg (effect k.tables action.tries) (on_try (fence_at k.fences leg))

-- ---- a conflict

-- the step, and the answer
abbrev pub meets : (tries : ℕ) → OpenTxn → Xid → (rolling : Bool) → Step
meets tries txn holder rolling = rules.conflict_answer tries (open_of txn) txn.manager txn.xid.0 txn.call holder rolling

abbrev pub conflicted : (tries : ℕ) → OpenTxn → Xid → (rolling : Bool) → Answer
conflicted tries txn holder rolling = answer_by 0 [] [] (meets tries txn holder rolling)

-- why an act drops a ticket, if it drops one
abbrev pub cause_of : Act → Option Why
cause_of (act.Dropped xid c t cause) = Some cause
cause_of _ = None
