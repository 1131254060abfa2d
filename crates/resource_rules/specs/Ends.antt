-- The answers of the second phase, by what was looked up: the rules' own steps, with the record and the change of each.
use Rattle.std.specs.Prelude.{ℕ, List, [], Option, None, Result}
use Rattle.seata_types.specs.declared.errors.StmtError.{StmtError}
use Rattle.seata_types.specs.declared.ids.Leg.{Leg}
use Rattle.seata_types.specs.declared.ids.Ticket.{Ticket}
use Rattle.seata_types.specs.declared.rows.Image.{Image}
use Rattle.seata_types.specs.declared.rows.RowKey.{RowKey}
use Rattle.local_tables.specs.Rows.{Database}
use Rattle.local_tables.specs.declared.schemas.Effect.{Effect}
use Rattle.durable_records.specs.Fences.{FenceAnswer}
use Rattle.history_rules.specs.ResourceMemory.{or_none}
use Rattle.history_rules.specs.ResourceRules as rules
use Rattle.resource_rules.specs.Answers.{answer_by}
use Rattle.resource_rules.specs.declared.answers.Answer.{Answer}

-- to the commit of an AT branch without an undo record
abbrev pub empty : Leg → Answer
empty leg = answer_by 0 [] [] (rules.at_commit leg.xid.0 leg.branch.0 None)

-- to the rollback of one whose undo record has these images
abbrev pub undoing : Database → Leg → List Image → Option (RowKey × Ticket) → Answer
undoing db leg images busy = answer_by 0 [] [] (rules.at_record db leg.xid.0 leg.branch.0 images busy)

-- to the commit of a TCC branch whose Confirm does this, and to the rollback of one whose Cancel does
abbrev pub confirming : Leg → Result Effect (ℕ × StmtError) → FenceAnswer → Answer
confirming leg meaning f = answer_by 0 (or_none meaning).images [] (rules.tcc_commit leg.xid.0 leg.branch.0 meaning f)

abbrev pub cancelling : Leg → Result Effect (ℕ × StmtError) → FenceAnswer → Answer
cancelling leg meaning f = answer_by 0 (or_none meaning).images [] (rules.tcc_rollback leg.xid.0 leg.branch.0 meaning f)
