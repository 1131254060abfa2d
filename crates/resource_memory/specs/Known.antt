-- What a resource knows, as a function of its records over the rows of the opening. Lists of records stand newest first.
use Rattle.std.specs.Prelude.{ℕ, ◌==◌, if◌then◌else◌, List, [], ◌∷◌, length}
use Rattle.std.specs.BTreeMap.{insert_entry}
use Rattle.seata_types.specs.declared.ids.Leg.{Leg}
use Rattle.local_tables.specs.Rows.{Database}
use Rattle.durable_records.specs.declared.resources.ResourceRecord.{ResourceRecord}
use Rattle.durable_records.specs.declared.resources.ResourceRecord.TheVariants as log
use Rattle.durable_records.specs.Fences.{fences}
use Rattle.durable_records.specs.RowsKept.{tables}
use Rattle.durable_records.specs.UndoRecords.{boots}
use Rattle.undo_log.specs.Entries.{Log, order}
use Rattle.tcc_fence.specs.Meanings.{Fences}
use Rattle.resource_log.specs.Records.{leg_of}
use Rattle.resource_log.specs.SnapshotOf.{undo_log_of}

-- branches with the calls that they were tried for, in order of transaction and branch
abbrev pub Calls : Type 0
Calls = List (Leg × ℕ)

-- calls are counted from 1: a Try for call 0 is for none
abbrev pub with_call : Calls → Leg → ℕ → Calls
with_call calls leg call = if call == 0 then calls else insert_entry order calls leg call

-- each branch that was tried for a call
abbrev pub calls_tried : List ResourceRecord → Calls
calls_tried [] = []
calls_tried (log.Tried xid branch call images ∷ rs) = with_call (calls_tried rs) (leg_of xid branch) call
calls_tried (_ ∷ rs) = calls_tried rs

-- how many records there are and how many of them are boots, the tables, the undo log, the fences, and the calls
pub record Known : Type 0 where
  pub acts : ℕ
  pub boots : ℕ
  pub tables : Database
  pub undo_log : Log
  pub fences : Fences
  pub calls : Calls

-- what these records say
abbrev pub known_of : Database → List ResourceRecord → Known
known_of opening rs = record {
  acts = length rs;
  boots = boots rs;
  tables = tables opening rs;
  undo_log = undo_log_of rs;
  fences = fences rs;
  calls = calls_tried rs;
}
