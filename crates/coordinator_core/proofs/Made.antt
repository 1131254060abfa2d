-- The record that an answer asks for is one that the table may make.
use Rattle.std.proofs.Common.{◌≡◌, ◌≤◌, ℕ, true, false, List, [], length, Option, Some, None, refl, sym, subst, arith}
use Rattle.std.specs.Prelude.{IfSome}
use Rattle.std.proofs.lemmas.List.Elements.{All-nil}
use Rattle.seata_types.specs.declared.acts.Act.{Act}
use Rattle.seata_types.specs.declared.acts.Durable.{Durable}
use Rattle.seata_types.specs.declared.acts.Durable.TheVariants as durable
use Rattle.seata_types.specs.declared.ids.BranchId.{BranchId}
use Rattle.seata_types.specs.declared.ids.Place.{Place}
use Rattle.seata_types.specs.declared.ids.Ticket.{Ticket}
use Rattle.seata_types.specs.declared.ids.Xid.{Xid}
use Rattle.seata_types.specs.declared.limits.TheConstants.{BODY_BYTES}
use Rattle.seata_types.specs.declared.messages.Input.{Input}
use Rattle.seata_types.specs.declared.messages.Input.TheVariants as input
use Rattle.seata_types.specs.declared.messages.Message.TheVariants as message
use Rattle.seata_types.specs.declared.messages.Step.{Step}
use Rattle.seata_types.specs.declared.rows.RowKey.{RowKey}
use Rattle.seata_types.specs.declared.statuses.BranchKind.{BranchKind}
use Rattle.seata_types.specs.declared.statuses.Decision.TheVariants as how
use Rattle.byte_fields.specs.Layout.{FitsKey, FitsKeys}
use Rattle.durable_records.specs.declared.coordinators.SessionRecord.{SessionRecord}
use Rattle.durable_records.specs.declared.coordinators.SessionRecord.TheVariants as log
use Rattle.durable_records.specs.SessionOrder.{is_within}
use Rattle.history_rules.specs.Own.{Given}
use Rattle.history_rules.specs.CoordinatorMemory.{begun_by, granted_by, session_record}
use Rattle.session_log.specs.declared.sessions.Snapshot.{Snapshot}
use Rattle.session_log.specs.Records.{record_bytes}
use Rattle.session_memory.specs.Changes.{taken_rows}
use Rattle.session_memory.proofs.Small.{none_some}
use Rattle.session_store.specs.Keeping.{managers_of, resources_of, registers}
use Rattle.session_store.proofs.ShortRecords.{short_record}
use Rattle.coordinator_rules.specs.Answers.{IsRecorded, IsSent, IsSentBy}
use Rattle.coordinator_rules.specs.Costs.{AnswersCost, InputCosts, held_rows}
use Rattle.coordinator_core.specs.declared.table.Table.{Table}
use Rattle.coordinator_core.specs.Knowledge.{memory}
use Rattle.coordinator_core.specs.Plain.{IsNoTurn}
use Rattle.coordinator_core.specs.Serving.{ServesInput}
use Rattle.coordinator_core.specs.Taking.{IsMadeOn, TakingCosts, asked_rows}
use Rattle.coordinator_core.proofs.Counted.{both_costs}
use Rattle.coordinator_core.proofs.Registered.{keys_fit, record_short, record_within}

-- a record that fits the disks, of a scenario with so many managers and resources
record IsShortOf (managers resources : ℕ) (r : SessionRecord) : Type 0 where
  keys : FitsKeys (taken_rows r)
  small : length (record_bytes r) ≤ BODY_BYTES
  within : is_within managers resources r ≡ true

module _ (managers resources : ℕ) (now : ℕ) where
  as_this : (r q : SessionRecord) → Some q ≡ Some r → IsShortOf managers resources q → IsShortOf managers resources r
  as_this r q e p = let same : q ≡ r = cc in subst (IsShortOf managers resources) same p

  -- one that registers no branch is short, and takes no rows
  plain : (r : SessionRecord) → registers r ≡ false → taken_rows r ≡ [] → is_within managers resources r ≡ true → IsShortOf managers resources r
  plain r none no_rows within = record {
    keys = subst FitsKeys (sym no_rows) (record { count = omega arith; each = All-nil FitsKey; order = tt });
    small = short_record r none;
    within = within;
  }

  begun_short : (given : Input) → ServesInput managers resources given → (xid : Xid) (r : SessionRecord) → begun_by xid now (Given given) ≡ Some r → IsShortOf managers resources r
  begun_short input.Turn s xid r e = none_some e
  begun_short (input.Local number) s xid r e = none_some e
  begun_short (input.Outside number) s xid r e = none_some e
  begun_short (input.Message from (message.Begin manager timeout)) s xid r e = as_this r (log.Begun xid manager now timeout) e (plain _ refl refl s.numbers)
  begun_short (input.Message from (message.Register x resource call ticket mode hold check)) s xid r e = none_some e
  begun_short (input.Message from (message.Begun x)) s xid r e = none_some e
  begun_short (input.Message from (message.BranchCommit x id mode manager call)) s xid r e = none_some e
  begun_short (input.Message from (message.BranchCommitted x id status stmt)) s xid r e = none_some e
  begun_short (input.Message from (message.BranchRollback x id mode manager call)) s xid r e = none_some e
  begun_short (input.Message from (message.BranchRollbacked x id status stmt)) s xid r e = none_some e
  begun_short (input.Message from (message.GlobalCommit x)) s xid r e = none_some e
  begun_short (input.Message from (message.CommitStatus x status)) s xid r e = none_some e
  begun_short (input.Message from (message.GlobalRollback x)) s xid r e = none_some e
  begun_short (input.Message from (message.RollbackStatus x status)) s xid r e = none_some e
  begun_short (input.Message from (message.RegisterAnswer ticket x given)) s xid r e = none_some e
  begun_short (input.Message from (message.GlobalStatus x)) s xid r e = none_some e
  begun_short (input.Message from (message.StatusAnswer x status)) s xid r e = none_some e
  begun_short (input.Message from (message.LockQuery resource ticket check)) s xid r e = none_some e
  begun_short (input.Message from (message.LockAnswer ticket held)) s xid r e = none_some e
  begun_short (input.Message from (message.Call x manager resource call asked)) s xid r e = none_some e
  begun_short (input.Message from (message.Answer x call given)) s xid r e = none_some e

  granted_short : (given : Input) → ServesInput managers resources given → (xid : Xid) (b : BranchId) (r : SessionRecord) → granted_by xid b (Given given) ≡ Some r → IsShortOf managers resources r
  granted_short input.Turn s xid b r e = none_some e
  granted_short (input.Local number) s xid b r e = none_some e
  granted_short (input.Outside number) s xid b r e = none_some e
  granted_short (input.Message from (message.Begin manager timeout)) s xid b r e = none_some e
  granted_short (input.Message from (message.Register x resource call ticket mode hold check)) s xid b r e =
      as_this r (log.Granted xid b resource call ticket mode hold) e (record {
        keys = keys_fit x resource call ticket mode hold check s.framable;
        small = record_short x resource call ticket mode hold check xid b s.framable;
        within = record_within x resource call ticket mode hold check managers resources xid b s;
      })
  granted_short (input.Message from (message.Begun x)) s xid b r e = none_some e
  granted_short (input.Message from (message.BranchCommit x id mode manager call)) s xid b r e = none_some e
  granted_short (input.Message from (message.BranchCommitted x id status stmt)) s xid b r e = none_some e
  granted_short (input.Message from (message.BranchRollback x id mode manager call)) s xid b r e = none_some e
  granted_short (input.Message from (message.BranchRollbacked x id status stmt)) s xid b r e = none_some e
  granted_short (input.Message from (message.GlobalCommit x)) s xid b r e = none_some e
  granted_short (input.Message from (message.CommitStatus x status)) s xid b r e = none_some e
  granted_short (input.Message from (message.GlobalRollback x)) s xid b r e = none_some e
  granted_short (input.Message from (message.RollbackStatus x status)) s xid b r e = none_some e
  granted_short (input.Message from (message.RegisterAnswer ticket x given)) s xid b r e = none_some e
  granted_short (input.Message from (message.GlobalStatus x)) s xid b r e = none_some e
  granted_short (input.Message from (message.StatusAnswer x status)) s xid b r e = none_some e
  granted_short (input.Message from (message.LockQuery resource ticket check)) s xid b r e = none_some e
  granted_short (input.Message from (message.LockAnswer ticket held)) s xid b r e = none_some e
  granted_short (input.Message from (message.Call x manager resource call asked)) s xid b r e = none_some e
  granted_short (input.Message from (message.Answer x call given)) s xid b r e = none_some e

  short_by : (given : Input) → ServesInput managers resources given → (d : Durable) (r : SessionRecord) → session_record now (Given given) d ≡ Some r → IsShortOf managers resources r
  short_by given s (durable.Begun xid) r e = begun_short given s xid r e
  short_by given s (durable.Granted xid b) r e = granted_short given s xid b r e
  short_by given s (durable.Late xid) r e = as_this r (log.Decided xid how.Timeout) e (plain _ refl refl refl)
  short_by given s (durable.Decided xid decision) r e = as_this r (log.Decided xid decision) e (plain _ refl refl refl)
  short_by given s (durable.Ended xid b) r e = as_this r (log.Ended xid b) e (plain _ refl refl refl)
  short_by given s (durable.Retrying xid b) r e = as_this r (log.Retrying xid) e (plain _ refl refl refl)
  short_by given s (durable.Failed xid b stmt) r e = as_this r (log.Failed xid b stmt) e (plain _ refl refl refl)
  short_by given s (durable.Finished xid final) r e = as_this r (log.Finished xid) e (plain _ refl refl refl)
  short_by given s (durable.Forgot xid) r e = as_this r (log.Forgot xid) e (plain _ refl refl refl)
  short_by given s _ r e = none_some e

module _ {D : Type 0} (t : Table D) (now : ℕ) where
  pub is_made : (given : Input) → ServesInput (managers_of t.sessions) (resources_of t.sessions) given → (done : Act) (asked : Option SessionRecord)
      → IsRecorded (memory t) given now done asked → IfSome asked (IsMadeOn t)
  is_made given s done None recorded = tt
  is_made given s done (Some r) taken =
      let is = short_by (managers_of t.sessions) (resources_of t.sessions) now given s taken.durable r taken.asked in
      record { keys = is.keys; small = is.small; within = is.within; allowed = taken.may }

-- what is sent at an input that is no turn
pub sent_always : (given : Input) (step : Step) → IsNoTurn given → IsSentBy given step → (managers resources : ℕ) → IsSent managers resources given step
sent_always input.Turn step never out = absurd never
sent_always (input.Message from heard) step never out = out
sent_always (input.Local number) step never out = out
sent_always (input.Outside number) step never out = out

-- ---- the rows of a registration

module _ (from : Place) (x : Xid) (resource call : ℕ) (ticket : Ticket) (mode : BranchKind) (hold check : List RowKey) (now : ℕ) where
  abbrev asks : Input
  asks = input.Message from (message.Register x resource call ticket mode hold check)

  few : (q r : SessionRecord) → Some q ≡ Some r → length (taken_rows q) ≤ length hold → length (taken_rows r) ≤ length hold
  few q r e le = let same : q ≡ r = cc in subst (λ (z : SessionRecord). length (taken_rows z) ≤ length hold) same le

  few_by : (d : Durable) (r : SessionRecord) → session_record now (Given asks) d ≡ Some r → length (taken_rows r) ≤ length hold
  few_by (durable.Begun xid) r e = none_some e
  few_by (durable.Granted xid b) r e = few (log.Granted xid b resource call ticket mode hold) r e (omega arith)
  few_by (durable.Late xid) r e = few (log.Decided xid how.Timeout) r e (omega arith)
  few_by (durable.Decided xid decision) r e = few (log.Decided xid decision) r e (omega arith)
  few_by (durable.Ended xid b) r e = few (log.Ended xid b) r e (omega arith)
  few_by (durable.Retrying xid b) r e = few (log.Retrying xid) r e (omega arith)
  few_by (durable.Failed xid b stmt) r e = few (log.Failed xid b stmt) r e (omega arith)
  few_by (durable.Finished xid final) r e = few (log.Finished xid) r e (omega arith)
  few_by (durable.Forgot xid) r e = few (log.Forgot xid) r e (omega arith)
  few_by _ r e = none_some e

  -- its record takes the rows to hold at most
  pub few_rows : (s : Snapshot) (done : Act) (asked : Option SessionRecord) → IsRecorded s asks now done asked → length (asked_rows asked) ≤ length hold
  few_rows s done None recorded = omega arith
  few_rows s done (Some r) taken = few_by taken.durable r taken.asked

-- ---- what it costs

pub input_costs : {D : Type 0} (t : Table D) (given : Input) (now : ℕ) (done : Act) (asked : Option SessionRecord) (first middle last : ℕ) → IsRecorded (memory t) given now done asked
    → AnswersCost given (memory t) first middle → TakingCosts asked t middle last → InputCosts given (memory t) first last
input_costs t (input.Message from (message.Register x resource call ticket mode hold check)) now done asked first middle last recorded answers takes =
    both_costs (length hold) (length check) (length (asked_rows asked)) (held_rows (memory t)) first middle last (few_rows from x resource call ticket mode hold check now (memory t) done asked recorded) answers takes
input_costs t (input.Message from (message.Begin manager timeout)) now done asked first middle last recorded answers takes = tt
input_costs t (input.Message from (message.Begun xid)) now done asked first middle last recorded answers takes = tt
input_costs t (input.Message from (message.BranchCommit xid id mode manager call)) now done asked first middle last recorded answers takes = tt
input_costs t (input.Message from (message.BranchCommitted xid id status stmt)) now done asked first middle last recorded answers takes = tt
input_costs t (input.Message from (message.BranchRollback xid id mode manager call)) now done asked first middle last recorded answers takes = tt
input_costs t (input.Message from (message.BranchRollbacked xid id status stmt)) now done asked first middle last recorded answers takes = tt
input_costs t (input.Message from (message.GlobalCommit xid)) now done asked first middle last recorded answers takes = tt
input_costs t (input.Message from (message.CommitStatus xid status)) now done asked first middle last recorded answers takes = tt
input_costs t (input.Message from (message.GlobalRollback xid)) now done asked first middle last recorded answers takes = tt
input_costs t (input.Message from (message.RollbackStatus xid status)) now done asked first middle last recorded answers takes = tt
input_costs t (input.Message from (message.RegisterAnswer ticket xid given)) now done asked first middle last recorded answers takes = tt
input_costs t (input.Message from (message.GlobalStatus xid)) now done asked first middle last recorded answers takes = tt
input_costs t (input.Message from (message.StatusAnswer xid status)) now done asked first middle last recorded answers takes = tt
input_costs t (input.Message from (message.LockQuery resource ticket check)) now done asked first middle last recorded answers takes = tt
input_costs t (input.Message from (message.LockAnswer ticket held)) now done asked first middle last recorded answers takes = tt
input_costs t (input.Message from (message.Call xid manager resource call asks)) now done asked first middle last recorded answers takes = tt
input_costs t (input.Message from (message.Answer xid call given)) now done asked first middle last recorded answers takes = tt
input_costs t input.Turn now done asked first middle last recorded answers takes = tt
input_costs t (input.Local number) now done asked first middle last recorded answers takes = tt
input_costs t (input.Outside number) now done asked first middle last recorded answers takes = tt
