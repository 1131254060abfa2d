-- The second phase of AT branches: what stands in the undo log at a branch is what the records say, and so each answer is the rules'.
use Rattle.std.proofs.Common.{◌≡◌, ◌∙◌, ◌<◌, ◌^◌, ℕ, Bool, true, false, List, [], Option, Some, None, is_some, Result, Ok, Err, refl, sym, ap, ap₂, arith}
use Rattle.std.specs.Prelude.{IfOk}
use Rattle.seata_types.specs.declared.acts.Act.TheVariants as act
use Rattle.seata_types.specs.declared.acts.Durable.TheVariants as durable
use Rattle.seata_types.specs.declared.copies.NoMemory.{NoMemory}
use Rattle.seata_types.specs.declared.ids.Leg.{Leg}
use Rattle.seata_types.specs.declared.ids.Place.{Place}
use Rattle.seata_types.specs.declared.ids.Ticket.{Ticket}
use Rattle.seata_types.specs.declared.messages.Input.{Input}
use Rattle.seata_types.specs.declared.messages.Input.TheVariants as input
use Rattle.seata_types.specs.declared.messages.Message.TheVariants as message
use Rattle.seata_types.specs.declared.rows.Image.{Image}
use Rattle.seata_types.specs.declared.rows.RowKey.{RowKey}
use Rattle.seata_types.specs.declared.statuses.BranchKind.TheVariants as kind
use Rattle.seata_types.specs.declared.statuses.BranchStatus.TheVariants as branch
use Rattle.local_tables.specs.Rows.{Database}
use Rattle.durable_records.specs.declared.resources.ResourceRecord.TheVariants as log
use Rattle.durable_records.specs.ResourceOrder.{image_keys}
use Rattle.durable_records.specs.RowsKept.{tables}
use Rattle.durable_records.specs.UndoRecords.{Undo, undo_of, is_marked}
use Rattle.undo_log.specs.Entries.{entry_at}
use Rattle.undo_log.specs.declared.records.UndoEntry.{UndoEntry}
use Rattle.undo_log.specs.declared.records.UndoEntry.TheVariants as entry
use Rattle.undo_log.specs.declared.records.UndoRecord.{UndoRecord}
use Rattle.local_txn.specs.OpenTickets.{Open, busy_in}
use Rattle.local_txn.specs.Answers.{Tickets}
use Rattle.history_rules.specs.ResourceMemory.{Setup, Memory, opening_tables}
use Rattle.history_rules.specs.ResourceRules as rules
use Rattle.history_rules.specs.ResourceRules.{dirty_image, resource_answer, tells_committed, tells_rollbacked}
use Rattle.resource_memory.specs.Changes.{is_undo_record}
use Rattle.resource_memory.specs.Known.{Known}
use Rattle.resource_memory.specs.Lookups.{entry_by}
use Rattle.resource_memory.proofs.RecordLaws.{unmarked}
use Rattle.resource_rules.specs.Answers.{Answers, Shows, answer, answer_by}
use Rattle.resource_rules.specs.Apart.{RollsBack}
use Rattle.resource_rules.specs.Ends.{empty, undoing}
use Rattle.resource_rules.specs.declared.answers.Answer.{Answer}
use Rattle.resource_rules.specs.declared.answers.Change.TheVariants as change
use Rattle.resource_rules.specs.declared.setups.Setup.{Setup as TheSetup}
use Rattle.resource_rules.proofs.AnswerLaws.{rests, asks, cleared_placed, marked_placed, undone_placed}
use Rattle.resource_rules.proofs.ReadyLaws.{commit_told, rollback_told}
use Rattle.resource_rules.proofs.Seen.{entry_seen, opens_seen, tables_seen}

-- ---- an entry by the records

pub normal_by : (u : Option Undo) (marked : Bool) (r : UndoRecord) → entry_by u marked ≡ Some (entry.Normal r) → (v : Undo) × (u ≡ Some v) × (v.images ≡ r.images)
normal_by (Some v) marked r e = (v, refl, cc)
normal_by None true r e = absurd cc
normal_by None false r e = absurd cc

pub finished_by : (u : Option Undo) (marked : Bool) → entry_by u marked ≡ Some entry.Finished → (u ≡ None) × (marked ≡ true)
finished_by (Some v) marked e = absurd cc
finished_by None true e = (refl, refl)
finished_by None false e = absurd cc

pub none_by : (u : Option Undo) (marked : Bool) → entry_by u marked ≡ None → (u ≡ None) × (marked ≡ false)
none_by (Some v) marked e = absurd cc
none_by None true e = absurd cc
none_by None false e = (refl, refl)

-- ---- the answers

module _ (is : TheSetup) (k : Known) (ts : Tickets) (leg : Leg) where
  -- what stands at the branch, at a memory
  module _ (s : Setup) (m : Memory) (sh : Shows is k ts s m) where
    abbrev undo_at : Option Undo
    undo_at = undo_of m.left.records leg.xid.0 leg.branch.0

    abbrev marked_at : Bool
    marked_at = is_marked m.left.records leg.xid.0 leg.branch.0

    at : (o : Option UndoEntry) → entry_at k.undo_log leg ≡ o → entry_by undo_at marked_at ≡ o
    at o e = sym (entry_seen s m sh leg) ∙ e

    rolls : (v : Option Undo) (n : Bool) → undo_at ≡ v → marked_at ≡ n
        → rules.at_rollback (tables (opening_tables s) m.left.records) m.opens leg.xid.0 leg.branch.0 n v ≡ rules.at_rollback (tables (opening_tables s) m.left.records) m.opens leg.xid.0 leg.branch.0 marked_at undo_at
    rolls v n u marked = sym (ap₂ (rules.at_rollback (tables (opening_tables s) m.left.records) m.opens leg.xid.0 leg.branch.0) marked u)

    -- by the images of the undo record
    undoes : (r : UndoRecord) → entry_at k.undo_log leg ≡ Some (entry.Normal r) → rules.at_record k.tables leg.xid.0 leg.branch.0 r.images (busy_in ts.opens (image_keys r.images))
        ≡ rules.at_rollback (tables (opening_tables s) m.left.records) m.opens leg.xid.0 leg.branch.0 marked_at undo_at
    undoes r e =
        let found = normal_by undo_at marked_at r (at (Some (entry.Normal r)) e) in
        ap₂ (λ (db : Database) (os : List Open). rules.at_record db leg.xid.0 leg.branch.0 r.images (busy_in os (image_keys r.images))) (tables_seen s m sh) (opens_seen s m sh)
        ∙ ap (λ (is : List Image). rules.at_record (tables (opening_tables s) m.left.records) leg.xid.0 leg.branch.0 is (busy_in m.opens (image_keys is))) (sym found.2)
        ∙ rolls (Some found.0) false found.1 (unmarked (opening_tables s) m.left.records sh.allowed leg.xid.0 leg.branch.0 (ap is_some found.1))

  module _ (manager call : ℕ) (from : Place) where
    abbrev commit : Input
    commit = input.Message from (message.BranchCommit leg.xid leg.branch kind.At manager call)

    abbrev rollback : Input
    rollback = input.Message from (message.BranchRollback leg.xid leg.branch kind.At manager call)

    pub clears : (r : UndoRecord) → entry_at k.undo_log leg ≡ Some (entry.Normal r) → leg.xid.0 < 2 ^ 64 → leg.branch.0 < 2 ^ 64 → (a : Answer)
        → a ≡ answer (Some (log.Cleared leg.xid leg.branch)) (tells_committed leg.xid.0 leg.branch.0 branch.PhaseTwoCommitted 0 (act.Durable (durable.Cleared leg.xid leg.branch))) → Answers is k ts commit a
    clears r e x b a same =
        asks change.Stays (log.Cleared leg.xid leg.branch) tt (durable.Cleared leg.xid leg.branch) _
        (λ s m sh. sym (ap (rules.at_commit leg.xid.0 leg.branch.0) (normal_by (undo_at s m sh) (marked_at s m sh) r (at s m sh (Some (entry.Normal r)) e)).1))
        (λ s m sh. refl) (λ s m. refl) (λ n. refl) (record { allowed = ap is_undo_record e; runs = refl; placed = λ places. cleared_placed leg x b }) (λ ready served. (commit_told leg kind.At manager call branch.PhaseTwoCommitted 0 (omega arith) served, tt)) a same

    empties : ((s : Setup) (m : Memory) → Shows is k ts s m → undo_of m.left.records leg.xid.0 leg.branch.0 ≡ None) → (a : Answer) → a ≡ empty leg → Answers is k ts commit a
    empties none = rests change.Stays tt _ (λ s m sh. sym (ap (rules.at_commit leg.xid.0 leg.branch.0) (none s m sh))) (λ s m. refl) (λ s m now sh. refl)
        (λ ready served. (commit_told leg kind.At manager call branch.PhaseTwoCommitted 0 (omega arith) served, tt))

    pub marked_empty : entry_at k.undo_log leg ≡ Some entry.Finished → (a : Answer) → a ≡ empty leg → Answers is k ts commit a
    marked_empty e = empties (λ s m sh. (finished_by (undo_at s m sh) (marked_at s m sh) (at s m sh (Some entry.Finished) e)).0)

    pub none_empty : entry_at k.undo_log leg ≡ None → (a : Answer) → a ≡ empty leg → Answers is k ts commit a
    none_empty e = empties (λ s m sh. (none_by (undo_at s m sh) (marked_at s m sh) (at s m sh None e)).0)

    pub remarks : entry_at k.undo_log leg ≡ Some entry.Finished → (a : Answer)
        → a ≡ answer None (tells_rollbacked leg.xid.0 leg.branch.0 branch.PhaseTwoRollbacked 0 (act.Remarked leg.xid leg.branch)) → Answers is k ts rollback a
    remarks e = rests change.Stays tt _ (λ s m sh. let found = finished_by (undo_at s m sh) (marked_at s m sh) (at s m sh (Some entry.Finished) e) in rolls s m sh None true found.0 found.1) (λ s m. refl) (λ s m now sh. refl)
        (λ ready served. (rollback_told leg kind.At manager call branch.PhaseTwoRollbacked 0 (omega arith) served, tt))

    pub marks : entry_at k.undo_log leg ≡ None → leg.xid.0 < 2 ^ 64 → leg.branch.0 < 2 ^ 64 → (a : Answer)
        → a ≡ answer (Some (log.Marked leg.xid leg.branch)) (tells_rollbacked leg.xid.0 leg.branch.0 branch.PhaseTwoRollbacked 0 (act.Durable (durable.Marked leg.xid leg.branch))) → Answers is k ts rollback a
    marks e x b =
        asks change.Stays (log.Marked leg.xid leg.branch) tt (durable.Marked leg.xid leg.branch) _
        (λ s m sh. let found = none_by (undo_at s m sh) (marked_at s m sh) (at s m sh None e) in rolls s m sh None false found.0 found.1)
        (λ s m sh. refl) (λ s m. refl) (λ n. refl) (record { allowed = rw e refl; runs = refl; placed = λ places. marked_placed leg x b })
        (λ ready served. (rollback_told leg kind.At manager call branch.PhaseTwoRollbacked 0 (omega arith) served, tt))

    module _ (r : UndoRecord) (e : entry_at k.undo_log leg ≡ Some (entry.Normal r)) (x : leg.xid.0 < 2 ^ 64) (b : leg.branch.0 < 2 ^ 64) where
      looks : (dirty : Option Image) → dirty_image k.tables r.images ≡ dirty → busy_in ts.opens (image_keys r.images) ≡ None → (s : Setup) (m : Memory) → Shows is k ts s m
          → rules.at_undo k.tables leg.xid.0 leg.branch.0 dirty ≡ resource_answer s m rollback
      looks dirty is_dirty free s m sh =
          ap (rules.at_undo k.tables leg.xid.0 leg.branch.0) (sym is_dirty) ∙ ap (rules.at_record k.tables leg.xid.0 leg.branch.0 r.images) (sym free) ∙ undoes s m sh r e

      dirties : (dirty : Option Image) → dirty_image k.tables r.images ≡ dirty → busy_in ts.opens (image_keys r.images) ≡ None → (a : Answer)
          → a ≡ answer_by 0 [] [] (rules.at_undo k.tables leg.xid.0 leg.branch.0 dirty) → Answers is k ts rollback a
      dirties (Some i) is_dirty free = rests change.Stays tt _ (looks (Some i) is_dirty free) (λ s m. refl) (λ s m now sh. refl)
          (λ ready served. (rollback_told leg kind.At manager call branch.PhaseTwoRollbackFailedUnretryable 0 (omega arith) served, tt))
      dirties None is_dirty free = asks change.Stays (log.Undone leg.xid leg.branch) tt (durable.Undone leg.xid leg.branch) _ (looks None is_dirty free)
          (λ s m sh. refl) (λ s m. refl) (λ n. refl) (record { allowed = ap is_undo_record e; runs = refl; placed = λ places. undone_placed leg x b })
          (λ ready served. (rollback_told leg kind.At manager call branch.PhaseTwoRollbacked 0 (omega arith) served, tt))

      pub undone : (busy : Option (RowKey × Ticket)) → busy_in ts.opens (image_keys r.images) ≡ busy → (a : Answer) → a ≡ undoing k.tables leg r.images busy → Answers is k ts rollback a
      undone (Some (key, by)) is_busy = rests change.Stays tt _ (λ s m sh. ap (rules.at_record k.tables leg.xid.0 leg.branch.0 r.images) (sym is_busy) ∙ undoes s m sh r e) (λ s m. refl) (λ s m now sh. refl)
          (λ ready served. (rollback_told leg kind.At manager call branch.PhaseTwoRollbackFailedRetryable 0 (omega arith) served, tt))
      undone None free = dirties (dirty_image k.tables r.images) refl free

-- where there is memory for it
pub undone_ok : (k : Known) (opens : List Open) (leg : Leg) (r : UndoRecord) (db : Database) (images : List Image) (result : Result Answer NoMemory) → db ≡ k.tables → images ≡ r.images
    → entry_at k.undo_log leg ≡ Some (entry.Normal r) → leg.xid.0 < 2 ^ 64 → leg.branch.0 < 2 ^ 64
    → IfOk result (λ a. a ≡ undoing db leg images (busy_in opens (image_keys images))) → IfOk result (RollsBack k opens leg)
undone_ok k opens leg r db images (Ok a) same rows e x b given = λ is ts manager call at from.
    undone is k ts leg manager call from r e x b (busy_in ts.opens (image_keys r.images)) refl a
    (given ∙ ap₂ (λ (t : Database) (is : List Image). undoing t leg is (busy_in opens (image_keys is))) same rows ∙ ap (λ (os : List Open). undoing k.tables leg r.images (busy_in os (image_keys r.images))) (sym at))
undone_ok k opens leg r db images (Err n) same rows e x b given = tt
