-- What becomes of a guarded local transaction is the rules', and the store takes its record.
use Rattle.std.proofs.Common.{◌≡◌, ◌∙◌, ◌==◌, ℕ, true, List, [], Option, Some, None, option_map, Result, Ok, refl, sym, ap, subst}
use Rattle.std.specs.Prelude.{IfSome}
use Rattle.disk_model.specs.Disk.{DiskState}
use Rattle.seata_types.specs.declared.acts.Act.TheVariants as act
use Rattle.seata_types.specs.declared.errors.StoreError.{StoreError}
use Rattle.seata_types.specs.declared.ids.Ticket.{Ticket}
use Rattle.seata_types.specs.declared.ids.Xid.{Xid}
use Rattle.seata_types.specs.declared.messages.Step.{Step}
use Rattle.seata_types.specs.declared.rows.RowKey.{RowKey}
use Rattle.durable_records.specs.declared.resources.ResourceRecord.{ResourceRecord}
use Rattle.durable_records.specs.declared.resources.ResourceRecord.TheVariants as log
use Rattle.local_txn.specs.OpenTickets.{Owner, OfCall, OfLocal, Open, open_at}
use Rattle.local_txn.specs.Answers.{open_of}
use Rattle.local_txn.specs.declared.transactions.OpenTxn.{OpenTxn}
use Rattle.local_txn.proofs.OpenLaws.{found_ticket}
use Rattle.history_rules.specs.Own.{still}
use Rattle.history_rules.specs.ResourceMemory.{Memory, Setup, local_committed_of, next_ticket, resource_asked}
use Rattle.history_rules.specs.ResourceRules as rules
use Rattle.history_rules.specs.ResourceRules.{resource_answer}
use Rattle.resource_rules.specs.Answers.{own_step}
use Rattle.resource_rules.specs.Locals.{lock_answered}
use Rattle.resource_rules.specs.Owned.{local_by, of_local}
use Rattle.resource_rules.specs.declared.answers.Answer.{Answer as Ruling}
use Rattle.resource_rules.proofs.Owners.{owner_none}
use Rattle.resource_store.specs.declared.store.Store.{Store}
use Rattle.resource_store.specs.Answers.{Answer, Gives, TakesRows}
use Rattle.resource_store.specs.Keeping.{IsTaken, known, setting_of}
use Rattle.resource_store.proofs.AnswerLaws.{gives_only, local_taken}
use Rattle.rule_calls.specs.Calls.{bare, memory_of, resource_of, told_of, viewed}
use Rattle.local_guard.specs.Locals.{Drops, Frees, MayCommit, MayCommitBy, answering, ended_by}

-- there is nothing, where there can't be something
pub none_found : {A : Type 0} (o : Option A) → ((a : A) → o ≡ Some a → ⊥) → o ≡ None
none_found None n = refl
none_found (Some a) n = absurd (n a refl)

-- what holds where there is something
pub of_some : {A : Type 0} (P : A → Type 0) (o : Option A) (a : A) → IfSome o P → o ≡ Some a → P a
of_some P (Some b) a h e = let same : b ≡ a = cc in subst P same h
of_some P None a h e = absurd cc

-- ---- the rules, once their answer is known

module _ (s : Setup) (m : Memory) (t : Ticket) (held : Option (RowKey × Xid)) where
  abbrev read : Step → Answer (Option ℕ)
  read step = record { told = ended_by step.act; made = resource_asked s m (own_step (answering t held) 0 step) }

  of_no_local : (o : Open) (w : Owner) → local_by o w ≡ None → still act.Ignored ≡ rules.lock_answer o w held
  of_no_local o (OfCall manager x c w) e = refl
  of_no_local o (OfLocal n) e = absurd cc

  no_local : (found : Option Open) → of_local found ≡ None → still act.Ignored ≡ rules.on_lock_answer s m.left.records m.opens (next_ticket m) found held
  no_local None e = refl
  no_local (Some o) e = of_no_local o o.owner e

module _ (opens : List Open) (t : Ticket) where
  -- ---- no guarded local transaction has the ticket open

  module _ (none : of_local (open_at opens t) ≡ None) where
    pub drops_none : Drops opens t None
    drops_none = λ s m key holder same.
        ap (λ (st : Step). ended_by st.act) (no_local s m t (Some (key, holder)) (open_at opens t) none
        ∙ ap (λ (os : List Open). rules.on_lock_answer s m.left.records m.opens (next_ticket m) (open_at os t) (Some (key, holder))) (sym same))

    pub frees_none : {D : Type 0} (state : D → DiskState) (s : Store D) → Frees state opens t (Ok None) s s
    frees_none state s = λ rs keeps.
        let is : Setup = resource_of bare (setting_of s) in
        subst (λ (a : Answer (Option ℕ)). Gives state a (Ok None) s s) (ap (read is (memory_of rs opens) t None) (no_local is (memory_of rs opens) t None (open_at opens t) none))
        (gives_only state s None)

  -- ---- one has it open

  module _ (txn : OpenTxn) (here : open_at opens t ≡ Some (open_of txn)) (none : (txn.xid.0 == 0) ≡ true) where
    owner : (open_of txn).owner ≡ OfLocal txn.call
    owner = owner_none txn.xid.0 txn.manager txn.call txn.work none

    answers : (s : Setup) (m : Memory) (held : Option (RowKey × Xid)) → m.opens ≡ opens
        → rules.lock_answer (open_of txn) (OfLocal txn.call) held ≡ resource_answer s m (answering t held)
    answers s m held same = sym (
        ap (λ (o : Option Open). rules.on_lock_answer s m.left.records m.opens (next_ticket m) o held) (ap (λ (os : List Open). open_at os t) same ∙ here)
        ∙ ap (λ (w : Owner). rules.lock_answer (open_of txn) w held) owner)

    pub drops : Drops opens t (Some txn.call)
    drops = λ s m key holder same. ap (λ (st : Step). ended_by st.act) (answers s m (Some (key, holder)) same)

    viewed_is : (s : Setup) (rs : List ResourceRecord) → viewed ended_by s (memory_of rs opens) (answering t None) ≡ told_of ended_by (lock_answered txn None)
    viewed_is s rs =
        ap (read s (memory_of rs opens) t None) (sym (answers s (memory_of rs opens) None refl))
        ∙ ap (λ (o : Option Open). record { told = Some txn.call; made = option_map (local_committed_of txn.call) o })
        (ap (open_at opens) (found_ticket opens t (open_of txn) here) ∙ here)

    module _ {D : Type 0} where
      pub frees : (state : D → DiskState) (old new : Store D) (result : Result (Option ℕ) StoreError) → Gives state (told_of ended_by (lock_answered txn None)) result old new → Frees state opens t result old new
      frees state old new result gives = λ rs keeps.
          subst (λ (a : Answer (Option ℕ)). Gives state a result old new) (sym (viewed_is (resource_of bare (setting_of old)) rs)) gives

      pub takes_rows : (s : Store D) → MayCommit (known s).tables (open_of txn) → TakesRows (known s).tables txn.images [] (log.LocalCommitted txn.call txn.images)
      takes_rows s may = subst (MayCommitBy (known s).tables (open_of txn)) owner may

-- its record is taken
pub local_takes : {D : Type 0} (s : Store D) (txn : OpenTxn) → TakesRows (known s).tables txn.images [] (log.LocalCommitted txn.call txn.images) → (a : Ruling) → a ≡ lock_answered txn None
    → IfSome a.asked (λ r. IsTaken r s)
local_takes s txn may a is = subst (λ (x : Ruling). IfSome x.asked (λ r. IsTaken r s)) (sym is) (local_taken s txn.call txn.images may)
